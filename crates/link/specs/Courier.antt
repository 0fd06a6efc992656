-- The courier between the transactions and the line: what is being sent before a call and after it is compared, and the line is asked for
-- a block, for the next one, or has one withdrawn (01, "The line", "Messages"). It goes by the change and by what was told, not by the
-- state: where nothing changes and nothing is told, it leaves all as it is. What it is for is `CourierAgrees` (specs/Inside.antt).
use Rattle.std.specs.Prelude.{ℕ, ◌+◌, Bool, true, false, List}
use Rattle.line.specs.Line.{ask_of, withdraw_of}
use Rattle.line.specs.declared.line.Line.{Line}
use Rattle.line.specs.declared.step.Told.{Told}
use Rattle.line.specs.declared.step.Told.TheVariants as told
use Rattle.exchange.specs.Reports.{same_message}
use Rattle.exchange.specs.Request.{sending_by}
use Rattle.exchange.specs.declared.Sending.{Sending}
use Rattle.link.specs.declared.Carried.{Carried}

abbrev pub carried : Line → ℕ → Carried
carried l k = record { line = l; block = k }

-- a message that goes on: "ACK means sent; the message's next block goes out with ENQ in the same call."
abbrev pub goes_on : Told → Line → ℕ → Carried
goes_on told.Nothing l k = carried l k
goes_on told.PutOut l k = carried l k
goes_on told.Sent l k = carried (ask_of l) (k + 1)
goes_on told.Failed l k = carried l k
goes_on (told.Up n) l k = carried l k

-- a message that began: it is asked for from its first block ("numbers start at 1")
abbrev pub begins : Line → Carried
begins l = carried (ask_of l) 1

-- by whether the message is the same as before, whether one was being sent before, and whether one is now: another one is asked for from
-- its first block, also a report that starts as a message ends (02, request 2); one that is gone is withdrawn from the line, and no block is
-- on its way: so is one that was proved received by its reply (02, request 1)
abbrev pub courier_by : Bool → Bool → Bool → Told → Line → ℕ → Carried
courier_by same false false t l k = carried l k
courier_by same false true t l k = begins l
courier_by same true false t l k = carried (withdraw_of l) 1
courier_by true true true t l k = goes_on t l k
courier_by false true true t l k = begins l

-- The room is lent to the courier; none of its bytes counts.
abbrev pub courier_of : Sending → Sending → Told → Line → ℕ → List ℕ → Carried
courier_of before after t l k room = courier_by (same_message before after) (sending_by before) (sending_by after) t l k
