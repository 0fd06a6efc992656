-- What is proved of a line over every list of calls from a fresh start, in the words of the onlooker (`specs/History.antt`).
-- Each proof is in `proofs/`. What each phase does is in `specs/Rules.antt`.
use Rattle.std.specs.Prelude.{ℕ, ◌+◌, ◌*◌, ◌≤◌, ◌<◌, ◌≡◌, List, [], ◌∷◌, ◌++◌, Bool, true, false, ◌⊎◌, ◌↔◌, ◌≢◌, length, take}
use Rattle.wire.specs.Bytes.{halves_of, pair_of}
use Rattle.wire.specs.Sum.{checksum_of}
use Rattle.line.specs.Codes.{ENQ, EOT, ACK, NAK, note_of}
use Rattle.settings.specs.Limits.{limits_of}
use Rattle.settings.specs.Theorems.{Fits}
use Rattle.line.specs.Line.{under_way, busy, byte_of, tick_of, drained_of, ask_of, withdraw_of, settle_of}
use Rattle.line.specs.Range.{line_in_range, LineFits}
use Rattle.line.specs.History.{Call, byte, settle, on_ask, comes, none, enquired, left, ours_at, theirs_at, begins, puts, Track, called, answered, next, history}
use Rattle.line.specs.declared.phase.Phase.{Phase}
use Rattle.line.specs.declared.phase.Phase.TheVariants.{Idle, WaitEot, Draining, WaitAck, WaitLength, Body, Silence}
use Rattle.line.specs.declared.phase.Fault.TheVariants.{Length, Sum}
use Rattle.line.specs.declared.step.Out.TheVariants.{Code, Block}
use Rattle.line.specs.declared.step.Told.{Told}
use Rattle.line.specs.declared.step.Told.TheVariants as told
use Rattle.line.specs.declared.step.Remark.{Remark}
use Rattle.line.specs.declared.step.Remark.TheVariants as remark
use Rattle.line.specs.declared.step.Step.{Step}
use Rattle.settings.specs.declared.limits.Limits.{Limits}
use Rattle.settings.specs.declared.limits.Panel.{Panel}
use Rattle.line.specs.declared.line.Line.{Line}

-- what any calls on a fresh line at limits c leave, with an array of 256 bytes beside it
pub record Reached (c : Limits) (t : Track) : Type 0 where
  pub received : List ℕ
  pub room : length received ≡ 256
  pub calls : List Call
  pub so : history c received calls ≡ t

-- a statement on all that can be reached
abbrev pub Always : (Limits → Track → Type 0) → Type 0
Always P = (c : Limits) (t : Track) → Reached c t → P c t

-- the onlooker is right: it knows from calls, output, what is told and what is remarked alone what the line waits for
pub record SeesRight (t : Track) : Type 0 where
  pub ours : t.seen.ours ≡ ours_at t.line.phase
  pub theirs : t.seen.theirs ≡ theirs_at t.line.phase

abbrev pub OnlookerRight : Type 0
OnlookerRight = Always (λ c t. SeesRight t)

-- ---- sending

-- demand 3: "(RTY + 1) x (2 x T2 + 1) ticks"
abbrev pub send_limit : Limits → ℕ
send_limit c = (c.rty + 1) * (2 * c.t2.0 + 1)

-- demand 3: "A block send is over, or on the host side gives way to the tool, by the time (RTY + 1) x (2 x T2 + 1) ticks were
-- spent waiting for EOT or ACK since its first ENQ; giving way starts that count anew." The onlooker's count is of ticks called,
-- whatever bytes came, and starts at a first ENQ alone: "no stray byte .. puts these limits off".
pub record SendWithin (c : Limits) (t : Track) : Type 0 where
  pub at_most : t.seen.waited ≤ send_limit c
  pub over_by_then : t.seen.waited ≡ send_limit c → t.seen.ours ≡ none

abbrev pub SendEnds : Type 0
SendEnds = Always SendWithin

-- the tries that a phase counts are one less than e
abbrev pub Counts : Phase → ℕ → Type 0
Counts Idle e = Unit {0}
Counts (WaitEot timer tries) e = tries + 1 ≡ e
Counts (Draining tries) e = tries + 1 ≡ e
Counts (WaitAck timer tries) e = tries + 1 ≡ e
Counts (WaitLength timer) e = Unit {0}
Counts (Body timer a) e = Unit {0}
Counts (Silence timer fault) e = Unit {0}

-- "From a block's first ENQ until it is sent, fails or gives way, tries equal the ENQs put out for it since its count started,
-- less one."
abbrev pub TriesAreEnqs : Type 0
TriesAreEnqs = Always (λ c t. Counts t.line.phase t.seen.enqs)

-- "EOT puts out the whole block": at the first attempt and at each further one
abbrev pub EachEnqItsBlock : Type 0
EachEnqItsBlock = Always (λ c t. t.seen.ours ≡ enquired → (k : Call) → comes EOT k ≡ true → (answered c t k).step.out ≡ Block)

-- "Waiting for ACK: ACK means sent"
abbrev pub AckMeansSent : Type 0
AckMeansSent = Always (λ c t. t.seen.ours ≡ left → (k : Call) → comes ACK k ≡ true → (answered c t k).step.told ≡ told.Sent)

-- What ends a send, and nothing else does: ACK while it is waited for; as many ENQs as RTY allows; at the slave, an ENQ while
-- EOT is waited for.
pub record EndsBy (c : Limits) (t : Track) (k : Call) : Type 0 where
  pub sent : (answered c t k).step.told ≡ told.Sent → (t.seen.ours ≡ left) × (comes ACK k ≡ true)
  pub failed : (answered c t k).step.told ≡ told.Failed → (next c t k).seen.enqs ≡ c.rty + 1
  pub gave_way : (answered c t k).step.remark ≡ remark.GaveWay → (c.master ≡ false) × (t.seen.ours ≡ enquired) × (comes ENQ k ≡ true)

abbrev pub SendEndsBy : Type 0
SendEndsBy = Always (λ c t. (k : Call) → EndsBy c t k)

-- ---- what a step can tell, whatever line it finds

-- this is told, and nothing remarked
pub record TellsOnly (s : Step) (t : Told) : Type 0 where
  pub told : s.told ≡ t
  pub remark : s.remark ≡ remark.Nothing

-- The whole block leaves alone: in the step that puts it out just that is told, and nothing remarked; and it is told in no other step. By
-- settling nothing is told or remarked.
pub record QuietAt (c : Limits) (l : Line) (rs : List ℕ) : Type 0 where
  pub block : (k : Call) → (called c l rs k).step.out ≡ Block → TellsOnly (called c l rs k).step told.PutOut
  pub only_then : (k : Call) → (called c l rs k).step.told ≡ told.PutOut → (called c l rs k).step.out ≡ Block
  pub settled : TellsOnly (settle_of l) told.Nothing

abbrev pub BlockAlone : Type 0
BlockAlone = (c : Limits) (l : Line) (rs : List ℕ) → QuietAt c l rs

-- No block is put out at a tick, none is sent, none goes up and none gives way: EOT, ACK, the last byte of a block and ENQ are bytes.
pub record AtTick (s : Step) : Type 0 where
  pub not_out : s.told ≢ told.PutOut
  pub not_sent : s.told ≢ told.Sent
  pub not_up : (n : ℕ) → s.told ≢ told.Up n
  pub no_way : s.remark ≢ remark.GaveWay

abbrev pub TicksTell : Type 0
TicksTell = (c : Limits) (l : Line) → AtTick (tick_of c l)

-- ---- busy: a block of ours is under way, or held

-- by what a step tells, busy before it and after: what ends a send ends that, and nothing else does
abbrev pub Turns : Told → Bool → Bool → Type 0
Turns told.Nothing before after = before ≡ after
Turns told.PutOut before after = (before ≡ true) × (after ≡ true)
Turns told.Sent before after = (before ≡ true) × (after ≡ false)
Turns told.Failed before after = (before ≡ true) × (after ≡ false)
Turns (told.Up n) before after = before ≡ after

pub record BusyBy (l : Line) (s : Step) : Type 0 where
  pub turns : Turns s.told (busy l) (busy s.line)
  -- the whole block is put out while it is under way
  pub block : s.out ≡ Block → busy l ≡ true

-- a byte and a tick
pub record BusySteps (c : Limits) (l : Line) : Type 0 where
  pub byte : (b : ℕ) (rs : List ℕ) → BusyBy l (byte_of c l b rs).step
  pub tick : BusyBy l (tick_of c l)

abbrev pub BusyTurns : Type 0
BusyTurns = Always (λ c t. BusySteps c t.line)

-- the steps that tell nothing, whatever line they find
pub record BusyStills (l : Line) : Type 0 where
  pub drained : busy l ≡ busy (drained_of l)
  pub ask : busy (ask_of l) ≡ true
  -- a held block that goes out is under way
  pub settle : busy l ≡ busy (settle_of l).line
  -- a held block is held no more; what is under way goes on
  pub withdraw : busy (withdraw_of l) ≡ under_way l.phase
  pub nothing_to_withdraw : busy l ≡ false → withdraw_of l ≡ l

abbrev pub BusyStill : Type 0
BusyStill = (l : Line) → BusyStills l

-- ---- receiving

-- "T2 + b x T1 + 1"
abbrev pub receive_limit : Limits → ℕ → ℕ
receive_limit c b = c.t2.0 + b * c.t1.0 + 1

-- "A receive in which b bytes came ends by tick T2 + b x T1 + 1."
pub record ReceiveWithin (c : Limits) (t : Track) : Type 0 where
  pub at_most : t.seen.took ≤ receive_limit c (length t.seen.bytes)
  pub over_by_then : t.seen.took ≡ receive_limit c (length t.seen.bytes) → t.seen.theirs ≡ false

abbrev pub ReceiveEnds : Type 0
ReceiveEnds = Always ReceiveWithin

-- how long a sender may be silent: T2 before the length byte, T1 after it
abbrev pub patience : Limits → List ℕ → ℕ
patience c [] = c.t2.0
patience c (b ∷ bs) = c.t1.0

-- NAK leaves on the tick that exceeds the limit, after the last byte: no sooner, and no later
pub record NakWhenSilent (c : Limits) (t : Track) : Type 0 where
  -- no byte is answered by it: the sender may still be talking
  pub to_no_byte : (b : ℕ) (fits : b < 256) → puts NAK (answered c t (byte b fits)).step.out ≡ false
  pub no_sooner : (k : Call) → puts NAK (answered c t k).step.out ≡ true → (next c t k).seen.silent ≡ patience c (next c t k).seen.bytes + 1
  pub no_later : t.seen.theirs ≡ true → t.seen.silent ≤ patience c t.seen.bytes

abbrev pub NakInTime : Type 0
NakInTime = Always NakWhenSilent

-- Why, by the bytes since our EOT: "and with a NAK 28 no length in T2, 29 gap in body, 30 bad length, 31 bad sum"
pub data NakFor (bytes : List ℕ) : Remark → Type 0 where
  -- none came
  no_length : bytes ≡ [] → NakFor bytes remark.NoLength
  -- a length came, and not yet the N bytes and their sum
  gap : (n : ℕ) (after : List ℕ) → bytes ≡ n ∷ after → 10 ≤ n → n ≤ 254 → length after < n + 2 → NakFor bytes remark.Gap
  -- what came first is no length
  bad_length : (n : ℕ) (after : List ℕ) → bytes ≡ n ∷ after → (10 ≤ n → n ≤ 254 → ⊥) → NakFor bytes (remark.Bad Length)
  -- the N bytes came, and two that are not their sum; whatever came behind them
  bad_sum : (n : ℕ) (body : List ℕ) (high low : ℕ) (rest : List ℕ) → bytes ≡ n ∷ (body ++ (high ∷ low ∷ rest)) → 10 ≤ n → n ≤ 254 → length body ≡ n
      → pair_of high low ≢ checksum_of body → NakFor bytes (remark.Bad (Sum (pair_of high low) (checksum_of body)))

-- a NAK is remarked with its reason, and nothing else with one
pub record NakSays (c : Limits) (t : Track) (k : Call) : Type 0 where
  pub why : puts NAK (answered c t k).step.out ≡ true → NakFor t.seen.bytes (answered c t k).step.remark
  pub else_none : puts NAK (answered c t k).step.out ≡ false → note_of (answered c t k).step.remark ≡ 20

abbrev pub NakReasons : Type 0
NakReasons = Always (λ c t. (k : Call) → NakSays c t k)

-- the bytes since our EOT are a block on the line: "length N (10 to 254), N bytes, then the 16-bit sum of those N bytes, high
-- byte first"
pub record IsBlock (n : ℕ) (body bytes : List ℕ) : Type 0 where
  pub not_short : 10 ≤ n
  pub not_long : n ≤ 254
  pub counted : length body ≡ n
  pub came : bytes ≡ n ∷ (body ++ halves_of (checksum_of body))

-- what goes up is what came, is in the array, and is acknowledged in that call
pub record Rises (c : Limits) (t : Track) (k : Call) (n : ℕ) : Type 0 where
  pub whole : IsBlock n (take n (next c t k).received) (next c t k).seen.bytes
  pub acknowledged : (answered c t k).step.out ≡ Code ACK

abbrev pub UpIsWhatCame : Type 0
UpIsWhatCame = Always (λ c t. (k : Call) (n : ℕ) → (answered c t k).step.told ≡ told.Up n → Rises c t k n)

-- "Equal sums: ACK, and the block goes up": every block that came whole does
abbrev pub WholeGoesUp : Type 0
WholeGoesUp =
    Always (λ c t. t.seen.theirs ≡ true → (b : ℕ) (fits : b < 256) (n : ℕ) (body : List ℕ) → IsBlock n body (t.seen.bytes ++ (b ∷ [])) → (answered c t (byte b fits)).step.told ≡ told.Up n)

-- ---- a held block

abbrev pub asks : Call → Bool
asks k = on_ask k true false false

-- "A held block (one that gave way, or was asked for while the line was receiving)"
pub record HeldWhen (c : Limits) (t : Track) : Type 0 where
  -- the last step of a call leaves none but while the line is receiving
  pub receiving : (next c t settle).line.held ≡ true → (next c t settle).seen.theirs ≡ true
  -- none while a block of ours is under way
  pub not_sending : t.line.held ≡ true → t.seen.ours ≡ none
  -- so any other step finds one while the line is receiving, or ended the receive itself
  pub till_the_end :
      (t.line.held ≡ true → t.seen.theirs ≡ true) → (k : Call) → asks k ≡ false → (next c t k).line.held ≡ true
      → (t.seen.theirs ≡ true) ⊎ ((next c t k).seen.theirs ≡ true)

-- What is held is what is owed: a block that was asked for, or that gave way, and has had no ENQ since and was not withdrawn. No other is sent, and
-- none is forgotten: after the last step of a call one is owed only while the line is receiving.
pub record SendsAsked (c : Limits) (t : Track) : Type 0 where
  pub held : t.line.held ≡ t.seen.owed
  pub not_unasked : (k : Call) → begins t.seen.ours (answered c t k).step.out ≡ true → t.seen.owed ≡ true
  pub not_forgotten : (next c t settle).seen.owed ≡ true → (next c t settle).seen.theirs ≡ true

abbrev pub SendsWhatIsAsked : Type 0
SendsWhatIsAsked = Always SendsAsked

abbrev pub HeldWhileReceiving : Type 0
HeldWhileReceiving = Always HeldWhen

-- ---- ranges

-- the test of the ranges asks for those of docs/STATE.md, and no more
abbrev pub RangeExactly : Type 0
RangeExactly = (l : Line) → line_in_range l ≡ true ↔ LineFits l

-- the part of refusal 3 that is the line's: at settings of 01's ranges, no state that is reached has a number outside
-- docs/STATE.md
abbrev pub ReachedInRange : Type 0
ReachedInRange = (p : Panel) → Fits p → (t : Track) → Reached (limits_of p) t → line_in_range t.line ≡ true
