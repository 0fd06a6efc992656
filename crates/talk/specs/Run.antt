-- The calls of a line (01, "Bench program and proved table").
use Rattle.std.specs.Prelude.{ℕ, zero, suc, ◌+◌, List, [], ◌∷◌, ◌++◌, take, drop}
use Rattle.link.specs.Answer.{outcome_number, note_number}
use Rattle.link.specs.Run.{Left}
use Rattle.link.specs.Call.{byte_call, tick_call}
use Rattle.link.specs.declared.Answer.{Answer}
use Rattle.link.specs.declared.Link.{Link}
use Rattle.talk.specs.declared.Ran.{Ran}

-- what the calls of a line came to, and every byte of the room and of the memory that they put their output in
pub record Running : Type 0 where
  pub ran : Ran
  pub room : List ℕ
  pub out : List ℕ

abbrev pub running : Ran → List ℕ → List ℕ → Running
running ran room out = record { ran = ran; room = room; out = out }

-- before the first call: "a zero count prints `0 - 20`"
abbrev pub nothing_ran : Link → Ran
nothing_ran u = record { link = u; number = 0; note = 20; count = 0 }

-- after one call more: "outputs joined, last call's number and note"
abbrev pub joined_ran : ℕ → Answer → Ran
joined_ran before a = record {
  link = a.link;
  number = outcome_number a.outcome;
  note = note_number a.note;
  count = before + a.count;
}

-- each call is lent what lies behind the output of those before it
abbrev pub joins : ℕ → List ℕ → Left → Running
joins before out l = running (joined_ran before l.answer) l.room (take before out ++ l.out)

abbrev pub byte_run : Running → ℕ → Running
byte_run s b = joins s.ran.count s.out (byte_call s.ran.link b s.room (drop s.ran.count s.out))

abbrev pub tick_run : Running → Running
tick_run s = joins s.ran.count s.out (tick_call s.ran.link s.room (drop s.ran.count s.out))

-- "`B` .. make many calls"
unfoldable pub bytes_run : Running → List ℕ → Running
bytes_run s [] = s
bytes_run s (b ∷ bs) = bytes_run (byte_run s b) bs

-- "`T` .. make many calls"
unfoldable pub ticks_run : Running → ℕ → Running
ticks_run s zero = s
ticks_run s (suc n) = ticks_run (tick_run s) n
