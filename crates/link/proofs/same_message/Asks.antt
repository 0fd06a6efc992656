-- A request that the transactions take: its message lies in the send area, and its first block is asked for at once. Assumes nothing.
use Rattle.std.specs.Prelude.{Ok}
use Prim.Native.Nat.{ℕ, ◌≤◌}
use mathlib.Core.Path.{◌≡◌, refl, sym, ap, subst, ◌∙◌}
use mathlib.Core.Bool.{true, false}
use mathlib.Core.List.{List, [], ◌∷◌}
use native.Mathlib.Omega.{arith}
use lib.ListN.{length}
use Rattle.wire.specs.Message.{message_limit}
use Rattle.room.specs.Room.{kept_in, front}
use Rattle.room.specs.Theorems.{Lies}
use Rattle.room.specs.declared.Message.TheVariants.{Send}
use Rattle.room.proofs.Keeping.{keeps_only}
use Rattle.room.proofs.Reading.{front_read, kept_is_read}
use Rattle.line.specs.Codes.{ENQ}
use Rattle.line.specs.Line.{line_at, holding, settle_idle}
use Rattle.line.specs.declared.phase.Phase.TheVariants.{Idle, WaitEot}
use Rattle.line.specs.declared.step.Out.TheVariants as out
use Rattle.line.specs.declared.step.Told.TheVariants as told
use Rattle.exchange.specs.Request.{Requesting, Request, answer_of, lends}
use Rattle.exchange.specs.Reports.{same_message}
use Rattle.exchange.specs.BeingSent.{Starts}
use Rattle.exchange.specs.declared.Exchange.{Exchange}
use Rattle.exchange.proofs.BeingSent.{request_sends}
use Rattle.link.specs.Courier.{carried, courier_by}
use Rattle.link.specs.Run.{Left, untold, course}
use Rattle.link.specs.Call.{requested_by, lent_call, request_call}
use Rattle.link.specs.SameMessage.{end_of, said_by}
use Rattle.link.specs.declared.Settings.{Settings}
use Rattle.link.specs.declared.Link.{Link}
use Rattle.link.specs.declared.Outcome.{Outcome}
use Rattle.link.specs.declared.Outcome.TheVariants.{Done, Taken, Refused}
use Rattle.link.specs.declared.Note.TheVariants as note
use Rattle.link.proofs.Cases.{answering, by_request}
use Rattle.link.proofs.same_message.Calls.{said, course_said, unit, Sound, goes_through}
use Rattle.exchange.specs.Asked.{Asked}

-- ---- the unit

-- what a call was accepted for
abbrev place_of : Outcome → ℕ
place_of Done = 0
place_of (Taken p) = p
place_of (Refused r) = 0

abbrev IsTaken : Outcome → Type 0
IsTaken Done = ⊥
IsTaken (Taken p) = Unit {0}
IsTaken (Refused r) = ⊥

-- what the unit takes, its transactions took
pub taken_inside : (u : Link) (r : Request) (room o : List ℕ) (p : ℕ) → (request_call u r room o).answer.outcome ≡ Taken p
    → (answering u r room).answer.asked ≡ Ok p
taken_inside u r room o p =
    by_request u r room o (λ (l : Left). l.answer.outcome ≡ Taken p → (answering u r room).answer.asked ≡ Ok p)
    (λ n e z. absurd (not_refused z)) (λ k e l z. e ∙ ap Ok (ap place_of z)) (λ k e l z. e ∙ ap Ok (ap place_of z)) (λ n z. absurd (not_refused z))
  where
    not_refused : {k : Outcome} → k ≡ Taken p → IsTaken k
    not_refused e = subst IsTaken (sym e) tt

module _ (s : Settings) (x : Exchange) (k : ℕ) (room rs o : List ℕ) (long : 257 ≤ length o) (g : Sound s x k room)
    (r : Request) (lent : lends r ≡ true) (p : ℕ) (taken : (answer_of s.terms x r room).answer.asked ≡ Ok p) where
  abbrev answer : Requesting
  answer = answer_of s.terms x r room

  begins : Starts x answer.answer.exchange
  begins = (request_sends s.terms x r room).starts p taken lent

  -- the message begins, and the line has made no step
  takes_its_course : lent_call (unit s Idle rs x k) r room o
      ≡ course (unit s Idle rs x k) out.Nothing told.Nothing (untold answer.answer.exchange note.Nothing) (Taken p) answer.room o
  takes_its_course =
      goes_through s x k room o long g Idle rs _ refl
      ∙ ap (λ (a : Asked). requested_by a (unit s Idle rs x k) answer.answer.exchange answer.room o) taken

  -- ENQ leaves in the same call, for block 1
  pub asked_said : said_by (lent_call (unit s Idle rs x k) r room o)
      ≡ said (end_of (unit s (WaitEot 0 0) rs answer.answer.exchange 1) answer.room) (ENQ ∷ [])
  unfolding holding settle_idle
  asked_said =
      ap said_by takes_its_course
      ∙ course_said (unit s Idle rs x k) out.Nothing told.Nothing (untold answer.answer.exchange note.Nothing) (Taken p) answer.room o (carried (line_at true Idle) 1)
      (λ i. courier_by (same_message x.sending answer.answer.exchange.sending) (begins.before i) (begins.after i) told.Nothing (line_at false Idle) k)

-- ---- the send area

module _ (room d : List ℕ) (whole : length room ≡ 36864) (short : length d ≤ message_limit) where
  lying : (l : List ℕ) → length l ≡ 36864 → Lies l Send 0 (length d)
  lying l w = record { whole = w; place = omega arith; within = omega arith }

  -- it begins with the message
  pub send_starts : front (kept_in room Send 0 d) Send (length d) ≡ d
  send_starts =
      sym (front_read (kept_in room Send 0 d) Send (length d) (lying (kept_in room Send 0 d) ((keeps_only room Send 0 d).size ∙ whole)))
      ∙ kept_is_read room Send 0 d (lying room whole)
