-- Note and flags of a call are those of what the transactions make of the device's step, and of the tick behind it; and a refused call
-- has none. Assumes nothing.
use Prim.Native.Nat.{ℕ}
use mathlib.Core.Path.{◌≡◌, refl, ap, ◌∙◌}
use mathlib.Core.Bool.{Bool, true, false, cond}
use mathlib.Core.List.{List, [], ◌∷◌}
use Rattle.line.specs.Line.{Heard}
use Rattle.line.specs.declared.step.Told.{Told}
use Rattle.line.specs.declared.step.Told.TheVariants as told
use Rattle.line.specs.declared.step.Remark.{Remark}
use Rattle.exchange.specs.Flags.{no_flags}
use Rattle.exchange.specs.Send.{put_out_of, sent_of, failed_of}
use Rattle.exchange.specs.Judge.{judge_of}
use Rattle.exchange.specs.History as exchange
use Rattle.link.specs.Answer.{accepted, note_by}
use Rattle.link.specs.Run.{Left, has_next, untold, changed_to, judged_as, passing, hears, hearing, stepped, byte_stepped}
use Rattle.link.specs.Call.{gated}
use Rattle.link.specs.History.{Call, byte, tick, drained, request, called, Made, step_in, told_on, heard_by, lent_room, Track, answered}
use Rattle.link.specs.Verdicts.{Accepted}
use Rattle.link.specs.Moves.{Refused}
use Rattle.link.specs.declared.Midway.{Midway}
use Rattle.link.specs.declared.Note.{Note}
use Rattle.link.specs.declared.Note.TheVariants as note
use Rattle.link.specs.declared.Link.{Link}
use Rattle.link.proofs.Cases.{by_gate, by_byte, by_put_out, by_sent, by_request}
use Rattle.link.proofs.Steps.{at_byte, at_tick, at_drained}

-- ---- the device's step

-- what the transactions make of it, by what they are told; n is the note of what the line remarks
pub data Said (u : Link) (room : List ℕ) (n : Note) : List exchange.Call → Midway → Type 0 where
  silent : Said u room n [] (untold u.exchange n)
  judged : (h d : List ℕ) → Said u room n (exchange.block h d ∷ []) (judged_as (judge_of u.settings.terms u.exchange h d room).answer)
  put_out : Said u room n (exchange.put_out ∷ []) (untold (put_out_of u.exchange) n)
  sent : Said u room n (exchange.acknowledged ∷ []) (changed_to (sent_of u.exchange) n)
  failed : Said u room n (exchange.failed ∷ []) (changed_to (failed_of u.exchange) n)

heard_said : (u : Link) (h : Heard) (room : List ℕ) (e : Told) (r : Remark) → Said u room (note_by r) (told_on e (has_next u) h.received) (hearing e r (hears u h) room).midway
heard_said u h room told.Nothing r = silent
heard_said u h room told.PutOut r =
    by_put_out (λ z x. Said u room (note_by r) (told_on told.PutOut z h.received) (untold x (note_by r))) (has_next u) u.exchange (λ e. silent) (λ e. put_out)
heard_said u h room told.Sent r =
    by_sent (λ z m. Said u room (note_by r) (told_on told.Sent z h.received) m) (has_next u) u.exchange (note_by r) (λ e. silent) (λ e. sent)
heard_said u h room told.Failed r = failed
heard_said u h room (told.Up n) r = judged _ _

abbrev pub remark_note : Link → Call → Note
remark_note u k = note_by (step_in u k).step.remark

pub step_said : (u : Link) (room : List ℕ) (k : Call)
    → Said u room (remark_note u k) (told_on (step_in u k).step.told (has_next u) (step_in u k).received) (heard_by u (step_in u k) room).midway
step_said u room k = heard_said u (step_in u k) room (step_in u k).step.told (step_in u k).step.remark

-- ---- a call that is not refused

abbrev pub ticks : Call → Bool
ticks (byte b fits) = false
ticks tick = true
ticks drained = false
ticks (request r) = false

abbrev pub said_in : Link → List ℕ → Call → Midway
said_in u room k = passing (ticks k) u.settings.terms (heard_by u (step_in u k) room).midway

-- note and flags are these, unless it is refused
abbrev Says : Midway → Left → Type 0
Says m l =
    (l.answer.note ≡ cond (accepted l.answer.outcome) m.note note.Nothing) × (l.answer.flags ≡ cond (accepted l.answer.outcome) m.flags no_flags)

module _ (u : Link) (room o : List ℕ) where
  shut_says : (k : Call) (l : Left) → Says (said_in u room k) l → Says (said_in u room k) (gated u room o l)
  shut_says k l w = by_gate (Says (said_in u room k)) u room o l (λ r e. (refl, refl)) (λ e. w)

  said : (k : Call) → Says (said_in u room k) (called u room o k)
  said (byte b fits) =
      let h = step_in u (byte b fits) in
      shut_says (byte b fits) _
      (at_byte (λ s. Says (said_in u room (byte b fits)) (byte_stepped u s room o)) u b fits
      (by_byte (λ p l. Says (said_in u room (byte b fits)) l) u h room o (λ e. (refl, refl)) (λ c e. (refl, refl)) (λ e. (refl, refl))))
  said tick = shut_says tick _ (at_tick (λ s. Says (said_in u room tick) (stepped true u s room o)) u (refl, refl))
  said drained = shut_says drained _ (at_drained (λ s. Says (said_in u room drained) (stepped false u s room o)) u (refl, refl))
  said (request r) =
      by_request u r room o (Says (said_in u room (request r))) (λ n e. (refl, refl)) (λ p e l. (refl, refl)) (λ p e l. (refl, refl)) (λ n. (refl, refl))

-- ---- any call

module _ (t : Track) (m : Made) where
  abbrev room : List ℕ
  room = lent_room m.room t.room

  abbrev pub said_by : Midway
  said_by = said_in t.link room m.call

  pub accepted_says : Accepted t m → ((answered t m).answer.note ≡ said_by.note) × ((answered t m).answer.flags ≡ said_by.flags)
  accepted_says a =
      let s = said t.link room m.out m.call in
      (s.0 ∙ ap (λ z. cond z said_by.note note.Nothing) a, s.1 ∙ ap (λ z. cond z said_by.flags no_flags) a)

  pub refused_says : Refused t m → ((answered t m).answer.note ≡ note.Nothing) × ((answered t m).answer.flags ≡ no_flags)
  refused_says r =
      let s = said t.link room m.out m.call in
      (s.0 ∙ ap (λ z. cond z said_by.note note.Nothing) r, s.1 ∙ ap (λ z. cond z said_by.flags no_flags) r)
