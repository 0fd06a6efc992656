-- What leaves in a call is what the calls of the line put out that it makes (`specs/Door.antt`). Assumes nothing.
use Rattle.std.specs.Prelude.{Ok}
use Prim.Native.Nat.{ℕ, ◌<◌}
use mathlib.Core.Path.{◌≡◌, refl, sym, ap, ◌∙◌}
use mathlib.Core.List.{List, [], ◌∷◌, ◌++◌, append-nil}
use mathlib.Core.Bool.{Bool, true, false, cond, false≢true}
use lib.ListN.{length, take, drop}
use lib.Seq.{take_at}
use Rattle.wire.specs.Lent.{on_front}
use Rattle.settings.specs.declared.limits.Limits.{Limits}
use Rattle.line.specs.Codes.{bytes_out}
use Rattle.line.specs.Line.{Heard, ask_of, withdraw_of, settle_of}
use Rattle.line.specs.History as line
use Rattle.line.proofs.Cases.{ByTick, by_tick, by_settle}
use Rattle.line.specs.declared.phase.Phase.{Phase}
use Rattle.line.specs.declared.phase.Phase.TheVariants.{Idle, WaitEot, Draining, WaitAck, WaitLength, Body, Silence}
use Rattle.line.specs.declared.step.Out.{Out}
use Rattle.line.specs.declared.step.Out.TheVariants as out
use Rattle.line.specs.declared.step.Told.{Told}
use Rattle.line.specs.declared.step.Told.TheVariants as told
use Rattle.line.specs.declared.step.Step.{Step}
use Rattle.line.specs.declared.line.Line.{Line}
use Rattle.exchange.specs.Reports.{same_message}
use Rattle.exchange.specs.Request.{Request, lends, is_sending}
use Rattle.link.specs.Courier.{courier_by}
use Rattle.link.specs.Run.{Left, untold, carried_by, codes, course, block_bytes, hears, passing, stepped, byte_stepped}
use Rattle.link.specs.Call.{gated, requested_by}
use Rattle.link.specs.History.{Call, byte, tick, drained, request, called, unless_refused, step_in, heard_by, couriers, settling, settles, couriers_in, on_line}
use Rattle.link.specs.Door.{bytes_left, line_bytes, LeavesByLine}
use Rattle.link.specs.declared.Outcome.{Outcome}
use Rattle.link.specs.declared.Outcome.TheVariants as outcome
use Rattle.link.specs.declared.Note.TheVariants as note
use Rattle.link.specs.declared.Midway.{Midway}
use Rattle.link.specs.declared.Link.{Link}
use Rattle.link.proofs.Cases.{by_gate, by_byte, by_request, answering}
use Rattle.link.proofs.Steps.{at_byte, at_tick, at_drained}
use Rattle.link.proofs.inside.Courier.{by_courier}

-- ---- the line's part

-- a step that puts out no block
abbrev NoBlock : List ℕ → Step → Type 0
NoBlock block s = bytes_out block s.out ≡ bytes_out [] s.out

-- on a tick none goes out
tick_codes : (block : List ℕ) (c : Limits) (h : Bool) (p : Phase) → ByTick (NoBlock block) c h p
tick_codes block c h Idle = refl
tick_codes block c h (WaitEot timer tries) = (refl, refl, refl)
tick_codes block c h (Draining tries) = refl
tick_codes block c h (WaitAck timer tries) = (refl, refl, refl)
tick_codes block c h (WaitLength timer) = (refl, refl)
tick_codes block c h (Body timer a) = (refl, refl)
tick_codes block c h (Silence timer fault) = (refl, refl)

module _ (c : Limits) (rs block : List ℕ) where
  -- nor as the line settles
  last : (l : Line) → line_bytes c l rs block (line.settle ∷ []) ≡ bytes_out [] (settle_of l).out
  unfolding line_bytes
  last l = by_settle (λ s. bytes_out block s.out ++ [] ≡ bytes_out [] s.out) l.held l.phase refl refl

  -- the courier itself puts nothing out
  courier_bytes :
      (same before after : Bool) (t : Told) (l : Line) (k : ℕ)
      → line_bytes c l rs block (settling (couriers same before after t)) ≡ bytes_out [] (settle_of (courier_by same before after t l k).line).out
  unfolding line_bytes
  courier_bytes same before after t l k =
      by_courier (λ ks m. line_bytes c l rs block (settling ks) ≡ bytes_out [] (settle_of m).out) l k (last l) (last (ask_of l)) (last (withdraw_of l))
      same before after t

-- ---- a call

-- what is put on the front leaves
front_left : (bs o : List ℕ) → take (length bs) (on_front bs o) ≡ bs
unfolding on_front
front_left bs o = take_at bs (drop (length bs) o) (length bs) refl

-- from the transactions on: what the step put out, and what the line puts out behind it
course_bytes :
    (c : Limits) (rs block : List ℕ) (u : Link) (p : Out) (t : Told) (m : Midway) (k : Outcome) (room o : List ℕ)
    → bytes_left (course u p t m k room o)
    ≡ bytes_out [] p
    ++ line_bytes c u.line rs block
    (settling (couriers (same_message u.exchange.sending m.exchange.sending) (is_sending u.exchange) (is_sending m.exchange) t))
course_bytes c rs block u p t m k room o =
    front_left (codes p (settle_of (carried_by u t m.exchange room).line).out) o
    ∙ ap (λ bs. bytes_out [] p ++ bs)
    (sym (courier_bytes c rs block (same_message u.exchange.sending m.exchange.sending) (is_sending u.exchange) (is_sending m.exchange) t u.line u.block))

module _ (u : Link) (room o : List ℕ) where
  abbrev block : List ℕ
  block = block_bytes u room

  abbrev Put : List line.Call → Left → Type 0
  Put ks l = bytes_left l ≡ line_bytes u.settings.limits u.line u.received block (unless_refused l.answer.outcome ks)

  -- a step of the line that puts out no block, and what is behind it
  module _ (k : line.Call) (ticks : Bool) where
    abbrev made : Heard
    made = line.called u.settings.limits u.line u.received k

    abbrev after : Midway
    after = passing ticks u.settings.terms (heard_by u made room).midway

    abbrev behind : List line.Call
    behind =
        settling (couriers (same_message u.exchange.sending after.exchange.sending) (is_sending u.exchange) (is_sending after.exchange) made.step.told)

    step_bytes : NoBlock block made.step → Put (k ∷ behind) (stepped ticks u made room o)
    unfolding line_bytes
    step_bytes none =
        course_bytes u.settings.limits made.received block (hears u made) made.step.out made.step.told after outcome.Done (heard_by u made room).room o
        ∙ ap (λ bs. bs ++ line_bytes u.settings.limits made.step.line made.received block behind) (sym none)

  shut_out : (ks : List line.Call) (l : Left) → Put ks l → Put ks (gated u room o l)
  unfolding line_bytes
  shut_out ks l w = by_gate (Put ks) u room o l (λ r e. refl) (λ e. w)

  byte_bytes : (b : ℕ) (fits : b < 256) → Put (on_line u room (byte b fits)) (byte_stepped u (step_in u (byte b fits)) room o)
  unfolding line_bytes
  byte_bytes b fits =
      let h = step_in u (byte b fits) in
      by_byte (λ p l. Put (line.byte b fits ∷ settles p (couriers_in u room (byte b fits))) l) u h room o
      (λ e. step_bytes (line.byte b fits) false (rw e refl)) (λ c e. step_bytes (line.byte b fits) false (rw e refl))
      (λ e. front_left block o ∙ sym (ap (λ p. bytes_out block p ++ []) e ∙ append-nil block))

  -- a message that is accepted
  taken_bytes :
      (r : Request) (p : ℕ)
      → Put (settling (couriers_in u room (request r))) (requested_by (Ok p) u (answering u r room).answer.exchange (answering u r room).room o)
  taken_bytes r p =
      course_bytes u.settings.limits u.received block u out.Nothing told.Nothing (untold (answering u r room).answer.exchange note.Nothing)
      (outcome.Taken p) (answering u r room).room o

  request_bytes : (r : Request) → Put (on_line u room (request r)) (called u room o (request r))
  unfolding line_bytes
  request_bytes r = by (lends r) refl
    where
      by : (t : Bool) → lends r ≡ t → Put (cond t (settling (couriers_in u room (request r))) []) (called u room o (request r))
      by true l =
          by_request u r room o (Put (settling (couriers_in u room (request r)))) (λ n e. refl) (λ p e k. taken_bytes r p)
          (λ p e k. absurd (false≢true (sym k ∙ l))) (λ n. refl)
      by false l = by_request u r room o (Put []) (λ n e. refl) (λ p e k. absurd (false≢true (sym l ∙ k))) (λ p e k. refl) (λ n. refl)

  pub called_bytes : (k : Call) → Put (on_line u room k) (called u room o k)
  called_bytes (byte b fits) = shut_out (on_line u room (byte b fits)) _ (at_byte (λ h. Put (on_line u room (byte b fits)) (byte_stepped u h room o)) u b fits (byte_bytes b fits))
  called_bytes tick =
      let c = u.settings.limits in
      shut_out (on_line u room tick) _
      (at_tick (λ h. Put (on_line u room tick) (stepped true u h room o)) u
      (step_bytes line.tick true (by_tick (NoBlock block) c u.line.held u.line.phase (tick_codes block c u.line.held u.line.phase))))
  called_bytes drained = shut_out (on_line u room drained) _ (at_drained (λ h. Put (on_line u room drained) (stepped false u h room o)) u (step_bytes line.drained false refl))
  called_bytes (request r) = request_bytes r

pub leaves_by_line : LeavesByLine
leaves_by_line u room o k = called_bytes u room o k
