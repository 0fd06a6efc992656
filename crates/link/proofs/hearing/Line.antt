-- What the line hears of a call (`specs/Hearing.antt`). Assumes nothing.
use Prim.Native.Nat.{ℕ}
use mathlib.Core.Path.{refl, sym}
use mathlib.Core.List.{List}
use Rattle.wire.proofs.Choice.{chosen}
use Rattle.line.specs.History as line
use Rattle.line.specs.declared.step.Out.{Out}
use Rattle.line.specs.declared.step.Out.TheVariants as out
use Rattle.exchange.specs.Reports.{same_message}
use Rattle.exchange.specs.Request.{lends, is_sending}
use Rattle.link.specs.Answer.{accepted}
use Rattle.link.specs.History.{Call, byte, tick, drained, request, unless_refused, step_in, exchange_in, settling, settles, couriers_in, on_line, came_to}
use Rattle.link.specs.Hearing.{Behind, no_more, one_more, Hears, hears_byte, hears_tick, hears_drained, hears_no_more, HeardBy, LineHears}
use Rattle.link.specs.declared.Outcome.{Outcome}
use Rattle.link.specs.declared.Outcome.TheVariants as outcome
use Rattle.link.specs.declared.Link.{Link}
use Rattle.link.proofs.inside.Courier.{by_courier, clash}

module _ (u : Link) (room : List ℕ) where
  -- the courier makes no other, and the line settles
  couriers_behind : (k : Call) → Behind (settling (couriers_in u room k))
  couriers_behind k =
      by_courier (λ ks l. Behind (settling ks)) u.line u.block (one_more line.settle refl no_more)
      (one_more line.ask refl (one_more line.settle refl no_more)) (one_more line.withdraw refl (one_more line.settle refl no_more))
      (same_message u.exchange.sending (exchange_in u room k).sending) (is_sending u.exchange) (is_sending (exchange_in u room k)) (step_in u k).step.told

  settles_behind : (p : Out) (ks : List line.Call) → Behind (settling ks) → Behind (settles p ks)
  settles_behind out.Nothing ks b = b
  settles_behind (out.Code c) ks b = b
  settles_behind out.Block ks b = no_more

  hears : (k : Call) → Hears k (on_line u room k)
  hears (byte b fits) = hears_byte b fits (settles_behind (step_in u (byte b fits)).step.out (couriers_in u room (byte b fits)) (couriers_behind (byte b fits)))
  hears tick = hears_tick (couriers_behind tick)
  hears drained = hears_drained (couriers_behind drained)
  hears (request r) = hears_no_more r (chosen Behind (lends r) _ _ (λ e. couriers_behind (request r)) (λ e. no_more))

heard_by : (k : Call) (x : Outcome) (ks : List line.Call) → Hears k ks → HeardBy k (accepted x) (unless_refused x ks)
heard_by k outcome.Done ks h = record { accepted = λ e. h; refused = λ e. clash (sym e) }
heard_by k (outcome.Taken p) ks h = record { accepted = λ e. h; refused = λ e. clash (sym e) }
heard_by k (outcome.Refused r) ks h = record { accepted = λ e. clash e; refused = λ e. refl }

pub line_hears : LineHears
line_hears u room o k = heard_by k (came_to u room o k) (on_line u room k) (hears u room k)
