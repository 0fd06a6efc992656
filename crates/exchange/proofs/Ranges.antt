-- The tests of the ranges are true exactly if each field is in its own (`specs/Range.antt`); the places' are theirs. Assumes nothing.
use Prim.Native.Nat.{ℕ, zero, suc, ◌≤◌, ◌<◌}
use mathlib.Core.Path.{◌≡◌, refl}
use mathlib.Core.Bool.{Bool, true, ◌&&◌}
use mathlib.Core.Logic.{◌↔◌}
use native.Mathlib.Omega.{arith}
use lib.Dec.{leb}
use borrow.Author.Tests.{le-leb, leb-true}
use Rattle.wire.specs.Message.{message_limit}
use Rattle.wire.proofs.Choice.{both}
use Rattle.place.specs.Range.{own_in_range, incoming_in_range}
use Rattle.place.proofs.Ranges.{own_fits_exactly, incoming_fits_exactly}
use Rattle.table.specs.Own.{own_at}
use Rattle.table.specs.Incoming.{incoming_at}
use Rattle.reports.specs.Reports.{reports_in_range}
use Rattle.reports.proofs.Waiting.{reports_fit_exactly}
use Rattle.exchange.specs.Range.{owns_in_range, incomings_in_range, message_in_range, sending_in_range, exchange_in_range, SendingFitsExactly, ExchangeFitsExactly}
use Rattle.exchange.specs.declared.Sending.TheVariants as sending

message_fits : (p n : ℕ) → message_in_range p n ≡ true ↔ ((p ≤ 3) × (n ≤ message_limit))
unfolding message_in_range
message_fits p n =
    let w = both (leb p 3) (leb n message_limit) in
    (λ e. (leb-true p 3 (w.0 e).0, leb-true n message_limit (w.0 e).1), λ f. w.1 (le-leb p 3 f.0, le-leb n message_limit f.1))

pub sending_fits_exactly : SendingFitsExactly
sending_fits_exactly sending.Nothing = (λ e. tt, λ f. refl)
sending_fits_exactly (sending.Primary p n) = message_fits p n
sending_fits_exactly (sending.Reply p f n) = message_fits p n
sending_fits_exactly (sending.Report f n) = (λ e. tt, λ f. refl)

-- four tests in a row are true exactly if each place is in its ranges
module _ (t : ℕ → Bool) (P : ℕ → Type 0) (says : (p : ℕ) → t p ≡ true ↔ P p) where
  each_at : (t 0 ≡ true) × (t 1 ≡ true) × (t 2 ≡ true) × (t 3 ≡ true) → (p : ℕ) → p < 4 → P p
  each_at w zero less = (says 0).0 w.0
  each_at w (suc zero) less = (says 1).0 w.1
  each_at w (suc (suc zero)) less = (says 2).0 w.2
  each_at w (suc (suc (suc zero))) less = (says 3).0 w.3
  each_at w (suc (suc (suc (suc p)))) less = absurd (omega arith)

  each : t 0 && (t 1 && (t 2 && t 3)) ≡ true ↔ ((p : ℕ) → p < 4 → P p)
  each =
      let a = both (t 0) (t 1 && (t 2 && t 3)) in
      let b = both (t 1) (t 2 && t 3) in
      let c = both (t 2) (t 3) in (
        λ e.
            let f = b.0 (a.0 e).1 in
            let g = c.0 f.1 in
            each_at ((a.0 e).0, f.0, g.0, g.1),
        λ w.
            a.1 (
              (says 0).1 (w 0 (omega arith)),
              b.1 ((says 1).1 (w 1 (omega arith)), c.1 ((says 2).1 (w 2 (omega arith)), (says 3).1 (w 3 (omega arith)))),
            ),
      )

pub exchange_fits_exactly : ExchangeFitsExactly
unfolding exchange_in_range owns_in_range incomings_in_range
exchange_fits_exactly x =
    let d = both (owns_in_range x.own) (incomings_in_range x.incoming && (sending_in_range x.sending && reports_in_range x.reports)) in
    let e = both (incomings_in_range x.incoming) (sending_in_range x.sending && reports_in_range x.reports) in
    let r = both (sending_in_range x.sending) (reports_in_range x.reports) in
    let os = each (λ p. own_in_range (own_at x.own p)) _ (λ p. own_fits_exactly (own_at x.own p)) in
    let is = each (λ p. incoming_in_range (incoming_at x.incoming p)) _ (λ p. incoming_fits_exactly (incoming_at x.incoming p)) in (
      λ t.
          let o = d.0 t in
          let i = e.0 o.1 in
          let s = r.0 i.1 in
          record {
            own = os.0 o.0;
            incoming = is.0 i.0;
            sending = (sending_fits_exactly x.sending).0 s.0;
            waiting = (reports_fit_exactly x.reports).0 s.1;
          },
      λ f.
          d.1 (
            os.1 f.own,
            e.1 (
              is.1 f.incoming,
              r.1 ((sending_fits_exactly x.sending).1 f.sending, (reports_fit_exactly x.reports).1 f.waiting),
            ),
          ),
    )
