-- Where nothing is due the reports change nothing: no report waits, or no place got a verdict. Assumes nothing.
use Prim.Native.Nat.{ℕ}
use mathlib.Core.Path.{◌≡◌, refl, sym, ap, ◌∙◌}
use mathlib.Core.Bool.{true, false}
use mathlib.Core.List.{List}
use lib.Dec.{eqb}
use Rattle.wire.proofs.Choice.{chosen}
use Rattle.settings.specs.declared.terms.Terms.{Terms}
use Rattle.place.specs.declared.Own.{Own}
use Rattle.exchange.specs.Send.{freeing}
use Rattle.exchange.specs.Reports.{with_outbox, outbox_of, is_over, oldest_starts, freed, freed_in}
use Rattle.exchange.specs.Tick.{got_marks, late_at, late_over}
use Rattle.exchange.specs.declared.Changed.{Changed}
use Rattle.exchange.specs.declared.Exchange.{Exchange}
use Rattle.exchange.specs.declared.Outbox.{Outbox}
use Rattle.exchange.specs.declared.Sending.{Sending}
use Rattle.exchange.proofs.Stilling.{none_of, not_late}
use Rattle.clerk.specs.Short.{is_marked}

-- ---- none waits

none_waits : (before : Sending) (y : Exchange) → eqb y.reports.count 0 ≡ true → freed_in before y ≡ outbox_of y
unfolding freed freed_in oldest_starts
none_waits before y e = rw e (chosen (λ (b : Outbox). b ≡ outbox_of y) (is_over before y.sending) (outbox_of y) (outbox_of y) (λ t. refl) (λ f. refl))

pub none_starts : (before : Sending) (y : Changed) → eqb y.exchange.reports.count 0 ≡ true → y ≡ freeing before y
none_starts before y e =
    sym (ap (λ (b : Outbox). record { exchange = with_outbox y.exchange b; flags = y.flags }) (none_waits before y.exchange e))

-- ---- no place got a verdict

pub none_late : (c : Terms) (os qs : List Own) (latest : ℕ) (b : Outbox) → is_marked (got_marks os qs) ≡ false → b ≡ late_over c os qs latest b
unfolding late_over
none_late c os qs latest b e =
    let first = none_of _ _ e in
    let second = none_of _ _ first.1 in
    let third = none_of _ _ second.1 in
    sym (
    not_late c os qs latest 3 (late_at c os qs latest 2 (late_at c os qs latest 1 (late_at c os qs latest 0 b))) third.1
    ∙ not_late c os qs latest 2 (late_at c os qs latest 1 (late_at c os qs latest 0 b)) third.0
    ∙ not_late c os qs latest 1 (late_at c os qs latest 0 b) second.0 ∙ not_late c os qs latest 0 b first.0
    )
