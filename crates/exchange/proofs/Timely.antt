-- Ticks of which nothing is reported (02, request 2: "verdict 6 gives S9F9"): T3 runs out at no own place, or the unit is a host. They leave
-- the last number given, what is being sent and the reports that wait. And ticks of which something is: what they leave of these does not
-- hang on the incoming places. Assumes nothing.
use Rattle.std.specs.Prelude.{None}
use Prim.Native.Nat.{ℕ, zero, suc, ◌+◌, ◌≤◌, ◌<◌}
use mathlib.Core.Path.{◌≡◌, refl, sym, ap, subst, ◌∙◌}
use mathlib.Core.Bool.{false, false≢true}
use mathlib.Core.List.{[]}
use mathlib.Core.Logic.{◌≢◌}
use native.Mathlib.Omega.{arith}
use Rattle.wire.proofs.Choice.{chosen}
use Rattle.settings.specs.declared.terms.Terms.{Terms}
use Rattle.settings.proofs.Timers.{by_timer}
use Rattle.place.specs.Own.{ended, awaited_by, replying_by, await_tick, reply_tick, own_tick}
use Rattle.place.specs.declared.OwnStage.{OwnStage}
use Rattle.place.specs.declared.OwnStage.TheVariants.{Free, Sending, PutOut, Awaiting, Replying, Done}
use Rattle.place.specs.declared.Own.{Own}
use Rattle.place.proofs.Arrivals.{by_waited}
use Rattle.table.specs.Own.{own_at, ticked_own}
use Rattle.exchange.specs.Exchange.{own_place, got_verdict}
use Rattle.exchange.specs.Tick.{latest_over, passed_of, got_no_reply, late_at, tick_of, late_over}
use Rattle.exchange.specs.Releases as side
use Rattle.exchange.specs.Assembly.{passes, NoneLate, host, in_time, AnyPlace, SameOutbox}
use Rattle.exchange.specs.declared.Outbox.{Outbox}
use Rattle.exchange.specs.declared.Exchange.{Exchange}
use Rattle.exchange.proofs.Causing.{host_silent}
use Rattle.exchange.proofs.Passing.{ticked, by_place_lem, Beside}

-- ---- one place

-- T3 does not run out there in n ticks
abbrev pub InTime : Terms → ℕ → Own → Type 0
InTime c n o = (timer : ℕ) → o.stage ≡ Awaiting timer → timer + n ≤ c.t3.0

module _ (c : Terms) (o : Own) where
  abbrev at : OwnStage → Own
  at s = record { header = o.header; stage = s }

  -- a place that awaits its reply behind a tick awaited it before, with the timer one less
  awaited_before : (timer : ℕ) → (own_tick c o).stage ≡ Awaiting timer → (m : ℕ) × (o.stage ≡ Awaiting m) × (timer ≡ m + 1)
  unfolding await_tick reply_tick ended
  awaited_before timer = by o.stage
    where
      by : (s : OwnStage) → (own_tick c (at s)).stage ≡ Awaiting timer → (m : ℕ) × (s ≡ Awaiting m) × (timer ≡ m + 1)
      by Free = λ e. absurd (false≢true cc)
      by Sending = λ e. absurd (false≢true cc)
      by PutOut = λ e. absurd (false≢true cc)
      by (Awaiting m) =
          by_timer c.t3 m (λ w. (awaited_by (at (Awaiting m)) w).stage ≡ Awaiting timer → (j : ℕ) × (Awaiting m ≡ Awaiting j) × (timer ≡ j + 1))
          (λ out e. absurd (false≢true cc)) (λ on e. (m, refl, cc))
      by (Replying a) =
          by_waited c a (λ w. (replying_by (at (Replying a)) w).stage ≡ Awaiting timer → (j : ℕ) × (Replying a ≡ Awaiting j) × (timer ≡ j + 1))
          (λ e. absurd (false≢true cc)) (λ n e. absurd (false≢true cc))
      by (Done v r) = λ e. absurd (false≢true cc)

  pub in_time_on : (n : ℕ) → InTime c (suc n) o → InTime c n (own_tick c o)
  in_time_on n w timer e = let m = awaited_before timer e in omega (arith, w m.0 m.1, m.2)

  -- so it gets no verdict 6: T4 gives 5
  not_late : (n : ℕ) → InTime c (suc n) o → got_no_reply o (own_tick c o) ≡ false
  unfolding await_tick reply_tick ended got_no_reply got_verdict
  not_late n = by o.stage
    where
      by : (s : OwnStage) → InTime c (suc n) (at s) → got_no_reply (at s) (own_tick c (at s)) ≡ false
      by Free w = refl
      by Sending w = refl
      by PutOut w = refl
      by (Awaiting m) w =
          by_timer c.t3 m (λ t. got_no_reply (at (Awaiting m)) (awaited_by (at (Awaiting m)) t) ≡ false)
          (λ out. absurd (omega (arith, w m refl))) (λ on. refl)
      by (Replying a) w =
          by_waited c a (λ t. got_no_reply (at (Replying a)) (replying_by (at (Replying a)) t) ≡ false) refl (λ m. refl)
      by (Done v r) w = refl

-- ---- one tick

module _ (c : Terms) (x : Exchange) where
  -- nothing is reported of place p
  untold : {n : ℕ} → NoneLate c x (suc n) AnyPlace → (latest p : ℕ) → p < 4 → (b : Outbox) → late_at c x.own (ticked_own c x.own) latest p b ≡ b
  unfolding late_at passed_of
  untold (host e) latest p less b =
      chosen (λ r. r ≡ b) (got_no_reply (own_at x.own p) (own_at (ticked_own c x.own) p)) _ _
      (λ t. host_silent (ticked_own c x.own) latest b c _ e) (λ t. refl)
  untold {n} (in_time w) latest p less b =
      let e : got_no_reply (own_place x p) (own_at (ticked_own c x.own) p) ≡ false =
      subst (λ (o : Own). got_no_reply (own_place x p) o ≡ false) (sym (ticked side.own c x p)) (not_late c (own_place x p) n (w p less tt)) in
      rw e

  quiet_tick : {n : ℕ} → NoneLate c x (suc n) AnyPlace → SameOutbox x (tick_of c x).exchange
  unfolding passed_of late_over
  quiet_tick w =
      let late = late_at c x.own (ticked_own c x.own) (latest_over x.numbers.latest x.own (ticked_own c x.own)) in
      let none = untold w (latest_over x.numbers.latest x.own (ticked_own c x.own)) in
      ap (late 3) (ap (late 2) (ap (late 1) (none 0 (omega arith) _) ∙ none 1 (omega arith) _) ∙ none 2 (omega arith) _) ∙ none 3 (omega arith) _

  none_late_on : {n : ℕ} {Of : ℕ → Type 0} → NoneLate c x (suc n) Of → NoneLate c (tick_of c x).exchange n Of
  none_late_on (host e) = host e
  none_late_on {n} (in_time w) =
      in_time (λ p less of. subst (InTime c n) (sym (ticked side.own c x p)) (in_time_on c (own_place x p) n (w p less of)))

-- ---- n ticks

module _ (c : Terms) (x : Exchange) where
  -- of fewer
  pub fewer : {Of : ℕ → Type 0} (m n : ℕ) → m ≤ n → NoneLate c x n Of → NoneLate c x m Of
  fewer m n less (host e) = host e
  fewer m n less (in_time w) = in_time (λ p k of timer e. omega (arith, w p k of timer e))

  -- behind n of m + n
  pub none_late_then : {Of : ℕ → Type 0} (n m : ℕ) → NoneLate c x (m + n) Of → NoneLate c (passes c x n) m Of
  unfolding passes
  none_late_then zero m w = fewer m (m + 0) (omega arith) w
  none_late_then (suc n) m w = none_late_on c (passes c x n) (none_late_then n (suc m) (fewer (suc m + n) (m + suc n) (omega arith) w))

  pub quiet : (n : ℕ) → NoneLate c x n AnyPlace → SameOutbox x (passes c x n)
  unfolding passes
  quiet zero w = refl
  quiet (suc n) w =
      quiet_tick c (passes c x n) (none_late_then n 1 (fewer (1 + n) (suc n) (omega arith) w)) ∙ quiet n (fewer n (suc n) (omega arith) w)

-- where y is u but for own place p, and T3 does not run out there either
pub none_late_here : (c : Terms) (n p : ℕ) (u y : Exchange) → Beside side.own p u y → InTime c n (own_place y p) → NoneLate c u n (λ q. q ≢ p) → NoneLate c y n AnyPlace
none_late_here c n p u y beside here (host e) = host e
none_late_here c n p u y beside here (in_time w) =
    in_time (λ q less any timer e.
    by_place_lem q p (λ f. here timer (subst (λ (j : ℕ). (own_place y j).stage ≡ Awaiting timer) f e))
    (λ ne. w q less ne timer (subst (λ (o : Own). o.stage ≡ Awaiting timer) (beside.others side.own q (λ s. ne)) e)))

-- ---- whatever is reported

-- all but the incoming places and the saved header
abbrev pub beyond : Exchange → Exchange
beyond x = record {
  own = x.own;
  incoming = [];
  saved = None;
  numbers = x.numbers;
  sending = x.sending;
  reports = x.reports;
}

-- is, n ticks later, what these make of it
pub beyond_ticks : (c : Terms) (x y : Exchange) → beyond y ≡ beyond x → (n : ℕ) → beyond (passes c y n) ≡ beyond (passes c x n)
unfolding passes passed_of
beyond_ticks c x y e zero = e
beyond_ticks c x y e (suc n) = ap (λ (z : Exchange). beyond (tick_of c z).exchange) (beyond_ticks c x y e n)
