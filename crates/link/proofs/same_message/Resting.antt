-- Blocks come to transactions that send nothing, with ticks between them. A report that is started is not over before its own block has
-- left: so if nothing is being sent behind the last block, nothing was all the while. Assumes nothing.
use Prim.Native.Nat.{ℕ, zero, suc, ◌+◌, ◌-◌, ◌≤◌, ◌<◌}
use mathlib.Core.Path.{◌≡◌, refl, sym, ap, subst, ◌∙◌}
use mathlib.Core.Bool.{false≢true}
use mathlib.Core.List.{List}
use mathlib.Core.Logic.{◌⊎◌, inl, inr, ⊎_elim}
use native.Mathlib.Omega.{arith}
use Rattle.wire.proofs.Choice.{either}
use Rattle.header.specs.declared.header.Header.{Header}
use Rattle.settings.specs.declared.terms.Terms.{Terms}
use Rattle.exchange.specs.Request.{sending_by}
use Rattle.exchange.specs.Tick.{tick_of}
use Rattle.exchange.specs.BeingSent.{NoneOrReport, none, report, Withdrawn, ReportBegins}
use Rattle.exchange.specs.Assembly.{header_in, data_in, Receiver, passes, received}
use Rattle.exchange.proofs.BeingSent.{sending_ends}
use Rattle.exchange.proofs.Unreported.{idle}
use Rattle.exchange.proofs.Passing.{sending_stays, passes_more}
use Rattle.exchange.specs.declared.Sending.{Sending}
use Rattle.exchange.specs.declared.Sending.TheVariants.{Nothing}
use Rattle.exchange.specs.declared.Exchange.{Exchange}

-- ---- a call of the transactions

-- nothing is being sent, or a report, and so behind a block or a tick
goes_so : {z v : Sending} → NoneOrReport z → (v ≡ z) ⊎ Withdrawn z v ⊎ ReportBegins z v → NoneOrReport v
goes_so w (inl e) = subst NoneOrReport (sym e) w
goes_so w (inr (inl o)) = o.now
goes_so w (inr (inr b)) = b.now

-- a report goes on
none_before : {z v : Sending} → NoneOrReport z → (v ≡ z) ⊎ Withdrawn z v ⊎ ReportBegins z v → v ≡ Nothing → z ≡ Nothing
none_before none g e = refl
none_before (report f n) (inl same) e = sym same ∙ e
none_before (report f n) (inr (inl o)) e = absurd (false≢true o.was)
none_before (report f n) (inr (inr b)) e = b.was

module _ (c : Terms) where
  pub tick_so : (x : Exchange) → NoneOrReport x.sending → NoneOrReport (tick_of c x).exchange.sending
  tick_so x w = goes_so w (⊎_elim (λ e. inl e) (λ b. inr (inr b)) (sending_ends c x).ticked)

  ticks_so : (x : Exchange) → NoneOrReport x.sending → (n : ℕ) → NoneOrReport (passes c x n).sending
  unfolding passes
  ticks_so x w zero = w
  ticks_so x w (suc n) = tick_so (passes c x n) (ticks_so x w n)

  -- nothing is being sent behind n ticks: so it is behind fewer
  none_till : (x : Exchange) (n i : ℕ) → i ≤ n → (passes c x n).sending ≡ Nothing → (passes c x i).sending ≡ Nothing
  none_till x n i less e =
      let y : Exchange = passes c x i in
      let rest : i + (n - i) ≡ n = omega arith in
      either (sending_by y.sending) (λ t. y.sending ≡ Nothing)
      (λ t.
      sym (sending_stays c y (n - i) t) ∙ ap (λ (z : Exchange). z.sending) (passes_more c x i (n - i)) ∙ ap (λ (j : ℕ). (passes c x j).sending) rest ∙ e)
      (λ t. idle y.sending t)

-- ---- the blocks of a message

module _ (c : Terms) (pauses : ℕ → ℕ) (r : Receiver) (h : Header) (d : List ℕ) (rests : r.exchange.sending ≡ Nothing) where
  -- what blocks 1 to k leave, and the ticks before the next one
  abbrev came : ℕ → Exchange
  came k = (received c pauses r h d k).exchange

  abbrev then : ℕ → Exchange
  then k = passes c (came k) (pauses (suc k))

  came_so : (k : ℕ) → NoneOrReport (came k).sending
  unfolding received
  came_so zero = subst NoneOrReport (sym rests) none
  came_so (suc k) =
      goes_so (ticks_so c (came k) (came_so k) (pauses (suc k)))
      ((sending_ends c (then k)).judged (header_in h d (suc k)) (data_in h d (suc k)) (received c pauses r h d k).room)

  -- before one of them
  before_one : (k : ℕ) → (came (suc k)).sending ≡ Nothing → (then k).sending ≡ Nothing
  unfolding received
  before_one k e =
      none_before (ticks_so c (came k) (came_so k) (pauses (suc k)))
      ((sending_ends c (then k)).judged (header_in h d (suc k)) (data_in h d (suc k)) (received c pauses r h d k).room) e

  back_to : (n k : ℕ) → (came (k + n)).sending ≡ Nothing → (came k).sending ≡ Nothing
  unfolding passes
  back_to zero k e = let same : k ≡ k + 0 = omega arith in ap (λ (j : ℕ). (came j).sending) same ∙ e
  back_to (suc n) k e =
      let same : suc (k + n) ≡ k + suc n = omega arith in
      back_to n k (none_till c (came (k + n)) (pauses (suc (k + n))) 0 (omega arith) (before_one (k + n) (ap (λ (j : ℕ). (came j).sending) same ∙ e)))

  -- n blocks in all
  module _ (n : ℕ) (over : (came n).sending ≡ Nothing) where
    pub received_none : (k : ℕ) → k ≤ n → (came k).sending ≡ Nothing
    received_none k less =
        let same : k + (n - k) ≡ n = omega arith in
        back_to (n - k) k (ap (λ (j : ℕ). (came j).sending) same ∙ over)

    pub received_still : (k : ℕ) → k < n → (i : ℕ) → i ≤ pauses (suc k) → (passes c (came k) i).sending ≡ (came k).sending
    received_still k less i early =
        none_till c (came k) (pauses (suc k)) i early (before_one k (received_none (suc k) less)) ∙ sym (received_none k (omega arith))
