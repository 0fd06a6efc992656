-- Behind the last ACK of a message no report starts: none waits between calls that leave nothing being sent (02, request 2: "Up to 8 reports
-- wait while a message is being sent or held"), and of the ticks while the message goes out nothing is reported. Assumes nothing.
use Prim.Native.Nat.{ℕ, ◌≤◌}
use mathlib.Core.Path.{◌≡◌, refl, ap, subst, ◌∙◌}
use Rattle.wire.proofs.Choice.{chosen}
use Rattle.settings.specs.declared.terms.Terms.{Terms}
use Rattle.place.specs.declared.OwnStage.TheVariants.{Awaiting}
use Rattle.reports.specs.declared.Reports.{Reports}
use Rattle.exchange.specs.Exchange.{own_place}
use Rattle.exchange.specs.Reports.{outbox_of, oldest_starts, is_over, freed, freed_in}
use Rattle.exchange.specs.Send.{sent_by, sent_of}
use Rattle.exchange.specs.Reporting.{Reporter, TurnIs}
use Rattle.exchange.specs.Assembly.{passes, NoneLate, host, in_time, AnyPlace}
use Rattle.exchange.proofs.BeingSent.{sent_none}
use Rattle.exchange.proofs.Causing.{none_counted, none_starts}
use Rattle.exchange.proofs.Reporting.{sent_spares}
use Rattle.exchange.proofs.Timely.{quiet}
use Rattle.exchange.specs.declared.Sending.{Sending}
use Rattle.exchange.specs.declared.Sending.TheVariants as sending
use Rattle.exchange.specs.declared.Outbox.{Outbox}
use Rattle.exchange.specs.declared.Exchange.{Exchange}
use Rattle.link.specs.History.{Track}
use Rattle.link.specs.Inside.{Reached}
use Rattle.link.specs.Reporting.{reporter_seen}
use Rattle.link.proofs.reporting.Kept.{reports_kept}

-- ---- between calls

-- while nothing is being sent none waits
pub none_waits : (t : Track) (w : Reached t) → w.setup.last ≤ 65535 → t.link.exchange.sending ≡ sending.Nothing → t.link.exchange.reports.count ≡ 0
none_waits t w fits e =
    let s : Reporter = reporter_seen t w in
    let r = reports_kept t w fits in
    none_counted t.link.exchange.reports r.sound
    (r.waiting ∙ r.none_idle (subst (λ (z : Sending). TurnIs z s.turn s.underway t.link.exchange.reports.shown) e r.turn))

-- ---- the last ACK

-- where none waits, nothing follows
none_follows : (x : Exchange) → x.reports.count ≡ 0 → (sent_of x).exchange.sending ≡ sending.Nothing
unfolding freed freed_in is_over
none_follows x none =
    let y : Exchange = (sent_by x.sending x).exchange in
    let b : Outbox = outbox_of y in
    let over : y.sending ≡ sending.Nothing = sent_none x.sending x refl in
    chosen (λ (a : Outbox). a.sending ≡ sending.Nothing) (is_over x.sending y.sending) (oldest_starts y.own y.numbers.latest b) b
    (λ e.
    ap (λ (a : Outbox). a.sending) (none_starts y.own y.numbers.latest b (ap (λ (r : Reports). r.count) (sent_spares x x.sending).0 ∙ none)) ∙ over)
    (λ e. over)

module _ (c : Terms) (x y : Exchange) where
  -- T3 runs out at none of y's places, where each of them that awaits its reply did so in x
  none_late_behind : (n : ℕ) → ((q timer : ℕ) → (own_place y q).stage ≡ Awaiting timer → (own_place x q).stage ≡ Awaiting timer)
      → NoneLate c x n AnyPlace → NoneLate c y n AnyPlace
  none_late_behind n awaited (host e) = host e
  none_late_behind n awaited (in_time w) = in_time (λ q less any timer e. w q less tt timer (awaited q timer e))

  -- x sent nothing, y has a message accepted that is sent n ticks later
  pub none_behind : y.reports ≡ x.reports → x.reports.count ≡ 0
      → ((q timer : ℕ) → (own_place y q).stage ≡ Awaiting timer → (own_place x q).stage ≡ Awaiting timer)
      → (n : ℕ) → NoneLate c x n AnyPlace → (sent_of (passes c y n)).exchange.sending ≡ sending.Nothing
  none_behind same none awaited n late =
      none_follows (passes c y n)
      (ap (λ (b : Outbox). b.reports.count) (quiet c y n (none_late_behind n awaited late)) ∙ ap (λ (r : Reports). r.count) same ∙ none)
