-- What ticks alone leave of a unit that sends no message of a caller: its places are those that ticks leave of its transactions, even if a
-- report is sent meanwhile, or fails, for a report has no place. Assumes nothing.
use Rattle.std.specs.Prelude.{Result}
use Prim.Native.Nat.{ℕ, zero, suc, ◌≤◌}
use mathlib.Core.Path.{◌≡◌, refl, sym, ap, subst, ◌∙◌}
use mathlib.Core.Bool.{true}
use mathlib.Core.List.{List}
use mathlib.Core.Logic.{◌≢◌}
use lib.ListN.{length}
use Rattle.settings.specs.declared.terms.Terms.{Terms}
use Rattle.table.specs.Own.{ticked_own}
use Rattle.table.specs.Incoming.{ticked_incoming}
use Rattle.line.specs.Line.{Heard}
use Rattle.line.specs.declared.step.Told.{Told}
use Rattle.line.specs.declared.step.Told.TheVariants as told
use Rattle.line.specs.declared.step.Remark.{Remark}
use Rattle.line.proofs.Alone.{ticks_tell}
use Rattle.exchange.specs.Exchange.{with_sending}
use Rattle.exchange.specs.Tick.{passed_of, tick_of}
use Rattle.exchange.specs.Send.{ended_report, failed_by}
use Rattle.exchange.specs.BeingSent.{NoneOrReport, none, report}
use Rattle.exchange.specs.Assembly.{passes}
use Rattle.exchange.proofs.BeingSent.{sending_ends, ended_none}
use Rattle.exchange.specs.declared.Sending.{Sending}
use Rattle.exchange.specs.declared.Exchange.{Exchange}
use Rattle.link.specs.State.{link_in_range}
use Rattle.link.specs.Run.{Left, stepped, tick_step}
use Rattle.link.specs.Call.{through, tick_call}
use Rattle.link.specs.History.{tick, Track, track, terms_in}
use Rattle.link.specs.Inside.{Reached}
use Rattle.link.specs.SameMessage.{End, end_of, waits}
use Rattle.link.specs.declared.Settings.{Settings}
use Rattle.link.specs.declared.Link.{Link}
use Rattle.link.proofs.inside.Courier.{heard_as}
use Rattle.link.proofs.inside.Reached.{reached_more, settings_stay}
use Rattle.link.proofs.inside.Range.{link_reached_in_range}
use Rattle.link.proofs.refusals.Room.{size_behind}
use Rattle.link.proofs.same_message.Calls.{opens}
use Rattle.link.proofs.same_message.Reaches.{Reaches, reaches_itself, reaches_waits}
use Rattle.link.proofs.same_message.Resting.{tick_so}
use Rattle.link.specs.declared.Refusal.{Refusal}

-- ---- a tick

-- the places of y are those of x, and y sends nothing, or a report
pub record Alike (x y : Exchange) : Type 0 where
  pub own : y.own ≡ x.own
  pub incoming : y.incoming ≡ x.incoming
  pub sends : NoneOrReport y.sending

-- a report that fails leaves all places
failed_own : {z : Sending} → NoneOrReport z → (x : Exchange) → (failed_by z x).exchange.own ≡ x.own
unfolding ended_report with_sending
failed_own none x = refl
failed_own (report f n) x = refl

failed_incoming : {z : Sending} → NoneOrReport z → (x : Exchange) → (failed_by z x).exchange.incoming ≡ x.incoming
unfolding ended_report with_sending
failed_incoming none x = refl
failed_incoming (report f n) x = refl

module _ (u : Link) (room : List ℕ) (x : Exchange) (g : Alike x u.exchange) where
  -- what the line tells at a tick: nothing, or that a block failed
  told_alike : (h : Heard) (t : Told) (r : Remark) → t ≢ told.PutOut → t ≢ told.Sent → ((n : ℕ) → t ≢ told.Up n) → Alike x (heard_as u h room t r)
  told_alike h told.Nothing r no_out no_sent no_up = g
  told_alike h told.PutOut r no_out no_sent no_up = absurd (no_out refl)
  told_alike h told.Sent r no_out no_sent no_up = absurd (no_sent refl)
  told_alike h told.Failed r no_out no_sent no_up = record {
    own = failed_own g.sends u.exchange ∙ g.own;
    incoming = failed_incoming g.sends u.exchange ∙ g.incoming;
    sends = ended_none _ _ (sending_ends u.settings.terms u.exchange).failed;
  }
  told_alike h (told.Up n) r no_out no_sent no_up = absurd (no_up n refl)

-- time passes at places that are the same
passed_alike : (c : Terms) (x y : Exchange) → Alike x y → Alike (tick_of c x).exchange (tick_of c y).exchange
unfolding passed_of
passed_alike c x y g = record {
  own = ap (ticked_own c) g.own;
  incoming = ap (ticked_incoming c) g.incoming;
  sends = tick_so c y g.sends;
}

-- ---- n ticks

-- a unit in range is ticked
goes_through : (u : Link) (room o : List ℕ) → length room ≡ 36864 → 257 ≤ length o → link_in_range u ≡ true
    → tick_call u room o ≡ stepped true u (tick_step u) room o
goes_through u room o whole long fits = ap (λ (g : Result Unit Refusal). through g u room o (stepped true u (tick_step u) room o)) (opens u room o whole long fits)

module _ (t : Track) (w : Reached t) (room o : List ℕ) (whole : length room ≡ 36864) (long : 257 ≤ length o)
    (so : NoneOrReport t.link.exchange.sending) where
  abbrev c : Terms
  c = terms_in t

  abbrev later : ℕ → End
  later n = (waits o (end_of t.link room) n).end

  reaches : (n : ℕ) → Reaches t (later n)
  reaches n = reaches_waits t (end_of t.link room) (reaches_itself t room) o n

  in_range : (n : ℕ) → link_in_range (later n).link ≡ true
  in_range n =
      let r = reaches n in
      subst (λ (u : Link). link_in_range u ≡ true) r.so (link_reached_in_range (track t r.calls) (reached_more t w r.calls))

  same_terms : (n : ℕ) → (later n).link.settings.terms ≡ c
  unfolding reached_more
  same_terms n =
      let r = reaches n in
      ap (λ (u : Link). u.settings.terms) (sym r.so)
      ∙ ap (λ (s : Settings). s.terms) (settings_stay (track t r.calls) (reached_more t w r.calls) ∙ sym (settings_stay t w))

  whole_room : (n : ℕ) → length (later n).room ≡ 36864
  unfolding waits
  whole_room zero = whole
  whole_room (suc n) =
      let u : Link = (later n).link in
      let v : List ℕ = (later n).room in
      ap (λ (l : Left). length l.room) (goes_through u v o (whole_room n) long (in_range n)) ∙ size_behind u v o tick ∙ whole_room n

  pub later_alike : (n : ℕ) → Alike (passes c t.link.exchange n) (later n).link.exchange
  unfolding waits passes
  later_alike zero = record { own = refl; incoming = refl; sends = so }
  later_alike (suc n) =
      let u : Link = (later n).link in
      let v : List ℕ = (later n).room in
      let x : Exchange = passes c t.link.exchange n in
      let tells = ticks_tell u.settings.limits u.line in
      let heard : Exchange = heard_as u (tick_step u) v (tick_step u).step.told (tick_step u).step.remark in
      subst (λ (y : Exchange). Alike (tick_of c x).exchange y)
      (ap (λ (d : Terms). (tick_of d heard).exchange) (sym (same_terms n))
      ∙ sym (ap (λ (l : Left). l.answer.link.exchange) (goes_through u v o (whole_room n) long (in_range n))))
      (passed_alike c x heard
      (told_alike u v x (later_alike n) (tick_step u) (tick_step u).step.told (tick_step u).step.remark tells.not_out tells.not_sent tells.not_up))
