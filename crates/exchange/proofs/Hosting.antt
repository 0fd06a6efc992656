-- A host reports nothing (reading 31; 02, request 2: "the equipment side"): where none waits, none was dropped and none is on its way at a host, it is so after any call more.
-- Assumes nothing.
use Prim.Native.Nat.{ℕ}
use mathlib.Core.Path.{◌≡◌, refl, sym, ap, subst, ◌∙◌}
use mathlib.Core.Bool.{true, false≢true, true≢false}
use mathlib.Core.List.{List, []}
use mathlib.Core.Logic.{◌≢◌}
use lib.Dec.{eqb}
use Rattle.wire.proofs.Choice.{chosen}
use Rattle.settings.specs.declared.terms.Terms.{Terms}
use Rattle.reports.specs.Reports.{no_reports, waiting_in}
use Rattle.reports.specs.Theorems.{Sound}
use Rattle.reports.specs.declared.Report.{Report}
use Rattle.reports.specs.declared.Reports.{Reports}
use Rattle.reports.proofs.Waiting.{none_at_start}
use Rattle.exchange.specs.Exchange.{fresh_exchange}
use Rattle.exchange.specs.Note.{note_number}
use Rattle.exchange.specs.Judge.{rules_of, judge_of, box_behind}
use Rattle.exchange.specs.Request.{sending_by, answer_of}
use Rattle.exchange.specs.Reports.{outbox_of, with_outbox, freed_in}
use Rattle.exchange.specs.Rules.{Fours, noted, CausesNone, misrouted, too_long_lem}
use Rattle.exchange.specs.Tick.{tick_of}
use Rattle.exchange.specs.History.{Call, block, tick, put_out, acknowledged, failed, request, called}
use Rattle.exchange.specs.Reporting.{proves, Adds, no_more, Frees}
use Rattle.exchange.specs.declared.Sending.{Sending}
use Rattle.exchange.specs.declared.Sending.TheVariants as sending
use Rattle.exchange.specs.declared.Outbox.{Outbox}
use Rattle.exchange.specs.declared.Exchange.{Exchange}
use Rattle.exchange.proofs.BeingSent.{sending_ends, request_sends}
use Rattle.exchange.proofs.Unreported.{such_freed}
use Rattle.exchange.proofs.Boxes.{none_caused, rules_spare, proven}
use Rattle.exchange.proofs.Reporting.{out_spares}
use Rattle.exchange.proofs.Adding.{tick_adds, end_frees}
use Rattle.exchange.proofs.Another.{asked_numbered}
use Rattle.exchange.proofs.Tens.{asked_spares}

-- ---- nothing is reported

abbrev NoReport : Sending → Type 0
NoReport z = (f n : ℕ) → z ≢ sending.Report f n

-- of what a report touches
pub record Quiet (b : Outbox) : Type 0 where
  pub none : b.reports ≡ no_reports
  pub sends : NoReport b.sending

abbrev pub Silent : Exchange → Type 0
Silent x = Quiet (outbox_of x)

nothing_sent : NoReport sending.Nothing
nothing_sent f n e = false≢true (ap sending_by e)

-- no report that waits starts where none does
freed_quiet : (before : Sending) (y : Exchange) → Silent y → Quiet (freed_in before y)
freed_quiet before y =
    such_freed y (λ r. ⊥) Quiet (λ b r i. absurd i) (λ b r i. absurd i)
    (λ b e w. absurd (true≢false (sym (ap (λ (r : Reports). eqb r.count 0) w.none) ∙ e))) before

none_more : {x z : Exchange} → Adds [] x z → x ≡ z
none_more (no_more x) = refl

module _ (c : Terms) (host : c.host ≡ true) where
  no_causes : (h : List ℕ) (n : ℕ) → CausesNone c h n
  no_causes h _ _ (misrouted e) = false≢true (sym e ∙ host)
  no_causes h _ _ (too_long_lem e) = false≢true (sym e ∙ host)

  module _ (x : Exchange) (room : List ℕ) (four : Fours x) (w : Silent x) where
    sound : Sound x.reports
    sound = subst Sound (sym w.none) none_at_start.sound

    -- a message that is over leaves nothing to be sent
    put_down : (y : Exchange) → Frees x y → x.sending ≢ sending.Nothing → Silent y
    put_down y f some =
        let d = f.empty some (ap waiting_in w.none) in
        record { none = d.reports ∙ w.none; sends = subst NoReport (sym d.sending_none) nothing_sent }

    ended_quiet : (z : Sending) → x.sending ≡ z → (y : Exchange) → Frees x y → Silent y
    ended_quiet sending.Nothing e y f = subst Quiet (sym (f.none e)) w
    ended_quiet (sending.Primary p n) e y f = put_down y f (λ i. false≢true (ap sending_by (sym i ∙ e)))
    ended_quiet (sending.Reply p g n) e y f = put_down y f (λ i. false≢true (ap sending_by (sym i ∙ e)))
    ended_quiet (sending.Report g n) e y f = absurd (w.sends g n e)

    -- what the rules leave of what is being sent
    rules_quiet : (h d : List ℕ) → Silent (rules_of c x h d room).answer.exchange
    rules_quiet h d = record {
      none = (rules_spare c x h d room).1 ∙ w.none;
      sends =
          subst NoReport (sym (proven c x h d room))
          (chosen NoReport (proves x h (noted (rules_of c x h d room))) sending.Nothing x.sending (λ e. nothing_sent) (λ e. w.sends));
    }

    block_quiet : (h d : List ℕ) → Silent (judge_of c x h d room).answer.exchange
    unfolding box_behind
    block_quiet h d =
        let j = (rules_of c x h d room).answer in
        let y = j.exchange in
        subst Quiet (sym (none_caused c y h (freed_in x.sending y) j.note (no_causes h (note_number j.note))))
        (freed_quiet x.sending y (rules_quiet h d))

    tick_quiet : Silent (tick_of c x).exchange
    tick_quiet =
        let y = (tick_of c x).exchange in
        let none : Adds [] (with_outbox y (outbox_of x)) y =
        subst (λ (l : List Report). Adds l (with_outbox y (outbox_of x)) y) (rw host) (tick_adds c x four sound) in
        subst Silent (none_more none) w

    pub silent_on : (k : Call) → Silent (called c x room k).exchange
    silent_on (block h d) = block_quiet h d
    silent_on tick = tick_quiet
    silent_on put_out = record {
      none = out_spares x x.sending ∙ w.none;
      sends = subst NoReport (sym (sending_ends c x).put_out) w.sends;
    }
    silent_on acknowledged = ended_quiet x.sending refl _ (end_frees x sound).0
    silent_on failed = ended_quiet x.sending refl _ (end_frees x sound).1
    silent_on (request r) = record {
      none = asked_spares c x room r ∙ w.none;
      sends = λ f n e.
          w.sends f n (asked_numbered x r (answer_of c x r room).answer.asked x.sending f n (sym (request_sends c x r room).becomes ∙ e)).0;
    }

pub silent_fresh : (last : ℕ) → Silent (fresh_exchange last)
silent_fresh last = record { none = refl; sends = nothing_sent }
