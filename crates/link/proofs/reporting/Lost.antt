-- None is lost: each cause has started a report, or its report waits, or was dropped and counted (`specs/Reporting.antt`: NoneLost). What is
-- counted at the door, by notes, verdicts and what is being sent, is what the onlooker of the reports counts. Assumes nothing.
use Rattle.std.specs.Prelude.{Ok, Err, Option}
use Prim.Native.Nat.{ℕ, ◌+◌, ◌≤◌, ◌<◌}
use mathlib.Core.Path.{◌≡◌, refl, sym, ap, subst, ◌∙◌}
use mathlib.Core.Bool.{Bool, true, false, cond, ◌||◌, true≢false}
use mathlib.Core.List.{List, [], ◌∷◌}
use native.Mathlib.Omega.{arith}
use lib.Dec.{eqb}
use lib.ListN.{length}
use borrow.Author.Tests.{eqb-true}
use Rattle.wire.proofs.Choice.{either, chosen}
use Rattle.settings.specs.declared.terms.Terms.{Terms}
use Rattle.reports.specs.declared.Report.{Report}
use Rattle.exchange.specs.Reports.{outbox_of, same_message}
use Rattle.exchange.specs.Reading.{own_reading}
use Rattle.exchange.specs.Request.{Request, primary, reply, freeing_own, freeing_incoming, answer_of}
use Rattle.exchange.specs.BeingSent.{sending_after}
use Rattle.exchange.specs.Judge.{judge_of}
use Rattle.exchange.specs.Numbers.{gets}
use Rattle.exchange.specs.History as exchange
use Rattle.exchange.specs.Reporting as exchange'
use Rattle.exchange.specs.Reporting.{Reporter, nothing_reported, is_six, proves, ends, reporter_asked, TurnIs}
use Rattle.exchange.specs.Rules as rules
use Rattle.exchange.specs.Rules.{Fours}
use Rattle.exchange.specs.Send.{failed_of}
use Rattle.exchange.specs.Watching.{watch}
use Rattle.exchange.specs.declared.OwnReading.{OwnReading}
use Rattle.exchange.specs.declared.Sending.{Sending}
use Rattle.exchange.specs.declared.Sending.TheVariants as sending
use Rattle.exchange.specs.declared.Outbox.{Outbox}
use Rattle.exchange.specs.declared.Exchange.{Exchange}
use Rattle.exchange.proofs.Numbering.{same_gets}
use Rattle.exchange.proofs.Unreported.{idle}
use Rattle.exchange.proofs.Same.{message_same, other_message}
use Rattle.exchange.proofs.BeingSent.{request_sends, sending_ends}
use Rattle.exchange.proofs.Latest.{two_sixes}
use Rattle.exchange.proofs.Reporting.{AllKept, kept_on, kept_fresh, block_six, put_out_six, acked_six, failed_six, request_six}
use Rattle.exchange.proofs.Runs.{Each, none, one_more, Sound, four_places, sound_on}
use Rattle.exchange.proofs.Tallying.{Counts, none_more, note_counts, places_count, ends_counts, Turned, still, over, begun, block_turns, acked_turns, failed_turns, tick_turns}
use Rattle.link.specs.Reading.{message_of}
use Rattle.link.specs.History.{Made, Track, exchange_track, terms_in, on_exchange_in, next}
use Rattle.link.specs.Inside.{Reached}
use Rattle.link.specs.Verdicts.{Among, here, Tells}
use Rattle.link.specs.Device as device
use Rattle.link.specs.Device.{Few}
use Rattle.link.specs.Moves.{noted}
use Rattle.link.specs.Reporting.{reporter_sees, reporter_watch, reporter_seen, note_causes, places_cause, causes_in, starts_one, starts_in, Tally, tallied, tally_watch, NoneLost}
use Rattle.link.proofs.inside.Reached.{reached_next, start, reached_start}
use Rattle.link.proofs.inside.Places.{lent, goes, sound_inside}
use Rattle.link.proofs.device.Told.{each_among, few_told}
use Rattle.link.proofs.moves.Notes.{up_noted, rose}
use Rattle.link.proofs.moves.Flags.{is_block}
use Rattle.link.proofs.reporting.Kept.{kept_next, kept_inside}
use Rattle.exchange.specs.Asked.{Asked}

-- ---- the starts

-- the same message is no start
same_starts : (z : Sending) → starts_one true z ≡ 0
same_starts sending.Nothing = refl
same_starts (sending.Primary p n) = refl
same_starts (sending.Reply p f n) = refl
same_starts (sending.Report f n) = refl

-- between what was being sent and what is
abbrev started : Sending → Sending → ℕ
started before after = starts_one (same_message before after) after

same_started : (before after : Sending) → after ≡ before → started before after ≡ 0
same_started before after e = ap (λ (t : Bool). starts_one t after) (message_same before after (sym e)) ∙ same_starts after

-- a report on its way has the last number given, so that one with another number is another one
turned_starts : (z : Sending) (last n : ℕ) (b : Outbox) (k : ℕ) → ((f m : ℕ) → z ≡ sending.Report f m → m ≡ last) → Turned z last n b k
    → k ≡ n + started z b.sending
turned_starts z last n b k w (still l e i) = i ∙ (let same = same_started z b.sending e in omega arith)
turned_starts z last n b k w (over l e i) =
    i ∙ (let unstarted : started z b.sending ≡ 0 = ap (λ (y : Sending). started z y) e in omega arith)
turned_starts z last n b k w (begun f m d e i) =
    let other : same_message z (sending.Report f m) ≡ false = other_message z (sending.Report f m) (λ q. d (w f m q)) in
    let one : started z b.sending ≡ 1 = ap (λ (y : Sending). started z y) e ∙ ap (λ (t : Bool). starts_one t (sending.Report f m)) other in
    i ∙ omega arith

-- a request starts none
asked_starts : (r : Request) (a : Asked) (z : Sending) → started z (sending_after r a z) ≡ 0
asked_starts (primary q d) (Ok p) z = refl
asked_starts (reply k f d) (Ok p) z = refl
asked_starts (freeing_own k) (Ok p) z = same_started z z refl
asked_starts (freeing_incoming k) (Ok p) z = same_started z z refl
asked_starts r (Err n) z = same_started z z refl

-- and the onlooker counts none
asked_same : (c : Terms) (after : ℕ → Option OwnReading) (r : Request) (a : Asked) (s : Reporter)
    → ((reporter_asked c after r a s).starts ≡ s.starts) × ((reporter_asked c after r a s).causes ≡ s.causes)
asked_same c after (primary q d) (Ok p) s = (refl, refl)
asked_same c after (reply k f d) (Ok p) s = (refl, refl)
asked_same c after (freeing_own k) (Ok p) s = (refl, refl)
asked_same c after (freeing_incoming k) (Ok p) s = (refl, refl)
asked_same c after r (Err n) s = (refl, refl)

-- ---- one call

-- verdict 6 at no place
no_places : (f g : ℕ → Option OwnReading) → ((p : ℕ) → p < 4 → gets is_six (f p) (g p) ≡ false) → places_cause f g ≡ 0
no_places f g six =
    λ i.
    cond (six 0 (omega arith) i) 1 0 + cond (six 1 (omega arith) i) 1 0 + cond (six 2 (omega arith) i) 1 0 + cond (six 3 (omega arith) i) 1 0

alike_places : (f g h : ℕ → Option OwnReading) → ((p : ℕ) → p < 4 → gets is_six (f p) (h p) ≡ gets is_six (g p) (h p)) → places_cause f h ≡ places_cause g h
alike_places f g h same =
    λ i.
    cond (same 0 (omega arith) i) 1 0 + cond (same 1 (omega arith) i) 1 0 + cond (same 2 (omega arith) i) 1 0 + cond (same 3 (omega arith) i) 1 0

-- a block is not among calls of which none is one
abbrev NoBlocks : List exchange.Call → Type 0
NoBlocks = Each (λ k. is_block k ≡ false)

no_block : (ks : List exchange.Call) → NoBlocks ks → (h d : List ℕ) → Among (exchange.block h d) ks → ⊥
no_block ks w h d a = true≢false (each_among (λ k. is_block k ≡ false) ks w (exchange.block h d) a)

module _ (t : Track) (r : Reached t) (m : Made) (s : Reporter) (w : AllKept t.link.exchange s) where
  abbrev c : Terms
  c = terms_in t

  abbrev x : Exchange
  x = t.link.exchange

  abbrev room : List ℕ
  room = lent t m

  -- the transactions after these calls, and what the onlooker has counted then
  abbrev after : List exchange.Call → Exchange
  after ks = (exchange.track c (exchange_track t room) ks).exchange

  abbrev seen : List exchange.Call → Reporter
  seen ks = watch c (exchange'.reporter_sees c) (exchange_track t room) s ks

  sound : Sound x
  sound = sound_inside t r

  four : Fours x
  four = four_places x sound

  -- a send that failed, where 0.1 s pass behind it
  abbrev lost : Exchange
  lost = (failed_of x).exchange

  lost_sound : Sound lost
  lost_sound = sound_on c x room exchange.failed sound

  -- a note that causes a report is that of a block
  quiet_note : (ks : List exchange.Call) → NoBlocks ks → ks ≡ on_exchange_in t m → note_causes (noted t m) ≡ 0
  quiet_note ks without told =
      let quiet : (h d : List ℕ) → Tells t m (exchange.block h d) → ⊥ =
      λ h d a. no_block ks without h d (subst (Among (exchange.block h d)) (sym told) a) in
      let not_noted : (n : ℕ) → 21 ≤ n → n ≤ 27 → noted t m ≡ n → ⊥ =
      λ n a b e. let z = rose t m (subst (λ k. 21 ≤ k) (sym e) a) (subst (λ k. k ≤ 27) (sym e) b) in quiet z.0 z.1 z.2 in
      either (eqb (noted t m) 22) (λ a. ◌≡◌ {A = ℕ} (cond (a || eqb (noted t m) 26) 1 0) 0)
      (λ a. absurd (not_noted 22 (omega arith) (omega arith) (eqb-true (noted t m) 22 a)))
      (λ a.
      either (eqb (noted t m) 26) (λ b. ◌≡◌ {A = ℕ} (cond b 1 0) 0) (λ b. absurd (not_noted 26 (omega arith) (omega arith) (eqb-true (noted t m) 26 b))) (λ b. refl))

  -- what is counted of these calls
  record Counted (ks : List exchange.Call) : Type 0 where
    causes : Counts c (note_causes (noted t m) + places_cause (own_reading x) (own_reading (after ks))) s.causes (seen ks).causes
    starts : (seen ks).starts ≡ s.starts + started x.sending (after ks).sending

  -- with a note and verdicts that cause none
  no_cause : (ks : List exchange.Call) → NoBlocks ks → ks ≡ on_exchange_in t m
      → ((p : ℕ) → p < 4 → gets is_six (own_reading x p) (own_reading (after ks) p) ≡ false) → (seen ks).causes ≡ s.causes
      → Counts c (note_causes (noted t m) + places_cause (own_reading x) (own_reading (after ks))) s.causes (seen ks).causes
  no_cause ks without told six e =
      let note = quiet_note ks without told in
      let places = no_places (own_reading x) (own_reading (after ks)) six in
      e ∙ none_more c.host s.causes ∙ ap (λ (k : ℕ). s.causes + cond c.host 0 k) (omega arith)

  -- since the call began, as long as one report starts at most
  turned : (ks : List exchange.Call) → Turned x.sending x.numbers.last s.starts (outbox_of (after ks)) (seen ks).starts
      → (seen ks).starts ≡ s.starts + started x.sending (after ks).sending
  turned ks v =
      turned_starts x.sending x.numbers.last s.starts (outbox_of (after ks)) (seen ks).starts
      (λ f n e. w.numbers.report f n e ∙ sym w.numbers.last) v

  few_counted : (ks : List exchange.Call) → Few ks → ks ≡ on_exchange_in t m → Counted ks
  unfolding exchange.track watch
  few_counted _ device.none told = record {
    causes = no_cause [] none told (λ p less. same_gets is_six (own_reading x p)) refl;
    starts = let same = same_started x.sending x.sending refl in omega arith;
  }
  few_counted _ (device.one (exchange.block h d)) told =
      let n = rules.noted (judge_of c x h d room) in
      let behind = cond (proves x h n) (ends s.turn s) s in
      let places = no_places (own_reading x) _ (block_six c x room four h d) in
      let same : noted t m ≡ n = up_noted t m h d (subst (Among (exchange.block h d)) told here) in
      let before : behind.causes ≡ s.causes =
      chosen (λ (u : Reporter). u.causes ≡ s.causes) (proves x h n) (ends s.turn s) s (λ e. ends_counts s.turn s) (λ e. refl) in
      record {
        causes =
            note_counts c n h behind ∙ ap (λ (k : ℕ). k + cond c.host 0 (note_causes n)) before
            ∙ ap (λ (k : ℕ). s.causes + cond c.host 0 k) (ap note_causes (sym same) ∙ omega arith);
        starts = turned (exchange.block h d ∷ []) (block_turns c x room four s w.reports h d);
      }
  few_counted _ (device.one exchange.tick) told =
      let note = quiet_note (exchange.tick ∷ []) (one_more refl none) told in
      record {
        causes =
            places_count c (own_reading x) (own_reading (after (exchange.tick ∷ []))) s
            ∙ ap (λ (k : ℕ). s.causes + cond c.host 0 k) (omega arith);
        starts = turned (exchange.tick ∷ []) (tick_turns c x room four s w.reports x.sending x.numbers.last s.starts (still refl refl refl));
      }
  few_counted _ (device.one exchange.put_out) told = record {
    causes = no_cause (exchange.put_out ∷ []) (one_more refl none) told (put_out_six c x room four) refl;
    starts = let same = same_started x.sending _ (sending_ends c x).put_out in omega arith;
  }
  few_counted _ (device.one exchange.acknowledged) told = record {
    causes = no_cause (exchange.acknowledged ∷ []) (one_more refl none) told (acked_six c x room four) (ends_counts s.turn s);
    starts = turned (exchange.acknowledged ∷ []) (acked_turns c x room four s w.reports);
  }
  few_counted _ (device.one exchange.failed) told = record {
    causes = no_cause (exchange.failed ∷ []) (one_more refl none) told (failed_six c x room four) (ends_counts s.turn s);
    starts = turned (exchange.failed ∷ []) (failed_turns c x room four s w.reports);
  }
  few_counted _ (device.one (exchange.request q)) told =
      let a = (answer_of c x q room).answer in
      let same = asked_same c (own_reading a.exchange) q a.asked s in
      let unstarted : started x.sending a.exchange.sending ≡ 0 =
      ap (λ (z : Sending). started x.sending z) (request_sends c x q room).becomes ∙ asked_starts q a.asked x.sending in
      record {
        causes = no_cause (exchange.request q ∷ []) (one_more refl none) told (request_six c x room four q) same.1;
        starts = same.0 ∙ omega arith;
      }
  few_counted _ device.lost_on_tick_lem told =
      let ks = exchange.failed ∷ exchange.tick ∷ [] in
      let note = quiet_note ks (one_more refl (one_more refl none)) told in
      let behind = ends s.turn s in
      let then = kept_on c x room s exchange.failed sound w in
      let z = after ks in
      let same : places_cause (own_reading lost) (own_reading z) ≡ places_cause (own_reading x) (own_reading z) =
      alike_places (own_reading lost) (own_reading x) (own_reading z) (λ p less. sym (two_sixes c x four (four_places lost lost_sound) p less)) in
      record {
        causes =
            places_count c (own_reading lost) (own_reading z) behind ∙ ap (λ (k : ℕ). k + cond c.host 0 (places_cause (own_reading lost) (own_reading z))) (ends_counts s.turn s)
            ∙ ap (λ (k : ℕ). s.causes + cond c.host 0 k) (same ∙ omega arith);
        starts =
            turned ks
            (tick_turns c lost room (four_places lost lost_sound) behind then.reports x.sending x.numbers.last s.starts (failed_turns c x room four s w.reports));
      }

  pub counted_next : ((reporter_sees t s m).causes ≡ s.causes + causes_in t m) × ((reporter_sees t s m).starts ≡ s.starts + starts_in t m)
  counted_next =
      let k = few_counted (on_exchange_in t m) (few_told t m) refl in (
        subst (λ (y : Exchange). Counts c (note_causes (noted t m) + places_cause (own_reading x) (own_reading y)) s.causes (reporter_sees t s m).causes) (goes t m) k.causes,
        subst (λ (y : Exchange). (reporter_sees t s m).starts ≡ s.starts + started x.sending y.sending) (goes t m) k.starts,
      )

-- ---- any calls

-- the onlooker has counted as many
pub record Tallies (s : Reporter) (q : Tally) : Type 0 where
  pub causes : s.causes ≡ q.causes
  pub starts : s.starts ≡ q.starts

calls_tallied : (t : Track) → Reached t → (s : Reporter) (q : Tally) (ms : List Made) → AllKept t.link.exchange s → Tallies s q
    → Tallies (reporter_watch t s ms) (tally_watch t q ms)
unfolding reporter_watch tally_watch
calls_tallied t r s q [] w e = e
calls_tallied t r s q (m ∷ ms) w e =
    let k = counted_next t r m s w in
    calls_tallied (next t m) (reached_next t r m) (reporter_sees t s m) (tallied q t m) ms (kept_next t r s m w)
    (record {
      causes = k.0 ∙ ap (λ (n : ℕ). n + causes_in t m) e.causes;
      starts = k.1 ∙ ap (λ (n : ℕ). n + starts_in t m) e.starts;
    })

pub none_lost : NoneLost
none_lost t r fits =
    let s = reporter_seen t r in
    let w = (kept_inside t r fits).reports in
    let e = calls_tallied (start t r) (reached_start t r) nothing_reported (record { causes = 0; starts = 0 }) r.calls
    (kept_fresh r.setup.last fits) (record { causes = refl; starts = refl }) in
    let n = ap (λ (l : List Report). length l) w.waiting in
    record {
      lost = s.lost;
      all = sym e.causes ∙ w.none_lost ∙ (λ i. e.starts i + sym n i + s.lost);
      counted = w.dropped;
      most = subst (λ (k : ℕ). k ≤ 8) (sym n) w.most;
      idle = λ i.
          w.waiting
          ∙ w.none_idle (subst (λ (z : Sending). TurnIs z s.turn s.underway t.link.exchange.reports.shown) (idle (message_of t.link) i) w.turn);
    }
