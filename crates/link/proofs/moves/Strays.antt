-- Strays and duplicates leave every place, and what is seen of it, as it was; a duplicate leaves everything, a misrouted block all but what a report
-- touches (`specs/Moves.antt`). Assumes nothing.
use Prim.Native.Nat.{ℕ, ◌≤◌, ◌<◌}
use mathlib.Core.Path.{◌≡◌, refl, sym, ap, ◌∙◌, subst}
use mathlib.Core.Bool.{Bool, false, cond, false≢true}
use mathlib.Core.List.{List, []}
use mathlib.Core.Logic.{◌⊎◌, inl, inr, ⊎_elim}
use native.Mathlib.Omega.{arith}
use lib.ListN.{length, get_or, set}
use lib.Seq.{get_or-set_other}
use borrow.Author.Tests.{eqb-false}
use Rattle.header.specs.Header.{header_of}
use Rattle.settings.specs.declared.terms.Terms.{Terms}
use Rattle.place.specs.Own.{fresh_own}
use Rattle.place.specs.OwnHistory as own
use Rattle.place.specs.declared.Own.{Own}
use Rattle.table.specs.Own.{own_at, reply_for}
use Rattle.table.specs.Incoming.{incoming_at, message_for, open_alike, free_incoming}
use Rattle.exchange.specs.Note.{note_number as block_note}
use Rattle.exchange.specs.Exchange.{own_place, incoming_place, put_own, put_incoming, with_sending, sent_from}
use Rattle.exchange.specs.Send.{put_out_by, ended_own, ended_reply, ended_report, sent_by, failed_by}
use Rattle.exchange.specs.Judge.{Judging, judge_of}
use Rattle.exchange.specs.Request.{Request}
use Rattle.exchange.specs.Rules.{Untouched, CausesNone}
use Rattle.exchange.specs.History as exchange
use Rattle.exchange.specs.Watching.{found_at, own_sees, taken_by, sees_block, incoming_sees, watch}
use Rattle.exchange.specs.declared.Note.{Note}
use Rattle.exchange.specs.declared.Note.TheVariants.{Kept, Misrouted, Duplicate, Stray as Strayed, NoPlace, TooLong, Empty}
use Rattle.exchange.specs.declared.Sending.{Sending}
use Rattle.exchange.specs.declared.Sending.TheVariants as sending
use Rattle.exchange.specs.declared.Exchange.{Exchange}
use Rattle.exchange.specs.Reporting.{proves}
use Rattle.exchange.proofs.Leaving.{judge_leaves}
use Rattle.exchange.proofs.Boxes.{no_cause, none_at_host, all_spared}
use Rattle.exchange.proofs.OneCall.{same_either, passed_by}
use Rattle.link.specs.History.{byte, tick, request, Made, Track, exchange_track, terms_in, answered, on_exchange_in, next}
use Rattle.link.specs.Inside.{ExchangeLeft}
use Rattle.link.specs.Verdicts.{Among, here, later, Tells}
use Rattle.link.specs.Moves.{noted, GoesUp, dropped, thrown_out, PlacesStay, StrayLeaves, AllStays, DuplicateLeaves, MisroutedStays, MisroutedLeaves, ByteElsewhere}
use Rattle.link.proofs.inside.Places.{lent, goes}
use Rattle.link.proofs.device.Told.{told_exactly}
use Rattle.link.proofs.moves.Seen.{by_told, seen_of, seen_none, seen_alone, led_none, led_alone}
use Rattle.link.proofs.moves.Notes.{passed_note, up_noted, rose}

-- ---- the transactions are told nothing

untouched : (t : Track) (m : Made) → on_exchange_in t m ≡ [] → PlacesStay t (next t m)
untouched t m e =
    let same = led_none t m e in
    record {
      own = λ p. ap (λ (x : Exchange). own_place x p) same;
      own_seen = λ p. seen_none t m (own_sees (terms_in t) p) (t.own p) e;
      incoming = λ p. ap (λ (x : Exchange). incoming_place x p) same;
      incoming_seen = λ p. seen_none t m (incoming_sees (terms_in t) p) (t.incoming p) e;
    }

-- ---- a block that is thrown out

abbrev SameTables : Exchange → Exchange → Type 0
SameTables y x = (y.own ≡ x.own) × (y.incoming ≡ x.incoming)

tables : {y : Exchange} {room : List ℕ} (j : Judging) → Untouched y room j → SameTables j.answer.exchange y
tables j w = (w.own, w.incoming)

-- the tables are as they were
same_tables : (c : Terms) (x : Exchange) (h d room : List ℕ) (n : Note) → (judge_of c x h d room).answer.note ≡ n → 22 ≤ block_note n → block_note n ≤ 25
    → SameTables (judge_of c x h d room).answer.exchange x
same_tables c x h d room Kept e a b = absurd (omega arith)
same_tables c x h d room Misrouted e a b = tables (judge_of c x h d room) ((judge_leaves c x h d room).misrouted (ap block_note e))
same_tables c x h d room Duplicate e a b = tables (judge_of c x h d room) ((judge_leaves c x h d room).duplicate (ap block_note e))
same_tables c x h d room Strayed e a b = tables (judge_of c x h d room) ((judge_leaves c x h d room).stray (ap block_note e))
same_tables c x h d room NoPlace e a b = tables (judge_of c x h d room) ((judge_leaves c x h d room).no_place (ap block_note e))
same_tables c x h d room TooLong e a b = absurd (omega arith)
same_tables c x h d room Empty e a b = absurd (omega arith)

module _ (t : Track) (m : Made) where
  abbrev c : Terms
  c = terms_in t

  abbrev x : Exchange
  x = t.link.exchange

  thrown_stays : 22 ≤ noted t m → noted t m ≤ 25 → PlacesStay t (next t m)
  thrown_stays a b =
      let r = rose t m (omega arith) (omega arith) in
      let h = r.0 in
      let d = r.1 in
      let n = (judge_of c x h d (lent t m)).answer.note in
      let e = up_noted t m h d r.2 in
      let same = same_tables c x h d (lent t m) n refl (omega arith) (omega arith) in
      let passed = passed_note n (omega arith) (omega arith) in
      let led = (led_alone t m (exchange.block h d) refl r.2).exchange in
      record {
        own = λ p. ap (λ (y : Exchange). own_place y p) (sym led) ∙ ap (λ os. own_at os p) same.0;
        own_seen = λ p.
            let mine = found_at (reply_for x.own (header_of h)) p in
            seen_alone t m (own_sees c p) (t.own p) (exchange.block h d) refl r.2
            ∙ ap (λ (z : own.Answer). cond mine (own.answered z (t.own p) (header_of h) (length d)) (t.own p)) passed ∙ same_either mine (t.own p);
        incoming = λ p. ap (λ (y : Exchange). incoming_place y p) (sym led) ∙ ap (λ is. incoming_at is p) same.1;
        incoming_seen = λ p.
            let reply = reply_for x.own (header_of h) in
            let message = message_for x.incoming (header_of h) in
            let new = taken_by (open_alike x.incoming (header_of h)) (free_incoming x.incoming) in
            seen_alone t m (incoming_sees c p) (t.incoming p) (exchange.block h d) refl r.2
            ∙ ap (λ (z : own.Answer). sees_block reply message new p z (t.incoming p) (header_of h) (length d)) passed
            ∙ passed_by reply message new p (t.incoming p) (header_of h) (length d);
      }

  -- rules 1 and 2: "note 22, saved header kept", "note 23; no timer, place or byte of room changes"
  module _ (h d : List ℕ) (g : GoesUp t m h d) (same : Untouched x (lent t m) (judge_of c x h d (lent t m))) where
    judged : ExchangeLeft (exchange.next c (exchange_track t (lent t m)) (exchange.block h d)) (answered t m)
    judged = led_alone t m (exchange.block h d) refl g

    -- such a block is of no reply, and where nothing is reported of it nothing changes
    nothing_changes : (noted t m ≡ 22) ⊎ (noted t m ≡ 23) → CausesNone c h (noted t m) → AllStays t m
    nothing_changes i none =
        let e = up_noted t m h d g in
        let unproved : proves x h (noted t m) ≡ false = ⊎_elim (ap (proves x h)) (ap (proves x h)) i in
        record {
          exchange = sym judged.exchange
              ∙ all_spared c x h d (lent t m) (subst (λ n. proves x h n ≡ false) e unproved) (subst (CausesNone c h) e none) same;
          room = sym judged.room ∙ same.bytes;
        }

    misrouted_stays : noted t m ≡ 22 → MisroutedStays t m
    misrouted_stays e = record {
      own = ap (λ (y : Exchange). y.own) (sym judged.exchange) ∙ same.own;
      incoming = ap (λ (y : Exchange). y.incoming) (sym judged.exchange) ∙ same.incoming;
      saved = ap (λ (y : Exchange). y.saved) (sym judged.exchange) ∙ same.saved;
      latest = ap (λ (y : Exchange). y.numbers.latest) (sym judged.exchange) ∙ same.latest;
      room = sym judged.room ∙ same.bytes;
      host = λ host. nothing_changes (inl e) (λ r. none_at_host host);
    }

pub stray_leaves : StrayLeaves
stray_leaves t m (dropped b fits e n) = untouched t m n
stray_leaves t m (thrown_out a b) = thrown_stays t m a b

pub duplicate_leaves : DuplicateLeaves
duplicate_leaves t m e =
    let r = rose t m (omega arith) (omega arith) in
    let same = (judge_leaves (terms_in t) t.link.exchange r.0 r.1 (lent t m)).duplicate (sym (up_noted t m r.0 r.1 r.2) ∙ e) in
    nothing_changes t m r.0 r.1 r.2 same (inr e) (λ q. no_cause (λ z. omega arith) (λ z. omega arith))

pub misrouted_leaves : MisroutedLeaves
misrouted_leaves t m e =
    let r = rose t m (omega arith) (omega arith) in
    misrouted_stays t m r.0 r.1 r.2
    ((judge_leaves (terms_in t) t.link.exchange r.0 r.1 (lent t m)).misrouted (sym (up_noted t m r.0 r.1 r.2) ∙ e)) e

-- ---- a byte, and a place that is not the sender's

-- where its last block is put out, and however the sending ends
sent_elsewhere : (x : Exchange) (p : ℕ) (q : Sending) → sent_from q p ≡ false
    → (own_place (put_out_by q x) p ≡ own_place x p) × (own_place (sent_by q x).exchange p ≡ own_place x p) × (own_place (failed_by q x).exchange p ≡ own_place x p)
unfolding ended_own ended_reply ended_report put_own put_incoming with_sending
sent_elsewhere x p sending.Nothing e = (refl, refl, refl)
sent_elsewhere x p (sending.Primary q n) e =
    let other : (a : Own) → get_or (set x.own q a) p fresh_own ≡ get_or x.own p fresh_own = λ a. get_or-set_other x.own q p a fresh_own (λ z. eqb-false q p e (sym z)) in
    (other _, other _, other _)
sent_elsewhere x p (sending.Reply q f n) e = (refl, refl, refl)
sent_elsewhere x p (sending.Report f n) e = (refl, refl, refl)

module _ (t : Track) (m : Made) (p b : ℕ) (fits : b < 256) (e : m.call ≡ byte b fits) (without : (h d : List ℕ) → GoesUp t m h d → ⊥) (o : sent_from t.link.exchange.sending p ≡ false) where
  abbrev Elsewhere : Exchange → own.Seen → Type 0
  Elsewhere y z = (own_place y p ≡ own_place t.link.exchange p) × (z ≡ t.own p)

  -- a byte is no tick, and no request
  no_tick : {A : Type 0} → Tells t m exchange.tick → A
  no_tick a = absurd (false≢true (let z : byte b fits ≡ tick = sym e ∙ ((told_exactly t m).ticks.0 a).1 in cc))

  no_request : {A : Type 0} (r : Request) → Tells t m (exchange.request r) → A
  no_request r a = absurd (false≢true (let z : byte b fits ≡ request r = sym e ∙ (((told_exactly t m).asks r).0 a).1 in cc))

  one_elsewhere : (k : exchange.Call) → Tells t m k
      → Elsewhere (exchange.called (terms_in t) t.link.exchange (lent t m) k).exchange (own_sees (terms_in t) p t.link.exchange (lent t m) (t.own p) k)
  one_elsewhere (exchange.block h d) a = absurd (without h d a)
  one_elsewhere exchange.tick a = no_tick a
  one_elsewhere exchange.put_out a =
      ((sent_elsewhere t.link.exchange p t.link.exchange.sending o).0, ap (λ (z : Bool). cond z (own.went_out (t.own p).request (t.own p)) (t.own p)) o)
  one_elsewhere exchange.acknowledged a =
      ((sent_elsewhere t.link.exchange p t.link.exchange.sending o).1, ap (λ (z : Bool). cond z (own.acked (t.own p).request (t.own p)) (t.own p)) o)
  one_elsewhere exchange.failed a =
      ((sent_elsewhere t.link.exchange p t.link.exchange.sending o).2, ap (λ (z : Bool). cond z (own.gave_up (t.own p).request (t.own p)) (t.own p)) o)
  one_elsewhere (exchange.request r) a = no_request r a

  elsewhere : Elsewhere (exchange.track (terms_in t) (exchange_track t (lent t m)) (on_exchange_in t m)).exchange ((next t m).own p)
  unfolding exchange.track watch
  elsewhere =
      by_told t m (λ ks. Elsewhere (exchange.track (terms_in t) (exchange_track t (lent t m)) ks).exchange (seen_of t m (own_sees (terms_in t) p) (t.own p) ks))
      (λ z. (refl, refl)) (λ k z. one_elsewhere k (subst (Among k) (sym z) here)) (λ z. no_tick (subst (Among exchange.tick) (sym z) (later here)))

pub byte_elsewhere : ByteElsewhere
byte_elsewhere t w p k m b fits e n o = subst (λ y. Elsewhere t m p b fits e n o y ((next t m).own p)) (goes t m) (elsewhere t m p b fits e n o)
