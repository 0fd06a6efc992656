-- Assembly of a cut message is the message (`specs/Assembly.antt`). Assumes nothing.
use Rattle.std.specs.Prelude.{None}
use Prim.Native.Nat.{ℕ, zero, suc, ◌+◌, ◌%◌, ◌≤◌, ◌<◌}
use mathlib.Core.Path.{◌≡◌, refl, sym, ap, subst, ◌∙◌}
use mathlib.Core.Bool.{Bool, true, false, cond, false≢true}
use mathlib.Core.List.{List, []}
use mathlib.Core.Logic.{inl, inr, ◌≢◌}
use native.Mathlib.Omega.{arith}
use lib.Dec.{eqb}
use lib.ListN.{length}
use Rattle.wire.specs.Message.{message_limit}
use Rattle.header.specs.Header.{InRange, header_of}
use Rattle.header.specs.declared.header.Header.{Header}
use Rattle.settings.specs.declared.terms.Terms.{Terms}
use Rattle.cut.specs.Blocks.{block_count, header_at}
use Rattle.cut.specs.Theorems.{joined}
use Rattle.room.specs.Room.{kept_in}
use Rattle.room.specs.declared.Message.TheVariants as message
use Rattle.place.specs.Message.{Routed}
use Rattle.place.specs.OwnHistory as event
use Rattle.place.specs.Incoming.{open_at as is_open, incoming_length}
use Rattle.place.specs.declared.Arriving.{Arriving}
use Rattle.place.specs.declared.IncomingStage.TheVariants.{Free, Open, Complete}
use Rattle.place.specs.declared.Incoming.{Incoming}
use Rattle.table.specs.Incoming.{incoming_put, free_incoming}
use Rattle.table.specs.Theorems.{Alike}
use Rattle.table.proofs.Finding.{free_incoming_lowest}
use Rattle.exchange.specs.Flags.{incoming_flags}
use Rattle.exchange.specs.Exchange.{own_place, incoming_place}
use Rattle.exchange.specs.Reports.{outbox_of}
use Rattle.exchange.specs.Judge.{judge_of}
use Rattle.exchange.specs.Reading.{wanted, incoming_reading}
use Rattle.exchange.specs.Rules.{Fours, LowestAt, New, OfMessage, goes_on_lem, ReplyHere, MessageHere, FreeAt, noted, bytes_before, Comes, incoming_behind, open_from, begun_with, NewPrimary, Fits, MessageGoes, kept}
use Rattle.exchange.specs.Releases as side
use Rattle.exchange.specs.Assembly.{header_in, data_in, receiver_of, passes, received, ticks_before, WithinT4, ReadyFor, Assembled, AssemblyOfCut}
use Rattle.exchange.specs.declared.Exchange.{Exchange}
use Rattle.exchange.proofs.Judging as test
use Rattle.exchange.proofs.Notes.{notes_exactly}
use Rattle.exchange.proofs.Leaving.{place_taken}
use Rattle.exchange.proofs.Keeping.{no_incoming_flag, bytes_before_lem, message_block_lem}
use Rattle.exchange.proofs.Boxes.{box_goes}
use Rattle.exchange.proofs.Finding.{lowest}
use Rattle.exchange.proofs.Cases.{by_found}
use Rattle.exchange.proofs.Runs.{four_places, sound_reached}
use Rattle.exchange.proofs.Evens.{Even, even_taken, even_step, evens}
use Rattle.exchange.proofs.Blocks.{same_header, continues_at, said, one_more, fits_at, ends_at}
use Rattle.exchange.proofs.Passing.{fours_stay, passes_more, kept_on, counts, open_at, open_on, free_on, not_alike, by_place_lem, Beside, owns_beside}
use Rattle.exchange.proofs.Timely.{quiet, beyond, beyond_ticks}
use Rattle.exchange.proofs.Coming.{ticks_first, raised, KeptFor, comes_to, kept_causes_none, complete}

module _ (c : Terms) (pauses : ℕ → ℕ) (x : Exchange) (four : Fours x) (even : (q : ℕ) → q < 4 → Even (own_place x q))
    (h : Header) (d : List ℕ) (i : InRange h) (q : Routed c h) (odd : h.function % 2 ≡ 1) (short : length d ≤ message_limit)
    (takes : ReadyFor c x h d) (t4 : WithinT4 c pauses d) where
  -- ---- the other places, n ticks on

  -- no own place takes a block of it for its reply's
  no_reply : (n : ℕ) (y : Exchange) → ((j : ℕ) → own_place y j ≡ own_place (passes c x n) j) → (k : ℕ) → k ≤ block_count (length d)
      → ReplyHere y (header_of (header_in h d k)) → ⊥
  unfolding header_at
  no_reply n y same k most w =
      let b : Header = header_of (header_in h d k) in
      let j : ℕ = w.place in
      let e = kept_on side.own c x j Even (λ o g. even_step c o.header o.stage event.tick g) (even j w.within) n in
      let f : b.function ≡ h.function = ap (λ (g : Header). g.function) (said h d i short k most) in
      let a = even_taken (own_place y j) b (subst Even (sym (same j)) e) w.so in
      omega arith

  -- no open message has its system bytes
  none_alike : (n j : ℕ) → j < 4 → Alike h (incoming_place (passes c x n) j) → ⊥
  none_alike n j less =
      kept_on side.incoming c x j (λ o. Alike h o → ⊥) (not_alike c h) (λ w. takes.no_alike (record { place = j; within = less; so = w })) n

  -- which a message has that a block of it continues
  alike_taken : (o : Incoming) (k : ℕ) → k ≤ block_count (length d) → OfMessage o (header_of (header_in h d k)) → Alike h o
  unfolding header_at
  alike_taken o k most (goes_on_lem a e w) = (ap is_open e, sym w.system ∙ ap (λ (g : Header). g.system) (said h d i short k most))

  -- ---- its place

  -- the lowest that is free when the first block comes
  free_then : (n : ℕ) → (p : ℕ) × LowestAt (FreeAt (passes c x n)) p
  free_then n =
      let y : Exchange = passes c x n in
      let low = free_incoming_lowest y.incoming (fours_stay c x n four).incoming in
      by_found (free_incoming y.incoming) (λ f. (p : ℕ) × LowestAt (FreeAt y) p)
      (λ p e. (p, (lowest (free_incoming y.incoming) _ (FreeAt y) low (λ j. test.is_free _) p).0 e))
      (λ e.
      absurd (low.nowhere.0 e takes.free.place takes.free.within
      ((test.is_free _).1 (kept_on side.incoming c x takes.free.place (λ o. o.stage ≡ Free) (free_on c) takes.free.so n))))

  -- the message once block k + 1 was kept, n bytes in all
  abbrev opened : ℕ → ℕ → Arriving
  opened k n = open_from (header_at h (length d) (suc k)) n

  -- its place then: the last block completes it
  abbrev held : ℕ → Bool → ℕ → Incoming
  held k t n = record { header = header_at h (length d) 1; stage = cond t (Complete n) (Open (opened k n)) }

  -- and before block k + 1: it is free, or so many ticks have passed since the block before
  abbrev Before : ℕ → Incoming → Type 0
  Before zero o = o.stage ≡ Free
  Before (suc k) o = (n : ℕ) × (o ≡ open_at c (header_at h (length d) 1) (opened k (length (joined h d (suc k)))) n)

  -- own places, numbers, what is being sent and the reports that wait are as n ticks alone leave them
  abbrev Box : ℕ → ℕ → Exchange → Type 0
  Box k n y = beyond y ≡ beyond (passes c x n)

  -- the flag of a place whose message is complete
  flagged : (p : ℕ) (t : Bool) → incoming_flags p t false ≡ raised side.incoming p t
  flagged p true = refl
  flagged p false = no_incoming_flag p

  module _ (p : ℕ) (low : LowestAt (FreeAt (passes c x (ticks_before pauses 1))) p) where
    -- elsewhere no open message has its system bytes
    none_there : (n : ℕ) (y : Exchange) → Beside side.incoming p (passes c x n) y → (j : ℕ) → j < 4 → j ≢ p → Alike h (incoming_place y j) → ⊥
    none_there n y beside j less ne w = none_alike n j less (subst (Alike h) (beside.others side.incoming j (λ e. ne)) w)

    -- the first block takes the place
    first_kept : (t : Bool) (y : Exchange) (room : List ℕ) → 0 < block_count (length d) → eqb 1 (block_count (length d)) ≡ t
        → Fours y → New c y (header_in h d 1) → Beside side.incoming p (passes c x (ticks_before pauses 1)) y → (incoming_place y p).stage ≡ Free
        → Box 0 (ticks_before pauses 1) y
        → KeptFor side.incoming y p (header_in h d 1) (held 0 t (length (joined h d 1))) t (kept_in room (message.Incoming p) (length (joined h d 0)) (data_in h d 1))
        (Box 1 (ticks_before pauses 1)) (judge_of c y (header_in h d 1) (data_in h d 1) room)
    unfolding header_at joined
    first_kept t y room some e fours new beside free box =
        let b : List ℕ = header_in h d 1 in
        let src : List ℕ = data_in h d 1 in
        let g : Header = header_of b in
        let says : g ≡ header_at h (length d) 1 = said h d i short 1 some in
        let fit = fits_at h d i short 0 some in
        let none : (j : ℕ) → j < 4 → Alike h (incoming_place y j) → ⊥ =
        λ j less w.
        by_place_lem j p (λ s. false≢true (sym (ap is_open free) ∙ subst (λ m. is_open (incoming_place y m).stage ≡ true) s w.0))
        (λ ne. none_there (ticks_before pauses 1) y beside j less ne w) in
        let primary : NewPrimary c y b src =
        record {
          new = new;
          no_reply = no_reply (ticks_before pauses 1) y (owns_beside beside) 1 some;
          no_message = λ w. none w.place w.within (alike_taken _ 1 some w.so);
          begins = rw says (record { odd = odd; starts = inl refl });
          has_data = fit.has_data;
          fits = omega (arith, fit.fits);
        } in
        let judges =
        (place_taken c y b src room fours primary).free
        (λ w. none w.place w.within (w.so.0, w.so.1 ∙ ap (λ (a : Header). a.system) says)) p
        (record {
          within = low.within;
          so = free;
          none_below = λ j less f. low.none_below j less (subst (λ (o : Incoming). o.stage ≡ Free) (beside.others side.incoming j (λ s m. omega arith)) f);
        }) in
        let ends : g.e ≡ t = ends_at h d i short 1 some ∙ e in
        let size : length src ≡ length (joined h d 1) = omega (arith, one_more h d 0) in
        subst (KeptFor side.incoming y p b (held 0 t (length (joined h d 1))) t (kept_in room (message.Incoming p) 0 src) (Box 1 (ticks_before pauses 1))) (sym judges)
        (record {
          note = refl;
          latest = y.numbers.latest;
          comes = record {
            own = refl;
            incoming =
                ap (incoming_put y.incoming p)
                (ap (λ (a : Header). begun_with a (length src)) says
                ∙ (λ m. record { header = header_at h (length d) 1; stage = cond (e m) (Complete (size m)) (Open (opened 0 (size m))) }));
            saved = refl;
            latest = refl;
            flags = ap (λ (u : Bool). incoming_flags p u false) ends ∙ flagged p t;
            bytes = refl;
          };
          box = box;
        })

    -- a later one continues the message
    next_kept : (k : ℕ) (t : Bool) (y : Exchange) (room : List ℕ) → suc k < block_count (length d) → eqb (suc (suc k)) (block_count (length d)) ≡ t
        → Fours y → New c y (header_in h d (suc (suc k))) → Beside side.incoming p (passes c x (ticks_before pauses (suc (suc k)))) y → Before (suc k) (incoming_place y p)
        → Box (suc k) (ticks_before pauses (suc (suc k))) y
        → KeptFor side.incoming y p (header_in h d (suc (suc k))) (held (suc k) t (length (joined h d (suc (suc k))))) t
        (kept_in room (message.Incoming p) (length (joined h d (suc k))) (data_in h d (suc (suc k))))
        (Box (suc (suc k)) (ticks_before pauses (suc (suc k)))) (judge_of c y (header_in h d (suc (suc k))) (data_in h d (suc (suc k))) room)
    unfolding header_at
    next_kept k t y room less e fours new beside before box = record {
      note = note;
      latest = y.numbers.latest;
      comes = comes t ends;
      box = stays ∙ box;
    }
      where
        b : List ℕ
        b = header_in h d (suc (suc k))

        src : List ℕ
        src = data_in h d (suc (suc k))

        fit : Fits (header_of b) (length (joined h d (suc k))) src
        fit = fits_at h d i short (suc k) less

        says : header_of b ≡ header_at h (length d) (suc (suc k))
        says = said h d i short (suc (suc k)) less

        none : ReplyHere y (header_of b) → ⊥
        none = no_reply (ticks_before pauses (suc (suc k))) y (owns_beside beside) (suc (suc k)) less

        -- of the open messages this one
        this : LowestAt (λ j. OfMessage (incoming_place y j) (header_of b)) p
        this = record {
          within = low.within;
          so =
              subst (λ (o : Incoming). OfMessage o (header_of b)) (sym before.1)
              (goes_on_lem _ refl (rw says (continues_at h (length d) (suc k) (length (joined h d (suc k))))));
          none_below = λ j under w.
              none_there (ticks_before pauses (suc (suc k))) y beside j (omega (arith, low.within)) (λ m. omega arith) (alike_taken _ (suc (suc k)) less w);
        }

        there : MessageHere y (header_of b)
        there = record { place = p; within = low.within; so = this.so }

        have : bytes_before y (header_of b) ≡ length (joined h d (suc k))
        have = (bytes_before_lem y (header_of b) fours).message none p this ∙ ap incoming_length before.1

        goes : MessageGoes y b src room p (length (joined h d (suc k))) (judge_of c y b src room)
        goes = subst (λ (n : ℕ). MessageGoes y b src room p n (judge_of c y b src room)) have (message_block_lem c y b src room fours new none p this)

        size : length (joined h d (suc k)) + length src ≡ length (joined h d (suc (suc k)))
        size = sym (one_more h d (suc k))

        note : noted (judge_of c y b src room) ≡ 21
        note =
            (notes_exactly c y b src room fours 21).1
            (kept new (inr (inl there)) fit.has_data (omega (arith, have, fit.fits)) (inr (inl there)))

        comes : (t : Bool) → (header_of b).e ≡ t
            → Comes (judge_of c y b src room) (incoming_behind y b p (held (suc k) t (length (joined h d (suc (suc k)))))) (raised side.incoming p t)
            (kept_in room (message.Incoming p) (length (joined h d (suc k))) src)
        comes true f =
            comes_to refl (ap (incoming_put y.incoming p) (λ m. record { header = (before.1 m).header; stage = Complete (size m) })) refl refl (goes.complete fit f)
        comes false f =
            comes_to refl (ap (incoming_put y.incoming p) (λ m. record { header = (before.1 m).header; stage = Open (open_from (says m) (size m)) })) refl refl (goes.more fit f)

        ends : (header_of b).e ≡ t
        ends = ends_at h d i short (suc (suc k)) less ∙ e

        -- it is of no reply, and nothing is reported of it
        stays : beyond (judge_of c y b src room).answer.exchange ≡ beyond y
        stays =
            let w = comes t ends in
            let s =
            (box_goes c y b src room fours).stays (λ r. none (record { place = r.place; within = r.of_it.within; so = r.of_it.so }))
            (kept_causes_none c b _ note) in
            λ m. record {
              own = w.own m;
              incoming = [];
              saved = None;
              numbers = record { last = s.0 m; latest = w.latest m };
              sending = s.1 m;
              reports = s.2 m;
            }

    judged : (k : ℕ) (t : Bool) (y : Exchange) (room : List ℕ) → k < block_count (length d) → eqb (suc k) (block_count (length d)) ≡ t
        → Fours y → New c y (header_in h d (suc k)) → Beside side.incoming p (passes c x (ticks_before pauses (suc k))) y → Before k (incoming_place y p)
        → Box k (ticks_before pauses (suc k)) y
        → KeptFor side.incoming y p (header_in h d (suc k)) (held k t (length (joined h d (suc k)))) t
        (kept_in room (message.Incoming p) (length (joined h d k)) (data_in h d (suc k))) (Box (suc k) (ticks_before pauses (suc k))) (judge_of c y (header_in h d (suc k)) (data_in h d (suc k)) room)
    judged zero = first_kept
    judged (suc k) = next_kept k

    -- T4 has not run out
    later : (k : ℕ) (y : Exchange) → suc k < block_count (length d) → incoming_place y p ≡ held k false (length (joined h d (suc k)))
        → Before (suc k) (incoming_place (passes c y (pauses (suc (suc k)))) p)
    later k y less e =
        let a : Arriving = opened k (length (joined h d (suc k))) in
        let n : ℕ = pauses (suc (suc k)) in
        let m : 0 + n ≤ c.t4.0 = omega (arith, t4 (suc (suc k)) (omega arith) less) in
        (0 + n, counts side.incoming c y p (open_at c (header_at h (length d) 1) a) c.t4.0 (open_on c (header_at h (length d) 1) a) 0 e n m)

    -- the ticks leave the same of the same
    box_later : (k n : ℕ) (y : Exchange) → suc k < block_count (length d) → ticks_before pauses (suc k) ≡ n → Beside side.incoming p (passes c x n) y
        → incoming_place y p ≡ held k false (length (joined h d (suc k))) → Box (suc k) n y
        → Box (suc k) (n + pauses (suc (suc k))) (passes c y (pauses (suc (suc k))))
    box_later k n y less e beside here box =
        beyond_ticks c (passes c x n) y box (pauses (suc (suc k))) ∙ ap beyond (passes_more c x n (pauses (suc (suc k))))

    assembled : (room : List ℕ) → length room ≡ 36864 → Assembled c pauses x h d (received c pauses (receiver_of x room) h d (block_count (length d)))
    unfolding incoming_reading wanted header_at
    assembled room whole =
        let free : FreeAt (passes c x (pauses 1)) p = subst (λ (n : ℕ). FreeAt (passes c x n) p) (ticks_first pauses) low.so in
        let w = complete side.incoming c pauses x four p low.within h d i q short takes.new held Before free later Box refl box_later judged room whole in
        let outbox = ap outbox_of w.box in
        record {
          place = p;
          within = low.within;
          free = free;
          notes = w.notes;
          flags = w.flags;
          primary = header_at h (length d) 1;
          complete = rw w.here;
          same = same_header h (length d) 1;
          bytes = w.bytes;
          others = λ j ne. w.beside.others side.incoming j (λ e. ne);
          owns = owns_beside w.beside;
          outbox = outbox;
          unreported = λ n. outbox ∙ quiet c x _ n;
          saved = w.saved;
        }

pub assembly_of_cut : AssemblyOfCut
assembly_of_cut c t w pauses room h d whole i q odd short takes t4 =
    let four = four_places t.exchange (sound_reached c t w) in
    let even = evens c t w in
    let p = free_then c pauses t.exchange four even h d i q odd short takes t4 (ticks_before pauses 1) in
    assembled c pauses t.exchange four even h d i q odd short takes t4 p.0 p.1 room whole
