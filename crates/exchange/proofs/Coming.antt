-- The blocks that are cut from a message come one after the other, with ticks between them, and each is kept for one place: what holds of
-- a primary in an incoming place and of a reply in an own one. Assumes nothing.
use Rattle.std.specs.Prelude.{Option, Some}
use Prim.Native.Nat.{ℕ, zero, suc, ◌+◌, ◌-◌, ◌≤◌, ◌<◌}
use mathlib.Core.Path.{◌≡◌, refl, sym, ap, subst, ◌∙◌}
use mathlib.Core.Bool.{Bool, true, false}
use mathlib.Core.List.{List, [], ◌∷◌, ◌++◌}
use native.Mathlib.Nat.{zero-add}
use native.Mathlib.Omega.{arith}
use lib.Dec.{eqb}
use lib.ListN.{length, replicate}
use borrow.Author.Tests.{eq-eqb, ne_eqb}
use Rattle.wire.specs.Message.{message_limit}
use Rattle.header.specs.Header.{InRange}
use Rattle.header.specs.declared.header.Header.{Header}
use Rattle.settings.specs.declared.terms.Terms.{Terms}
use Rattle.cut.specs.Blocks.{block_count}
use Rattle.cut.specs.Theorems.{joined}
use Rattle.cut.proofs.Counts.{count_is_fewest}
use Rattle.cut.proofs.Cutting.{cut_joined}
use Rattle.room.specs.Room.{place_of, kept_in, front}
use Rattle.place.specs.Message.{Routed}
use Rattle.place.specs.declared.Own.{Own}
use Rattle.place.specs.declared.Incoming.{Incoming}
use Rattle.table.specs.Own.{own_at}
use Rattle.table.specs.Incoming.{incoming_at}
use Rattle.exchange.specs.Flags.{no_flags, verdict_flag, incoming_flags}
use Rattle.exchange.specs.Judge.{Judging, judge_of}
use Rattle.exchange.specs.Rules.{Fours, Duplicate, New, noted, Comes, CausesNone}
use Rattle.exchange.specs.Releases.{Side}
use Rattle.exchange.specs.Releases as side
use Rattle.exchange.specs.Assembly.{header_in, data_in, Receiver, receiver_of, passes, rests, receives, received, ticks_before, ticks_alone}
use Rattle.exchange.specs.declared.Flags.{Flags}
use Rattle.exchange.specs.declared.Exchange.{Exchange}
use Rattle.exchange.proofs.Repeated.{more}
use Rattle.exchange.proofs.Boxes.{no_cause}
use Rattle.exchange.proofs.Sides.{Place, place}
use Rattle.exchange.proofs.Holding.{area}
use Rattle.exchange.proofs.Blocks.{routed_at, differ}
use Rattle.exchange.proofs.Growing.{filling, kept_front}
use Rattle.exchange.proofs.Alike.{bytes_saved}
use Rattle.exchange.proofs.Passing.{saved_stays, fours_stay, passes_more, Beside, itself, beside_ticks, put_block, put_fours, put_there, beside_put}

-- the ticks before the first block
pub ticks_first : (pauses : ℕ → ℕ) → ticks_before pauses 1 ≡ pauses 1
unfolding ticks_before
ticks_first pauses = zero-add (pauses 1)

-- those before the blocks up to k are among those before the blocks up to k + n
pub ticks_among : (pauses : ℕ → ℕ) (k n : ℕ) → ticks_before pauses k ≤ ticks_before pauses (k + n)
unfolding ticks_before
ticks_among pauses k zero = let e : k + 0 ≡ k = omega arith in rw e (omega arith)
ticks_among pauses k (suc n) =
    let e : k + suc n ≡ suc (k + n) = omega arith in
    rw e (omega (arith, ticks_among pauses k n))

-- ---- one block

-- the flags that a block raises which is kept for place p on side z: the last one of its message raises that of the place
abbrev pub raised : Side → ℕ → Bool → Flags
raised z p false = no_flags
raised side.own p true = verdict_flag p true
raised side.incoming p true = incoming_flags p true false

-- It is kept for this place, which is o then; b are its header bytes, t says whether it is the last, and `latest` is the number of
-- the latest verdict then. `Box` is what is said of the last number given, of what is being sent and of the reports that wait.
pub record KeptFor (z : Side) (y : Exchange) (p : ℕ) (b : List ℕ) (o : Place z) (t : Bool) (left : List ℕ) (Box : Exchange → Type 0) (j : Judging) : Type 0 where
  pub note : noted j ≡ 21
  pub latest : ℕ
  pub comes : Comes j (put_block z y b p o latest) (raised z p t) left
  pub box : Box j.answer.exchange

-- the places are the same, in other words
pub comes_to : {j : Judging} {x y : Exchange} {f : Flags} {left : List ℕ} → x.own ≡ y.own → x.incoming ≡ y.incoming → x.saved ≡ y.saved
    → x.numbers.latest ≡ y.numbers.latest → Comes j x f left → Comes j y f left
comes_to own incoming saved latest w = record {
  own = w.own ∙ own;
  incoming = w.incoming ∙ incoming;
  saved = w.saved ∙ saved;
  latest = w.latest ∙ latest;
  flags = w.flags;
  bytes = w.bytes;
}

-- place by place
placed : {j : Judging} {y : Exchange} {f : Flags} {left : List ℕ} → Comes j y f left → (s : Side) (q : ℕ) → place s j.answer.exchange q ≡ place s y q
placed w side.own q = ap (λ (l : List Own). own_at l q) w.own
placed w side.incoming q = ap (λ (l : List Incoming). incoming_at l q) w.incoming

-- nothing is reported of a block that is kept
pub kept_causes_none : (c : Terms) (h : List ℕ) (n : ℕ) → n ≡ 21 → CausesNone c h n
kept_causes_none c h n e r w = no_cause (λ f. omega arith) (λ f. omega arith) w

-- The receiver once k + 1 blocks came, all for this place, which is o: b are the last header bytes, and x is what the ticks alone leave.
record Came (z : Side) (x : Exchange) (p : ℕ) (b : List ℕ) (o : Place z) (k : ℕ) (t : Bool) (left : List ℕ) (Box : Exchange → Type 0) (r : Receiver) : Type 0 where
  here : place z r.exchange p ≡ o
  beside : Beside z p x r.exchange
  box : Box r.exchange
  fours : Fours r.exchange
  saved : r.exchange.saved ≡ Some b
  bytes : r.room ≡ left
  notes : r.notes ≡ replicate (suc k) 21
  flags : r.flags ≡ replicate k no_flags ++ (raised z p t ∷ [])

-- ---- all of them

-- The message is complete in this place, which is o: b are the last header bytes.
pub record Complete (z : Side) (x : Exchange) (p : ℕ) (b d : List ℕ) (o : Place z) (Box : Exchange → Type 0) (r : Receiver) : Type 0 where
  pub here : place z r.exchange p ≡ o
  pub beside : Beside z p x r.exchange
  pub box : Box r.exchange
  pub saved : r.exchange.saved ≡ Some b
  pub bytes : front r.room (area z p) (length d) ≡ d
  pub notes : r.notes ≡ replicate (block_count (length d)) 21
  pub flags : r.flags ≡ replicate (block_count (length d) - 1) no_flags ++ (raised z p true ∷ [])

area_place : (z : Side) (p : ℕ) → p < 4 → place_of (area z p) < 4
area_place side.own p less = less
area_place side.incoming p less = less

module _ (z : Side) (c : Terms) (pauses : ℕ → ℕ) (x : Exchange) (four : Fours x) (p : ℕ) (within : p < 4)
    (h : Header) (d : List ℕ) (i : InRange h) (q : Routed c h) (short : length d ≤ message_limit) (new : Duplicate c x (header_in h d 1) → ⊥)
    -- the place once k + 1 blocks with n bytes came, t says whether these are all
    (held : ℕ → Bool → ℕ → Place z)
    -- and what is asked of it before block k + 1
    (Before : ℕ → Place z → Type 0)
    (first : Before 0 (place z (passes c x (pauses 1)) p))
    (later : (k : ℕ) (y : Exchange) → suc k < block_count (length d) → place z y p ≡ held k false (length (joined h d (suc k)))
    → Before (suc k) (place z (passes c y (pauses (suc (suc k)))) p))
    -- what is said of the last number given, of what is being sent and of the reports that wait, once k blocks came and n ticks passed
    (Box : ℕ → ℕ → Exchange → Type 0)
    (box_first : Box 0 (pauses 1) (passes c x (pauses 1)))
    (box_later : (k n : ℕ) (y : Exchange) → suc k < block_count (length d) → ticks_before pauses (suc k) ≡ n
    → Beside z p (passes c x n) y → place z y p ≡ held k false (length (joined h d (suc k)))
    → Box (suc k) n y → Box (suc k) (n + pauses (suc (suc k))) (passes c y (pauses (suc (suc k)))))
    -- then the block is kept
    (judged : (k : ℕ) (t : Bool) (y : Exchange) (room : List ℕ) → k < block_count (length d) → eqb (suc k) (block_count (length d)) ≡ t
    → Fours y → New c y (header_in h d (suc k)) → Beside z p (passes c x (ticks_before pauses (suc k))) y → Before k (place z y p)
    → Box k (ticks_before pauses (suc k)) y
    → KeptFor z y p (header_in h d (suc k)) (held k t (length (joined h d (suc k)))) t (kept_in room (area z p) (length (joined h d k)) (data_in h d (suc k)))
    (Box (suc k) (ticks_before pauses (suc k))) (judge_of c y (header_in h d (suc k)) (data_in h d (suc k)) room))
    (room : List ℕ) (whole : length room ≡ 36864)
  where
    -- the receiver after block k + 1
    abbrev After : ℕ → Bool → Receiver → Type 0
    After k t r =
        Came z (passes c x (ticks_before pauses (suc k))) p (header_in h d (suc k)) (held k t (length (joined h d (suc k)))) k t (filling room (area z p) h d (suc k))
        (Box (suc k) (ticks_before pauses (suc k))) r

    -- and before it, the ticks being over
    one_more : (k : ℕ) (t : Bool) (r : Receiver) → k < block_count (length d) → eqb (suc k) (block_count (length d)) ≡ t
        → Fours r.exchange → New c r.exchange (header_in h d (suc k)) → Beside z p (passes c x (ticks_before pauses (suc k))) r.exchange → Before k (place z r.exchange p)
        → Box k (ticks_before pauses (suc k)) r.exchange → r.room ≡ filling room (area z p) h d k → r.notes ≡ replicate k 21 → r.flags ≡ replicate k no_flags
        → After k t (receives c r (header_in h d (suc k)) (data_in h d (suc k)))
    unfolding filling
    one_more k t r less e fours fresh beside before box bytes notes flags =
        let b : List ℕ = header_in h d (suc k) in
        let o : Place z = held k t (length (joined h d (suc k))) in
        let w = judged k t r.exchange r.room less e fours fresh beside before box in
        let four = put_fours p r.exchange b w.latest z o fours in
        record {
          here = placed w.comes z p ∙ put_there p r.exchange b w.latest z o fours within;
          beside = record { others = λ s j ne. placed w.comes s j ∙ (beside_put p r.exchange b w.latest z o _ beside).others s j ne };
          box = w.box;
          fours = record { own = ap length w.comes.own ∙ four.own; incoming = ap length w.comes.incoming ∙ four.incoming };
          saved = w.comes.saved;
          bytes = w.comes.bytes ∙ ap (λ (l : List ℕ). kept_in l (area z p) (length (joined h d k)) (data_in h d (suc k))) bytes;
          notes = (λ j. notes j ++ (w.note j ∷ [])) ∙ more 21 k;
          flags = λ j. flags j ++ (w.comes.flags j ∷ []);
        }

    -- a header that is not the saved one is no duplicate
    another : (y : Exchange) (k : ℕ) → suc k < block_count (length d) → y.saved ≡ Some (header_in h d (suc k)) → New c y (header_in h d (suc (suc k)))
    another y k less e = record {
      routed = routed_at h d i short c (suc (suc k)) less q;
      no_duplicate = λ u.
          differ h d i short (suc k) (suc (suc k)) (omega arith) less (λ z. omega arith) (ap (λ (s : Option (List ℕ)). bytes_saved s) (sym e ∙ u.same));
    }

    -- by induction
    arrives : (k : ℕ) (t : Bool) → k < block_count (length d) → eqb (suc k) (block_count (length d)) ≡ t → After k t (received c pauses (receiver_of x room) h d (suc k))
    unfolding received filling ticks_before
    arrives zero t less e =
        one_more 0 t (rests c (pauses 1) (receiver_of x room)) less e (fours_stay c x (pauses 1) four)
        (record {
          routed = routed_at h d i short c 1 less q;
          no_duplicate = λ u.
              new (record {
                check = u.check;
                same = sym (saved_stays c x (pauses 1)) ∙ u.same;
              });
        })
        (subst (λ (n : ℕ). Beside z p (passes c x n) (passes c x (pauses 1))) (sym (ticks_first pauses)) (itself z p (passes c x (pauses 1))))
        first (subst (λ (n : ℕ). Box 0 n (passes c x (pauses 1))) (sym (ticks_first pauses)) box_first) refl refl refl
    arrives (suc k) t less e =
        let n : ℕ = pauses (suc (suc k)) in
        let r : Receiver = received c pauses (receiver_of x room) h d (suc k) in
        let w = arrives k false (omega arith) (ne_eqb (suc k) (block_count (length d)) (λ z. omega arith)) in
        one_more (suc k) t (rests c n r) less e (fours_stay c r.exchange n w.fours)
        (another (passes c r.exchange n) k less (saved_stays c r.exchange n ∙ w.saved))
        (subst (λ (y : Exchange). Beside z p y (passes c r.exchange n)) (passes_more c x (ticks_before pauses (suc k)) n)
        (beside_ticks z p c _ r.exchange w.beside n))
        (later k r.exchange less w.here) (box_later k _ r.exchange less refl w.beside w.here w.box)
        w.bytes w.notes (w.flags ∙ more no_flags k)

    pub complete :
        Complete z (ticks_alone c pauses d x) p (header_in h d (block_count (length d))) d (held (block_count (length d) - 1) true (length d))
        (Box (block_count (length d)) (ticks_before pauses (block_count (length d)))) (received c pauses (receiver_of x room) h d (block_count (length d)))
    complete =
        let v = count_is_fewest (length d) in
        let k : ℕ = block_count (length d) - 1 in
        let e : suc (block_count (length d) - 1) ≡ block_count (length d) = omega arith in
        let w = arrives k true (omega arith) (eq-eqb (suc k) (block_count (length d)) e) in
        let all : joined h d (suc k) ≡ d = ap (joined h d) e ∙ cut_joined h d (omega arith) in
        subst (λ (m : ℕ). Complete z (passes c x (ticks_before pauses m)) p (header_in h d m) d (held k true (length d)) (Box m (ticks_before pauses m)) (received c pauses (receiver_of x room) h d m)) e
        (record {
          here = w.here ∙ ap (λ (l : List ℕ). held k true (length l)) all;
          beside = w.beside;
          box = w.box;
          saved = w.saved;
          bytes = rw w.bytes (rw all at (kept_front room whole (area z p) (area_place z p within) h d i short (suc k) (omega arith)));
          notes = w.notes ∙ ap (λ (m : ℕ). replicate m 21) e;
          flags = w.flags;
        })
