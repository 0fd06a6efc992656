-- Each note exactly when its rule says so (`specs/Rules.antt`): the note is one choice after the other on six tests. Assumes nothing.
use Rattle.std.specs.Prelude.{Option, Some, None}
use Prim.Native.Nat.{ℕ, ◌+◌, ◌<◌}
use mathlib.Core.Path.{◌≡◌, refl, sym, ap, subst, ◌∙◌}
use mathlib.Core.Bool.{Bool, true, false, cond, not, ◌||◌}
use mathlib.Core.List.{List}
use mathlib.Core.Logic.{◌↔◌}
use native.Mathlib.Omega.{arith}
use lib.ListN.{length}
use Rattle.wire.specs.Message.{message_limit}
use Rattle.wire.proofs.Choice.{judged}
use Rattle.header.specs.Header.{header_of}
use Rattle.header.specs.declared.header.Header.{Header}
use Rattle.settings.specs.declared.terms.Terms.{Terms}
use Rattle.place.specs.Message.{Routed, LacksData}
use Rattle.place.specs.Fate.{begins_primary, lacks_data, too_long, fate_of}
use Rattle.place.specs.Own.{own_kept}
use Rattle.place.specs.Incoming.{incoming_length}
use Rattle.place.proofs.Messages.{lacks}
use Rattle.place.specs.declared.Fate.TheVariants as fate
use Rattle.table.specs.Own.{reply_for}
use Rattle.table.specs.Incoming.{free_incoming, message_for, open_alike}
use Rattle.exchange.specs.Note.{note_by, note_number}
use Rattle.exchange.specs.Exchange.{own_place, incoming_place, saved_now}
use Rattle.exchange.specs.Judge.{thrown, is_misrouted, is_duplicate, reply_block, message_block, begins_at, in_free, in_place, takes_place, primary_by, primary_block, or_primary, of_message, no_reply_block, of_reply, new_block, rules_of}
use Rattle.exchange.specs.Rules.{Duplicate, New, Expected, message_bytes, reply_bytes, bytes_before, total, HasPlace, Ruled, misrouted, duplicate, stray, empty, too_long_lem, no_place, kept, noted, NotesExactly}
use Rattle.exchange.specs.declared.Note.TheVariants.{Stray}
use Rattle.exchange.specs.declared.Exchange.{Exchange}
use Rattle.exchange.proofs.Tests.{fails, of_choice}
use Rattle.exchange.proofs.Finding.{found}
use Rattle.exchange.proofs.Judging as test

-- ---- the note as a chain of choices

-- a primary finds a place, or none
abbrev pub place_note : Bool → ℕ
place_note has = cond has 21 25

-- rules 4 and 5 before that
abbrev data_note : Bool → Bool → ℕ → ℕ
data_note lacks long n = cond lacks 27 (cond long 26 n)

-- rule 3 before those
abbrev new_note : Bool → Bool → Bool → Bool → ℕ
new_note expected lacks long has = cond expected (data_note lacks long (place_note has)) 24

-- rules 1 and 2 before all
abbrev rule_note : Bool → Bool → ℕ → ℕ
rule_note routed same n = cond (not routed) 22 (cond same 23 n)

-- ---- by what becomes of the block

-- of a message that has its place
fate_by : (l t e : Bool) (n : ℕ) → note_number (note_by (cond l fate.Empty (cond t fate.TooLong (cond e (fate.Last n) (fate.More n))))) ≡ data_note l t 21
fate_by true t e n = refl
fate_by false true e n = refl
fate_by false false true n = refl
fate_by false false false n = refl

fate_note : (b : Header) (have size : ℕ) → note_number (note_by (fate_of b have size)) ≡ data_note (lacks_data b size) (too_long have size) 21
unfolding fate_of
fate_note b have size = fate_by (lacks_data b size) (too_long have size) b.e (have + size)

-- of a primary that begins
module _ (x : Exchange) (h : Header) (d room : List ℕ) where
  in_free_lem : (f : Option ℕ) (last : Bool) → noted (in_free f x h last d room) ≡ place_note (found f)
  unfolding begins_at thrown
  in_free_lem (Some p) last = refl
  in_free_lem None last = refl

  in_place_lem : (f : Option ℕ) (last : Bool) → noted (in_place f x h last d room) ≡ place_note (found f || found (free_incoming x.incoming))
  unfolding begins_at
  in_place_lem (Some p) last = refl
  in_place_lem None last = in_free_lem (free_incoming x.incoming) last

  pub takes_note : (last : Bool) → noted (takes_place x h last d room) ≡ place_note (found (open_alike x.incoming h) || found (free_incoming x.incoming))
  unfolding takes_place
  takes_note last = in_place_lem (open_alike x.incoming h) last

  -- it can take a place
  abbrev room_for : Bool
  room_for = found (open_alike x.incoming h) || found (free_incoming x.incoming)

  primary_by_lem : (l t e : Bool) (n : ℕ)
      → noted (primary_by (cond l fate.Empty (cond t fate.TooLong (cond e (fate.Last n) (fate.More n)))) x h d room) ≡ data_note l t (place_note room_for)
  unfolding thrown
  primary_by_lem true t e n = refl
  primary_by_lem false true e n = refl
  primary_by_lem false false true n = takes_note true
  primary_by_lem false false false n = takes_note false

  primary_note : noted (primary_block x h d room) ≡ data_note (lacks_data h (length d)) (too_long 0 (length d)) (place_note room_for)
  unfolding primary_block fate_of
  primary_note = primary_by_lem (lacks_data h (length d)) (too_long 0 (length d)) h.e (0 + length d)

  or_primary_lem : noted (or_primary x h d room) ≡ new_note (begins_primary h) (lacks_data h (length d)) (too_long 0 (length d)) room_for
  unfolding or_primary thrown
  or_primary_lem =
      of_choice noted (begins_primary h) (primary_block x h d room) (thrown x Stray room)
      ∙ ap (λ (n : ℕ). cond (begins_primary h) n 24) primary_note

  -- of a message, or a primary
  of_message_lem : (m : Option ℕ)
      → noted (of_message m x h d room)
      ≡ new_note (found m || begins_primary h) (lacks_data h (length d)) (too_long (message_bytes m x.incoming) (length d)) (found m || room_for)
  unfolding message_block
  of_message_lem (Some p) = fate_note h (incoming_length (incoming_place x p)) (length d)
  of_message_lem None = or_primary_lem

  -- of a reply, or one of these
  of_reply_lem : (f : Option ℕ)
      → noted (of_reply f x h d room)
      ≡ new_note (found f || (found (message_for x.incoming h) || begins_primary h)) (lacks_data h (length d))
      (too_long (reply_bytes f x.own x.incoming h) (length d)) (found f || (found (message_for x.incoming h) || room_for))
  unfolding reply_block no_reply_block
  of_reply_lem (Some p) = fate_note h (own_kept (own_place x p)).length (length d)
  of_reply_lem None = of_message_lem (message_for x.incoming h)

-- ---- the six tests of a block

abbrev is_expected : Exchange → Header → Bool
is_expected x b = found (reply_for x.own b) || (found (message_for x.incoming b) || begins_primary b)

abbrev has_place : Exchange → Header → Bool
has_place x b = found (reply_for x.own b) || (found (message_for x.incoming b) || (found (open_alike x.incoming b) || found (free_incoming x.incoming)))

-- the note of a block that passed 1 and 2
new_note_lem : (x : Exchange) (h d room : List ℕ)
    → noted (new_block (saved_now x h) (header_of h) d room)
    ≡ new_note (is_expected x (header_of h)) (lacks_data (header_of h) (length d)) (too_long (bytes_before x (header_of h)) (length d)) (has_place x (header_of h))
unfolding new_block saved_now
new_note_lem x h d room = of_reply_lem (saved_now x h) (header_of h) d room (reply_for x.own (header_of h))

-- of any block
note_by_lem : (c : Terms) (x : Exchange) (h d room : List ℕ)
    → noted (rules_of c x h d room)
    ≡ rule_note (test.is_routed c (header_of h)) (is_duplicate c x h)
    (new_note (is_expected x (header_of h)) (lacks_data (header_of h) (length d)) (too_long (bytes_before x (header_of h)) (length d)) (has_place x (header_of h)))
unfolding rules_of is_misrouted thrown
note_by_lem c x h d room =
    of_choice noted (not (test.is_routed c (header_of h))) _ _
    ∙ ap (λ (n : ℕ). cond (not (test.is_routed c (header_of h))) 22 n)
    (of_choice noted (is_duplicate c x h) _ _ ∙ ap (λ (n : ℕ). cond (is_duplicate c x h) 23 n) (new_note_lem x h d room))

-- ---- six tests that say what the rules ask

module _
    (c : Terms) (x : Exchange) (h d : List ℕ) (r u e l t p : Bool)
    (routed : r ≡ true ↔ Routed c (header_of h))
    (duplicates : u ≡ true ↔ Duplicate c x h)
    (expected : e ≡ true ↔ Expected x (header_of h))
    (lacking : l ≡ true ↔ LacksData (header_of h) (length d))
    (long : t ≡ true ↔ (message_limit < total x h d))
    (placed : p ≡ true ↔ HasPlace x (header_of h))
  where
    -- the rule of the note that they choose
    ruled : Ruled c x h d (rule_note r u (new_note e l t p))
    ruled =
        judged r routed (λ z. Ruled c x h d (rule_note z u (new_note e l t p)))
        (λ q.
        judged u duplicates (λ z. Ruled c x h d (rule_note true z (new_note e l t p))) (λ s. duplicate q s)
        (λ s.
        let new : New c x h = record { routed = q; no_duplicate = s } in
        judged e expected (λ z. Ruled c x h d (new_note z l t p))
        (λ w.
        judged l lacking (λ z. Ruled c x h d (new_note true z t p)) (λ a. empty new w a)
        (λ a.
        judged t long (λ z. Ruled c x h d (new_note true false z p)) (λ m. too_long_lem new w a m)
        (λ m.
        judged p placed (λ z. Ruled c x h d (new_note true false false z)) (λ g. kept new w a (omega arith) g) (λ g. no_place new w a (omega arith) g))))
        (λ w. stray new w)))
        (λ q. misrouted q)

    -- a block that is new, of a message, and has data
    is_new : New c x h → (n : ℕ) → rule_note r u n ≡ n
    is_new w n = rw (routed.1 w.routed, fails u _ duplicates w.no_duplicate)

    has_data : Expected x (header_of h) → (LacksData (header_of h) (length d) → ⊥) → new_note e l t p ≡ cond t 26 (place_note p)
    has_data w a = rw (expected.1 w, fails l _ lacking a)

    -- the note that they choose is the rule's
    chosen_by : {n : ℕ} → Ruled c x h d n → rule_note r u (new_note e l t p) ≡ n
    chosen_by (misrouted q) = rw (fails r _ routed q)
    chosen_by (duplicate q s) = rw (routed.1 q, duplicates.1 s)
    chosen_by (stray new w) = is_new new _ ∙ rw (fails e _ expected w)
    chosen_by (empty new w a) = is_new new _ ∙ rw (expected.1 w, lacking.1 a)
    chosen_by (too_long_lem new w a m) = is_new new _ ∙ has_data w a ∙ rw (long.1 m)
    chosen_by (no_place new w a m g) = is_new new _ ∙ has_data w a ∙ rw (fails t _ long (λ more. omega arith), fails p _ placed g)
    chosen_by (kept new w a m g) = is_new new _ ∙ has_data w a ∙ rw (fails t _ long (λ more. omega arith), placed.1 g)

pub notes_exactly : NotesExactly
notes_exactly c x h d room four n = (
  λ e. subst (Ruled c x h d) (sym (note_by_lem c x h d room) ∙ e) (ruled c x h d _ _ _ _ _ _ routed duplicates expected lacking long placed),
  λ w. note_by_lem c x h d room ∙ chosen_by c x h d _ _ _ _ _ _ routed duplicates expected lacking long placed w,
)
  where
    routed : test.is_routed c (header_of h) ≡ true ↔ Routed c (header_of h)
    routed = test.routed c (header_of h)

    duplicates : is_duplicate c x h ≡ true ↔ Duplicate c x h
    duplicates = test.duplicate c x h

    expected : is_expected x (header_of h) ≡ true ↔ Expected x (header_of h)
    expected = test.expected x four (header_of h)

    lacking : lacks_data (header_of h) (length d) ≡ true ↔ LacksData (header_of h) (length d)
    lacking = lacks (header_of h) (length d)

    long : too_long (bytes_before x (header_of h)) (length d) ≡ true ↔ (message_limit < total x h d)
    long = test.long (bytes_before x (header_of h)) (length d)

    placed : has_place x (header_of h) ≡ true ↔ HasPlace x (header_of h)
    placed = test.has_place_lem x four (header_of h)
