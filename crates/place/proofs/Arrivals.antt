-- A message that is arriving (`specs/Arriving.antt`) against what an onlooker has seen of it, for a reply to us and for a message of the
-- far end alike: its blocks, a tick, and its ranges. Assumes nothing.
use Rattle.std.specs.Prelude.{Option, Some, None}
use Prim.Native.Nat.{ℕ, ◌+◌, ◌≤◌, ◌<◌}
use mathlib.Core.Path.{◌≡◌, refl, sym, subst, ◌∙◌}
use mathlib.Core.Bool.{Bool, true, false, false≢true}
use mathlib.Core.List.{List, [], ◌∷◌, ◌++◌}
use mathlib.Core.Logic.{◌↔◌, ◌⊎◌, ⊎_elim}
use native.Mathlib.Omega.{arith}
use lib.ListN.{length}
use borrow.Author.Tests.{le-leb}
use Rattle.wire.specs.Message.{message_limit, next_limit}
use Rattle.header.specs.Theorems.{SameElse}
use Rattle.header.specs.declared.header.Header.{Header}
use Rattle.settings.proofs.Timers.{by_timer}
use Rattle.settings.specs.declared.terms.Terms.{Terms}
use Rattle.place.specs.Arriving.{kind_of, arriving_from, arriving_after, waited_by, arriving_tick, continues_arriving}
use Rattle.place.specs.Fate.{fate_of}
use Rattle.place.specs.Message.{Routed, StartsMessage, Continuing, Continues, first_of, Whole, Begun}
use Rattle.place.specs.Range.{timer_in_range, length_in_range, arriving_in_range}
use Rattle.place.specs.declared.Arriving.{Arriving}
use Rattle.place.specs.declared.Fate.{Fate}
use Rattle.place.specs.declared.Fate.TheVariants.{Empty, TooLong, Last, More}
use Rattle.place.proofs.Messages.{one_longer, first_more, begun_first, whole_first, begun_more, whole_more, none_not_whole, begun_not_whole, number_first, number_one, continues, same_else, by_fate}

-- ---- the onlooker's part

-- what an onlooker has seen of a message: the headers of the blocks kept, their data bytes in all, whether one broke it, and the ticks
-- since the last block kept
pub record Arrived : Type 0 where
  pub kept : List Header
  pub bytes : ℕ
  pub spoilt : Bool
  pub quiet : ℕ

-- one block more, of so many bytes, is kept
abbrev pub keeps : Arrived → Header → ℕ → Arrived
keeps s b size = record { kept = s.kept ++ (b ∷ []); bytes = s.bytes + size; spoilt = s.spoilt; quiet = 0 }

-- 0.1 s later
abbrev pub waits : Arrived → Arrived
waits s = record { kept = s.kept; bytes = s.bytes; spoilt = s.spoilt; quiet = s.quiet + 1 }

-- ---- what holds while the message arrives

-- what is known of it is what its first block says, which passed rule 1; timer, next number and length are as the onlooker counts them;
-- each block had data
pub record Arrives (c : Terms) (a : Arriving) (s : Arrived) : Type 0 where
  pub begun : Begun s.kept
  pub routed : Routed c (first_of s.kept)
  pub number : a.next ≡ length s.kept + 1
  pub kind : a.kind ≡ kind_of (first_of s.kept)
  pub size : a.length ≡ s.bytes
  pub unspoilt : s.spoilt ≡ false
  pub full : length s.kept ≤ s.bytes
  pub room : s.bytes ≤ message_limit
  pub quiet : s.quiet ≡ a.timer
  pub within : a.timer ≤ c.t4.0

-- a message that arrives is not whole, and nothing broke it
pub not_whole : {c : Terms} {a : Arriving} {s : Arrived} → Arrives c a s → Whole s.kept → ⊥
not_whole {s} g = begun_not_whole s.kept g.begun

pub not_broken : {c : Terms} {a : Arriving} {s : Arrived} → Arrives c a s → (s.spoilt ≡ true) ⊎ (c.t4.0 < s.quiet) → ⊥
not_broken g = ⊎_elim (λ t. false≢true (sym g.unspoilt ∙ t)) (λ late. omega (arith, g.quiet, g.within))

-- ---- a block

-- block b is the first of a message, or the next of one that arrives
pub record Joins (c : Terms) (s : Arrived) (b : Header) : Type 0 where
  pub routed : Routed c b
  pub unspoilt : s.spoilt ≡ false
  pub not_yet : Whole s.kept → ⊥
  pub same : SameElse b (first_of (s.kept ++ (b ∷ [])))
  pub last : b.e ≡ true → Whole (s.kept ++ (b ∷ []))
  pub more : b.e ≡ false → Begun (s.kept ++ (b ∷ []))
  pub number : b.e ≡ false → b.number ≡ length s.kept + 1
  pub full : length s.kept ≤ s.bytes

pub first_joins : (c : Terms) (s : Arrived) (b : Header) → s.kept ≡ [] → s.spoilt ≡ false → Routed c b → StartsMessage b → Joins c s b
first_joins c s b none unspoilt q start =
    record {
      routed = q;
      unspoilt = unspoilt;
      not_yet = rw none none_not_whole;
      same = rw none (record { r = refl; device = refl; w = refl; stream = refl; function = refl; system = refl });
      last = rw none (whole_first b (number_first b start));
      more = rw none (λ e. begun_first b (number_one b start e) e);
      number = rw none (number_one b start);
      full = rw none (omega arith);
    }

pub next_joins :
    (c : Terms) (a : Arriving) (s : Arrived) (b : Header) → Arrives c a s → Routed c b → Continues (first_of s.kept) (length s.kept + 1) b
    → Joins c s b
next_joins c a s b g q k =
    let same : SameElse b (first_of s.kept) = same_else c _ _ b g.routed q k in
    record {
      routed = q;
      unspoilt = g.unspoilt;
      not_yet = not_whole g;
      same = rw (first_more s.kept b g.begun.some) same;
      last = λ e. whole_more s.kept b g.begun k.number e same;
      more = λ e. begun_more s.kept b g.begun k.number e same;
      number = λ e. k.number;
      full = g.full;
    }

-- two blocks of one message say the same of it
same_kind : (a b : Header) → SameElse a b → kind_of a ≡ kind_of b
same_kind a b e = rw (e.w, e.stream, e.function)

-- what becomes of it, whatever its fate: with E = 1 the message is whole, with E = 0 it goes on arriving
pub by_join :
    (c : Terms) (s : Arrived) (b : Header) (size : ℕ) → Joins c s b → (P : Fate → Type 0)
    → P Empty
    → P TooLong
    → (Whole (s.kept ++ (b ∷ [])) → s.bytes + size ≤ message_limit → P (Last (s.bytes + size)))
    → (Arrives c (arriving_from b (s.bytes + size)) (keeps s b size) → 1 ≤ size → P (More (s.bytes + size)))
    → P (fate_of b s.bytes size)
by_join c s b size j P empty long last more =
    by_fate b s.bytes size P
    (λ lacks. empty)
    (λ has far. long)
    (λ has e fits. last (j.last e) fits)
    (λ has e fits some.
    more (record {
      begun = j.more e;
      routed = record { r = sym j.same.r ∙ j.routed.r; device = sym j.same.device ∙ j.routed.device };
      number = omega (arith, j.number e, one_longer s.kept b);
      kind = same_kind _ _ j.same;
      size = refl;
      unspoilt = j.unspoilt;
      full = omega (arith, j.full, one_longer s.kept b);
      room = fits;
      quiet = refl;
      within = omega arith;
    }) some)

-- a block continues what is known of the message exactly if it continues the blocks kept
pub continues_kept :
    (c : Terms) (a : Arriving) (s : Arrived) (id sys : ℕ) (b : Header) → Arrives c a s
    → continues_arriving id sys a b ≡ true ↔ Continuing id sys (length s.kept + 1) (kind_of (first_of s.kept)) b
continues_kept c a s id sys b g =
    subst (λ k. continues_arriving id sys a b ≡ true ↔ Continuing id sys (length s.kept + 1) k b) g.kind
    (subst (λ n. continues_arriving id sys a b ≡ true ↔ Continuing id sys n a.kind b) g.number (continues id sys a b))

-- ---- a tick

-- T4 is exceeded, or the message goes on arriving
pub by_tick :
    (c : Terms) (a : Arriving) (s : Arrived) → Arrives c a s → (P : Option Arriving → Type 0)
    → (c.t4.0 < s.quiet + 1 → P None)
    → (Arrives c (arriving_after a (a.timer + 1)) (waits s) → P (Some (arriving_after a (a.timer + 1))))
    → P (arriving_tick c a)
unfolding arriving_tick
by_tick c a s g P out on =
    by_timer c.t4 a.timer (λ t. P (waited_by a t))
    (λ late. out (omega (arith, g.quiet)))
    (λ runs. on (record {
      begun = g.begun;
      routed = g.routed;
      number = g.number;
      kind = g.kind;
      size = g.size;
      unspoilt = g.unspoilt;
      full = g.full;
      room = g.room;
      quiet = omega (arith, g.quiet);
      within = omega arith;
    }))

-- whatever was seen of the message
pub by_waited :
    (c : Terms) (a : Arriving) (P : Option Arriving → Type 0) → P None → ((timer : ℕ) → P (Some (arriving_after a timer))) → P (arriving_tick c a)
unfolding arriving_tick
by_waited c a P out on = by_timer _ _ (λ t. P (waited_by a t)) (λ late. out) (λ runs. on (a.timer + 1))

-- ---- ranges

-- "its next number is at most one above the limit", for each block had a byte
pub arriving_in_range_lem : (c : Terms) (a : Arriving) (s : Arrived) → Arrives c a s → c.t4.0 ≤ 1200 → arriving_in_range a ≡ true
unfolding arriving_in_range timer_in_range length_in_range
arriving_in_range_lem c a s g short =
    simp (
      le-leb a.timer 1200 (omega (arith, g.within)),
      le-leb a.next next_limit (omega (arith, g.number, g.full, g.room)),
      le-leb a.length message_limit (omega (arith, g.size, g.room)),
    )
