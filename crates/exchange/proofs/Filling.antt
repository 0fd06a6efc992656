-- Areas that begin with certain bytes, and what writing into the room leaves of them. Assumes nothing.
use Prim.Native.Nat.{ℕ, ◌+◌, ◌≤◌, ◌<◌}
use mathlib.Core.Path.{◌≡◌, refl, ap, ◌∙◌, subst}
use mathlib.Core.Bool.{false}
use mathlib.Core.List.{List, [], ◌∷◌, ◌++◌}
use native.Mathlib.Omega.{arith}
use lib.ListN.{length, length-append}
use borrow.Author.Tests.{ltb-false}
use Rattle.wire.specs.Message.{message_limit}
use Rattle.room.specs.Room.{place_of, kept_in, front}
use Rattle.room.proofs.Keeping.{keep_joins, keep_elsewhere, keeps_only}
use Rattle.room.proofs.Reading.{front_length}
use Rattle.room.specs.declared.Message.{Message}
use Rattle.exchange.specs.Request.{data_long}
use Rattle.exchange.specs.Theorems.{StartsWith}

-- the area begins with bs, which are no more than it holds
pub record Fills (room : List ℕ) (m : Message) (n : ℕ) (bs : List ℕ) : Type 0 where
  pub begins : StartsWith room m n bs
  pub few : n ≤ message_limit

-- the room is written, if at all, in the area of m alone
pub record Spares (room after : List ℕ) (m : Message) : Type 0 where
  pub whole : length after ≡ 36864
  pub others : (o : Message) (n : ℕ) (bs : List ℕ) → (m ≡ o → ⊥) → place_of o < 4 → Fills room o n bs → Fills after o n bs

pub spares_same : (room : List ℕ) (m : Message) → length room ≡ 36864 → Spares room room m
spares_same room m w = record { whole = w; others = λ o n bs d k f. f }

pub spares_kept : (room : List ℕ) (m : Message) (o : ℕ) (d : List ℕ) → length room ≡ 36864 → Spares room (kept_in room m o d) m
spares_kept room m o d w =
    record {
      whole = (keeps_only room m o d).size ∙ w;
      others = λ other n bs ne k f. record {
        begins = record { size = f.begins.size; bytes = keep_elsewhere room m other o n d ne k f.few ∙ f.begins.bytes };
        few = f.few;
      };
    }

no_bytes : (l : List ℕ) → length l ≡ 0 → l ≡ []
no_bytes [] e = refl
no_bytes (x ∷ l) e = absurd (omega arith)

-- nothing is kept yet
pub fills_none : (room : List ℕ) (m : Message) → length room ≡ 36864 → place_of m < 4 → Fills room m 0 []
fills_none room m w k =
    record { begins = record { size = refl; bytes = no_bytes (front room m 0) (front_length room m 0 w k (omega arith)) }; few = omega arith }

-- data kept behind what there is
pub fills_more : (room : List ℕ) (m : Message) (n : ℕ) (bs d : List ℕ) → length room ≡ 36864 → place_of m < 4 → n + length d ≤ message_limit
    → Fills room m n bs → Fills (kept_in room m n d) m (n + length d) (bs ++ d)
fills_more room m n bs d w k fits f =
    record {
      begins = record {
        size = omega (arith, f.begins.size, length-append bs d);
        bytes = keep_joins room m n d (record { whole = w; place = k; within = fits }) ∙ ap (λ (l : List ℕ). l ++ d) f.begins.bytes;
      };
      few = fits;
    }

-- data kept from the start on
pub fills_first : (room : List ℕ) (m : Message) (d : List ℕ) → length room ≡ 36864 → place_of m < 4 → length d ≤ message_limit
    → Fills (kept_in room m 0 d) m (length d) d
fills_first room m d w k fits =
    let z : 0 + length d ≡ length d = omega arith in
    subst (λ n. Fills (kept_in room m 0 d) m n d) z (fills_more room m 0 [] d w k (omega arith) (fills_none room m w k))

-- data that is not refused by 6 fits an area
pub fits_area : (d : List ℕ) → data_long (length d) ≡ false → length d ≤ message_limit
unfolding data_long
fits_area d e = ltb-false message_limit (length d) e
