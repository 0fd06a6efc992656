-- What is proved of the definitions of this crate, over all tables of four places. Each proof is in `proofs/`.
use Rattle.std.specs.Prelude.{ℕ, zero, suc, ◌+◌, ◌*◌, ◌%◌, ◌≤◌, ◌<◌, ◌≡◌, Bool, true, false, List, [], ◌∷◌, ◌↔◌, ◌⊎◌, length, get_or, replicate, Option, Some, None}
use Rattle.header.specs.declared.header.Header.{Header}
use Rattle.settings.specs.declared.terms.Terms.{Terms}
use Rattle.place.specs.Own.{fresh_own, own_is_free, own_tick, own_takes, primary_of as own_primary}
use Rattle.place.specs.Incoming.{fresh_incoming, incoming_is_free, incoming_is_open, incoming_tick, incoming_takes, primary_of as incoming_primary}
use Rattle.place.specs.declared.Own.{Own}
use Rattle.place.specs.declared.OwnStage.TheVariants.{Sending}
use Rattle.place.specs.declared.Incoming.{Incoming}
use Rattle.table.specs.Find.{first_of}
use Rattle.table.specs.Own.{own_at, own_put, ticked_own, free_own, reply_for}
use Rattle.table.specs.Incoming.{incoming_at, incoming_put, ticked_incoming, free_incoming, message_for, open_alike}
use Rattle.table.specs.Number.{following, next_number}

-- ---- a table

-- Places 0 to 3 are read and put by `at` and `put`; one outside is as a free one, which `fresh` is, and none is put there.
pub record IsTable {A : Type 0} (fresh : A) (at : List A → ℕ → A) (put : List A → ℕ → A → List A) (l : List A) : Type 0 where
  -- what is put at a place is there, and every other place is as it was
  pub there : (p : ℕ) (a : A) → p < 4 → at (put l p a) p ≡ a
  pub elsewhere : (p q : ℕ) (a : A) → (q ≡ p → ⊥) → at (put l p a) q ≡ at l q
  pub still_four : (p : ℕ) (a : A) → length (put l p a) ≡ 4
  -- outside
  pub as_free : (p : ℕ) → 4 ≤ p → at l p ≡ fresh
  pub unchanged : (p : ℕ) (a : A) → 4 ≤ p → put l p a ≡ l

-- "own places 0 to 3, then incoming places 0 to 3": each is as a tick of its own leaves it
pub record TicksEach {A : Type 0} (at : List A → ℕ → A) (tick : A → A) (l ticked : List A) : Type 0 where
  pub each : (p : ℕ) → p < 4 → at ticked p ≡ tick (at l p)
  pub still_four : length ticked ≡ 4

-- "up to 4 own transactions open"
abbrev pub OwnTable : Type 0
OwnTable = (os : List Own) (c : Terms) → length os ≡ 4 → IsTable fresh_own own_at own_put os × TicksEach own_at (own_tick c) os (ticked_own c os)

-- "4 incoming areas"
abbrev pub IncomingTable : Type 0
IncomingTable = (is : List Incoming) (c : Terms) → length is ≡ 4 → IsTable fresh_incoming incoming_at incoming_put is × TicksEach incoming_at (incoming_tick c) is (ticked_incoming c is)

-- ---- which place is found

-- What was found of n places is the lowest that is meant: place p exactly if it is meant and no lower one is, nowhere exactly if none
-- of them is.
pub record Lowest (n : ℕ) (Meant : ℕ → Type 0) (found : Option ℕ) : Type 0 where
  pub at : (p : ℕ) → (found ≡ Some p) ↔ ((p < n) × Meant p × ((q : ℕ) → q < p → Meant q → ⊥))
  pub nowhere : (found ≡ None) ↔ ((q : ℕ) → q < n → Meant q → ⊥)

-- in any list of marks, the lowest that is marked
abbrev pub FoundExactly : Type 0
FoundExactly = (marks : List Bool) → Lowest (length marks) (λ p. get_or marks p false ≡ true) (first_of marks)

-- "A primary takes the lowest free own place."
abbrev pub FreeOwnLowest : Type 0
FreeOwnLowest = (os : List Own) → length os ≡ 4 → Lowest 4 (λ p. own_is_free (own_at os p) ≡ true) (free_own os)

-- rule 3: the place whose reply the block continues or begins
abbrev pub ReplyLowest : Type 0
ReplyLowest = (os : List Own) (h : Header) → length os ≡ 4 → Lowest 4 (λ p. own_takes (own_at os p) h ≡ true) (reply_for os h)

-- rule 6: "the lowest free incoming place; note 25 exactly if all four are in use"
abbrev pub FreeIncomingLowest : Type 0
FreeIncomingLowest = (is : List Incoming) → length is ≡ 4 → Lowest 4 (λ p. incoming_is_free (incoming_at is p) ≡ true) (free_incoming is)

-- rule 3: the place whose open message the block continues
abbrev pub MessageLowest : Type 0
MessageLowest = (is : List Incoming) (h : Header) → length is ≡ 4 → Lowest 4 (λ p. incoming_takes (incoming_at is p) h ≡ true) (message_for is h)

-- rule 6: "the system bytes of an open (not yet complete) incoming one"
abbrev pub Alike : Header → Incoming → Type 0
Alike h i = (incoming_is_open i ≡ true) × ((incoming_primary i).system ≡ h.system)

abbrev pub OpenAlikeLowest : Type 0
OpenAlikeLowest = (is : List Incoming) (h : Header) → length is ≡ 4 → Lowest 4 (λ p. Alike h (incoming_at is p)) (open_alike is h)

-- ---- transaction numbers

-- "the next after the last given, 65,535 being followed by 1"
abbrev pub FollowingNumber : Type 0
FollowingNumber = (following 65535 ≡ 1) × ((n : ℕ) → n < 65535 → following n ≡ n + 1)

-- the k-th after n
unfoldable pub number_after : ℕ → ℕ → ℕ
number_after zero n = n
number_after (suc k) n = number_after k (following n)

-- m is the number, which is the lower half of the system bytes, "in an own place in use"
pub record InUse (os : List Own) (m : ℕ) : Type 0 where
  pub place : ℕ
  pub within : place < length os
  pub not_free : own_is_free (own_at os place) ≡ false
  pub number : (own_primary (own_at os place)).system % 65536 ≡ m

-- "passing over any number in an own place in use and that of the latest own transaction to get a verdict"
abbrev pub PassedOver : List Own → ℕ → ℕ → Type 0
PassedOver os latest m = (m ≡ latest) ⊎ InUse os m

-- m is the first number after n that is not passed over, and one of the next k: each before it is passed over
pub record FirstLeft (k : ℕ) (Over : ℕ → Type 0) (n m : ℕ) : Type 0 where
  pub count : ℕ
  pub some : 1 ≤ count
  pub few : count ≤ k
  pub there : number_after count n ≡ m
  pub before : (j : ℕ) → 1 ≤ j → j < count → Over (number_after j n)
  pub left : Over m → ⊥

-- The number given is the first one left after the last, and never 0.
pub record Given (os : List Own) (last latest m : ℕ) : Type 0 where
  pub first : FirstLeft 6 (PassedOver os latest) last m
  pub not_zero : 1 ≤ m
  pub fits : m ≤ 65535

abbrev pub NumberGiven : Type 0
NumberGiven = (os : List Own) (last latest : ℕ) → length os ≡ 4 → last ≤ 65535 → Given os last latest (next_number os last latest)

-- The first two of E4 6.8.1, as docs/EXCEPTIONS.md has them: "The system bytes of a primary message must be distinct from"
pub record Distinct (os : List Own) (latest system : ℕ) : Type 0 where
  -- "those of all currently open transactions initiated from the same end": of every own place in use, one with a verdict too
  pub from_open : (p : ℕ) → p < 4 → own_is_free (own_at os p) ≡ false → system ≡ (own_primary (own_at os p)).system → ⊥
  -- "those of the most recently completed transaction": of the latest own one to get a verdict, whatever its source was
  pub from_latest : system % 65536 ≡ latest → ⊥

-- "System bytes: the caller's 16-bit source ID, then the number."
abbrev pub SystemDistinct : Type 0
SystemDistinct =
    (os : List Own) (source last latest : ℕ) → length os ≡ 4 → last ≤ 65535
    → Distinct os latest (source * 65536 + next_number os last latest)

-- ---- the row of 01's proved table, "number after 65,535 is 1, or 2 while 1 is held"

abbrev pub all_free : List Own
all_free = replicate 4 fresh_own

-- place 0 is in use with system bytes 1
abbrev pub one_held : List Own
one_held = record { header = 0 ∷ 0 ∷ 0 ∷ 0 ∷ 0 ∷ 0 ∷ 0 ∷ 0 ∷ 0 ∷ 1 ∷ []; stage = Sending } ∷ replicate 3 fresh_own

pub record NumberTable : Type 0 where
  pub after_65535 : next_number all_free 65535 0 ≡ 1
  pub while_1_is_held : next_number one_held 65535 0 ≡ 2
  pub first_of_all : next_number all_free 0 0 ≡ 1
