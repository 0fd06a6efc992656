-- The header that is saved for rule 2 (01, "Messages"), over every list of calls from a fresh start. An onlooker keeps one too, by what is
-- called and answered alone, and rule 2 goes by that one. Each proof is in `proofs/SavedHeader.antt`.
use Rattle.std.specs.Prelude.{ℕ, ◌≡◌, true, cond, ◌||◌, List, ◌↔◌, eqb, length, Option, Some, None}
use Rattle.header.specs.Header.{header_of}
use Rattle.settings.specs.declared.terms.Terms.{Terms}
use Rattle.place.specs.Message.{Routed}
use Rattle.exchange.specs.Judge.{judge_of}
use Rattle.exchange.specs.Rules.{Fours, noted}
use Rattle.exchange.specs.History.{Call, block, tick, put_out, acknowledged, failed, request, called, track, at_start}
use Rattle.exchange.specs.Watching.{watch}
use Rattle.exchange.specs.declared.Exchange.{Exchange}

-- ---- what the onlooker keeps

-- nothing yet, "none at a start"; or the ten header bytes of a block
pub data SavedSeen : Type 0 where
  none : SavedSeen
  ten : (h : List ℕ) → SavedSeen

-- A block with header bytes h was noted n. 1: "note 22, saved header kept". 2: "note 23 .. Otherwise the header is saved, even if the block
-- is thrown out below."
abbrev pub saved_by : ℕ → SavedSeen → List ℕ → SavedSeen
saved_by n s h = cond (eqb n 22 || eqb n 23) s (ten h)

-- only a block is saved: no time, no block of ours, no end of a send and no request touches what is
abbrev pub saved_sees : Terms → Exchange → List ℕ → SavedSeen → Call → SavedSeen
saved_sees c x room s (block h d) = saved_by (noted (judge_of c x h d room)) s h
saved_sees c x room s tick = s
saved_sees c x room s put_out = s
saved_sees c x room s acknowledged = s
saved_sees c x room s failed = s
saved_sees c x room s (request r) = s

abbrev pub saved_watch : Terms → ℕ → List ℕ → List Call → SavedSeen
saved_watch c last room ks = watch c (saved_sees c) (at_start last room) none ks

-- ---- what the state saves

-- it is this one
abbrev pub IsSaved : Option (List ℕ) → SavedSeen → Type 0
IsSaved v none = v ≡ None
IsSaved v (ten h) = v ≡ Some h

-- where it is the one that the onlooker keeps, so it is after any call more
abbrev pub SavedOn : Type 0
SavedOn =
    (c : Terms) (x : Exchange) (room : List ℕ) (s : SavedSeen) (k : Call)
    → IsSaved x.saved s → IsSaved (called c x room k).exchange.saved (saved_sees c x room s k)

-- ---- rule 2

-- "Duplicate check on and all ten bytes of the header equal the saved one", of a block that rule 1 lets pass
pub record Repeats (c : Terms) (s : SavedSeen) (h : List ℕ) : Type 0 where
  pub routed : Routed c (header_of h)
  pub check : c.duplicates ≡ true
  pub same : s ≡ ten h

-- "note 23": exactly of such a block, where the one saved is the one that the onlooker keeps
abbrev pub RepeatsOn : Type 0
RepeatsOn =
    (c : Terms) (x : Exchange) → Fours x → (s : SavedSeen) → IsSaved x.saved s → (h d room : List ℕ)
    → (noted (judge_of c x h d room) ≡ 23) ↔ Repeats c s h

-- ---- any calls from a fresh start

pub record SavedRight (c : Terms) (x : Exchange) (s : SavedSeen) : Type 0 where
  -- the state saves the header of the last block that was noted neither 22 nor 23, none before the first
  pub saved : IsSaved x.saved s
  -- and the next block is a duplicate exactly if it repeats that one
  pub duplicate : (h d room : List ℕ) → (noted (judge_of c x h d room) ≡ 23) ↔ Repeats c s h

abbrev pub SavedExactly : Type 0
SavedExactly =
    (c : Terms) (last : ℕ) (room : List ℕ) → length room ≡ 36864 → (ks : List Call)
    → SavedRight c (track c (at_start last room) ks).exchange (saved_watch c last room ks)
