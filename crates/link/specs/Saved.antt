-- The header that is saved for rule 2 (01, "Messages"), over every list of the unit's calls from a start, refused ones among them
-- (`specs/History.antt`). The onlooker is that of exchange/specs/SavedHeader.antt, at the unit's door: it goes by the blocks that went up
-- (`GoesUp`, specs/Moves.antt: which bytes on the line these are, is `ToldExactly` and `WentUpExactly`, specs/Device.antt) and by the notes
-- that were answered. Each proof is in `proofs/saved/`.
use Rattle.std.specs.Prelude.{ℕ, ◌≡◌, List, [], ◌∷◌, ◌↔◌, ◌⊎◌, ◌≢◌}
use Rattle.exchange.specs.History as exchange
use Rattle.exchange.specs.SavedHeader.{SavedSeen, none, ten, saved_by, IsSaved, Repeats}
use Rattle.link.specs.History.{Made, Track, terms_in, on_exchange_in, next, at_start}
use Rattle.link.specs.Inside.{Reached}
use Rattle.link.specs.Moves.{noted, GoesUp}

-- ---- what the onlooker keeps

-- of a call that answered note n, and told the transactions this: a block that went up is the one that is noted
abbrev pub saved_told : ℕ → SavedSeen → exchange.Call → SavedSeen
saved_told n s (exchange.block h d) = saved_by n s h
saved_told n s exchange.tick = s
saved_told n s exchange.put_out = s
saved_told n s exchange.acknowledged = s
saved_told n s exchange.failed = s
saved_told n s (exchange.request r) = s

unfoldable pub saved_among : ℕ → SavedSeen → List exchange.Call → SavedSeen
saved_among n s [] = s
saved_among n s (k ∷ ks) = saved_among n (saved_told n s k) ks

abbrev pub saved_sees : Track → SavedSeen → Made → SavedSeen
saved_sees t s m = saved_among (noted t m) s (on_exchange_in t m)

-- That is: the ten header bytes of a block that went up and was noted neither 22 nor 23; where none did, what it kept before.
pub record SavedMoves (t : Track) (m : Made) (s : SavedSeen) : Type 0 where
  pub saves : (h d : List ℕ) → GoesUp t m h d → noted t m ≢ 22 → noted t m ≢ 23 → saved_sees t s m ≡ ten h
  pub stays : ((h d : List ℕ) → GoesUp t m h d → (noted t m ≡ 22) ⊎ (noted t m ≡ 23)) → saved_sees t s m ≡ s

abbrev pub SavedGoes : Type 0
SavedGoes = (t : Track) (m : Made) (s : SavedSeen) → SavedMoves t m s

-- any calls
unfoldable pub saved_watch : Track → SavedSeen → List Made → SavedSeen
saved_watch t s [] = s
saved_watch t s (m ∷ ms) = saved_watch (next t m) (saved_sees t s m) ms

-- those from the start: "none at a start"
abbrev pub saved_seen : (t : Track) → Reached t → SavedSeen
saved_seen t w = saved_watch (at_start w.settings w.setup.last w.room) none w.calls

-- ---- rule 2

-- "Duplicate check on and all ten bytes of the header equal the saved one": so with a block that went up in this call, and that rule 1
-- lets pass
pub record RepeatsLast (t : Track) (m : Made) (s : SavedSeen) : Type 0 where
  pub header : List ℕ
  pub rest : List ℕ
  pub up : GoesUp t m header rest
  pub repeats : Repeats (terms_in t) s header

pub record SavedRight (t : Track) (s : SavedSeen) : Type 0 where
  -- the unit saves the one that the onlooker keeps
  pub saved : IsSaved t.link.exchange.saved s
  -- "note 23": a call answers it exactly if its block repeats that one
  pub duplicate : (m : Made) → (noted t m ≡ 23) ↔ RepeatsLast t m s

abbrev pub SavedExactly : Type 0
SavedExactly = (t : Track) (w : Reached t) → SavedRight t (saved_seen t w)
