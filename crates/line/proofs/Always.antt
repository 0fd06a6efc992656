-- What holds after any calls from a fresh start, and of one call more. Assumes nothing.
use Prim.Native.Nat.{ℕ}
use mathlib.Core.Path.{◌≡◌, refl, subst}
use mathlib.Core.List.{List, [], ◌∷◌}
use mathlib.Core.Bool.{Bool}
use native.Mathlib.Omega.{arith}
use lib.ListN.{length}
use Rattle.line.specs.Line.{line_at}
use Rattle.line.specs.History.{Call, Ours, ours_at, theirs_at, Track, next, track, answered, at_start, called}
use Rattle.line.specs.Theorems.{Reached}
use Rattle.line.proofs.Invariant.{At, Free, Holds, Good, Kept, step}
use Rattle.line.specs.declared.phase.Phase.{Phase}
use Rattle.settings.specs.declared.limits.Limits.{Limits}

-- one call, from what the onlooker has seen
step_seen :
    (c : Limits) (h : Bool) (p : Phase) (rs : List ℕ) (o : Ours) (d th : Bool) (w e r : ℕ) (bs : List ℕ) (q : ℕ) (k : Call)
    → o ≡ ours_at p → th ≡ theirs_at p → d ≡ h → At c p w e r (length bs) q → Free p h → length rs ≡ 256 → Holds p rs bs
    → Kept c (record { ours = o; owed = d; waited = w; enqs = e; theirs = th; took = r; bytes = bs; silent = q }) k (called c (line_at h p) rs k)
step_seen c h p rs o d th w e r bs q k eo et ed g f m x = rw (eo, et, ed) (step c h p rs w e r bs q k g f m x)

pub one_more : (c : Limits) (t : Track) (k : Call) → Good c t → Kept c t.seen k (answered c t k)
one_more c t k g =
    let s = t.seen in
    step_seen c t.line.held t.line.phase t.received s.ours s.owed s.theirs s.waited s.enqs s.took s.bytes s.silent k
    g.ours g.theirs g.owed g.counts g.free g.room g.bytes

all_calls : (c : Limits) (t : Track) (ks : List Call) → Good c t → Good c (track c t ks)
unfolding track
all_calls c t [] g = g
all_calls c t (k ∷ ks) g = all_calls c (next c t k) ks (one_more c t k g).good

pub always : (c : Limits) (t : Track) → Reached c t → Good c t
always c t w =
    subst (Good c) w.so
    (all_calls c (at_start w.received) w.calls
    (record { ours = refl; theirs = refl; owed = refl; counts = omega arith; free = tt; room = w.room; bytes = tt }))

-- one call more
pub after_one : (c : Limits) (t : Track) → Reached c t → (k : Call) → Kept c t.seen k (answered c t k)
after_one c t w k = one_more c t k (always c t w)
