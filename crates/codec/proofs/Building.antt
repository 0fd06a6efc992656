-- The four writes of a block: length byte, header, data, sum. Assumes nothing.
use Rattle.std.proofs.Common.{◌≡◌, ℕ, ◌+◌, ◌≤◌, List, [], ◌∷◌, ◌++◌, length, refl, ap, ◌∙◌, arith, length-append}
use Rattle.wire.specs.Bytes.{halves_of}
use Rattle.wire.specs.Lent.{put_at, on_front}
use Rattle.wire.specs.Sum.{checksum_of}
use Rattle.block.specs.Block.{framed}
use Rattle.wire.proofs.Lent.{front_put}

-- into an output that has room for them
pub built : (h d out a b c e first last : List ℕ) → length h ≡ 10 → 13 + length d ≤ length out → first ≡ length (h ++ d) ∷ [] → last ≡ halves_of (checksum_of (h ++ d))
    → a ≡ put_at out 0 first → b ≡ put_at a 1 h → c ≡ put_at b 11 d → e ≡ put_at c (10 + length d + 1) last → e ≡ on_front (framed (h ++ d)) out
unfolding framed on_front
built h d out a b c e first last ten room f l p q r s =
    let x : List ℕ = length (h ++ d) ∷ [] in
    let t : List ℕ = halves_of (checksum_of (h ++ d)) in
    let m = length-append h d in
    let p' : a ≡ on_front x out = p ∙ ap (put_at out 0) f ∙ front_put out [] x 0 refl (omega arith) in
    let q' : b ≡ on_front (x ++ h) out = q ∙ rw p' (front_put out x h 1 refl (omega arith)) in
    let r' : c ≡ on_front (x ++ (h ++ d)) out = r ∙ rw q' (front_put out (x ++ h) d 11 (omega arith) (omega arith)) in
    s ∙ rw (r', l) (front_put out (x ++ (h ++ d)) t (10 + length d + 1) (omega arith) (omega arith))
