use Rattle.std.proofs.Common.{◌≡◌, ◌+◌, ◌%◌, [], ◌∷◌, ◌++◌, length, ap, ◌∙◌, arith, length-append, rules}
use Rattle.wire.specs.Bytes.{halves_of}
use Rattle.wire.specs.Sum.{checksum_of}
use Rattle.wire.proofs.Sums.{sum_join}
use Rattle.codec.proofs.Building.{built}
use Rattle.codec.proofs.put_block.Goals as goal

-- the four writes give the block
pub returns : goal.returns
returns c =
    let h = c.args.header in
    let d = c.args.«data».now in
    let ten : length h ≡ 10 = search rules in
    let sum : (c.checksum.result + c.checksum-2.result) % 65536 ≡ checksum_of (h ++ d) = rw (c.checksum.ensures, c.checksum-2.ensures) (sum_join h d) in
    let size : 10 + length d ≡ length (h ++ d) = omega (arith, length-append h d, c.requires) in
    built h d c.args.out.now _ _ _ _ _ _ ten (omega (arith, c.requires)) (λ k. size k ∷ []) (c.halves.ensures ∙ ap halves_of sum)
    c.put.ensures c.put-2.ensures c.put-3.ensures c.put-4.ensures
