use Rattle.std.proofs.Common.{◌≡◌, take}
use Rattle.wire.specs.Sum.{checksum_of}
use Rattle.wire.proofs.sum.checksum.Given as goal

-- the sum is that of the bytes passed
abbrev pub invariant-loop-byte : goal.invariant-loop-byte
invariant-loop-byte l = l.sum ≡ checksum_of (take l.byte-index l.bytes)
