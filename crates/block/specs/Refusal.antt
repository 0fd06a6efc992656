-- The refusals of a block alone, and each one's number in 01's table ("Refusal numbers and notes").
use Rattle.std.specs.Prelude.{ℕ}
use Rattle.block.specs.declared.Refusal.{Refusal}
use Rattle.block.specs.declared.Refusal.TheVariants.{OutputShort, BlockLength, ChecksumDiffers}

abbrev pub refusal_number : Refusal → ℕ
refusal_number OutputShort = 1
refusal_number BlockLength = 12
refusal_number ChecksumDiffers = 13
