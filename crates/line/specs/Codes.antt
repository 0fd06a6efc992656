-- The handshake codes (E4 5.2; 01, "Block and header"), and the numbers of what a call answers.
use Rattle.std.specs.Prelude.{ℕ, List, [], ◌∷◌}
use Rattle.line.specs.declared.phase.Fault.{Fault}
use Rattle.line.specs.declared.phase.Fault.TheVariants.{Length, Sum}
use Rattle.line.specs.declared.step.Out.{Out}
use Rattle.line.specs.declared.step.Out.TheVariants.{Nothing, Code, Block}
use Rattle.line.specs.declared.step.Remark.{Remark}
use Rattle.line.specs.declared.step.Remark.TheVariants as remark

abbrev pub ENQ : ℕ
ENQ = 0x05

abbrev pub EOT : ℕ
EOT = 0x04

abbrev pub ACK : ℕ
ACK = 0x06

abbrev pub NAK : ℕ
NAK = 0x15

-- the bytes that leave, `block` being those of the block that is sent
abbrev pub bytes_out : List ℕ → Out → List ℕ
bytes_out block Nothing = []
bytes_out block (Code c) = c ∷ []
bytes_out block Block = block

-- "30 bad length, 31 bad sum"
abbrev pub fault_note : Fault → ℕ
fault_note Length = 30
fault_note (Sum received counted) = 31

-- "20 nothing", "and with a NAK 28 no length in T2, 29 gap in body". The note of a block that goes up is its judge's.
abbrev pub note_of : Remark → ℕ
note_of remark.Nothing = 20
note_of remark.GaveWay = 20
note_of remark.NoLength = 28
note_of remark.Gap = 29
note_of (remark.Bad fault) = fault_note fault
