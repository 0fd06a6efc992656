-- What is proved of reading a line, over all inputs: `specs/Command.antt` says what 01 says, and what is printed for a number is one. The
-- proofs are in `proofs/ReadingRules.antt` and `proofs/Lines.antt`. Which lines are read as what is `specs/Lines.antt`; that fields, numbers
-- and bytes are read exactly if a text says them is proved in crate `text`.
use Rattle.std.specs.Prelude.{ℕ, ◌≤◌, ◌≡◌, List, Some, None}
use Rattle.text.specs.Number.{number_of}
use Rattle.text.specs.Theorems.{Says}
use Rattle.script.specs.Command.{line_read}
use Rattle.script.specs.Printed.{number_text}

-- what is printed for a number, whichever it is, says that number, and up to 100,000 reads back as the same
pub record NumberSaid (n : ℕ) : Type 0 where
  pub says : Says (number_text n) n
  pub reads : n ≤ 100000 → number_of (number_text n) ≡ Some n

abbrev pub NumberReads : Type 0
NumberReads = (n : ℕ) → NumberSaid n

-- a line that can't be read leaves every byte of the memory that was lent for its bytes: none is done in part
abbrev pub UnreadLeaves : Type 0
UnreadLeaves = (line bytes : List ℕ) → (line_read line bytes).command ≡ None → (line_read line bytes).bytes ≡ bytes
