-- 01's commands ("Bench program and proved table"): a line of each, in ASCII, and lines that can't be read. Proved in
-- `proofs/Table.antt`.
use Rattle.std.specs.Prelude.{ℕ, ◌≡◌, true, false, List, [], ◌∷◌, replicate, Some}
use Rattle.script.specs.Command.{told, unread, line_read}
use Rattle.script.specs.Hex.{hex_of}
use Rattle.script.specs.Printed.{text_of}
use Rattle.script.specs.declared.Command.TheVariants.{Start, Open, Reply, ReleaseOwn, ReleaseIncoming, Bytes, Ticks, Drained, Verdict, Dropped}
use Rattle.script.specs.declared.Printed.TheVariants as printed

-- the memory that is lent for the bytes of a line
abbrev pub lent : List ℕ
lent = 1 ∷ 2 ∷ 3 ∷ []

-- each command with its fields in their order, most of them at their limits, and the bytes that it says at the front of what is lent
pub record CommandTable : Type 0 where
  -- `H 100 125 120 119 31 32767 1 65535`
  pub host : line_read (0x48 ∷ 0x20 ∷ 0x31 ∷ 0x30 ∷ 0x30 ∷ 0x20 ∷ 0x31 ∷ 0x32 ∷ 0x35 ∷ 0x20 ∷ 0x31 ∷ 0x32 ∷ 0x30 ∷ 0x20 ∷ 0x31 ∷ 0x31 ∷ 0x39 ∷ 0x20 ∷ 0x33 ∷ 0x31 ∷ 0x20 ∷ 0x33 ∷ 0x32 ∷ 0x37 ∷ 0x36 ∷ 0x37 ∷ 0x20 ∷ 0x31 ∷ 0x20 ∷ 0x36 ∷ 0x35 ∷ 0x35 ∷ 0x33 ∷ 0x35 ∷ []) lent ≡ told (Some (Start (record { host = true; t1 = record { 0 = 100 }; t2 = record { 0 = 125 }; t3 = record { 0 = 120 }; t4 = record { 0 = 119 }; rty = 31; device = 32767; duplicates = 1; last = 65535 }))) lent
  -- `E 100 125 120 119 31 32767 1 65535`
  pub equipment : line_read (0x45 ∷ 0x20 ∷ 0x31 ∷ 0x30 ∷ 0x30 ∷ 0x20 ∷ 0x31 ∷ 0x32 ∷ 0x35 ∷ 0x20 ∷ 0x31 ∷ 0x32 ∷ 0x30 ∷ 0x20 ∷ 0x31 ∷ 0x31 ∷ 0x39 ∷ 0x20 ∷ 0x33 ∷ 0x31 ∷ 0x20 ∷ 0x33 ∷ 0x32 ∷ 0x37 ∷ 0x36 ∷ 0x37 ∷ 0x20 ∷ 0x31 ∷ 0x20 ∷ 0x36 ∷ 0x35 ∷ 0x35 ∷ 0x33 ∷ 0x35 ∷ []) lent ≡ told (Some (Start (record { host = false; t1 = record { 0 = 100 }; t2 = record { 0 = 125 }; t3 = record { 0 = 120 }; t4 = record { 0 = 119 }; rty = 31; device = 32767; duplicates = 1; last = 65535 }))) lent
  -- `O 65535 1 127 255 AB`
  pub opens : line_read (0x4F ∷ 0x20 ∷ 0x36 ∷ 0x35 ∷ 0x35 ∷ 0x33 ∷ 0x35 ∷ 0x20 ∷ 0x31 ∷ 0x20 ∷ 0x31 ∷ 0x32 ∷ 0x37 ∷ 0x20 ∷ 0x32 ∷ 0x35 ∷ 0x35 ∷ 0x20 ∷ 0x41 ∷ 0x42 ∷ []) lent ≡ told (Some (Open (record { source = 65535; w = true; stream = 127; function = 255 }) 1)) (0xAB ∷ 2 ∷ 3 ∷ [])
  -- `O 9 0 2 3 -`
  pub opens_unanswered : line_read (0x4F ∷ 0x20 ∷ 0x39 ∷ 0x20 ∷ 0x30 ∷ 0x20 ∷ 0x32 ∷ 0x20 ∷ 0x33 ∷ 0x20 ∷ 0x2D ∷ []) lent ≡ told (Some (Open (record { source = 9; w = false; stream = 2; function = 3 }) 0)) lent
  -- `R 4 255 ABCD`
  pub replies : line_read (0x52 ∷ 0x20 ∷ 0x34 ∷ 0x20 ∷ 0x32 ∷ 0x35 ∷ 0x35 ∷ 0x20 ∷ 0x41 ∷ 0x42 ∷ 0x43 ∷ 0x44 ∷ []) lent ≡ told (Some (Reply 4 255 2)) (0xAB ∷ 0xCD ∷ 3 ∷ [])
  -- `L O 6`
  pub frees_own : line_read (0x4C ∷ 0x20 ∷ 0x4F ∷ 0x20 ∷ 0x36 ∷ []) lent ≡ told (Some (ReleaseOwn 6)) lent
  -- `L I 6`
  pub frees_incoming : line_read (0x4C ∷ 0x20 ∷ 0x49 ∷ 0x20 ∷ 0x36 ∷ []) lent ≡ told (Some (ReleaseIncoming 6)) lent
  -- `B AB`
  pub says_bytes : line_read (0x42 ∷ 0x20 ∷ 0x41 ∷ 0x42 ∷ []) lent ≡ told (Some (Bytes 1)) (0xAB ∷ 2 ∷ 3 ∷ [])
  -- `T 100000`
  pub says_ticks : line_read (0x54 ∷ 0x20 ∷ 0x31 ∷ 0x30 ∷ 0x30 ∷ 0x30 ∷ 0x30 ∷ 0x30 ∷ []) lent ≡ told (Some (Ticks 100000)) lent
  -- `D`
  pub drains : line_read (0x44 ∷ []) lent ≡ told (Some Drained) lent
  -- `V 255`
  pub shows : line_read (0x56 ∷ 0x20 ∷ 0x32 ∷ 0x35 ∷ 0x35 ∷ []) lent ≡ told (Some (Verdict 255)) lent
  -- `K` (02, request 2)
  pub counts : line_read (0x4B ∷ []) lent ≡ told (Some Dropped) lent

-- "W above 1; stream, function or place above 255; any other number but a count above 65,535", a count above 100,000, another letter,
-- and more than a command has; "over 1,024 bytes"
pub record LimitTable : Type 0 where
  -- `O 9 2 2 3 -`
  pub w_above_1 : line_read (0x4F ∷ 0x20 ∷ 0x39 ∷ 0x20 ∷ 0x32 ∷ 0x20 ∷ 0x32 ∷ 0x20 ∷ 0x33 ∷ 0x20 ∷ 0x2D ∷ []) lent ≡ unread lent
  -- `O 65536 1 2 3 -`
  pub source_above_65535 : line_read (0x4F ∷ 0x20 ∷ 0x36 ∷ 0x35 ∷ 0x35 ∷ 0x33 ∷ 0x36 ∷ 0x20 ∷ 0x31 ∷ 0x20 ∷ 0x32 ∷ 0x20 ∷ 0x33 ∷ 0x20 ∷ 0x2D ∷ []) lent ≡ unread lent
  -- `O 9 1 256 3 -`
  pub stream_above_255 : line_read (0x4F ∷ 0x20 ∷ 0x39 ∷ 0x20 ∷ 0x31 ∷ 0x20 ∷ 0x32 ∷ 0x35 ∷ 0x36 ∷ 0x20 ∷ 0x33 ∷ 0x20 ∷ 0x2D ∷ []) lent ≡ unread lent
  -- `O 9 1 2 256 -`
  pub function_above_255 : line_read (0x4F ∷ 0x20 ∷ 0x39 ∷ 0x20 ∷ 0x31 ∷ 0x20 ∷ 0x32 ∷ 0x20 ∷ 0x32 ∷ 0x35 ∷ 0x36 ∷ 0x20 ∷ 0x2D ∷ []) lent ≡ unread lent
  -- `R 256 5 -`
  pub place_above_255 : line_read (0x52 ∷ 0x20 ∷ 0x32 ∷ 0x35 ∷ 0x36 ∷ 0x20 ∷ 0x35 ∷ 0x20 ∷ 0x2D ∷ []) lent ≡ unread lent
  -- `R 4 256 -`
  pub reply_above_255 : line_read (0x52 ∷ 0x20 ∷ 0x34 ∷ 0x20 ∷ 0x32 ∷ 0x35 ∷ 0x36 ∷ 0x20 ∷ 0x2D ∷ []) lent ≡ unread lent
  -- `L O 256`
  pub freed_above_255 : line_read (0x4C ∷ 0x20 ∷ 0x4F ∷ 0x20 ∷ 0x32 ∷ 0x35 ∷ 0x36 ∷ []) lent ≡ unread lent
  -- `V 256`
  pub shown_above_255 : line_read (0x56 ∷ 0x20 ∷ 0x32 ∷ 0x35 ∷ 0x36 ∷ []) lent ≡ unread lent
  -- `T 100001`
  pub count_above_100000 : line_read (0x54 ∷ 0x20 ∷ 0x31 ∷ 0x30 ∷ 0x30 ∷ 0x30 ∷ 0x30 ∷ 0x31 ∷ []) lent ≡ unread lent
  -- `H 65536 2 3 4 5 6 7 8`
  pub setting_above_65535 : line_read (0x48 ∷ 0x20 ∷ 0x36 ∷ 0x35 ∷ 0x35 ∷ 0x33 ∷ 0x36 ∷ 0x20 ∷ 0x32 ∷ 0x20 ∷ 0x33 ∷ 0x20 ∷ 0x34 ∷ 0x20 ∷ 0x35 ∷ 0x20 ∷ 0x36 ∷ 0x20 ∷ 0x37 ∷ 0x20 ∷ 0x38 ∷ []) lent ≡ unread lent
  -- `H 1 2 3 4 5 6 7 65536`
  pub last_above_65535 : line_read (0x48 ∷ 0x20 ∷ 0x31 ∷ 0x20 ∷ 0x32 ∷ 0x20 ∷ 0x33 ∷ 0x20 ∷ 0x34 ∷ 0x20 ∷ 0x35 ∷ 0x20 ∷ 0x36 ∷ 0x20 ∷ 0x37 ∷ 0x20 ∷ 0x36 ∷ 0x35 ∷ 0x35 ∷ 0x33 ∷ 0x36 ∷ []) lent ≡ unread lent
  -- `X`
  pub no_such_letter : line_read (0x58 ∷ []) lent ≡ unread lent
  -- `d`
  pub small_letter : line_read (0x64 ∷ []) lent ≡ unread lent
  -- `L X 1`
  pub neither_own_nor_incoming : line_read (0x4C ∷ 0x20 ∷ 0x58 ∷ 0x20 ∷ 0x31 ∷ []) lent ≡ unread lent
  -- `D 1`
  pub more_than_drained : line_read (0x44 ∷ 0x20 ∷ 0x31 ∷ []) lent ≡ unread lent
  -- `K 1`, and `K` with a space behind it (02, request 2)
  pub more_than_dropped : line_read (0x4B ∷ 0x20 ∷ 0x31 ∷ []) lent ≡ unread lent
  pub space_behind_dropped : line_read (0x4B ∷ 0x20 ∷ []) lent ≡ unread lent
  -- `T`, a space and 1,022 zeros; one zero more, which is a number as well
  pub of_1024_bytes : line_read (0x54 ∷ 0x20 ∷ replicate 1022 0x30) lent ≡ told (Some (Ticks 0)) lent
  pub of_1025_bytes : line_read (0x54 ∷ 0x20 ∷ replicate 1023 0x30) lent ≡ unread lent

-- hex in upper case: the sixteen digits
abbrev pub DigitTable : Type 0
DigitTable = hex_of (0x01 ∷ 0x23 ∷ 0x45 ∷ 0x67 ∷ 0x89 ∷ 0xAB ∷ 0xCD ∷ 0xEF ∷ []) ≡ 0x30 ∷ 0x31 ∷ 0x32 ∷ 0x33 ∷ 0x34 ∷ 0x35 ∷ 0x36 ∷ 0x37 ∷ 0x38 ∷ 0x39 ∷ 0x41 ∷ 0x42 ∷ 0x43 ∷ 0x44 ∷ 0x45 ∷ 0x46 ∷ []

-- `K n`, decimal, at both ends of its range (02, request 2): `K 0`, `K 4294967295`
pub record CountTable : Type 0 where
  pub least : text_of (printed.Dropped 0) [] ≡ 0x4B ∷ 0x20 ∷ 0x30 ∷ 0x0A ∷ []
  pub most : text_of (printed.Dropped 4294967295) [] ≡ 0x4B ∷ 0x20 ∷ 0x34 ∷ 0x32 ∷ 0x39 ∷ 0x34 ∷ 0x39 ∷ 0x36 ∷ 0x37 ∷ 0x32 ∷ 0x39 ∷ 0x35 ∷ 0x0A ∷ []
