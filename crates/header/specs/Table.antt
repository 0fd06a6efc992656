-- The two headers of 01's listing ("Bench program and proved table"), and their bytes there; and one in which each byte is another.
use Rattle.std.specs.Prelude.{ℕ, ◌≡◌, true, false, List, [], ◌∷◌}
use Rattle.header.specs.Header.{header_bytes, header_of}
use Rattle.header.specs.declared.header.Header.{Header}

-- S1F1 from the host to device 1, a reply wanted, source ID 0, transaction number 1
abbrev pub primary : Header
primary = record { r = false; device = 1; w = true; stream = 1; function = 1; e = true; number = 1; system = 1 }

-- the tool's reply to it, S1F2
abbrev pub reply : Header
reply = record { r = true; device = 1; w = false; stream = 1; function = 2; e = true; number = 1; system = 1 }

-- no two of its ten bytes are alike, so that none can stand for another
abbrev pub unlike : Header
unlike = record { r = true; device = 0x1234; w = true; stream = 0x56; function = 0x79; e = true; number = 0x2BCD; system = 0x01020304 }

abbrev pub unlike_bytes : List ℕ
unlike_bytes = 0x92 ∷ 0x34 ∷ 0xD6 ∷ 0x79 ∷ 0xAB ∷ 0xCD ∷ 0x01 ∷ 0x02 ∷ 0x03 ∷ 0x04 ∷ []

pub record HeaderTable : Type 0 where
  pub primary_bytes : header_bytes primary ≡ 0x00 ∷ 0x01 ∷ 0x81 ∷ 0x01 ∷ 0x80 ∷ 0x01 ∷ 0x00 ∷ 0x00 ∷ 0x00 ∷ 0x01 ∷ []
  pub reply_bytes : header_bytes reply ≡ 0x80 ∷ 0x01 ∷ 0x01 ∷ 0x02 ∷ 0x80 ∷ 0x01 ∷ 0x00 ∷ 0x00 ∷ 0x00 ∷ 0x01 ∷ []
  pub unlike_bytes_lem : header_bytes unlike ≡ unlike_bytes
  pub unlike_read : header_of unlike_bytes ≡ unlike
