-- Closed runs: the handshake codes as bytes on the wire, the listing of 01 as the line sees it, and the row of 01's proved table
-- that is the line's, "804 ticks for RTY 3 and T2 100".
use Rattle.std.specs.Prelude.{ℕ, ◌≡◌, List, [], ◌∷◌, ◌++◌, Bool, false, replicate}
use Rattle.std.proofs.Common.{lit<}
use Rattle.line.specs.Codes.{bytes_out, note_of}
use Rattle.settings.specs.Limits.{limits_of}
use Rattle.line.specs.Line.{fresh_line}
use Rattle.line.specs.History.{Call, byte, tick, drained, ask, settle, called, none, left, answered, history}
use Rattle.line.specs.Theorems.{send_limit}
use Rattle.line.specs.declared.phase.Fault.TheVariants.{Length, Sum}
use Rattle.line.specs.declared.step.Told.TheVariants as told
use Rattle.line.specs.declared.step.Remark.TheVariants as remark
use Rattle.settings.specs.declared.limits.Limits.{Limits}
use Rattle.line.specs.declared.line.Line.{Line}

-- T1 5, T2 50 and RTY 3 on the panel, as in 01's listing
abbrev pub panel : Bool → Limits
panel master = limits_of (record { t1 = record { 0 = 5 }; t2 = record { 0 = 50 }; rty = 3; master = master })

abbrev pub blank : List ℕ
blank = replicate 256 0

-- all bytes that leave, call by call, `block` being those of the block that is sent
unfoldable pub all_out : Limits → List ℕ → Line → List ℕ → List Call → List ℕ
all_out c block l rs [] = []
all_out c block l rs (k ∷ ks) = bytes_out block (called c l rs k).step.out ++ all_out c block (called c l rs k).step.line (called c l rs k).received ks

abbrev pub fresh : Bool → List ℕ → List Call → List ℕ
fresh master block ks = all_out (panel master) block fresh_line blank ks

-- the first block of 01's listing, as it stands on the wire
abbrev pub primary : List ℕ
primary = 0x0A ∷ 0x00 ∷ 0x01 ∷ 0x81 ∷ 0x01 ∷ 0x80 ∷ 0x01 ∷ 0x00 ∷ 0x00 ∷ 0x00 ∷ 0x01 ∷ 0x01 ∷ 0x05 ∷ []

-- the second, byte by byte, as it comes in
abbrev pub reply : List Call
reply =
    byte 0x0C (lit< tt) ∷ byte 0x80 (lit< tt) ∷ byte 0x01 (lit< tt) ∷ byte 0x01 (lit< tt) ∷ byte 0x02 (lit< tt) ∷ byte 0x80 (lit< tt) ∷ byte 0x01 (lit< tt) ∷ byte 0x00 (lit< tt) ∷ byte 0x00 (lit< tt) ∷ byte 0x00 (lit< tt) ∷ byte 0x01 (lit< tt) ∷ byte 0x01 (lit< tt) ∷ byte 0x00 (lit< tt) ∷ byte 0x01 (lit< tt) ∷ byte 0x07 (lit< tt) ∷ []

-- "The handshake codes are ENQ 05, EOT 04, ACK 06 and NAK 15 (hex)."
pub record CodesTable : Type 0 where
  pub unasked : fresh false [] (settle ∷ tick ∷ drained ∷ []) ≡ []
  pub enq : fresh false [] (ask ∷ settle ∷ []) ≡ 0x05 ∷ []
  pub eot : fresh false [] (byte 0x05 (lit< tt) ∷ []) ≡ 0x04 ∷ []
  pub ack : fresh false [] (byte 0x05 (lit< tt) ∷ reply) ≡ 0x04 ∷ 0x06 ∷ []
  pub nak : fresh false [] (byte 0x05 (lit< tt) ∷ replicate 101 tick) ≡ 0x04 ∷ 0x15 ∷ []
  pub eot_taken : fresh false primary (ask ∷ settle ∷ byte 0x04 (lit< tt) ∷ []) ≡ 0x05 ∷ primary
  pub ack_taken : (history (panel false) blank (ask ∷ settle ∷ byte 0x04 (lit< tt) ∷ drained ∷ byte 0x06 (lit< tt) ∷ [])).seen.ours ≡ none

-- "20 nothing, .. and with a NAK 28 no length in T2, 29 gap in body, 30 bad length, 31 bad sum"
pub record NotesTable : Type 0 where
  pub nothing : note_of remark.Nothing ≡ 20
  pub no_length : note_of remark.NoLength ≡ 28
  pub gap : note_of remark.Gap ≡ 29
  pub bad_length : note_of (remark.Bad Length) ≡ 30
  pub bad_sum : (received counted : ℕ) → note_of (remark.Bad (Sum received counted)) ≡ 31

-- 01's listing: a primary goes out, and its reply comes in. Between the calls of the unit the line settles.
abbrev pub listing : List Call
listing = ask ∷ settle ∷ byte 0x04 (lit< tt) ∷ settle ∷ drained ∷ settle ∷ byte 0x06 (lit< tt) ∷ settle ∷ byte 0x05 (lit< tt) ∷ settle ∷ (reply ++ (settle ∷ []))

abbrev pub ListingOut : Type 0
ListingOut = fresh false primary listing ≡ 0x05 ∷ (primary ++ (0x04 ∷ 0x06 ∷ []))

-- EOT at the last moment, and no ACK
unfoldable pub attempt : List Call
attempt = replicate 100 tick ++ (byte 0x04 (lit< tt) ∷ drained ∷ replicate 100 tick)

-- four attempts, but for the tick that ends the last
unfoldable pub four_attempts : List Call
four_attempts = ask ∷ settle ∷ (attempt ++ (tick ∷ (attempt ++ (tick ∷ (attempt ++ (tick ∷ attempt))))))

-- "804 ticks for RTY 3 and T2 100": the limit, and a run that meets it
pub record LimitMet : Type 0 where
  pub limit : send_limit (panel false) ≡ 804
  pub before : (history (panel false) blank four_attempts).seen.waited ≡ 803
  pub under_way_lem : (history (panel false) blank four_attempts).seen.ours ≡ left
  pub four_enqs : (history (panel false) blank four_attempts).seen.enqs ≡ 4
  pub fails : (answered (panel false) (history (panel false) blank four_attempts) tick).step.told ≡ told.Failed
  pub met : (history (panel false) blank (four_attempts ++ (tick ∷ []))).seen.waited ≡ 804
  pub over : (history (panel false) blank (four_attempts ++ (tick ∷ []))).seen.ours ≡ none
