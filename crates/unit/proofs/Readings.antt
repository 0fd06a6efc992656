-- How many bytes are kept of a reply or of a message, and what is read of so many: of a place that is not in use 0 bytes, which are none.
-- Assumes nothing.
use Prim.Native.Nat.{ℕ}
use mathlib.Core.Path.{◌≡◌, refl, ap, ◌∙◌}
use mathlib.Core.List.{List}
use Rattle.std.specs.Prelude.{Option, Some, None}
use Rattle.room.specs.Room.{bytes_in}
use Rattle.room.specs.declared.Message.TheVariants as message
use Rattle.room.proofs.Reading.{none_of}
use Rattle.exchange.specs.declared.IncomingReading.{IncomingReading}
use Rattle.exchange.specs.declared.OwnReading.{OwnReading}
use Rattle.link.specs.Reading.{message_by, reply_by}

abbrev pub reply_size : Option OwnReading → ℕ
reply_size None = 0
reply_size (Some own) = own.reply.length

abbrev replies : List ℕ → ℕ → ℕ → List ℕ
replies room p n = bytes_in room (message.Reply p) 0 n

reply_read : (o : Option OwnReading) (room : List ℕ) (p : ℕ) → replies room p (reply_size o) ≡ reply_by o room p
reply_read None room p = none_of room (message.Reply p) 0
reply_read (Some own) room p = refl

pub reply_kept : (room : List ℕ) (p : ℕ) {o r : Option OwnReading} {n : ℕ} {l : List ℕ} → l ≡ replies room p n → n ≡ reply_size o → o ≡ r → l ≡ reply_by r room p
reply_kept room p {o} e k f = e ∙ ap (replies room p) k ∙ reply_read o room p ∙ ap (λ (x : Option OwnReading). reply_by x room p) f

abbrev pub message_size : Option IncomingReading → ℕ
message_size None = 0
message_size (Some incoming) = incoming.length

abbrev messages : List ℕ → ℕ → ℕ → List ℕ
messages room p n = bytes_in room (message.Incoming p) 0 n

message_read : (o : Option IncomingReading) (room : List ℕ) (p : ℕ) → messages room p (message_size o) ≡ message_by o room p
message_read None room p = none_of room (message.Incoming p) 0
message_read (Some incoming) room p = refl

pub message_kept : (room : List ℕ) (p : ℕ) {o r : Option IncomingReading} {n : ℕ} {l : List ℕ} → l ≡ messages room p n → n ≡ message_size o → o ≡ r → l ≡ message_by r room p
message_kept room p {o} e k f = e ∙ ap (messages room p) k ∙ message_read o room p ∙ ap (λ (x : Option IncomingReading). message_by x room p) f
