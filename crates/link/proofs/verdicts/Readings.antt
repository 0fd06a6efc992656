-- What a user reads of any unit: bytes, whether a message is being sent, and which places are free. Assumes nothing.
use Rattle.std.specs.Prelude.{None, Option, Some}
use Prim.Native.Nat.{ℕ}
use mathlib.Core.Path.{◌≡◌, refl, sym, ◌∙◌}
use mathlib.Core.List.{List}
use Rattle.room.specs.Room.{bytes_in}
use Rattle.room.specs.declared.Message.TheVariants as message
use Rattle.room.proofs.Reading.{none_of}
use Rattle.place.proofs.Tests.{own_tests, incoming_tests}
use Rattle.exchange.specs.Exchange.{own_place, incoming_place}
use Rattle.exchange.specs.declared.OwnReading.{OwnReading}
use Rattle.exchange.specs.declared.IncomingReading.{IncomingReading}
use Rattle.exchange.proofs.Judging.{is_free}
use Rattle.exchange.proofs.Refusing.{sends, own_is_free}
use Rattle.link.specs.Reading.{own_of, incoming_of, reply_by, message_by}
use Rattle.link.specs.Verdicts.{reply_in, FreeAsRead, length_by, DataRead, SendingRead}
use Rattle.link.proofs.verdicts.Messages.{none_read}
use Rattle.link.proofs.verdicts.Own.{standing_read}

reply_shown : (r : Option OwnReading) (room : List ℕ) (p : ℕ) → reply_by r room p ≡ bytes_in room (message.Reply p) 0 (reply_in r).length
reply_shown None room p = sym (none_of room (message.Reply p) 0)
reply_shown (Some r) room p = refl

message_shown : (r : Option IncomingReading) (room : List ℕ) (p : ℕ) → message_by r room p ≡ bytes_in room (message.Incoming p) 0 (length_by r)
message_shown None room p = sym (none_of room (message.Incoming p) 0)
message_shown (Some r) room p = refl

pub data_read : DataRead
data_read u room p = record { reply = reply_shown (own_of u p) room p; incoming = message_shown (incoming_of u p) room p }

pub sending_read : SendingRead
sending_read u = sends u.exchange.sending

-- The rules look for a free place by its test, and so does what is read of one.
pub free_as_read : FreeAsRead
free_as_read t w p k =
    let o = own_place t.link.exchange p in
    let i = incoming_place t.link.exchange p in
    let own_so = own_is_free o.stage in
    let incoming_so = is_free i.stage in
    let none = none_read t p in
    record {
      own = (λ e. standing_read t p ∙ (own_tests o).free.0 (own_so.1 e), λ e. own_so.0 ((own_tests o).free.1 (sym (standing_read t p) ∙ e)));
      incoming = (λ e. none.1 ((incoming_tests i).free.0 (incoming_so.1 e)), λ e. incoming_so.0 ((incoming_tests i).free.1 (none.0 e)));
    }
