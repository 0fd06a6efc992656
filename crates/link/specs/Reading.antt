-- What a user reads of the unit.
use Rattle.std.specs.Prelude.{ℕ, Bool, List, [], None, Option, Some}
use Rattle.room.specs.Room.{bytes_in}
use Rattle.room.specs.declared.Message.TheVariants as message
use Rattle.exchange.specs.Reading.{own_reading, incoming_reading}
use Rattle.exchange.specs.Request.{is_sending}
use Rattle.exchange.specs.declared.Sending.{Sending}
use Rattle.exchange.specs.declared.OwnReading.{OwnReading}
use Rattle.exchange.specs.declared.IncomingReading.{IncomingReading}
use Rattle.link.specs.declared.Link.{Link}

abbrev pub own_of : Link → ℕ → Option OwnReading
own_of u p = own_reading u.exchange p

abbrev pub incoming_of : Link → ℕ → Option IncomingReading
incoming_of u p = incoming_reading u.exchange p

-- what is kept of a reply, or of a message: none where the place is free, or there is no such place
abbrev pub reply_by : Option OwnReading → List ℕ → ℕ → List ℕ
reply_by None room p = []
reply_by (Some r) room p = bytes_in room (message.Reply p) 0 r.reply.length

abbrev pub reply_data : Link → List ℕ → ℕ → List ℕ
reply_data u room p = reply_by (own_of u p) room p

abbrev pub message_by : Option IncomingReading → List ℕ → ℕ → List ℕ
message_by None room p = []
message_by (Some r) room p = bytes_in room (message.Incoming p) 0 r.length

abbrev pub incoming_data : Link → List ℕ → ℕ → List ℕ
incoming_data u room p = message_by (incoming_of u p) room p

-- "a message is being sent or held"
abbrev pub sending_of : Link → Bool
sending_of u = is_sending u.exchange

-- which one: a primary of an own place, a reply of an incoming one, or a report with its function and number
abbrev pub message_of : Link → Sending
message_of u = u.exchange.sending

-- how many reports were dropped since the start (02, request 2)
abbrev pub dropped_of : Link → ℕ
dropped_of u = u.exchange.reports.dropped

-- the last transaction number given: a scheduler keeps it for the next start, and reports take numbers unasked
abbrev pub last_number_of : Link → ℕ
last_number_of u = u.exchange.numbers.last
