-- Judging a block that went up (01, "A block that goes up is judged in this order"; E4 7.4), and what is reported of it (02, request 2).
use Rattle.std.specs.Prelude.{ℕ, Bool, true, false, cond, not, ◌&&◌, List, [], ◌∷◌, eqb, length, Option, Some, None}
use Rattle.header.specs.Header.{header_of}
use Rattle.header.specs.declared.header.Header.{Header}
use Rattle.settings.specs.declared.terms.Terms.{Terms}
use Rattle.room.specs.Room.{kept_in}
use Rattle.room.specs.declared.Message.{Message}
use Rattle.room.specs.declared.Message.TheVariants as message
use Rattle.place.specs.Fate.{begins_primary, fate_of}
use Rattle.place.specs.Arriving.{same_bit}
use Rattle.place.specs.Own.{own_kept, own_offered}
use Rattle.place.specs.Incoming.{incoming_length, incoming_begun, incoming_offered}
use Rattle.place.specs.declared.Fate.{Fate}
use Rattle.place.specs.declared.Fate.TheVariants as fate
use Rattle.place.specs.declared.Own.{Own}
use Rattle.place.specs.declared.Incoming.{Incoming}
use Rattle.table.specs.Own.{reply_for}
use Rattle.table.specs.Incoming.{free_incoming, message_for, open_alike}
use Rattle.exchange.specs.Note.{note_by}
use Rattle.exchange.specs.Flags.{no_flags, verdict_flag, incoming_flags}
use Rattle.exchange.specs.Exchange.{own_place, incoming_place, got_verdict, put_replied, put_incoming, saved_now}
use Rattle.reports.specs.Reports.{report}
use Rattle.exchange.specs.Reports.{with_outbox, caused, freed_in}
use Rattle.exchange.specs.declared.Outbox.{Outbox}
use Rattle.exchange.specs.declared.Note.{Note}
use Rattle.exchange.specs.declared.Note.TheVariants.{Kept, Misrouted, Duplicate, Stray, NoPlace, TooLong, Empty}
use Rattle.exchange.specs.declared.Sending.{Sending}
use Rattle.exchange.specs.declared.Exchange.{Exchange}
use Rattle.exchange.specs.declared.Judged.{Judged}

-- What judging leaves: what it answers, and every byte of the room.
pub record Judging : Type 0 where
  pub answer : Judged
  pub room : List ℕ

abbrev pub judging : Judged → List ℕ → Judging
judging j room = record { answer = j; room = room }

-- the block is thrown out
abbrev pub thrown_as : Exchange → Note → Judged
thrown_as x n = record { exchange = x; note = n; flags = no_flags }

unfoldable pub thrown : Exchange → Note → List ℕ → Judging
thrown x n room = judging (thrown_as x n) room

-- ---- rules 1 and 2

-- 1: "R-bit or device ID not this link's incoming one"; R = 1 means to the host
unfoldable pub is_misrouted : Terms → Header → Bool
is_misrouted c h = not (eqb h.device c.device && same_bit h.r c.host)

-- "all ten bytes"
unfoldable pub same_bytes : List ℕ → List ℕ → Bool
same_bytes [] [] = true
same_bytes [] (b ∷ bs) = false
same_bytes (a ∷ xs) [] = false
same_bytes (a ∷ xs) (b ∷ bs) = eqb a b && same_bytes xs bs

-- "(none at a start)"
unfoldable pub is_saved : Option (List ℕ) → List ℕ → Bool
is_saved None h = false
is_saved (Some s) h = same_bytes s h

-- 2: "Duplicate check on and all ten bytes of the header equal the saved one"
unfoldable pub is_duplicate : Terms → Exchange → List ℕ → Bool
is_duplicate c x h = c.duplicates && is_saved x.saved h

-- ---- what a block's fate says

-- the data of a block that is kept goes behind what its message has
abbrev pub keep_by : Fate → List ℕ → Message → ℕ → List ℕ → List ℕ
keep_by fate.Empty room m have d = room
keep_by fate.TooLong room m have d = room
keep_by (fate.Last n) room m have d = kept_in room m have d
keep_by (fate.More n) room m have d = kept_in room m have d

abbrev pub last_by : Fate → Bool
last_by fate.Empty = false
last_by fate.TooLong = false
last_by (fate.Last n) = true
last_by (fate.More n) = false

abbrev pub spoilt_by : Fate → Bool
spoilt_by fate.Empty = true
spoilt_by fate.TooLong = true
spoilt_by (fate.Last n) = false
spoilt_by (fate.More n) = false

-- ---- a block of the reply in an own place

abbrev pub replied_as : Exchange → ℕ → Own → Own → Fate → List ℕ → List ℕ → Judging
replied_as x p before after f d room =
    judging
    (record { exchange = put_replied x p after; note = note_by f; flags = verdict_flag p (got_verdict before after) })
    (keep_by f room (message.Reply p) (own_kept before).length d)

unfoldable pub reply_block : Exchange → ℕ → Header → List ℕ → List ℕ → Judging
reply_block x p h d room =
    replied_as x p (own_place x p) (own_offered (own_place x p) h (length d)) (fate_of h (own_kept (own_place x p)).length (length d)) d room

-- ---- a further block of the message in an incoming place

abbrev pub continued_as : Exchange → ℕ → Incoming → Incoming → Fate → List ℕ → List ℕ → Judging
continued_as x p before after f d room =
    judging
    (record { exchange = put_incoming x p after; note = note_by f; flags = incoming_flags p (last_by f) (spoilt_by f) })
    (keep_by f room (message.Incoming p) (incoming_length before) d)

unfoldable pub message_block : Exchange → ℕ → Header → List ℕ → List ℕ → Judging
message_block x p h d room =
    continued_as x p (incoming_place x p) (incoming_offered (incoming_place x p) h (length d)) (fate_of h (incoming_length (incoming_place x p)) (length d)) d room

-- ---- the first block of a primary

-- 7: kept; `gone` says whether it throws an open message out, `last` whether it is complete with this block
unfoldable pub begins_at : Exchange → ℕ → Header → Bool → Bool → List ℕ → List ℕ → Judging
begins_at x p h gone last d room =
    judging
    (record { exchange = put_incoming x p (incoming_begun (incoming_place x p) h (length d)); note = Kept; flags = incoming_flags p last gone })
    (kept_in room (message.Incoming p) 0 d)

-- "note 25 exactly if all four are in use"
abbrev pub in_free : Option ℕ → Exchange → Header → Bool → List ℕ → List ℕ → Judging
in_free (Some p) x h last d room = begins_at x p h false last d room
in_free None x h last d room = thrown x NoPlace room

-- 6: "throws that one out and takes its place .. Otherwise it takes the lowest free incoming place"
abbrev pub in_place : Option ℕ → Exchange → Header → Bool → List ℕ → List ℕ → Judging
in_place (Some p) x h last d room = begins_at x p h true last d room
in_place None x h last d room = in_free (free_incoming x.incoming) x h last d room

unfoldable pub takes_place : Exchange → Header → Bool → List ℕ → List ℕ → Judging
takes_place x h last d room = in_place (open_alike x.incoming h) x h last d room

-- 4 and 5 before 6: "A primary not yet open takes no place."
abbrev pub primary_by : Fate → Exchange → Header → List ℕ → List ℕ → Judging
primary_by fate.Empty x h d room = thrown x Empty room
primary_by fate.TooLong x h d room = thrown x TooLong room
primary_by (fate.Last n) x h d room = takes_place x h true d room
primary_by (fate.More n) x h d room = takes_place x h false d room

unfoldable pub primary_block : Exchange → Header → List ℕ → List ℕ → Judging
primary_block x h d room = primary_by (fate_of h 0 (length d)) x h d room

-- ---- rule 3

-- "If it is neither, it must begin a primary .. Else note 24."
unfoldable pub or_primary : Exchange → Header → List ℕ → List ℕ → Judging
or_primary x h d room = cond (begins_primary h) (primary_block x h d room) (thrown x Stray room)

abbrev pub of_message : Option ℕ → Exchange → Header → List ℕ → List ℕ → Judging
of_message (Some p) x h d room = message_block x p h d room
of_message None x h d room = or_primary x h d room

unfoldable pub no_reply_block : Exchange → Header → List ℕ → List ℕ → Judging
no_reply_block x h d room = of_message (message_for x.incoming h) x h d room

abbrev pub of_reply : Option ℕ → Exchange → Header → List ℕ → List ℕ → Judging
of_reply (Some p) x h d room = reply_block x p h d room
of_reply None x h d room = no_reply_block x h d room

-- "Continues an open message .. or is the first block of an awaited reply .. If it is neither .."
unfoldable pub new_block : Exchange → Header → List ℕ → List ℕ → Judging
new_block x h d room = of_reply (reply_for x.own h) x h d room

-- ---- the seven rules in their order, for a block with header bytes h and data d: rule 2 compares the bytes, all else is judged by what
-- they say
unfoldable pub rules_of : Terms → Exchange → List ℕ → List ℕ → List ℕ → Judging
rules_of c x h d room =
    cond (is_misrouted c (header_of h)) (thrown x Misrouted room)
    (cond (is_duplicate c x h) (thrown x Duplicate room) (new_block (saved_now x h) (header_of h) d room))

-- ---- what is reported of it

-- "A misrouted block gives S9F1 .. a message over the limit gives S9F11", with "the ten header bytes of the offending block"; no other note
-- does. y is what the seven rules left.
abbrev pub caused_by : Note → Terms → Exchange → List ℕ → Outbox → Outbox
caused_by Kept c y h b = b
caused_by Misrouted c y h b = caused c y.own y.numbers.latest b (report 1 h)
caused_by Duplicate c y h b = b
caused_by Stray c y h b = b
caused_by NoPlace c y h b = b
caused_by TooLong c y h b = caused c y.own y.numbers.latest b (report 11 h)
caused_by Empty c y h b = b

-- where `before` was being sent: a block that ends it frees the line first
unfoldable pub box_behind : Terms → Sending → List ℕ → Judged → Outbox
box_behind c before h j = caused_by j.note c j.exchange h (freed_in before j.exchange)

abbrev pub reporting : Terms → Sending → List ℕ → Judged → Judged
reporting c before h j = record { exchange = with_outbox j.exchange (box_behind c before h j); note = j.note; flags = j.flags }

-- a block with header bytes h and data d was judged
abbrev pub judge_of : Terms → Exchange → List ℕ → List ℕ → List ℕ → Judging
judge_of c x h d room = judging (reporting c x.sending h (rules_of c x h d room).answer) (rules_of c x h d room).room
