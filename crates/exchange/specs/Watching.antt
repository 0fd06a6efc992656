-- The onlooker of a place (place/specs/OwnHistory.antt, place/specs/IncomingHistory.antt), at the door of the transactions: it sees what
-- is called, what is answered, and to which message each block belongs. The place, and what this onlooker has seen, are as events at a
-- place leave them: so every theorem on a place (place/specs/OwnTheorems.antt, place/specs/IncomingTheorems.antt) holds of each place
-- inside, with this onlooker. Each proof is in `proofs/Watching.antt`.
use Rattle.std.specs.Prelude.{ℕ, ◌+◌, ◌<◌, ◌≡◌, Bool, false, cond, List, [], ◌∷◌, eqb, length, Option, Some, None, Ok, Err}
use Rattle.header.specs.Header.{header_of, header_bytes}
use Rattle.header.specs.declared.header.Header.{Header}
use Rattle.settings.specs.declared.terms.Terms.{Terms}
use Rattle.place.specs.OwnHistory as own
use Rattle.place.specs.OwnTheorems.{Reached as OwnReached}
use Rattle.place.specs.IncomingHistory as incoming
use Rattle.place.specs.IncomingTheorems.{Reached as IncomingReached}
use Rattle.table.specs.Own.{reply_for}
use Rattle.table.specs.Incoming.{message_for, open_alike, free_incoming}
use Rattle.table.specs.Number.{next_number}
use Rattle.exchange.specs.Exchange.{own_place, incoming_place, sent_from}
use Rattle.exchange.specs.Judge.{judge_of}
use Rattle.exchange.specs.Request.{primary_header, Request, primary, reply, freeing_own, freeing_incoming, answer_of}
use Rattle.exchange.specs.History.{Call, block, tick, put_out, acknowledged, failed, request, called, Track, next, track, at_start}
use Rattle.exchange.specs.declared.Note.{Note}
use Rattle.exchange.specs.declared.Note.TheVariants.{Kept, Misrouted, Duplicate, Stray, NoPlace, TooLong, Empty}
use Rattle.exchange.specs.declared.Exchange.{Exchange}
use Rattle.exchange.specs.declared.Sending.{Sending}
use Rattle.exchange.specs.declared.Sending.TheVariants as sending
use Rattle.exchange.specs.declared.Primary.{Primary}
use Rattle.exchange.specs.Asked.{Asked}

-- ---- what a call tells of place p

-- what a note says of a block to the place that it is for: "Kept: note 21"; of 27, and so of 26, "An open message, or awaited reply,
-- ends broken"; by any other note it is thrown out, and the place stays as it is
abbrev pub told_by : Note → own.Answer
told_by Kept = own.kept
told_by Misrouted = own.passed
told_by Duplicate = own.passed
told_by Stray = own.passed
told_by NoPlace = own.passed
told_by TooLong = own.spoilt
told_by Empty = own.spoilt

-- it is the one that was found
abbrev pub found_at : Option ℕ → ℕ → Bool
found_at (Some q) p = eqb q p
found_at None p = false

-- a request was accepted there
abbrev pub taken_at : Asked → ℕ → Bool
taken_at (Ok q) p = eqb q p
taken_at (Err r) p = false

-- the message being sent is the reply of incoming place p; whether it is the primary of an own place: `sent_from` (specs/Exchange.antt)
abbrev pub reply_from : Sending → ℕ → Bool
reply_from sending.Nothing p = false
reply_from (sending.Primary q n) p = false
reply_from (sending.Reply q f n) p = eqb q p
reply_from (sending.Report f n) p = false

-- ---- the onlooker of own place p

-- the header of the last block of a primary of n data bytes that is accepted: what was asked for, and the number that it gets
abbrev pub accepted_as : Terms → Exchange → Primary → ℕ → Header
accepted_as c x q n = header_of (header_bytes (primary_header c q n (next_number x.own x.numbers.last x.numbers.latest)))

-- what is asked for was accepted for the place of this number: a primary, or its release; the others are for an incoming place
abbrev pub own_taken : Terms → Exchange → own.Seen → Request → own.Seen
own_taken c x s (primary q d) = own.asked s.request s (accepted_as c x q (length d))
own_taken c x s (reply q f d) = s
own_taken c x s (freeing_own q) = own.at s own.none
own_taken c x s (freeing_incoming q) = s

-- a block of its reply was judged; 0.1 s passed; its primary's last block was put out, was acknowledged, a block of it failed; something was
-- asked for
abbrev pub own_sees : Terms → ℕ → Exchange → List ℕ → own.Seen → Call → own.Seen
own_sees c p x room s (block h d) =
    cond (found_at (reply_for x.own (header_of h)) p)
    (own.answered (told_by (judge_of c x h d room).answer.note) s (header_of h) (length d)) s
own_sees c p x room s tick =
    record { request = s.request; header = s.header; kept = s.kept; bytes = s.bytes; spoilt = s.spoilt; since = s.since + 1; quiet = s.quiet + 1 }
own_sees c p x room s put_out = cond (sent_from x.sending p) (own.went_out s.request s) s
own_sees c p x room s acknowledged = cond (sent_from x.sending p) (own.acked s.request s) s
own_sees c p x room s failed = cond (sent_from x.sending p) (own.gave_up s.request s) s
own_sees c p x room s (request r) = cond (taken_at (answer_of c x r room).answer.asked p) (own_taken c x s r) s

-- ---- the onlooker of incoming place p

-- the place that a new primary takes: "throws that one out and takes its place .. Otherwise it takes the lowest free incoming place"
abbrev pub taken_by : Option ℕ → Option ℕ → Option ℕ
taken_by (Some q) free = Some q
taken_by None free = free

-- a block of a reply is for no incoming place; one that continues an open message is for that one's place; any other, if it is kept,
-- begins a message in the place that it takes
abbrev pub sees_block : Option ℕ → Option ℕ → Option ℕ → ℕ → own.Answer → incoming.Seen → Header → ℕ → incoming.Seen
sees_block (Some q) message new p a s b size = s
sees_block None (Some q) new p a s b size = cond (eqb q p) (incoming.sees_next a s b size) s
sees_block None None new p a s b size = cond (found_at new p) (incoming.sees_first a s b size) s

-- no message is there since the release
abbrev pub freed_seen : incoming.Seen → incoming.Seen
freed_seen s = record { begun = false; kept = s.kept; bytes = s.bytes; spoilt = s.spoilt; quiet = s.quiet }

-- what is asked for was accepted for the place of this number: its release; of our reply nothing is seen, the others are for an own place
abbrev pub incoming_taken : incoming.Seen → Request → incoming.Seen
incoming_taken s (primary q d) = s
incoming_taken s (reply q f d) = s
incoming_taken s (freeing_own q) = s
incoming_taken s (freeing_incoming q) = freed_seen s

-- a block of its message was judged; 0.1 s passed; something was asked for
abbrev pub incoming_sees : Terms → ℕ → Exchange → List ℕ → incoming.Seen → Call → incoming.Seen
incoming_sees c p x room s (block h d) =
    sees_block (reply_for x.own (header_of h)) (message_for x.incoming (header_of h))
    (taken_by (open_alike x.incoming (header_of h)) (free_incoming x.incoming)) p
    (told_by (judge_of c x h d room).answer.note) s (header_of h) (length d)
incoming_sees c p x room s tick = record { begun = s.begun; kept = s.kept; bytes = s.bytes; spoilt = s.spoilt; quiet = s.quiet + 1 }
incoming_sees c p x room s put_out = s
incoming_sees c p x room s acknowledged = s
incoming_sees c p x room s failed = s
incoming_sees c p x room s (request r) = cond (taken_at (answer_of c x r room).answer.asked p) (incoming_taken s r) s

-- ---- one call

-- place p, and what its onlooker has seen, are as events at a place leave them
abbrev pub OwnAt : Terms → ℕ → Exchange → own.Seen → Type 0
OwnAt c p x s = OwnReached c (record { own = own_place x p; seen = s })

abbrev pub IncomingAt : Terms → ℕ → Exchange → incoming.Seen → Type 0
IncomingAt c p x s = IncomingReached c (record { incoming = incoming_place x p; seen = s })

-- and so they are after any call more
abbrev pub OwnWatchedOn : Type 0
OwnWatchedOn =
    (c : Terms) (x : Exchange) (room : List ℕ) → length x.own ≡ 4 → (p : ℕ) → p < 4 → (s : own.Seen) (k : Call)
    → OwnAt c p x s → OwnAt c p (called c x room k).exchange (own_sees c p x room s k)

abbrev pub IncomingWatchedOn : Type 0
IncomingWatchedOn =
    (c : Terms) (x : Exchange) (room : List ℕ) → length x.incoming ≡ 4 → (p : ℕ) → p < 4 → (s : incoming.Seen) (k : Call)
    → IncomingAt c p x s → IncomingAt c p (called c x room k).exchange (incoming_sees c p x room s k)

-- ---- any calls from a fresh start

-- what an onlooker has seen of these calls, where `sees` is what it sees of one
unfoldable pub watch : {S : Type 0} → Terms → (Exchange → List ℕ → S → Call → S) → Track → S → List Call → S
watch c sees t s [] = s
watch c sees t s (k ∷ ks) = watch c sees (next c t k) (sees t.exchange t.room s k) ks

abbrev pub own_watch : Terms → ℕ → ℕ → List ℕ → List Call → own.Seen
own_watch c p last room ks = watch c (own_sees c p) (at_start last room) own.nothing_seen ks

abbrev pub incoming_watch : Terms → ℕ → ℕ → List ℕ → List Call → incoming.Seen
incoming_watch c p last room ks = watch c (incoming_sees c p) (at_start last room) incoming.nothing_seen ks

abbrev pub OwnWatched : Type 0
OwnWatched =
    (c : Terms) (last : ℕ) (room : List ℕ) → length room ≡ 36864 → (ks : List Call) (p : ℕ) → p < 4
    → OwnAt c p (track c (at_start last room) ks).exchange (own_watch c p last room ks)

abbrev pub IncomingWatched : Type 0
IncomingWatched =
    (c : Terms) (last : ℕ) (room : List ℕ) → length room ≡ 36864 → (ks : List Call) (p : ℕ) → p < 4
    → IncomingAt c p (track c (at_start last room) ks).exchange (incoming_watch c p last room ks)
