-- Demand 2: "what one end writes the other reads as the same message". Two units, a host and a tool, as any calls left them, their lines
-- idle, on a line that loses nothing: what is accepted for sending at either end is complete at the other with the same bytes, stream,
-- function, W and system bytes, and so is the reply to it, by the units' own calls, byte for byte, with ticks between the bytes as long
-- as no timer runs out. Each proof is in `proofs/`.
use Rattle.std.specs.Prelude.{ℕ, zero, suc, ◌+◌, ◌*◌, ◌≤◌, ◌<◌, ◌≡◌, true, false, cond, not, List, [], ◌∷◌, ◌++◌, ◌≢◌, length, take, replicate, Option, Some}
use Rattle.wire.specs.Bytes.{Bytes}
use Rattle.header.specs.Header.{InRange}
use Rattle.header.specs.Theorems.{SameElse}
use Rattle.header.specs.declared.header.Header.{Header}
use Rattle.cut.specs.Blocks.{block_count, part_length}
use Rattle.line.specs.Line.{fresh_line}
use Rattle.place.specs.Own.{no_reply}
use Rattle.place.specs.OwnHistory as seen
use Rattle.place.specs.declared.Verdict.{Verdict}
use Rattle.place.specs.declared.Verdict.TheVariants.{Sent, Answered, Declined}
use Rattle.place.specs.declared.Standing.TheVariants.{Open, Given}
use Rattle.exchange.specs.Rules.{Duplicate}
use Rattle.exchange.specs.Exchange.{fresh_exchange}
use Rattle.exchange.specs.Refusals.{RepliesTo}
use Rattle.exchange.specs.Assembly.{NoneLate, AnyPlace, header_in, ticks_before, ReadyFor}
use Rattle.exchange.specs.declared.ReplyStage.{ReplyStage}
use Rattle.exchange.specs.declared.ReplyStage.TheVariants as reply
use Rattle.exchange.specs.declared.Primary.{Primary}
use Rattle.link.specs.Answer.{note_number}
use Rattle.link.specs.Run.{Left}
use Rattle.link.specs.Call.{byte_call, tick_call, drained_call, open_call, reply_call}
use Rattle.link.specs.Reading.{own_of, reply_data, incoming_of, incoming_data, sending_of}
use Rattle.link.specs.History.{Track, terms_in, at_start}
use Rattle.link.specs.Inside.{Reached}
use Rattle.link.specs.Refusals.{SetupFits, in_ticks}
use Rattle.link.specs.declared.Outcome.TheVariants.{Taken}
use Rattle.link.specs.declared.Note.{Note}
use Rattle.link.specs.declared.Note.TheVariants as note
use Rattle.link.specs.declared.Setup.{Setup}
use Rattle.link.specs.declared.Settings.{Settings}
use Rattle.link.specs.declared.Link.{Link}

-- ---- one end

-- one end between calls: its unit, and its room as the last call left it
pub record End : Type 0 where
  pub link : Link
  pub room : List ℕ

abbrev pub end_of : Link → List ℕ → End
end_of u room = record { link = u; room = room }

-- what calls leave of an end, the bytes that leave, and the numbers of their notes but 20, "nothing"
pub record Said : Type 0 where
  pub end : End
  pub bytes : List ℕ
  pub notes : List ℕ

abbrev pub noting : End → List ℕ → List ℕ → Said
noting e bs ns = record { end = e; bytes = bs; notes = ns }

abbrev pub noted : Note → List ℕ
noted note.Nothing = []
noted (note.Block n) = note_number (note.Block n) ∷ []
noted note.NoLength = note_number note.NoLength ∷ []
noted note.Gap = note_number note.Gap ∷ []
noted (note.Bad fault) = note_number (note.Bad fault) ∷ []

-- as many bytes of the output leave as the call reports
abbrev pub said_by : Left → Said
said_by l = noting (end_of l.answer.link l.room) (take l.answer.count l.out) (noted l.answer.note)

-- one thing is said, or nothing, and then another
abbrev pub behind : Said → Said → Said
behind s t = noting t.end (s.bytes ++ t.bytes) (s.notes ++ t.notes)

-- ---- the calls of an end, the output o being lent to each

-- a byte comes
abbrev pub hears : List ℕ → End → ℕ → Said
hears o e b = said_by (byte_call e.link b e.room o)

-- 0.1 s pass
abbrev pub ticks : List ℕ → End → Said
ticks o e = said_by (tick_call e.link e.room o)

-- "drained (the last block byte has left the wire)"
abbrev pub drains : List ℕ → End → Said
drains o e = said_by (drained_call e.link e.room o)

-- n ticks, one after the other; what leaves is joined
unfoldable pub waits : List ℕ → End → ℕ → Said
waits o e zero = noting e [] []
waits o e (suc n) = behind (waits o e n) (ticks o (waits o e n).end)

-- behind n ticks a byte comes, or the last block byte has left the wire
abbrev pub hears_late : List ℕ → ℕ → End → ℕ → Said
hears_late o n e b = behind (waits o e n) (hears o (waits o e n).end b)

abbrev pub drains_late : List ℕ → ℕ → End → Said
drains_late o n e = behind (waits o e n) (drains o (waits o e n).end)

-- bytes come, one after the other, byte i behind as many ticks as w i says; what leaves is joined
unfoldable pub hears_all : List ℕ → (ℕ → ℕ) → End → List ℕ → Said
hears_all o w e [] = noting e [] []
hears_all o w e (b ∷ bs) = behind (hears_late o (w 0) e b) (hears_all o (λ i. w (suc i)) (hears_late o (w 0) e b).end bs)

-- a primary, or a reply to the message in incoming place p, is asked for
abbrev pub opens : List ℕ → End → Primary → List ℕ → Said
opens o e q d = said_by (open_call e.link q d e.room o)

abbrev pub answers : List ℕ → End → ℕ → ℕ → List ℕ → Said
answers o e p f d = said_by (reply_call e.link p f d e.room o)

-- ---- two ends, and a line that loses nothing

-- the end that sends a message, the end that receives it, the bytes that the sender has put out and that are still on the line, and the
-- notes of the calls at both ends so far
pub record Pair : Type 0 where
  pub sender : End
  pub receiver : End
  pub bytes : List ℕ
  pub notes : List ℕ

abbrev pub pair : End → End → List ℕ → List ℕ → Pair
pair a b bs ns = record { sender = a; receiver = b; bytes = bs; notes = ns }

-- how many ticks pass while one block is carried
pub record Pauses : Type 0 where
  -- at the receiver, before it hears the ENQ, and before it hears byte i of the block, 0 being the length
  pub enq : ℕ
  pub byte : ℕ → ℕ
  -- at the sender, before it hears the EOT, before the last block byte has left the wire, and before it hears the ACK
  pub eot : ℕ
  pub draining : ℕ
  pub ack : ℕ

-- One block is carried: each end hears what the other said. What the sender says behind its block is on the line then.
abbrev pub carried : List ℕ → Pauses → Pair → Pair
carried o w p =
    -- the receiver hears what is on the line, and the sender what is said to that
    let asked = hears_all o (λ i. w.enq) p.receiver p.bytes in
    let block = hears_all o (λ i. w.eot) p.sender asked.bytes in
    -- the receiver hears the block; its last byte has left the wire; the sender hears what was said to it
    let taken = hears_all o w.byte asked.end block.bytes in
    let gone = drains_late o w.draining block.end in
    let ended = hears_all o (λ i. w.ack) gone.end taken.bytes in
    pair ended.end taken.end (gone.bytes ++ ended.bytes)
    (p.notes ++ (asked.notes ++ (block.notes ++ (taken.notes ++ (gone.notes ++ ended.notes)))))

-- n blocks, one after the other, block k with the pauses w k
unfoldable pub carries : List ℕ → (ℕ → Pauses) → ℕ → Pair → Pair
carries o w zero p = p
carries o w (suc n) p = carried o (w (suc n)) (carries o w n p)

-- a request puts its ENQ on the line
abbrev pub puts : Said → End → Pair
puts s b = pair s.end b s.bytes s.notes

-- a primary is asked for at a, and as many blocks are carried to b as it makes
abbrev pub outward : List ℕ → (ℕ → Pauses) → End → End → Primary → List ℕ → Pair
outward o w a b q d = carries o w (block_count (length d)) (puts (opens o a q d) b)

-- a reply to the message in incoming place p is asked for at a, and carried to b
abbrev pub homeward : List ℕ → (ℕ → Pauses) → End → End → ℕ → ℕ → List ℕ → Pair
homeward o w a b p f r = carries o w (block_count (length r)) (puts (answers o a p f r) b)

-- ---- how long it takes

-- f 0, f 1 and so on, n of them, in all
unfoldable pub total : (ℕ → ℕ) → ℕ → ℕ
total f zero = 0
total f (suc n) = f 0 + total (λ i. f (suc i)) n

-- how many bytes block k of a message of n has on the line: "length N (10 to 254), N bytes, then the 16-bit sum of those N bytes", the
-- header and its part of the data being these N
abbrev pub bytes_on : ℕ → ℕ → ℕ
bytes_on n k = 1 + (10 + part_length n k) + 2

-- the ticks at the receiver while block k is carried, and all of them
abbrev pub ticks_in : List ℕ → (ℕ → Pauses) → ℕ → ℕ
ticks_in d w k = (w k).enq + total (w k).byte (bytes_on (length d) k)

abbrev pub ticks_in_all : List ℕ → (ℕ → Pauses) → ℕ
ticks_in_all d w = ticks_before (ticks_in d w) (block_count (length d))

-- and at the sender, from its request on
abbrev pub ticks_out : (ℕ → Pauses) → ℕ → ℕ
ticks_out w k = (w k).eot + (w k).draining + (w k).ack

abbrev pub ticks_out_all : List ℕ → (ℕ → Pauses) → ℕ
ticks_out_all d w = ticks_before (ticks_out w) (block_count (length d))

-- there is a block k of message d
pub record BlockOf (d : List ℕ) (k : ℕ) : Type 0 where
  pub least : 1 ≤ k
  pub most : k ≤ block_count (length d)

-- No timer runs out while message d is carried from an end with settings s to one with settings t: before its first block, and while a
-- block drains, any number of ticks may pass.
pub record InTime (s t : Settings) (d : List ℕ) (w : ℕ → Pauses) : Type 0 where
  -- "Waiting for EOT: .. Beyond T2: retry"; "Waiting for ACK: .. Any other byte, or T2 exceeded: retry"
  pub eot : (k : ℕ) → BlockOf d k → (w k).eot ≤ s.limits.t2.0
  pub ack : (k : ℕ) → BlockOf d k → (w k).ack ≤ s.limits.t2.0
  -- "Waiting for length: .. Beyond T2: NAK"
  pub size : (k : ℕ) → BlockOf d k → (w k).byte 0 ≤ t.limits.t2.0
  -- "Body: each byte restarts T1 .. Beyond T1: NAK"
  pub body : (k : ℕ) → BlockOf d k → (i : ℕ) → 1 ≤ i → i < bytes_on (length d) k → (w k).byte i ≤ t.limits.t1.0
  -- "With E = 0, T4 restarts"; "T4 beyond its limit breaks the message"
  pub blocks : (k : ℕ) → 2 ≤ k → k ≤ block_count (length d) → ticks_in d w k ≤ t.terms.t4.0

-- ---- what is given

-- The two ends of one link, each a unit that any calls left, refused ones among them. They agree: neither line is at anything, so neither
-- unit is sending (`Agrees`, specs/Inside.antt).
pub record Linked (a b : Track) : Type 0 where
  pub one : Reached a
  pub other : Reached b
  -- "last transaction number | 0 to 65535"
  pub last : one.setup.last ≤ 65535
  pub far_last : other.setup.last ≤ 65535
  -- "both ends (host = slave, equipment = master). One device ID per link"
  pub roles : (terms_in b).host ≡ not (terms_in a).host
  pub device : (terms_in b).device ≡ (terms_in a).device
  -- "Both ends of the communications link are assumed to start in the Idle state" (E4 5.8.1), with nothing held
  pub line : a.link.line ≡ fresh_line
  pub far_line : b.link.line ≡ fresh_line

-- what is lent: "36,864 bytes" of room at each end, and no "output buffer under 257 bytes", with any bytes in them
pub record Lent (room far o : List ℕ) : Type 0 where
  pub here : length room ≡ 36864
  pub there : length far ≡ 36864
  pub out : 257 ≤ length o

-- a primary as it can be asked for: its numbers have no more than their bits, and its data are bytes
pub record Typed (q : Primary) (d : List ℕ) : Type 0 where
  pub source : q.source < 65536
  pub function : q.function < 256
  pub bytes : Bytes d

-- the function of a reply that is not refused by 5, "in a reply, neither primary + 1 nor 0", and the verdict that it earns: "2 answered
-- (complete reply, same stream, function one higher); 3 declined (same stream, function 0)". "After F255 only a function 0 reply
-- passes."
pub data Earns (function : ℕ) : ℕ → Verdict → Type 0 where
  one_higher : function < 255 → Earns function (function + 1) Answered
  function_0 : Earns function 0 Declined

-- ---- what is proved

-- nothing is on the line, and both units wait for what comes: neither is sending
pub record Quiet (p : Pair) : Type 0 where
  pub none : p.bytes ≡ []
  pub line : p.sender.link.line ≡ fresh_line
  pub far_line : p.receiver.link.line ≡ fresh_line
  pub sending : sending_of p.sender.link ≡ false
  pub far_sending : sending_of p.receiver.link ≡ false

-- Calls left the units of these two ends too, and they agree as before: so all that is proved here is proved of what they send next.
pub record Again (o : List ℕ) (a b : End) : Type 0 where
  pub here : Track
  pub there : Track
  pub linked : Linked here there
  pub one : here.link ≡ a.link
  pub other : there.link ≡ b.link
  pub lent : Lent a.room b.room o

-- The header of a message, as it was asked for: "System bytes: the caller's 16-bit source ID, then the number."
pub record AsAsked (q : Primary) (h : Header) : Type 0 where
  pub w : h.w ≡ q.w
  pub stream : h.stream ≡ q.stream
  pub function : h.function ≡ q.function
  pub number : ℕ
  pub number_fits : number < 65536
  pub system : h.system ≡ q.source * 65536 + number

-- Own place q of this end awaits the reply to a primary with header g.
pub record Awaited (a : Track) (q : ℕ) (g : Header) : Type 0 where
  pub shown : own_of a.link q ≡ Some (record { primary = g; standing = Open; reply = no_reply })
  -- its onlooker has seen the ACK of its last block, and no block of a reply since
  pub acknowledged : (a.own q).request ≡ seen.acknowledged
  pub none : (a.own q).kept ≡ []
  -- the header's numbers have no more than their bits
  pub ranged : InRange g

-- what n ticks alone leave of a unit
abbrev pub later_by : List ℕ → Link → List ℕ → ℕ → Link
later_by o u room n = (waits o (end_of u room) n).end.link

-- Primary q with data d and header h came from own place p of its sender to its receiver; `was` is what its sender had saved, `alone` what
-- ticks alone leave of the receiver.
pub record Delivered (o : List ℕ) (q : Primary) (d : List ℕ) (h : Header) (p : ℕ) (was : Option (List ℕ)) (alone : Link) (z : Pair) : Type 0 where
  pub quiet : Quiet z
  pub again : Again o z.sender z.receiver
  -- own place p of its sender has it: a reply is awaited, or "1 sent (W = 0, all acknowledged)"
  pub standing : own_of z.sender.link p ≡ Some (record { primary = h; standing = cond q.w Open (Given Sent); reply = no_reply })
  -- ".. and T3 runs, from the ACK of the primary's last block.": that ACK came in the last call
  pub awaited : q.w ≡ true → Awaited again.here p h × ((again.here.own p).since ≡ 0)
  -- a place of its receiver shows a complete message of as many bytes, to which a reply is owed if W = 1
  pub place : ℕ
  pub message : Header
  pub complete : incoming_of z.receiver.link place ≡ Some (record { primary = message; length = length d; complete = true; reply = cond q.w reply.Owed reply.NotOwed })
  -- R, device ID, W, stream, function and system bytes are the same
  pub same : SameElse message h
  -- and so are the bytes
  pub bytes : incoming_data z.receiver.link z.receiver.room place ≡ d
  -- "Kept: note 21", each of the blocks; nothing else is noted at either end
  pub notes : z.notes ≡ replicate (block_count (length d)) 21
  -- it came once: every other place there is what ticks alone leave of it
  pub others : (k : ℕ) → k ≢ place → incoming_of z.receiver.link k ≡ incoming_of alone k
  pub owns : (k : ℕ) → own_of z.receiver.link k ≡ own_of alone k
  -- what each end holds the next block against (rule 2): its receiver the header of the last block, its sender what it had
  pub saved : z.receiver.link.exchange.saved ≡ Some (header_in h d (block_count (length d)))
  pub far_saved : z.sender.link.exchange.saved ≡ was

-- A primary that was accepted for own place p goes out from a to b.
pub record GoesOut (a b : Track) (room far o : List ℕ) (q : Primary) (d : List ℕ) (p : ℕ) : Type 0 where
  -- place p shows what was asked for
  pub header : Header
  pub as_asked : AsAsked q header
  pub shown : own_of (open_call a.link q d room o).answer.link p ≡ Some (record { primary = header; standing = Open; reply = no_reply })
  -- If the far end has a place for it (`ReadyFor`, exchange/specs/Assembly.antt), it comes there, whatever the pauses as long as no timer runs
  -- out: T3 of another transaction neither, at the end that would report it (`NoneLate`, exchange/specs/Assembly.antt).
  pub delivered :
      ReadyFor (terms_in b) b.link.exchange header d → (w : ℕ → Pauses) → InTime a.link.settings b.link.settings d w
      → NoneLate (terms_in a) a.link.exchange (ticks_out_all d w) AnyPlace → NoneLate (terms_in b) b.link.exchange (ticks_in_all d w) AnyPlace
      → Delivered o q d header p a.link.exchange.saved (later_by o b.link far (ticks_in_all d w)) (outward o w (end_of a.link room) (end_of b.link far) q d)

-- Incoming place p of this end shows a complete message with header g of n bytes.
pub record Shown (b : Track) (p : ℕ) (g : Header) (n : ℕ) : Type 0 where
  pub stage : ReplyStage
  pub so : incoming_of b.link p ≡ Some (record { primary = g; length = n; complete = true; reply = stage })

-- a reply of function f and data r as it can be asked for
pub record TypedReply (f : ℕ) (r : List ℕ) : Type 0 where
  pub function : f < 256
  pub bytes : Bytes r

-- Reply r with function f came from incoming place p of its sender to own place q of its receiver, where it earned verdict v: the message
-- in place p has header g and n bytes, bs, the primary in place q header h, the reply header e; `was` is what its sender had saved, `alone` what
-- ticks alone leave of the receiver.
pub record Returned (o : List ℕ) (v : Verdict) (p q f : ℕ) (r : List ℕ) (g h e : Header) (n : ℕ) (bs : List ℕ) (was : Option (List ℕ)) (alone : Link) (z : Pair) : Type 0 where
  pub quiet : Quiet z
  pub again : Again o z.receiver z.sender
  -- own place q shows the primary, the verdict, and the stream, function and length of the reply; "A reply of ours has W = 0"
  pub verdict : own_of z.receiver.link q ≡ Some (record { primary = h; standing = Given v; reply = record { w = false; stream = h.stream; function = f; length = length r } })
  -- its bytes are the same
  pub bytes : reply_data z.receiver.link z.receiver.room q ≡ r
  -- "Kept: note 21", each of the blocks; nothing else is noted at either end
  pub notes : z.notes ≡ replicate (block_count (length r)) 21
  -- "A reply of ours ends sent .. in its incoming place.", where the message still is
  pub replied : incoming_of z.sender.link p ≡ Some (record { primary = g; length = n; complete = true; reply = reply.Sent })
  pub still : incoming_data z.sender.link z.sender.room p ≡ bs
  -- every other place of its receiver is what ticks alone leave of it
  pub others : (k : ℕ) → k ≢ q → own_of z.receiver.link k ≡ own_of alone k
  pub incomings : (k : ℕ) → incoming_of z.receiver.link k ≡ incoming_of alone k
  -- and what each end holds the next block against
  pub saved : z.receiver.link.exchange.saved ≡ Some (header_in e r (block_count (length r)))
  pub far_saved : z.sender.link.exchange.saved ≡ was

-- A reply comes back from b to a: with function f to the message with header g in incoming place p of b, which a sent as the primary with
-- header h in its own place q.
pub record ComesBack (a b : Track) (room far o : List ℕ) (p q f : ℕ) (r : List ℕ) (g h : Header) (n : ℕ) : Type 0 where
  pub verdict : Verdict
  pub earned : Earns h.function f verdict
  -- its header
  pub header : Header
  pub replies_to : RepliesTo g f header
  -- Unless its first block is a duplicate of the block before it ("all ten bytes of the header equal the saved one"), it comes there, whatever
  -- the pauses as long as no timer runs out: T3 runs from the ACK of the primary's last block, and "The first reply block ends T3."
  pub returned :
      (Duplicate (terms_in a) a.link.exchange (header_in header r 1) → ⊥)
      → (w : ℕ → Pauses) → InTime b.link.settings a.link.settings r w → (a.own q).since + ticks_in r w 1 ≤ (terms_in a).t3.0
      → NoneLate (terms_in b) b.link.exchange (ticks_out_all r w) AnyPlace → NoneLate (terms_in a) a.link.exchange (ticks_in_all r w) (λ k. k ≢ q)
      → Returned o verdict p q f r g h header n (incoming_data b.link far p) b.link.exchange.saved (later_by o a.link room (ticks_in_all r w))
      (homeward o w (end_of b.link far) (end_of a.link room) p f r)

-- Every primary that is accepted at either end of a link, whatever calls left the two units, is the same message at the other.
abbrev pub SameMessage : Type 0
SameMessage =
    (a b : Track) → Linked a b → (room far o : List ℕ) → Lent room far o → (q : Primary) (d : List ℕ) → Typed q d
    → (p : ℕ) → (open_call a.link q d room o).answer.outcome ≡ Taken p → GoesOut a b room far o q d p

-- If it has W = 1, every reply that is accepted there comes back as the same message, and earns its verdict.
abbrev pub SameReply : Type 0
SameReply =
    (a b : Track) → Linked a b → (room far o : List ℕ) → Lent room far o → (q : ℕ) (h : Header) → Awaited a q h
    → (p : ℕ) (g : Header) (n : ℕ) → Shown b p g n → SameElse g h → (f : ℕ) (r : List ℕ) → TypedReply f r
    → (k : ℕ) → (reply_call b.link p f r far o).answer.outcome ≡ Taken k → ComesBack a b room far o p q f r g h n

-- Two units that were just started, host and tool, of one device ID, are such ends, and each has a place for any message: so both statements
-- are about every link from its start on, and by `Again` about all that follows.
pub record StartLinked (s t : Setup) (room far : List ℕ) : Type 0 where
  pub linked : Linked (at_start (in_ticks s) s.last room) (at_start (in_ticks t) t.last far)
  pub takes : (h : Header) (d : List ℕ) → ReadyFor (in_ticks t).terms (fresh_exchange t.last) h d

abbrev pub StartsLinked : Type 0
StartsLinked =
    (s t : Setup) → SetupFits s → SetupFits t → s.last ≤ 65535 → t.last ≤ 65535 → t.host ≡ not s.host → t.device ≡ s.device
    → (room far : List ℕ) → length room ≡ 36864 → length far ≡ 36864 → StartLinked s t room far
