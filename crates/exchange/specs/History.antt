-- Calls on the transactions, in any order, and an onlooker. The onlooker sees what is called, what is answered, and to which
-- message each block that is kept belongs; it joins the data of these blocks.
use Rattle.std.specs.Prelude.{ℕ, cond, List, [], ◌∷◌, ◌++◌, eqb, Option, Some, None, Ok, Err}
use Rattle.header.specs.Header.{header_of}
use Rattle.settings.specs.declared.terms.Terms.{Terms}
use Rattle.table.specs.Own.{reply_for}
use Rattle.table.specs.Incoming.{message_for, open_alike, free_incoming}
use Rattle.exchange.specs.Exchange.{fresh_exchange}
use Rattle.exchange.specs.Tick.{tick_of}
use Rattle.exchange.specs.Send.{put_out_of, sent_of, failed_of}
use Rattle.exchange.specs.Judge.{Judging, judge_of}
use Rattle.exchange.specs.Request.{Requesting, Request, primary, reply, freeing_own, freeing_incoming, answer_of}
use Rattle.exchange.specs.declared.Note.{Note}
use Rattle.exchange.specs.declared.Note.TheVariants.{Kept, Misrouted, Duplicate, Stray, NoPlace, TooLong, Empty}
use Rattle.exchange.specs.declared.Exchange.{Exchange}
use Rattle.exchange.specs.Asked.{Asked}

-- A block went up, with its ten header bytes and its data; 0.1 s passed; the last block of the message being sent was put out, at the first
-- attempt or again; it was acknowledged; a block of the message failed; something is asked for.
pub data Call : Type 0 where
  block : (h d : List ℕ) → Call
  tick put_out acknowledged failed : Call
  request : Request → Call

-- what is held between calls: the state, and the room as the last call left it
pub record Held : Type 0 where
  pub exchange : Exchange
  pub room : List ℕ

abbrev pub held : Exchange → List ℕ → Held
held x room = record { exchange = x; room = room }

abbrev pub judged : Judging → Held
judged j = held j.answer.exchange j.room

abbrev pub asked : Requesting → Held
asked a = held a.answer.exchange a.room

-- what a call leaves
abbrev pub called : Terms → Exchange → List ℕ → Call → Held
called c x room (block h d) = judged (judge_of c x h d room)
called c x room tick = held (tick_of c x).exchange room
called c x room put_out = held (put_out_of x) room
called c x room acknowledged = held (sent_of x).exchange room
called c x room failed = held (failed_of x).exchange room
called c x room (request r) = asked (answer_of c x r room)

-- ---- the onlooker

-- The data joined so far, of the reply in each own place since its primary was accepted, of the message in each incoming place
-- since its first block; and the data of the message that was last accepted for sending.
pub record Joined : Type 0 where
  pub replies : ℕ → List ℕ
  pub messages : ℕ → List ℕ
  pub outgoing : List ℕ

abbrev pub nothing_joined : Joined
nothing_joined = record { replies = λ p. []; messages = λ p. []; outgoing = [] }

-- place p's anew
abbrev pub anew : (ℕ → List ℕ) → ℕ → List ℕ → ℕ → List ℕ
anew f p bs q = cond (eqb q p) bs (f q)

-- the data of a block that is kept: of a reply; of an open message; of a new one in the place it takes
abbrev pub of_new : Option ℕ → Option ℕ → Joined → List ℕ → Joined
of_new (Some p) free s d = record { replies = s.replies; messages = anew s.messages p d; outgoing = s.outgoing }
of_new None (Some p) s d = record { replies = s.replies; messages = anew s.messages p d; outgoing = s.outgoing }
of_new None None s d = s

abbrev pub of_message : Option ℕ → Option ℕ → Option ℕ → Joined → List ℕ → Joined
of_message (Some p) alike free s d = record { replies = s.replies; messages = anew s.messages p (s.messages p ++ d); outgoing = s.outgoing }
of_message None alike free s d = of_new alike free s d

abbrev pub of_reply : Option ℕ → Option ℕ → Option ℕ → Option ℕ → Joined → List ℕ → Joined
of_reply (Some p) message alike free s d = record { replies = anew s.replies p (s.replies p ++ d); messages = s.messages; outgoing = s.outgoing }
of_reply None message alike free s d = of_message message alike free s d

abbrev pub joins : Exchange → List ℕ → Joined → List ℕ → Joined
joins x h s d =
    of_reply (reply_for x.own (header_of h)) (message_for x.incoming (header_of h)) (open_alike x.incoming (header_of h)) (free_incoming x.incoming) s d

-- note 21 alone tells that a block is kept
abbrev pub if_kept : Note → Joined → Joined → Joined
if_kept Kept s more = more
if_kept Misrouted s more = s
if_kept Duplicate s more = s
if_kept Stray s more = s
if_kept NoPlace s more = s
if_kept TooLong s more = s
if_kept Empty s more = s

-- a request that is accepted, for place p: the data of a message is that to be sent, and to a primary nothing is replied yet
abbrev pub joins_taken : Request → ℕ → Joined → Joined
joins_taken (primary q d) p s = record { replies = anew s.replies p []; messages = s.messages; outgoing = d }
joins_taken (reply k f d) p s = record { replies = s.replies; messages = s.messages; outgoing = d }
joins_taken (freeing_own k) p s = s
joins_taken (freeing_incoming k) p s = s

abbrev pub joins_asked : Request → Asked → Joined → Joined
joins_asked r (Ok p) s = joins_taken r p s
joins_asked r (Err n) s = s

abbrev pub sees : Terms → Exchange → List ℕ → Joined → Call → Joined
sees c x room s (block h d) = if_kept (judge_of c x h d room).answer.note s (joins x h s d)
sees c x room s tick = s
sees c x room s put_out = s
sees c x room s acknowledged = s
sees c x room s failed = s
sees c x room s (request r) = joins_asked r (answer_of c x r room).answer.asked s

-- ---- any calls from a fresh start

pub record Track : Type 0 where
  pub exchange : Exchange
  pub room : List ℕ
  pub seen : Joined

abbrev pub leaves : Held → Joined → Track
leaves h s = record { exchange = h.exchange; room = h.room; seen = s }

abbrev pub next : Terms → Track → Call → Track
next c t k = leaves (called c t.exchange t.room k) (sees c t.exchange t.room t.seen k)

unfoldable pub track : Terms → Track → List Call → Track
track c t [] = t
track c t (k ∷ ks) = track c (next c t k) ks

-- no place is in use, whatever lies in the room
abbrev pub at_start : ℕ → List ℕ → Track
at_start last room = record { exchange = fresh_exchange last; room = room; seen = nothing_joined }
