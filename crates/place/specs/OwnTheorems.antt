-- What is proved of an own place over every list of events from a fresh start, in the words of the onlooker
-- (`specs/OwnHistory.antt`). Each proof is in `proofs/`.
use Rattle.std.specs.Prelude.{ℕ, ◌+◌, ◌*◌, ◌%◌, ◌≤◌, ◌<◌, ◌≡◌, Bool, true, false, List, [], ◌∷◌, ◌↔◌, ◌⊎◌, length}
use Rattle.header.specs.declared.header.Header.{Header}
use Rattle.settings.specs.declared.terms.Terms.{Terms}
use Rattle.place.specs.Message.{Routed, StartsMessage, Continues, LacksData, Whole, first_of}
use Rattle.place.specs.Own.{primary_of, own_standing, own_is_free, own_has_verdict, own_kept, own_takes}
use Rattle.place.specs.Range.{own_in_range}
use Rattle.place.specs.OwnHistory.{Event, claim, put_out, sent, failed, tick, release, block, Request, none, underway, out, acknowledged, proved, lost, Answer, passed, kept, spoilt, answer_to, Seen, sees, Track, next, track, at_start, run}
use Rattle.place.specs.declared.Verdict.{Verdict}
use Rattle.place.specs.declared.Reply.{Reply}
use Rattle.place.specs.declared.Verdict.TheVariants.{Sent, Answered, Declined, Other, Broken, NoReply, SendFailed}
use Rattle.place.specs.declared.Standing.{Standing}
use Rattle.place.specs.declared.Standing.TheVariants.{Free, Open, Given}
use Rattle.place.specs.declared.Own.{Own}

-- what any events at a fresh place leave
pub record Reached (c : Terms) (t : Track) : Type 0 where
  pub events : List (Event c)
  pub so : track at_start events ≡ t

-- ---- each verdict exactly when

-- "same stream, function one higher"
pub record Answers (request reply : Header) : Type 0 where
  pub stream : reply.stream ≡ request.stream
  pub function : reply.function ≡ request.function + 1

-- "same stream, function 0"
pub record Declines (request reply : Header) : Type 0 where
  pub stream : reply.stream ≡ request.stream
  pub function : reply.function ≡ 0

-- the request's last block was "acknowledged, or proved received by its reply" (02, request 1)
abbrev pub Received : Request → Type 0
Received r = (r ≡ acknowledged) ⊎ (r ≡ proved)

-- and a reply was asked for
pub record Asked (s : Seen) : Type 0 where
  pub received : Received s.request
  pub wanted : s.header.w ≡ true

-- the blocks kept since are a whole message
pub record Complete (s : Seen) : Type 0 where
  pub asked : Asked s
  pub whole : Whole s.kept

-- a block was noted 26 or 27, or T4 ran out behind the last one kept
abbrev pub Breaks : Terms → Seen → Type 0
Breaks c s = (s.spoilt ≡ true) ⊎ ((1 ≤ length s.kept) × (c.t4.0 < s.quiet))

-- Each verdict's condition, from the history alone.
abbrev pub Earned : Terms → Seen → Verdict → Type 0
-- "1 sent (W = 0, all acknowledged)"
Earned c s Sent = (s.request ≡ acknowledged) × (s.header.w ≡ false)
-- "2 answered (complete reply, same stream, function one higher)"
Earned c s Answered = Complete s × Answers s.header (first_of s.kept)
-- "3 declined (same stream, function 0)"
Earned c s Declined = Complete s × Declines s.header (first_of s.kept)
-- "4 other reply"
Earned c s Other = Complete s × (Answers s.header (first_of s.kept) → ⊥) × (Declines s.header (first_of s.kept) → ⊥)
-- "5 broken"
Earned c s Broken = Asked s × (Whole s.kept → ⊥) × Breaks c s
-- "6 no reply in T3": acknowledged, "T3 runs, from the ACK"; no block kept, none that broke the reply, and T3 exceeded
Earned c s NoReply =
    (s.request ≡ acknowledged) × (s.header.w ≡ true) × (s.kept ≡ []) × (s.spoilt ≡ false) × (c.t3.0 < s.since)
-- "7 send failed"
Earned c s SendFailed = s.request ≡ lost

-- A place shows a verdict exactly when it is earned.
abbrev pub VerdictExactly : Type 0
VerdictExactly = (c : Terms) (t : Track) → Reached c t → (v : Verdict) → (own_standing t.own ≡ Given v) ↔ Earned c t.seen v

-- It is free exactly when no request is in it: none was accepted since the last release.
abbrev pub FreeExactly : Type 0
FreeExactly = (c : Terms) (t : Track) → Reached c t → (own_standing t.own ≡ Free) ↔ (t.seen.request ≡ none)

-- The two tests by which places are looked for and released, of any place: they say what it shows.
pub record OwnTested (o : Own) : Type 0 where
  pub free : (own_is_free o ≡ true) ↔ (own_standing o ≡ Free)
  pub given : (own_has_verdict o ≡ true) ↔ ((v : Verdict) × (own_standing o ≡ Given v))

abbrev pub OwnTests : Type 0
OwnTests = (o : Own) → OwnTested o

-- 2, 3 and 4: the verdicts on a whole reply
abbrev pub on_reply : Verdict → Bool
on_reply Sent = false
on_reply Answered = true
on_reply Declined = true
on_reply Other = true
on_reply Broken = false
on_reply NoReply = false
on_reply SendFailed = false

-- the W-bit, stream and function of the first block kept, and the length of the data of all of them
pub record ReplyAsKept (s : Seen) (r : Reply) : Type 0 where
  pub w : r.w ≡ (first_of s.kept).w
  pub stream : r.stream ≡ (first_of s.kept).stream
  pub function : r.function ≡ (first_of s.kept).function
  pub length : r.length ≡ s.bytes

-- After 2, 3 and 4 the reply shown is the one of the blocks kept.
abbrev pub ReplyShown : Type 0
ReplyShown = (c : Terms) (t : Track) → Reached c t → Complete t.seen → ReplyAsKept t.seen (own_kept t.own)

-- And while it arrives it is shown as far as it is kept.
abbrev pub ArrivingShown : Type 0
ArrivingShown =
    (c : Terms) (t : Track) → Reached c t → Asked t.seen → own_standing t.own ≡ Open → 1 ≤ length t.seen.kept
    → ReplyAsKept t.seen (own_kept t.own)

-- There is no block of a reply to show: no request is there, or it is still being sent or held, its last block put out or not; it was
-- acknowledged, and none was kept since; or the verdict is "1 sent", "5 broken", "6 no reply in T3" or "7 send failed".
pub data NoneToShow (s : Seen) (z : Standing) : Type 0 where
  no_request : s.request ≡ none → NoneToShow s z
  not_out : s.request ≡ underway → NoneToShow s z
  not_acked : s.request ≡ out → NoneToShow s z
  none_kept : s.request ≡ acknowledged → s.kept ≡ [] → NoneToShow s z
  no_whole : (v : Verdict) → on_reply v ≡ false → z ≡ Given v → NoneToShow s z

pub record AllZeros (r : Reply) : Type 0 where
  pub w : r.w ≡ false
  pub stream : r.stream ≡ 0
  pub function : r.function ≡ 0
  pub length : r.length ≡ 0

-- Then nothing is shown of one. With the two above this is all that a place can show of a reply.
abbrev pub NothingShown : Type 0
NothingShown = (c : Terms) (t : Track) → Reached c t → NoneToShow t.seen (own_standing t.own) → AllZeros (own_kept t.own)

-- The header shown of a place in use is that of the request which was accepted for it.
abbrev pub RequestShown : Type 0
RequestShown = (c : Terms) (t : Track) → Reached c t → (own_standing t.own ≡ Free → ⊥) → primary_of t.own ≡ t.seen.header

-- And it stays: nothing that comes changes it, but the next request that is accepted where there is none.
abbrev pub HeaderStays : Type 0
HeaderStays =
    (c : Terms) (t : Track) (e : Event c) → ((h : List ℕ) → e ≡ claim h → t.seen.request ≡ none → ⊥)
    → (next t e).seen.header ≡ t.seen.header

-- ---- what becomes of a block

-- "the first block of an awaited reply (same system bytes, even function, number 1, or 0 with E = 1)"
pub record BeginsReply (request b : Header) : Type 0 where
  pub system : b.system ≡ request.system
  pub even : b.function % 2 ≡ 0
  pub first : StartsMessage b

-- "Continues an open message (device ID, system bytes, W, stream, function and next number)": the one of the blocks kept. The
-- device ID is the request's too
pub record GoesOn (s : Seen) (b : Header) : Type 0 where
  pub some : 1 ≤ length s.kept
  pub device : b.device ≡ s.header.device
  pub following : Continues (first_of s.kept) (length s.kept + 1) b

-- a reply is awaited "from the call that first puts out the bytes of its last block" (02, request 1), where W = 1
abbrev pub Awaited : Seen → Type 0
Awaited s = (s.request ≡ out) ⊎ Asked s

-- the block is the reply's: a reply is awaited, no verdict is shown, and this is its first block or the next
pub record Due (t : Track) (b : Header) : Type 0 where
  pub awaited : Awaited t.seen
  pub undecided : own_standing t.own ≡ Open
  pub fits : ((t.seen.kept ≡ []) × BeginsReply t.seen.header b) ⊎ GoesOn t.seen b

-- "E = 0, or number above 1, with no data"; "Total data above 4,096"
abbrev pub Spoils : Seen → Header → ℕ → Type 0
Spoils s b size = LacksData b size ⊎ (4096 < s.bytes + size)

-- Each answer's condition.
abbrev pub Becomes : Track → Header → ℕ → Answer → Type 0
Becomes t b size passed = Due t b → ⊥
Becomes t b size kept = Due t b × (Spoils t.seen b size → ⊥)
Becomes t b size spoilt = Due t b × Spoils t.seen b size

-- A block that passed rule 1 is taken for this place's reply exactly if it is due: by this rule 3 looks for its place.
abbrev pub OwnTakesExactly : Type 0
OwnTakesExactly = (c : Terms) (t : Track) → Reached c t → (b : Header) → Routed c b → (own_takes t.own b ≡ true) ↔ Due t b

-- A block that passed rule 1 is kept, breaks the reply or passes by exactly when it should: what the onlooker sees of blocks is
-- as 01 says.
abbrev pub AnswerExactly : Type 0
AnswerExactly =
    (c : Terms) (t : Track) → Reached c t → (b : Header) (size : ℕ) → Routed c b
    → (a : Answer) → (answer_to t.own b size ≡ a) ↔ Becomes t b size a

-- ---- at most one, and kept until released

abbrev pub spares : {c : Terms} → Event c → Bool
spares (claim h) = true
spares put_out = true
spares sent = true
spares failed = true
spares tick = true
spares release = false
spares (block h size q) = true

-- no release is among the events
pub data Spared {c : Terms} : List (Event c) → Type 0 where
  no_more : Spared []
  one_more : {e : Event c} {es : List (Event c)} → spares e ≡ true → Spared es → Spared (e ∷ es)

-- "gets at most one verdict and keeps it until released": whatever comes, but a release, the place with a verdict stays as it is
abbrev pub OneVerdict : Type 0
OneVerdict =
    (c : Terms) (t : Track) → Reached c t → (v : Verdict) → own_standing t.own ≡ Given v
    → (es : List (Event c)) → Spared es → run t.own es ≡ t.own

-- ---- and in time

-- "A timer starts at 0, each later tick adds 1": a tick adds one to the ticks since the ACK and one to those since the last block kept, and
-- changes nothing else that was seen.
pub record TicksOne (before after : Seen) : Type 0 where
  pub request : after.request ≡ before.request
  pub header : after.header ≡ before.header
  pub kept : after.kept ≡ before.kept
  pub bytes : after.bytes ≡ before.bytes
  pub spoilt : after.spoilt ≡ before.spoilt
  pub since : after.since ≡ before.since + 1
  pub quiet : after.quiet ≡ before.quiet + 1

-- Each tick does, at any place and whatever was seen of it: the limits below are in these ticks.
abbrev pub OwnTicked : Type 0
OwnTicked = (c : Terms) (o : Own) (s : Seen) → TicksOne s (sees {c = c} o s tick)

-- "by tick T3 + 4096 x T4 + 1"
abbrev pub verdict_limit : Terms → ℕ
verdict_limit c = c.t3.0 + 4096 * c.t4.0 + 1

-- "and by tick T3 + 1 if no reply block was kept"
abbrev pub silence_limit : Terms → ℕ
silence_limit c = c.t3.0 + 1

pub record Decided (t : Track) : Type 0 where
  pub verdict : Verdict
  pub shown : own_standing t.own ≡ Given verdict

-- Ticks are counted from the ACK of the request's last block, or from the block that proved it received, and nothing that comes sets the
-- count back.
pub record InTime (c : Terms) (t : Track) : Type 0 where
  pub by_limit : Received t.seen.request → verdict_limit c ≤ t.seen.since → Decided t
  pub by_silence : Received t.seen.request → t.seen.kept ≡ [] → silence_limit c ≤ t.seen.since → Decided t

-- A request that is out, or was proved received, asked for a reply; of one that is out no block of it came yet; and of one that was proved
-- received one did, and was kept or broke it.
pub record OutSays (s : Seen) : Type 0 where
  pub wanted : (s.request ≡ out) ⊎ (s.request ≡ proved) → s.header.w ≡ true
  pub none_yet : s.request ≡ out → (s.kept ≡ []) × (s.spoilt ≡ false)
  pub one_came : s.request ≡ proved → (1 ≤ length s.kept) ⊎ (s.spoilt ≡ true)

abbrev pub OutOnly : Type 0
OutOnly = (c : Terms) (t : Track) → Reached c t → OutSays t.seen

abbrev pub VerdictFalls : Type 0
VerdictFalls = (c : Terms) (t : Track) → Reached c t → InTime c t

-- ---- ranges

-- the own place's part of refusal 3: with T3 and T4 in 01's range, 120 s or 1,200 ticks at most, no place that is reached has a
-- number outside docs/STATE.md
abbrev pub OwnReachedInRange : Type 0
OwnReachedInRange = (c : Terms) → c.t3.0 ≤ 1200 → c.t4.0 ≤ 1200 → (t : Track) → Reached c t → own_in_range t.own ≡ true
