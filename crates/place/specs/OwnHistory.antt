-- Events at an own place, in any order, and an onlooker. The onlooker sees which events come, what becomes of each block that is
-- offered, and whether a verdict is shown; of the place's own numbers it sees none.
use Rattle.std.specs.Prelude.{ℕ, ◌+◌, Bool, true, false, cond, List, [], ◌∷◌, ◌++◌}
use Rattle.header.specs.Header.{header_of}
use Rattle.header.specs.declared.header.Header.{Header}
use Rattle.settings.specs.declared.terms.Terms.{Terms}
use Rattle.place.specs.Fate.{fate_of}
use Rattle.place.specs.Message.{Routed, no_header}
use Rattle.place.specs.Own.{fresh_own, own_standing, own_kept, own_claimed, own_put_out, own_sent, own_failed, own_tick, own_takes, own_offered, own_released}
use Rattle.place.specs.declared.Fate.{Fate}
use Rattle.place.specs.declared.Fate.TheVariants.{Empty, TooLong, Last, More}
use Rattle.place.specs.declared.Standing.{Standing}
use Rattle.place.specs.declared.Standing.TheVariants as standing
use Rattle.place.specs.declared.Own.{Own}

-- A primary with this header is accepted; its last block is put out, at the first attempt or again; its last block is acknowledged; a block
-- of it fails; 0.1 s pass; a block that passed rule 1 comes, with so many data bytes; the verdict is released.
pub data Event (c : Terms) : Type 0 where
  claim : List ℕ → Event c
  put_out sent failed tick release : Event c
  block : (h : Header) (size : ℕ) → Routed c h → Event c

-- a place's life: one step
abbrev pub step : {c : Terms} → Own → Event c → Own
step o (claim h) = own_claimed o h
step o put_out = own_put_out o
step o sent = own_sent o
step o failed = own_failed o
step {c} o tick = own_tick c o
step o release = own_released o
step o (block h size q) = own_offered o h size

-- ---- what becomes of a block

-- it is not for this place; it is kept (note 21); it breaks the reply (notes 26 and 27)
pub data Answer : Type 0 where
  passed kept spoilt : Answer

abbrev pub answer_by : Fate → Answer
answer_by Empty = spoilt
answer_by TooLong = spoilt
answer_by (Last n) = kept
answer_by (More n) = kept

unfoldable pub answer_to : Own → Header → ℕ → Answer
answer_to o h size = cond (own_takes o h) (answer_by (fate_of h (own_kept o).length size)) passed

-- ---- the onlooker

-- no request; it is being sent or held; the same, W = 1, and its last block was put out; its last block was acknowledged; it was not, but a
-- block of its reply came, which proves that it was received; a block of it failed
pub data Request : Type 0 where
  none underway out acknowledged proved lost : Request

pub record Seen : Type 0 where
  pub request : Request
  -- what was asked for
  pub header : Header
  -- since the request's last block was put out: the headers of the blocks kept, their data bytes in all, whether one broke the reply
  pub kept : List Header
  pub bytes : ℕ
  pub spoilt : Bool
  -- ticks since the ACK of that block, or since the block that proved it received; and ticks since the last block kept
  pub since : ℕ
  pub quiet : ℕ

abbrev pub nothing_seen : Seen
nothing_seen = record { request = none; header = no_header; kept = []; bytes = 0; spoilt = false; since = 0; quiet = 0 }

abbrev pub at : Seen → Request → Seen
at s q = record { request = q; header = s.header; kept = s.kept; bytes = s.bytes; spoilt = s.spoilt; since = s.since; quiet = s.quiet }

-- a request is accepted where there is none
abbrev pub asked : Request → Seen → Header → Seen
asked none s h = record { request = underway; header = h; kept = s.kept; bytes = s.bytes; spoilt = s.spoilt; since = s.since; quiet = s.quiet }
asked underway s h = s
asked out s h = s
asked acknowledged s h = s
asked proved s h = s
asked lost s h = s

-- the request has come to this, and all counts start
abbrev pub counting : Seen → Request → Seen
counting s q = record { request = q; header = s.header; kept = []; bytes = 0; spoilt = false; since = 0; quiet = 0 }

-- blocks are counted from the first time that its last block is put out, if it asks for a reply
abbrev pub went_out : Request → Seen → Seen
went_out none s = s
went_out underway s = cond s.header.w (counting s out) s
went_out out s = s
went_out acknowledged s = s
went_out proved s = s
went_out lost s = s

-- ticks are counted from the ACK; no block was kept before it, or the request would be proved
abbrev pub acked : Request → Seen → Seen
acked none s = s
acked underway s = counting s acknowledged
acked out s = counting s acknowledged
acked acknowledged s = s
acked proved s = s
acked lost s = s

abbrev pub gave_up : Request → Seen → Seen
gave_up none s = s
gave_up underway s = at s lost
gave_up out s = at s lost
gave_up acknowledged s = s
gave_up proved s = s
gave_up lost s = s

-- a release is accepted where a verdict is shown
abbrev pub freed : Standing → Seen → Seen
freed standing.Free s = s
freed standing.Open s = s
freed (standing.Given v) s = at s none

-- a block of the reply, before the ACK: "proved received by its reply" (02, request 1)
abbrev pub proven_by : Request → Request
proven_by none = none
proven_by underway = underway
proven_by out = proved
proven_by acknowledged = acknowledged
proven_by proved = proved
proven_by lost = lost

-- from which ticks are counted as from the ACK
abbrev pub since_by : Request → ℕ → ℕ
since_by none n = n
since_by underway n = n
since_by out n = 0
since_by acknowledged n = n
since_by proved n = n
since_by lost n = n

abbrev pub answered : Answer → Seen → Header → ℕ → Seen
answered passed s h size = s
answered kept s h size = record {
  request = proven_by s.request;
  header = s.header;
  kept = s.kept ++ (h ∷ []);
  bytes = s.bytes + size;
  spoilt = s.spoilt;
  since = since_by s.request s.since;
  quiet = 0;
}
answered spoilt s h size = record {
  request = proven_by s.request;
  header = s.header;
  kept = s.kept;
  bytes = s.bytes;
  spoilt = true;
  since = since_by s.request s.since;
  quiet = s.quiet;
}

abbrev pub sees : {c : Terms} → Own → Seen → Event c → Seen
sees o s (claim h) = asked s.request s (header_of h)
sees o s put_out = went_out s.request s
sees o s sent = acked s.request s
sees o s failed = gave_up s.request s
sees o s tick =
    record { request = s.request; header = s.header; kept = s.kept; bytes = s.bytes; spoilt = s.spoilt; since = s.since + 1; quiet = s.quiet + 1 }
sees o s release = freed (own_standing o) s
sees o s (block h size q) = answered (answer_to o h size) s h size

-- ---- any events at a fresh place

pub record Track : Type 0 where
  pub own : Own
  pub seen : Seen

abbrev pub next : {c : Terms} → Track → Event c → Track
next t e = record { own = step t.own e; seen = sees t.own t.seen e }

unfoldable pub track : {c : Terms} → Track → List (Event c) → Track
track t [] = t
track t (e ∷ es) = track (next t e) es

abbrev pub at_start : Track
at_start = record { own = fresh_own; seen = nothing_seen }

-- the place alone
unfoldable pub run : {c : Terms} → Own → List (Event c) → Own
run o [] = o
run o (e ∷ es) = run (step o e) es
