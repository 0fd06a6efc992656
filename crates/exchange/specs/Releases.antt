-- Which calls release a place, and what stays in a place until then: "at most one verdict and keeps it until released". Each proof is in
-- `proofs/Releases.antt`.
use Rattle.std.specs.Prelude.{ℕ, ◌<◌, ◌≡◌, Bool, true, false, not, List, eqb, length}
use Rattle.settings.specs.declared.terms.Terms.{Terms}
use Rattle.place.specs.Own.{own_has_verdict}
use Rattle.place.specs.Incoming.{incoming_length, incoming_is_replied}
use Rattle.place.specs.IncomingHistory.{shows}
use Rattle.place.specs.IncomingTheorems.{is_complete}
use Rattle.place.specs.declared.Incoming.{Incoming}
use Rattle.exchange.specs.Exchange.{own_place, incoming_place}
use Rattle.exchange.specs.Request.{Request, primary, reply, freeing_own, freeing_incoming, lends}
use Rattle.exchange.specs.History.{Call, block, tick, put_out, acknowledged, failed, request, called}
use Rattle.exchange.specs.declared.Exchange.{Exchange}

-- own places, and incoming ones
pub data Side : Type 0 where
  own incoming : Side

-- ---- which calls

-- the release of place p on this side is asked for: "Releasing is asked for each place by itself."
abbrev pub releases : Request → Side → ℕ → Bool
releases (primary q d) z p = false
releases (reply q f d) z p = false
releases (freeing_own q) own p = eqb q p
releases (freeing_own q) incoming p = false
releases (freeing_incoming q) own p = false
releases (freeing_incoming q) incoming p = eqb q p

abbrev pub frees : Call → Side → ℕ → Bool
frees (block h d) z p = false
frees tick z p = false
frees put_out z p = false
frees acknowledged z p = false
frees failed z p = false
frees (request r) z p = releases r z p

-- some release is asked for
abbrev pub is_release : Request → Bool
is_release (primary q d) = false
is_release (reply q f d) = false
is_release (freeing_own q) = true
is_release (freeing_incoming q) = true

abbrev pub asks_release : Call → Bool
asks_release (block h d) = false
asks_release tick = false
asks_release put_out = false
asks_release acknowledged = false
asks_release failed = false
asks_release (request r) = is_release r

-- a message is lent by every request but a release: "Releasing is asked for each place by itself." and brings no data
abbrev pub LentExactly : Type 0
LentExactly = (r : Request) → lends r ≡ not (is_release r)

-- ---- what stays

-- a place with a verdict is as it was after any call but its release
abbrev pub VerdictStays : Type 0
VerdictStays =
    (c : Terms) (x : Exchange) (room : List ℕ) → length x.own ≡ 4 → (p : ℕ) → p < 4 → own_has_verdict (own_place x p) ≡ true
    → (k : Call) → frees k own p ≡ false → own_place (called c x room k).exchange p ≡ own_place x p

-- complete, with header and length as they are in i
pub record SameMessage (i j : Incoming) : Type 0 where
  pub complete : is_complete (shows j) ≡ true
  pub header : j.header ≡ i.header
  pub size : incoming_length j ≡ incoming_length i

-- a complete message stays, whatever becomes of our reply
abbrev pub MessageStays : Type 0
MessageStays =
    (c : Terms) (x : Exchange) (room : List ℕ) → length x.incoming ≡ 4 → (p : ℕ) → p < 4 → is_complete (shows (incoming_place x p)) ≡ true
    → (k : Call) → frees k incoming p ≡ false → SameMessage (incoming_place x p) (incoming_place (called c x room k).exchange p)

-- and once our reply has ended, the place is as it was
abbrev pub EndStays : Type 0
EndStays =
    (c : Terms) (x : Exchange) (room : List ℕ) → length x.incoming ≡ 4 → (p : ℕ) → p < 4 → incoming_is_replied (incoming_place x p) ≡ true
    → (k : Call) → frees k incoming p ≡ false → incoming_place (called c x room k).exchange p ≡ incoming_place x p
