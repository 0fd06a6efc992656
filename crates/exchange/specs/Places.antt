-- What a user reads of a place, exactly when: that there is none, and that a reply to its message is owed. Of any state of the
-- transactions, and of any place number. And what a start leaves. The proofs are in `proofs/Places.antt`.
use Rattle.std.specs.Prelude.{ℕ, ◌<◌, ◌≡◌, true, false, [], ◌↔◌, ◌⊎◌, None}
use Rattle.place.specs.Own.{own_standing}
use Rattle.place.specs.Incoming.{primary_of}
use Rattle.place.specs.IncomingHistory.{nothing, shows}
use Rattle.place.specs.IncomingTheorems.{is_complete}
use Rattle.place.specs.declared.Standing.TheVariants as standing
use Rattle.reports.specs.Reports.{waiting_in}
use Rattle.exchange.specs.Exchange.{fresh_exchange, own_place, incoming_place}
use Rattle.exchange.specs.Reading.{own_reading, incoming_reading, stage_by}
use Rattle.exchange.specs.Rules.{Fours}
use Rattle.exchange.specs.Underway.{none, way}
use Rattle.exchange.specs.declared.Sending.TheVariants as sending
use Rattle.exchange.specs.declared.Exchange.{Exchange}
use Rattle.exchange.specs.declared.ReplyStage.TheVariants.{NotOwed, Owed}

-- ---- "`9 - 20` for a free place or one above 3"

pub record NoPlaceRead (x : Exchange) (p : ℕ) : Type 0 where
  pub own : (own_reading x p ≡ None) ↔ (own_standing (own_place x p) ≡ standing.Free)
  pub incoming : (incoming_reading x p ≡ None) ↔ (shows (incoming_place x p) ≡ nothing)
  -- there are four of either kind
  pub above : Fours x → 3 < p → (own_reading x p ≡ None) × (incoming_reading x p ≡ None)

-- No place is read exactly of one that is free, and of each above 3.
abbrev pub NoPlaceExactly : Type 0
NoPlaceExactly = (x : Exchange) (p : ℕ) → NoPlaceRead x p

-- ---- a reply of ours that is wanted: what is left where none of these refuses it: 9 an incoming place free or "not complete", "10 reply
-- to a primary with W = 0", "11 a reply to this primary was accepted before"

pub record OwedRead (x : Exchange) (p : ℕ) : Type 0 where
  -- the message is complete, it asked for a reply, and none was accepted
  pub owed :
      (stage_by (incoming_reading x p) ≡ Owed)
      ↔ ((is_complete (shows (incoming_place x p)) ≡ true) × ((primary_of (incoming_place x p)).w ≡ true) × (way (incoming_place x p) ≡ none))
  -- there is no message, or it is still open; or it asked for none
  pub not_owed :
      (stage_by (incoming_reading x p) ≡ NotOwed)
      ↔ ((is_complete (shows (incoming_place x p)) ≡ false) ⊎ (((primary_of (incoming_place x p)).w ≡ false) × (way (incoming_place x p) ≡ none)))

-- A reply is shown as owed exactly then, and as not owed. Of one that was accepted `ReplyRead` (`specs/Underway.antt`) says what is shown.
abbrev pub OwedExactly : Type 0
OwedExactly = (x : Exchange) (p : ℕ) → OwedRead x p

-- ---- a start

pub record Fresh (told : ℕ) (x : Exchange) : Type 0 where
  -- there are four places of either kind, and none is in use
  pub fours : Fours x
  pub own : (p : ℕ) → own_reading x p ≡ None
  pub incoming : (p : ℕ) → incoming_reading x p ≡ None
  -- rule 2: "the saved one (none at a start)"
  pub none_saved : x.saved ≡ None
  -- no message is being sent
  pub sending : x.sending ≡ sending.Nothing
  -- "last transaction number | 0 to 65535; 0 if none is kept": the number that the start is told of is the last given
  pub last : x.numbers.last ≡ told
  -- no own transaction has got a verdict: 0 is no number
  pub latest : x.numbers.latest ≡ 0
  -- no report waits, and none was dropped
  pub none_waits : waiting_in x.reports ≡ []
  pub none_dropped : x.reports.dropped ≡ 0

abbrev pub FreshExactly : Type 0
FreshExactly = (last : ℕ) → Fresh last (fresh_exchange last)
