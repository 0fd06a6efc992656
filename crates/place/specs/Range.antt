-- The ranges of docs/STATE.md for a place: as a test, and field by field.
use Rattle.std.specs.Prelude.{ℕ, ◌≤◌, ◌≡◌, Bool, true, ◌&&◌, ◌↔◌, leb}
use Rattle.wire.specs.Message.{message_limit, next_limit}
use Rattle.place.specs.declared.Arriving.{Arriving}
use Rattle.place.specs.declared.OwnStage.{OwnStage}
use Rattle.place.specs.declared.OwnStage.TheVariants as own
use Rattle.place.specs.declared.Own.{Own}
use Rattle.place.specs.declared.IncomingStage.{IncomingStage}
use Rattle.place.specs.declared.IncomingStage.TheVariants as incoming
use Rattle.place.specs.declared.Incoming.{Incoming}

-- ---- the test

-- 0 to 1,200: the longest T3 and T4
unfoldable pub timer_in_range : ℕ → Bool
timer_in_range timer = leb timer 1200

-- a message's data
unfoldable pub length_in_range : ℕ → Bool
length_in_range n = leb n message_limit

-- a message that is arriving: its timer, the next number, and its data bytes
unfoldable pub arriving_in_range : Arriving → Bool
arriving_in_range a = timer_in_range a.timer && leb a.next next_limit && length_in_range a.length

abbrev pub own_stage_in_range : OwnStage → Bool
own_stage_in_range own.Free = true
own_stage_in_range own.Sending = true
own_stage_in_range own.PutOut = true
own_stage_in_range (own.Awaiting timer) = timer_in_range timer
own_stage_in_range (own.Replying a) = arriving_in_range a
own_stage_in_range (own.Done v r) = length_in_range r.length

abbrev pub own_in_range : Own → Bool
own_in_range o = own_stage_in_range o.stage

abbrev pub incoming_stage_in_range : IncomingStage → Bool
incoming_stage_in_range incoming.Free = true
incoming_stage_in_range (incoming.Open a) = arriving_in_range a
incoming_stage_in_range (incoming.Complete n) = length_in_range n
incoming_stage_in_range (incoming.Replying n) = length_in_range n
incoming_stage_in_range (incoming.Replied n e) = length_in_range n

abbrev pub incoming_in_range : Incoming → Bool
incoming_in_range i = incoming_stage_in_range i.stage

-- ---- field by field

pub record ArrivingFits (a : Arriving) : Type 0 where
  pub timer_most : a.timer ≤ 1200
  pub next_most : a.next ≤ 4097
  pub length_most : a.length ≤ 4096

abbrev pub OwnStageFits : OwnStage → Type 0
OwnStageFits own.Free = Unit {0}
OwnStageFits own.Sending = Unit {0}
OwnStageFits own.PutOut = Unit {0}
OwnStageFits (own.Awaiting timer) = timer ≤ 1200
OwnStageFits (own.Replying a) = ArrivingFits a
OwnStageFits (own.Done v r) = r.length ≤ message_limit

abbrev pub OwnFits : Own → Type 0
OwnFits o = OwnStageFits o.stage

abbrev pub IncomingStageFits : IncomingStage → Type 0
IncomingStageFits incoming.Free = Unit {0}
IncomingStageFits (incoming.Open a) = ArrivingFits a
IncomingStageFits (incoming.Complete n) = n ≤ message_limit
IncomingStageFits (incoming.Replying n) = n ≤ message_limit
IncomingStageFits (incoming.Replied n e) = n ≤ message_limit

abbrev pub IncomingFits : Incoming → Type 0
IncomingFits i = IncomingStageFits i.stage

-- The test is true exactly if each field is in its range: the places' part of refusal 3, "state with a field outside the ranges listed
-- in docs/".
abbrev pub OwnFitsExactly : Type 0
OwnFitsExactly = (o : Own) → (own_in_range o ≡ true) ↔ OwnFits o

abbrev pub IncomingFitsExactly : Type 0
IncomingFitsExactly = (i : Incoming) → (incoming_in_range i ≡ true) ↔ IncomingFits i
