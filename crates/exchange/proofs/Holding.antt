-- What the area of a place holds at each stage, and what the events of a place leave of it. Assumes nothing.
use Prim.Native.Nat.{ℕ, ◌<◌}
use mathlib.Core.Path.{◌≡◌, refl, sym, subst}
use mathlib.Core.Bool.{true, false≢true}
use mathlib.Core.List.{List, []}
use native.Mathlib.Omega.{arith}
use lib.ListN.{length}
use Rattle.wire.proofs.Choice.{chosen}
use Rattle.header.specs.declared.header.Header.{Header}
use Rattle.settings.specs.declared.terms.Terms.{Terms}
use Rattle.settings.proofs.Timers.{by_timer}
use Rattle.place.specs.OwnTheorems.{on_reply}
use Rattle.place.proofs.Arrivals.{by_waited}
use Rattle.room.specs.declared.Message.{Message}
use Rattle.room.specs.declared.Message.TheVariants as message
use Rattle.place.specs.Own.{ended, primary_of, kept_at, standing_at, free_by, awaited_by, replying_by, own_tick, await_tick, reply_tick, first_out, own_put_out, acknowledged, own_sent, own_failed, own_claimed, own_takes, own_released}
use Rattle.place.specs.Incoming.{length_at, incoming_tick, open_tick, open_by, ended_at, incoming_answered, incoming_released, incoming_takes}
use Rattle.place.specs.declared.OwnStage.{OwnStage}
use Rattle.place.specs.declared.OwnStage.TheVariants as stage
use Rattle.place.specs.declared.Own.{Own}
use Rattle.place.specs.declared.End.{End}
use Rattle.place.specs.declared.IncomingStage.{IncomingStage}
use Rattle.place.specs.declared.IncomingStage.TheVariants as arrival
use Rattle.place.specs.declared.Incoming.{Incoming}
use Rattle.exchange.specs.Releases.{Side}
use Rattle.exchange.specs.Releases as side
use Rattle.exchange.proofs.Sides.{Place}
use Rattle.exchange.proofs.Filling.{Fills, Spares, fills_none}
use Rattle.exchange.specs.declared.Sending.{Sending}
use Rattle.exchange.specs.declared.Sending.TheVariants as sending

-- ---- what is held at each stage

-- at each stage of own place p, with the data bs joined
abbrev pub OwnHolds : List ℕ → ℕ → OwnStage → List ℕ → Type 0
OwnHolds room p stage.Free bs = Unit {0}
OwnHolds room p stage.Sending bs = bs ≡ []
OwnHolds room p stage.PutOut bs = bs ≡ []
OwnHolds room p (stage.Awaiting timer) bs = bs ≡ []
OwnHolds room p (stage.Replying a) bs = Fills room (message.Reply p) a.length bs
OwnHolds room p (stage.Done v r) bs = on_reply v ≡ true → Fills room (message.Reply p) r.length bs

-- at each stage of incoming place p
abbrev pub IncomingHolds : List ℕ → ℕ → IncomingStage → List ℕ → Type 0
IncomingHolds room p arrival.Free bs = Unit {0}
IncomingHolds room p (arrival.Open a) bs = Fills room (message.Incoming p) a.length bs
IncomingHolds room p (arrival.Complete n) bs = Fills room (message.Incoming p) n bs
IncomingHolds room p (arrival.Replying n) bs = Fills room (message.Incoming p) n bs
IncomingHolds room p (arrival.Replied n e) bs = Fills room (message.Incoming p) n bs

-- of a place on either side, and which area is its own
abbrev pub Holds : (z : Side) → List ℕ → ℕ → Place z → List ℕ → Type 0
Holds side.own room p o bs = OwnHolds room p o.stage bs
Holds side.incoming room p i bs = IncomingHolds room p i.stage bs

abbrev pub area : Side → ℕ → Message
area side.own p = message.Reply p
area side.incoming p = message.Incoming p

-- of the message being sent: nothing of a report lies there
abbrev pub SendHolds : List ℕ → Sending → List ℕ → Type 0
SendHolds room sending.Nothing bs = Unit {0}
SendHolds room (sending.Primary p n) bs = Fills room message.Send n bs
SendHolds room (sending.Reply p f n) bs = Fills room message.Send n bs
SendHolds room (sending.Report f n) bs = Unit {0}

-- ---- a write elsewhere

module _ (room after : List ℕ) (m : Message) (s : Spares room after m) where
  own_spared : (p : ℕ) → p < 4 → (m ≡ message.Reply p → ⊥) → (o : OwnStage) (bs : List ℕ) → OwnHolds room p o bs → OwnHolds after p o bs
  own_spared p k ne stage.Free bs h = tt
  own_spared p k ne stage.Sending bs h = h
  own_spared p k ne stage.PutOut bs h = h
  own_spared p k ne (stage.Awaiting timer) bs h = h
  own_spared p k ne (stage.Replying a) bs h = s.others (message.Reply p) a.length bs ne k h
  own_spared p k ne (stage.Done v r) bs h = λ e. s.others (message.Reply p) r.length bs ne k (h e)

  incoming_spared : (p : ℕ) → p < 4 → (m ≡ message.Incoming p → ⊥) → (i : IncomingStage) (bs : List ℕ) → IncomingHolds room p i bs → IncomingHolds after p i bs
  incoming_spared p k ne arrival.Free bs h = tt
  incoming_spared p k ne (arrival.Open a) bs h = s.others (message.Incoming p) a.length bs ne k h
  incoming_spared p k ne (arrival.Complete n) bs h = s.others (message.Incoming p) n bs ne k h
  incoming_spared p k ne (arrival.Replying n) bs h = s.others (message.Incoming p) n bs ne k h
  incoming_spared p k ne (arrival.Replied n e) bs h = s.others (message.Incoming p) n bs ne k h

  pub spared : (z : Side) (p : ℕ) → p < 4 → (m ≡ area z p → ⊥) → (o : Place z) (bs : List ℕ) → Holds z room p o bs → Holds z after p o bs
  spared side.own p k ne o = own_spared p k ne o.stage
  spared side.incoming p k ne i = incoming_spared p k ne i.stage

  pub send_spared : (m ≡ message.Send → ⊥) → (q : Sending) (bs : List ℕ) → SendHolds room q bs → SendHolds after q bs
  send_spared ne sending.Nothing bs h = tt
  send_spared ne (sending.Primary p n) bs h = s.others message.Send n bs ne (omega arith) h
  send_spared ne (sending.Reply p f n) bs h = s.others message.Send n bs ne (omega arith) h
  send_spared ne (sending.Report f n) bs h = tt

-- ---- events at an own place

-- a place from its parts
abbrev mk : List ℕ → OwnStage → Own
mk h s = record { header = h; stage = s }

module _ (room : List ℕ) (p : ℕ) (bs : List ℕ) where
  pub own_ticked : (c : Terms) (h : List ℕ) (s : OwnStage) → OwnHolds room p s bs → OwnHolds room p (own_tick c (mk h s)).stage bs
  unfolding await_tick reply_tick ended
  own_ticked c h stage.Free w = tt
  own_ticked c h stage.Sending w = w
  own_ticked c h stage.PutOut w = w
  own_ticked c h (stage.Awaiting timer) w =
      by_timer c.t3 timer (λ t. OwnHolds room p (awaited_by (mk h (stage.Awaiting timer)) t).stage bs) (λ _. λ e. absurd (false≢true e)) (λ _. w)
  own_ticked c h (stage.Replying a) w =
      by_waited c a (λ t. OwnHolds room p (replying_by (mk h (stage.Replying a)) t).stage bs) (λ e. absurd (false≢true e)) (λ _. w)
  own_ticked c h (stage.Done v r) w = w

  pub own_put_out_lem : (h : List ℕ) (s : OwnStage) → OwnHolds room p s bs → OwnHolds room p (own_put_out (mk h s)).stage bs
  unfolding first_out
  own_put_out_lem h stage.Free w = tt
  own_put_out_lem h stage.Sending w = chosen (λ (o : Own). OwnHolds room p o.stage bs) (primary_of (mk h stage.Sending)).w _ _ (λ _. w) (λ _. w)
  own_put_out_lem h stage.PutOut w = w
  own_put_out_lem h (stage.Awaiting timer) w = w
  own_put_out_lem h (stage.Replying a) w = w
  own_put_out_lem h (stage.Done v r) w = w

  own_acknowledged : (h : List ℕ) (s : OwnStage) → bs ≡ [] → OwnHolds room p (acknowledged (mk h s)).stage bs
  unfolding acknowledged ended
  own_acknowledged h s w = chosen (λ (o : Own). OwnHolds room p o.stage bs) (primary_of (mk h s)).w _ _ (λ _. w) (λ _. λ e. absurd (false≢true e))

  pub own_sent_lem : (h : List ℕ) (s : OwnStage) → OwnHolds room p s bs → OwnHolds room p (own_sent (mk h s)).stage bs
  own_sent_lem h stage.Free w = tt
  own_sent_lem h stage.Sending w = own_acknowledged h stage.Sending w
  own_sent_lem h stage.PutOut w = own_acknowledged h stage.PutOut w
  own_sent_lem h (stage.Awaiting timer) w = w
  own_sent_lem h (stage.Replying a) w = w
  own_sent_lem h (stage.Done v r) w = w

  pub own_failed_lem : (h : List ℕ) (s : OwnStage) → OwnHolds room p s bs → OwnHolds room p (own_failed (mk h s)).stage bs
  unfolding ended
  own_failed_lem h stage.Free w = tt
  own_failed_lem h stage.Sending w = λ e. absurd (false≢true e)
  own_failed_lem h stage.PutOut w = λ e. absurd (false≢true e)
  own_failed_lem h (stage.Awaiting timer) w = w
  own_failed_lem h (stage.Replying a) w = w
  own_failed_lem h (stage.Done v r) w = w

  pub own_released_lem : (h : List ℕ) (s : OwnStage) → OwnHolds room p s bs → OwnHolds room p (own_released (mk h s)).stage bs
  own_released_lem h stage.Free w = tt
  own_released_lem h stage.Sending w = w
  own_released_lem h stage.PutOut w = w
  own_released_lem h (stage.Awaiting timer) w = w
  own_released_lem h (stage.Replying a) w = w
  own_released_lem h (stage.Done v r) w = tt

  -- what a place that takes a block has of its reply
  none_has : length room ≡ 36864 → p < 4 → bs ≡ [] → Fills room (message.Reply p) 0 bs
  none_has w k g = subst (λ l. Fills room (message.Reply p) 0 l) (sym g) (fills_none room (message.Reply p) w k)

  pub own_has : (w : length room ≡ 36864) → p < 4 → (b : Header) (h : List ℕ) (s : OwnStage) → own_takes (mk h s) b ≡ true → OwnHolds room p s bs
      → Fills room (message.Reply p) (kept_at s).length bs
  own_has w k b h stage.Free t g = absurd (false≢true t)
  own_has w k b h stage.Sending t g = absurd (false≢true t)
  own_has w k b h stage.PutOut t g = none_has w k g
  own_has w k b h (stage.Awaiting timer) t g = none_has w k g
  own_has w k b h (stage.Replying a) t g = g
  own_has w k b h (stage.Done v r) t g = absurd (false≢true t)

-- a free place takes a primary
pub own_claimed_lem : (room : List ℕ) (p : ℕ) (h : List ℕ) (s : OwnStage) (new : List ℕ) → free_by (standing_at s) ≡ true → OwnHolds room p (own_claimed (mk h s) new).stage []
own_claimed_lem room p h stage.Free new e = refl
own_claimed_lem room p h stage.Sending new e = absurd (false≢true e)
own_claimed_lem room p h stage.PutOut new e = absurd (false≢true e)
own_claimed_lem room p h (stage.Awaiting timer) new e = absurd (false≢true e)
own_claimed_lem room p h (stage.Replying a) new e = absurd (false≢true e)
own_claimed_lem room p h (stage.Done v r) new e = absurd (false≢true e)

-- ---- events at an incoming place

-- a place from its parts
abbrev mk_in : Header → IncomingStage → Incoming
mk_in h s = record { header = h; stage = s }

module _ (room : List ℕ) (p : ℕ) (bs : List ℕ) where
  pub incoming_ticked : (c : Terms) (h : Header) (s : IncomingStage) → IncomingHolds room p s bs → IncomingHolds room p (incoming_tick c (mk_in h s)).stage bs
  unfolding open_tick
  incoming_ticked c h arrival.Free w = tt
  incoming_ticked c h (arrival.Open a) w =
      by_waited c a (λ t. IncomingHolds room p (open_by (mk_in h (arrival.Open a)) t).stage bs) tt (λ _. w)
  incoming_ticked c h (arrival.Complete n) w = w
  incoming_ticked c h (arrival.Replying n) w = w
  incoming_ticked c h (arrival.Replied n e) w = w

  pub incoming_answered_lem : (h : Header) (s : IncomingStage) → IncomingHolds room p s bs → IncomingHolds room p (incoming_answered (mk_in h s)).stage bs
  incoming_answered_lem h arrival.Free w = tt
  incoming_answered_lem h (arrival.Open a) w = w
  incoming_answered_lem h (arrival.Complete n) w = w
  incoming_answered_lem h (arrival.Replying n) w = w
  incoming_answered_lem h (arrival.Replied n e) w = w

  pub incoming_ended : (z : End) (h : Header) (s : IncomingStage) → IncomingHolds room p s bs → IncomingHolds room p (ended_at z s (mk_in h s)).stage bs
  incoming_ended z h arrival.Free w = tt
  incoming_ended z h (arrival.Open a) w = w
  incoming_ended z h (arrival.Complete n) w = w
  incoming_ended z h (arrival.Replying n) w = w
  incoming_ended z h (arrival.Replied n e) w = w

  pub incoming_released_lem : (h : Header) (s : IncomingStage) → IncomingHolds room p s bs → IncomingHolds room p (incoming_released (mk_in h s)).stage bs
  incoming_released_lem h arrival.Free w = tt
  incoming_released_lem h (arrival.Open a) w = w
  incoming_released_lem h (arrival.Complete n) w = tt
  incoming_released_lem h (arrival.Replying n) w = w
  incoming_released_lem h (arrival.Replied n e) w = tt

  -- what a place that takes a block has of its message
  pub incoming_has : (b : Header) (h : Header) (s : IncomingStage) → incoming_takes (mk_in h s) b ≡ true → IncomingHolds room p s bs
      → Fills room (message.Incoming p) (length_at s) bs
  incoming_has b h arrival.Free t g = absurd (false≢true t)
  incoming_has b h (arrival.Open a) t g = g
  incoming_has b h (arrival.Complete n) t g = absurd (false≢true t)
  incoming_has b h (arrival.Replying n) t g = absurd (false≢true t)
  incoming_has b h (arrival.Replied n e) t g = absurd (false≢true t)
