-- A message in an incoming place came to this end and is a primary, after any calls: so a reply of ours to it goes the other way, and has an
-- even function. Assumes nothing.
use Rattle.std.specs.Prelude.{Option, Some, None}
use Prim.Native.Nat.{ℕ, ◌%◌, ◌<◌}
use mathlib.Core.Path.{◌≡◌, ap, subst, ◌∙◌}
use mathlib.Core.List.{List, [], ◌∷◌}
use Rattle.header.specs.declared.header.Header.{Header}
use Rattle.settings.specs.Timer.{ticked}
use Rattle.settings.specs.declared.terms.Terms.{Terms}
use Rattle.place.specs.Message.{Routed}
use Rattle.place.specs.Fate.{fate_of}
use Rattle.place.specs.Arriving.{waited_by, arriving_tick}
use Rattle.place.specs.Incoming.{begun_by, begins, open_by, open_tick, incoming_takes, incoming_length, kept_by, goes_on, incoming_offered}
use Rattle.place.specs.IncomingHistory.{Event, begin, block, tick, answer, sent, failed, release, step, Track, next, track, at_start}
use Rattle.place.specs.declared.Arriving.{Arriving}
use Rattle.place.specs.declared.Fate.{Fate}
use Rattle.place.specs.declared.Fate.TheVariants.{Empty, TooLong, Last, More}
use Rattle.place.specs.declared.IncomingStage.{IncomingStage}
use Rattle.place.specs.declared.IncomingStage.TheVariants.{Free, Open, Complete, Replying, Replied}
use Rattle.place.specs.declared.Incoming.{Incoming}
use Rattle.place.proofs.Judging.{primary_exactly}
use Rattle.wire.proofs.Choice.{chosen}
use Rattle.exchange.specs.Exchange.{incoming_place}
use Rattle.exchange.specs.History as exchange
use Rattle.exchange.specs.Theorems.{Reached}
use Rattle.exchange.proofs.Inside.{places_inside}

-- 1: not "R-bit or device ID not this link's incoming one"; 3: "it must begin a primary: odd function"
pub record Came (c : Terms) (h : Header) : Type 0 where
  pub routed : Routed c h
  pub odd : h.function % 2 ≡ 1

-- of a place in use
abbrev pub CameAt : Terms → IncomingStage → Header → Type 0
CameAt c Free h = Unit {0}
CameAt c (Open a) h = Came c h
CameAt c (Complete n) h = Came c h
CameAt c (Replying n) h = Came c h
CameAt c (Replied n e) h = Came c h

abbrev pub CameHere : Terms → Incoming → Type 0
CameHere c i = CameAt c i.stage i.header

-- ---- one event

module _ (c : Terms) where
  abbrev at : Header → IncomingStage → Incoming
  at h s = record { header = h; stage = s }

  -- a first block
  begun : (i : Incoming) (h : Header) (f : Fate) → CameHere c i → Came c h → CameHere c (begun_by i h f)
  begun i h Empty w new = w
  begun i h TooLong w new = w
  begun i h (Last n) w new = new
  begun i h (More n) w new = new

  -- a further one
  goes : (h b : Header) (s : IncomingStage) (f : Fate) → Came c h → CameHere c (kept_by (at h s) b f)
  goes h b s Empty w = tt
  goes h b s TooLong w = tt
  goes h b s (Last n) w = w
  goes h b s (More n) w = w

  -- T4 runs on, or out
  waits : (h : Header) (a : Arriving) (t : Option ℕ) → Came c h → CameHere c (open_by (at h (Open a)) (waited_by a t))
  waits h a None w = tt
  waits h a (Some n) w = w

  came_step : (h : Header) (s : IncomingStage) (e : Event c) → CameAt c s h → CameHere c (step (at h s) e)
  unfolding begins open_tick arriving_tick incoming_offered goes_on
  came_step h Free (begin b n q o) w = begun (at h Free) b (fate_of b 0 n) w (record { routed = q; odd = ((primary_exactly b).0 o).0 })
  came_step h Free (block b n q) w = w
  came_step h Free tick w = w
  came_step h Free answer w = w
  came_step h Free sent w = w
  came_step h Free failed w = w
  came_step h Free release w = w
  came_step h (Open a) (begin b n q o) w = begun (at h (Open a)) b (fate_of b 0 n) w (record { routed = q; odd = ((primary_exactly b).0 o).0 })
  came_step h (Open a) (block b n q) w =
      chosen (CameHere c) (incoming_takes (at h (Open a)) b) _ _ (λ t. goes h b (Open a) (fate_of b (incoming_length (at h (Open a))) n) w) (λ t. w)
  came_step h (Open a) tick w = waits h a (ticked c.t4 a.timer) w
  came_step h (Open a) answer w = w
  came_step h (Open a) sent w = w
  came_step h (Open a) failed w = w
  came_step h (Open a) release w = w
  came_step h (Complete m) (begin b n q o) w = w
  came_step h (Complete m) (block b n q) w = w
  came_step h (Complete m) tick w = w
  came_step h (Complete m) answer w = w
  came_step h (Complete m) sent w = w
  came_step h (Complete m) failed w = w
  came_step h (Complete m) release w = tt
  came_step h (Replying m) (begin b n q o) w = w
  came_step h (Replying m) (block b n q) w = w
  came_step h (Replying m) tick w = w
  came_step h (Replying m) answer w = w
  came_step h (Replying m) sent w = w
  came_step h (Replying m) failed w = w
  came_step h (Replying m) release w = w
  came_step h (Replied m e) (begin b n q o) w = w
  came_step h (Replied m e) (block b n q) w = w
  came_step h (Replied m e) tick w = w
  came_step h (Replied m e) answer w = w
  came_step h (Replied m e) sent w = w
  came_step h (Replied m e) failed w = w
  came_step h (Replied m e) release w = tt

  -- ---- any events, and any calls

  events : (t : Track) (es : List (Event c)) → CameHere c t.incoming → CameHere c (track t es).incoming
  unfolding track
  events t [] w = w
  events t (e ∷ es) w = events (next t e) es (came_step t.incoming.header t.incoming.stage e w)

  pub came : (t : exchange.Track) → Reached c t → (p : ℕ) → p < 4 → CameHere c (incoming_place t.exchange p)
  came t w p k =
      let i = (places_inside c t w).incoming p k in
      subst (CameHere c) (ap (λ (u : Track). u.incoming) i.reached.so ∙ i.so) (events at_start i.reached.events tt)
