-- Each timer inside stands at the ticks that are counted outside (`specs/Door.antt`). Assumes nothing.
use Prim.Native.Nat.{ℕ}
use mathlib.Core.Path.{◌≡◌, refl, sym, ap, subst, ◌∙◌}
use mathlib.Core.List.{List, [], ◌∷◌}
use Rattle.header.specs.declared.header.Header.{Header}
use Rattle.settings.specs.declared.limits.Limits.{Limits}
use Rattle.settings.specs.declared.terms.Terms.{Terms}
use Rattle.line.proofs.Invariant.{At}
use Rattle.line.proofs.Always.{always}
use Rattle.line.specs.declared.phase.Phase.{Phase}
use Rattle.line.specs.declared.phase.Phase.TheVariants.{Idle, WaitEot, Draining, WaitAck, WaitLength, Body, Silence}
use Rattle.place.specs.OwnHistory as own
use Rattle.place.specs.IncomingHistory as incoming
use Rattle.place.proofs.OwnInvariant.{At as OwnAt}
use Rattle.place.proofs.OwnAlways.{always as own_always}
use Rattle.place.proofs.IncomingInvariant.{At as IncomingAt, always as incoming_always}
use Rattle.place.specs.declared.OwnStage.{OwnStage}
use Rattle.place.specs.declared.OwnStage.TheVariants as stage
use Rattle.place.specs.declared.IncomingStage.{IncomingStage}
use Rattle.place.specs.declared.IncomingStage.TheVariants as arrival
use Rattle.exchange.specs.Exchange.{own_place, incoming_place}
use Rattle.link.specs.History.{Made, Track, line_track, limits_in, terms_in, answered, next, track}
use Rattle.link.specs.Inside.{Reached}
use Rattle.link.specs.Door.{bytes_left, kind, Watch, nothing_watched, watched_on, watch_of, tried_by, tried, SendTimer, ReceiveTimer, OwnTimer, IncomingTimer, TicksCounted}
use Rattle.link.proofs.inside.Reached.{reached_next, start, reached_start, line_inside}
use Rattle.link.proofs.inside.Places.{places_inside}
use Rattle.link.proofs.door.Right.{one_call, settled, door_right}

-- where its phase's counts are right
receive_timer : (c : Limits) (p : Phase) (w e r n q : ℕ) → At c p w e r n q → ReceiveTimer p q
receive_timer c Idle w e r n q g = tt
receive_timer c (WaitEot timer tries) w e r n q g = tt
receive_timer c (Draining tries) w e r n q g = tt
receive_timer c (WaitAck timer tries) w e r n q g = tt
receive_timer c (WaitLength timer) w e r n q g = sym g.3
receive_timer c (Body timer a) w e r n q g = sym g.3
receive_timer c (Silence timer fault) w e r n q g = sym g.3

own_timer : (c : Terms) (z : OwnStage) (h : List ℕ) (s : own.Seen) → OwnAt c z h s → OwnTimer z s
own_timer c stage.Free h s g = tt
own_timer c stage.Sending h s g = tt
own_timer c stage.PutOut h s g = tt
own_timer c (stage.Awaiting timer) h s g = sym g.since
own_timer c (stage.Replying a) h s g = sym g.arrives.quiet
own_timer c (stage.Done v r) h s g = tt

incoming_timer : (c : Terms) (z : IncomingStage) (h : Header) (s : incoming.Seen) → IncomingAt c z h s → IncomingTimer z s
incoming_timer c arrival.Free h s g = tt
incoming_timer c (arrival.Open a) h s g = sym g.arrives.quiet
incoming_timer c (arrival.Complete n) h s g = tt
incoming_timer c (arrival.Replying n) h s g = tt
incoming_timer c (arrival.Replied n e) h s g = tt

-- where the timer of a wait of ours stands at n, after these calls it stands at what is counted then
all_tried : (t : Track) → Reached t → (ms : List Made) (w : Watch) → w ≡ watch_of t.seen → (n : ℕ) → SendTimer t.link.line.phase n
    → SendTimer (track t ms).link.line.phase (tried n w t ms)
unfolding tried track
all_tried t r [] w e n g = g
all_tried t r (m ∷ ms) w e n g =
    let one = one_call t r (settled t r) m in
    all_tried (next t m) (reached_next t r m) ms _ (ap (λ v. watched_on v t m) e ∙ one.0) _
    (subst (λ (v : Watch). SendTimer (next t m).link.line.phase (tried_by (answered t m).answer.outcome v.ours n (kind m.call) (bytes_left (answered t m)))) (sym e)
    (one.4 n g))

pub ticks_counted : TicksCounted
ticks_counted t w a =
    let r = a.reached in
    let places = places_inside t r in
    record {
      sends =
          subst (λ (v : Track). SendTimer v.link.line.phase (tried 0 nothing_watched (start t r) r.calls)) r.so
          (all_tried (start t r) (reached_start t r) r.calls nothing_watched refl 0 tt);
      receives =
          subst (ReceiveTimer t.link.line.phase) (sym (ap (λ (v : Watch). v.silent) (door_right t w a)))
          (receive_timer (limits_in t) t.link.line.phase _ _ _ _ t.seen.silent (always (limits_in t) (line_track t) (line_inside t r)).counts);
      own = λ p less. let o = own_place t.link.exchange p in own_timer (terms_in t) o.stage o.header (t.own p) (own_always (terms_in t) _ (places.own p less));
      incoming = λ p less. let i = incoming_place t.link.exchange p in incoming_timer (terms_in t) i.stage i.header (t.incoming p) (incoming_always (terms_in t) _ (places.incoming p less));
    }
