-- What each call gets at the door (`specs/Hearing.antt`). Assumes nothing.
use Rattle.std.specs.Prelude.{Ok}
use Prim.Native.Nat.{ℕ, ◌<◌}
use mathlib.Core.Path.{◌≡◌, refl, sym, ap, subst, ◌∙◌}
use mathlib.Core.Bool.{Bool, true, false}
use mathlib.Core.List.{List, [], ◌∷◌, ◌++◌}
use borrow.Author.Tests.{eqb-true, eq-eqb}
use Rattle.settings.specs.declared.limits.Limits.{Limits}
use Rattle.line.specs.Line.{busy}
use Rattle.line.specs.History as line
use Rattle.line.specs.History.{ours_at, theirs_at, Seen}
use Rattle.line.specs.Theorems.{IsBlock, BusySteps}
use Rattle.line.proofs.Invariant.{Good}
use Rattle.line.proofs.Always.{always}
use Rattle.line.proofs.Busy.{busy_turns}
use Rattle.line.proofs.Sending.{tries_are_enqs}
use Rattle.line.specs.declared.phase.Phase.{Phase}
use Rattle.line.specs.declared.step.Told.{Told}
use Rattle.line.specs.declared.step.Told.TheVariants as told
use Rattle.exchange.specs.Request.{Request, lends}
use Rattle.exchange.proofs.BeingSent.{request_sends}
use Rattle.exchange.proofs.Same.{message_same}
use Rattle.link.specs.Answer.{accepted}
use Rattle.link.specs.Run.{block_bytes, hears, hearing}
use Rattle.link.specs.Reading.{sending_of, message_of}
use Rattle.link.specs.History.{Call, byte, tick, drained, request, Room, step_in, settling, settles, on_line, came_to, lent_room, Track, line_track, limits_in, terms_in, Made, answered, next}
use Rattle.link.specs.Inside.{Reached}
use Rattle.link.specs.Door.{bytes_left, line_bytes, SendTimer, watch_of, Watch, AtDoor, made}
use Rattle.link.specs.Verdicts.{Accepted}
use Rattle.link.specs.Hearing.{ByteGets, TickGets, MessageGets, since_seen, Gets, EachCallGets}
use Rattle.link.specs.declared.Link.{Link}
use Rattle.link.proofs.Cases.{by_request, answering}
use Rattle.link.proofs.inside.Line.{line_goes}
use Rattle.link.proofs.inside.Reached.{reached_next, line_inside}
use Rattle.link.proofs.inside.Courier.{clash, none_under_way}
use Rattle.link.proofs.inside.Places.{sound_inside, numbered_inside}
use Rattle.link.proofs.inside.Agrees.{agrees}
use Rattle.link.proofs.door.Bytes.{called_bytes}
use Rattle.link.proofs.door.Courier.{going, fate_of, called_for, fate, fate_in, byte_calls, tick_calls, tick_may, drained_calls, lent_calls, free_calls}
use Rattle.link.proofs.door.Right.{settled}
use Rattle.link.proofs.door.Ticks.{ticks_counted}
use Rattle.link.proofs.door.Limits.{from_line, unrefused}
use Rattle.link.proofs.device.Up.{up_exactly}
use Rattle.link.proofs.hearing.Steps.{Rises, heeds, byte_gets, tick_gets, drained_gets, ask_gets}

module _ (t : Track) (r : Reached t) (lent : Room) (o : List ℕ) where
  abbrev u : Link
  u = t.link

  abbrev c : Limits
  c = limits_in t

  abbrev s : Seen
  s = t.seen

  abbrev phase : Phase
  phase = u.line.phase

  abbrev room : List ℕ
  room = lent_room lent t.room

  abbrev block : List ℕ
  block = block_bytes u room

  good : Good c (line_track t)
  good = always c (line_track t) (line_inside t r)

  abbrev Taken : Call → Type 0
  Taken k = accepted (came_to u room o k) ≡ true

  -- what these calls on the line put out, and whether it is busy then
  abbrev put : List line.Call → List ℕ
  put ks = line_bytes c u.line u.received block ks

  abbrev then : List line.Call → Bool
  then ks = busy (line.track c (line_track t) ks).line

  -- ---- what a call gets that makes these on the line

  abbrev Got : ℕ → Call → List line.Call → Type 0
  Got since k ks = Gets c (watch_of s) since k (put ks) (then ks)

  -- the onlooker of the line has seen its phase
  seen_at : (P : line.Ours → Bool → Type 0) → P (ours_at phase) (theirs_at phase) → P s.ours s.theirs
  seen_at P g = subst (λ x. P x s.theirs) (sym good.ours) (subst (P (ours_at phase)) (sym good.theirs) g)

  -- a block goes up exactly if it came whole
  rises : (b : ℕ) (fits : b < 256) → Taken (byte b fits) → Rises c block s b fits (fate_in u room (byte b fits)) u.line.held u.received s.bytes phase
  rises b fits ok =
      let m = made (byte b fits) lent o in (
        λ th n body k. ((up_exactly t r m n).1 (body, record { accepted = ok; receiving = good.theirs ∙ th; last = b; came = eq-eqb b b refl; whole = k })).told,
        λ n e.
            let w = (up_exactly t r m n).0 (record { accepted = ok; told = e }) in
            (w.0, subst (λ x. IsBlock n w.0 (s.bytes ++ (x ∷ []))) (sym (eqb-true b w.1.last w.1.came)) w.1.whole),
      )

  -- a message that is accepted finds none under way
  begun : (q : Request) (p : ℕ) → (answering u q room).answer.asked ≡ Ok p → lends q ≡ true → (since : ℕ) → Got since (request q) (line.ask ∷ line.settle ∷ [])
  begun q p e l since =
      let idle = none_under_way u.line (sym (agrees t r).same ∙ ((request_sends (terms_in t) u.exchange q room).starts p e l).before) in
      let ks = line.ask ∷ line.settle ∷ [] in
      subst (λ x. MessageGets x s.theirs (put ks)) (sym l)
      (seen_at (λ x y. MessageGets true y (put ks)) (ask_gets c block s u.line.held phase u.received idle))

  -- a release puts nothing out
  spared : (q : Request) → lends q ≡ false → (since : ℕ) → Got since (request q) []
  unfolding line_bytes
  spared q l since = subst (λ x. MessageGets x s.theirs []) (sym l) refl

  -- of a byte of which nothing is told the transactions know nothing
  quiet : (b : ℕ) (fits : b < 256) → (step_in u (byte b fits)).step.told ≡ told.Nothing → fate_in u room (byte b fits) ≡ going
  quiet b fits e =
      let h = step_in u (byte b fits) in
      ap (λ (z : Told). fate (message_of u) (hearing z h.step.remark (hears u h) room).midway.exchange.sending) e
      ∙ ap (λ same. fate_of same (sending_of u)) (message_same (message_of u) (message_of u) refl)

  abbrev turns : BusySteps c u.line
  turns = busy_turns c (line_track t) (line_inside t r)

  got : (since : ℕ) → SendTimer phase since → (k : Call) → Taken k → Got since k (on_line u room k)
  got since i (byte b fits) ok =
      let h = step_in u (byte b fits) in
      let f = fate_in u room (byte b fits) in
      let ks = line.byte b fits ∷ settles h.step.out (called_for f h.step.told) in
      let sound = sound_inside t r in
      let numbered = numbered_inside t r in
      let same = (agrees t r).same in
      subst (Got since (byte b fits)) (sym (byte_calls u room sound numbered same turns b fits))
      (seen_at (λ x y. ByteGets c x y s.enqs s.bytes b (put ks) (then ks))
      (byte_gets c block s b fits f u.line.held u.received s.enqs s.bytes phase (settled t r) (tries_are_enqs c (line_track t) (line_inside t r))
      (rises b fits ok) (quiet b fits)))
  got since i tick ok =
      let f = fate_in u room tick in
      let ks = line.tick ∷ settling (called_for f (step_in u tick).step.told) in
      let sound = sound_inside t r in
      let numbered = numbered_inside t r in
      let same = (agrees t r).same in
      subst (Got since tick) (sym (tick_calls u room sound numbered same turns))
      (seen_at (λ x y. TickGets c x y s.enqs since s.bytes s.silent (put ks) (then ks))
      (tick_gets c block s f u.line.held u.received s.enqs since s.bytes s.silent phase (settled t r)
      (tries_are_enqs c (line_track t) (line_inside t r)) i
      (heeds c phase s.waited s.enqs s.took s.silent u.received s.bytes good.counts good.bytes)
      (tick_may u room sound numbered same turns)))
  got since i drained ok = subst (Got since drained) (sym (drained_calls u room)) (drained_gets c block s u.line.held phase u.received (settled t r))
  got since i (request q) ok =
      by_request u q room o (λ l. accepted l.answer.outcome ≡ true → Got since (request q) (on_line u room (request q))) (λ n e no. clash no)
      (λ p e l yes'. subst (Got since (request q)) (sym (lent_calls u room q p e l)) (begun q p e l since))
      (λ p e l yes'. subst (Got since (request q)) (sym (free_calls u room q l)) (spared q l since)) (λ n no. clash no) ok

-- ---- any calls

pub timed_at : (t : Track) (w : Watch) (a : AtDoor t w) → SendTimer t.link.line.phase (since_seen t w a)
timed_at t w a = (ticks_counted t w a).sends

-- what holds of what these calls on the line put out, and of whether it is busy then, holds of the bytes that leave and of what is being sent
pub at_door : (t : Track) (r : Reached t) (m : Made) → Accepted t m → (P : List ℕ → Bool → Type 0)
    → (let room = lent_room m.room t.room in
    let ks = on_line t.link room m.call in
    P (line_bytes (limits_in t) t.link.line t.link.received (block_bytes t.link room) ks) (busy (line.track (limits_in t) (line_track t) ks).line))
    → P (bytes_left (answered t m)) (sending_of (next t m).link)
at_door t r m ok P g =
    let lent = lent_room m.room t.room in
    let ks = on_line t.link lent m.call in
    let same = unrefused (came_to t.link lent m.out m.call) ks ok in
    let goes = line_goes t.link lent m.out m.call t.seen in
    let put = line_bytes (limits_in t) t.link.line t.link.received (block_bytes t.link lent) in
    let left : bytes_left (answered t m) ≡ put ks = called_bytes t.link lent m.out m.call ∙ ap put same in
    let after : sending_of (next t m).link ≡ busy (line.track (limits_in t) (line_track t) ks).line =
    (agrees (next t m) (reached_next t r m)).same ∙ ap busy (sym goes.line) ∙ ap (λ js. busy (line.track (limits_in t) (line_track t) js).line) same in
    subst (λ bs. P bs (sending_of (next t m).link)) (sym left) (subst (P (put ks)) (sym after) g)

pub each_call_gets : EachCallGets
each_call_gets t w a m ok =
    let r = a.reached in
    let n = since_seen t w a in
    from_line (λ c v. Gets c v n m.call (bytes_left (answered t m)) (sending_of (next t m).link)) t w a
    (at_door t r m ok (Gets (limits_in t) (watch_of t.seen) n m.call) (got t r m.room m.out n (timed_at t w a) m.call ok))
