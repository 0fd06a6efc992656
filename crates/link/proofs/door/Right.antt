-- The onlooker at the door is right (`specs/Door.antt`). Assumes nothing.
use Prim.Native.Nat.{ℕ, ◌<◌}
use mathlib.Core.Path.{◌≡◌, refl, sym, ap, subst, ◌∙◌}
use mathlib.Core.List.{List, [], ◌∷◌}
use mathlib.Core.Bool.{Bool, true, false, not, false≢true}
use mathlib.Core.Logic.{◌⊎◌, ⊎_elim}
use native.Mathlib.Omega.{arith}
use Rattle.header.specs.Header.{header_bytes}
use Rattle.block.specs.Block.{framed}
use Rattle.settings.specs.declared.limits.Limits.{Limits}
use Rattle.line.specs.Codes.{EOT}
use Rattle.line.specs.Line.{busy}
use Rattle.line.specs.History as line
use Rattle.line.specs.History.{enquired, ours_at, Seen}
use Rattle.line.specs.Theorems.{Reached as LineReached}
use Rattle.line.proofs.Invariant.{Good}
use Rattle.line.proofs.Always.{always, after_one}
use Rattle.line.proofs.Busy.{busy_turns}
use Rattle.line.proofs.Sending.{each_enq_its_block, ack_means_sent}
use Rattle.line.specs.declared.phase.Phase.{Phase}
use Rattle.line.specs.declared.line.Line.{Line}
use Rattle.exchange.specs.Reports.{same_message}
use Rattle.exchange.specs.Request.{sending_by}
use Rattle.exchange.specs.declared.Sending.{Sending}
use Rattle.exchange.proofs.BeingSent.{request_sends}
use Rattle.exchange.proofs.Same.{message_same, other_message}
use Rattle.link.specs.State.{refused_as}
use Rattle.link.specs.Run.{Left, left, block_bytes, byte_stepped}
use Rattle.link.specs.Call.{gated}
use Rattle.link.specs.Reading.{sending_of, message_of}
use Rattle.link.specs.History.{Call, byte, tick, drained, request, called, step_in, exchange_in, unless_refused, on_line, came_to, Made, Track, lent_room, line_track, limits_in, answered, next, track}
use Rattle.link.specs.Inside.{Reached}
use Rattle.link.specs.Door.{bytes_left, closes, is_block, line_bytes, on_way, kind, sees_by, Watch, other_sent, watched_on, watched, watch_of, nothing_watched, OverBy, Stops, DoorRight, tried_by, SendTimer}
use Rattle.link.specs.declared.Refusal.{Refusal}
use Rattle.link.specs.declared.Refusal.TheVariants as refusal
use Rattle.link.specs.declared.Outcome.{Outcome}
use Rattle.link.specs.declared.Outcome.TheVariants as outcome
use Rattle.link.specs.declared.Link.{Link}
use Rattle.link.proofs.Cases.{by_gate, by_byte as by_stepped, by_request}
use Rattle.link.proofs.Steps.{at_byte}
use Rattle.link.proofs.inside.Line.{line_goes}
use Rattle.link.proofs.inside.Reached.{reached_next, start, reached_start, by_calls, line_inside}
use Rattle.link.proofs.inside.Places.{sound_inside, numbered_inside}
use Rattle.link.proofs.inside.Agrees.{agrees, whole_block}
use Rattle.link.proofs.door.Bytes.{called_bytes}
use Rattle.link.proofs.door.Courier.{is_other_lem, fate_in, byte_calls, byte_may, tick_calls, tick_may, drained_calls, lent_calls, free_calls}
use Rattle.link.proofs.door.OneCall.{Settled, Untouched, Known, byte_untouched, Through, by_byte, by_tick, by_drained, by_ask, by_none}

-- ---- one call

-- what a call leaves is seen alike, whether it is refused or not
abbrev pub Called : Limits → Phase → Seen → line.Call → Outcome → List ℕ → Bool → Bool → Line → Seen → Type 0
Called c p s k x bs sending other l after =
    (sees_by x (watch_of s) k bs sending other ≡ watch_of after)
    × Settled l
    × (closes bs ≡ true → OverBy c k bs sending (watch_of after))
    × (on_way s.ours ≡ true → (on_way after.ours ≡ false) ⊎ (other ≡ true) → Stops c (watch_of s) k bs sending other)
    × ((n : ℕ) → SendTimer p n → SendTimer l.phase (tried_by x s.ours n k bs))

carried :
    (c : Limits) (p : Phase) (s : Seen) (k : line.Call) (x : Outcome) (put bs : List ℕ) (f g i j : Bool) (l m : Line) (after : Seen)
    → bs ≡ put → g ≡ f → j ≡ i → l ≡ m → Called c p s k x put f i l after → Called c p s k x bs g j m after
carried c p s k x put bs f g i j l m after e same others is w = rw (e, same, others, ← is) w

-- ---- another message is being sent

-- than before an accepted call; a refused one leaves it
abbrev pub unless_other : Outcome → Bool → Bool
unless_other outcome.Done other = other
unless_other (outcome.Taken p) other = other
unless_other (outcome.Refused r) other = false

-- by what the transactions make of the call
abbrev pub other_in : Link → List ℕ → Call → Bool
other_in u room k = not (same_message (message_of u) (exchange_in u room k).sending)

module _ (u : Link) (room o : List ℕ) where
  abbrev Leaves : Call → Left → Type 0
  Leaves k l = other_sent u l ≡ unless_other l.answer.outcome (other_in u room k)

  none_other : other_sent u (left (refused_as u refusal.State) room o) ≡ false
  none_other = ap not (message_same (message_of u) (message_of u) refl)

  gated_other : (k : Call) (l : Left) → Leaves k l → Leaves k (gated u room o l)
  gated_other k l w = by_gate (Leaves k) u room o l (λ r e. none_other) (λ e. w)

  pub called_other : (k : Call) → Leaves k (called u room o k)
  called_other (byte b fits) =
      gated_other (byte b fits) _
      (at_byte (λ h. Leaves (byte b fits) (byte_stepped u h room o)) u b fits
      (by_stepped (λ p. Leaves (byte b fits)) u (step_in u (byte b fits)) room o (λ e. refl) (λ c e. refl) (λ e. refl)))
  called_other tick = gated_other tick _ refl
  called_other drained = gated_other drained _ refl
  called_other (request r) =
      by_request u r room o (Leaves (request r)) (λ n e. none_other) (λ p e l. refl) (λ p e l. refl) (λ n. none_other)

-- where EOT is waited for, there is a whole block to put out
enquired_whole : (t : Track) → Reached t → (room : List ℕ) → ours_at t.link.line.phase ≡ enquired → is_block (block_bytes t.link room) ≡ true
unfolding framed header_bytes
enquired_whole t w room e =
    let inside = line_inside t w in
    let eot : EOT < 256 = omega arith in
    let goes = each_enq_its_block (limits_in t) (line_track t) inside ((always (limits_in t) (line_track t) inside).ours ∙ e) (line.byte EOT eot) refl in
    ⊎_elim (λ b. rw (b.bytes room)) (λ b. rw (b.bytes room)) (whole_block t w EOT goes)

module _ (t : Track) (w : Reached t) (calm : Settled t.link.line) (room o : List ℕ) where
  abbrev u : Link
  u = t.link

  abbrev c : Limits
  c = limits_in t

  abbrev s : Seen
  s = t.seen

  abbrev block : List ℕ
  block = block_bytes u room

  abbrev inside : LineReached c (line_track t)
  inside = line_inside t w

  abbrev good : Good c (line_track t)
  good = always c (line_track t) inside

  -- what these calls of the line leave, where the call came to x
  abbrev after : Outcome → List line.Call → line.Track
  after x ks = line.track c (line_track t) (unless_refused x ks)

  abbrev Shown : line.Call → List line.Call → Bool → Outcome → Type 0
  Shown k ks other x =
      Called c u.line.phase s k x (line_bytes c u.line u.received block (unless_refused x ks)) (busy (after x ks).line) (unless_other x other) (after x ks).line
      (after x ks).seen

  shut : (k : line.Call) (ks : List line.Call) (other : Bool) (n : Refusal) → Shown k ks other (outcome.Refused n)
  unfolding line.track line_bytes
  shut k ks other n =
      (refl, calm, λ e. absurd (false≢true e), λ on gone. ⊎_elim (λ e. absurd (false≢true (sym e ∙ on))) (λ e. absurd (false≢true e)) gone, λ n e. e)

  -- of a call that makes these on the line
  shown : (k : line.Call) (js ks : List line.Call) (i j : Bool) → ks ≡ js → i ≡ j → Through c u.line u.received block s k js j → (x : Outcome) → Shown k ks i x
  shown k js ks i j e f g outcome.Done = rw (e, f) g
  shown k js ks i j e f g (outcome.Taken p) = rw (e, f) g
  shown k js ks i j e f g (outcome.Refused n) = shut k ks i n

  known : (j : line.Call) → Known c u.line.phase s j (line.called c u.line u.received j)
  known j = record {
    kept = after_one c (line_track t) inside j;
    ack = λ e. ack_means_sent c (line_track t) inside e j;
    untouched = λ b fits e.
        subst (λ (k : line.Call). Untouched u.line.phase (line.called c u.line u.received k).step.line.phase) (sym e)
        (byte_untouched c u.line.held u.line.phase b u.received);
  }

  -- what becomes of what is being sent
  abbrev y : Call → Sending
  y k = (exchange_in u room k).sending

  call_shown : (k : Call) → Shown (kind k) (on_line u room k) (other_in u room k) (came_to u room o k)
  call_shown (byte b fits) =
      let turns = busy_turns c (line_track t) inside in
      shown _ _ _ _ _ (byte_calls u room (sound_inside t w) (numbered_inside t w) (agrees t w).same turns b fits)
      (is_other_lem (same_message (message_of u) (y (byte b fits))) (sending_by (y (byte b fits))))
      (by_byte c u.line u.received block s good.ours good.theirs calm (fate_in u room (byte b fits)) b fits (enquired_whole t w room) (known (line.byte b fits))
      (byte_may u room (sound_inside t w) (numbered_inside t w) (agrees t w).same turns b fits))
      (came_to u room o (byte b fits))
  call_shown tick =
      let turns = busy_turns c (line_track t) inside in
      shown _ _ _ _ _ (tick_calls u room (sound_inside t w) (numbered_inside t w) (agrees t w).same turns)
      (is_other_lem (same_message (message_of u) (y tick)) (sending_by (y tick)))
      (by_tick c u.line u.received block s good.ours good.theirs calm (fate_in u room tick) (known line.tick)
      (tick_may u room (sound_inside t w) (numbered_inside t w) (agrees t w).same turns))
      (came_to u room o tick)
  call_shown drained =
      shown _ _ _ _ _ (drained_calls u room) (ap not (message_same (message_of u) (message_of u) refl)) (by_drained c u.line u.received block s good.ours good.theirs calm) (came_to u room o drained)
  call_shown (request r) =
      let ks = on_line u room (request r) in
      let other = other_in u room (request r) in
      let sends = request_sends u.settings.terms u.exchange r room in
      by_request u r room o (λ l. Shown line.ask ks other l.answer.outcome) (λ n e. shut line.ask ks other (refusal.Request n))
      (λ p e l.
      let starts = sends.starts p e l in
      shown _ _ ks other _ (lent_calls u room r p e l)
      (ap not (other_message (message_of u) (y (request r)) (λ e. false≢true (sym starts.before ∙ ap sending_by e ∙ starts.after))))
      (by_ask c u.line u.received block s good.ours good.theirs calm (sym (agrees t w).same ∙ starts.before)) (outcome.Taken p))
      (λ p e l.
      shown _ _ ks other _ (free_calls u room r l) (ap not (message_same (message_of u) (y (request r)) (sym (sends.spares l))))
      (by_none c u.line u.received block s good.ours good.theirs calm) (outcome.Taken p))
      (shut line.ask ks other)

pub one_call :
    (t : Track) → Reached t → Settled t.link.line → (m : Made)
    → Called (limits_in t) t.link.line.phase t.seen (kind m.call) (answered t m).answer.outcome (bytes_left (answered t m)) (sending_of (next t m).link)
    (other_sent t.link (answered t m)) (next t m).link.line (next t m).seen
one_call t w calm m =
    let room = lent_room m.room t.room in
    let goes = line_goes t.link room m.out m.call t.seen in
    carried (limits_in t) t.link.line.phase t.seen (kind m.call) (came_to t.link room m.out m.call) _ _ _ _ _ _ _ _ (next t m).seen
    (called_bytes t.link room m.out m.call) ((agrees (next t m) (reached_next t w m)).same ∙ ap busy (sym goes.line))
    (called_other t.link room m.out m.call) goes.line
    (call_shown t w calm room m.out m.call)

-- ---- any calls

pub settled : (t : Track) → Reached t → Settled t.link.line
settled t w = by_calls (λ v. Settled v.link.line) (λ v r m f. (one_call v r f m).1) t w refl

all_calls : (t : Track) → Reached t → (ms : List Made) (w : Watch) → w ≡ watch_of t.seen → watched w t ms ≡ watch_of (track t ms).seen
unfolding watched track
all_calls t r [] w e = e
all_calls t r (m ∷ ms) w e =
    all_calls (next t m) (reached_next t r m) ms _ (ap (λ v. watched_on v t m) e ∙ (one_call t r (settled t r) m).0)

pub door_right : DoorRight
door_right t w a =
    let r = a.reached in
    sym a.saw ∙ all_calls (start t r) (reached_start t r) r.calls nothing_watched refl ∙ ap (λ (v : Track). watch_of v.seen) r.so
