-- What one call does to a place: an event of the place, which its onlooker at the door sees so, or nothing. Assumes nothing.
use Rattle.std.specs.Prelude.{Option, Some, None}
use Prim.Native.Nat.{ℕ, ◌<◌}
use mathlib.Core.Path.{◌≡◌, refl, sym, ap, ◌∙◌}
use mathlib.Core.Bool.{Bool, true, false, cond, not, ◌&&◌, false≢true}
use mathlib.Core.List.{List, []}
use mathlib.Core.Logic.{◌⊎◌, ⊎_elim}
use native.Mathlib.Omega.{arith}
use lib.Dec.{eqb}
use lib.ListN.{length, get_or, set}
use borrow.Author.Tests.{eq-eqb}
use Rattle.header.specs.Header.{header_of}
use Rattle.header.specs.declared.header.Header.{Header}
use Rattle.settings.specs.declared.terms.Terms.{Terms}
use Rattle.place.specs.Fate.{fate_of}
use Rattle.place.specs.Own.{given_by, own_standing}
use Rattle.place.specs.OwnHistory as own
use Rattle.place.specs.Incoming.{free_at, open_at, complete_at, replied_at}
use Rattle.place.specs.IncomingHistory as incoming
use Rattle.place.specs.declared.Fate.{Fate}
use Rattle.place.specs.declared.Fate.TheVariants as fate
use Rattle.place.specs.declared.Standing.{Standing}
use Rattle.place.specs.declared.Standing.TheVariants as standing
use Rattle.place.specs.declared.IncomingStage.{IncomingStage}
use Rattle.place.specs.declared.IncomingStage.TheVariants as arrival
use Rattle.place.specs.declared.Incoming.{Incoming}
use Rattle.table.specs.Own.{reply_for}
use Rattle.table.specs.Incoming.{message_for, open_alike, free_incoming}
use Rattle.table.proofs.Finding.{reply_lowest, message_lowest}
use Rattle.table.proofs.Tables.{own_table, incoming_table}
use Rattle.exchange.specs.Note.{note_by}
use Rattle.exchange.specs.Exchange.{own_place, incoming_place, put_own, put_incoming, with_sending, sent_from, put_replied, saved_now}
use Rattle.exchange.specs.Tick.{passed_of, tick_of}
use Rattle.exchange.specs.Send.{put_out_by, ended_own, ended_reply, ended_report, sent_by, failed_by}
use Rattle.exchange.specs.Judge.{thrown, spoilt_by, reply_block, message_block, begins_at, judge_of}
use Rattle.exchange.specs.Request.{not_ready, refused_by, refused, claimed_at, reply_accepted, Request, answer_of}
use Rattle.exchange.specs.History.{Call, block, tick, put_out, acknowledged, failed, request, called}
use Rattle.exchange.specs.Releases.{Side, releases, frees}
use Rattle.exchange.specs.Releases as side
use Rattle.exchange.specs.Watching.{told_by, found_at, taken_at, own_taken, taken_by, sees_block, freed_seen, incoming_taken}
use Rattle.exchange.proofs.Cases.{Thrown, stray, no_place, too_long_lem, empty, Takes, by_judge, by_request}
use Rattle.exchange.proofs.Tables.{set_one}
use Rattle.exchange.proofs.Sides.{Place, Event, Seen, fresh, nothing_seen, step, sees, spares, table, place, watches, Happens, nothing, event, by_event}
use Rattle.exchange.proofs.Judging.{is_new}
use Rattle.exchange.proofs.Areas.{taken_place}
use Rattle.exchange.specs.declared.Note.{Note}
use Rattle.exchange.specs.declared.Sending.{Sending}
use Rattle.exchange.specs.declared.Sending.TheVariants as sending
use Rattle.exchange.specs.declared.Exchange.{Exchange}

-- ---- what is told of a block

-- nothing is seen, whichever place it is for
pub same_either : {S : Type 0} (t : Bool) (s : S) → cond t s s ≡ s
same_either true s = refl
same_either false s = refl

-- the note of a block that a place takes tells what became of it
told : (t : Bool) (f : Fate) → t ≡ true → told_by (note_by f) ≡ cond t (own.answer_by f) own.passed
told true fate.Empty e = refl
told true fate.TooLong e = refl
told true (fate.Last n) e = refl
told true (fate.More n) e = refl
told false f e = absurd (false≢true e)

-- a first block that is not spoilt is kept where no message is complete
kept_first : (f : Fate) → spoilt_by f ≡ false → own.answer_by f ≡ own.kept
kept_first fate.Empty e = absurd (false≢true (sym e))
kept_first fate.TooLong e = absurd (false≢true (sym e))
kept_first (fate.Last n) e = refl
kept_first (fate.More n) e = refl

begins_there : (z : IncomingStage) (a : own.Answer) → (free_at z ≡ true) ⊎ (open_at z ≡ true) → incoming.begins_at (incoming.shows_at z) a ≡ a
begins_there arrival.Free a e = refl
begins_there (arrival.Open b) a e = refl
begins_there (arrival.Complete n) a e = absurd (⊎_elim false≢true false≢true e)
begins_there (arrival.Replying n) a e = absurd (⊎_elim false≢true false≢true e)
begins_there (arrival.Replied n y) a e = absurd (⊎_elim false≢true false≢true e)

first_told : (i : Incoming) (b : Header) (n : ℕ) → (free_at i.stage ≡ true) ⊎ (open_at i.stage ≡ true) → spoilt_by (fate_of b 0 n) ≡ false
    → incoming.answer_first i b n ≡ own.kept
unfolding incoming.answer_first
first_told i b n e u = begins_there i.stage _ e ∙ kept_first (fate_of b 0 n) u

-- ---- which releases are accepted

-- of an own place, where a verdict is shown
own_freed : (z : Standing) (s : own.Seen) → given_by z ≡ true → own.freed z s ≡ own.at s own.none
own_freed standing.Free s e = absurd (false≢true e)
own_freed standing.Open s e = absurd (false≢true e)
own_freed (standing.Given v) s e = refl

-- of a complete message whose reply is not on its way
incoming_freed : (z : IncomingStage) (s : incoming.Seen) → not (complete_at z) && not (replied_at z) ≡ false
    → incoming.sees_release (incoming.shows_at z) s ≡ freed_seen s
incoming_freed arrival.Free s e = absurd (false≢true (sym e))
incoming_freed (arrival.Open a) s e = absurd (false≢true (sym e))
incoming_freed (arrival.Complete n) s e = refl
incoming_freed (arrival.Replying n) s e = absurd (false≢true (sym e))
incoming_freed (arrival.Replied n y) s e = refl

-- ---- which blocks are for an incoming place

-- the place that a new primary takes
takes_found : (x : Exchange) (b : Header) (q : ℕ) (gone : Bool) → Takes x b q gone → taken_by (open_alike x.incoming b) (free_incoming x.incoming) ≡ Some q
takes_found x b q true e = rw e
takes_found x b q false (e, f) = rw (e, f)

-- nothing is seen of a block that is passed by, nor of a first one that is thrown out
pub passed_by : (r m new : Option ℕ) (p : ℕ) (s : incoming.Seen) (b : Header) (size : ℕ) → sees_block r m new p own.passed s b size ≡ s
passed_by (Some q) m new p s b size = refl
passed_by None (Some q) new p s b size = same_either (eqb q p) s
passed_by None None new p s b size = same_either (found_at new p) s

thrown_first : (n : Note) → Thrown n → (s : incoming.Seen) (b : Header) (size : ℕ) → incoming.sees_first (told_by n) s b size ≡ s
thrown_first _ stray s b size = refl
thrown_first _ no_place s b size = refl
thrown_first _ too_long_lem s b size = refl
thrown_first _ empty s b size = refl

-- ---- one call

module _ (c : Terms) (x : Exchange) (p : ℕ) (k : p < 4) where
  -- what a call that leaves y does at place p on side z: `look` is what is seen of it there; it is a release exactly if t is true
  abbrev Does : (z : Side) → Bool → Exchange → (Seen z → Seen z) → Type 0
  Does z t y look = length (table z x) ≡ 4 → (s : Seen z) → Happens z c (place z x p) s t (place z y p) (look s)

  abbrev Both : (Side → Type 0) → Type 0
  Both T = T side.own × T side.incoming

  -- an event at place q
  put : (z : Side) (t : Bool) (q : ℕ) (e : Event z c) → (q ≡ p → spares z c e ≡ not t) → length (table z x) ≡ 4 → (s : Seen z)
      → Happens z c (place z x p) s t (get_or (set (table z x) q (step z c (place z x q) e)) p (fresh z)) (cond (eqb q p) (sees z c (place z x q) s e) s)
  put z t q e i four s =
      set_one (λ b (o : Place z). Happens z c (place z x p) s t o (cond b (sees z c (place z x q) s e) s)) (table z x) (fresh z) q _ p (omega arith)
      (λ j. rw j (event e (i j))) nothing

  judged : (room h d : List ℕ) → Both (λ z. Does z false (judge_of c x h d room).answer.exchange (λ s. watches z c p x room s (block h d)))
  unfolding thrown reply_block message_block begins_at saved_now put_own put_replied put_incoming with_sending own.answer_to incoming.answer_next
  judged room h d =
      let b = header_of h in
      let new = taken_by (open_alike x.incoming b) (free_incoming x.incoming) in
      by_judge c x h d room
      (λ j.
      let y = j.answer.exchange in
      let a = told_by j.answer.note in
      Does side.own false y (λ s. cond (found_at (reply_for x.own b) p) (own.answered a s b (length d)) s)
      × Does side.incoming false y (λ s. sees_block (reply_for x.own b) (message_for x.incoming b) new p a s b (length d)))
      (λ e. (λ four s. rw same_either nothing, λ four s. rw passed_by nothing)) (λ e u. (λ four s. rw same_either nothing, λ four s. rw passed_by nothing))
      (λ q e r. (
        λ four s.
            rw (r, told _ _ (((reply_lowest x.own b four).at q).0 r).1)
            (put side.own false q (own.block b (length d) (is_new c x h e).routed) (λ z. refl) four s),
        λ four s. rw r nothing,
      ))
      (λ q e r m. (
        λ four s. rw r nothing,
        λ four s.
            rw (r, m, told _ _ (((message_lowest x.incoming b four).at q).0 m).1)
            (put side.incoming false q (incoming.block b (length d) (is_new c x h e).routed) (λ z. refl) four s),
      ))
      (λ q gone f e r m o v u t. (
        λ four s. rw r nothing,
        λ four s.
            rw (r, m, takes_found x b q gone t)
            (rw (first_told (incoming_place x q) b (length d) (taken_place x b q gone four t).1 (ap spoilt_by v ∙ u)) at
            (put side.incoming false q (incoming.begin b (length d) (is_new c x h e).routed o) (λ z. refl) four s)),
      ))
      (λ n t r m. (λ four s. rw r nothing, λ four s. rw (r, m, thrown_first n t, same_either) nothing))

  ticked : Both (λ z. Does z false (tick_of c x).exchange (λ s. watches z c p x [] s tick))
  unfolding passed_of
  ticked = (
    λ four s. rw ((own_table x.own c four).1.each p k) (event own.tick refl),
    λ four s. rw ((incoming_table x.incoming c four).1.each p k) (event incoming.tick refl),
  )

  goes_out : (q : Sending) → Does side.own false (put_out_by q x) (λ s. cond (sent_from q p) (own.went_out s.request s) s) × Does side.incoming false (put_out_by q x) (λ s. s)
  unfolding put_own
  goes_out sending.Nothing = (λ four s. nothing, λ four s. nothing)
  goes_out (sending.Primary q n) = (put side.own false q own.put_out (λ z. refl), λ four s. nothing)
  goes_out (sending.Reply q f n) = (λ four s. nothing, λ four s. nothing)
  goes_out (sending.Report f n) = (λ four s. nothing, λ four s. nothing)

  sent : (q : Sending) → Does side.own false (sent_by q x).exchange (λ s. cond (sent_from q p) (own.acked s.request s) s) × Does side.incoming false (sent_by q x).exchange (λ s. s)
  unfolding ended_own ended_reply ended_report put_own put_incoming with_sending
  sent sending.Nothing = (λ four s. nothing, λ four s. nothing)
  sent (sending.Primary q n) = (put side.own false q own.sent (λ z. refl), λ four s. nothing)
  sent (sending.Reply q f n) = (λ four s. nothing, λ four s. rw same_either at (put side.incoming false q incoming.sent (λ z. refl) four s))
  sent (sending.Report f n) = (λ four s. nothing, λ four s. nothing)

  lost : (q : Sending) → Does side.own false (failed_by q x).exchange (λ s. cond (sent_from q p) (own.gave_up s.request s) s) × Does side.incoming false (failed_by q x).exchange (λ s. s)
  unfolding ended_own ended_reply ended_report put_own put_incoming with_sending
  lost sending.Nothing = (λ four s. nothing, λ four s. nothing)
  lost (sending.Primary q n) = (put side.own false q own.failed (λ z. refl), λ four s. nothing)
  lost (sending.Reply q f n) = (λ four s. nothing, λ four s. rw same_either at (put side.incoming false q incoming.failed (λ z. refl) four s))
  lost (sending.Report f n) = (λ four s. nothing, λ four s. nothing)

  asked : (room : List ℕ) (r : Request) → Both (λ z. Does z (releases r z p) (answer_of c x r room).answer.exchange (λ s. watches z c p x room s (request r)))
  unfolding refused refused_by claimed_at reply_accepted put_own put_incoming with_sending not_ready
  asked room =
      by_request c x room
      (λ r a.
      let y = a.answer.exchange in
      let here = taken_at a.answer.asked p in
      Does side.own (releases r side.own p) y (λ s. cond here (own_taken c x s r) s) × Does side.incoming (releases r side.incoming p) y (λ s. cond here (incoming_taken s r) s))
      (λ r n. (λ four s. nothing, λ four s. nothing)) (λ q d i u e. (put side.own false i (own.claim _) (λ z. refl), λ four s. rw same_either nothing))
      (λ q f d u a b. (λ four s. rw same_either nothing, put side.incoming false q incoming.answer (λ z. refl)))
      (λ q e. (
        λ four s. rw (← own_freed (own_standing (own_place x q)) s e) (put side.own (eqb q p) q own.release (λ z. sym (ap not (eq-eqb q p z))) four s),
        λ four s. rw same_either nothing,
      ))
      (λ q e. (
        λ four s. rw same_either nothing,
        λ four s. rw (incoming_freed (incoming_place x q).stage s e) at (put side.incoming (eqb q p) q incoming.release (λ z. sym (ap not (eq-eqb q p z))) four s),
      ))

  calls : (room : List ℕ) (j : Call) → Both (λ z. Does z (frees j z p) (called c x room j).exchange (λ s. watches z c p x room s j))
  calls room (block h d) = judged room h d
  calls room tick = ticked
  calls room put_out = goes_out x.sending
  calls room acknowledged = sent x.sending
  calls room failed = lost x.sending
  calls room (request r) = asked room r

  -- any call, on either side: the event is a release exactly if the call asks for it
  pub call : (z : Side) (room : List ℕ) (j : Call) → Does z (frees j z p) (called c x room j).exchange (λ s. watches z c p x room s j)
  call side.own room j = (calls room j).0
  call side.incoming room j = (calls room j).1

-- of the place alone: after any call but one for its release
pub changed : (z : Side) (c : Terms) (x : Exchange) (room : List ℕ) → length (table z x) ≡ 4 → (p : ℕ) → p < 4 → (P : Place z → Type 0) → P (place z x p)
    → ((e : Event z c) → spares z c e ≡ true → P (step z c (place z x p) e)) → (j : Call) → frees j z p ≡ false → P (place z (called c x room j).exchange p)
changed z c x room four p k P same more j n = by_event (λ o s. P o) (call c x p k z room j four (nothing_seen z)) same (λ e i. more e (i ∙ ap not n))
