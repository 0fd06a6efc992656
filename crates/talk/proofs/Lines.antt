-- What each line does (`specs/Lines.antt`): the calls that a line makes, one after the other, and lines that make none. Assumes nothing.
use Rattle.std.specs.Prelude.{Option, Some, None}
use Prim.Native.Nat.{ℕ, zero, suc, ◌+◌}
use mathlib.Core.Path.{◌≡◌, refl, sym, ap, subst, ◌∙◌}
use mathlib.Core.Bool.{false, false≢true}
use mathlib.Core.List.{List, [], ◌∷◌, ◌++◌, append_assoc, append-nil}
use native.Mathlib.Omega.{arith}
use lib.ListN.{length, take, drop, replicate, length-append, take-append-drop}
use lib.Seq.{take_at, drop_at, drop-drop, length-take-le}
use Rattle.wire.specs.Bytes.{Bytes}
use Rattle.wire.specs.Lent.{on_front}
use Rattle.wire.proofs.Choice.{chosen}
use Rattle.place.specs.Verdict.{standing_number}
use Rattle.place.specs.Own.{free_by, own_standing, own_is_free}
use Rattle.place.specs.declared.Standing.{Standing}
use Rattle.place.specs.declared.Standing.TheVariants as standing
use Rattle.place.specs.declared.Verdict.TheVariants as verdict
use Rattle.exchange.specs.Exchange.{own_place}
use Rattle.exchange.specs.Reading.{own_reading}
use Rattle.exchange.specs.Request.{primary, reply, freeing_own, freeing_incoming}
use Rattle.exchange.specs.declared.OwnReading.{OwnReading}
use Rattle.link.specs.Answer.{outcome_number, note_number}
use Rattle.link.specs.State.{start_of}
use Rattle.link.specs.Run.{Left}
use Rattle.link.specs.Reading.{own_of, dropped_of}
use Rattle.link.specs.History.{Call, byte, tick, drained, request, called}
use Rattle.link.specs.Door.{bytes_left}
use Rattle.link.specs.Refusals.{start_4, start_0}
use Rattle.link.specs.declared.Link.{Link}
use Rattle.link.specs.declared.Setup.{Setup}
use Rattle.link.proofs.refusals.Start.{start_exactly}
use Rattle.link.proofs.refusals.Writes.{writes_only}
use Rattle.talk.specs.Run.{Running, running, nothing_ran, joined_ran, joins, bytes_run, ticks_run}
use Rattle.script.specs.Command.{unread}
use Rattle.script.specs.Lines.{Order, starts, opens, replies, frees_own, frees_incoming, hears, waits, drains, shows, counts, Within, command_of, bytes_of}
use Rattle.script.specs.Printed.{digits_of, number_text, text_of}
use Rattle.script.specs.declared.Command.TheVariants as command
use Rattle.script.specs.declared.Printed.TheVariants as printed
use Rattle.script.proofs.PrintedRules.{lines_exactly}
use Rattle.script.proofs.Lines.{lines_read}
use Rattle.script.proofs.Written.{orders_written}
use Rattle.talk.specs.Answer.{done, unread_shown, verdict_by, start_shown, done_by, command_done, early_shown, told_done, line_done}
use Rattle.talk.specs.Lines.{Makes, one_open, one_reply, one_own, one_incoming, no_byte, a_byte, no_tick, a_tick, one_drained, made_on, outputs, last_number, last_note, last_link, last_room, CallsDone, OrderDone, Question, is_open, is_sent_lem, is_answered, is_declined, is_other_lem, is_broken, no_reply, send_failed, VerdictText, ReadingText, DroppedDone, StartDone, Does, DoesEarly, LinesDo}
use Rattle.talk.specs.declared.Ran.{Ran}

-- ---- calls, one after the other

-- one call more, as bench makes it
abbrev one_run : Running → Call → Running
one_run s k = joins s.ran.count s.out (called s.ran.link s.room (drop s.ran.count s.out) k)

unfoldable calls_run : Running → List Call → Running
calls_run s [] = s
calls_run s (k ∷ ks) = calls_run (one_run s k) ks

-- a call puts its bytes at the front of what it is lent, and leaves the rest
left_out : (u : Link) (room o : List ℕ) (k : Call) → (called u room o k).out ≡ bytes_left (called u room o k) ++ drop (called u room o k).answer.count o
left_out u room o k =
    let l = called u room o k in
    sym (take-append-drop l.answer.count l.out) ∙ ap (λ (r : List ℕ). bytes_left l ++ r) (writes_only u room o k).output.beyond

pub left_count : (u : Link) (room o : List ℕ) (k : Call) → length (bytes_left (called u room o k)) ≡ (called u room o k).answer.count
left_count u room o k =
    let w = (writes_only u room o k).output in
    length-take-le _ _ (omega (arith, w.within, w.size))

-- number and note of the last call, or those that there were
abbrev number_from : ℕ → List Left → ℕ
number_from n [] = n
number_from n (l ∷ ls) = number_from (outcome_number l.answer.outcome) ls

abbrev note_from : ℕ → List Left → ℕ
note_from n [] = n
note_from n (l ∷ ls) = note_from (note_number l.answer.note) ls

last_number_lem : (ls : List Left) → number_from 0 ls ≡ last_number ls
last_number_lem [] = refl
last_number_lem (l ∷ []) = refl
last_number_lem (l ∷ m ∷ ls) = last_number_lem (m ∷ ls)

last_note_lem : (ls : List Left) → note_from 20 ls ≡ last_note ls
last_note_lem [] = refl
last_note_lem (l ∷ []) = refl
last_note_lem (l ∷ m ∷ ls) = last_note_lem (m ∷ ls)

-- the memory for output with these bytes at its front
abbrev filled : List ℕ → List ℕ → List ℕ
filled bs out = bs ++ drop (length bs) out

-- where calls end that were made behind others: `bs` is what those put out
abbrev end_of : Ran → List ℕ → List ℕ → List ℕ → List Left → Running
end_of r room bs out ls =
    running
    (record {
      link = last_link r.link ls;
      number = number_from r.number ls;
      note = note_from r.note ls;
      count = length (bs ++ outputs ls);
    })
    (last_room room ls) (filled (bs ++ outputs ls) out)

-- behind them, a call is lent the rest, and its bytes stand behind theirs
abbrev behind : Ran → List ℕ → List ℕ → List ℕ → Call → Left
behind r room bs out k = called r.link room (drop (length bs) out) k

more_count : (r : Ran) (room bs out : List ℕ) (k : Call) → length (bs ++ bytes_left (behind r room bs out k)) ≡ length bs + (behind r room bs out k).answer.count
more_count r room bs out k = omega (arith, length-append bs (bytes_left (behind r room bs out k)), left_count r.link room (drop (length bs) out) k)

more_out : (r : Ran) (room bs out : List ℕ) (k : Call) → bs ++ (behind r room bs out k).out ≡ filled (bs ++ bytes_left (behind r room bs out k)) out
more_out r room bs out k =
    let l = behind r room bs out k in
    ap (λ (x : List ℕ). bs ++ x) (left_out r.link room (drop (length bs) out) k ∙ ap (λ (x : List ℕ). bytes_left l ++ x) (drop-drop l.answer.count (length bs) out))
    ∙ sym (append_assoc bs (bytes_left l) (drop (length bs + l.answer.count) out))
    ∙ ap (λ (n : ℕ). (bs ++ bytes_left l) ++ drop n out) (sym (more_count r room bs out k))

one : (r : Ran) (room bs out : List ℕ) (k : Call) → r.count ≡ length bs
    → one_run (running r room (filled bs out)) k
    ≡ running (joined_ran r.count (behind r room bs out k).answer) (behind r room bs out k).room (filled (bs ++ bytes_left (behind r room bs out k)) out)
one r room bs out k e =
    let rest : drop r.count (filled bs out) ≡ drop (length bs) out = drop_at bs (drop (length bs) out) r.count (sym e) in
    let front : take r.count (filled bs out) ≡ bs = take_at bs (drop (length bs) out) r.count (sym e) in
    ap (λ (o : List ℕ). joins r.count (filled bs out) (called r.link room o k)) rest
    ∙ ap (λ (x : List ℕ). running (joined_ran r.count (behind r room bs out k).answer) (behind r room bs out k).room x)
    (ap (λ (x : List ℕ). x ++ (behind r room bs out k).out) front ∙ more_out r room bs out k)

ends : (ks : List Call) (r : Ran) (room bs out : List ℕ) → r.count ≡ length bs
    → calls_run (running r room (filled bs out)) ks ≡ end_of r room bs out (made_on r.link room (drop (length bs) out) ks)
unfolding calls_run made_on outputs
ends [] r room bs out e = rw (append-nil, sym e)
ends (k ∷ ks) r room bs out e =
    let l = behind r room bs out k in
    let more = more_count r room bs out k in
    let rest : drop (length (bs ++ bytes_left l)) out ≡ drop l.answer.count (drop (length bs) out) =
    ap (λ (n : ℕ). drop n out) more ∙ sym (drop-drop l.answer.count (length bs) out) in
    ap (λ (s : Running). calls_run s ks) (one r room bs out k e)
    ∙ ends ks (joined_ran r.count l.answer) l.room (bs ++ bytes_left l) out (omega arith)
    ∙ rw (rest, append_assoc bs (bytes_left l) _)

-- what is printed for them
end_done : (u : Link) (room out : List ℕ) (ls : List Left) → CallsDone u room out ls (done_by (end_of (nothing_ran u) room [] out ls))
unfolding on_front
end_done u room out ls = record {
  text =
      rw (take_at (outputs ls) (drop (length (outputs ls)) out) (length (outputs ls)) refl, last_number_lem ls, last_note_lem ls)
      ((lines_exactly (outputs ls)).answer (last_number ls) (last_note ls));
  bench = refl;
  kept = refl;
  written = refl;
}

calls_done : (u : Link) (room out : List ℕ) (ks : List Call) → CallsDone u room out (made_on u room out ks) (done_by (calls_run (running (nothing_ran u) room out) ks))
calls_done u room out ks =
    subst (λ (s : Running). CallsDone u room out (made_on u room out ks) (done_by s)) (sym (ends ks (nothing_ran u) room [] out refl)) (end_done u room out (made_on u room out ks))

-- a line comes to its calls
order_done : (u : Link) (o : Order) (room out : List ℕ) (ks : List Call) (s : Running) → Makes o ks → s ≡ calls_run (running (nothing_ran u) room out) ks
    → OrderDone u o room out (done_by s)
order_done u o room out ks s made e = record {
  calls = ks;
  made = made;
  came = subst (λ (r : Running). CallsDone u room out (made_on u room out ks) (done_by r)) (sym e) (calls_done u room out ks);
}

-- ---- the calls of each line

-- one call
one_done : (u : Link) (o : Order) (room out : List ℕ) (k : Call) → Makes o (k ∷ []) → OrderDone u o room out (done_by (joins 0 out (called u room out k)))
unfolding calls_run
one_done u o room out k made = order_done u o room out (k ∷ []) _ made refl

record MadeOf (o : Order) : Type 0 where
  calls : List Call
  made : Makes o calls

bytes_made : (bs : List ℕ) → Bytes bs → MadeOf (hears bs)
bytes_made [] h = record { calls = []; made = no_byte }
bytes_made (b ∷ bs) h =
    let rest = bytes_made bs (record { at = λ i. h.at (suc i) }) in record { calls = byte b (h.at 0) ∷ rest.calls; made = a_byte b (h.at 0) bs rest.calls rest.made }

ticks_made : (n : ℕ) → MadeOf (waits n)
ticks_made zero = record { calls = []; made = no_tick }
ticks_made (suc n) = let rest = ticks_made n in record { calls = tick ∷ rest.calls; made = a_tick n rest.calls rest.made }

bytes_run_lem : (s : Running) (bs : List ℕ) (ks : List Call) → Makes (hears bs) ks → bytes_run s bs ≡ calls_run s ks
unfolding bytes_run calls_run
bytes_run_lem s _ _ no_byte = refl
bytes_run_lem s _ _ (a_byte b fits bs ks m) = bytes_run_lem (one_run s (byte b fits)) bs ks m

ticks_run_lem : (s : Running) (n : ℕ) (ks : List Call) → Makes (waits n) ks → ticks_run s n ≡ calls_run s ks
unfolding ticks_run calls_run
ticks_run_lem s _ _ no_tick = refl
ticks_run_lem s _ _ (a_tick n ks m) = ticks_run_lem (one_run s tick) n ks m

-- the bytes that a line says are at the front of the memory lent for them
said_bytes : (bs lent : List ℕ) → take (length bs) (on_front bs lent) ≡ bs
unfolding on_front
said_bytes bs lent = take_at bs (drop (length bs) lent) (length bs) refl

-- ---- a verdict

verdict_text : (s : Standing) (p : ℕ) → free_by s ≡ false → VerdictText s p (text_of (printed.Verdict p (standing_number s)) [])
unfolding digits_of number_text
verdict_text standing.Free p e = absurd (false≢true (sym e))
verdict_text standing.Open p e = record { verdict = 0; is = is_open; whole = (lines_exactly []).verdict p 0 }
verdict_text (standing.Given verdict.Sent) p e = record { verdict = 1; is = is_sent_lem; whole = (lines_exactly []).verdict p 1 }
verdict_text (standing.Given verdict.Answered) p e = record { verdict = 2; is = is_answered; whole = (lines_exactly []).verdict p 2 }
verdict_text (standing.Given verdict.Declined) p e = record { verdict = 3; is = is_declined; whole = (lines_exactly []).verdict p 3 }
verdict_text (standing.Given verdict.Other) p e = record { verdict = 4; is = is_other_lem; whole = (lines_exactly []).verdict p 4 }
verdict_text (standing.Given verdict.Broken) p e = record { verdict = 5; is = is_broken; whole = (lines_exactly []).verdict p 5 }
verdict_text (standing.Given verdict.NoReply) p e = record { verdict = 6; is = no_reply; whole = (lines_exactly []).verdict p 6 }
verdict_text (standing.Given verdict.SendFailed) p e = record { verdict = 7; is = send_failed; whole = (lines_exactly []).verdict p 7 }

reading_text : (u : Link) (p : ℕ) → ReadingText (own_of u p) p (text_of (verdict_by (own_of u p) p) [])
unfolding own_reading digits_of number_text
reading_text u p =
    chosen (λ (r : Option OwnReading). ReadingText r p (text_of (verdict_by r p) [])) (own_is_free (own_place u.exchange p)) _ _ (λ e. refl)
    (λ e. verdict_text (own_standing (own_place u.exchange p)) p e)

-- ---- a start

start_done : (b : Option Link) (s : Setup) (room out : List ℕ) → StartDone b s room out (done (start_shown b s) room out)
unfolding start_shown digits_of number_text
start_done b s room out = record {
  accepted = λ fits.
      let number : outcome_number (start_of s).outcome ≡ 0 = (start_exactly.number s 0).1 (start_0 fits) in
      let link = (start_exactly.accepted s fits).link in
      record { text = rw number; all = record { bench = rw (number, link); kept = refl; written = refl } };
  refused = λ unfit.
      let number : outcome_number (start_of s).outcome ≡ 4 = (start_exactly.number s 4).1 (start_4 unfit) in
      record { text = rw number; all = record { bench = rw number; kept = refl; written = refl } };
}

-- ---- every line

asked : (b : Option Link) (room out : List ℕ) → Question b room out (done (unread_shown b) room out)
asked b room out = record { text = refl; all = record { bench = refl; kept = refl; written = refl } }

dropped_done : (u : Link) (lent room out : List ℕ) → DroppedDone u room out (command_done u command.Dropped lent room out)
dropped_done u lent room out = record { text = (lines_exactly []).dropped (dropped_of u); all = record { bench = refl; kept = refl; written = refl } }

does : (u : Link) (o : Order) (lent room out : List ℕ) → Within o → Does u o room out (command_done u (command_of o) (on_front (bytes_of o) lent) room out)
does u (starts s) lent room out w = start_done (Some u) s room out
does u (opens q bs) lent room out w = rw (said_bytes bs lent) (one_done u (opens q bs) room out (request (primary q bs)) (one_open q bs))
does u (replies p f bs) lent room out w = rw (said_bytes bs lent) (one_done u (replies p f bs) room out (request (reply p f bs)) (one_reply p f bs))
does u (frees_own p) lent room out w = one_done u (frees_own p) room out (request (freeing_own p)) (one_own p)
does u (frees_incoming p) lent room out w = one_done u (frees_incoming p) room out (request (freeing_incoming p)) (one_incoming p)
does u (hears bs) lent room out w =
    let m = bytes_made bs w in rw (said_bytes bs lent) (order_done u (hears bs) room out m.calls _ m.made (bytes_run_lem _ bs m.calls m.made))
does u (waits n) lent room out w = let m = ticks_made n in order_done u (waits n) room out m.calls _ m.made (ticks_run_lem _ n m.calls m.made)
does u drains lent room out w = one_done u drains room out drained one_drained
does u (shows p) lent room out w = record { text = reading_text u p; all = record { bench = refl; kept = refl; written = refl } }
does u counts lent room out w = dropped_done u lent room out

does_early : (o : Order) (room out : List ℕ) → DoesEarly o room out (done (early_shown (command_of o)) room out)
does_early (starts s) room out = start_done None s room out
does_early (opens q bs) room out = asked None room out
does_early (replies p f bs) room out = asked None room out
does_early (frees_own p) room out = asked None room out
does_early (frees_incoming p) room out = asked None room out
does_early (hears bs) room out = asked None room out
does_early (waits n) room out = asked None room out
does_early drains room out = asked None room out
does_early (shows p) room out = asked None room out
does_early counts room out = asked None room out

-- a line that can't be read, started or not
pub unread_done : (b : Option Link) (bytes room out : List ℕ) → Question b room out (told_done b (unread bytes) room out)
unread_done b bytes room out = asked b room out

pub lines_do : LinesDo
unfolding line_done
lines_do b line room out =
    let read = lines_read line (replicate 512 0) in
    record {
      unsaid = λ no. rw (read.unsaid no) (unread_done b (replicate 512 0) room out);
      long = λ long. rw (read.long long) (unread_done b (replicate 512 0) room out);
      early = λ e short o is. rw (read.said o is short, e) (does_early o room out);
      started = λ u e short o is. rw (read.said o is short, e) (does u o (replicate 512 0) room out (orders_written.within line o is));
    }
