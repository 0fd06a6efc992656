-- A master has no reply that proves a request received before its ACK (`specs/Withdrawn.antt`): from the call that puts out the request's last
-- block until its send ends a block of ours is under way, and none goes up meanwhile. Assumes nothing.
use Prim.Native.Nat.{ℕ, ◌<◌}
use mathlib.Core.Path.{◌≡◌, refl, sym, ap, ◌∙◌}
use mathlib.Core.Bool.{Bool, true, false, not, false≢true}
use mathlib.Core.List.{List}
use mathlib.Core.Logic.{inl, inr}
use Rattle.wire.proofs.Choice.{either}
use Rattle.settings.specs.declared.limits.Limits.{Limits}
use Rattle.line.specs.History as line
use Rattle.line.specs.History.{none, ours_at, theirs_at}
use Rattle.line.proofs.Always.{always}
use Rattle.line.specs.declared.phase.Phase.{Phase}
use Rattle.line.specs.declared.phase.Phase.TheVariants.{Idle, WaitEot, Draining, WaitAck, WaitLength, Body, Silence}
use Rattle.place.specs.OwnHistory as own
use Rattle.exchange.specs.Reports.{same_message}
use Rattle.exchange.proofs.Same.{message_other}
use Rattle.link.specs.Reading.{sending_of, message_of}
use Rattle.link.specs.History.{Made, Track, line_track, limits_in, lent_room, answered, next}
use Rattle.link.specs.Inside.{Reached}
use Rattle.link.specs.Door.{on_way, other_sent, Watch, Stops, sent, failed, gave_way}
use Rattle.link.specs.Withdrawn.{MasterProvesNone}
use Rattle.link.specs.declared.Settings.{Settings}
use Rattle.link.proofs.inside.Line.{settings_kept}
use Rattle.link.proofs.inside.Reached.{reached_next, by_calls, line_inside}
use Rattle.link.proofs.inside.Courier.{clash}
use Rattle.link.proofs.device.Told.{told_exactly, put_out_exactly}
use Rattle.link.proofs.device.Up.{up_exactly}
use Rattle.link.proofs.door.Right.{one_call, settled}
use Rattle.link.proofs.moves.Own.{underway_exactly, own_seen}
use Rattle.link.proofs.sends.Bytes.{sending_then}
use Rattle.link.proofs.withdrawn.Over.{none_sent, report_follows}

-- ---- a block of the far end is being received

-- then none of ours is under way
none_ours : (p : Phase) → theirs_at p ≡ true → ours_at p ≡ none
none_ours Idle e = refl
none_ours (WaitEot timer tries) e = clash e
none_ours (Draining tries) e = clash e
none_ours (WaitAck timer tries) e = clash e
none_ours (WaitLength timer) e = refl
none_ours (Body timer a) e = refl
none_ours (Silence timer fault) e = refl

pub held_then : (t : Track) → Reached t → t.seen.theirs ≡ true → t.seen.ours ≡ none
held_then t r e =
    let g = always (limits_in t) (line_track t) (line_inside t r) in
    g.ours ∙ none_ours t.link.line.phase (sym g.theirs ∙ e)

-- ---- a request whose last block is out

-- it is the message that was being sent before: none but a report follows another in one call
same_sent : (t : Track) → Reached t → (m : Made) (p : ℕ) → p < 4 → ((next t m).own p).request ≡ own.out → sending_of t.link ≡ true
    → other_sent t.link (answered t m) ≡ false
same_sent t r m p k e sending =
    let before = message_of t.link in
    let after = message_of (next t m).link in
    let way = (underway_exactly (next t m) (reached_next t r m) p k).0 (inr e) in
    either (same_message before after) (λ b. not b ≡ false) (λ i. refl)
    (λ i. clash (sym (none_sent after p (report_follows t r m sending (λ f. message_other before after i (sym f)))) ∙ way))

-- a master does not give way
no_stop : (c : Limits) (w : Watch) (k : line.Call) (bs : List ℕ) (sending other : Bool) → c.master ≡ true → other ≡ false → Stops c w k bs sending other → ⊥
no_stop c w k bs sending other master same (sent ours ack starts is) = false≢true (sym same ∙ is)
no_stop c w k bs sending other master same (failed spent starts is) = false≢true (sym same ∙ is)
no_stop c w k bs sending other master same (gave_way slave ours enq eot still is) = false≢true (sym slave ∙ master)

-- so a block of its own stays under way while the message is being sent
stays_on_way : (t : Track) → Reached t → (m : Made) → (limits_in t).master ≡ true → other_sent t.link (answered t m) ≡ false → on_way t.seen.ours ≡ true
    → on_way (next t m).seen.ours ≡ true
stays_on_way t r m master same on =
    either (on_way (next t m).seen.ours) (λ y. y ≡ true) (λ e. refl)
    (λ gone. absurd (no_stop _ _ _ _ _ _ master same ((one_call t r (settled t r) m).3 on (inl gone))))

abbrev Waits : Track → Type 0
Waits t = (limits_in t).master ≡ true → (p : ℕ) → p < 4 → (t.own p).request ≡ own.out → on_way t.seen.ours ≡ true

-- "EOT puts out the whole block": where a request comes to be out, EOT was waited for
waits_on : (t : Track) → Reached t → (m : Made) → Waits t → Waits (next t m)
waits_on t r m g master p k e =
    let same : limits_in (next t m) ≡ limits_in t = ap (λ (s : Settings). s.limits) (settings_kept t.link (lent_room m.room t.room) m.out m.call) in
    let is = sym (ap (λ (c : Limits). c.master) same) ∙ master in
    let on =
    either (on_way t.seen.ours) (λ y. y ≡ true) (λ on. refl)
    (λ off.
    let first = (own_seen t r p k m).out.0 (record { before = λ was. false≢true (sym off ∙ g is p k was); after = e }) in
    clash (sym off ∙ ap on_way ((put_out_exactly t r m).0 ((told_exactly t m).put_out.0 first.puts_out.told).0).2)) in
    stays_on_way t r m is (same_sent t r m p k e (sending_then t r on)) on

out_on_way : (t : Track) → Reached t → Waits t
out_on_way t r = by_calls Waits waits_on t r (λ master p k e. clash cc)

pub master_proves_none : MasterProvesNone
master_proves_none t r master m y =
    let g = y.so in
    let up = ((told_exactly t m).block g.header g.rest).0 g.came.up in
    let ours = held_then t r ((up_exactly t r m up.size).0 up.told).1.receiving in
    false≢true (sym (ap on_way ours) ∙ out_on_way t r master y.place y.within g.before)
