-- The unit of bench is one that was started, and of which the calls of lines were made since (`specs/Reached.antt`). Assumes nothing.
use Rattle.std.specs.Prelude.{Some, None, Option}
use Rattle.std.proofs.lemmas.Option.{none-some, same_Some}
use Prim.Native.Nat.{ℕ, ◌≤◌}
use mathlib.Core.Path.{◌≡◌, refl, sym, ap, subst, ◌∙◌}
use mathlib.Core.List.{List, [], ◌∷◌, ◌++◌}
use mathlib.Core.Logic.{⊎_elim}
use native.Mathlib.Omega.{arith}
use lib.Dec.{ltb}
use lib.ListN.{length, drop, replicate, length-append, length-drop}
use borrow.Author.Tests.{ltb-true, ltb-false}
use Rattle.wire.specs.Lent.{on_front}
use Rattle.wire.proofs.Choice.{either}
use Rattle.link.proofs.inside.Reached.{reached_more}
use Rattle.exchange.specs.declared.OwnReading.{OwnReading}
use Rattle.link.specs.Reading.{own_of}
use Rattle.link.specs.State.{fresh_link}
use Rattle.link.specs.History.{Call, called, Made, kept, Track, next, track, at_start}
use Rattle.link.specs.Door.{bytes_left}
use Rattle.link.specs.Inside.{Back, ReachedBack}
use Rattle.link.specs.Refusals.{SetupFits, StartRuled, start_4, start_0, in_ticks}
use Rattle.link.specs.declared.Link.{Link}
use Rattle.link.specs.declared.Setup.{Setup}
use Rattle.link.proofs.refusals.Start.{start_exactly, ranged_as}
use Rattle.link.proofs.refusals.Writes.{writes_only}
use Rattle.link.proofs.verdicts.Own.{none_above}
use Rattle.script.specs.Lines.{Order, starts, opens, replies, frees_own, frees_incoming, hears, waits, drains, shows, counts, OneOf}
use Rattle.script.specs.Command.{Told}
use Rattle.script.proofs.Lines.{known}
use Rattle.talk.specs.Answer.{Done, told_done, line_done, text_done}
use Rattle.talk.specs.Lines.{made_on, outputs, last_link, last_room, OrderDone, AsItWas, ReadingText, StartDone, Does, DoesEarly}
use Rattle.talk.specs.Listing.{Talk, talk, talked, silence}
use Rattle.talk.specs.Reached.{UnitReached, UnitsReached, AboveThree}
use Rattle.talk.proofs.Lines.{left_count, unread_done, lines_do}

-- ---- calls

back_more : (ms : List Made) (m : Made) → Back ms → m.room ≡ kept → Back (ms ++ (m ∷ []))
unfolding Back
back_more [] m b e = rw e (tt, tt)
back_more (n ∷ ms) m b e = (b.0, back_more ms m b.1 e)

-- a track after one call more, which is lent the room as it was left
track_more : (t : Track) → ReachedBack t → (k : Call) (out : List ℕ) → ReachedBack (next t (record { call = k; room = kept; out = out }))
unfolding track reached_more
track_more t w k out =
    let m : Made = record { call = k; room = kept; out = out } in
    record { reached = reached_more t w.reached (m ∷ []); back = back_more w.reached.calls m w.back refl }

one_more : (u : Link) (room out : List ℕ) (k : Call) → UnitReached u room → UnitReached (called u room out k).answer.link (called u room out k).room
one_more u room out k w = record {
  track = next w.track (record { call = k; room = kept; out = out });
  reached = track_more w.track w.reached k out;
  link = λ i. (called (w.link i) (w.kept i) out k).answer.link;
  kept = λ i. (called (w.link i) (w.kept i) out k).room;
}

-- the room stays as long as it was
record Sound (u : Link) (room : List ℕ) : Type 0 where
  whole : length room ≡ 36864
  unit : UnitReached u room

calls_more : (ks : List Call) (u : Link) (room out : List ℕ) → Sound u room → Sound (last_link u (made_on u room out ks)) (last_room room (made_on u room out ks))
unfolding made_on
calls_more [] u room out s = s
calls_more (k ∷ ks) u room out s =
    calls_more ks _ _ _ (record { whole = (writes_only u room out k).size ∙ s.whole; unit = one_more u room out k s.unit })

-- what they put out has room where it was put
outputs_within : (ks : List Call) (u : Link) (room out : List ℕ) → length (outputs (made_on u room out ks)) ≤ length out
unfolding made_on outputs
outputs_within [] u room out = omega arith
outputs_within (k ∷ ks) u room out =
    let l = called u room out k in
    let w = (writes_only u room out k).output in
    omega (
      arith,
      length-append (bytes_left l) (outputs (made_on l.answer.link l.room (drop l.answer.count out) ks)),
      outputs_within ks l.answer.link l.room (drop l.answer.count out),
      length-drop l.answer.count out,
      left_count u room out k,
      w.within,
    )

-- ---- a start

fresh_reached : (s : Setup) (room : List ℕ) → SetupFits s → length room ≡ 36864 → UnitReached (fresh_link (in_ticks s) s.last) room
unfolding track Back
fresh_reached s room fits whole = record {
  track = at_start (in_ticks s) s.last room;
  reached = record {
    reached = record { setup = s; settings = in_ticks s; started = ranged_as s fits; room = room; whole = whole; calls = []; so = refl };
    back = tt;
  };
  link = refl;
  kept = refl;
}

-- ---- a line

-- where there is a unit, it is one that was reached; room and memory for output are as long as they were in any case
pub record Holds (b : Option Link) (room out : List ℕ) : Type 0 where
  pub whole : length room ≡ 36864
  pub long : length out ≡ 4096
  pub unit : (u : Link) → b ≡ Some u → UnitReached u room

abbrev HoldsIn : Done → Type 0
HoldsIn d = Holds d.shown.bench d.room d.out

as_it_was : (b : Option Link) (room out : List ℕ) (d : Done) → Holds b room out → AsItWas b room out d → HoldsIn d
as_it_was b room out d h w =
    subst (λ (c : Option Link). Holds c d.room d.out) (sym w.bench)
    (record {
      whole = ap length w.kept ∙ h.whole;
      long = ap length w.written ∙ h.long;
      unit = λ u e. subst (UnitReached u) (sym w.kept) (h.unit u e);
    })

start_holds : (b : Option Link) (s : Setup) (room out : List ℕ) (d : Done) → Holds b room out → StartDone b s room out d → HoldsIn d
start_holds b s room out d h w = by ((start_exactly.number s _).0 refl)
  where
    by : {n : ℕ} → StartRuled s n → HoldsIn d
    by (start_4 unfit) = as_it_was b room out d h (w.refused unfit).all
    by (start_0 fits) = as_it_was _ room out d (record { whole = h.whole; long = h.long; unit = λ u e. subst (λ (v : Link). UnitReached v room) (same_Some _ _ e) (fresh_reached s room fits h.whole) }) (w.accepted fits).all

order_holds : (u : Link) (o : Order) (room out : List ℕ) (d : Done) → Holds (Some u) room out → OrderDone u o room out d → HoldsIn d
unfolding on_front
order_holds u o room out d h w =
    let c = w.came in
    let s = calls_more w.calls u room out (record { whole = h.whole; unit = h.unit u refl }) in
    let bs = outputs (made_on u room out w.calls) in
    let size : length d.out ≡ length (bs ++ drop (length bs) out) = ap length c.written in
    subst (λ (b : Option Link). Holds b d.room d.out) (sym c.bench)
    (record {
      whole = ap length c.kept ∙ s.whole;
      long = omega (arith, h.long, length-append bs (drop (length bs) out), length-drop (length bs) out, outputs_within w.calls u room out);
      unit = λ v e. subst (λ (x : Link). UnitReached x d.room) (same_Some _ _ e) (subst (UnitReached _) (sym c.kept) s.unit);
    })

does_holds : (u : Link) (o : Order) (room out : List ℕ) (d : Done) → Holds (Some u) room out → Does u o room out d → HoldsIn d
does_holds u (starts s) room out d h w = start_holds (Some u) s room out d h w
does_holds u (opens q bs) room out d h w = order_holds u (opens q bs) room out d h w
does_holds u (replies p f bs) room out d h w = order_holds u (replies p f bs) room out d h w
does_holds u (frees_own p) room out d h w = order_holds u (frees_own p) room out d h w
does_holds u (frees_incoming p) room out d h w = order_holds u (frees_incoming p) room out d h w
does_holds u (hears bs) room out d h w = order_holds u (hears bs) room out d h w
does_holds u (waits n) room out d h w = order_holds u (waits n) room out d h w
does_holds u drains room out d h w = order_holds u drains room out d h w
does_holds u (shows p) room out d h w = as_it_was (Some u) room out d h w.all
does_holds u counts room out d h w = as_it_was (Some u) room out d h w.all

early_holds : (o : Order) (room out : List ℕ) (d : Done) → Holds None room out → DoesEarly o room out d → HoldsIn d
early_holds (starts s) room out d h w = start_holds None s room out d h w
early_holds (opens q bs) room out d h w = as_it_was None room out d h w.all
early_holds (replies p f bs) room out d h w = as_it_was None room out d h w.all
early_holds (frees_own p) room out d h w = as_it_was None room out d h w.all
early_holds (frees_incoming p) room out d h w = as_it_was None room out d h w.all
early_holds (hears bs) room out d h w = as_it_was None room out d h w.all
early_holds (waits n) room out d h w = as_it_was None room out d h w.all
early_holds drains room out d h w = as_it_was None room out d h w.all
early_holds (shows p) room out d h w = as_it_was None room out d h w.all
early_holds counts room out d h w = as_it_was None room out d h w.all

said_holds : (b : Option Link) (line room out : List ℕ) → Holds b room out → length line ≤ 1024 → OneOf line → HoldsIn (line_done b line room out)
said_holds None line room out h short w = early_holds w.order room out _ h ((lines_do None line room out).early refl short w.order w.is)
said_holds (Some u) line room out h short w = does_holds u w.order room out _ h ((lines_do (Some u) line room out).started u refl short w.order w.is)

line_holds : (b : Option Link) (line room out : List ℕ) → Holds b room out → HoldsIn (line_done b line room out)
unfolding line_done
line_holds b line room out h =
    either (ltb 1024 (length line)) (λ t. HoldsIn (line_done b line room out))
    (λ long. as_it_was b room out _ h ((lines_do b line room out).long (ltb-true 1024 (length line) long)).all)
    (λ short.
    ⊎_elim (λ no. as_it_was b room out _ h (subst (λ (t : Told). AsItWas b room out (told_done b t room out)) (sym no) (unread_done b (replicate 512 0) room out).all))
    (said_holds b line room out h (ltb-false 1024 (length line) short)) (known line (replicate 512 0)))

-- ---- any lines

lines_hold : (lines : List (List ℕ)) (t : Talk) → HoldsIn t.now → HoldsIn (talked t lines).now
unfolding talked
lines_hold [] t h = h
lines_hold (line ∷ lines) t h = lines_hold lines (talk t line) (line_holds t.now.shown.bench line t.now.room t.now.out h)

pub any_lines : (lines : List (List ℕ)) → HoldsIn (talked silence lines).now
any_lines lines = lines_hold lines silence (record { whole = refl; long = refl; unit = λ u e. absurd (none-some u e) })

pub units_reached : UnitsReached
units_reached lines = (any_lines lines).unit

pub above_three : AboveThree
above_three lines u e line p is short past =
    let d = (talked silence lines).now in
    let w = units_reached lines u e in
    let none : own_of u p ≡ None = ap (λ (v : Link). own_of v p) (sym w.link) ∙ (none_above w.track w.reached.reached p past).0 in
    let done = (lines_do d.shown.bench line d.room d.out).started u e short (shows p) is in
    subst (λ (r : Option OwnReading). ReadingText r p (text_done (line_done d.shown.bench line d.room d.out))) none done.text
