-- From which line on there is a unit (`specs/Started.antt`). Assumes nothing.
use Prim.Native.Nat.{ℕ, ◌≤◌}
use mathlib.Core.Path.{◌≡◌, refl, sym, ap, subst, ◌∙◌}
use mathlib.Core.Bool.{false≢true}
use mathlib.Core.List.{List, [], ◌∷◌}
use mathlib.Core.Logic.{◌⊎◌, inl, inr, ⊎_elim}
use lib.Dec.{ltb}
use lib.ListN.{length, replicate}
use borrow.Author.Tests.{ltb-true, ltb-false}
use Rattle.std.specs.Prelude.{Option, Some, None, IsSome, is_some}
use Rattle.wire.proofs.Choice.{either}
use Rattle.link.specs.Refusals.{StartRuled, start_4, start_0}
use Rattle.link.specs.declared.Link.{Link}
use Rattle.link.specs.declared.Setup.{Setup}
use Rattle.link.proofs.refusals.Start.{start_exactly}
use Rattle.script.specs.Lines.{Order, starts, opens, replies, frees_own, frees_incoming, hears, waits, drains, shows, counts, LineIs, OneOf}
use Rattle.script.specs.Command.{Told}
use Rattle.script.proofs.Lines.{known}
use Rattle.talk.specs.Answer.{Done, told_done, line_done, text_done}
use Rattle.talk.specs.Lines.{OrderDone, AsItWas, Question, StartDone, Does, DoesEarly}
use Rattle.talk.specs.Listing.{Talk, talk, talked, silence}
use Rattle.talk.specs.Started.{Starts, StartAmong, this, later, StartedExactly, QuestionBefore}
use Rattle.talk.proofs.Lines.{unread_done, lines_do}

-- ---- one line

abbrev On : Done → Type 0
On d = IsSome d.shown.bench

-- there is a unit behind a line exactly if there was one, or the line is a start that is not refused
record Follows (b : Option Link) (line : List ℕ) (d : Done) : Type 0 where
  why : On d → IsSome b ⊎ Starts line
  stays : IsSome b → On d

as_it_was : (b : Option Link) (line room out : List ℕ) (d : Done) → AsItWas b room out d → Follows b line d
as_it_was b line room out d w =
    let same : is_some d.shown.bench ≡ is_some b = ap is_some w.bench in
    record { why = λ e. inl (sym same ∙ e); stays = λ e. same ∙ e }

-- where there was one, and is one
goes_on_lem : (b : Option Link) (line : List ℕ) (d : Done) → IsSome b → On d → Follows b line d
goes_on_lem b line d e on = record { why = λ x. inl e; stays = λ x. on }

start_follows : (b : Option Link) (line : List ℕ) (s : Setup) (room out : List ℕ) (d : Done) → LineIs line (starts s) → length line ≤ 1024 → StartDone b s room out d → Follows b line d
start_follows b line s room out d is short w = by ((start_exactly.number s _).0 refl)
  where
    by : {n : ℕ} → StartRuled s n → Follows b line d
    by (start_4 unfit) = as_it_was b line room out d (w.refused unfit).all
    by (start_0 fits) =
        let on : On d = ap is_some (w.accepted fits).all.bench in
        record { why = λ x. inr (record { setup = s; is = is; short = short; fits = fits }); stays = λ x. on }

order_on : (u : Link) (o : Order) (room out : List ℕ) (d : Done) → OrderDone u o room out d → On d
order_on u o room out d w = ap is_some w.came.bench

start_on : (u : Link) (s : Setup) (room out : List ℕ) (d : Done) → StartDone (Some u) s room out d → On d
start_on u s room out d w = by ((start_exactly.number s _).0 refl)
  where
    by : {n : ℕ} → StartRuled s n → On d
    by (start_4 unfit) = ap is_some (w.refused unfit).all.bench
    by (start_0 fits) = ap is_some (w.accepted fits).all.bench

does_on : (u : Link) (o : Order) (room out : List ℕ) (d : Done) → Does u o room out d → On d
does_on u (starts s) room out d w = start_on u s room out d w
does_on u (opens q bs) room out d w = order_on u (opens q bs) room out d w
does_on u (replies p f bs) room out d w = order_on u (replies p f bs) room out d w
does_on u (frees_own p) room out d w = order_on u (frees_own p) room out d w
does_on u (frees_incoming p) room out d w = order_on u (frees_incoming p) room out d w
does_on u (hears bs) room out d w = order_on u (hears bs) room out d w
does_on u (waits n) room out d w = order_on u (waits n) room out d w
does_on u drains room out d w = order_on u drains room out d w
does_on u (shows p) room out d w = ap is_some w.all.bench
does_on u counts room out d w = ap is_some w.all.bench

early_follows : (line : List ℕ) (o : Order) (room out : List ℕ) (d : Done) → LineIs line o → length line ≤ 1024 → DoesEarly o room out d → Follows None line d
early_follows line (starts s) room out d is short w = start_follows None line s room out d is short w
early_follows line (opens q bs) room out d is short w = as_it_was None line room out d w.all
early_follows line (replies p f bs) room out d is short w = as_it_was None line room out d w.all
early_follows line (frees_own p) room out d is short w = as_it_was None line room out d w.all
early_follows line (frees_incoming p) room out d is short w = as_it_was None line room out d w.all
early_follows line (hears bs) room out d is short w = as_it_was None line room out d w.all
early_follows line (waits n) room out d is short w = as_it_was None line room out d w.all
early_follows line drains room out d is short w = as_it_was None line room out d w.all
early_follows line (shows p) room out d is short w = as_it_was None line room out d w.all
early_follows line counts room out d is short w = as_it_was None line room out d w.all

said_follows : (b : Option Link) (line room out : List ℕ) → length line ≤ 1024 → OneOf line → Follows b line (line_done b line room out)
said_follows None line room out short w = early_follows line w.order room out _ w.is short ((lines_do None line room out).early refl short w.order w.is)
said_follows (Some u) line room out short w =
    goes_on_lem (Some u) line _ refl (does_on u w.order room out _ ((lines_do (Some u) line room out).started u refl short w.order w.is))

line_follows : (b : Option Link) (line room out : List ℕ) → Follows b line (line_done b line room out)
unfolding line_done
line_follows b line room out =
    either (ltb 1024 (length line)) (λ t. Follows b line (line_done b line room out))
    (λ long. as_it_was b line room out _ ((lines_do b line room out).long (ltb-true 1024 (length line) long)).all)
    (λ short.
    ⊎_elim
    (λ no. as_it_was b line room out _ (subst (λ (t : Told). AsItWas b room out (told_done b t room out)) (sym no) (unread_done b (replicate 512 0) room out).all))
    (said_follows b line room out (ltb-false 1024 (length line) short)) (known line (replicate 512 0)))

-- such a start begins, whatever there was
begins : (b : Option Link) (line room out : List ℕ) → Starts line → On (line_done b line room out)
begins None line room out w = ap is_some (((lines_do None line room out).early refl w.short (starts w.setup) w.is).accepted w.fits).all.bench
begins (Some u) line room out w = does_on u (starts w.setup) room out _ ((lines_do (Some u) line room out).started u refl w.short (starts w.setup) w.is)

-- ---- any lines

follows : (t : Talk) (line : List ℕ) → Follows t.now.shown.bench line (talk t line).now
follows t line = line_follows t.now.shown.bench line t.now.room t.now.out

on_why : (lines : List (List ℕ)) (t : Talk) → On (talked t lines).now → On t.now ⊎ StartAmong lines
unfolding talked
on_why [] t e = inl e
on_why (line ∷ lines) t e =
    ⊎_elim (λ on. ⊎_elim (λ was. inl was) (λ start. inr (this line lines start)) ((follows t line).why on)) (λ among. inr (later line lines among))
    (on_why lines (talk t line) e)

on_stays : (lines : List (List ℕ)) (t : Talk) → On t.now → On (talked t lines).now
unfolding talked
on_stays [] t e = e
on_stays (line ∷ lines) t e = on_stays lines (talk t line) ((follows t line).stays e)

among_on : (lines : List (List ℕ)) (t : Talk) → StartAmong lines → On (talked t lines).now
unfolding talked
among_on [] t h = elim h [ ]
among_on (line ∷ lines) t (this l ls w) = on_stays lines (talk t line) (begins t.now.shown.bench line t.now.room t.now.out w)
among_on (line ∷ lines) t (later l ls w) = among_on lines (talk t line) w

pub started_exactly : StartedExactly
started_exactly lines = (λ e. ⊎_elim (λ on. absurd (false≢true on)) (λ w. w) (on_why lines silence e), among_on lines silence)

-- ---- what is printed before

early_question : (line : List ℕ) (o : Order) (room out : List ℕ) (d : Done) → LineIs line o → ((s : Setup) → LineIs line (starts s) → ⊥) → DoesEarly o room out d → Question None room out d
early_question line (starts s) room out d is other w = absurd (other s is)
early_question line (opens q bs) room out d is other w = w
early_question line (replies p f bs) room out d is other w = w
early_question line (frees_own p) room out d is other w = w
early_question line (frees_incoming p) room out d is other w = w
early_question line (hears bs) room out d is other w = w
early_question line (waits n) room out d is other w = w
early_question line drains room out d is other w = w
early_question line (shows p) room out d is other w = w
early_question line counts room out d is other w = w

line_question : (line room out : List ℕ) → ((s : Setup) → LineIs line (starts s) → ⊥) → Question None room out (line_done None line room out)
unfolding line_done
line_question line room out other =
    either (ltb 1024 (length line)) (λ t. Question None room out (line_done None line room out))
    (λ long. (lines_do None line room out).long (ltb-true 1024 (length line) long))
    (λ short.
    ⊎_elim
    (λ none. subst (λ (t : Told). Question None room out (told_done None t room out)) (sym none) (unread_done None (replicate 512 0) room out))
    (λ w. early_question line w.order room out _ w.is other ((lines_do None line room out).early refl (ltb-false 1024 (length line) short) w.order w.is))
    (known line (replicate 512 0)))

pub question_before : QuestionBefore
question_before lines none line other = by t.now.shown.bench refl
  where
    t : Talk
    t = talked silence lines

    by : (b : Option Link) → t.now.shown.bench ≡ b → text_done (line_done t.now.shown.bench line t.now.room t.now.out) ≡ 0x3F ∷ 0x0A ∷ []
    by None e = rw e (line_question line t.now.room t.now.out other).text
    by (Some u) e = absurd (none ((started_exactly lines).0 (ap is_some e)))
