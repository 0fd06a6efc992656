-- How many causes of a report there were, and how many reports started, as an onlooker counts them (`specs/Reporting.antt`), by one call: a
-- cause by note 22 or 26 and by each verdict 6 at the equipment, and a start where a report is being sent that was not before (02, request 2).
-- Assumes nothing.
use Rattle.std.specs.Prelude.{Option}
use Prim.Native.Nat.{ℕ, ◌+◌, ◌<◌}
use mathlib.Core.Path.{◌≡◌, refl, sym, ap, ◌∙◌, subst}
use mathlib.Core.Bool.{Bool, true, false, cond, not, ◌&&◌, ◌||◌, true≢false}
use mathlib.Core.List.{List, [], ◌∷◌}
use mathlib.Core.Logic.{◌≢◌}
use native.Mathlib.Omega.{arith}
use lib.Dec.{eqb, ltb}
use lib.ListN.{length}
use Rattle.wire.proofs.Choice.{either, chosen}
use Rattle.settings.specs.declared.terms.Terms.{Terms}
use Rattle.place.specs.declared.Own.{Own}
use Rattle.table.proofs.Giving.{next_other}
use Rattle.reports.specs.Reports.{report}
use Rattle.reports.specs.declared.Report.{Report}
use Rattle.reports.specs.declared.Reports.{Reports}
use Rattle.exchange.specs.Exchange.{own_place}
use Rattle.exchange.specs.Note.{note_number}
use Rattle.exchange.specs.Judge.{rules_of, caused_by, box_behind}
use Rattle.exchange.specs.Request.{sending_by}
use Rattle.exchange.specs.Reports.{outbox_of, starts, awaits, reported, caused, is_over, oldest_starts, freed, freed_in}
use Rattle.exchange.specs.Rules.{Fours}
use Rattle.exchange.specs.Send.{sent_by, failed_by}
use Rattle.exchange.specs.Tick.{passed_of, got_no_reply, late_at, late_over}
use Rattle.exchange.specs.Reading.{own_reading}
use Rattle.exchange.specs.Numbers.{gets}
use Rattle.exchange.specs.History.{Call, block, tick, acknowledged as acked, failed, called}
use Rattle.exchange.specs.Reporting.{Turn, nobody, caller, reporter, Reporter, is_nobody, begins, waits_too, is_lost, counted, is_due, is_caused, oldest_of, ends, by_note, is_six, by_place, by_places, proves, reporter_sees, TurnIs, ReportsAre}
use Rattle.exchange.specs.declared.OwnReading.{OwnReading}
use Rattle.exchange.specs.declared.Note.{Note}
use Rattle.exchange.specs.declared.Note.TheVariants.{Kept, Misrouted, Duplicate, Stray, NoPlace, TooLong, Empty}
use Rattle.exchange.specs.declared.Sending.{Sending}
use Rattle.exchange.specs.declared.Sending.TheVariants as sending
use Rattle.exchange.specs.declared.Outbox.{Outbox}
use Rattle.exchange.specs.declared.Exchange.{Exchange}
use Rattle.exchange.proofs.Unreported.{not_over}
use Rattle.exchange.proofs.Causing.{BoxIs, none_counted, reported_starts, reported_waits, goes_on_lem, frees, none_starts, oldest_so, turn_taken, freed_is}
use Rattle.exchange.proofs.Boxes.{rules_spare, proven}
use Rattle.exchange.proofs.Reporting.{gets_six, headed_on, box_of, late_is}
use Rattle.exchange.proofs.Adding.{sent_down, failed_down}

-- ---- the causes

-- as many as the onlooker counts, at the equipment
abbrev pub Counts : Terms → ℕ → ℕ → ℕ → Type 0
Counts c n before after = after ≡ before + cond c.host 0 n

pub none_more : (t : Bool) (n : ℕ) → n ≡ n + cond t 0 0
none_more t n = either t (λ b. n ≡ n + cond b 0 0) (λ e. omega arith) (λ e. omega arith)

due_counts : (r : Report) (s : Reporter) → (is_due r s).causes ≡ s.causes + 1
unfolding is_due
due_counts r s =
    chosen (λ (u : Reporter). u.causes ≡ s.causes + 1) (is_nobody s.turn) (begins r s.waiting (counted s)) _ (λ e. refl)
    (λ e.
    chosen (λ (u : Reporter). u.causes ≡ s.causes + 1) (ltb (length s.waiting) 8) (waits_too r (counted s)) (is_lost (counted s)) (λ i. refl) (λ i. refl))

-- a place that gets verdict 6 now
abbrev pub six_at : (ℕ → Option OwnReading) → (ℕ → Option OwnReading) → ℕ → ℕ
six_at f g p = cond (gets is_six (f p) (g p)) 1 0

module _ (c : Terms) where
  caused_counts : (r : Report) (s : Reporter) → Counts c 1 s.causes (is_caused c r s).causes
  caused_counts r s =
      either c.host (λ t. (cond t s (is_due r s)).causes ≡ s.causes + cond t 0 1) (λ t. omega arith) (λ t. due_counts r s)

  pub note_counts : (n : ℕ) (h : List ℕ) (s : Reporter) → Counts c (cond (eqb n 22 || eqb n 26) 1 0) s.causes (by_note c n h s).causes
  note_counts n h s =
      either (eqb n 22)
      (λ t. Counts c (cond (t || eqb n 26) 1 0) s.causes (cond t (is_caused c (report 1 h) s) (cond (eqb n 26) (is_caused c (report 11 h) s) s)).causes)
      (λ t. caused_counts (report 1 h) s)
      (λ t.
      either (eqb n 26) (λ v. Counts c (cond v 1 0) s.causes (cond v (is_caused c (report 11 h) s) s).causes) (λ v. caused_counts (report 11 h) s)
      (λ v. none_more c.host s.causes))

  place_counts : (f g : ℕ → Option OwnReading) (p : ℕ) (s : Reporter) → Counts c (six_at f g p) s.causes (by_place c f g p s).causes
  place_counts f g p s =
      either (gets is_six (f p) (g p)) (λ t. Counts c (cond t 1 0) s.causes (cond t (is_caused c (report 9 (s.primaries p)) s) s).causes)
      (λ t. caused_counts (report 9 (s.primaries p)) s) (λ t. none_more c.host s.causes)

  -- one number behind the other
  both_counts : (a b s u v : ℕ) → Counts c a s u → Counts c b u v → Counts c (a + b) s v
  both_counts a b s u v e f =
      f ∙ ap (λ (k : ℕ). k + cond c.host 0 b) e
      ∙ either c.host (λ t. s + cond t 0 a + cond t 0 b ≡ s + cond t 0 (a + b)) (λ t. omega arith) (λ t. omega arith)

  pub places_count : (f g : ℕ → Option OwnReading) (s : Reporter) → Counts c (six_at f g 0 + six_at f g 1 + six_at f g 2 + six_at f g 3) s.causes (by_places c f g s).causes
  places_count f g s =
      let one = by_place c f g 0 s in
      let two = by_place c f g 1 one in
      let three = by_place c f g 2 two in
      both_counts (six_at f g 0 + six_at f g 1 + six_at f g 2) (six_at f g 3) s.causes three.causes _
      (both_counts (six_at f g 0 + six_at f g 1) (six_at f g 2) s.causes two.causes _
      (both_counts (six_at f g 0) (six_at f g 1) s.causes one.causes _ (place_counts f g 0 s) (place_counts f g 1 one)) (place_counts f g 2 two))
      (place_counts f g 3 three)

oldest_counts : (l : List Report) (s : Reporter) → (oldest_of l s).causes ≡ s.causes
oldest_counts [] s = refl
oldest_counts (r ∷ rest) s = refl

-- the end of a message is no cause
pub ends_counts : (t : Turn) (s : Reporter) → (ends t s).causes ≡ s.causes
ends_counts nobody s = refl
ends_counts caller s = oldest_counts s.waiting s
ends_counts reporter s = oldest_counts s.waiting s

-- ---- the starts

-- Since `z` was being sent, `last` being the last number given, and n reports had started: the same is being sent; or nothing is, and no number
-- was given; or a report that has started since, with another number. k have started then.
pub data Turned (z : Sending) (last n : ℕ) (b : Outbox) (k : ℕ) : Type 0 where
  still : b.last ≡ last → b.sending ≡ z → k ≡ n → Turned z last n b k
  over : b.last ≡ last → b.sending ≡ sending.Nothing → k ≡ n → Turned z last n b k
  begun : (f m : ℕ) → m ≢ last → b.sending ≡ sending.Report f m → k ≡ n + 1 → Turned z last n b k

module _ (own : List Own) (latest : ℕ) where
  -- a cause
  module _ (z : Sending) (last n : ℕ) where
    abbrev T : Outbox → ℕ → Type 0
    T = Turned z last n

    waits_turn : (b : Outbox) (r : Report) (k : ℕ) → T b k → T (awaits b r) k
    waits_turn b r k (still l e i) = still l e i
    waits_turn b r k (over l e i) = over l e i
    waits_turn b r k (begun f m d e i) = begun f m d e i

    -- the next number is another one
    given : (b : Outbox) (r : Report) (k : ℕ) → b.last ≡ last → k ≡ n → T (starts own latest b r) (k + 1)
    unfolding starts
    given b r k l i = begun r.function _ (λ q. next_other own b.last latest (q ∙ sym l)) refl (ap (λ (j : ℕ). j + 1) i)

    starts_turn : (b : Outbox) (r : Report) (k : ℕ) → sending_by b.sending ≡ false → T b k → T (starts own latest b r) (k + 1)
    starts_turn b r k idle (still l e i) = given b r k l i
    starts_turn b r k idle (over l e i) = given b r k l i
    starts_turn b r k idle (begun f m d e i) = absurd (true≢false (ap sending_by (sym e) ∙ idle))

    -- r is what the state keeps of it, q what the onlooker does
    due_turn : (b : Outbox) (s : Reporter) (r q : Report) → BoxIs b.sending b.reports s → T b s.starts
        → T (reported own latest b r) (is_due q s).starts
    unfolding is_due
    due_turn b s r q w v =
        either (is_nobody s.turn)
        (λ t.
        sending_by b.sending ≡ not t
        → T (reported own latest b r)
        (cond t (begins q s.waiting (counted s)) (cond (ltb (length s.waiting) 8) (waits_too q (counted s)) (is_lost (counted s)))).starts)
        (λ t e. subst (λ (a : Outbox). T a (s.starts + 1)) (sym (reported_starts own latest b r e)) (starts_turn b r s.starts e v))
        (λ t e.
        subst (λ (a : Outbox). T a (cond (ltb (length s.waiting) 8) (waits_too q (counted s)) (is_lost (counted s))).starts) (sym (reported_waits own latest b r e))
        (chosen (λ (u : Reporter). T (awaits b r) u.starts) (ltb (length s.waiting) 8) (waits_too q (counted s)) (is_lost (counted s))
        (λ i. waits_turn b r s.starts v) (λ i. waits_turn b r s.starts v)))
        (turn_taken b.sending s.turn s.underway b.reports.shown w.turn)

    pub caused_turn : (c : Terms) (b : Outbox) (s : Reporter) (r q : Report) → BoxIs b.sending b.reports s → T b s.starts
        → T (caused c own latest b r) (is_caused c q s).starts
    unfolding caused
    caused_turn c b s r q w v =
        either c.host (λ t. T (cond t b (reported own latest b r)) (cond t s (is_due q s)).starts) (λ t. v) (λ t. due_turn b s r q w v)

  -- the message z is over, or is not, where t is false
  module _ (z : Sending) (b : Outbox) (s : Reporter) (w : BoxIs z b.reports s) where
    abbrev From : Outbox → ℕ → Type 0
    From = Turned z b.last s.starts

    oldest_turn : b.sending ≡ sending.Nothing → (l : List Report) → s.waiting ≡ l → From (oldest_starts own latest b) (oldest_of l s).starts
    oldest_turn free [] e =
        subst (λ (a : Outbox). From a s.starts) (sym (none_starts own latest b (none_counted b.reports w.sound (w.waiting ∙ e)))) (over refl free refl)
    oldest_turn free (r ∷ rest) e =
        let a = oldest_so own latest b w.sound r rest (w.waiting ∙ e) in
        begun r.function _ (λ q. next_other own b.last latest (sym a.number ∙ q)) a.sending refl

    busy_turn : (t : Turn) → b.sending ≡ sending.Nothing → sending_by z ≡ true → s.turn ≡ t → ends t s ≡ oldest_of s.waiting s
        → From (freed z own latest b) (ends s.turn s).starts
    unfolding is_over
    busy_turn t free busy e same =
        subst (λ (a : Outbox). From a (ends s.turn s).starts)
        (sym (frees own latest b z (ap (λ (y : Sending). sending_by z && not (sending_by y)) free ∙ rw busy)))
        (subst (λ (u : Reporter). From (oldest_starts own latest b) u.starts) (sym (ap (λ (v : Turn). ends v s) e ∙ same)) (oldest_turn free s.waiting refl))

    over_turn : b.sending ≡ sending.Nothing → (y : Sending) → z ≡ y → TurnIs y s.turn s.underway b.reports.shown
        → From (freed z own latest b) (ends s.turn s).starts
    unfolding is_over
    over_turn free sending.Nothing e t =
        subst (λ (a : Outbox). From a (ends s.turn s).starts) (sym (goes_on_lem own latest b z (ap (λ (y : Sending). sending_by y && not (sending_by b.sending)) e)))
        (over refl free (ap (λ (v : Turn). (ends v s).starts) t))
    over_turn free (sending.Primary p n) e t = busy_turn caller free (ap sending_by e) t refl
    over_turn free (sending.Reply p f n) e t = busy_turn caller free (ap sending_by e) t refl
    over_turn free (sending.Report f n) e t = busy_turn reporter free (ap sending_by e) t.0 refl

    pub freed_turn : (t : Bool) → b.sending ≡ cond t sending.Nothing z → From (freed z own latest b) (cond t (ends s.turn s) s).starts
    freed_turn true e = over_turn e z refl w.turn
    freed_turn false e =
        subst (λ (a : Outbox). From a s.starts) (sym (goes_on_lem own latest b z (ap (is_over z) e ∙ not_over z))) (still refl e refl)

-- ---- one call

-- by its note
noted_turn : (c : Terms) (y : Exchange) (h : List ℕ) (b : Outbox) (s : Reporter) (n : Note) (z : Sending) (last k : ℕ) → BoxIs b.sending b.reports s
    → Turned z last k b s.starts → Turned z last k (caused_by n c y h b) (by_note c (note_number n) h s).starts
noted_turn c y h b s Kept z last k w v = v
noted_turn c y h b s Misrouted z last k w v = caused_turn y.own y.numbers.latest z last k c b s (report 1 h) (report 1 h) w v
noted_turn c y h b s Duplicate z last k w v = v
noted_turn c y h b s Stray z last k w v = v
noted_turn c y h b s NoPlace z last k w v = v
noted_turn c y h b s TooLong z last k w v = caused_turn y.own y.numbers.latest z last k c b s (report 11 h) (report 11 h) w v
noted_turn c y h b s Empty z last k w v = v

-- by one place
late_turn : (c : Terms) (x y : Exchange) (latest p : ℕ) (b : Outbox) (s : Reporter) (z : Sending) (last k : ℕ) → BoxIs b.sending b.reports s
    → Turned z last k b s.starts
    → Turned z last k (late_at c x.own y.own latest p b) (by_place c (own_reading x) (own_reading y) p s).starts
unfolding late_at own_reading
late_turn c x y latest p b s z last k w v =
    rw (gets_six (own_place x p) (own_place y p))
    (either (got_no_reply (own_place x p) (own_place y p))
    (λ t. Turned z last k (cond t (caused c y.own latest b (report 9 (own_place y p).header)) b) (cond t (is_caused c (report 9 (s.primaries p)) s) s).starts)
    (λ t. caused_turn y.own latest z last k c b s (report 9 (own_place y p).header) (report 9 (s.primaries p)) w v) (λ t. v))

module _ (c : Terms) (x : Exchange) (room : List ℕ) (four : Fours x) (s : Reporter) (w : ReportsAre x s) where
  -- from before the call
  abbrev pub TurnsBy : Call → Type 0
  TurnsBy k = Turned x.sending x.numbers.last s.starts (outbox_of (called c x room k).exchange) (reporter_sees c x room s k).starts

  -- what is left before the line is freed
  box_at : (y : Exchange) → y.reports ≡ x.reports → BoxIs x.sending (outbox_of y).reports s
  box_at y same = subst (λ (r : Reports). BoxIs x.sending r s) (sym same) (box_of x s w)

  pub block_turns : (h d : List ℕ) → TurnsBy (block h d)
  unfolding box_behind freed_in
  block_turns h d =
      let j = (rules_of c x h d room).answer in
      let y = j.exchange in
      let t = proves x h (note_number j.note) in
      let spare = rules_spare c x h d room in
      let box = box_at y spare.1 in
      subst (λ (last : ℕ). Turned x.sending last s.starts (outbox_of (called c x room (block h d)).exchange) (reporter_sees c x room s (block h d)).starts) spare.0
      (noted_turn c y h (freed_in x.sending y) (cond t (ends s.turn s) s) j.note x.sending y.numbers.last s.starts
      (freed_is y.own y.numbers.latest (outbox_of y) s x.sending box t (proven c x h d room))
      (freed_turn y.own y.numbers.latest x.sending (outbox_of y) s box t (proven c x h d room)))

  -- the end of a send, y being what is left of it
  ended_turns : (y : Exchange) → (y.numbers.last ≡ x.numbers.last) × (y.sending ≡ sending.Nothing) × (y.reports ≡ x.reports)
      → Turned x.sending x.numbers.last s.starts (freed_in x.sending y) (ends s.turn s).starts
  unfolding freed_in freed
  ended_turns y d =
      subst (λ (last : ℕ). Turned x.sending last s.starts (freed_in x.sending y) (ends s.turn s).starts) d.0
      (freed_turn y.own y.numbers.latest x.sending (outbox_of y) s (box_at y d.2) true d.1)

  pub acked_turns : TurnsBy acked
  acked_turns = ended_turns (sent_by x.sending x).exchange (sent_down x x.sending refl)

  pub failed_turns : TurnsBy failed
  failed_turns = ended_turns (failed_by x.sending x).exchange (failed_down x x.sending refl)

  -- a tick, also behind a send that failed
  pub tick_turns : (z : Sending) (last n : ℕ) → Turned z last n (outbox_of x) s.starts
      → Turned z last n (outbox_of (called c x room tick).exchange) (reporter_sees c x room s tick).starts
  unfolding passed_of late_over
  tick_turns z last n v =
      let y = (called c x room tick).exchange in
      let headed = headed_on c x room four tick s.primaries (λ p. refl) w.primaries in
      let box = late_is c x y s.primaries headed y.numbers.latest in
      let first = box_of x s w in
      let less : (0 < 4) × (1 < 4) × (2 < 4) = (omega arith, omega arith, omega arith) in
      let zero = box 0 less.0 (outbox_of (passed_of c x).exchange) s (first, refl) in
      let one = box 1 less.1 _ _ zero in
      let two = box 2 less.2 _ _ one in
      late_turn c x y y.numbers.latest 3 _ _ z last n two.0
      (late_turn c x y y.numbers.latest 2 _ _ z last n one.0
      (late_turn c x y y.numbers.latest 1 _ _ z last n zero.0
      (late_turn c x y y.numbers.latest 0 (outbox_of (passed_of c x).exchange) s z last n first v)))
