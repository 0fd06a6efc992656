-- A call on a unit whose numbers are in their ranges goes through, and says what its course puts out. Assumes nothing.
use Rattle.std.specs.Prelude.{Some, None, Result, Ok}
use Prim.Native.Nat.{ℕ, zero, suc, ◌+◌, ◌≤◌, ◌<◌}
use mathlib.Core.Path.{◌≡◌, refl, sym, ap, ◌∙◌}
use mathlib.Core.Bool.{Bool, true, false, cond}
use mathlib.Core.List.{List, []}
use native.Mathlib.Omega.{arith}
use native.Mathlib.Numerals.{add-one}
use lib.ListN.{length}
use lib.Seq.{take-append_seam}
use borrow.Author.Tests.{le-leb, le-ltb, eq-eqb}
use Rattle.cut.specs.Blocks.{most_blocks}
use Rattle.wire.specs.Lent.{on_front}
use Rattle.settings.specs.Panel.{between}
use Rattle.settings.specs.Timer.{ticked as ticked'}
use Rattle.settings.specs.declared.panel.Ticks.{Ticks}
use Rattle.settings.specs.declared.terms.Terms.{Terms}
use Rattle.settings.specs.declared.limits.Limits.{Limits}
use Rattle.line.specs.Line.{line_at, goes, stays, eot_tick, ack_tick, length_tick, body_tick, Heard, heard, byte_of, tick_of as line_tick, settle_idle, settle_of}
use Rattle.line.specs.Range.{wait_in_range, arrival_in_range, body_in_range, phase_in_range}
use Rattle.line.specs.declared.line.Line.{Line}
use Rattle.line.specs.declared.phase.Arrival.{Arrival}
use Rattle.line.specs.declared.phase.Phase.{Phase}
use Rattle.line.specs.declared.phase.Phase.TheVariants.{Idle, WaitEot, Draining, WaitAck, WaitLength, Body}
use Rattle.line.specs.declared.step.Out.{Out}
use Rattle.line.specs.declared.step.Out.TheVariants.{Nothing}
use Rattle.line.specs.declared.step.Told.{Told}
use Rattle.line.specs.declared.step.Told.TheVariants as told
use Rattle.line.specs.declared.step.Step.{Step}
use Rattle.exchange.specs.Tick.{tick_of}
use Rattle.exchange.specs.Range.{exchange_in_range}
use Rattle.exchange.specs.Request.{sending_by}
use Rattle.exchange.specs.Assembly.{passes}
use Rattle.exchange.proofs.Same.{message_same}
use Rattle.exchange.specs.declared.Sending.{Sending}
use Rattle.exchange.specs.declared.Exchange.{Exchange}
use Rattle.link.specs.Setup.{settings_in_range}
use Rattle.link.specs.State.{with_line, link_in_range, output_short, room_fits, gate_of}
use Rattle.link.specs.Courier.{carried, goes_on, courier_by, courier_of}
use Rattle.link.specs.Run.{Left, leaves, untold, carried_by, codes, closed, course, ticked, stepped, byte_stepped, tick_step, drained_step}
use Rattle.link.specs.Call.{through, gated}
use Rattle.link.specs.SameMessage.{End, end_of, Said, noting, noted, said_by, behind, hears, ticks, drains, waits, hears_late, drains_late}
use Rattle.link.specs.declared.Carried.{Carried}
use Rattle.link.specs.declared.Midway.{Midway}
use Rattle.link.specs.declared.Outcome.{Outcome}
use Rattle.link.specs.declared.Outcome.TheVariants.{Done}
use Rattle.link.specs.declared.Note.TheVariants as note
use Rattle.link.specs.declared.Settings.{Settings}
use Rattle.link.specs.declared.Link.{Link}
use Rattle.link.specs.declared.Refusal.{Refusal}

-- ---- what a call says

-- a call that notes nothing
abbrev pub said : End → List ℕ → Said
said e bs = noting e bs []

-- the bytes at the front of the output are those that leave
pub leaving_said : (bs : List ℕ) (u : Link) (k : Outcome) (m : Midway) (room o : List ℕ)
    → said_by (leaves bs u k m room o) ≡ noting (end_of u room) bs (noted m.note)
unfolding on_front
leaving_said bs u k m room o = ap (λ (xs : List ℕ). noting (end_of u room) xs (noted m.note)) (take-append_seam bs _)

-- a course, by what the courier carries
pub course_said : (u : Link) (p : Out) (t : Told) (m : Midway) (k : Outcome) (room o : List ℕ) (c : Carried)
    → carried_by u t m.exchange room ≡ c
    → said_by (course u p t m k room o) ≡ noting (end_of (closed u c m.exchange) room) (codes p (settle_of c.line).out) (noted m.note)
course_said u p t m k room o c e =
    leaving_said _ _ k m room o
    ∙ ap (λ (z : Carried). noting (end_of (closed u z m.exchange) room) (codes p (settle_of z.line).out) (noted m.note)) e

-- where no other message is being sent than before, and what was told is no acknowledgement, the courier leaves all as it is
pub courier_rests : (before after : Sending) (t : Told) (l : Line) (k : ℕ) (room : List ℕ) → after ≡ before → goes_on t l k ≡ carried l k
    → courier_of before after t l k room ≡ carried l k
courier_rests before after t l k room same e =
    ap (λ (z : Sending). courier_of before z t l k room) same
    ∙ ap (λ (b : Bool). courier_by b (sending_by before) (sending_by before) t l k) (message_same before before refl) ∙ by (sending_by before)
  where
    by : (b : Bool) → courier_by true b b t l k ≡ carried l k
    by true = e
    by false = refl

-- ---- a call that goes through

-- a unit from its parts; nothing is held
abbrev pub unit : Settings → Phase → List ℕ → Exchange → ℕ → Link
unit s p rs x k = record { settings = s; line = line_at false p; received = rs; exchange = x; block = k }

-- one that 1, 2 and 3 do not refuse
pub opens : (u : Link) (room o : List ℕ) → length room ≡ 36864 → 257 ≤ length o → link_in_range u ≡ true → gate_of u (length room) (length o) ≡ Ok tt
unfolding gate_of output_short room_fits
opens u room o whole long ranged = simp (le-ltb (length o) 257 long, eq-eqb (length room) 36864 whole, ranged)

-- its numbers are in their ranges but for the line's, and the room is as large as it must be
pub record Sound (s : Settings) (x : Exchange) (k : ℕ) (room : List ℕ) : Type 0 where
  pub settings : settings_in_range s ≡ true
  pub exchange : exchange_in_range x ≡ true
  pub least : 1 ≤ k
  pub most : k ≤ most_blocks
  pub whole : length room ≡ 36864
  -- and so are the line's timers, as long as none has run out
  pub t1 : s.limits.t1.0 ≤ 100
  pub t2 : s.limits.t2.0 ≤ 250

module _ (s : Settings) (x : Exchange) (k : ℕ) (room o : List ℕ) (long : 257 ≤ length o) (g : Sound s x k room) where
  open_gate : (p : Phase) (rs : List ℕ) → phase_in_range p ≡ true → gate_of (unit s p rs x k) (length room) (length o) ≡ Ok tt
  unfolding link_in_range between
  open_gate p rs e =
      opens (unit s p rs x k) room o g.whole long (simp (le-leb 1 k g.least, le-leb k most_blocks g.most, g.settings, g.exchange, e))

  pub goes_through : (p : Phase) (rs : List ℕ) (l : Left) → phase_in_range p ≡ true → gated (unit s p rs x k) room o l ≡ l
  goes_through p rs l e = ap (λ (g : Result Unit Refusal). through g (unit s p rs x k) room o l) (open_gate p rs e)

  -- a byte, by what the line makes of it
  pub says : (p : Phase) (rs : List ℕ) (b : ℕ) (h : Heard) → phase_in_range p ≡ true → byte_of s.limits (line_at false p) b rs ≡ h
      → hears o (end_of (unit s p rs x k) room) b ≡ said_by (byte_stepped (unit s p rs x k) h room o)
  says p rs b h e w =
      ap said_by (goes_through p rs _ e) ∙ ap (λ (z : Heard). said_by (byte_stepped (unit s p rs x k) z room o)) w

  pub drains_as : (p : Phase) (rs : List ℕ) → phase_in_range p ≡ true
      → drains o (end_of (unit s p rs x k) room) ≡ said_by (stepped false (unit s p rs x k) (drained_step (unit s p rs x k)) room o)
  drains_as p rs e = ap said_by (goes_through p rs _ e)

  pub ticks_as : (p : Phase) (rs : List ℕ) → phase_in_range p ≡ true
      → ticks o (end_of (unit s p rs x k) room) ≡ said_by (stepped true (unit s p rs x k) (tick_step (unit s p rs x k)) room o)
  ticks_as p rs e = ap said_by (goes_through p rs _ e)

-- a step of the line that tells nothing, to a phase in which no held block is started: the unit is at that phase
pub quiet_said : (s : Settings) (x : Exchange) (k : ℕ) (room o : List ℕ) (p q : Phase) (c : Out) (rs ss : List ℕ)
    → settle_of (line_at false q) ≡ stays (line_at false q)
    → said_by (stepped false (unit s p rs x k) (heard (goes (line_at false p) q c) ss) room o) ≡ said (end_of (unit s q ss x k) room) (codes c Nothing)
quiet_said s x k room o p q c rs ss e =
    course_said (unit s q ss x k) c told.Nothing (untold x note.Nothing) Done room o (carried (line_at false q) k)
    (courier_rests x.sending x.sending told.Nothing (line_at false q) k room refl refl)
    ∙ ap (λ (z : Step). said (end_of (with_line (unit s q ss x k) z.line) room) (codes c z.out)) e

-- ---- ticks

-- in n ticks no other message is being sent than before: none of them lets a report start
abbrev pub Still : Terms → Exchange → ℕ → Type 0
Still c x n = (i : ℕ) → i ≤ n → (passes c x i).sending ≡ x.sending

-- Phases at which n ticks do no more than count: from the first to the last of them no timer runs out.
pub record Counts (c : Limits) (phase : ℕ → Phase) (n : ℕ) : Type 0 where
  pub ranged : (i : ℕ) → i ≤ n → phase_in_range (phase i) ≡ true
  pub counted : (i : ℕ) → i < n → line_tick c (line_at false (phase i)) ≡ goes (line_at false (phase i)) (phase (suc i)) Nothing
  pub rests : (i : ℕ) → settle_of (line_at false (phase i)) ≡ stays (line_at false (phase i))

module _ (s : Settings) (x : Exchange) (k : ℕ) (room o : List ℕ) (long : 257 ≤ length o)
    (g : (n : ℕ) → Sound s (passes s.terms x n) k room) where
  -- this end at a phase, with these bytes received, m ticks on
  abbrev pub at : Phase → List ℕ → ℕ → End
  at p rs m = end_of (unit s p rs (passes s.terms x m) k) room

  module _ (phase : ℕ → Phase) (rs : List ℕ) where
    -- they put out and note nothing
    tick_said : (m n : ℕ) → Counts s.limits phase (suc n) → Still s.terms x (suc m) → ticks o (at (phase n) rs m) ≡ said (at (phase (suc n)) rs (suc m)) []
    unfolding passes
    tick_said m n c still =
        let y : Exchange = passes s.terms x m in
        let q : Phase = phase (suc n) in
        let after : Midway = ticked (untold y note.Nothing) (tick_of s.terms y) in
        ticks_as s y k room o long (g m) (phase n) rs (c.ranged n (omega arith))
        ∙ ap (λ (z : Step). said_by (stepped true (unit s (phase n) rs y k) (heard z rs) room o)) (c.counted n (omega arith))
        ∙ course_said (unit s q rs y k) Nothing told.Nothing after Done room o (carried (line_at false q) k)
        (courier_rests y.sending after.exchange.sending told.Nothing (line_at false q) k room
        (still (suc m) (omega arith) ∙ sym (still m (omega arith))) refl)
        ∙ ap (λ (z : Step). said (end_of (with_line (unit s q rs after.exchange k) z.line) room) (codes Nothing z.out)) (c.rests (suc n))

    fewer : (n : ℕ) → Counts s.limits phase (suc n) → Counts s.limits phase n
    fewer n c = record { ranged = λ i l. c.ranged i (omega arith); counted = λ i l. c.counted i (omega arith); rests = c.rests }

    pub waits_said : (m n : ℕ) → Counts s.limits phase n → Still s.terms x (m + n) → waits o (at (phase 0) rs m) n ≡ said (at (phase n) rs (m + n)) []
    unfolding waits
    waits_said m zero c still = let e : m ≡ m + 0 = omega arith in ap (λ (t : ℕ). said (at (phase 0) rs t) []) e
    waits_said m (suc n) c still =
        let e : suc (m + n) ≡ m + suc n = omega arith in
        ap (λ (z : Said). behind z (ticks o z.end)) (waits_said m n (fewer n c) (λ i l. still i (omega arith)))
        ∙ tick_said (m + n) n c (λ i l. still i (omega arith))
        ∙ ap (λ (t : ℕ). said (at (phase (suc n)) rs t) []) e

    -- so what comes behind them comes to this end n ticks on
    pub heard_late : (m n b : ℕ) → Counts s.limits phase n → Still s.terms x (m + n)
        → hears_late o n (at (phase 0) rs m) b ≡ hears o (at (phase n) rs (m + n)) b
    heard_late m n b c still = ap (λ (z : Said). behind z (hears o z.end b)) (waits_said m n c still)

    pub drained_late : (m n : ℕ) → Counts s.limits phase n → Still s.terms x (m + n)
        → drains_late o n (at (phase 0) rs m) ≡ drains o (at (phase n) rs (m + n))
    drained_late m n c still = ap (λ (z : Said). behind z (drains o z.end)) (waits_said m n c still)

-- ---- at each phase

-- a timer that does not run out
runs : (limit : Ticks) (timer : ℕ) → timer + 1 ≤ limit.0 → ticked' limit timer ≡ Some (suc timer)
unfolding ticked'
runs limit timer less = ap (λ (t : Bool). cond t None (Some (timer + 1))) (le-ltb limit.0 (timer + 1) less) ∙ ap Some (add-one timer)

module _ (c : Limits) (n : ℕ) where
  pub idle_counts : Counts c (λ i. Idle) n
  unfolding settle_idle
  idle_counts = record { ranged = λ i l. refl; counted = λ i l. refl; rests = λ i. refl }

  pub draining_counts : Counts c (λ i. Draining 0) n
  draining_counts = record { ranged = λ i l. refl; counted = λ i l. refl; rests = λ i. refl }

  module _ (most : c.t2.0 ≤ 250) (fits : n ≤ c.t2.0) where
    pub eot_counts : Counts c (λ i. WaitEot i 0) n
    unfolding wait_in_range
    eot_counts = record {
      ranged = λ i l. simp (le-leb i 250 (omega arith));
      counted = λ i l. ap (eot_tick c (line_at false (WaitEot i 0)) 0) (runs c.t2 i (omega arith));
      rests = λ i. refl;
    }

    pub ack_counts : Counts c (λ i. WaitAck i 0) n
    unfolding wait_in_range
    ack_counts = record {
      ranged = λ i l. simp (le-leb i 250 (omega arith));
      counted = λ i l. ap (ack_tick c (line_at false (WaitAck i 0)) 0) (runs c.t2 i (omega arith));
      rests = λ i. refl;
    }

    pub length_counts : Counts c (λ i. WaitLength i) n
    length_counts = record {
      ranged = λ i l. simp (le-leb i 250 (omega arith));
      counted = λ i l. ap (length_tick (line_at false (WaitLength i))) (runs c.t2 i (omega arith));
      rests = λ i. refl;
    }

  pub body_counts : (a : Arrival) → arrival_in_range a ≡ true → c.t1.0 ≤ 100 → n ≤ c.t1.0 → Counts c (λ i. Body i a) n
  unfolding body_in_range
  body_counts a e most fits = record {
    ranged = λ i l. simp (le-leb i 100 (omega arith), e);
    counted = λ i l. ap (body_tick (line_at false (Body i a)) a) (runs c.t1 i (omega arith));
    rests = λ i. refl;
  }
