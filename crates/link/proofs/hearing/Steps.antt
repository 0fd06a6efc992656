-- What a line puts out at each phase, by the calls that a call of the unit makes on it, and whether it is busy then (`specs/Hearing.antt`).
-- Assumes nothing.
use Prim.Native.Nat.{ℕ, ◌+◌, ◌≤◌, ◌<◌}
use mathlib.Core.Path.{◌≡◌, refl, sym, ap, subst, ◌∙◌}
use mathlib.Core.Bool.{Bool, true, false}
use mathlib.Core.List.{List, [], ◌∷◌, ◌++◌}
use mathlib.Core.Logic.{◌⊎◌, inl, inr}
use native.Mathlib.Omega.{arith}
use lib.ListN.{length}
use Rattle.settings.specs.declared.limits.Limits.{Limits}
use Rattle.line.specs.Codes.{ENQ, EOT, ACK, NAK, bytes_out}
use Rattle.line.specs.Line.{heard, line_at, under_way, busy, byte_of, tick_of, holding, settle_idle, rises, naks}
use Rattle.line.specs.History as line
use Rattle.line.specs.History.{ours_at, theirs_at, Seen, leaves, track}
use Rattle.line.specs.Theorems.{Counts, patience, IsBlock}
use Rattle.line.specs.Rules.{says, says_told, Retries}
use Rattle.line.proofs.Invariant.{At, Holds, after_refused}
use Rattle.line.proofs.Cases.{ByByte, by_byte}
use Rattle.line.proofs.Rules.{line_rules}
use Rattle.line.specs.declared.phase.Phase.{Phase}
use Rattle.line.specs.declared.phase.Phase.TheVariants.{Idle, WaitEot, Draining, WaitAck, WaitLength, Body, Silence}
use Rattle.line.specs.declared.step.Step.{Step}
use Rattle.line.specs.declared.step.Out.TheVariants as out
use Rattle.line.specs.declared.step.Told.{Told}
use Rattle.line.specs.declared.step.Told.TheVariants as told
use Rattle.line.specs.declared.step.Remark.{Remark}
use Rattle.line.specs.declared.step.Remark.TheVariants as remark
use Rattle.link.specs.History.{settling, settles}
use Rattle.link.specs.Door.{line_bytes, SendTimer, starts_enq, followed}
use Rattle.link.specs.Hearing.{Receiving, ByteGets, Waiting, TickGets, MessageGets}
use Rattle.link.proofs.inside.Courier.{clash}
use Rattle.link.proofs.door.Courier.{Fate, going, begun, ended, called_for, OnMay, May}
use Rattle.link.proofs.door.OneCall.{Calm}

-- where it listens to the far end, its timer is at the ticks since the last byte, and its limit is the far end's
abbrev pub Heeds : Limits → Phase → List ℕ → ℕ → Type 0
Heeds c Idle came silent = Unit {0}
Heeds c (WaitEot timer tries) came silent = Unit {0}
Heeds c (Draining tries) came silent = Unit {0}
Heeds c (WaitAck timer tries) came silent = Unit {0}
Heeds c (WaitLength timer) came silent = (silent ≡ timer) × (patience c came ≡ c.t2.0)
Heeds c (Body timer a) came silent = (silent ≡ timer) × (patience c came ≡ c.t1.0)
Heeds c (Silence timer fault) came silent = (silent ≡ timer) × (patience c came ≡ c.t1.0)

pub heeds : (c : Limits) (p : Phase) (w e r q : ℕ) (rs bs : List ℕ) → At c p w e r (length bs) q → Holds p rs bs → Heeds c p bs q
heeds c Idle w e r q rs bs g x = tt
heeds c (WaitEot timer tries) w e r q rs bs g x = tt
heeds c (Draining tries) w e r q rs bs g x = tt
heeds c (WaitAck timer tries) w e r q rs bs g x = tt
heeds c (WaitLength timer) w e r q rs bs g x = (g.3, ap (patience c) x)
heeds c (Body timer a) w e r q rs bs g x = (g.3, ap (patience c) x.came)
heeds c (Silence timer fault) w e r q rs bs g x = (g.3, after_refused c bs fault x)

abbrev is_up : Told → Bool
is_up told.Nothing = false
is_up told.PutOut = false
is_up told.Sent = false
is_up told.Failed = false
is_up (told.Up n) = true

-- ---- what becomes of what is being sent

-- where nothing is told it goes on, or a report begins, and it does not end
pub on_fate : (P : Fate → Type 0) (before : Bool) → P going → P begun → (f : Fate) → OnMay before f → P f
on_fate P before on new going m = on
on_fate P before on new begun m = new
on_fate P before on new ended m = absurd m

-- where one was being sent it goes on
goes_on_lem : (f : Fate) → OnMay true f → f ≡ going
goes_on_lem f m = on_fate (λ v. OnMay true v → v ≡ going) true (λ i. refl) (λ i. clash (sym i)) f m m

module _ (c : Limits) (block : List ℕ) (s : Seen) where
  -- what the rest of a call puts out behind step z, and whether the line is busy then
  abbrev bytes_behind : Step → List ℕ → List line.Call → List ℕ
  bytes_behind z rs ks = bytes_out block z.out ++ line_bytes c z.line rs block ks

  abbrev busy_behind : line.Call → Step → List ℕ → List line.Call → Bool
  busy_behind k z rs ks = busy (track c (leaves s k (heard z rs)) ks).line

  -- A step that leaves the line idle: the ENQ of what is to be sent leaves behind it, the held block's, the message's next one's, or that of a
  -- report that starts (02, request 2); nothing, if nothing is to be sent.
  abbrev EnqIfBusy : line.Call → List ℕ → Step → List line.Call → Type 0
  EnqIfBusy k rs z ks = bytes_behind z rs ks ≡ starts_enq (busy_behind k z rs ks)

  held_enq : (k : line.Call) (t : Told) (h : Bool) (rs : List ℕ) → EnqIfBusy k rs (says_told h Idle out.Nothing t) (line.settle ∷ [])
  unfolding settle_idle track line_bytes
  held_enq k t true rs = refl
  held_enq k t false rs = refl

  pub idle_enq : (k : line.Call) (t : Told) (f : Fate) (h : Bool) (rs : List ℕ) → EnqIfBusy k rs (says_told h Idle out.Nothing t) (settling (called_for f t))
  unfolding settle_idle holding track line_bytes
  idle_enq k told.Nothing going h rs = held_enq k told.Nothing h rs
  idle_enq k told.PutOut going h rs = held_enq k told.PutOut h rs
  idle_enq k told.Sent going h rs = refl
  idle_enq k told.Failed going h rs = held_enq k told.Failed h rs
  idle_enq k (told.Up n) going h rs = held_enq k (told.Up n) h rs
  idle_enq k t begun h rs = refl
  idle_enq k t ended h rs = refl

  -- ---- a byte

  -- ACK leaves where a block goes up, and behind it a held block's ENQ, if its message is sent on, or a report's
  ack_leaves : (b : ℕ) (fits : b < 256) (h : Bool) (p : Phase) (n : ℕ) (rs : List ℕ) (f : Fate)
      → (let z = rises (line_at h p) n in
      let ks = settles z.out (called_for f z.told) in
      bytes_behind z rs ks ≡ followed ACK (busy_behind (line.byte b fits) z rs ks))
  unfolding settle_idle holding track line_bytes
  ack_leaves b fits true p n rs going = refl
  ack_leaves b fits false p n rs going = refl
  ack_leaves b fits h p n rs begun = refl
  ack_leaves b fits true p n rs ended = refl
  ack_leaves b fits false p n rs ended = refl

  module _ (b : ℕ) (fits : b < 256) (f : Fate) where
    abbrev rest_of : Step → List line.Call
    rest_of z = settles z.out (called_for f z.told)

    -- a byte of which nothing is told has no part in what is being sent
    abbrev Quiet : Step → Type 0
    Quiet z = z.told ≡ told.Nothing → f ≡ going

    -- while a block is coming in, a byte is answered only where that goes up
    abbrev Ends : Step → Type 0
    Ends z =
        (rs : List ℕ) → Quiet z
        → ((z.told ≡ told.Nothing) × (bytes_behind z rs (rest_of z) ≡ []))
        ⊎ ((n : ℕ) × (z.told ≡ told.Up n) × (bytes_behind z rs (rest_of z) ≡ followed ACK (busy_behind (line.byte b fits) z rs (rest_of z))))

    rises_ends : (h : Bool) (p : Phase) (n : ℕ) → Ends (rises (line_at h p) n)
    rises_ends h p n rs q = inr (n, refl, ack_leaves b fits h p n rs f)

    ends : (h : Bool) (p : Phase) → theirs_at p ≡ true → ByByte Ends c h p b
    unfolding track line_bytes
    ends h Idle t = clash t
    ends h (WaitEot timer tries) t = clash t
    ends h (Draining tries) t = clash t
    ends h (WaitAck timer tries) t = clash t
    ends h (WaitLength timer) t = (λ rs q. rw (q refl) (inl (refl, refl)), λ rs q. rw (q refl) (inl (refl, refl)))
    ends h (Body timer a) t =
        (λ x rs q. rw (q refl) (inl (refl, refl)), rises_ends h (Body timer a) a.length, λ x rs q. rw (q refl) (inl (refl, refl)))
    ends h (Silence timer fault) t = λ rs q. rw (q refl) (inl (refl, refl))

    -- these bytes leave, and the line is as busy as this
    abbrev Leaves : List ℕ → List ℕ → Bool → Step → Type 0
    Leaves rs bs sending z = (bytes_behind z rs (rest_of z) ≡ bs) × (busy_behind (line.byte b fits) z rs (rest_of z) ≡ sending)

    module _ (h : Bool) (rs : List ℕ) where
      abbrev made : Phase → Step
      made p = (byte_of c (line_at h p) b rs).step

      abbrev calls : Phase → List line.Call
      calls p = line.byte b fits ∷ rest_of (made p)

      abbrev puts : Phase → List ℕ
      puts p = line_bytes c (line_at h p) rs block (calls p)

      abbrev still_busy : Phase → Bool
      still_busy p = busy (track c (record { line = line_at h p; received = rs; seen = s }) (calls p)).line

      -- what is known of a block that came whole
      abbrev pub Rises : List ℕ → Phase → Type 0
      Rises came p =
          (theirs_at p ≡ true → (n : ℕ) (body : List ℕ) → IsBlock n body (came ++ (b ∷ [])) → (made p).told ≡ told.Up n)
          × ((n : ℕ) → (made p).told ≡ told.Up n → (body : List ℕ) × IsBlock n body (came ++ (b ∷ [])))

      received : (came : List ℕ) (p : Phase) → theirs_at p ≡ true → Quiet (made p) → Rises came p → Receiving came b (puts p) (still_busy p)
      unfolding track line_bytes
      received came p t quiet known =
          either' (by_byte Ends c h p b rs (ends h p t) (byte_of c (line_at h p) b rs).received quiet)
        where
          either' :
              (((made p).told ≡ told.Nothing) × (puts p ≡ []))
              ⊎ ((n : ℕ) × ((made p).told ≡ told.Up n) × (puts p ≡ followed ACK (still_busy p)))
              → Receiving came b (puts p) (still_busy p)
          either' (inl w) = record { whole = λ n body k. let e = known.0 t n body k in clash (ap is_up (sym w.0 ∙ e)); other = λ no. w.1 }
          either' (inr w) = record { whole = λ n body k. w.2; other = λ no. let k = known.1 w.0 w.1 in absurd (no w.0 k.0 k.1) }

      -- where it makes this step, of which nothing is told
      by_step : (p : Phase) (bs : List ℕ) (sending : Bool) (z : Step) → Quiet (made p) → made p ≡ z → z.told ≡ told.Nothing
          → (f ≡ going → Leaves (byte_of c (line_at h p) b rs).received bs sending z) → (puts p ≡ bs) × (still_busy p ≡ sending)
      unfolding track line_bytes
      by_step p bs sending z quiet e none w =
          subst (Leaves (byte_of c (line_at h p) b rs).received bs sending) (sym e) (w (quiet (ap (λ (v : Step). v.told) e ∙ none)))

      -- or it is idle then, whatever is told
      pub by_idle : (p : Phase) (t : Told) → made p ≡ says_told h Idle out.Nothing t → puts p ≡ starts_enq (still_busy p)
      unfolding track line_bytes
      by_idle p t e =
          let got = (byte_of c (line_at h p) b rs).received in
          subst (λ (z : Step). EnqIfBusy (line.byte b fits) got z (rest_of z)) (sym e) (idle_enq (line.byte b fits) t f h got)

      pub byte_gets : (enqs : ℕ) (came : List ℕ) (p : Phase) → Calm p h → Counts p enqs → Rises came p → Quiet (made p)
          → ByteGets c (ours_at p) (theirs_at p) enqs came b (puts p) (still_busy p)
      unfolding settle_idle track line_bytes
      byte_gets enqs came Idle d n k quiet =
          let rules = line_rules.idle c rs h in
          record {
            enq = λ e. (by_step Idle (EOT ∷ []) h _ quiet (ap (λ x. (byte_of c (line_at h Idle) x rs).step) e ∙ rules.enq) refl (λ i. rw i (refl, refl))).0;
            other = λ e. (by_step Idle [] false _ quiet (rules.other b e) refl (λ i. rw (i, d) (refl, refl))).0;
          }
      byte_gets enqs came (WaitEot timer tries) d n k quiet =
          let p = WaitEot timer tries in
          let rules = line_rules.wait_eot c rs h timer tries in
          let at_enq : b ≡ ENQ → made p ≡ (byte_of c (line_at h p) ENQ rs).step = λ e. ap (λ x. (byte_of c (line_at h p) x rs).step) e in
          record {
            slave = λ m e. by_step p (EOT ∷ []) true _ quiet (at_enq e ∙ rules.enq_slave m) refl (λ i. rw i (refl, refl));
            master = λ m e. (by_step p [] true _ quiet (at_enq e ∙ rules.enq_master m) refl (λ i. rw i (refl, refl))).0;
            other = λ e e'. (by_step p [] true _ quiet (rules.other b e e') refl (λ i. rw i (refl, refl))).0;
          }
      byte_gets enqs came (Draining tries) d n k quiet = rw (quiet refl) refl
      byte_gets enqs came (WaitAck timer tries) d n k quiet =
          let p = WaitAck timer tries in
          let rules = line_rules.wait_ack c rs h timer tries in
          record {
            again = λ e i. (by_step p (ENQ ∷ []) true _ quiet ((rules.other b e).else_again (omega (arith, n))) refl (λ j. rw j (refl, refl))).0;
            failed = λ e i. by_idle p told.Failed ((rules.other b e).above (omega (arith, n)));
          }
      byte_gets enqs came (WaitLength timer) d n k quiet = received came (WaitLength timer) refl quiet k
      byte_gets enqs came (Body timer a) d n k quiet = received came (Body timer a) refl quiet k
      byte_gets enqs came (Silence timer fault) d n k quiet = received came (Silence timer fault) refl quiet k

  -- ---- a tick

  -- a receive ends by NAK, and the ENQ of a held block, or of a report that begins, leaves behind it
  pub naks_leave : (f : Fate) (before h : Bool) (p : Phase) (why : Remark) (rs : List ℕ) → OnMay before f
      → (let z = naks (line_at h p) why in
      let ks = settling (called_for f z.told) in
      bytes_behind z rs ks ≡ followed NAK (busy_behind line.tick z rs ks))
  unfolding settle_idle holding track line_bytes
  naks_leave going before true p why rs m = refl
  naks_leave going before false p why rs m = refl
  naks_leave begun before h p why rs m = refl
  naks_leave ended before h p why rs m = absurd m

  module _ (f : Fate) where
    abbrev tick_rest : Step → List line.Call
    tick_rest z = settling (called_for f z.told)

    -- these bytes leave, and the line is as busy as this
    abbrev TickLeaves : List ℕ → List ℕ → Bool → Step → Type 0
    TickLeaves rs bs sending z = (bytes_behind z rs (tick_rest z) ≡ bs) × (busy_behind line.tick z rs (tick_rest z) ≡ sending)

    module _ (h : Bool) (rs : List ℕ) where
      abbrev ticks : Phase → List line.Call
      ticks p = line.tick ∷ tick_rest (tick_of c (line_at h p))

      abbrev tick_puts : Phase → List ℕ
      tick_puts p = line_bytes c (line_at h p) rs block (ticks p)

      abbrev tick_busy : Phase → Bool
      tick_busy p = busy (track c (record { line = line_at h p; received = rs; seen = s }) (ticks p)).line

      -- where the line makes this step
      by_tick_step : (p : Phase) (P : List ℕ → Bool → Type 0) (z : Step) → May (tick_of c (line_at h p)).told (busy (line_at h p)) f → tick_of c (line_at h p) ≡ z
          → (May z.told (busy (line_at h p)) f → P (bytes_behind z rs (tick_rest z)) (busy_behind line.tick z rs (tick_rest z))) → P (tick_puts p) (tick_busy p)
      unfolding track line_bytes
      by_tick_step p P z may e =
          subst (λ (v : Step). May v.told (busy (line_at h p)) f → (May z.told (busy (line_at h p)) f → P (bytes_behind z rs (tick_rest z)) (busy_behind line.tick z rs (tick_rest z))) → P (bytes_behind v rs (tick_rest v)) (busy_behind line.tick v rs (tick_rest v)))
          (sym e) (λ m w. w m) may

      -- EOT or ACK is waited for, as long as the timer says; `on` is the wait that goes on
      waits : (p on : Phase) (timer tries enqs since : ℕ) → timer ≡ since → tries + 1 ≡ enqs → busy (line_at h p) ≡ true
          → May (tick_of c (line_at h p)).told (busy (line_at h p)) f
          → (timer + 1 ≤ c.t2.0 → tick_of c (line_at h p) ≡ says h on out.Nothing) → (f ≡ going → TickLeaves rs [] true (says h on out.Nothing))
          → (c.t2.0 < timer + 1 → Retries c h tries (tick_of c (line_at h p))) → Waiting c enqs since (tick_puts p) (tick_busy p)
      unfolding settle_idle track line_bytes
      waits p on timer tries enqs since i n under may in_time still beyond =
          let goes : OnMay (busy (line_at h p)) f → f ≡ going = λ m. goes_on_lem f (subst (λ b. OnMay b f) under m) in
          record {
            in_time = λ z. by_tick_step p (λ bs b. (bs ≡ []) × (b ≡ true)) (says h on out.Nothing) may (in_time (omega (arith, i, z))) (λ m. still (goes m));
            again = λ z y.
                by_tick_step p (λ bs b. bs ≡ ENQ ∷ []) (says h (WaitEot 0 (tries + 1)) (out.Code ENQ)) may ((beyond (omega (arith, i, z))).else_again (omega (arith, n, y)))
                (λ m. rw (goes m) refl);
            failed = λ z y.
                by_tick_step p (λ bs b. bs ≡ starts_enq b) (says_told h Idle out.Nothing told.Failed) may ((beyond (omega (arith, i, z))).above (omega (arith, n, y)))
                (λ m. idle_enq line.tick told.Failed f h rs);
          }

      -- NAK leaves, and then a held block's ENQ
      by_nak : (p : Phase) (why : Remark) → May (tick_of c (line_at h p)).told (busy (line_at h p)) f → tick_of c (line_at h p) ≡ naks (line_at h p) why
          → tick_puts p ≡ followed NAK (tick_busy p)
      by_nak p why may e = by_tick_step p (λ bs b. bs ≡ followed NAK b) (naks (line_at h p) why) may e (naks_leave f (busy (line_at h p)) h p why rs)

      -- on a line that receives, a report that begins is held
      by_silence : (p on : Phase) → May (tick_of c (line_at h p)).told (busy (line_at h p)) f → tick_of c (line_at h p) ≡ says h on out.Nothing
          → bytes_behind (says h on out.Nothing) rs (settling []) ≡ [] → bytes_behind (says h on out.Nothing) rs (settling (line.ask ∷ [])) ≡ [] → tick_puts p ≡ []
      by_silence p on may e none asked =
          by_tick_step p (λ bs b. bs ≡ []) (says h on out.Nothing) may e
          (λ m. on_fate (λ v. bytes_behind (says h on out.Nothing) rs (settling (called_for v told.Nothing)) ≡ []) (busy (line_at h p)) none asked f m)

      pub tick_gets : (enqs since : ℕ) (came : List ℕ) (silent : ℕ) (p : Phase) → Calm p h → Counts p enqs → SendTimer p since → Heeds c p came silent
          → May (tick_of c (line_at h p)).told (busy (line_at h p)) f → TickGets c (ours_at p) (theirs_at p) enqs since came silent (tick_puts p) (tick_busy p)
      unfolding settle_idle holding track line_bytes
      tick_gets enqs since came silent Idle d n i q may = idle_enq line.tick told.Nothing f h rs
      tick_gets enqs since came silent (WaitEot timer tries) d n i q may =
          let rules = line_rules.wait_eot c rs h timer tries in
          waits (WaitEot timer tries) (WaitEot (timer + 1) tries) timer tries enqs since i n refl may rules.in_time (λ e. rw e (refl, refl)) rules.beyond
      tick_gets enqs since came silent (Draining tries) d n i q may = rw (goes_on_lem f may) refl
      tick_gets enqs since came silent (WaitAck timer tries) d n i q may =
          let rules = line_rules.wait_ack c rs h timer tries in
          waits (WaitAck timer tries) (WaitAck (timer + 1) tries) timer tries enqs since i n refl may rules.in_time (λ e. rw e (refl, refl)) rules.beyond
      tick_gets enqs since came silent (WaitLength timer) d n i q may =
          let p = WaitLength timer in
          let rules = line_rules.wait_length c rs h timer in
          record {
            in_time = λ z. by_silence p (WaitLength (timer + 1)) may (rules.in_time (omega (arith, q.0, q.1))) refl refl;
            beyond = λ z. by_nak p remark.NoLength may (rules.beyond (omega (arith, q.0, q.1)));
          }
      tick_gets enqs since came silent (Body timer a) d n i q may =
          let p = Body timer a in
          let rules = line_rules.body c rs h timer 0 0 0 in
          record {
            in_time = λ z. by_silence p (Body (timer + 1) a) may (rules.in_time a (omega (arith, q.0, q.1))) refl refl;
            beyond = λ z. by_nak p remark.Gap may (rules.beyond a (omega (arith, q.0, q.1)));
          }
      tick_gets enqs since came silent (Silence timer fault) d n i q may =
          let p = Silence timer fault in
          let rules = line_rules.silence c rs h timer fault in
          record {
            in_time = λ z. by_silence p (Silence (timer + 1) fault) may (rules.in_time (omega (arith, q.0, q.1))) refl refl;
            beyond = λ z. by_nak p (remark.Bad fault) may (rules.beyond (omega (arith, q.0, q.1)));
          }

  -- ---- drained, and a message that is accepted

  pub drained_gets : (h : Bool) (p : Phase) (rs : List ℕ) → Calm p h → line_bytes c (line_at h p) rs block (line.drained ∷ line.settle ∷ []) ≡ []
  unfolding settle_idle line_bytes
  drained_gets h Idle rs f = rw f refl
  drained_gets h (WaitEot timer tries) rs f = refl
  drained_gets h (Draining tries) rs f = refl
  drained_gets h (WaitAck timer tries) rs f = refl
  drained_gets h (WaitLength timer) rs f = refl
  drained_gets h (Body timer a) rs f = refl
  drained_gets h (Silence timer fault) rs f = refl

  pub ask_gets : (h : Bool) (p : Phase) (rs : List ℕ) → under_way p ≡ false → MessageGets true (theirs_at p) (line_bytes c (line_at h p) rs block (line.ask ∷ line.settle ∷ []))
  unfolding settle_idle holding line_bytes
  ask_gets h Idle rs e = refl
  ask_gets h (WaitEot timer tries) rs e = clash (sym e)
  ask_gets h (Draining tries) rs e = clash (sym e)
  ask_gets h (WaitAck timer tries) rs e = clash (sym e)
  ask_gets h (WaitLength timer) rs e = refl
  ask_gets h (Body timer a) rs e = refl
  ask_gets h (Silence timer fault) rs e = refl
