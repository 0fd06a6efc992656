-- What a line puts out has room (`specs/Output.antt`). In one `T`: a NAK, the ENQ of a held block, one for each retry, and as many for each
-- report that starts, of which twelve at most are due. In one `B`: one block, for it has to be drained before another byte counts, and two
-- codes for every other byte. Assumes nothing.
use Rattle.std.specs.Prelude.{Option, Some, None}
use Prim.Native.Nat.{ℕ, suc, ◌+◌, ◌-◌, ◌*◌, ◌≤◌, ◌<◌}
use mathlib.Core.Path.{◌≡◌, refl, sym, ap, subst, ◌∙◌}
use mathlib.Core.Bool.{Bool, true, false}
use mathlib.Core.List.{List, [], ◌∷◌}
use mathlib.Core.Logic.{◌≢◌, ⊎_elim}
use native.Mathlib.Nat.{add-mul, mul-le-mul_right}
use native.Mathlib.Omega.{arith}
use lib.Dec.{eqb, ltb}
use lib.ListN.{length, drop, length-append, length-drop}
use borrow.Author.Tests.{ltb-false}
use Rattle.wire.specs.Bytes.{pair_of}
use Rattle.wire.proofs.Choice.{chosen}
use Rattle.settings.specs.Panel.{between}
use Rattle.settings.specs.Timer.{ticked}
use Rattle.settings.specs.declared.limits.Limits.{Limits}
use Rattle.line.specs.Codes.{ENQ, EOT, ACK, bytes_out}
use Rattle.line.specs.Line.{Heard, ask_at, holding, line_at, spent, retry_of, give_way, eot_byte, ack_byte, length_byte, low_byte, body_byte, idle_byte, byte_at, eot_tick, ack_tick, length_tick, body_tick, silence_tick, tick_at, tick_of, settle_idle, settle_at, settle_of}
use Rattle.line.specs.declared.phase.Phase.{Phase}
use Rattle.line.specs.declared.phase.Phase.TheVariants.{Idle, WaitEot, Draining, WaitAck, WaitLength, Body, Silence}
use Rattle.line.specs.declared.line.Line.{Line}
use Rattle.line.specs.declared.step.Step.{Step}
use Rattle.line.specs.declared.step.Out.{Out}
use Rattle.line.specs.declared.step.Out.TheVariants as out
use Rattle.line.specs.declared.step.Told.{Told}
use Rattle.line.specs.declared.step.Told.TheVariants as told
use Rattle.line.proofs.Alone.{ticks_tell}
use Rattle.exchange.specs.Reports.{same_message}
use Rattle.exchange.specs.Send.{failed_of}
use Rattle.exchange.specs.Request.{primary, reply, freeing_own, freeing_incoming, sending_by}
use Rattle.exchange.specs.declared.Sending.{Sending}
use Rattle.exchange.specs.declared.Exchange.{Exchange}
use Rattle.exchange.proofs.BeingSent.{sending_ends}
use Rattle.exchange.proofs.Same.{message_same}
use Rattle.link.specs.Answer.{note_by}
use Rattle.link.specs.Courier.{carried, goes_on, courier_by, courier_of}
use Rattle.link.specs.Run.{Left, tells, passing, carried_by, hears as hears_step, stepped, byte_stepped, byte_step, tick_step}
use Rattle.link.specs.History.{Call, byte, tick, drained, request, called}
use Rattle.link.specs.Refusals.{Fits}
use Rattle.link.specs.declared.Link.{Link}
use Rattle.link.specs.declared.Note.{Note}
use Rattle.link.proofs.Cases.{by_gate, by_byte}
use Rattle.link.proofs.refusals.Writes.{writes_only}
use Rattle.link.proofs.refusals.Ranges.{ranges_exactly}
use Rattle.link.proofs.inside.Range.{link_reached_in_range}
use Rattle.script.specs.Lines.{Order, hears, waits, DataIn, no_data, some_data, LineIs, bytes_line}
use Rattle.script.proofs.Fields.{said_length}
use Rattle.talk.specs.Lines.{Makes, one_open, one_reply, one_own, one_incoming, no_byte, a_byte, no_tick, a_tick, one_drained}
use Rattle.talk.specs.Listing.{talked, silence}
use Rattle.talk.specs.Output.{EachLent, OutputHolds}
use Rattle.talk.specs.Reached.{UnitReached}
use Rattle.talk.proofs.Due.{due, one, few_due, tick_due, failed_due}
use Rattle.talk.proofs.Reached.{any_lines}

-- ---- one `T`

-- what ticks can still put out, RTY being r: the retries of a block under way, or the NAK of a receive; and a held block's ENQs
abbrev phase_most : ℕ → Phase → ℕ
phase_most r Idle = 0
phase_most r (WaitEot timer tries) = r - tries
phase_most r (Draining tries) = r - tries
phase_most r (WaitAck timer tries) = r - tries
phase_most r (WaitLength timer) = 1
phase_most r (Body timer a) = 1
phase_most r (Silence timer fault) = 1

abbrev held_most : ℕ → Bool → ℕ
held_most r false = 0
held_most r true = r + 1

abbrev most : ℕ → Line → ℕ
most r l = phase_most r l.phase + held_most r l.held

-- a step puts out no more than it takes off
abbrev Less : ℕ → ℕ → Step → Type 0
Less r n s = length (bytes_out [] s.out) + most r s.line ≤ n

retry_less : (c : Limits) (h : Bool) (p : Phase) (tries : ℕ) → Less c.rty (c.rty - tries + held_most c.rty h) (retry_of c (line_at h p) tries)
unfolding retry_of spent
retry_less c h p tries =
    chosen (Less c.rty (c.rty - tries + held_most c.rty h)) (ltb c.rty (tries + 1)) _ _ (λ e. omega arith)
    (λ e. let left = ltb-false c.rty (tries + 1) e in omega arith)

eot_less : (c : Limits) (h : Bool) (p : Phase) (tries : ℕ) (t : Option ℕ) → Less c.rty (c.rty - tries + held_most c.rty h) (eot_tick c (line_at h p) tries t)
eot_less c h p tries None = retry_less c h p tries
eot_less c h p tries (Some timer) = omega arith

ack_less : (c : Limits) (h : Bool) (p : Phase) (tries : ℕ) (t : Option ℕ) → Less c.rty (c.rty - tries + held_most c.rty h) (ack_tick c (line_at h p) tries t)
ack_less c h p tries None = retry_less c h p tries
ack_less c h p tries (Some timer) = omega arith

tick_less : (c : Limits) (h : Bool) (p : Phase) → Less c.rty (most c.rty (line_at h p)) (tick_at c p (line_at h p))
tick_less c h Idle = omega arith
tick_less c h (WaitEot timer tries) = eot_less c h _ tries (ticked c.t2 timer)
tick_less c h (Draining tries) = omega arith
tick_less c h (WaitAck timer tries) = ack_less c h _ tries (ticked c.t2 timer)
tick_less c h (WaitLength timer) = by (ticked c.t2 timer)
  where
    by : (t : Option ℕ) → Less c.rty (1 + held_most c.rty h) (length_tick (line_at h (WaitLength timer)) t)
    by None = omega arith
    by (Some n) = omega arith
tick_less c h (Body timer a) = by (ticked c.t1 timer)
  where
    by : (t : Option ℕ) → Less c.rty (1 + held_most c.rty h) (body_tick (line_at h (Body timer a)) a t)
    by None = omega arith
    by (Some n) = omega arith
tick_less c h (Silence timer fault) = by (ticked c.t1 timer)
  where
    by : (t : Option ℕ) → Less c.rty (1 + held_most c.rty h) (silence_tick (line_at h (Silence timer fault)) fault t)
    by None = omega arith
    by (Some n) = omega arith

settle_less : (r : ℕ) (h : Bool) (p : Phase) → Less r (most r (line_at h p)) (settle_at p (line_at h p))
unfolding settle_idle
settle_less r false Idle = omega arith
settle_less r true Idle = omega arith
settle_less r h (WaitEot timer tries) = omega arith
settle_less r h (Draining tries) = omega arith
settle_less r h (WaitAck timer tries) = omega arith
settle_less r h (WaitLength timer) = omega arith
settle_less r h (Body timer a) = omega arith
settle_less r h (Silence timer fault) = omega arith

asked_less : (r : ℕ) (h : Bool) (p : Phase) → most r (ask_at p (line_at h p)) ≤ most r (line_at h p) + (r + 1)
unfolding holding
asked_less r h Idle = omega arith
asked_less r h (WaitEot timer tries) = omega arith
asked_less r h (Draining tries) = omega arith
asked_less r h (WaitAck timer tries) = omega arith
asked_less r h (WaitLength timer) = omega arith
asked_less r h (Body timer a) = omega arith
asked_less r h (Silence timer fault) = omega arith

-- behind a tick the courier asks for a block of a message that started; any other it leaves, or withdraws
courier_less : (r : ℕ) (same before after : Bool) (t : Told) (l : Line) (k : ℕ) → goes_on t l k ≡ carried l k
    → most r (courier_by same before after t l k).line ≤ most r l + held_most r after
courier_less r same false false t l k e = omega arith
courier_less r same false true t l k e = asked_less r l.held l.phase
courier_less r same true false t l k e = omega arith
courier_less r true true true t l k e = rw e (omega arith)
courier_less r false true true t l k e = asked_less r l.held l.phase

stays_by : (sends : Bool) (l : Line) (k : ℕ) → (courier_by true sends sends told.Nothing l k).line ≡ l
stays_by false l k = refl
stays_by true l k = refl

-- the same message, of which nothing is told
courier_stays : (z : Sending) (l : Line) (k : ℕ) (room : List ℕ) → (courier_of z z told.Nothing l k room).line ≡ l
courier_stays z l k room = rw (message_same z z refl) (stays_by (sending_by z) l k)

-- a report that starts is due no longer, and has its ENQs before it
pays : (r d e : ℕ) (starts : Bool) → d + one starts ≤ e → d * (r + 1) + held_most r starts ≤ e * (r + 1)
pays r d e false h = let less : d * (r + 1) ≤ e * (r + 1) = mul-le-mul_right (r + 1) (omega arith) in omega arith
pays r d e true h =
    let less : (d + 1) * (r + 1) ≤ e * (r + 1) = mul-le-mul_right (r + 1) h in
    let parts : (d + 1) * (r + 1) ≡ d * (r + 1) + 1 * (r + 1) = add-mul d 1 (r + 1) in
    omega arith

-- the line and the reports that are due: what ticks can still put out
abbrev still : ℕ → Line → Exchange → ℕ
still r l x = most r l + due x * (r + 1)

-- the transactions at the end of a tick, by what the line told
abbrev ticked_by : Link → List ℕ → Told → Note → Exchange
ticked_by u room t n = (passing true u.settings.terms (tells t n u room).midway).exchange

-- where each message that is now being sent was due
begun_less : (r : ℕ) (z : Sending) (x y : Exchange) (t : Told) (l : Line) (k : ℕ) (room : List ℕ) → goes_on t l k ≡ carried l k → due y + one (sending_by y.sending) ≤ due x
    → still r (courier_of z y.sending t l k room).line y ≤ still r l x
begun_less r z x y t l k room e h =
    omega (arith, courier_less r (same_message z y.sending) (sending_by z) (sending_by y.sending) t l k e, pays r (due y) (due x) (sending_by y.sending) h)

carried_less : (u : Link) (room : List ℕ) (l : Line) (t : Told) (n : Note) → t ≢ told.PutOut → t ≢ told.Sent → ((m : ℕ) → t ≢ told.Up m)
    → still u.settings.limits.rty (courier_of u.exchange.sending (ticked_by u room t n).sending t l u.block room).line (ticked_by u room t n)
    ≤ still u.settings.limits.rty l u.exchange
carried_less u room l told.Nothing n put sent up =
    let r = u.settings.limits.rty in
    let x = u.exchange in
    let y = ticked_by u room told.Nothing n in
    let d = tick_due u.settings.terms x in
    ⊎_elim
    (λ same.
    let line : (courier_of x.sending y.sending told.Nothing l u.block room).line ≡ l =
    ap (λ (z : Sending). (courier_of x.sending z told.Nothing l u.block room).line) same ∙ courier_stays x.sending l u.block room in
    let goes : one (sending_by y.sending) ≡ one (sending_by x.sending) = ap (λ (z : Sending). one (sending_by z)) same in
    rw line (omega (arith, pays r (due y) (due x) false (omega arith))))
    (λ begins.
    let none : one (sending_by x.sending) ≡ 0 = ap (λ (z : Sending). one (sending_by z)) begins.was in
    begun_less r x.sending x y told.Nothing l u.block room refl (omega arith))
    (sending_ends u.settings.terms x).ticked
carried_less u room l told.PutOut n put sent up = absurd (put refl)
carried_less u room l told.Sent n put sent up = absurd (sent refl)
carried_less u room l told.Failed n put sent up =
    begun_less u.settings.limits.rty u.exchange.sending u.exchange (ticked_by u room told.Failed n) told.Failed l u.block room refl
    (omega (arith, tick_due u.settings.terms (failed_of u.exchange).exchange, failed_due u.exchange))
carried_less u room l (told.Up m) n put sent up = absurd (up m refl)

-- what a call puts out, and what ticks can put out behind it
abbrev TickLess : Link → Left → Type 0
TickLess u l =
    l.answer.count + still l.answer.link.settings.limits.rty l.answer.link.line l.answer.link.exchange
    ≤ still u.settings.limits.rty u.line u.exchange

call_less : (u : Link) (room o : List ℕ) → TickLess u (called u room o tick)
call_less u room o =
    by_gate (TickLess u) u room o (stepped true u (tick_step u) room o) (λ r e. omega arith)
    (λ e.
    let c = u.settings.limits in
    let s = tick_of c u.line in
    let v = hears_step u (tick_step u) in
    let x = ticked_by v room s.told (note_by s.remark) in
    let l = (carried_by v s.told x room).line in
    let first = tick_less c u.line.held u.line.phase in
    let second = carried_less v room s.line s.told (note_by s.remark) (ticks_tell c u.line).not_out (ticks_tell c u.line).not_sent (ticks_tell c u.line).not_up in
    let third = settle_less c.rty l.held l.phase in
    omega (arith, length-append (bytes_out [] s.out) (bytes_out [] (settle_of l).out), first, second, third))

-- ---- one `B`

-- what so many bytes can still put out
abbrev bytes_at : Phase → ℕ → ℕ
bytes_at Idle n = 2 * n + 255
bytes_at (WaitEot timer tries) n = 2 * n + 255
bytes_at (Draining tries) n = 0
bytes_at (WaitAck timer tries) n = 2 * n + 255
bytes_at (WaitLength timer) n = 2 * n + 255
bytes_at (Body timer a) n = 2 * n + 255
bytes_at (Silence timer fault) n = 2 * n + 255

bytes_most : (p : Phase) (n : ℕ) → bytes_at p n ≤ 2 * n + 255
bytes_most Idle n = omega arith
bytes_most (WaitEot timer tries) n = omega arith
bytes_most (Draining tries) n = omega arith
bytes_most (WaitAck timer tries) n = omega arith
bytes_most (WaitLength timer) n = omega arith
bytes_most (Body timer a) n = omega arith
bytes_most (Silence timer fault) n = omega arith

-- behind the whole block the line is draining
abbrev DrainsBy : Out → Phase → Type 0
DrainsBy out.Nothing p = Unit {0}
DrainsBy (out.Code c) p = Unit {0}
DrainsBy out.Block p = (n : ℕ) → bytes_at p n ≡ 0

abbrev Drains : Step → Type 0
Drains s = DrainsBy s.out s.line.phase

retry_drains : (c : Limits) (l : Line) (tries : ℕ) → Drains (retry_of c l tries)
unfolding retry_of
retry_drains c l tries = chosen Drains (spent c tries) _ _ (λ e. tt) (λ e. tt)

byte_drains : (c : Limits) (p : Phase) (l : Line) (b : ℕ) (rs : List ℕ) → Drains (byte_at c p l b rs).step
unfolding idle_byte eot_byte give_way ack_byte length_byte body_byte low_byte
byte_drains c Idle l b rs = chosen Drains (eqb b ENQ) _ _ (λ e. tt) (λ e. tt)
byte_drains c (WaitEot timer tries) l b rs =
    chosen Drains (eqb b EOT) _ _ (λ e n. refl) (λ e. chosen Drains (eqb b ENQ) _ _ (λ e. chosen Drains c.master _ _ (λ e. tt) (λ e. tt)) (λ e. tt))
byte_drains c (Draining tries) l b rs = tt
byte_drains c (WaitAck timer tries) l b rs = chosen Drains (eqb b ACK) _ _ (λ e. tt) (λ e. retry_drains c l tries)
byte_drains c (WaitLength timer) l b rs = chosen Drains (between 10 b 254) _ _ (λ e. tt) (λ e. tt)
byte_drains c (Body timer a) l b rs =
    chosen (λ (h : Heard). Drains h.step) (ltb a.got a.length) _ _ (λ e. tt)
    (λ e. chosen (λ (h : Heard). Drains h.step) (eqb a.got a.length) _ _ (λ e. tt)
    (λ e. chosen Drains (eqb (pair_of a.high b) a.sum) _ _ (λ e. tt) (λ e. tt)))
byte_drains c (Silence timer fault) l b rs = tt

-- a call that puts no block out puts out two codes at most
code_most : (p : Out) → length (bytes_out [] p) ≤ 1
code_most out.Nothing = omega arith
code_most (out.Code c) = omega arith
code_most out.Block = omega arith

-- what a call puts out, and what n bytes can put out behind it
abbrev ByteLess : Link → ℕ → ℕ → Left → Type 0
ByteLess u n few l = l.answer.count ≤ 257 → l.answer.count + bytes_at l.answer.link.line.phase n ≤ few

-- while the line is draining a byte puts nothing out, and changes nothing of that
draining_less : (u : Link) (room o : List ℕ) (b n tries : ℕ) → u.line.phase ≡ Draining tries → ByteLess u n 0 (byte_stepped u (byte_step u b) room o)
draining_less u room o b n tries e =
    subst (λ (v : Link). ByteLess v n 0 (byte_stepped v (byte_step v b) room o)) (λ i. at (sym e i))
    (λ few. rw (courier_stays u.exchange.sending (line_at u.line.held (Draining tries)) u.block room) (omega arith))
  where
    at : Phase → Link
    at p = record { settings = u.settings; line = line_at u.line.held p; received = u.received; exchange = u.exchange; block = u.block }

some_less : (u : Link) (room o : List ℕ) (b n : ℕ) → ByteLess u n (2 * suc n + 255) (byte_stepped u (byte_step u b) room o)
some_less u room o b n =
    by_byte (λ p l. ByteLess u n (2 * suc n + 255) l) u (byte_step u b) room o (λ e. codes) (λ c e. codes)
    (λ e few.
    let drained = subst (λ (p : Out). DrainsBy p (byte_step u b).step.line.phase) e (byte_drains u.settings.limits u.line.phase u.line b u.received) n in
    omega (arith, drained))
  where
    codes : ByteLess u n (2 * suc n + 255) (stepped false u (byte_step u b) room o)
    codes few =
        let l = stepped false u (byte_step u b) room o in
        let p = (byte_step u b).step.out in
        let q = (settle_of (carried_by (hears_step u (byte_step u b)) (byte_step u b).step.told l.answer.link.exchange room).line).out in
        omega (arith, bytes_most l.answer.link.line.phase n, length-append (bytes_out [] p) (bytes_out [] q), code_most p, code_most q)

byte_less : (u : Link) (room o : List ℕ) (b : ℕ) (fits : b < 256) (n : ℕ) → ByteLess u n (bytes_at u.line.phase (suc n)) (called u room o (byte b fits))
byte_less u room o b fits n =
    by_gate (ByteLess u n (bytes_at u.line.phase (suc n))) u room o (byte_stepped u (byte_step u b) room o) (λ r e few. shut u.line.phase) (λ e. by u.line.phase refl)
  where
    shut : (p : Phase) → 0 + bytes_at p n ≤ bytes_at p (suc n)
    shut Idle = omega arith
    shut (WaitEot timer tries) = omega arith
    shut (Draining tries) = omega arith
    shut (WaitAck timer tries) = omega arith
    shut (WaitLength timer) = omega arith
    shut (Body timer a) = omega arith
    shut (Silence timer fault) = omega arith

    by : (p : Phase) → u.line.phase ≡ p → ByteLess u n (bytes_at p (suc n)) (byte_stepped u (byte_step u b) room o)
    by Idle e = some_less u room o b n
    by (WaitEot timer tries) e = some_less u room o b n
    by (Draining tries) e = draining_less u room o b n tries e
    by (WaitAck timer tries) e = some_less u room o b n
    by (WaitLength timer) e = some_less u room o b n
    by (Body timer a) e = some_less u room o b n
    by (Silence timer fault) e = some_less u room o b n

-- ---- the calls of a line

-- behind a call, what it left of the memory
rest_length : (u : Link) (room out : List ℕ) (k : Call) → length (drop (called u room out k).answer.count out) + (called u room out k).answer.count ≡ length out
rest_length u room out k = omega (arith, length-drop (called u room out k).answer.count out, (writes_only u room out k).output.within)

ticks_lent : (u : Link) (room out : List ℕ) (n : ℕ) (ks : List Call) → Makes (waits n) ks → 257 + still u.settings.limits.rty u.line u.exchange ≤ length out → EachLent u room out ks
unfolding EachLent
ticks_lent u room out _ _ no_tick h = tt
ticks_lent u room out _ _ (a_tick n ks m) h = (
  omega arith,
  ticks_lent (called u room out tick).answer.link (called u room out tick).room (drop (called u room out tick).answer.count out) n ks m
      (omega (arith, rest_length u room out tick, call_less u room out)),
)

bytes_lent : (u : Link) (room out bs : List ℕ) (ks : List Call) → Makes (hears bs) ks → 257 + bytes_at u.line.phase (length bs) ≤ length out → EachLent u room out ks
unfolding EachLent
bytes_lent u room out _ _ no_byte h = tt
bytes_lent u room out _ _ (a_byte b fits bs ks m) h =
    let k = byte b fits in (
      omega arith,
      bytes_lent (called u room out (byte b fits)).answer.link (called u room out (byte b fits)).room (drop (called u room out (byte b fits)).answer.count out) bs ks m
          (omega (arith, rest_length u room out k, byte_less u room out b fits (length bs) (writes_only u room out k).output.most)),
    )

one_lent : (u : Link) (room out : List ℕ) (k : Call) → length out ≡ 4096 → EachLent u room out (k ∷ [])
unfolding EachLent
one_lent u room out k e = (omega arith, tt)

-- a `B` line of 1,024 bytes says 511
data_most : {field bs : List ℕ} → DataIn field bs → 2 * length bs ≤ length field
data_most no_data = omega arith
data_most (some_data text bs some s) = omega (arith, said_length s)

bytes_few : (line bs : List ℕ) → LineIs line (hears bs) → length line ≤ 1024 → length bs ≤ 511
bytes_few _ _ (bytes_line field bs e) short = omega (arith, data_most e)

-- RTY is 31 at most
phase_few : (r : ℕ) (p : Phase) → r ≤ 31 → phase_most r p ≤ 31
phase_few r Idle h = omega arith
phase_few r (WaitEot timer tries) h = omega arith
phase_few r (Draining tries) h = omega arith
phase_few r (WaitAck timer tries) h = omega arith
phase_few r (WaitLength timer) h = omega arith
phase_few r (Body timer a) h = omega arith
phase_few r (Silence timer fault) h = omega arith

held_few : (r : ℕ) (h : Bool) → r ≤ 31 → held_most r h ≤ 32
held_few r false h = omega arith
held_few r true h = omega arith

-- so with twelve reports due no more than this is still to come
still_few : (u : Link) (room : List ℕ) → UnitReached u room → still u.settings.limits.rty u.line u.exchange ≤ 447
still_few u room w =
    let fits : Fits u = subst Fits w.link ((ranges_exactly.all w.track.link).0 (link_reached_in_range w.track w.reached.reached)) in
    let r = u.settings.limits.rty in
    let few = fits.settings.rty_most in
    let reports : due u.exchange * (r + 1) ≤ 12 * (r + 1) = mul-le-mul_right (r + 1) (few_due u.exchange fits.waiting) in
    omega (arith, phase_few r u.line.phase few, held_few r u.line.held few)

line_lent : (u : Link) (room out : List ℕ) → UnitReached u room → length out ≡ 4096 → (line : List ℕ) (o : Order) (ks : List Call) → LineIs line o → length line ≤ 1024 → Makes o ks
    → EachLent u room out ks
unfolding EachLent
line_lent u room out w e line _ _ is short (one_open q bs) = one_lent u room out (request (primary q bs)) e
line_lent u room out w e line _ _ is short (one_reply p f bs) = one_lent u room out (request (reply p f bs)) e
line_lent u room out w e line _ _ is short (one_own p) = one_lent u room out (request (freeing_own p)) e
line_lent u room out w e line _ _ is short (one_incoming p) = one_lent u room out (request (freeing_incoming p)) e
line_lent u room out w e line _ _ is short no_byte = tt
line_lent u room out w e line _ _ is short (a_byte b fits bs ks m) =
    bytes_lent u room out (b ∷ bs) (byte b fits ∷ ks) (a_byte b fits bs ks m)
    (omega (arith, bytes_most u.line.phase (length (b ∷ bs)), bytes_few line (b ∷ bs) is short))
line_lent u room out w e line _ _ is short no_tick = tt
line_lent u room out w e line _ _ is short (a_tick n ks m) =
    ticks_lent u room out (suc n) (tick ∷ ks) (a_tick n ks m) (omega (arith, still_few u room w))
line_lent u room out w e line _ _ is short one_drained = one_lent u room out drained e

pub output_holds : OutputHolds
output_holds lines u e line o ks is short m =
    let d = (talked silence lines).now in let h = any_lines lines in line_lent u d.room d.out (h.unit u e) h.long line o ks is short m
