-- How the functions' proofs put a call's answer and memory together: the gate, the short ways, the course, a request. Assumes nothing.
use Rattle.std.specs.Prelude.{Result, Ok, Err}
use Prim.Native.Nat.{ℕ, ◌-◌, ◌<◌}
use mathlib.Core.Path.{◌≡◌, refl, sym, ap, ◌∙◌}
use mathlib.Core.Bool.{Bool, true, false, false≢true}
use mathlib.Core.List.{List, []}
use mathlib.Core.Logic.{◌⊎◌, inl, inr}
use native.Mathlib.Omega.{arith}
use lib.ListN.{length, take, drop}
use borrow.Author.Tests.{eq-eqb}
use Rattle.wire.specs.Bytes.{part}
use Rattle.wire.specs.Lent.{on_front}
use Rattle.line.specs.Line.{Heard, heard, settle_of}
use Rattle.line.specs.declared.line.Line.{Line}
use Rattle.line.specs.declared.step.Out.{Out}
use Rattle.line.specs.declared.step.Out.TheVariants as out
use Rattle.line.specs.declared.step.Told.{Told}
use Rattle.line.specs.declared.step.Told.TheVariants as told
use Rattle.line.specs.declared.step.Remark.{Remark}
use Rattle.line.specs.declared.step.Remark.TheVariants as remark
use Rattle.line.specs.declared.step.Step.{Step}
use Rattle.exchange.specs.Flags.{no_flags}
use Rattle.exchange.specs.Judge as exchange
use Rattle.exchange.specs.Reports.{same_message}
use Rattle.exchange.specs.Request.{Requesting, requesting, sending_by}
use Rattle.exchange.specs.Send.{outgoing_of}
use Rattle.exchange.specs.Tick.{is_still}
use Rattle.exchange.specs.declared.Flags.{Flags}
use Rattle.exchange.specs.declared.Judged.{Judged}
use Rattle.exchange.specs.declared.Outgoing.{Outgoing}
use Rattle.exchange.specs.declared.Requested.{Requested}
use Rattle.exchange.specs.declared.Sending.{Sending}
use Rattle.exchange.specs.declared.Sending.TheVariants as sending
use Rattle.exchange.proofs.Stilling.{still_tick}
use Rattle.link.specs.Answer.{note_by}
use Rattle.link.specs.Courier.{carried, courier_by}
use Rattle.link.specs.State.{with_line, with_exchange, parts_of, answer_as, refused_as, link_in_range, gate_of}
use Rattle.link.specs.Run.{Left, left, leaves, Telling, telling, untold, tells, judged_as, ticked, passing, codes, settled, course, block_in, block_out, unless_block, hearing, onward, stepped, byte_onward, byte_stepped, byte_step}
use Rattle.link.specs.Call.{gated, requested_by, requested_as}
use Rattle.link.specs.declared.Carried.{Carried}
use Rattle.link.specs.declared.Midway.{Midway}
use Rattle.link.specs.declared.Outcome.TheVariants as outcome
use Rattle.link.specs.declared.Note.{Note}
use Rattle.link.specs.declared.Note.TheVariants as note
use Rattle.link.specs.declared.Refusal.{Refusal}
use Rattle.link.specs.declared.Answer.{Answer}
use Rattle.link.specs.declared.Link.{Link}
use Rattle.unit.specs.Settle.{settled_as, settled_out}
use Rattle.unit.specs.Short.{says_nothing, is_quiet}

-- the answer, and every byte
pub all : {a b : Answer} {r s o p : List ℕ} → a ≡ b → r ≡ s → o ≡ p → left a r o ≡ left b s p
all {a} {b} {r} {s} {o} {p} e f g = ap (λ (x : Answer). left x r o) e ∙ ap (λ (x : List ℕ). left b x o) f ∙ ap (λ (x : List ℕ). left b s x) g

pub closes : (room : List ℕ) {a b : Answer} {o p : List ℕ} → a ≡ b → o ≡ p → left a room o ≡ left b room p
closes room e q = all e refl q

-- a block that ends before its data has none
pub short_part : (n : ℕ) (l : List ℕ) → n < 10 → part 10 n l ≡ []
unfolding part
short_part n l k = let z : n - 10 ≡ 0 = omega arith in rw z refl

pub whole_part : (n : ℕ) (l : List ℕ) → take (n - 10) (drop 10 l) ≡ part 10 n l
unfolding part
whole_part n l = refl

-- ---- through the gate

-- the gate asks nothing of the received bytes
pub by_parts : (u : Link) (room out : ℕ) → gate_of (parts_of u.settings u.line u.exchange u.block) room out ≡ gate_of u room out
unfolding gate_of link_in_range
by_parts u room out = refl

pub in_range_parts : (u : Link) → link_in_range (parts_of u.settings u.line u.exchange u.block) ≡ link_in_range u
unfolding link_in_range
in_range_parts u = refl

pub opens : (u : Link) (room o : List ℕ) (l : Left) {g : Result Unit Refusal} {x : Left} → g ≡ gate_of u (length room) (length o) → g ≡ Ok tt → x ≡ l → x ≡ gated u room o l
opens u room o l e q p = rw (sym e ∙ q) p

pub shuts : (u : Link) (room o : List ℕ) (l : Left) (r : Refusal) {g : Result Unit Refusal} {a : Answer} → g ≡ gate_of u (length room) (length o) → g ≡ Err r
    → a ≡ refused_as u r → left a room o ≡ gated u room o l
shuts u room o l r e q p = rw (sym e ∙ q) (closes room p refl)

-- ---- behind the line's step

pub byte_on : (u : Link) (b : ℕ) (room o : List ℕ) {s : Step} {rs : List ℕ} {x : Left} → heard s rs ≡ byte_step u b
    → x ≡ byte_stepped u (heard s rs) room o → x ≡ byte_stepped u (byte_step u b) room o
byte_on u b room o e p = p ∙ ap (λ (h : Heard). byte_stepped u h room o) e

pub step_on : (ticks : Bool) (u : Link) (room o : List ℕ) {s t : Step} {x : Left} → s ≡ t
    → x ≡ stepped ticks u (heard s u.received) room o → x ≡ stepped ticks u (heard t u.received) room o
step_on ticks u room o e p = p ∙ ap (λ (s : Step). stepped ticks u (heard s u.received) room o) e

-- a byte that puts no block out, and one that does
pub on_no_block : (p : Out) (block l : Left) {x : Left} → (p ≡ out.Nothing) ⊎ ((c : ℕ) × p ≡ out.Code c) → x ≡ l → x ≡ unless_block p block l
on_no_block p block l (inl e) q = q ∙ sym (ap (λ (z : Out). unless_block z block l) e)
on_no_block p block l (inr e) q = q ∙ sym (ap (λ (z : Out). unless_block z block l) e.1)

pub on_block : (p : Out) (block l : Left) {x : Left} → p ≡ out.Block → x ≡ block → x ≡ unless_block p block l
on_block p block l e q = q ∙ sym (ap (λ (z : Out). unless_block z block l) e)

-- ---- the transactions are told

pub tells_so : (room : List ℕ) {m n : Midway} → m ≡ n → telling m room ≡ telling n room
tells_so room e = ap (λ (m : Midway). telling m room) e

-- a block that went up was judged
pub judges : {j : Judged} {after : List ℕ} {k : exchange.Judging} → exchange.judging j after ≡ k → telling (judged_as j) after ≡ telling (judged_as k.answer) k.room
judges e = ap (λ (x : exchange.Judging). telling (judged_as x.answer) x.room) e

-- what is remarked goes by its note
pub notes_so : (t : Told) (r : Remark) (u : Link) (room : List ℕ) {n : Note} {x : Telling} → n ≡ note_by r → x ≡ tells t n u room → x ≡ hearing t r u room
notes_so t r u room e p = p ∙ ap (λ (n : Note). tells t n u room) e

-- and the call goes on
pub goes_onward : (u : Link) (p : Out) (ticks : Bool) (t : Told) (o : List ℕ) {m h : Midway} {room : List ℕ} {r : Telling} {x : Left}
    → m ≡ passing ticks u.settings.terms h → telling h room ≡ r → x ≡ course u p t m outcome.Done room o → x ≡ onward p ticks t u r o
goes_onward u p ticks t o {m} {h} {room} e f q =
    q ∙ ap (λ (n : Midway). course u p t n outcome.Done room o) e ∙ ap (λ (z : Telling). onward p ticks t u z o) f

-- the block of a message that is on its way
abbrev block_on : Link → Outgoing → List ℕ → List ℕ
block_on u z room = block_in u.settings.terms.device u.exchange.reports.shown z u.block room

-- or the whole block has gone out before they are told
pub block_left : (u : Link) (room o : List ℕ) {z : Outgoing} {n : ℕ} {put after : List ℕ} {m : Midway} {r : Telling} {a : Answer}
    → z ≡ outgoing_of u.exchange → (n ≡ length (block_on u z room)) × (put ≡ on_front (block_on u z room) o)
    → telling m after ≡ r → a ≡ answer_as (with_exchange u m.exchange) n outcome.Done m.note m.flags → left a after put ≡ block_out u r room o
block_left u room o {after = after} {m = m} e q f p =
    all (p ∙ ap (λ (k : ℕ). answer_as (with_exchange u m.exchange) k outcome.Done m.note m.flags) q.0) refl q.1
    ∙ ap (λ (y : Outgoing). leaves (block_on u y room) (with_exchange u m.exchange) outcome.Done m after o) e
    ∙ ap (λ (y : Telling). block_out u y room o) f

-- ---- the short ways

-- where what is being sent is as it was and nothing is told, the courier does nothing
at_rest : (s : Sending) (l : Line) (k : ℕ) → courier_by (same_message s s) (sending_by s) (sending_by s) told.Nothing l k ≡ carried l k
at_rest sending.Nothing l k = refl
at_rest (sending.Primary p n) l k = rw (eq-eqb p p refl, eq-eqb n n refl) refl
at_rest (sending.Reply p f n) l k = rw (eq-eqb p p refl, eq-eqb f f refl, eq-eqb n n refl) refl
at_rest (sending.Report f n) l k = rw (eq-eqb f f refl, eq-eqb n n refl) refl

-- what is left where the line settles and nothing else is done
abbrev settling : Out → Link → List ℕ → List ℕ → Left
settling p u room o = leaves (codes p (settle_of u.line).out) (with_line u (settle_of u.line).line) outcome.Done (untold u.exchange note.Nothing) room o

-- so it is where nothing is told or remarked, and time changes nothing
quiet_onward : (p : Out) (ticks : Bool) (t : Told) (r : Remark) (u : Link) (room o : List ℕ) → says_nothing t r ≡ true
    → passing ticks u.settings.terms (untold u.exchange note.Nothing) ≡ untold u.exchange note.Nothing
    → onward p ticks t u (hearing t r u room) o ≡ settling p u room o
quiet_onward p ticks told.Nothing remark.Nothing u room o q still =
    let s = u.exchange.sending in
    ap (λ (m : Midway). settled u p (courier_by (same_message s m.exchange.sending) (sending_by s) (sending_by m.exchange.sending) told.Nothing u.line u.block) m outcome.Done room o)
    still
    ∙ ap (λ (c : Carried). settled u p c (untold u.exchange note.Nothing) outcome.Done room o) (at_rest s u.line u.block)
quiet_onward p ticks told.Nothing remark.GaveWay u room o q still = absurd (false≢true q)
quiet_onward p ticks told.Nothing remark.NoLength u room o q still = absurd (false≢true q)
quiet_onward p ticks told.Nothing remark.Gap u room o q still = absurd (false≢true q)
quiet_onward p ticks told.Nothing (remark.Bad fault) u room o q still = absurd (false≢true q)
quiet_onward p ticks told.PutOut r u room o q still = absurd (false≢true q)
quiet_onward p ticks told.Sent r u room o q still = absurd (false≢true q)
quiet_onward p ticks told.Failed r u room o q still = absurd (false≢true q)
quiet_onward p ticks (told.Up n) r u room o q still = absurd (false≢true q)

-- no block goes out then
quiet_byte : (p : Out) (t : Told) (r : Remark) (u : Link) (room o : List ℕ) → is_quiet p t r ≡ true
    → byte_onward p t u (hearing t r u room) room o ≡ settling p u room o
quiet_byte out.Nothing t r u room o q = quiet_onward out.Nothing false t r u room o q refl
quiet_byte (out.Code c) t r u room o q = quiet_onward (out.Code c) false t r u room o q refl
quiet_byte out.Block t r u room o q = absurd (false≢true q)

quiet_says : (p : Out) (t : Told) (r : Remark) → is_quiet p t r ≡ true → says_nothing t r ≡ true
quiet_says out.Nothing t r q = q
quiet_says (out.Code c) t r q = q
quiet_says out.Block t r q = absurd (false≢true q)

-- what the short way answers: v is the unit as the line's step left it
module _ (v : Link) (room o : List ℕ) (put : Out) {a : Answer} {f : Flags} {now : List ℕ}
    (settles : (a ≡ settled_as v put outcome.Done note.Nothing f) × (now ≡ settled_out v put o)) (none : f ≡ no_flags) where
  shortly : left a room now ≡ settling put v room o
  shortly = closes room (settles.0 ∙ ap (λ (g : Flags). settled_as v put outcome.Done note.Nothing g) none) settles.1

  pub short_byte : (t : Told) (r : Remark) → is_quiet put t r ≡ true
      → left a room now ≡ byte_onward put t v (hearing t r v room) room o
  short_byte t r q = shortly ∙ sym (quiet_byte put t r v room o q)

  pub short_tick : (t : Told) (r : Remark) → is_quiet put t r ≡ true
      → length v.exchange.own ≡ 4 → length v.exchange.incoming ≡ 4 → is_still v.exchange ≡ true
      → left a room now ≡ onward put true t v (hearing t r v room) o
  short_tick t r q four fours still =
      shortly ∙ sym (quiet_onward put true t r v room o (quiet_says put t r q) (ap (ticked (untold v.exchange note.Nothing)) (still_tick v.settings.terms v.exchange four fours still)))

-- ---- a request

pub requests : (u : Link) (a : Requesting) (o : List ℕ) {q : Requested} {room : List ℕ} {x : Left} → requesting q room ≡ a → x ≡ requested_by q.asked u q.exchange room o → x ≡ requested_as u a o
requests u a o e p = p ∙ ap (λ (z : Requesting). requested_as u z o) e
