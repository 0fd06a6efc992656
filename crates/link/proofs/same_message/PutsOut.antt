-- The last block of the message being sent is put out: no tick has a part in that, and it has none in what the message's ACK leaves. So it does
-- not matter how many ticks pass between the two: what is reported meanwhile waits. Assumes nothing.
use Rattle.std.specs.Prelude.{Option, Some, None}
use Prim.Native.Nat.{ℕ, zero, suc}
use mathlib.Core.Path.{◌≡◌, refl, sym, ap, ◌∙◌}
use mathlib.Core.Bool.{Bool, true, cond, not, ◌&&◌}
use mathlib.Core.List.{List, [], ◌∷◌, map}
use mathlib.Core.Logic.{◌⊎◌, inl, inr}
use lib.Dec.{eqb}
use lib.ListN.{set, get_or-map}
use lib.Seq.{get_or-set_other}
use borrow.Author.Tests.{eqb-true, eqb-false}
use Rattle.wire.proofs.Choice.{either, chosen}
use Rattle.header.specs.Header.{header_of}
use Rattle.settings.specs.Timer.{ticked}
use Rattle.settings.specs.declared.terms.Terms.{Terms}
use Rattle.place.specs.Arriving.{arriving_tick}
use Rattle.place.specs.Own.{fresh_own, ended, own_has_verdict, first_out, own_put_out, acknowledged, own_sent, awaited_by, await_tick, replying_by, reply_tick, own_tick}
use Rattle.place.specs.declared.OwnStage.{OwnStage}
use Rattle.place.specs.declared.OwnStage.TheVariants.{Free, Sending, PutOut, Awaiting, Replying, Done}
use Rattle.place.specs.declared.Own.{Own}
use Rattle.table.specs.Own.{own_at}
use Rattle.table.specs.Number.{number_of}
use Rattle.reports.specs.Reports.{report}
use Rattle.exchange.specs.Exchange.{own_place, got_verdict, latest_after, put_own, with_sending}
use Rattle.exchange.specs.Request.{sending_by}
use Rattle.exchange.specs.Reports.{outbox_of, with_outbox, awaits, reported, caused, freed_in}
use Rattle.exchange.specs.Send.{outgoing_at, outgoing_of, put_out_by, put_out_of, ended_own, sent_by, sent_of}
use Rattle.exchange.specs.Tick.{latest_over, passed_of, no_reply_at, got_no_reply, late_at, late_over, tick_of}
use Rattle.exchange.specs.BeingSent.{NoneOrReport, none, report as a_report, ReportBegins}
use Rattle.exchange.specs.Assembly.{passes}
use Rattle.exchange.proofs.BeingSent.{sending_ends}
use Rattle.exchange.specs.declared.Sending.{Sending as BeingSent}
use Rattle.exchange.specs.declared.Sending.TheVariants as sending
use Rattle.exchange.specs.declared.Exchange.{Exchange}
use Rattle.exchange.specs.declared.Outbox.{Outbox}
use Rattle.exchange.specs.declared.Outgoing.TheVariants as outgoing
use Rattle.link.specs.Run.{putting_out}
use Rattle.place.specs.declared.Arriving.{Arriving}

-- ---- a place

abbrev at : List ℕ → OwnStage → Own
at h s = record { header = h; stage = s }

-- it is at another stage then, or as it was
by_out : (P : Own → Type 0) (h : List ℕ) (s : OwnStage) → (s ≡ Sending → P (at h PutOut)) → P (at h s) → P (own_put_out (at h s))
unfolding first_out
by_out P h Free out same = same
by_out P h Sending out same = either (header_of h).w (λ z. P (cond z (at h PutOut) (at h Sending))) (λ e. out refl) (λ e. same)
by_out P h PutOut out same = same
by_out P h (Awaiting timer) out same = same
by_out P h (Replying a) out same = same
by_out P h (Done v r) out same = same

module _ (o : Own) where
  out_header : (own_put_out o).header ≡ o.header
  out_header = by_out (λ z. z.header ≡ o.header) o.header o.stage (λ e. refl) refl

  -- no verdict is got by it
  out_verdict : own_has_verdict (own_put_out o) ≡ own_has_verdict o
  out_verdict = by_out (λ z. own_has_verdict z ≡ own_has_verdict o) o.header o.stage (λ e. sym (ap (λ s. own_has_verdict (at o.header s)) e)) refl

  -- verdict 6 neither
  out_late : no_reply_at (own_put_out o).stage ≡ no_reply_at o.stage
  out_late = by_out (λ z. no_reply_at z.stage ≡ no_reply_at o.stage) o.header o.stage (λ e. sym (ap no_reply_at e)) refl

  -- the ACK leaves the same behind it
  out_sent : own_sent (own_put_out o) ≡ own_sent o
  unfolding acknowledged ended
  out_sent = by_out (λ z. own_sent z ≡ own_sent o) o.header o.stage (λ e. sym (ap (λ s. own_sent (at o.header s)) e)) refl

awaited_out : (o : Own) (w : Option ℕ) → awaited_by o w ≡ own_put_out (awaited_by o w)
unfolding ended
awaited_out o None = refl
awaited_out o (Some n) = refl

replying_out : (o : Own) (w : Option Arriving) → replying_by o w ≡ own_put_out (replying_by o w)
unfolding ended
replying_out o None = refl
replying_out o (Some a) = refl

-- and so does a tick
out_ticked : (c : Terms) (h : List ℕ) (s : OwnStage) → own_tick c (own_put_out (at h s)) ≡ own_put_out (own_tick c (at h s))
unfolding first_out await_tick reply_tick
out_ticked c h Free = refl
out_ticked c h Sending =
    either (header_of h).w (λ z. own_tick c (cond z (at h PutOut) (at h Sending)) ≡ cond z (at h PutOut) (at h Sending)) (λ e. refl) (λ e. refl)
out_ticked c h PutOut = refl
out_ticked c h (Awaiting timer) = awaited_out (at h (Awaiting timer)) (ticked c.t3 timer)
out_ticked c h (Replying a) = replying_out (at h (Replying a)) (arriving_tick c a)
out_ticked c h (Done v r) = refl

-- ---- the table

map_set : {A : Type 0} (f : A → A) (l : List A) (p : ℕ) (a : A) → map f (set l p a) ≡ set (map f l) p (f a)
map_set f [] p a = refl
map_set f (x ∷ xs) zero a = refl
map_set f (x ∷ xs) (suc p) a = ap (λ ys. f x ∷ ys) (map_set f xs p a)

set_twice : {A : Type 0} (l : List A) (p : ℕ) (a b : A) → set (set l p a) p b ≡ set l p b
set_twice [] p a b = refl
set_twice (x ∷ xs) zero a b = refl
set_twice (x ∷ xs) (suc p) a b = ap (λ ys. x ∷ ys) (set_twice xs p a b)

-- the table with place p put out
abbrev out_at : List Own → ℕ → List Own
out_at os p = set os p (own_put_out (own_at os p))

-- read at that place
there : (os : List Own) (p : ℕ) → own_at (out_at os p) p ≡ own_put_out (own_at os p)
there [] p = refl
there (o ∷ os) zero = refl
there (o ∷ os) (suc p) = there os p

-- and at any
anywhere : (os : List Own) (p q : ℕ) → own_at (out_at os p) q ≡ cond (eqb p q) (own_put_out (own_at os q)) (own_at os q)
anywhere os p q =
    either (eqb p q) (λ z. own_at (out_at os p) q ≡ cond z (own_put_out (own_at os q)) (own_at os q))
    (λ e. ap (λ (r : ℕ). own_at (out_at os p) r) (sym (eqb-true p q e)) ∙ there os p ∙ ap (λ (r : ℕ). own_put_out (own_at os r)) (eqb-true p q e))
    (λ e. get_or-set_other os p q _ fresh_own (λ z. eqb-false p q e (sym z)))

-- ---- the number of the latest verdict

-- by two places of which each has a verdict exactly if another has, and the later one its header
same_latest : (n : ℕ) (a b x y : Own) → own_has_verdict a ≡ own_has_verdict x → own_has_verdict b ≡ own_has_verdict y → b.header ≡ y.header
    → latest_after n a b ≡ latest_after n x y
unfolding latest_after got_verdict number_of
same_latest n a b x y v w h = λ i. cond (not (v i) && w i) (number_of (record { header = h i; stage = y.stage })) n

latest_stays : (n : ℕ) (o : Own) → latest_after n o (own_put_out o) ≡ n
unfolding latest_after got_verdict
latest_stays n o =
    ap (λ (v : Bool). cond (not (own_has_verdict o) && v) (number_of (own_put_out o)) n) (out_verdict o)
    ∙ either (own_has_verdict o) (λ v. cond (not v && v) (number_of (own_put_out o)) n ≡ n) (λ e. refl) (λ e. refl)

module _ (c : Terms) (os : List Own) (p : ℕ) where
  abbrev tick : List Own → List Own
  tick l = map (own_tick c) l

  tick_out : tick (out_at os p) ≡ out_at (tick os) p
  tick_out =
      let o : Own = own_at os p in
      map_set (own_tick c) os p (own_put_out o)
      ∙ ap (set (tick os) p) (out_ticked c o.header o.stage ∙ ap own_put_out (sym (get_or-map (own_tick c) os p fresh_own)))

  one_latest : (n q : ℕ) → latest_after n (own_at (out_at os p) q) (own_at (tick (out_at os p)) q) ≡ latest_after n (own_at os q) (own_at (tick os) q)
  one_latest n q =
      let a : Own = own_at os q in
      let b : Own = own_at (tick os) q in
      (λ i. latest_after n (anywhere os p q i) ((ap (λ (l : List Own). own_at l q) tick_out ∙ anywhere (tick os) p q) i))
      ∙ either (eqb p q) (λ z. latest_after n (cond z (own_put_out a) a) (cond z (own_put_out b) b) ≡ latest_after n a b)
      (λ e. same_latest n (own_put_out a) (own_put_out b) a b (out_verdict a) (out_verdict b) (out_header b)) (λ e. refl)

  latest_same : (n : ℕ) → latest_over n (out_at os p) (tick (out_at os p)) ≡ latest_over n os (tick os)
  latest_same n =
      let l : List Own = out_at os p in
      let step : ℕ → ℕ → ℕ = λ m q. latest_after m (own_at l q) (own_at (tick l) q) in
      ap (λ (m : ℕ). step (step (step m 1) 2) 3) (one_latest n 0) ∙ ap (λ (m : ℕ). step (step m 2) 3) (one_latest _ 1)
      ∙ ap (λ (m : ℕ). step m 3) (one_latest _ 2) ∙ one_latest _ 3

-- ---- what is reported of a tick while a message is being sent

-- of a place that was o and is q, it waits
abbrev waits_by : Terms → Own → Own → Outbox → Outbox
waits_by c o q b = cond (got_no_reply o q) (cond c.host b (awaits b (report 9 q.header))) b

late_waits : (c : Terms) (os qs : List Own) (latest q : ℕ) (b : Outbox) → sending_by b.sending ≡ true
    → late_at c os qs latest q b ≡ waits_by c (own_at os q) (own_at qs q) b
unfolding late_at caused reported
late_waits c os qs latest q b e = rw e

-- and the message goes on
waits_on : (c : Terms) (o q : Own) (b : Outbox) → sending_by b.sending ≡ true → sending_by (waits_by c o q b).sending ≡ true
waits_on c o q b e =
    chosen (λ (a : Outbox). sending_by a.sending ≡ true) (got_no_reply o q) (cond c.host b (awaits b (report 9 q.header))) b
    (λ t. chosen (λ (a : Outbox). sending_by a.sending ≡ true) c.host b (awaits b (report 9 q.header)) (λ u. e) (λ u. e)) (λ t. e)

late_on : (c : Terms) (os qs : List Own) (latest q : ℕ) (b : Outbox) → sending_by b.sending ≡ true → sending_by (late_at c os qs latest q b).sending ≡ true
late_on c os qs latest q b e = ap (λ (a : Outbox). sending_by a.sending) (late_waits c os qs latest q b e) ∙ waits_on c (own_at os q) (own_at qs q) b e

-- it is the same of a place that is put out
same_late : (c : Terms) (a b : Own) (x : Outbox) → waits_by c (own_put_out a) (own_put_out b) x ≡ waits_by c a b x
unfolding got_no_reply got_verdict
same_late c a b x =
    λ i.
    cond ((not (out_verdict a i) && out_verdict b i) && out_late b i) (cond c.host x (awaits x (report 9 (out_header b i)))) x

module _ (c : Terms) (os : List Own) (p latest now : ℕ) where
  abbrev behind : List Own → List Own
  behind l = tick c os p l

  one_late : (q : ℕ) (b : Outbox) → sending_by b.sending ≡ true
      → late_at c (out_at os p) (behind (out_at os p)) now q b ≡ late_at c os (behind os) latest q b
  one_late q b e =
      let o : Own = own_at os q in
      let r : Own = own_at (behind os) q in
      late_waits c (out_at os p) (behind (out_at os p)) now q b e
      ∙ (λ i. waits_by c (anywhere os p q i) ((ap (λ (l : List Own). own_at l q) (tick_out c os p) ∙ anywhere (behind os) p q) i) b)
      ∙ either (eqb p q) (λ z. waits_by c (cond z (own_put_out o) o) (cond z (own_put_out r) r) b ≡ waits_by c o r b) (λ t. same_late c o r b) (λ t. refl)
      ∙ sym (late_waits c os (behind os) latest q b e)

  late_same : (b : Outbox) → sending_by b.sending ≡ true
      → late_over c (out_at os p) (behind (out_at os p)) now b ≡ late_over c os (behind os) latest b
  unfolding late_over late_at
  late_same b e =
      let then : ℕ → Outbox → Outbox = late_at c (out_at os p) (behind (out_at os p)) now in
      let was : ℕ → Outbox → Outbox = late_at c os (behind os) latest in
      let on : (q : ℕ) (a : Outbox) → sending_by a.sending ≡ true → sending_by (was q a).sending ≡ true = late_on c os (behind os) latest in
      ap (λ (a : Outbox). then 3 (then 2 (then 1 a))) (one_late 0 b e) ∙ ap (λ (a : Outbox). then 3 (then 2 a)) (one_late 1 (was 0 b) (on 0 b e))
      ∙ ap (then 3) (one_late 2 (was 1 (was 0 b)) (on 1 (was 0 b) (on 0 b e)))
      ∙ one_late 3 (was 2 (was 1 (was 0 b))) (on 2 (was 1 (was 0 b)) (on 1 (was 0 b) (on 0 b e)))

-- ---- the transactions

ticked_by : (c : Terms) (x : Exchange) (z : BeingSent) → x.sending ≡ z → (tick_of c (put_out_by z x)).exchange ≡ put_out_by z (tick_of c x).exchange
unfolding passed_of put_own
ticked_by c x sending.Nothing is = refl
ticked_by c x (sending.Primary p n) is =
    let now : List Own = tick c x.own p x.own in
    let latest : latest_over (latest_after x.numbers.latest (own_place x p) (own_put_out (own_place x p))) (out_at x.own p) (tick c x.own p (out_at x.own p))
    ≡ latest_after (latest_over x.numbers.latest x.own now) (own_at now p) (own_put_out (own_at now p)) =
    latest_same c x.own p _ ∙ ap (λ (m : ℕ). latest_over m x.own now) (latest_stays x.numbers.latest (own_place x p)) ∙ sym (latest_stays _ (own_at now p)) in
    let box = late_same c x.own p (latest_over x.numbers.latest x.own now) _ (outbox_of x) (ap sending_by is) in
    λ i. record {
      own = tick_out c x.own p i;
      incoming = (tick_of c x).exchange.incoming;
      saved = x.saved;
      numbers = record { last = (box i).last; latest = latest i };
      sending = (box i).sending;
      reports = (box i).reports;
    }
ticked_by c x (sending.Reply p f n) is = refl
ticked_by c x (sending.Report f n) is = refl

-- a tick that lets a report start has no part in it
same_out : (z v : BeingSent) (x : Exchange) → (v ≡ z) ⊎ ReportBegins z v → put_out_by z x ≡ put_out_by v x
same_out z v x (inl e) = ap (λ (s : BeingSent). put_out_by s x) (sym e)
same_out z v x (inr b) = ap (λ (s : BeingSent). put_out_by s x) b.was ∙ by b.now
  where
    by : {s : BeingSent} → NoneOrReport s → x ≡ put_out_by s x
    by none = refl
    by (a_report f n) = refl

sent_by_lem : (x : Exchange) (z : BeingSent) → (sent_by z (put_out_by z x)).exchange ≡ (sent_by z x).exchange
unfolding ended_own put_own with_sending
sent_by_lem x sending.Nothing = refl
sent_by_lem x (sending.Primary p n) =
    let o : Own = own_place x p in
    let ends : own_sent (own_at (out_at x.own p) p) ≡ own_sent o = ap own_sent (there x.own p) ∙ out_sent o in
    let before : own_has_verdict (own_at (out_at x.own p) p) ≡ own_has_verdict o = ap own_has_verdict (there x.own p) ∙ out_verdict o in
    let latest : latest_after (latest_after x.numbers.latest o (own_put_out o)) (own_at (out_at x.own p) p) (own_sent (own_at (out_at x.own p) p))
    ≡ latest_after x.numbers.latest o (own_sent o) =
    ap (λ (m : ℕ). latest_after m (own_at (out_at x.own p) p) (own_sent (own_at (out_at x.own p) p))) (latest_stays x.numbers.latest o)
    ∙ same_latest _ _ _ o (own_sent o) before (ap own_has_verdict ends) (ap (λ (z : Own). z.header) ends) in
    λ i. record {
      own = (set_twice x.own p (own_put_out o) (own_sent (own_at (out_at x.own p) p)) ∙ ap (set x.own p) ends) i;
      incoming = x.incoming;
      saved = x.saved;
      numbers = record { last = x.numbers.last; latest = latest i };
      sending = sending.Nothing;
      reports = x.reports;
    }
sent_by_lem x (sending.Reply p f n) = refl
sent_by_lem x (sending.Report f n) = refl

outgoing_by : (x : Exchange) (z : BeingSent) → outgoing_at z (put_out_by z x) ≡ outgoing_at z x
unfolding put_own
outgoing_by x sending.Nothing = refl
outgoing_by x (sending.Primary p n) =
    ap (λ (h : List ℕ). outgoing.Message (header_of h) n) (ap (λ (o : Own). o.header) (there x.own p) ∙ out_header (own_place x p))
outgoing_by x (sending.Reply p f n) = refl
outgoing_by x (sending.Report f n) = refl

module _ (c : Terms) (x : Exchange) where
  sent_still : (put_out_of x).sending ≡ x.sending
  sent_still = (sending_ends c x).put_out

  passes_out : (n : ℕ) → passes c (put_out_of x) n ≡ put_out_of (passes c x n)
  unfolding passes
  passes_out zero = refl
  passes_out (suc n) =
      let y : Exchange = passes c x n in
      ap (λ (z : Exchange). (tick_of c z).exchange) (passes_out n) ∙ ticked_by c y y.sending refl
      ∙ same_out y.sending (tick_of c y).exchange.sending (tick_of c y).exchange (sending_ends c y).ticked

  -- of a last block, and of another one
  pub later_out : (more : Bool) (n : ℕ) → passes c (putting_out more x) n ≡ putting_out more (passes c x n)
  unfolding putting_out
  later_out more n = either more (λ z. passes c (cond z x (put_out_of x)) n ≡ cond z (passes c x n) (put_out_of (passes c x n))) (λ e. refl) (λ e. passes_out n)

  -- the message goes on being sent
  pub outgoing_out : (more : Bool) → outgoing_of (putting_out more x) ≡ outgoing_of x
  unfolding putting_out
  outgoing_out more =
      either more (λ z. outgoing_of (cond z x (put_out_of x)) ≡ outgoing_of x) (λ e. refl)
      (λ e. ap (λ (z : BeingSent). outgoing_at z (put_out_of x)) sent_still ∙ outgoing_by x x.sending)

  -- and ends as if it had not been put out
  pub sent_out : (more : Bool) → (sent_of (putting_out more x)).exchange ≡ (sent_of x).exchange
  unfolding putting_out
  sent_out more =
      either more (λ z. (sent_of (cond z x (put_out_of x))).exchange ≡ (sent_of x).exchange) (λ e. refl)
      (λ e.
      ap (λ (z : BeingSent). let y = (sent_by z (put_out_of x)).exchange in with_outbox y (freed_in z y)) sent_still
      ∙ ap (λ (y : Exchange). with_outbox y (freed_in x.sending y)) (sent_by_lem x x.sending))
