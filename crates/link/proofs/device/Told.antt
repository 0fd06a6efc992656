-- What the line has to do with what a call tells the transactions (`specs/Device.antt`). Assumes nothing.
use Prim.Native.Nat.{ℕ, ◌<◌}
use mathlib.Core.Path.{◌≡◌, refl, sym, subst}
use mathlib.Core.Bool.{Bool, true, false, cond, false≢true}
use mathlib.Core.List.{List, [], ◌∷◌, ◌++◌}
use mathlib.Core.Logic.{◌↔◌, ◌≢◌}
use Rattle.wire.specs.Bytes.{part}
use Rattle.wire.proofs.Choice.{either}
use Rattle.header.specs.Header.{first_ten}
use Rattle.line.specs.Codes.{EOT, ACK}
use Rattle.line.specs.Line.{Heard}
use Rattle.line.specs.History as line
use Rattle.line.proofs.Invariant.{Cause}
use Rattle.line.proofs.Always.{after_one}
use Rattle.line.proofs.Alone.{block_alone, ticks_tell}
use Rattle.line.proofs.Sending.{each_enq_its_block, send_ends_by, ack_means_sent}
use Rattle.line.specs.declared.step.Step.{Step}
use Rattle.line.specs.declared.step.Told.{Told}
use Rattle.line.specs.declared.step.Told.TheVariants as told
use Rattle.exchange.specs.History as exchange
use Rattle.exchange.proofs.Runs.{Each, none, one_more, each_more}
use Rattle.link.specs.Run.{has_next}
use Rattle.link.specs.History.{Call, byte, tick, drained, request, Made, step_in, told_on, itself, on_exchange, Track, line_track, limits_in}
use Rattle.link.specs.Inside.{Reached}
use Rattle.link.specs.Verdicts.{Accepted, Among, here, later, Tells}
use Rattle.link.specs.Device as device
use Rattle.link.specs.Device.{LineTells, comes, PutOutExactly, SentExactly, ToldExactly, Few, FewTold}
use Rattle.link.specs.declared.Link.{Link}
use Rattle.link.proofs.inside.Reached.{line_inside}
use Rattle.link.proofs.Accepted.{by_outcome, accepted_calls}

-- ---- lists of calls

-- what holds of each holds of one of them
pub each_among : (K : exchange.Call → Type 0) (ks : List exchange.Call) → Each K ks → (k : exchange.Call) → Among k ks → K k
each_among K [] is k a = elim a [ ]
each_among K (_ ∷ ks) (one_more i is) k here = i
each_among K (_ ∷ ks) (one_more i is) k (later a) = each_among K ks is k a

pub front_among : (k : exchange.Call) (ks js : List exchange.Call) → Among k ks → Among k (ks ++ js)
front_among k [] js a = elim a [ ]
front_among k (_ ∷ ks) js here = here
front_among k (_ ∷ ks) js (later a) = later (front_among k ks js a)

back_among : (k : exchange.Call) (ks js : List exchange.Call) → Among k js → Among k (ks ++ js)
back_among k [] js a = a
back_among k (j ∷ ks) js a = later (back_among k ks js a)

-- ---- each thing exactly when

-- why the transactions are told this, where the line tells e in call c
abbrev Why : Told → Bool → List ℕ → Call → exchange.Call → Type 0
Why e next rs c (exchange.block h d) = (n : ℕ) × (e ≡ told.Up n) × (first_ten rs ≡ h) × (part 10 n rs ≡ d)
Why e next rs c exchange.tick = c ≡ tick
Why e next rs c exchange.put_out = (e ≡ told.PutOut) × (next ≡ false)
Why e next rs c exchange.acknowledged = (e ≡ told.Sent) × (next ≡ false)
Why e next rs c exchange.failed = e ≡ told.Failed
Why e next rs c (exchange.request r) = c ≡ request r

-- of a block of a message they are told this, if it is the last
at_last : (P : Bool → List exchange.Call → Type 0) (k : exchange.Call) (next : Bool) → P true [] → P false (k ∷ []) → P next (cond next [] (k ∷ []))
at_last P k next on last = either next (λ z. P z (cond z [] (k ∷ []))) (λ z. on) (λ z. last)

told_why : (e : Told) (next : Bool) (rs : List ℕ) (c : Call) → Each (Why e next rs c) (told_on e next rs)
told_why told.Nothing next rs c = none
told_why told.PutOut next rs c =
    at_last (λ z ks. Each (Why told.PutOut z rs c) ks) exchange.put_out next none (one_more {k = exchange.put_out} (refl, refl) none)
told_why told.Sent next rs c =
    at_last (λ z ks. Each (Why told.Sent z rs c) ks) exchange.acknowledged next none (one_more {k = exchange.acknowledged} (refl, refl) none)
told_why told.Failed next rs c = one_more refl none
told_why (told.Up n) next rs c = one_more {k = exchange.block (first_ten rs) (part 10 n rs)} (n, refl, refl, refl) none

itself_why : (e : Told) (next : Bool) (rs : List ℕ) (c : Call) → Each (Why e next rs c) (itself c)
itself_why e next rs (byte b fits) = none
itself_why e next rs tick = one_more refl none
itself_why e next rs drained = none
itself_why e next rs (request r) = one_more refl none

-- what they are told of a last block
so_last : (f e : Told) (next : Bool) (rs : List ℕ) (c : Call) (k : exchange.Call) → Among k (told_on f false rs) → (e ≡ f) × (next ≡ false)
    → Among k (told_on e next rs ++ itself c)
so_last f e next rs c k a w =
    front_among k (told_on e next rs) (itself c) (subst (λ (z : Told × Bool). Among k (told_on z.0 z.1 rs)) (λ i. (sym w.0 i, sym w.1 i)) a)

-- and so they are told it
so_told : (e : Told) (next : Bool) (rs : List ℕ) (c : Call) (k : exchange.Call) → Why e next rs c k → Among k (told_on e next rs ++ itself c)
so_told e next rs c (exchange.block h d) w =
    subst (λ (z : Told × List ℕ × List ℕ). Among (exchange.block z.1 z.2) (told_on z.0 next rs ++ itself c)) (λ i. (sym w.1 i, w.2 i, w.3 i)) here
so_told e next rs c exchange.tick w = back_among exchange.tick (told_on e next rs) (itself c) (subst (λ (z : Call). Among exchange.tick (itself z)) (sym w) here)
so_told e next rs c exchange.put_out w = so_last told.PutOut e next rs c exchange.put_out here w
so_told e next rs c exchange.acknowledged w = so_last told.Sent e next rs c exchange.acknowledged here w
so_told e next rs c exchange.failed w = subst (λ (z : Told). Among exchange.failed (told_on z next rs ++ itself c)) (sym w) here
so_told e next rs c (exchange.request r) w =
    back_among (exchange.request r) (told_on e next rs) (itself c) (subst (λ (z : Call). Among (exchange.request r) (itself z)) (sym w) here)

module _ (t : Track) (m : Made) where
  abbrev made : Heard
  made = step_in t.link m.call

  abbrev WhyIn : exchange.Call → Type 0
  WhyIn = Why made.step.told (has_next t.link) made.received m.call

  abbrev Because : exchange.Call → Type 0
  Because k = Accepted t m × WhyIn k

  why : (k : exchange.Call) → Tells t m k → Because k
  why k =
      let e = made.step.told in
      let next = has_next t.link in
      let rs = made.received in
      by_outcome t m (λ ks. Among k ks → Because k)
      (λ a i. (a, each_among WhyIn (on_exchange t.link m.call) (each_more WhyIn _ (itself m.call) (told_why e next rs m.call) (itself_why e next rs m.call)) k i))
      (λ r i. each_among Because [] none k i)

  so : (k : exchange.Call) → Because k → Tells t m k
  so k w =
      subst (Among k) (sym (accepted_calls t m w.0))
      (so_told made.step.told (has_next t.link) made.received m.call k w.1)

  -- of a last block
  last_told : (k : exchange.Call) (f : Told) → (WhyIn k ↔ ((made.step.told ≡ f) × (has_next t.link ≡ false)))
      → Tells t m k ↔ (LineTells t m f × (has_next t.link ≡ false))
  last_told k f is = (
    λ a. let w = why k a in let z = is.0 w.1 in (record { accepted = w.0; told = z.0 }, z.1),
    λ w. so k (w.0.accepted, is.1 (w.0.told, w.1)),
  )

pub told_exactly : ToldExactly
told_exactly t m = record {
  put_out = last_told t m exchange.put_out told.PutOut (λ z. z, λ z. z);
  acknowledged = last_told t m exchange.acknowledged told.Sent (λ z. z, λ z. z);
  failed = (
    λ a. let w = why t m exchange.failed a in record { accepted = w.0; told = w.1 },
    λ w. so t m exchange.failed (w.accepted, w.told),
  );
  block = λ h d. (
    λ a. let w = why t m (exchange.block h d) a in record { size = w.1.0; told = record { accepted = w.0; told = w.1.1 }; header = w.1.2; rest = w.1.3 },
    λ w. so t m (exchange.block h d) (w.told.accepted, (w.size, w.told.told, w.header, w.rest)),
  );
  ticks = (why t m exchange.tick, so t m exchange.tick);
  asks = λ r. (why t m (exchange.request r), so t m (exchange.request r));
}

-- ---- few of them in one call

by_byte : (e : Told) (next : Bool) (rs : List ℕ) → Few (told_on e next rs ++ [])
by_byte told.Nothing next rs = device.none
by_byte told.PutOut next rs = at_last (λ z ks. Few (ks ++ [])) exchange.put_out next device.none (device.one exchange.put_out)
by_byte told.Sent next rs = at_last (λ z ks. Few (ks ++ [])) exchange.acknowledged next device.none (device.one exchange.acknowledged)
by_byte told.Failed next rs = device.one exchange.failed
by_byte (told.Up n) next rs = device.one _

-- of what a tick can tell
by_tick : (e : Told) (next : Bool) (rs : List ℕ) → e ≢ told.PutOut → e ≢ told.Sent → ((n : ℕ) → e ≢ told.Up n) → Few (told_on e next rs ++ (exchange.tick ∷ []))
by_tick told.Nothing next rs not_out not_sent not_up = device.one exchange.tick
by_tick told.PutOut next rs not_out not_sent not_up = absurd (not_out refl)
by_tick told.Sent next rs not_out not_sent not_up = absurd (not_sent refl)
by_tick told.Failed next rs not_out not_sent not_up = device.lost_on_tick_lem
by_tick (told.Up n) next rs not_out not_sent not_up = absurd (not_up n refl)

pub few_on : (u : Link) (k : Call) → Few (on_exchange u k)
few_on u (byte b fits) = by_byte (step_in u (byte b fits)).step.told (has_next u) (step_in u (byte b fits)).received
few_on u tick =
    let q = ticks_tell u.settings.limits u.line in
    by_tick (step_in u tick).step.told (has_next u) u.received q.not_out q.not_sent q.not_up
few_on u drained = device.none
few_on u (request r) = device.one (exchange.request r)

pub few_told : FewTold
few_told t m = by_outcome t m Few (λ a. few_on t.link m.call) (λ r. device.none)

-- ---- EOT, ACK

-- a byte that comes, comes in a call with one
by_coming : (x : ℕ) (P : Call → Type 0) → ((b : ℕ) (fits : b < 256) → comes x (byte b fits) ≡ true → P (byte b fits)) → (k : Call) → comes x k ≡ true → P k
by_coming x P at_byte (byte b fits) i = at_byte b fits i
by_coming x P at_byte tick i = absurd (false≢true i)
by_coming x P at_byte drained i = absurd (false≢true i)
by_coming x P at_byte (request r) i = absurd (false≢true i)

module _ (t : Track) (w : Reached t) where
  abbrev step_at : Call → Step
  step_at k = (step_in t.link k).step

  -- what the line tells at a byte alone
  at_bytes : (f : Told) (P : Call → Type 0) → told.Nothing ≢ f → (step_at tick).told ≢ f
      → ((b : ℕ) (fits : b < 256) → (step_at (byte b fits)).told ≡ f → P (byte b fits)) → (k : Call) → (step_at k).told ≡ f → P k
  at_bytes f P something no_tick at_byte (byte b fits) e = at_byte b fits e
  at_bytes f P something no_tick at_byte tick e = absurd (no_tick e)
  at_bytes f P something no_tick at_byte drained e = absurd (something e)
  at_bytes f P something no_tick at_byte (request r) e = absurd (something e)

  pub ack_came : (k : Call) → (step_at k).told ≡ told.Sent → (comes ACK k ≡ true) × (t.seen.ours ≡ line.left)
  ack_came =
      at_bytes told.Sent (λ k. (comes ACK k ≡ true) × (t.seen.ours ≡ line.left)) (λ e. false≢true cc) (ticks_tell (limits_in t) t.link.line).not_sent
      (λ b fits e. let z = (send_ends_by (limits_in t) (line_track t) (line_inside t w) (line.byte b fits)).sent e in (z.1, z.0))

  pub ack_tells : (k : Call) → comes ACK k ≡ true → t.seen.ours ≡ line.left → (step_at k).told ≡ told.Sent
  ack_tells k i o =
      by_coming ACK (λ j. (step_at j).told ≡ told.Sent) (λ b fits z. ack_means_sent (limits_in t) (line_track t) (line_inside t w) o (line.byte b fits) z) k i

  pub eot_came : (k : Call) → (step_at k).told ≡ told.PutOut → (comes EOT k ≡ true) × (t.seen.ours ≡ line.enquired)
  eot_came =
      at_bytes told.PutOut (λ k. (comes EOT k ≡ true) × (t.seen.ours ≡ line.enquired)) (λ e. false≢true cc) (ticks_tell (limits_in t) t.link.line).not_out
      (λ b fits e.
      let k = line.byte b fits in
      let after = line.next (limits_in t) (line_track t) k in
      let z = subst (Cause (limits_in t) k t.seen after.seen after.received (step_at (byte b fits)).out) e (after_one (limits_in t) (line_track t) (line_inside t w) k).cause in
      (z.1, z.0))

  pub eot_tells : (k : Call) → comes EOT k ≡ true → t.seen.ours ≡ line.enquired → (step_at k).told ≡ told.PutOut
  eot_tells k i o =
      by_coming EOT (λ j. (step_at j).told ≡ told.PutOut)
      (λ b fits z.
      ((block_alone (limits_in t) t.link.line t.link.received).block (line.byte b fits)
      (each_enq_its_block (limits_in t) (line_track t) (line_inside t w) o (line.byte b fits) z)).told) k i

  -- of a call that is not refused
  line_exactly : (f : Told) (x : ℕ) (o : line.Ours) (m : Made)
      → ((step_at m.call).told ≡ f → (comes x m.call ≡ true) × (t.seen.ours ≡ o))
      → (comes x m.call ≡ true → t.seen.ours ≡ o → (step_at m.call).told ≡ f)
      → LineTells t m f ↔ (Accepted t m × (comes x m.call ≡ true) × (t.seen.ours ≡ o))
  line_exactly f x o m came tells = (
    λ s. let z = came s.told in (s.accepted, z.0, z.1),
    λ a. record { accepted = a.0; told = tells a.1 a.2 },
  )

pub put_out_exactly : PutOutExactly
put_out_exactly t w m = line_exactly t w told.PutOut EOT line.enquired m (eot_came t w m.call) (eot_tells t w m.call)

pub sent_exactly : SentExactly
sent_exactly t w m = line_exactly t w told.Sent ACK line.left m (ack_came t w m.call) (ack_tells t w m.call)
