-- The calls of a line, one behind another: each is lent what lies behind the output of those before it. Assumes nothing.
use Prim.Native.Nat.{ℕ, zero, suc, ◌+◌, ◌-◌, ◌≤◌, ◌<◌}
use mathlib.Core.Path.{◌≡◌, refl, ap, ◌∙◌}
use mathlib.Core.List.{List, [], ◌++◌, append-nil}
use native.Mathlib.Omega.{arith}
use lib.ListN.{length, take, drop, get_or, length-append, length-drop}
use lib.Seq.{take_all, length-take-le, drop-cons, drop-drop, drop-length}
use borrow.Rule.Slice.PartMut.{put_mid}
use Rattle.link.specs.Run.{Left, left}
use Rattle.link.specs.History.{Call, called}
use Rattle.link.specs.declared.Answer.{Answer}
use Rattle.link.specs.declared.Link.{Link}
use Rattle.link.proofs.refusals.Writes.{writes_only}
use Rattle.talk.specs.Run.{Running, running, joined_ran, joins, byte_run, tick_run, bytes_run, ticks_run}
use Rattle.talk.specs.declared.Ran.{Ran}
use Rattle.talk.specs.Answer.{done, done_by, shown_ran}
use Rattle.talk.specs.declared.Shown.{Shown}

-- what lies behind the first n bytes is lent, and comes back
window : (out : List ℕ) (n : ℕ) → n ≤ length out → take (length out - n) (drop n out) ≡ drop n out
window out n h = take_all (length out - n) (drop n out) (omega (arith, length-drop n out))

lent_back : (out back : List ℕ) (n : ℕ) → n ≤ length out → put_mid n (length out - n) out back ≡ take n out ++ back
lent_back out back n h =
    let whole : n + (length out - n) ≡ length out = omega arith in
    let none : drop (length out - n) (drop n out) ≡ [] = drop-drop (length out - n) n out ∙ ap (λ (k : ℕ). drop k out) whole ∙ drop-length out in
    rw (none, append-nil)

-- a call that was lent it, as one more of the calls of a line
pub joined_back :
    (f : List ℕ → Left) (out room back : List ℕ) (n : ℕ) (a : Answer) (r : Ran) → n ≤ length out
    → left a room back ≡ f (take (length out - n) (drop n out)) → r ≡ joined_ran n a
    → running r room (put_mid n (length out - n) out back) ≡ joins n out (f (drop n out))
joined_back f out room back n a r h e j = rw (j, lent_back out back n h) (ap (joins n out) (e ∙ ap f (window out n h)))

-- a call puts out few bytes
pub few : (u : Link) (room o : List ℕ) (k : Call) (l : Left) → l ≡ called u room o k → l.answer.count ≤ 4096
few u room o k l e = rw e (omega (arith, (writes_only u room o k).output.most))

-- after one call more there are as many bytes of memory as there were, and the output lies within them
pub record Fits (s t : Running) : Type 0 where
  pub within : t.ran.count ≤ length t.out
  pub outs : length t.out ≡ length s.out
  pub rooms : length t.room ≡ length s.room

-- the calls of a line, and one more
abbrev further : Running → Call → Running
further s k = joins s.ran.count s.out (called s.ran.link s.room (drop s.ran.count s.out) k)

pub fits : (s t : Running) (k : Call) → s.ran.count ≤ length s.out → t ≡ further s k → Fits s t
fits s t k h e =
    let n : ℕ = s.ran.count in
    let w = writes_only s.ran.link s.room (drop n s.out) k in
    let size : length (further s k).out ≡ length s.out =
    omega (arith, w.output.size, length-drop n s.out, length-take-le n s.out h, length-append (take n s.out) (called s.ran.link s.room (drop n s.out) k).out) in
    rw e (record {
      within = omega (arith, size, w.output.within, length-drop n s.out);
      outs = size;
      rooms = w.size;
    })

-- ---- loops

pub bytes_on : (s : Running) (bs : List ℕ) (i : ℕ) → i < length bs → bytes_run s (drop i bs) ≡ bytes_run (byte_run s (get_or bs i 0)) (drop (i + 1) bs)
unfolding bytes_run
bytes_on s bs i h =
    let next : suc i ≡ i + 1 = omega arith in
    ap (bytes_run s) (drop-cons bs i 0 h) ∙ ap (λ (k : ℕ). bytes_run (byte_run s (get_or bs i 0)) (drop k bs)) next

pub bytes_end : (s : Running) (bs : List ℕ) (i : ℕ) → i ≡ length bs → bytes_run s (drop i bs) ≡ s
unfolding bytes_run
bytes_end s bs i e = rw (e, drop-length)

pub ticks_on : (s : Running) (n : ℕ) → 1 ≤ n → ticks_run s n ≡ ticks_run (tick_run s) (n - 1)
unfolding ticks_run
ticks_on s zero h = absurd (omega arith)
ticks_on s (suc n) h = let same : n ≡ suc n - 1 = omega arith in ap (ticks_run (tick_run s)) same

pub ticks_end : (s : Running) (n : ℕ) → n ≤ 0 → ticks_run s n ≡ s
unfolding ticks_run
ticks_end s zero h = refl
ticks_end s (suc n) h = absurd (omega arith)

-- ---- what a line comes to

-- one call, by itself
pub by_call :
    (out room back : List ℕ) (a : Answer) (r : Ran) (shown : Shown) (l : Left) → shown ≡ shown_ran r → r ≡ joined_ran 0 a → left a room back ≡ l
    → done shown room back ≡ done_by (joins 0 out l)
by_call out room back a r shown l p j e = rw (p, j) (ap (λ (x : Left). done_by (joins 0 out x)) e)

-- many
pub by_run : (room out : List ℕ) (r : Ran) (shown : Shown) (s : Running) → shown ≡ shown_ran r → running r room out ≡ s → done shown room out ≡ done_by s
by_run room out r shown s p e = rw p (ap done_by e)
