-- A block goes up exactly if one has come whole, and its bytes are those that came (`specs/Device.antt`). Assumes nothing.
use Prim.Native.Nat.{ℕ, ◌+◌, ◌-◌, ◌≤◌}
use mathlib.Core.Path.{◌≡◌, refl, sym, ap, subst, ◌∙◌}
use mathlib.Core.Bool.{Bool, true, cond, false≢true}
use mathlib.Core.List.{List, [], ◌∷◌, ◌++◌}
use native.Mathlib.Omega.{arith}
use lib.ListN.{length, take, drop, length-append, length-take}
use lib.Seq.{take-add, take_at, drop_at}
use borrow.Author.Tests.{eqb-true, eq-eqb}
use Rattle.wire.specs.Bytes.{part, halves_of}
use Rattle.wire.specs.Sum.{checksum_of}
use Rattle.header.specs.Header.{first_ten}
use Rattle.header.proofs.Headers.{first_ten_lem}
use Rattle.settings.specs.declared.limits.Limits.{Limits}
use Rattle.line.specs.Codes.{EOT, ACK}
use Rattle.line.specs.History as line
use Rattle.line.specs.Theorems.{IsBlock}
use Rattle.line.proofs.Alone.{ticks_tell}
use Rattle.line.proofs.Cases.{ByByte, by_byte}
use Rattle.line.proofs.Receiving.{up_is_what_came, whole_goes_up}
use Rattle.line.proofs.Sending.{onlooker_right}
use Rattle.line.specs.declared.phase.Phase.{Phase}
use Rattle.line.specs.declared.phase.Phase.TheVariants.{Idle, WaitEot, Draining, WaitAck, WaitLength, Body, Silence}
use Rattle.line.specs.declared.step.Out.{Out}
use Rattle.line.specs.declared.step.Out.TheVariants as out
use Rattle.line.specs.declared.step.Step.{Step}
use Rattle.line.specs.declared.step.Told.TheVariants as told
use Rattle.exchange.specs.History as exchange
use Rattle.link.specs.History.{Call, byte, tick, drained, request, Made, step_in, Track, line_track, limits_in}
use Rattle.link.specs.Inside.{Reached}
use Rattle.link.specs.Verdicts.{Tells}
use Rattle.link.specs.Device.{comes, UpExactly, WentUpExactly}
use Rattle.link.proofs.inside.Reached.{line_inside}
use Rattle.link.proofs.device.Told.{told_exactly}

-- ---- it goes up while one is received

abbrev Receives : Phase → ℕ → Step → Type 0
Receives p n s = s.told ≡ told.Up n → line.theirs_at p ≡ true

receives : (c : Limits) (h : Bool) (p : Phase) (b n : ℕ) → ByByte (Receives p n) c h p b
receives c h Idle b n = (λ e. absurd (false≢true cc), λ e. absurd (false≢true cc))
receives c h (WaitEot timer tries) b n = (λ e. absurd (false≢true cc), λ e. absurd (false≢true cc), λ k e. absurd (false≢true cc))
receives c h (Draining tries) b n = λ e. absurd (false≢true cc)
receives c h (WaitAck timer tries) b n = (λ e. absurd (false≢true cc), λ e. absurd (false≢true cc), λ e. absurd (false≢true cc))
receives c h (WaitLength timer) b n = (λ e. refl, λ e. refl)
receives c h (Body timer a) b n = (λ x e. refl, λ e. refl, λ f e. refl)
receives c h (Silence timer fault) b n = λ e. refl

-- ---- what came since our EOT, with this byte

-- ACK leaves with it, and no EOT
came_with :
    (n b : ℕ) (body bs : List ℕ) (o : Out) (theirs : Bool) → o ≡ out.Code ACK → theirs ≡ true
    → IsBlock n body (cond (line.puts EOT o) [] (cond theirs (bs ++ (b ∷ [])) bs)) → IsBlock n body (bs ++ (b ∷ []))
came_with n b body bs o theirs e r w =
    subst (λ (z : Out × Bool). IsBlock n body (cond (line.puts EOT z.0) [] (cond z.1 (bs ++ (b ∷ [])) bs))) (λ i. (e i, r i)) w

module _ (t : Track) (w : Reached t) where
  abbrev c : Limits
  c = limits_in t

  came : (k : Call) (n : ℕ) → (step_in t.link k).step.told ≡ told.Up n
      → (t.seen.theirs ≡ true) × (b : ℕ) × (comes b k ≡ true) × IsBlock n (take n (step_in t.link k).received) (t.seen.bytes ++ (b ∷ []))
  came (byte b fits) n e =
      let l = t.link.line in
      let theirs = (onlooker_right c (line_track t) (line_inside t w)).theirs ∙ by_byte (Receives l.phase n) c l.held l.phase b t.link.received (receives c l.held l.phase b n) e in
      let up = up_is_what_came c (line_track t) (line_inside t w) (line.byte b fits) n e in
      (theirs, b, eq-eqb b b refl, came_with n b _ t.seen.bytes _ t.seen.theirs up.acknowledged theirs up.whole)
  came tick n e = absurd ((ticks_tell c t.link.line).not_up n e)
  came drained n e = absurd (false≢true cc)
  came (request r) n e = absurd (false≢true cc)

  rises : (k : Call) (n b : ℕ) (body : List ℕ) → t.seen.theirs ≡ true → comes b k ≡ true → IsBlock n body (t.seen.bytes ++ (b ∷ []))
      → (step_in t.link k).step.told ≡ told.Up n
  rises (byte x fits) n b body r i k =
      whole_goes_up c (line_track t) (line_inside t w) r x fits n body (subst (λ z. IsBlock n body (t.seen.bytes ++ (z ∷ []))) (sym (eqb-true x b i)) k)
  rises tick n b body r i k = absurd (false≢true i)
  rises drained n b body r i k = absurd (false≢true i)
  rises (request q) n b body r i k = absurd (false≢true i)

pub up_exactly : UpExactly
up_exactly t w m n = (
  λ s.
      let z = came t w m.call n s.told in
      (_, record { accepted = s.accepted; receiving = z.0; last = z.1; came = z.2; whole = z.3 }),
  λ a. record { accepted = a.1.accepted; told = rises t w m.call n a.1.last a.0 a.1.receiving a.1.came a.1.whole },
)

-- ---- its bytes

-- the n bytes of a body in the array are its header and its data
body_read : (n : ℕ) (rs : List ℕ) → 10 ≤ n → length (take n rs) ≡ n → take n rs ≡ first_ten rs ++ part 10 n rs
unfolding part
body_read n rs ten full =
    let long : 10 ≤ length rs = omega (arith, length-take n rs) in
    let sum : 10 + (n - 10) ≡ n = omega arith in
    ap (λ k. take k rs) (sym sum) ∙ take-add 10 (n - 10) rs ∙ ap (λ xs. xs ++ take (n - 10) (drop 10 rs)) (sym (first_ten_lem rs long))

-- what begins with ten bytes has them, and what is behind them, but one way
fronts : (h k d e : List ℕ) → length h ≡ 10 → length k ≡ 10 → h ++ d ≡ k ++ e → (h ≡ k) × (d ≡ e)
fronts h k d e x y z = (
  sym (take_at h d 10 x) ∙ ap (λ xs. take 10 xs) z ∙ take_at k e 10 y,
  sym (drop_at h d 10 x) ∙ ap (λ xs. drop 10 xs) z ∙ drop_at k e 10 y,
)

-- the same bytes are one block
one_body : (n : ℕ) (a b bs : List ℕ) → IsBlock n a bs → IsBlock n b bs → a ≡ b
one_body n a b bs v w =
    let same : n ∷ (a ++ halves_of (checksum_of a)) ≡ n ∷ (b ++ halves_of (checksum_of b)) = sym v.came ∙ w.came in
    let tails : a ++ halves_of (checksum_of a) ≡ b ++ halves_of (checksum_of b) = cc in
    sym (take_at a _ n v.counted) ∙ ap (λ xs. take n xs) tails ∙ take_at b _ n w.counted

-- one byte comes in a call
one_byte : (k : Call) (a b : ℕ) → comes a k ≡ true → comes b k ≡ true → a ≡ b
one_byte (byte x fits) a b i j = sym (eqb-true x a i) ∙ eqb-true x b j
one_byte tick a b i j = absurd (false≢true i)
one_byte drained a b i j = absurd (false≢true i)
one_byte (request r) a b i j = absurd (false≢true i)

pub went_up_exactly : WentUpExactly
went_up_exactly t w m h d = (
  λ u.
      let rs = (step_in t.link m.call).received in
      let z = came t w m.call u.size u.told.told in
      let body : take u.size rs ≡ h ++ d = body_read u.size rs z.3.not_short z.3.counted ∙ (λ i. u.header i ++ u.rest i) in
      let ten : length h ≡ 10 = sym (ap length u.header) in
      let size : u.size ≡ 10 + length d = omega (arith, z.3.counted, ap length body, length-append h d) in (
        ten,
        record {
          accepted = u.told.accepted;
          receiving = z.0;
          last = z.1;
          came = z.2;
          whole = subst (λ (p : ℕ × List ℕ). IsBlock p.0 p.1 (t.seen.bytes ++ (z.1 ∷ []))) (λ i. (size i, body i)) z.3;
        },
      ),
  λ a.
      let rs = (step_in t.link m.call).received in
      let n = 10 + length d in
      let up = rises t w m.call n a.1.last (h ++ d) a.1.receiving a.1.came a.1.whole in
      let z = came t w m.call n up in
      let same = one_byte m.call z.1 a.1.last z.2 a.1.came in
      let body : take n rs ≡ h ++ d = one_body n (take n rs) (h ++ d) (t.seen.bytes ++ (a.1.last ∷ [])) (subst (λ x. IsBlock n (take n rs) (t.seen.bytes ++ (x ∷ []))) same z.3) a.1.whole in
      let parts = fronts (first_ten rs) h (part 10 n rs) d refl a.0 (sym (body_read n rs z.3.not_short z.3.counted) ∙ body) in
      record { size = n; told = record { accepted = a.1.accepted; told = up }; header = parts.0; rest = parts.1 },
)

-- ---- how much goes up

-- "length N (10 to 254)": beside its header a block has 244 bytes at most
pub few_up : (t : Track) → Reached t → (m : Made) (h d : List ℕ) → Tells t m (exchange.block h d) → length d ≤ 244
few_up t w m h d a = omega (arith, ((went_up_exactly t w m h d).0 (((told_exactly t m).block h d).0 a)).1.whole.not_long)
