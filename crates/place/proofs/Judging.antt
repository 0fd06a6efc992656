-- A block is judged as 01 says (`specs/Judging.antt`). Assumes nothing.
use Prim.Native.Nat.{ℕ}
use mathlib.Core.Path.{◌≡◌, refl, sym, ap, ◌∙◌}
use mathlib.Core.Bool.{true, false, false≢true}
use native.Mathlib.Omega.{arith}
use Rattle.place.specs.Fate.{begins_reply, begins_primary}
use Rattle.place.specs.Judging.{PrimaryExactly, ReplyExactly, ContinuesExactly, Judged, FateExactly}
use Rattle.place.proofs.Messages.{starts_with, continues, by_fate}
use Rattle.place.specs.declared.Fate.{Fate}
use Rattle.place.specs.declared.Fate.TheVariants.{Empty, TooLong, Last, More}

pub primary_exactly : PrimaryExactly
unfolding begins_primary
primary_exactly h = starts_with h 1

pub reply_exactly : ReplyExactly
unfolding begins_reply
reply_exactly h = starts_with h 0

pub continues_exactly : ContinuesExactly
continues_exactly = continues

-- the length that a fate tells
abbrev told : Fate → ℕ
told Empty = 0
told TooLong = 0
told (Last n) = n
told (More n) = n

-- two fates that differ are not the same
never : {A : Type 0} → false ≡ true → A
never e = absurd (false≢true e)

pub fate_exactly : FateExactly
fate_exactly h have size =
    by_fate h have size (Judged h have size)
    (λ lacks.
    record {
      empty = (λ e. lacks, λ w. refl);
      too_long_lem = (λ e. never cc, λ w. absurd (w.0 lacks));
      last = λ n. (λ e. never cc, λ w. absurd (w.0 lacks));
      more = λ n. (λ e. never cc, λ w. absurd (w.0 lacks));
    })
    (λ has long.
    record {
      empty = (λ e. never cc, λ w. absurd (has w));
      too_long_lem = (λ e. (has, long), λ w. refl);
      last = λ n. (λ e. never cc, λ w. absurd (omega arith));
      more = λ n. (λ e. never cc, λ w. absurd (omega arith));
    })
    (λ has ends fits.
    record {
      empty = (λ e. never cc, λ w. absurd (has w));
      too_long_lem = (λ e. never cc, λ w. absurd (omega arith));
      last = λ n. (λ e. (has, fits, ends, sym (ap told e)), λ w. ap Last (sym w.3));
      more = λ n. (λ e. never cc, λ w. never (sym w.2 ∙ ends));
    })
    (λ has ends fits some.
    record {
      empty = (λ e. never cc, λ w. absurd (has w));
      too_long_lem = (λ e. never cc, λ w. absurd (omega arith));
      last = λ n. (λ e. never cc, λ w. never (sym ends ∙ w.2));
      more = λ n. (λ e. (has, fits, ends, sym (ap told e)), λ w. ap More (sym w.3));
    })
