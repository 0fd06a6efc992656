-- What is printed for a number says it, and reads back. Assumes nothing.
use Prim.Native.Nat.{ℕ}
use mathlib.Core.Path.{subst}
use mathlib.Core.List.{[]}
use native.Mathlib.Omega.{arith}
use Rattle.text.specs.Theorems.{Says}
use Rattle.text.proofs.NumberRules.{number_exactly, says_one, says_behind}
use Rattle.script.specs.Printed.{ones_of, with_ones, number_text}
use Rattle.script.specs.ReadingRules.{NumberReads}
use Rattle.script.proofs.Digits.{by_digits}

number_says : (n : ℕ) → Says (number_text n) n
number_says =
    by_digits (λ n text. Says text n) (λ n h. subst (Says (with_ones [] n)) (omega arith) (says_one (ones_of n) (omega arith, omega arith)))
    (λ n text h s. subst (Says (with_ones text n)) (omega arith) (says_behind (ones_of n) s (omega arith, omega arith)))

pub number_reads : NumberReads
number_reads n = record { says = number_says n; reads = λ h. ((number_exactly (number_text n)).said n).1 (h, number_says n) }
