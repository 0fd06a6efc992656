-- `number` meets its contract.
use Rattle.std.proofs.Common.{◌≡◌, ◌<◌, ◌≤◌, Some, None, length, get_or, rules, arith, sym, ◌∙◌}
use Rattle.text.specs.Number.{with_digit}
use Rattle.text.proofs.Scanning.{digit_most, digits_some, digits_none, digits_end, some_digits, no_digits}
use Rattle.parse.proofs.decimal.number.Goals as goal

pub returns-then-text-eq0 : goal.returns-then-text-eq0
returns-then-text-eq0 c = no_digits (c.args.text.now) c.if-text-eq0.true

pub returns-in_err-value : goal.returns-in_err-value
returns-in_err-value c =
    let text = c.args.text.now in
    let i = c.loop-byte.byte-index in
    let more : i < length text = search rules in
    let fails : with_digit c.loop-byte.value (get_or text i 0) ≡ None = search rules in
    let is : c.from_residual.result ≡ None = search rules in
    is ∙ sym (digits_none text i c.loop-byte.value more fails) ∙ c.loop-byte.invariant.1 ∙ some_digits text (omega (arith, more))

pub loop-byte-preserved : goal.loop-byte-preserved
loop-byte-preserved c =
    let text = c.args.text.now in
    let i = c.loop-byte.byte-index in
    let more : i < length text = search rules in
    let next : with_digit c.loop-byte.value (get_or text i 0) ≡ Some c.in_ok-value.value = search rules in
    (digit_most _ _ _ next, sym (digits_some text i c.loop-byte.value _ more next) ∙ c.loop-byte.invariant.1)

pub returns : goal.returns
returns c =
    let text = c.args.text.now in
    let end : length text ≤ c.loop-byte.byte-index = search rules in
    sym (digits_end text c.loop-byte.byte-index c.loop-byte.value end) ∙ c.loop-byte.invariant.1 ∙ some_digits text (omega (arith, c.if-text-eq0.false))
