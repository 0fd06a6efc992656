-- `command::read_line` meets its contract.
use Rattle.std.proofs.Common.{◌≡◌, Some, None, ap, sym, ◌∙◌, arith, rules}
use borrow.Author.Tests.{lt-ltb}
use Rattle.text.specs.Field.{field_of, letter_of}
use Rattle.script.specs.Command.{told, command_by, line_read}
use Rattle.text.proofs.Scanning.{behind_length}
use Rattle.scribe.proofs.Commanding.{arm}
use Rattle.scribe.proofs.command.read_line.Goals as goal

pub returns-then-line-gt1024 : goal.returns-then-line-gt1024
unfolding line_read
returns-then-line-gt1024 c = simp (lt-ltb _ _ c.if-line-gt1024.true)

pub returns-in_err-letter : goal.returns-in_err-letter
unfolding command_by
returns-in_err-letter c =
    let is : c.from_residual.result ≡ None = search rules in
    let letter : None ≡ letter_of (field_of c.args.line.now) = search rules in
    ap (λ r. told r c.args.bytes.now) is ∙ arm c.args.line.now _ c.args.bytes.now None c.if-line-gt1024.false letter c.behind-text.ensures

pub open-requires : goal.open-requires
open-requires c = rw c.behind-text.ensures (omega (arith, behind_length c.args.line.now, c.if-line-gt1024.false))

pub reply-requires : goal.reply-requires
reply-requires c = rw c.behind-text.ensures (omega (arith, behind_length c.args.line.now, c.if-line-gt1024.false))

pub bytes_in-requires : goal.bytes_in-requires
bytes_in-requires c = rw c.behind-text.ensures (omega (arith, behind_length c.args.line.now, c.if-line-gt1024.false))

pub returns-in-72 : goal.returns-in-72
unfolding command_by
returns-in-72 c =
    let letter : Some 72 ≡ letter_of (field_of c.args.line.now) = search rules in
    ap (λ r. told r c.args.bytes.now) c.start.ensures ∙ arm c.args.line.now _ c.args.bytes.now (Some 72) c.if-line-gt1024.false letter c.behind-text.ensures

pub returns-in-69 : goal.returns-in-69
unfolding command_by
returns-in-69 c =
    let letter : Some 69 ≡ letter_of (field_of c.args.line.now) = search rules in
    ap (λ r. told r c.args.bytes.now) c.start-in-69.ensures ∙ arm c.args.line.now _ c.args.bytes.now (Some 69) c.if-line-gt1024.false letter c.behind-text.ensures

pub returns-in-79 : goal.returns-in-79
unfolding command_by
returns-in-79 c =
    let letter : Some 79 ≡ letter_of (field_of c.args.line.now) = search rules in
    c.open.ensures ∙ arm c.args.line.now _ c.args.bytes.now (Some 79) c.if-line-gt1024.false letter c.behind-text.ensures

pub returns-in-82 : goal.returns-in-82
unfolding command_by
returns-in-82 c =
    let letter : Some 82 ≡ letter_of (field_of c.args.line.now) = search rules in
    c.reply.ensures ∙ arm c.args.line.now _ c.args.bytes.now (Some 82) c.if-line-gt1024.false letter c.behind-text.ensures

pub returns-in-76 : goal.returns-in-76
unfolding command_by
returns-in-76 c =
    let letter : Some 76 ≡ letter_of (field_of c.args.line.now) = search rules in
    ap (λ r. told r c.args.bytes.now) c.release.ensures ∙ arm c.args.line.now _ c.args.bytes.now (Some 76) c.if-line-gt1024.false letter c.behind-text.ensures

pub returns-in-66 : goal.returns-in-66
unfolding command_by
returns-in-66 c =
    let letter : Some 66 ≡ letter_of (field_of c.args.line.now) = search rules in
    c.bytes_in.ensures ∙ arm c.args.line.now _ c.args.bytes.now (Some 66) c.if-line-gt1024.false letter c.behind-text.ensures

pub returns-in-84 : goal.returns-in-84
unfolding command_by
returns-in-84 c =
    let letter : Some 84 ≡ letter_of (field_of c.args.line.now) = search rules in
    ap (λ r. told r c.args.bytes.now) c.ticks.ensures ∙ arm c.args.line.now _ c.args.bytes.now (Some 84) c.if-line-gt1024.false letter c.behind-text.ensures

pub returns-in-68 : goal.returns-in-68
unfolding command_by
returns-in-68 c =
    let letter : Some 68 ≡ letter_of (field_of c.args.line.now) = search rules in
    ap (λ r. told r c.args.bytes.now) c.alone.ensures ∙ arm c.args.line.now _ c.args.bytes.now (Some 68) c.if-line-gt1024.false letter c.behind-text.ensures

pub returns-in-86 : goal.returns-in-86
unfolding command_by
returns-in-86 c =
    let letter : Some 86 ≡ letter_of (field_of c.args.line.now) = search rules in
    ap (λ r. told r c.args.bytes.now) c.verdict.ensures ∙ arm c.args.line.now _ c.args.bytes.now (Some 86) c.if-line-gt1024.false letter c.behind-text.ensures

pub returns-in-75 : goal.returns-in-75
unfolding command_by
returns-in-75 c =
    let letter : Some 75 ≡ letter_of (field_of c.args.line.now) = search rules in
    ap (λ r. told r c.args.bytes.now) c.alone-in-75.ensures ∙ arm c.args.line.now _ c.args.bytes.now (Some 75) c.if-line-gt1024.false letter c.behind-text.ensures

pub returns-in_default : goal.returns-in_default
unfolding command_by
returns-in_default c =
    let text = c.behind-text.result.now in
    let other : command_by (Some c.in_ok-letter.field-0) c.args.line.now text c.args.bytes.now ≡ told None c.args.bytes.now = search rules in
    let letter : Some c.in_ok-letter.field-0 ≡ letter_of (field_of c.args.line.now) = search rules in
    sym other ∙ arm c.args.line.now text c.args.bytes.now (Some c.in_ok-letter.field-0) c.if-line-gt1024.false letter c.behind-text.ensures
