-- `command::reply` puts the bytes that the last field says.
use Rattle.std.proofs.Common.{◌≡◌, Some, ap, ◌∙◌, arith, rules}
use Rattle.text.specs.Field.{behind_of}
use Rattle.script.specs.Command.{from_field, number_at, reply_by}
use Rattle.script.specs.declared.Command.TheVariants.{Reply}
use Rattle.scribe.proofs.Commanding.{from_length, told_by}
use Rattle.scribe.proofs.command.reply.Goals as goal

pub data-requires : goal.data-requires
data-requires c =
    let from2 : c.behind.result.now ≡ from_field 2 c.args.text.now = c.behind.ensures ∙ ap behind_of c.behind-from_function.ensures in
    rw from2 (omega (arith, from_length 2 c.args.text.now, c.requires))

pub returns-in_err-length : goal.returns-in_err-length
unfolding reply_by
returns-in_err-length c =
    let text = c.args.text.now in
    let p = c.in_ok-place.place in
    let f = c.in_ok-function.function in
    let from2 : c.behind.result.now ≡ from_field 2 text = c.behind.ensures ∙ ap behind_of c.behind-from_function.ensures in
    let place : number_at 255 0 text ≡ Some p = search rules in
    let function : number_at 255 1 text ≡ Some f = search rules in
    told_by (λ n. Reply p f n) _ c.data.result _ _ (search rules) (c.data.ensures (λ n. Reply p f n)) ∙ rw (from2, place, function)

pub returns : goal.returns
unfolding reply_by
returns c =
    let text = c.args.text.now in
    let p = c.in_ok-place.place in
    let f = c.in_ok-function.function in
    let from2 : c.behind.result.now ≡ from_field 2 text = c.behind.ensures ∙ ap behind_of c.behind-from_function.ensures in
    let place : number_at 255 0 text ≡ Some p = search rules in
    let function : number_at 255 1 text ≡ Some f = search rules in
    told_by (λ n. Reply p f n) _ c.data.result _ _ (search rules) (c.data.ensures (λ n. Reply p f n)) ∙ rw (from2, place, function)
