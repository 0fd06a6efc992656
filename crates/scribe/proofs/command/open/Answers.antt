-- `command::open` puts the bytes that the last field says.
use Rattle.std.proofs.Common.{◌≡◌, Some, ap, ◌∙◌, arith, rules}
use Rattle.text.specs.Field.{behind_of}
use Rattle.script.specs.Command.{from_field, primary_in, open_by}
use Rattle.script.specs.declared.Command.TheVariants.{Open}
use Rattle.scribe.proofs.Commanding.{from_length, told_by}
use Rattle.scribe.proofs.command.open.Goals as goal

pub data-requires : goal.data-requires
data-requires c =
    let from4 : c.behind-from_data.result.now ≡ from_field 4 c.args.text.now =
    c.behind-from_data.ensures ∙ ap behind_of (c.behind-3.ensures ∙ ap behind_of (c.behind-2.ensures ∙ ap behind_of c.behind.ensures)) in
    rw from4 (omega (arith, from_length 4 c.args.text.now, c.requires))

pub returns-in_err-length : goal.returns-in_err-length
unfolding open_by
returns-in_err-length c =
    let text = c.args.text.now in
    let q = c.in_ok-primary.primary in
    let from4 : c.behind-from_data.result.now ≡ from_field 4 text =
    c.behind-from_data.ensures ∙ ap behind_of (c.behind-3.ensures ∙ ap behind_of (c.behind-2.ensures ∙ ap behind_of c.behind.ensures)) in
    let primary : primary_in text ≡ Some q = search rules in
    told_by (λ n. Open q n) _ c.data.result _ _ (search rules) (c.data.ensures (λ n. Open q n)) ∙ rw (from4, primary)

pub returns : goal.returns
unfolding open_by
returns c =
    let text = c.args.text.now in
    let q = c.in_ok-primary.primary in
    let from4 : c.behind-from_data.result.now ≡ from_field 4 text =
    c.behind-from_data.ensures ∙ ap behind_of (c.behind-3.ensures ∙ ap behind_of (c.behind-2.ensures ∙ ap behind_of c.behind.ensures)) in
    let primary : primary_in text ≡ Some q = search rules in
    told_by (λ n. Open q n) _ c.data.result _ _ (search rules) (c.data.ensures (λ n. Open q n)) ∙ rw (from4, primary)
