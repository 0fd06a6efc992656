-- Which message is being sent: two are the same to an onlooker (`same_message`, specs/Reports.antt) exactly if they are equal. Assumes nothing.
use mathlib.Core.Path.{◌≡◌, refl, sym, ◌∙◌, subst}
use mathlib.Core.Bool.{true, false, ◌&&◌, false≢true}
use mathlib.Core.Logic.{◌≢◌}
use lib.Dec.{eqb}
use borrow.Author.Tests.{eqb-true, eq-eqb}
use Rattle.wire.proofs.Choice.{either, both}
use Rattle.exchange.specs.Reports.{same_message}
use Rattle.exchange.specs.declared.Sending.{Sending}
use Rattle.exchange.specs.declared.Sending.TheVariants as sending

pub same_message_lem : (a b : Sending) → same_message a b ≡ true → a ≡ b
same_message_lem sending.Nothing sending.Nothing e = refl
same_message_lem sending.Nothing (sending.Primary q m) e = absurd (false≢true e)
same_message_lem sending.Nothing (sending.Reply q g m) e = absurd (false≢true e)
same_message_lem sending.Nothing (sending.Report g m) e = absurd (false≢true e)
same_message_lem (sending.Primary p n) sending.Nothing e = absurd (false≢true e)
same_message_lem (sending.Primary p n) (sending.Primary q m) e =
    let w = (both (eqb p q) (eqb n m)).0 e in λ i. sending.Primary (eqb-true p q w.0 i) (eqb-true n m w.1 i)
same_message_lem (sending.Primary p n) (sending.Reply q g m) e = absurd (false≢true e)
same_message_lem (sending.Primary p n) (sending.Report g m) e = absurd (false≢true e)
same_message_lem (sending.Reply p f n) sending.Nothing e = absurd (false≢true e)
same_message_lem (sending.Reply p f n) (sending.Primary q m) e = absurd (false≢true e)
same_message_lem (sending.Reply p f n) (sending.Reply q g m) e =
    let w = (both (eqb p q) (eqb f g && eqb n m)).0 e in
    let v = (both (eqb f g) (eqb n m)).0 w.1 in
    λ i. sending.Reply (eqb-true p q w.0 i) (eqb-true f g v.0 i) (eqb-true n m v.1 i)
same_message_lem (sending.Reply p f n) (sending.Report g m) e = absurd (false≢true e)
same_message_lem (sending.Report f n) sending.Nothing e = absurd (false≢true e)
same_message_lem (sending.Report f n) (sending.Primary q m) e = absurd (false≢true e)
same_message_lem (sending.Report f n) (sending.Reply q g m) e = absurd (false≢true e)
same_message_lem (sending.Report f n) (sending.Report g m) e =
    let w = (both (eqb f g) (eqb n m)).0 e in λ i. sending.Report (eqb-true f g w.0 i) (eqb-true n m w.1 i)

-- it is the same as itself
itself : (a : Sending) → same_message a a ≡ true
itself sending.Nothing = refl
itself (sending.Primary p n) = (both (eqb p p) (eqb n n)).1 (eq-eqb p p refl, eq-eqb n n refl)
itself (sending.Reply p f n) = (both (eqb p p) (eqb f f && eqb n n)).1 (eq-eqb p p refl, (both (eqb f f) (eqb n n)).1 (eq-eqb f f refl, eq-eqb n n refl))
itself (sending.Report f n) = (both (eqb f f) (eqb n n)).1 (eq-eqb f f refl, eq-eqb n n refl)

pub message_same : (a b : Sending) → a ≡ b → same_message a b ≡ true
message_same a b e = subst (λ (z : Sending). same_message a z ≡ true) e (itself a)

pub other_message : (a b : Sending) → a ≢ b → same_message a b ≡ false
other_message a b ne = either (same_message a b) (λ t. t ≡ false) (λ e. absurd (ne (same_message_lem a b e))) (λ e. refl)

pub message_other : (a b : Sending) → same_message a b ≡ false → a ≢ b
message_other a b other e = false≢true (sym other ∙ message_same a b e)
