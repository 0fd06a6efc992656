-- Where a block causes no report and ends no message, what the rules leave is what judging leaves; else the reports come behind it. Assumes
-- nothing.
use Prim.Native.Nat.{ℕ}
use mathlib.Core.Path.{◌≡◌, refl, sym, ap, ◌∙◌}
use mathlib.Core.Bool.{false, false≢true}
use mathlib.Core.List.{List}
use Rattle.settings.specs.declared.terms.Terms.{Terms}
use Rattle.exchange.specs.Judge.{Judging, judging, caused_by, reporting, box_behind}
use Rattle.exchange.specs.Reports.{with_outbox, outbox_of, is_over, freed, freed_in}
use Rattle.exchange.specs.declared.Exchange.{Exchange}
use Rattle.exchange.specs.declared.Judged.{Judged}
use Rattle.exchange.specs.declared.Note.{Note}
use Rattle.exchange.specs.declared.Note.TheVariants.{Kept, Misrouted, Duplicate, Stray, NoPlace, TooLong, Empty}
use Rattle.exchange.specs.declared.Outbox.{Outbox}
use Rattle.exchange.specs.declared.Sending.{Sending}
use Rattle.judging.specs.Short.{causes}

uncaused : (n : Note) (c : Terms) (y : Exchange) (h : List ℕ) (b : Outbox) → causes n ≡ false → caused_by n c y h b ≡ b
uncaused Kept c y h b e = refl
uncaused Misrouted c y h b e = absurd (false≢true (sym e))
uncaused Duplicate c y h b e = refl
uncaused Stray c y h b e = refl
uncaused NoPlace c y h b e = refl
uncaused TooLong c y h b e = absurd (false≢true (sym e))
uncaused Empty c y h b e = refl

not_freed : (s : Sending) (y : Exchange) → is_over s y.sending ≡ false → freed_in s y ≡ outbox_of y
unfolding freed freed_in
not_freed s y e = rw e refl

silent : (c : Terms) (s : Sending) (h : List ℕ) (j : Judged) → causes j.note ≡ false → is_over s j.exchange.sending ≡ false → reporting c s h j ≡ j
unfolding box_behind
silent c s h j e f =
    ap (λ (b : Outbox). record { exchange = with_outbox j.exchange b; note = j.note; flags = j.flags })
    (uncaused j.note c j.exchange h (freed_in s j.exchange) e ∙ not_freed s j.exchange f)

-- behind the rules
pub reports_on : (c : Terms) (s : Sending) (h : List ℕ) {j k : Judged} {room : List ℕ} {r : Judging} → k ≡ reporting c s h j → judging j room ≡ r
    → judging k room ≡ judging (reporting c s h r.answer) r.room
reports_on c s h {room = room} e f = ap (λ (x : Judged). judging x room) e ∙ ap (λ (x : Judging). judging (reporting c s h x.answer) x.room) f

pub silently : (c : Terms) (s : Sending) (h : List ℕ) {j : Judged} {room : List ℕ} {r : Judging} → causes j.note ≡ false → is_over s j.exchange.sending ≡ false
    → judging j room ≡ r → judging j room ≡ judging (reporting c s h r.answer) r.room
silently c s h {j} e f q = reports_on c s h (sym (silent c s h j e f)) q
