-- A reply that is arriving has an even function, after any calls: so no block of a primary is taken for one of it. Assumes nothing.
use Rattle.std.specs.Prelude.{Option, Some, None}
use Prim.Native.Nat.{ℕ, ◌%◌, ◌<◌}
use mathlib.Core.Path.{◌≡◌, ap, subst, ◌∙◌}
use mathlib.Core.List.{List, [], ◌∷◌}
use Rattle.wire.proofs.Choice.{chosen}
use Rattle.header.specs.declared.header.Header.{Header}
use Rattle.settings.specs.Timer.{ticked}
use Rattle.settings.specs.declared.terms.Terms.{Terms}
use Rattle.place.specs.Arriving.{waited_by, arriving_tick}
use Rattle.place.specs.Fate.{fate_of}
use Rattle.place.specs.Own.{primary_of, ended, first_out, acknowledged, awaited_by, await_tick, replying_by, reply_tick, own_kept, own_takes, replied_by, replied, own_offered}
use Rattle.place.specs.OwnHistory.{Event, claim, put_out, sent, failed, tick, release, block, step, Track, next, track, at_start}
use Rattle.place.specs.declared.Arriving.{Arriving}
use Rattle.place.specs.declared.Fate.{Fate}
use Rattle.place.specs.declared.Fate.TheVariants.{Empty, TooLong, Last, More}
use Rattle.place.specs.declared.OwnStage.{OwnStage}
use Rattle.place.specs.declared.OwnStage.TheVariants.{Free, Sending, PutOut, Awaiting, Replying, Done}
use Rattle.place.specs.declared.Own.{Own}
use Rattle.exchange.specs.Exchange.{own_place}
use Rattle.exchange.specs.Rules.{OfReply, first, further}
use Rattle.exchange.specs.History as exchange
use Rattle.exchange.specs.Theorems.{Reached}
use Rattle.exchange.proofs.Judging.{reply_says}
use Rattle.exchange.proofs.Inside.{places_inside}

abbrev EvenAt : OwnStage → Type 0
EvenAt Free = Unit {0}
EvenAt Sending = Unit {0}
EvenAt PutOut = Unit {0}
EvenAt (Awaiting timer) = Unit {0}
EvenAt (Replying a) = a.kind.function % 2 ≡ 0
EvenAt (Done v r) = Unit {0}

abbrev pub Even : Own → Type 0
Even o = EvenAt o.stage

-- a block that is taken has an even function
pub even_taken : (o : Own) (b : Header) → Even o → OfReply o b → b.function % 2 ≡ 0
even_taken o b w (first a system even starts) = even
even_taken o b w (further a e k) = ap (λ (f : ℕ). f % 2) k.function ∙ subst EvenAt e w

-- ---- one event

abbrev at : List ℕ → OwnStage → Own
at h s = record { header = h; stage = s }

-- a block that is taken
replies : (o : Own) (b : Header) (f : Fate) → b.function % 2 ≡ 0 → Even (replied_by o b f)
unfolding ended
replies o b Empty e = tt
replies o b TooLong e = tt
replies o b (Last n) e = tt
replies o b (More n) e = e

-- T3 or T4 runs on, or out
awaits_on : (o : Own) (w : Option ℕ) → Even (awaited_by o w)
unfolding ended
awaits_on o None = tt
awaits_on o (Some n) = tt

replies_on : (o : Own) (a : Arriving) (w : Option ℕ) → a.kind.function % 2 ≡ 0 → Even (replying_by o (waited_by a w))
unfolding ended
replies_on o a None e = tt
replies_on o a (Some n) e = e

-- its last block is out, or was acknowledged
goes_out : (h : List ℕ) → Even (first_out (at h Sending))
unfolding first_out
goes_out h = chosen Even (primary_of (at h Sending)).w _ _ (λ t. tt) (λ t. tt)

acks : (o : Own) → Even (acknowledged o)
unfolding acknowledged ended
acks o = chosen Even (primary_of o).w _ _ (λ t. tt) (λ t. tt)

pub even_step : (c : Terms) (h : List ℕ) (s : OwnStage) (e : Event c) → EvenAt s → Even (step (at h s) e)
unfolding ended await_tick reply_tick arriving_tick own_offered replied
even_step c h s (block b n q) w =
    chosen Even (own_takes (at h s) b) _ _
    (λ t. replies (at h s) b (fate_of b (own_kept (at h s)).length n) (even_taken (at h s) b w ((reply_says (at h s) b).0 t))) (λ t. w)
even_step c h Free (claim b) w = tt
even_step c h Free put_out w = w
even_step c h Free sent w = w
even_step c h Free failed w = w
even_step c h Free tick w = w
even_step c h Free release w = w
even_step c h Sending (claim b) w = w
even_step c h Sending put_out w = goes_out h
even_step c h Sending sent w = acks (at h Sending)
even_step c h Sending failed w = tt
even_step c h Sending tick w = w
even_step c h Sending release w = w
even_step c h PutOut (claim b) w = w
even_step c h PutOut put_out w = w
even_step c h PutOut sent w = acks (at h PutOut)
even_step c h PutOut failed w = tt
even_step c h PutOut tick w = w
even_step c h PutOut release w = w
even_step c h (Awaiting n) (claim b) w = w
even_step c h (Awaiting n) put_out w = w
even_step c h (Awaiting n) sent w = w
even_step c h (Awaiting n) failed w = w
even_step c h (Awaiting n) tick w = awaits_on (at h (Awaiting n)) (ticked c.t3 n)
even_step c h (Awaiting n) release w = w
even_step c h (Replying a) (claim b) w = w
even_step c h (Replying a) put_out w = w
even_step c h (Replying a) sent w = w
even_step c h (Replying a) failed w = w
even_step c h (Replying a) tick w = replies_on (at h (Replying a)) a (ticked c.t4 a.timer) w
even_step c h (Replying a) release w = w
even_step c h (Done v r) (claim b) w = w
even_step c h (Done v r) put_out w = w
even_step c h (Done v r) sent w = w
even_step c h (Done v r) failed w = w
even_step c h (Done v r) tick w = w
even_step c h (Done v r) release w = tt

-- ---- any events, and any calls

events : (c : Terms) (t : Track) (es : List (Event c)) → Even t.own → Even (track t es).own
unfolding track
events c t [] w = w
events c t (e ∷ es) w = events c (next t e) es (even_step c t.own.header t.own.stage e w)

pub evens : (c : Terms) (t : exchange.Track) → Reached c t → (p : ℕ) → p < 4 → Even (own_place t.exchange p)
evens c t w p k =
    let i = (places_inside c t w).own p k in
    subst Even (ap (λ (u : Track). u.own) i.reached.so ∙ i.so) (events c at_start i.reached.events tt)
