-- What a report shows has ten bytes, of every unit that is reached: a block goes up with ten header bytes (exchange/proofs/Tens.antt). Assumes
-- nothing.
use Prim.Native.Nat.{ℕ}
use mathlib.Core.Path.{refl, subst}
use mathlib.Core.Bool.{Bool, true, false}
use mathlib.Core.List.{List}
use Rattle.line.specs.declared.step.Told.{Told}
use Rattle.line.specs.declared.step.Told.TheVariants as told
use Rattle.exchange.specs.History as exchange
use Rattle.exchange.proofs.Runs.{Each, none, one_more, each_more, four_places, run_alone}
use Rattle.exchange.proofs.Tens.{Tens, TenCall, tens_on, tens_fresh}
use Rattle.link.specs.Run.{has_next}
use Rattle.link.specs.History.{Call, byte, tick, drained, request, Made, unless_refused, step_in, told_on, itself, on_exchange, came_to, Track, exchange_track, terms_in, on_exchange_in, next}
use Rattle.link.specs.Inside.{Always, Reached}
use Rattle.link.specs.declared.Outcome.{Outcome}
use Rattle.link.specs.declared.Outcome.TheVariants as outcome
use Rattle.link.proofs.inside.Reached.{by_calls}
use Rattle.link.proofs.inside.Places.{lent, goes, sound_inside}

-- ---- what a call tells

abbrev TenCalls : List exchange.Call → Type 0
TenCalls = Each TenCall

told_tens : (t : Told) (next : Bool) (rs : List ℕ) → TenCalls (told_on t next rs)
told_tens told.Nothing next rs = none
told_tens told.PutOut true rs = none
told_tens told.PutOut false rs = one_more tt none
told_tens told.Sent true rs = none
told_tens told.Sent false rs = one_more tt none
told_tens told.Failed next rs = one_more tt none
told_tens (told.Up n) next rs = one_more refl none

itself_tens : (k : Call) → TenCalls (itself k)
itself_tens (byte b fits) = none
itself_tens tick = one_more tt none
itself_tens drained = none
itself_tens (request r) = one_more tt none

unless_tens : (o : Outcome) (ks : List exchange.Call) → TenCalls ks → TenCalls (unless_refused o ks)
unless_tens outcome.Done ks w = w
unless_tens (outcome.Taken p) ks w = w
unless_tens (outcome.Refused r) ks w = none

-- ---- any calls

tens_next : (t : Track) → Reached t → (m : Made) → Tens t.link.exchange → Tens (next t m).link.exchange
tens_next t w m g =
    let c = terms_in t in
    let u = t.link in
    let h = step_in u m.call in
    let calls : TenCalls (on_exchange_in t m) =
    unless_tens (came_to u (lent t m) m.out m.call) (on_exchange u m.call)
    (each_more TenCall _ (itself m.call) (told_tens h.step.told (has_next u) h.received) (itself_tens m.call)) in
    subst Tens (goes t m)
    (run_alone c Tens TenCall (λ x room k i s v. tens_on c x room (four_places x s) v k i) (exchange_track t (lent t m)) (on_exchange_in t m) calls (sound_inside t w) g)

pub tens_inside : Always (λ t. Tens t.link.exchange)
tens_inside t w = by_calls (λ v. Tens v.link.exchange) tens_next t w (tens_fresh w.setup.last)
