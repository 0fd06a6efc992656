-- Own places in use have different numbers, and so different system bytes: "distinct from .. those of all currently open transactions
-- initiated from the same end" (E4 6.8.1). So a reply is for one of them alone. Assumes nothing.
use Rattle.std.specs.Prelude.{Ok, None, Option, Some}
use Prim.Native.Nat.{ℕ, ◌%◌, ◌≤◌, ◌<◌}
use mathlib.Core.Path.{◌≡◌, refl, sym, ap, subst, ◌∙◌}
use mathlib.Core.Bool.{true, false, false≢true}
use mathlib.Core.Logic.{◌≢◌, ⊎_elim}
use Rattle.header.specs.declared.header.Header.{Header}
use Rattle.place.specs.OwnHistory as own
use Rattle.place.specs.Own.{standing_at, free_by, own_standing, primary_of}
use Rattle.place.specs.declared.OwnStage.{OwnStage}
use Rattle.place.specs.declared.OwnStage.TheVariants as stage
use Rattle.place.specs.declared.Own.{Own}
use Rattle.place.specs.declared.Standing.TheVariants as standing
use Rattle.place.proofs.Verdicts.{request_shown, free_exactly as free_exactly'}
use Rattle.exchange.specs.Exchange.{own_place, sent_from}
use Rattle.exchange.specs.Assembly.{expects_at}
use Rattle.exchange.specs.Request.{primary}
use Rattle.exchange.specs.Reading.{own_reading}
use Rattle.exchange.specs.Numbers.{number_shown, NumbersAre, in_use, NumberNew}
use Rattle.exchange.proofs.Numbering.{numbers_fresh, numbers_of, own_numbers, number_distinct}
use Rattle.exchange.proofs.Runs.{four_places}
use Rattle.exchange.specs.declared.Exchange.{Exchange}
use Rattle.exchange.specs.declared.OwnReading.{OwnReading}
use Rattle.exchange.specs.declared.Primary.{Primary}
use Rattle.link.specs.Reading.{own_of}
use Rattle.link.specs.History.{Made, Track, terms_in, next}
use Rattle.link.specs.Inside.{Reached}
use Rattle.link.specs.Verdicts.{request_in}
use Rattle.link.specs.Numbers.{PlacesDistinct}
use Rattle.link.specs.Moves.{Opens, OwnStep, same, passes, loses, loses_passing, opens, goes_out, acknowledges, frees, keeps, spoils}
use Rattle.link.proofs.inside.Reached.{reached_next, by_calls}
use Rattle.link.proofs.inside.Places.{lent, sound_inside, places_inside}
use Rattle.link.proofs.moves.Own.{underway_exactly, own_seen}
use Rattle.link.proofs.verdicts.Own.{request_read, free_exactly, no_place_exactly}
use Rattle.link.proofs.verdicts.Taken.{request_taken, request_leads}
use Rattle.link.proofs.numbers.Kept.{call_kept}

-- ---- what is seen of a place

-- a request is in it
abbrev pub Used : Track → ℕ → Type 0
Used t p = (t.own p).request ≢ own.none

-- its number
abbrev number : own.Seen → ℕ
number s = s.header.system % 65536

number_in : (r : Option OwnReading) → number_shown r ≡ (request_in r).system % 65536
number_in None = refl
number_in (Some r) = refl

in_use_lem : (r : Option OwnReading) → r ≢ None → in_use r ≡ true
in_use_lem None n = absurd (n refl)
in_use_lem (Some r) n = refl

-- the request is not none
abbrev IsSome : own.Request → Type 0
IsSome own.none = ⊥
IsSome own.underway = Unit {0}
IsSome own.out = Unit {0}
IsSome own.acknowledged = Unit {0}
IsSome own.proved = Unit {0}
IsSome own.lost = Unit {0}

pub some : (r : own.Request) → IsSome r → r ≢ own.none
some r w e = subst IsSome e w

module _ (t : Track) (w : Reached t) (p : ℕ) (within : p < 4) where
  -- it is what is read there
  number_read : Used t p → number_shown (own_of t.link p) ≡ number (t.own p)
  number_read used =
      number_in (own_of t.link p)
      ∙ ap (λ (h : Header). h.system % 65536) (request_read t w p within (λ e. used ((free_exactly t w p within).0 e)))

  read_used : Used t p → in_use (own_reading t.link.exchange p) ≡ true
  read_used used = in_use_lem (own_of t.link p) (λ e. used ((no_place_exactly t w p within).0 e))

-- ---- one call

-- What has then been seen of the place: the same request as before it, if there is one, or a primary that is accepted for this place.
data Was (t : Track) (m : Made) (p : ℕ) (s : own.Seen) : Type 0 where
  as_was : (s.request ≢ own.none → Used t p) → s.header ≡ (t.own p).header → Was t m p s
  anew : (q : Primary) → Opens t m p q → Was t m p s

pub record Distinct (t : Track) : Type 0 where
  -- "0 to 65535", and a report on its way has the last one given
  pub numbers : NumbersAre t.link.exchange (numbers_of t.link.exchange)
  pub apart : (p q : ℕ) → p < 4 → q < 4 → p ≢ q → Used t p → Used t q → number (t.own p) ≢ number (t.own q)

module _ (t : Track) (w : Reached t) (m : Made) (g : Distinct t) where
  x : Exchange
  x = t.link.exchange

  module _ (p : ℕ) (within : p < 4) where
    was : (s : own.Seen) → OwnStep t m p s → Was t m p s
    was s step = by s step
      where
        under : sent_from t.link.exchange.sending p ≡ true → Used t p
        under e = some (t.own p).request (⊎_elim (λ z. subst IsSome (sym z) tt) (λ z. subst IsSome (sym z) tt) ((underway_exactly t w p within).1 e))

        by : (s : own.Seen) → OwnStep t m p s → Was t m p s
        by _ (same n) = as_was (λ u. u) refl
        by _ (passes k) = as_was (λ u. u) refl
        by _ (loses n l) = as_was (λ u. under l.of_it) refl
        by _ (loses_passing k l) = as_was (λ u. under l.of_it) refl
        by _ (opens q o) = anew q o
        by _ (goes_out f) = as_was (λ u. under f.puts_out.of_it) refl
        by _ (acknowledges a) = as_was (λ u. under a.of_it) refl
        by _ (frees f) = as_was (λ u. absurd (u refl)) refl
        by _ (keeps h d r) = as_was (λ u e. u (ap own.proven_by e)) refl
        by _ (spoils n h d i r) = as_was (λ u e. u (ap own.proven_by e)) refl

    now : Was t m p ((next t m).own p)
    now = was ((next t m).own p) (own_seen t w p within m).one_of

  -- a number that is given is that of no place in use
  given : (p q : ℕ) → p < 4 → q < 4 → (r : Primary) → Opens t m p r → Used (next t m) p → Used t q → number ((next t m).own p) ≢ number (t.own q)
  unfolding x
  given p q p_within q_within r o used other e =
      let y = request_taken t m (primary r o.rest) o.told in
      let place : y.place ≡ p = let z = sym y.outcome ∙ o.place in cc in
      let new : NumberNew x (numbers_of x) (number_shown (own_of (next t m).link p)) =
      subst (λ (z : Exchange). NumberNew x (numbers_of x) (number_shown (own_reading z p))) (request_leads t m (primary r o.rest) o.told)
      (number_distinct (terms_in t) x (four_places x (sound_inside t w)) (numbers_of x) g.numbers r o.rest (lent t m) p
      (y.asked ∙ ap Ok place)) in
      new.from_open q q_within (read_used t w q q_within other)
      (number_read (next t m) (reached_next t w m) p p_within used ∙ e ∙ sym (number_read t w q q_within other))

  -- one call accepts for one place
  one_place : (p q : ℕ) (r s : Primary) → Opens t m p r → Opens t m q s → p ≡ q
  one_place p q r s o u = let z = sym o.place ∙ u.place in cc

  apart_next : (p q : ℕ) → p < 4 → q < 4 → p ≢ q → Used (next t m) p → Used (next t m) q → number ((next t m).own p) ≢ number ((next t m).own q)
  apart_next p q p_within q_within ne up uq e = by (now p p_within) (now q q_within)
    where
      old : (r : ℕ) → ((next t m).own r).header ≡ (t.own r).header → number ((next t m).own r) ≡ number (t.own r)
      old r z = ap (λ (h : Header). h.system % 65536) z

      by : Was t m p ((next t m).own p) → Was t m q ((next t m).own q) → ⊥
      by (as_was a f) (as_was b k) = g.apart p q p_within q_within ne (a up) (b uq) (sym (old p f) ∙ e ∙ old q k)
      by (as_was a f) (anew r o) = given q p q_within p_within r o uq (a up) (sym e ∙ old p f)
      by (anew r o) (as_was b k) = given p q p_within q_within r o up (b uq) (e ∙ old q k)
      by (anew r o) (anew s u) = ne (one_place p q r s o u)

  numbers_next : NumbersAre (next t m).link.exchange (numbers_of (next t m).link.exchange)
  unfolding x
  numbers_next = own_numbers (next t m).link.exchange _ (call_kept t (sound_inside t w) (numbers_of x) g.numbers m)

-- ---- any calls

pub distinct : (t : Track) (w : Reached t) → w.setup.last ≤ 65535 → Distinct t
distinct t w fits =
    by_calls Distinct (λ v r m g. record { numbers = numbers_next v r m g; apart = apart_next v r m g }) t w
    (record { numbers = numbers_fresh w.setup.last fits; apart = λ p q pw qw ne up uq. absurd (up refl) })

used_read : (t : Track) (w : Reached t) (p : ℕ) → p < 4 → in_use (own_of t.link p) ≡ true → Used t p
used_read t w p within u e = false≢true (sym (ap in_use ((no_place_exactly t w p within).1 e)) ∙ u)

pub places_distinct : PlacesDistinct
places_distinct t w fits p q pw qw ne up uq e =
    let a = used_read t w p pw up in
    let b = used_read t w q qw uq in
    (distinct t w fits).apart p q pw qw ne a b (sym (number_read t w p pw a) ∙ e ∙ number_read t w q qw b)

-- where a reply is awaited, or blocks of it are kept, there is a request
expected : (s : OwnStage) → expects_at s ≡ true → free_by (standing_at s) ≡ false
expected stage.Free e = absurd (false≢true e)
expected stage.Sending e = absurd (false≢true e)
expected stage.PutOut e = refl
expected (stage.Awaiting n) e = refl
expected (stage.Replying a) e = refl
expected (stage.Done v r) e = absurd (false≢true e)

-- so at no other place one is to a primary with these system bytes
pub alone : (t : Track) (w : Reached t) → w.setup.last ≤ 65535 → (p q : ℕ) → p < 4 → q < 4 → q ≢ p → Used t p
    → expects_at (own_place t.link.exchange q).stage ≡ true
    → (primary_of (own_place t.link.exchange q)).system ≢ (t.own p).header.system
alone t w fits p q pw qw ne used runs e =
    let o : Own = own_place t.link.exchange q in
    let inside = (places_inside t w).own q qw in
    let there : own_standing o ≢ standing.Free = λ z. false≢true (sym (expected o.stage runs) ∙ ap free_by z) in
    let head : primary_of o ≡ (t.own q).header = request_shown (terms_in t) _ inside there in
    (distinct t w fits).apart q p qw pw ne (λ z. there ((free_exactly' (terms_in t) _ inside).1 z)) used
    (ap (λ (h : Header). h.system % 65536) (sym head) ∙ ap (λ (n : ℕ). n % 65536) e)
