-- A request that a call tells the transactions was taken, and what they answered is all that came of it. Assumes nothing.
use Rattle.std.specs.Prelude.{Ok}
use Prim.Native.Nat.{ℕ}
use mathlib.Core.Path.{◌≡◌, refl, sym, ap, ◌∙◌, subst}
use mathlib.Core.Bool.{true, false≢true}
use mathlib.Core.List.{List}
use Rattle.exchange.specs.Request.{Request}
use Rattle.exchange.specs.History as exchange
use Rattle.link.specs.Answer.{accepted}
use Rattle.link.specs.Run.{Left}
use Rattle.link.specs.History.{Call, request, called, Made, on_exchange, Track, exchange_track, terms_in, answered, next}
use Rattle.link.specs.Verdicts.{Tells}
use Rattle.link.specs.declared.Outcome.TheVariants as outcome
use Rattle.link.proofs.Cases.{by_request, answering}
use Rattle.link.proofs.inside.Places.{lent, goes}
use Rattle.link.proofs.device.Told.{told_exactly}
use Rattle.link.proofs.Accepted.{accepted_calls}

-- at this place, by what the transactions and the unit answer
pub record TakenAt (t : Track) (m : Made) (r : Request) : Type 0 where
  pub place : ℕ
  pub asked : (answering t.link r (lent t m)).answer.asked ≡ Ok place
  pub outcome : (answered t m).answer.outcome ≡ outcome.Taken place

module _ (t : Track) (m : Made) (r : Request) (a : Tells t m (exchange.request r)) where
  abbrev left : Call → Left
  left k = called t.link (lent t m) m.out k

  abbrev Answers : Left → Type 0
  Answers l = (p : ℕ) × ((answering t.link r (lent t m)).answer.asked ≡ Ok p) × (l.answer.outcome ≡ outcome.Taken p)

  answers : accepted (left (request r)).answer.outcome ≡ true → Answers (left (request r))
  answers =
      by_request t.link r (lent t m) m.out (λ l. accepted l.answer.outcome ≡ true → Answers l)
      (λ n e z. absurd (false≢true z)) (λ p e l z. (p, e, refl)) (λ p e l z. (p, e, refl)) (λ n z. absurd (false≢true z))

  pub request_taken : TakenAt t m r
  request_taken =
      let w = ((told_exactly t m).asks r).0 a in
      let y = answers (subst (λ (k : Call). accepted (left k).answer.outcome ≡ true) w.1 w.0) in
      record { place = y.0; asked = y.1; outcome = ap (λ (k : Call). (left k).answer.outcome) w.1 ∙ y.2 }

  -- nothing else is told
  pub request_leads : (answering t.link r (lent t m)).answer.exchange ≡ (next t m).link.exchange
  unfolding exchange.track
  request_leads =
      let w = ((told_exactly t m).asks r).0 a in
      ap (λ (ks : List exchange.Call). (exchange.track (terms_in t) (exchange_track t (lent t m)) ks).exchange)
      (sym (accepted_calls t m w.0 ∙ ap (on_exchange t.link) w.1))
      ∙ goes t m
