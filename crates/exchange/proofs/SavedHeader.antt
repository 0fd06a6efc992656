-- The saved header is the one that an onlooker keeps, and rule 2 goes by it (`specs/SavedHeader.antt`). Assumes nothing.
use Rattle.std.specs.Prelude.{Option, Some, None}
use Prim.Native.Nat.{ℕ}
use mathlib.Core.Path.{◌≡◌, refl, sym, ap, ◌∙◌, subst}
use mathlib.Core.Bool.{true, ◌||◌, false≢true}
use mathlib.Core.List.{List}
use mathlib.Core.Logic.{◌↔◌, ◌⊎◌, inl, inr, ⊎_elim}
use lib.Dec.{eqb}
use lib.ListN.{length}
use borrow.Author.Tests.{eqb-true, eq-eqb}
use Rattle.header.specs.Header.{header_of}
use Rattle.settings.specs.declared.terms.Terms.{Terms}
use Rattle.wire.proofs.Choice.{chosen, either_of}
use Rattle.place.specs.Message.{Routed}
use Rattle.exchange.specs.Exchange.{fresh_exchange, put_own, put_incoming, with_sending}
use Rattle.exchange.specs.Tick.{passed_of, tick_of}
use Rattle.exchange.specs.Send.{put_out_by, ended_own, ended_reply, ended_report, sent_by, failed_by}
use Rattle.exchange.specs.Request.{refused, refused_by, claimed_at, reply_accepted, Request, answer_of}
use Rattle.exchange.specs.Judge.{judge_of}
use Rattle.exchange.specs.Rules.{Fours, Duplicate, Ruled, duplicate, noted}
use Rattle.exchange.specs.History.{Call, block, tick, put_out, acknowledged, failed, request, Track, track, at_start}
use Rattle.exchange.specs.SavedHeader.{SavedSeen, none, ten, saved_by, saved_sees, saved_watch, IsSaved, SavedOn, RepeatsOn, SavedExactly}
use Rattle.exchange.specs.declared.Sending.{Sending}
use Rattle.exchange.specs.declared.Sending.TheVariants as sending
use Rattle.exchange.specs.declared.Exchange.{Exchange}
use Rattle.exchange.proofs.Notes.{notes_exactly}
use Rattle.exchange.proofs.Leaving.{judge_leaves}
use Rattle.exchange.proofs.Cases.{by_request}
use Rattle.exchange.proofs.Alike.{bytes_saved}
use Rattle.exchange.proofs.Runs.{reached_more, reached_fresh, four_places, sound_fresh, sound_reached, run_any}

-- ---- one call

-- its last block was put out
put_out_saves : (z : Sending) (x : Exchange) → (put_out_by z x).saved ≡ x.saved
unfolding put_own
put_out_saves sending.Nothing x = refl
put_out_saves (sending.Primary p n) x = refl
put_out_saves (sending.Reply p f n) x = refl
put_out_saves (sending.Report f n) x = refl

-- however the message's sending ended
pub sent_saves : (z : Sending) (x : Exchange) → (sent_by z x).exchange.saved ≡ x.saved
unfolding ended_own ended_reply ended_report with_sending put_own put_incoming
sent_saves sending.Nothing x = refl
sent_saves (sending.Primary p n) x = refl
sent_saves (sending.Reply p f n) x = refl
sent_saves (sending.Report f n) x = refl

failed_saves : (z : Sending) (x : Exchange) → (failed_by z x).exchange.saved ≡ x.saved
unfolding ended_own ended_reply ended_report with_sending put_own put_incoming
failed_saves sending.Nothing x = refl
failed_saves (sending.Primary p n) x = refl
failed_saves (sending.Reply p f n) x = refl
failed_saves (sending.Report f n) x = refl

-- 0.1 s passed, whatever timers run
tick_saves : (c : Terms) (x : Exchange) → (tick_of c x).exchange.saved ≡ x.saved
unfolding passed_of
tick_saves c x = refl

-- something is asked for
request_saves : (c : Terms) (x : Exchange) (room : List ℕ) (r : Request) → (answer_of c x r room).answer.exchange.saved ≡ x.saved
unfolding refused refused_by claimed_at reply_accepted with_sending put_own put_incoming
request_saves c x room =
    by_request c x room (λ r a. a.answer.exchange.saved ≡ x.saved) (λ r n. refl) (λ q d p u e. refl) (λ p f d u a b. refl) (λ p e. refl) (λ p e. refl)

-- none is at a start
pub none_saved : (last : ℕ) → IsSaved (fresh_exchange last).saved none
none_saved last = refl

noted_so : (n : ℕ) → eqb n 22 || eqb n 23 ≡ true ↔ ((n ≡ 22) ⊎ (n ≡ 23))
noted_so n = either_of (eqb n 22) (eqb n 23) (n ≡ 22) (n ≡ 23) (eqb-true n 22, eq-eqb n 22) (eqb-true n 23, eq-eqb n 23)

-- what a block that was noted n leaves to the onlooker
pub by_saved : (P : SavedSeen → Type 0) (n : ℕ) (s : SavedSeen) (h : List ℕ)
    → ((n ≡ 22) ⊎ (n ≡ 23) → P s) → (((n ≡ 22) ⊎ (n ≡ 23) → ⊥) → P (ten h)) → P (saved_by n s h)
by_saved P n s h stays saves =
    chosen P (eqb n 22 || eqb n 23) s (ten h) (λ e. stays ((noted_so n).0 e)) (λ e. saves (λ i. false≢true (sym e ∙ (noted_so n).1 i)))

-- where it is as it was
stays : (s : SavedSeen) (v w : Option (List ℕ)) → v ≡ w → IsSaved w s → IsSaved v s
stays s v w e i = subst (λ (z : Option (List ℕ)). IsSaved z s) (sym e) i

pub saved_on : SavedOn
saved_on c x room s (block h d) w =
    let j = judge_of c x h d room in
    let l = judge_leaves c x h d room in
    by_saved (IsSaved j.answer.exchange.saved) (noted j) s h
    (⊎_elim (λ e. stays s _ _ (l.misrouted e).saved w) (λ e. stays s _ _ (l.duplicate e).saved w))
    (λ n. l.saves (λ a. n (inl a)) (λ a. n (inr a)))
saved_on c x room s tick w = stays s _ _ (tick_saves c x) w
saved_on c x room s put_out w = stays s _ _ (put_out_saves x.sending x) w
saved_on c x room s acknowledged w = stays s _ _ (sent_saves x.sending x) w
saved_on c x room s failed w = stays s _ _ (failed_saves x.sending x) w
saved_on c x room s (request r) w = stays s _ _ (request_saves c x room r) w

-- ---- rule 2

abbrev kept : SavedSeen → Option (List ℕ)
kept none = None
kept (ten h) = Some h

-- what is saved is this, exactly if it is what the onlooker keeps
saved_same : (v : Option (List ℕ)) (s : SavedSeen) (h : List ℕ) → IsSaved v s → (v ≡ Some h) ↔ (s ≡ ten h)
saved_same v none h w = (λ e. let z : None ≡ Some h = sym w ∙ e in cc, λ e. w ∙ ap kept e)
saved_same v (ten g) h w = (λ e. ap (λ (s : Option (List ℕ)). ten (bytes_saved s)) (sym w ∙ e), λ e. w ∙ ap kept e)

ruled_duplicate : {c : Terms} {x : Exchange} {h d : List ℕ} → Ruled c x h d 23 → Routed c (header_of h) × Duplicate c x h
ruled_duplicate (duplicate q s) = (q, s)

pub repeats_on : RepeatsOn
repeats_on c x four s w h d room =
    let same = saved_same x.saved s h w in
    let rule = notes_exactly c x h d room four 23 in (
      λ e. let q = ruled_duplicate (rule.0 e) in record { routed = q.0; check = q.1.check; same = same.0 q.1.same },
      λ r. rule.1 (duplicate r.routed (record { check = r.check; same = same.1 r.same })),
    )

-- ---- any calls

module _ (c : Terms) (last : ℕ) (room : List ℕ) (whole : length room ≡ 36864) (ks : List Call) where
  abbrev after : Track
  after = track c (at_start last room) ks

  four : Fours after.exchange
  four = four_places after.exchange (sound_reached c after (reached_more c (at_start last room) (reached_fresh c last room whole) ks))

  saved : IsSaved after.exchange.saved (saved_watch c last room ks)
  saved =
      run_any c (saved_sees c) (λ x s. IsSaved x.saved s) (λ x lent s k g w. saved_on c x lent s k w)
      (at_start last room) none ks (sound_fresh last room whole) (none_saved last)

pub saved_exactly : SavedExactly
saved_exactly c last room whole ks =
    let kept = saved c last room whole ks in
    record { saved = kept; duplicate = repeats_on c _ (four c last room whole ks) _ kept }
