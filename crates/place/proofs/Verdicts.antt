-- Each verdict exactly when it is earned, and one verdict until it is released. Assumes nothing.
use Prim.Native.Nat.{ℕ, ◌+◌, ◌≤◌, ◌<◌}
use mathlib.Core.Path.{◌≡◌, refl, sym, ap, subst, ◌∙◌}
use mathlib.Core.Bool.{Bool, true, false, cond, false≢true, true≢false}
use mathlib.Core.List.{List}
use mathlib.Core.Logic.{◌⊎◌, inl, inr, ⊎_elim}
use native.Mathlib.Omega.{arith}
use lib.Dec.{eqb, ltb}
use lib.ListN.{length}
use borrow.Author.Tests.{eqb-true, eq-eqb, ne_eqb, lt-ltb, le-ltb}
use Rattle.wire.proofs.Choice.{either, chosen}
use Rattle.header.specs.Header.{header_of}
use Rattle.header.specs.declared.header.Header.{Header}
use Rattle.settings.specs.declared.terms.Terms.{Terms}
use Rattle.place.specs.Message.{first_of, Whole}
use Rattle.place.specs.Own.{standing_at, own_standing, free_by, given_by, kept_at, own_offered}
use Rattle.place.specs.OwnHistory.{Event, claim, put_out, sent, failed, tick, release, block, Request, none, underway, out, acknowledged, proved, lost, Answer, passed, kept, spoilt, answer_to, Seen, asked, went_out, acked, gave_up, freed, answered, step, run}
use Rattle.place.specs.OwnTheorems.{Answers, Declines, Received, Asked, Complete, Breaks, Earned, VerdictExactly, FreeExactly, on_reply, ReplyAsKept, ReplyShown, ArrivingShown, NoneToShow, no_request, not_out, not_acked, none_kept, no_whole, AllZeros, NothingShown, RequestShown, HeaderStays, OutSays, OutOnly, OneVerdict, spares, Spared, no_more, one_more}
use Rattle.place.proofs.Messages.{none_not_whole}
use Rattle.place.proofs.Arrivals as core
use Rattle.place.proofs.OwnInvariant.{Replies, At, place_at, zeros, is_received, no_block, HasVerdict, Tells, not_whole, tells_earned}
use Rattle.place.proofs.OwnAlways.{always}
use Rattle.place.specs.declared.Verdict.{Verdict}
use Rattle.place.specs.declared.Verdict.TheVariants.{Sent, Answered, Declined, Other, Broken, NoReply, SendFailed}
use Rattle.place.specs.declared.Standing.{Standing}
use Rattle.place.specs.declared.Standing.TheVariants as standing
use Rattle.place.specs.declared.Reply.{Reply}
use Rattle.place.specs.declared.Arriving.{Arriving}
use Rattle.place.specs.declared.Kind.{Kind}
use Rattle.place.specs.declared.OwnStage.{OwnStage}
use Rattle.place.specs.declared.OwnStage.TheVariants.{Free, Sending, PutOut, Awaiting, Replying, Done}
use Rattle.place.specs.declared.Own.{Own}

-- ---- what a place shows is so

-- what each standing says of the history
abbrev Means : Terms → Seen → Standing → Type 0
Means c s standing.Free = s.request ≡ none
Means c s standing.Open = Unit {0}
Means c s (standing.Given v) = Earned c s v

-- and it is so at each stage
means : (c : Terms) (p : OwnStage) (h : List ℕ) (s : Seen) → At c p h s → Means c s (standing_at p)
means c Free h s g = g
means c Sending h s g = tt
means c PutOut h s g = tt
means c (Awaiting timer) h s g = tt
means c (Replying a) h s g = tt
means c (Done v r) h s g = g.earned

-- ---- what is so, the place shows

-- whether a place at this stage has seen a whole reply
abbrev whole_at : OwnStage → Bool
whole_at Free = false
whole_at Sending = false
whole_at PutOut = false
whole_at (Awaiting timer) = false
whole_at (Replying a) = false
whole_at (Done v r) = on_reply v

-- a test that is not true is false
no_test : (t : Bool) → (t ≡ true → ⊥) → t ≡ false
no_test t n = either t (λ x. x ≡ false) (λ e. absurd (n e)) (λ e. refl)

-- each stage says whether the reply is whole
tells : (c : Terms) (p : OwnStage) (h : List ℕ) (s : Seen) → At c p h s → Tells s (whole_at p)
tells c Free h s g a = absurd (is_received _ _ g a.received)
tells c Sending h s g a = absurd (is_received _ _ g.request a.received)
tells c PutOut h s g a = not_whole s (rw g.unanswered.kept none_not_whole)
tells c (Awaiting timer) h s g a = not_whole s (rw g.unanswered.kept none_not_whole)
tells c (Replying b) h s g a = not_whole s (core.not_whole g.arrives)
tells c (Done v r) h s g a = tells_earned c s v g.earned a

-- What should be shown, from the history alone. A whole reply decides by its header:
abbrev by_reply : Header → Header → Verdict
by_reply request reply =
    cond (eqb reply.stream request.stream)
    (cond (eqb reply.function (request.function + 1)) Answered (cond (eqb reply.function 0) Declined Other))
    Other

-- one that is not whole, by what broke it and by time
abbrev by_time : Terms → Seen → Standing
by_time c s =
    cond s.spoilt (standing.Given Broken)
    (cond (eqb (length s.kept) 0)
    (cond (ltb c.t3.0 s.since) (standing.Given NoReply) standing.Open)
    (cond (ltb c.t4.0 s.quiet) (standing.Given Broken) standing.Open))

-- `whole` says whether it is
abbrev by_all : Terms → Seen → Bool → Standing
by_all c s whole = cond s.header.w (cond whole (standing.Given (by_reply s.header (first_of s.kept))) (by_time c s)) (standing.Given Sent)

abbrev shown : Terms → Seen → Bool → Request → Standing
shown c s whole none = standing.Free
shown c s whole underway = standing.Open
shown c s whole out = standing.Open
shown c s whole acknowledged = by_all c s whole
shown c s whole proved = by_all c s whole
shown c s whole lost = standing.Given SendFailed

-- a header decides as it should
by_answers : (p f : Header) → Answers p f → by_reply p f ≡ Answered
by_answers p f a = simp (eq-eqb _ _ a.stream, eq-eqb _ _ a.function)

by_declines : (p f : Header) → Declines p f → by_reply p f ≡ Declined
by_declines p f d = simp (eq-eqb _ _ d.stream, ne_eqb f.function (p.function + 1) (omega (arith, d.function)), eq-eqb _ _ d.function)

by_other : (p f : Header) → (Answers p f → ⊥) → (Declines p f → ⊥) → by_reply p f ≡ Other
by_other p f not_2 not_3 =
    chosen (λ v. v ≡ Other) (eqb f.stream p.stream) _ _
    (λ i.
    let stream = eqb-true _ _ i in
    simp (
      ne_eqb f.function (p.function + 1) (λ j. not_2 (record { stream = stream; function = j })),
      ne_eqb f.function 0 (λ j. not_3 (record { stream = stream; function = j })),
    ))
    (λ i. refl)

-- what breaks a reply, but for a block that did
behind : (c : Terms) (s : Seen) → Breaks c s → s.spoilt ≡ false → (1 ≤ length s.kept) × (c.t4.0 < s.quiet)
behind c s b e = ⊎_elim (λ i. absurd (false≢true (sym e ∙ i))) (λ w. w) b

-- acknowledged or proved received is one
if_received : (c : Terms) (s : Seen) (t : Bool) (q : Request) → Received q → shown c s t q ≡ by_all c s t
if_received c s t q w = ⊎_elim (λ e. rw e) (λ e. rw e) w

-- where a reply was asked for, its blocks and the time decide
if_whole : (c : Terms) (s : Seen) (t : Bool) → Tells s t → Complete s → shown c s t s.request ≡ standing.Given (by_reply s.header (first_of s.kept))
if_whole c s t w k = if_received c s t s.request k.asked.received ∙ simp (k.asked.wanted, (w k.asked).1 k.whole)

if_not_whole : (c : Terms) (s : Seen) (t : Bool) → Tells s t → Asked s → (Whole s.kept → ⊥) → shown c s t s.request ≡ by_time c s
if_not_whole c s t w a n = if_received c s t s.request a.received ∙ simp (a.wanted, no_test t (λ e. n ((w a).0 e)))

-- a verdict that is earned is the one that should be shown
earned_shown : (c : Terms) (s : Seen) (t : Bool) → Tells s t → (v : Verdict) → Earned c s v → shown c s t s.request ≡ standing.Given v
earned_shown c s t w Sent e = simp (e.0, e.1)
earned_shown c s t w Answered e = if_whole c s t w e.0 ∙ ap standing.Given (by_answers _ _ e.1)
earned_shown c s t w Declined e = if_whole c s t w e.0 ∙ ap standing.Given (by_declines _ _ e.1)
earned_shown c s t w Other e = if_whole c s t w e.0 ∙ ap standing.Given (by_other _ _ e.1 e.2)
earned_shown c s t w Broken e =
    if_not_whole c s t w e.0 e.1
    ∙ chosen (λ x. x ≡ standing.Given Broken) s.spoilt _ _ (λ i. refl)
    (λ i.
    let late = behind c s e.2 i in
    simp (ne_eqb (length s.kept) 0 (omega (arith, late.0)), lt-ltb _ _ late.1))
earned_shown c s t w NoReply e =
    if_not_whole c s t w (record { received = inl e.0; wanted = e.1 }) (rw e.2 none_not_whole) ∙ simp (e.3, e.2, lt-ltb _ _ e.4)
earned_shown c s t w SendFailed e = simp e

-- each stage shows what should be shown
stage_shown : (c : Terms) (p : OwnStage) (h : List ℕ) (s : Seen) → At c p h s → shown c s (whole_at p) s.request ≡ standing_at p
stage_shown c Free h s g = simp g
stage_shown c Sending h s g = simp g.request
stage_shown c PutOut h s g = simp g.request
stage_shown c (Awaiting timer) h s g =
    let u = g.unanswered in
    simp (g.request, u.wanted, u.unspoilt, u.kept, le-ltb c.t3.0 s.since (omega (arith, g.since, g.within)))
stage_shown c (Replying a) h s g =
    if_received c s false s.request g.asked.received
    ∙ simp (
      g.asked.wanted,
      g.arrives.unspoilt,
      ne_eqb (length s.kept) 0 (omega (arith, g.arrives.begun.some)),
      le-ltb c.t4.0 s.quiet (omega (arith, g.arrives.quiet, g.arrives.within)),
    )
stage_shown c (Done v r) h s g = earned_shown c s (on_reply v) (tells_earned c s v g.earned) v g.earned

-- ---- each verdict exactly when

pub verdict_exactly : VerdictExactly
verdict_exactly c t w v =
    let g = always c t w in
    let p = t.own.stage in
    let h = t.own.header in
    let s = t.seen in
    (λ e. subst (Means c s) e (means c p h s g), λ e. sym (stage_shown c p h s g) ∙ earned_shown c s (whole_at p) (tells c p h s g) v e)

pub free_exactly : FreeExactly
free_exactly c t w =
    let g = always c t w in
    let p = t.own.stage in
    let h = t.own.header in
    let s = t.seen in
    (λ e. subst (Means c s) e (means c p h s g), λ e. sym (stage_shown c p h s g) ∙ ap (shown c s (whole_at p)) e)

-- ---- the reply shown

-- a place that has seen a whole reply shows it
shows_kept : (c : Terms) (p : OwnStage) (h : List ℕ) (s : Seen) → At c p h s → whole_at p ≡ true → ReplyAsKept s (kept_at p)
shows_kept c Free h s g w = absurd (false≢true w)
shows_kept c Sending h s g w = absurd (false≢true w)
shows_kept c PutOut h s g w = absurd (false≢true w)
shows_kept c (Awaiting timer) h s g w = absurd (false≢true w)
shows_kept c (Replying a) h s g w = absurd (false≢true w)
shows_kept c (Done v r) h s g w = g.shown w

pub reply_shown : ReplyShown
reply_shown c t w k =
    let g = always c t w in
    shows_kept c t.own.stage t.own.header t.seen g ((tells c t.own.stage t.own.header t.seen g k.asked).1 k.whole)

-- one that a reply is arriving at shows what is kept of it
shows_arriving :
    (c : Terms) (p : OwnStage) (h : List ℕ) (s : Seen) → At c p h s → Asked s → standing_at p ≡ standing.Open → 1 ≤ length s.kept → ReplyAsKept s (kept_at p)
shows_arriving c Free h s g a o some = absurd (true≢false (ap free_by o))
shows_arriving c Sending h s g a o some = absurd (is_received _ _ g.request a.received)
shows_arriving c PutOut h s g a o some = absurd (no_block s.kept g.unanswered.kept some)
shows_arriving c (Awaiting timer) h s g a o some = absurd (no_block s.kept g.unanswered.kept some)
shows_arriving c (Replying a) h s g asked o some =
    let kind = g.arrives.kind in
    record { w = ap (λ (k : Kind). k.w) kind; stream = ap (λ (k : Kind). k.stream) kind; function = ap (λ (k : Kind). k.function) kind; length = g.arrives.size }
shows_arriving c (Done v r) h s g a o some = absurd (true≢false (ap given_by o))

pub arriving_shown : ArrivingShown
arriving_shown c t w = shows_arriving c t.own.stage t.own.header t.seen (always c t w)

-- where there is no block to show, no reply is arriving
none_arriving : (c : Terms) (h : List ℕ) (a : Arriving) (s : Seen) → Replies c h s a → NoneToShow s standing.Open → ⊥
none_arriving c h a s g (no_request e) = is_received _ _ e g.asked.received
none_arriving c h a s g (not_out e) = is_received _ _ e g.asked.received
none_arriving c h a s g (not_acked e) = is_received _ _ e g.asked.received
none_arriving c h a s g (none_kept q e) = no_block s.kept e g.arrives.begun.some
none_arriving c h a s g (no_whole v f e) = false≢true (ap given_by e)

-- and none is whole
abbrev on_whole : Standing → Bool
on_whole standing.Free = false
on_whole standing.Open = false
on_whole (standing.Given v) = on_reply v

none_whole : (s : Seen) (z : Standing) → Complete s → on_whole z ≡ true → NoneToShow s z → ⊥
none_whole s z k w (no_request e) = is_received _ _ e k.asked.received
none_whole s z k w (not_out e) = is_received _ _ e k.asked.received
none_whole s z k w (not_acked e) = is_received _ _ e k.asked.received
none_whole s z k w (none_kept q e) = none_not_whole (subst Whole e k.whole)
none_whole s z k w (no_whole v f e) = true≢false (sym w ∙ ap on_whole e ∙ f)

-- 2, 3 and 4 are earned by a whole reply
pub earned_whole : (c : Terms) (s : Seen) (v : Verdict) → Earned c s v → on_reply v ≡ true → Complete s
earned_whole c s Sent e w = absurd (false≢true w)
earned_whole c s Answered e w = e.0
earned_whole c s Declined e w = e.0
earned_whole c s Other e w = e.0
earned_whole c s Broken e w = absurd (false≢true w)
earned_whole c s NoReply e w = absurd (false≢true w)
earned_whole c s SendFailed e w = absurd (false≢true w)

-- so nothing is shown of one
shows_nothing : (c : Terms) (p : OwnStage) (h : List ℕ) (s : Seen) → At c p h s → NoneToShow s (standing_at p) → AllZeros (kept_at p)
shows_nothing c Free h s g n = zeros
shows_nothing c Sending h s g n = zeros
shows_nothing c PutOut h s g n = zeros
shows_nothing c (Awaiting timer) h s g n = zeros
shows_nothing c (Replying a) h s g n = absurd (none_arriving c h a s g n)
shows_nothing c (Done v r) h s g n =
    either (on_reply v) (λ z. AllZeros r) (λ w. absurd (none_whole s (standing.Given v) (earned_whole c s v g.earned w) w n)) g.unshown

pub nothing_shown : NothingShown
nothing_shown c t w = shows_nothing c t.own.stage t.own.header t.seen (always c t w)

-- and any one in use its request
shows_request : (c : Terms) (p : OwnStage) (h : List ℕ) (s : Seen) → At c p h s → (standing_at p ≡ standing.Free → ⊥) → header_of h ≡ s.header
shows_request c Free h s g used = absurd (used refl)
shows_request c Sending h s g used = sym g.header
shows_request c PutOut h s g used = sym g.unanswered.header
shows_request c (Awaiting timer) h s g used = sym g.unanswered.header
shows_request c (Replying a) h s g used = sym g.header
shows_request c (Done v r) h s g used = sym g.header

pub request_shown : RequestShown
request_shown c t w = shows_request c t.own.stage t.own.header t.seen (always c t w)

-- ---- the request's header stays

module _ (s : Seen) where
  asked_header : (r : Request) (h : Header) → (r ≡ none → ⊥) → (asked r s h).header ≡ s.header
  asked_header none h used = absurd (used refl)
  asked_header underway h used = refl
  asked_header out h used = refl
  asked_header acknowledged h used = refl
  asked_header proved h used = refl
  asked_header lost h used = refl

  -- its last block is put out, is acknowledged; a block of it fails
  pub sent_header : (r : Request) → ((went_out r s).header ≡ s.header) × ((acked r s).header ≡ s.header) × ((gave_up r s).header ≡ s.header)
  sent_header none = (refl, refl, refl)
  sent_header underway = (chosen (λ (a : Seen). a.header ≡ s.header) s.header.w _ _ (λ e. refl) (λ e. refl), refl, refl)
  sent_header out = (refl, refl, refl)
  sent_header acknowledged = (refl, refl, refl)
  sent_header proved = (refl, refl, refl)
  sent_header lost = (refl, refl, refl)

  freed_header : (z : Standing) → (freed z s).header ≡ s.header
  freed_header standing.Free = refl
  freed_header standing.Open = refl
  freed_header (standing.Given v) = refl

  pub answered_header : (a : Answer) (b : Header) (n : ℕ) → (answered a s b n).header ≡ s.header
  answered_header passed b n = refl
  answered_header kept b n = refl
  answered_header spoilt b n = refl

pub header_stays : HeaderStays
header_stays c t (claim h) new = asked_header t.seen t.seen.request (header_of h) (new h refl)
header_stays c t put_out new = (sent_header t.seen t.seen.request).0
header_stays c t sent new = (sent_header t.seen t.seen.request).1
header_stays c t failed new = (sent_header t.seen t.seen.request).2
header_stays c t tick new = refl
header_stays c t release new = freed_header t.seen (own_standing t.own)
header_stays c t (block b size q) new = answered_header t.seen (answer_to t.own b size) b size

-- ---- a request that is out, and one that its reply proved received

-- any other request
abbrev Neither : Request → Type 0
Neither none = Unit {0}
Neither underway = Unit {0}
Neither out = ⊥
Neither acknowledged = Unit {0}
Neither proved = ⊥
Neither lost = Unit {0}

-- of which nothing is said
at_neither : (s : Seen) (r : Request) → s.request ≡ r → Neither r → OutSays s
at_neither s r e n =
    let other : (q : Request) → s.request ≡ q → Neither q = λ q o. subst Neither (sym e ∙ o) n in
    record {
      wanted = λ w. absurd (⊎_elim (other out) (other proved) w);
      none_yet = λ o. absurd (other out o);
      one_came = λ p. absurd (other proved p);
    }

-- one that was received asked for its reply, of which a block came if that proved it
when_received : (s : Seen) → Asked s → (s.request ≡ proved → (1 ≤ length s.kept) ⊎ (s.spoilt ≡ true)) → OutSays s
when_received s a came =
    record { wanted = λ w. a.wanted; none_yet = λ o. absurd (is_received _ _ o a.received); one_came = came }

earned_says : (c : Terms) (s : Seen) (v : Verdict) → Earned c s v → OutSays s
earned_says c s Sent e = at_neither s _ e.0 tt
earned_says c s Answered e = when_received s e.0.asked (λ p. inl e.0.whole.some)
earned_says c s Declined e = when_received s e.0.asked (λ p. inl e.0.whole.some)
earned_says c s Other e = when_received s e.0.asked (λ p. inl e.0.whole.some)
earned_says c s Broken e = when_received s e.0 (λ p. ⊎_elim inr (λ w. inl w.0) e.2)
earned_says c s NoReply e = at_neither s _ e.0 tt
earned_says c s SendFailed e = at_neither s _ e tt

stage_says : (c : Terms) (p : OwnStage) (h : List ℕ) (s : Seen) → At c p h s → OutSays s
stage_says c Free h s g = at_neither s _ g tt
stage_says c Sending h s g = at_neither s _ g.request tt
stage_says c PutOut h s g =
    record {
      wanted = λ w. g.unanswered.wanted;
      none_yet = λ o. (g.unanswered.kept, g.unanswered.unspoilt);
      one_came = λ p. absurd (is_received _ _ g.request (inr p));
    }
stage_says c (Awaiting timer) h s g = at_neither s _ g.request tt
stage_says c (Replying a) h s g = when_received s g.asked (λ p. inl g.arrives.begun.some)
stage_says c (Done v r) h s g = earned_says c s v g.earned

pub out_only : OutOnly
out_only c t w = stage_says c t.own.stage t.own.header t.seen (always c t w)

-- ---- one verdict

-- a place with a verdict stays as it is through any event but a release
done_stays : (c : Terms) (h : List ℕ) (v : Verdict) (r : Reply) (e : Event c) → spares e ≡ true → step (place_at h (Done v r)) e ≡ place_at h (Done v r)
unfolding own_offered
done_stays c h v r (claim x) q = refl
done_stays c h v r put_out q = refl
done_stays c h v r sent q = refl
done_stays c h v r failed q = refl
done_stays c h v r tick q = refl
done_stays c h v r release q = absurd (false≢true q)
done_stays c h v r (block b size p) q = refl

-- and through any such events
done_runs : (c : Terms) (h : List ℕ) (v : Verdict) (r : Reply) (es : List (Event c)) → Spared es → run (place_at h (Done v r)) es ≡ place_at h (Done v r)
unfolding run
done_runs c h v r es no_more = refl
done_runs c h v r es (one_more {e} {es = rest} q k) = ap (λ (o : Own). run o rest) (done_stays c h v r e q) ∙ done_runs c h v r rest k

-- whatever its verdict
runs : (c : Terms) (h : List ℕ) (p : OwnStage) → HasVerdict (standing_at p) → (es : List (Event c)) → Spared es → run (place_at h p) es ≡ place_at h p
runs c h Free g es k = absurd g
runs c h Sending g es k = absurd g
runs c h PutOut g es k = absurd g
runs c h (Awaiting timer) g es k = absurd g
runs c h (Replying a) g es k = absurd g
runs c h (Done v r) g es k = done_runs c h v r es k

pub one_verdict : OneVerdict
one_verdict c t w v e es k = runs c t.own.header t.own.stage (subst HasVerdict (sym e) tt) es k
