-- Each refusal of a request exactly when its row says so (`specs/Refusals.antt`): the number is one choice after the other on the
-- tests of `specs/Request.antt`. Assumes nothing.
use Rattle.std.specs.Prelude.{Option, Some, None}
use Prim.Native.Nat.{ℕ, ◌+◌, ◌%◌}
use mathlib.Core.Path.{◌≡◌, refl, sym, ap, subst, ◌∙◌}
use mathlib.Core.Bool.{Bool, true, false, cond, not, ◌&&◌, false≢true, true≢false}
use mathlib.Core.List.{List}
use mathlib.Core.Logic.{◌↔◌, ◌≢◌}
use native.Mathlib.Omega.{arith}
use lib.Dec.{eqb, ltb}
use lib.ListN.{length, get_or-eq_default}
use borrow.Author.Tests.{eqb-true, eqb-false, eq-eqb, ne_eqb, ltb-true, lt-ltb, not-true}
use Rattle.wire.proofs.Choice.{judged, both, either_of}
use Rattle.header.specs.declared.header.Header.{Header}
use Rattle.settings.specs.declared.terms.Terms.{Terms}
use Rattle.place.specs.Own.{fresh_own, standing_at, free_by, given_by, own_has_verdict}
use Rattle.place.specs.Incoming.{fresh_incoming, primary_of, complete_at, replied_at, incoming_is_replied}
use Rattle.place.specs.declared.OwnStage.{OwnStage}
use Rattle.place.specs.declared.OwnStage.TheVariants as own
use Rattle.place.specs.declared.IncomingStage.{IncomingStage}
use Rattle.place.specs.declared.IncomingStage.TheVariants as incoming
use Rattle.table.specs.Own.{free_own}
use Rattle.table.proofs.Finding.{free_own_lowest}
use Rattle.exchange.specs.Exchange.{own_place, incoming_place}
use Rattle.exchange.specs.Request.{Requesting, refused_by, refused, bad_primary, bad_function, data_long, sending_by, is_sending, not_ready, open_by, open_free, open_of, reply_accepted, reply_ready, reply_of, release_own, release_incoming}
use Rattle.exchange.specs.Request as request
use Rattle.exchange.specs.Rules.{Fours, Somewhere, LowestAt}
use Rattle.exchange.specs.Refusals.{BadPrimary, BadReply, DataAbove, IsSending, OwnFree, NoVerdict, own_above, own_free, without, NotReady, above, free, not_complete, on_its_way, NotWanted, RepliedBefore, replied, OpenRuled, open_5, open_6, open_7, open_8, open_0, Owed, ReplyRuled, reply_9, reply_10, reply_11, reply_5, reply_6, reply_7, reply_0, ReleaseRuled, release_9, release_0, numbered, OpenExactly, ReplyExactly, ReleaseOwnExactly, ReleaseIncomingExactly, RequestExactly}
use Rattle.exchange.specs.declared.Sending.{Sending}
use Rattle.exchange.specs.declared.Sending.TheVariants as sending
use Rattle.exchange.specs.declared.Exchange.{Exchange}
use Rattle.exchange.specs.declared.Primary.{Primary}
use Rattle.exchange.proofs.Tests.{fails, of_choice}
use Rattle.exchange.proofs.Finding.{found, somewhere, lowest}

-- ---- what the tests say

-- 5
bad_primary_lem : (q : Primary) → bad_primary q ≡ true ↔ BadPrimary q
unfolding bad_primary
bad_primary_lem q = either_of (ltb 127 q.stream) (eqb (q.function % 2) 0) _ _ (ltb-true _ _, lt-ltb _ _) (eqb-true _ _, eq-eqb _ _)

bad_reply : (h : Header) (f : ℕ) → bad_function h f ≡ true ↔ BadReply h f
unfolding bad_function
bad_reply h f = (
  λ t.
      let w = (both (not (eqb f 0)) (not (eqb f (h.function + 1)))).0 t in
      record { not_zero = eqb-false _ _ (not-true _ w.0); not_next = eqb-false _ _ (not-true _ w.1) },
  λ b. rw (ne_eqb _ _ b.not_zero, ne_eqb _ _ b.not_next),
)

-- 6
long : (d : List ℕ) → data_long (length d) ≡ true ↔ DataAbove d
unfolding data_long
long d = (ltb-true _ _, lt-ltb _ _)

-- 7
pub sends : (s : Sending) → sending_by s ≡ true ↔ (s ≢ sending.Nothing)
sends sending.Nothing = (λ t. absurd (false≢true t), λ n. absurd (n refl))
sends (sending.Primary p n) = (λ t e. true≢false (ap sending_by e), λ m. refl)
sends (sending.Reply p f n) = (λ t e. true≢false (ap sending_by e), λ m. refl)
sends (sending.Report f n) = (λ t e. true≢false (ap sending_by e), λ m. refl)

-- 8
pub own_is_free : (s : OwnStage) → free_by (standing_at s) ≡ true ↔ (s ≡ own.Free)
own_is_free own.Free = (λ t. refl, λ e. refl)
own_is_free own.Sending = (λ t. absurd (false≢true t), λ e. ap (λ (s : OwnStage). free_by (standing_at s)) e)
own_is_free own.PutOut = (λ t. absurd (false≢true t), λ e. ap (λ (s : OwnStage). free_by (standing_at s)) e)
own_is_free (own.Awaiting timer) = (λ t. absurd (false≢true t), λ e. ap (λ (s : OwnStage). free_by (standing_at s)) e)
own_is_free (own.Replying a) = (λ t. absurd (false≢true t), λ e. ap (λ (s : OwnStage). free_by (standing_at s)) e)
own_is_free (own.Done v r) = (λ t. absurd (false≢true t), λ e. ap (λ (s : OwnStage). free_by (standing_at s)) e)

module _ (x : Exchange) (four : Fours x) where
  free_here : found (free_own x.own) ≡ true ↔ Somewhere (OwnFree x)
  free_here = somewhere _ _ _ (free_own_lowest x.own four.own) (λ p. own_is_free (own_place x p).stage)

  pub lowest_free : (p : ℕ) → (free_own x.own ≡ Some p) ↔ LowestAt (OwnFree x) p
  lowest_free p = lowest _ _ _ (free_own_lowest x.own four.own) (λ q. own_is_free (own_place x q).stage) p

-- 9: what stands for a place above 3 is free
module _ (x : Exchange) (four : Fours x) (p : ℕ) where
  no_verdict_at : (s : OwnStage) → (own_place x p).stage ≡ s → not (given_by (standing_at s)) ≡ true → NoVerdict x p
  no_verdict_at own.Free e t = own_free e
  no_verdict_at own.Sending e t = without (ap standing_at e)
  no_verdict_at own.PutOut e t = without (ap standing_at e)
  no_verdict_at (own.Awaiting timer) e t = without (ap standing_at e)
  no_verdict_at (own.Replying a) e t = without (ap standing_at e)
  no_verdict_at (own.Done v r) e t = absurd (false≢true t)

  is_no_verdict : NoVerdict x p → not (own_has_verdict (own_place x p)) ≡ true
  is_no_verdict (own_above more) = rw (get_or-eq_default x.own fresh_own {n = p} (omega (arith, four.own)))
  is_no_verdict (own_free e) = rw e
  is_no_verdict (without e) = rw e

  no_verdict : not (own_has_verdict (own_place x p)) ≡ true ↔ NoVerdict x p
  no_verdict = (no_verdict_at (own_place x p).stage refl, is_no_verdict)

  not_ready_at : (s : IncomingStage) → (incoming_place x p).stage ≡ s → not (complete_at s) && not (replied_at s) ≡ true → NotReady x p
  not_ready_at incoming.Free e t = free e
  not_ready_at (incoming.Open a) e t = not_complete a e
  not_ready_at (incoming.Complete n) e t = absurd (false≢true t)
  not_ready_at (incoming.Replying n) e t = on_its_way n e
  not_ready_at (incoming.Replied n f) e t = absurd (false≢true t)

  is_not_ready : NotReady x p → not_ready (incoming_place x p) ≡ true
  unfolding not_ready
  is_not_ready (above more) = rw (get_or-eq_default x.incoming fresh_incoming {n = p} (omega (arith, four.incoming)))
  is_not_ready (free e) = rw e
  is_not_ready (not_complete a e) = rw e
  is_not_ready (on_its_way n e) = rw e

  not_ready_lem : not_ready (incoming_place x p) ≡ true ↔ NotReady x p
  unfolding not_ready
  not_ready_lem = (not_ready_at (incoming_place x p).stage refl, is_not_ready)

-- 10
unwanted : (w : Bool) → not w ≡ true ↔ (w ≡ false)
unwanted w = (not-true w, λ e. rw e)

-- 11
replied_at_lem : (x : Exchange) (p : ℕ) (s : IncomingStage) → (incoming_place x p).stage ≡ s → replied_at s ≡ true → RepliedBefore x p
replied_at_lem x p incoming.Free e t = absurd (false≢true t)
replied_at_lem x p (incoming.Open a) e t = absurd (false≢true t)
replied_at_lem x p (incoming.Complete n) e t = absurd (false≢true t)
replied_at_lem x p (incoming.Replying n) e t = absurd (false≢true t)
replied_at_lem x p (incoming.Replied n f) e t = replied n f e

was_replied : (x : Exchange) (p : ℕ) → RepliedBefore x p → incoming_is_replied (incoming_place x p) ≡ true
was_replied x p (replied n f e) = rw e

before : (x : Exchange) (p : ℕ) → incoming_is_replied (incoming_place x p) ≡ true ↔ RepliedBefore x p
before x p = (replied_at_lem x p (incoming_place x p).stage refl, was_replied x p)

-- ---- opening

abbrev number : Requesting → ℕ
number a = numbered a.answer

-- "5, 6, 7, 8"
abbrev open_number : Bool → Bool → Bool → Bool → ℕ
open_number bad big busy room = cond bad 5 (cond big 6 (cond busy 7 (cond room 0 8)))

module _ (c : Terms) (x : Exchange) (q : Primary) (d room : List ℕ) where
  open_by_lem : (f : Option ℕ) → number (open_by f c x q d room) ≡ cond (found f) 0 8
  unfolding refused refused_by
  open_by_lem (Some p) = refl
  open_by_lem None = refl

  open_number_lem : number (open_of c x q d room) ≡ open_number (bad_primary q) (data_long (length d)) (is_sending x) (found (free_own x.own))
  unfolding open_of open_free refused refused_by
  open_number_lem =
      of_choice number (bad_primary q) _ _
      ∙ ap (λ (n : ℕ). cond (bad_primary q) 5 n)
      (of_choice number (data_long (length d)) _ _
      ∙ ap (λ (n : ℕ). cond (data_long (length d)) 6 n)
      (of_choice number (is_sending x) _ _ ∙ ap (λ (n : ℕ). cond (is_sending x) 7 n) (open_by_lem (free_own x.own))))

-- four tests that say what the rows ask
module _
    (x : Exchange) (q : Primary) (d : List ℕ) (b l s f : Bool)
    (bad : b ≡ true ↔ BadPrimary q)
    (big : l ≡ true ↔ DataAbove d)
    (busy : s ≡ true ↔ IsSending x)
    (has : f ≡ true ↔ Somewhere (OwnFree x))
  where
    open_ruled : OpenRuled x q d (open_number b l s f)
    open_ruled =
        judged b bad (λ z. OpenRuled x q d (open_number z l s f)) open_5
        (λ n.
        judged l big (λ z. OpenRuled x q d (open_number false z s f)) (open_6 n)
        (λ m.
        judged s busy (λ z. OpenRuled x q d (open_number false false z f)) (open_7 n m)
        (λ k.
        judged f has (λ z. OpenRuled x q d (open_number false false false z)) (open_0 n m k)
        (λ none. open_8 n m k (λ p less e. none (record { place = p; within = less; so = e }))))))

    open_chosen : {n : ℕ} → OpenRuled x q d n → open_number b l s f ≡ n
    open_chosen (open_5 y) = rw (bad.1 y)
    open_chosen (open_6 n y) = rw (fails b _ bad n, big.1 y)
    open_chosen (open_7 n m y) = rw (fails b _ bad n, fails l _ big m, busy.1 y)
    open_chosen (open_8 n m k y) = rw (fails b _ bad n, fails l _ big m, fails s _ busy k, fails f _ has (λ w. y w.place w.within w.so))
    open_chosen (open_0 n m k y) = rw (fails b _ bad n, fails l _ big m, fails s _ busy k, has.1 y)

pub open_exactly : OpenExactly
open_exactly c x q d room four n = (
  λ e. subst (OpenRuled x q d) (sym (open_number_lem c x q d room) ∙ e) (open_ruled x q d _ _ _ _ (bad_primary_lem q) (long d) (sends x.sending) (free_here x four)),
  λ w. open_number_lem c x q d room ∙ open_chosen x q d _ _ _ _ (bad_primary_lem q) (long d) (sends x.sending) (free_here x four) w,
)

-- ---- replying

-- "9, 10, 11, 5, 6, 7"
abbrev owed_number : Bool → Bool → Bool → ℕ → ℕ
owed_number unready unwanted again n = cond unready 9 (cond unwanted 10 (cond again 11 n))

abbrev ready_number : Bool → Bool → Bool → ℕ
ready_number bad big busy = cond bad 5 (cond big 6 (cond busy 7 0))

module _ (x : Exchange) (p f : ℕ) (d room : List ℕ) where
  abbrev primary : Header
  primary = primary_of (incoming_place x p)

  ready_number_lem : number (reply_ready x p f d room) ≡ ready_number (bad_function primary f) (data_long (length d)) (is_sending x)
  unfolding reply_ready reply_accepted refused refused_by
  ready_number_lem =
      of_choice number (bad_function primary f) _ _
      ∙ ap (λ (n : ℕ). cond (bad_function primary f) 5 n)
      (of_choice number (data_long (length d)) _ _ ∙ ap (λ (n : ℕ). cond (data_long (length d)) 6 n) (of_choice number (is_sending x) _ _))

  reply_number :
      number (reply_of x p f d room)
      ≡ owed_number (not_ready (incoming_place x p)) (not primary.w) (incoming_is_replied (incoming_place x p))
      (ready_number (bad_function primary f) (data_long (length d)) (is_sending x))
  unfolding reply_of refused refused_by
  reply_number =
      of_choice number (not_ready (incoming_place x p)) _ _
      ∙ ap (λ (n : ℕ). cond (not_ready (incoming_place x p)) 9 n)
      (of_choice number (not primary.w) _ _
      ∙ ap (λ (n : ℕ). cond (not primary.w) 10 n)
      (of_choice number (incoming_is_replied (incoming_place x p)) _ _ ∙ ap (λ (n : ℕ). cond (incoming_is_replied (incoming_place x p)) 11 n) ready_number_lem))

-- six tests that say what the rows ask
module _
    (x : Exchange) (p f : ℕ) (d : List ℕ) (u w a b l s : Bool)
    (unready : u ≡ true ↔ NotReady x p)
    (unasked : w ≡ true ↔ NotWanted x p)
    (again : a ≡ true ↔ RepliedBefore x p)
    (bad : b ≡ true ↔ BadReply (primary_of (incoming_place x p)) f)
    (big : l ≡ true ↔ DataAbove d)
    (busy : s ≡ true ↔ IsSending x)
  where
    reply_ruled : ReplyRuled x p f d (owed_number u w a (ready_number b l s))
    reply_ruled =
        judged u unready (λ z. ReplyRuled x p f d (owed_number z w a (ready_number b l s))) reply_9
        (λ n.
        judged w unasked (λ z. ReplyRuled x p f d (owed_number false z a (ready_number b l s))) (reply_10 n)
        (λ m.
        judged a again (λ z. ReplyRuled x p f d (owed_number false false z (ready_number b l s))) (reply_11 n m)
        (λ k.
        let owed : Owed x p = record { ready = n; wanted = m; first = k } in
        judged b bad (λ z. ReplyRuled x p f d (ready_number z l s)) (reply_5 owed)
        (λ i.
        judged l big (λ z. ReplyRuled x p f d (ready_number false z s)) (reply_6 owed i)
        (λ j.
        judged s busy (λ z. ReplyRuled x p f d (ready_number false false z)) (reply_7 owed i j) (reply_0 owed i j))))))

    is_owed : Owed x p → (n : ℕ) → owed_number u w a n ≡ n
    is_owed o n = rw (fails u _ unready o.ready, fails w _ unasked o.wanted, fails a _ again o.first)

    reply_chosen : {n : ℕ} → ReplyRuled x p f d n → owed_number u w a (ready_number b l s) ≡ n
    reply_chosen (reply_9 y) = rw (unready.1 y)
    reply_chosen (reply_10 n y) = rw (fails u _ unready n, unasked.1 y)
    reply_chosen (reply_11 n m y) = rw (fails u _ unready n, fails w _ unasked m, again.1 y)
    reply_chosen (reply_5 o y) = is_owed o _ ∙ rw (bad.1 y)
    reply_chosen (reply_6 o i y) = is_owed o _ ∙ rw (fails b _ bad i, big.1 y)
    reply_chosen (reply_7 o i j y) = is_owed o _ ∙ rw (fails b _ bad i, fails l _ big j, busy.1 y)
    reply_chosen (reply_0 o i j y) = is_owed o _ ∙ rw (fails b _ bad i, fails l _ big j, fails s _ busy y)

pub reply_exactly : ReplyExactly
reply_exactly x p f d room four n = (
  λ e. subst (ReplyRuled x p f d) (sym (reply_number x p f d room) ∙ e)
      (reply_ruled x p f d _ _ _ _ _ _ (not_ready_lem x four p) (unwanted _) (before x p) (bad_reply _ f) (long d) (sends x.sending)),
  λ w. reply_number x p f d room
      ∙ reply_chosen x p f d _ _ _ _ _ _ (not_ready_lem x four p) (unwanted _) (before x p) (bad_reply _ f) (long d) (sends x.sending) w,
)

-- ---- releasing

-- one test that says what the row asks
module _ (Row : Type 0) (t : Bool) (says : t ≡ true ↔ Row) where
  release_ruled : ReleaseRuled Row (cond t 9 0)
  release_ruled = judged t says (λ z. ReleaseRuled Row (cond z 9 0)) release_9 release_0

  release_chosen : {n : ℕ} → ReleaseRuled Row n → cond t 9 0 ≡ n
  release_chosen (release_9 y) = rw (says.1 y)
  release_chosen (release_0 n) = rw (fails t _ says n)

  pub release_by : (k n : ℕ) → k ≡ cond t 9 0 → (k ≡ n) ↔ ReleaseRuled Row n
  release_by k n e = (λ m. subst (ReleaseRuled Row) (sym e ∙ m) release_ruled, λ w. e ∙ release_chosen w)

-- a test and its opposite choose the same
turned : {A : Type 0} (t : Bool) (a b : A) → cond t a b ≡ cond (not t) b a
turned true a b = refl
turned false a b = refl

pub release_own_exactly : ReleaseOwnExactly
unfolding release_own refused_by
release_own_exactly x p four n =
    release_by _ (not (own_has_verdict (own_place x p))) (no_verdict x four p) _ n
    (of_choice numbered (own_has_verdict (own_place x p)) _ _ ∙ turned (own_has_verdict (own_place x p)) 0 9)

pub release_incoming_exactly : ReleaseIncomingExactly
unfolding release_incoming refused_by
release_incoming_exactly x p four n =
    release_by _ (not_ready (incoming_place x p)) (not_ready_lem x four p) _ n (of_choice numbered (not_ready (incoming_place x p)) _ _)

-- ---- any request

pub request_exactly : RequestExactly
request_exactly c x (request.primary q d) room four n = open_exactly c x q d room four n
request_exactly c x (request.reply p f d) room four n = reply_exactly x p f d room four n
request_exactly c x (request.freeing_own p) room four n = release_own_exactly x p four n
request_exactly c x (request.freeing_incoming p) room four n = release_incoming_exactly x p four n
