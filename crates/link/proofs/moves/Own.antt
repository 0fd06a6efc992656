-- How one call moves what the onlooker of an own place has seen (`specs/Moves.antt`). Assumes nothing.
use Rattle.std.specs.Prelude.{Option, Some, None, Ok}
use Prim.Native.Nat.{ℕ, ◌+◌, ◌<◌}
use mathlib.Core.Path.{◌≡◌, refl, sym, ap, ◌∙◌, subst}
use mathlib.Core.Bool.{Bool, true, false, cond, false≢true}
use mathlib.Core.List.{List, [], ◌∷◌, ◌++◌}
use mathlib.Core.Logic.{◌↔◌, ◌⊎◌, inl, inr, ⊎_elim}
use native.Mathlib.Omega.{arith}
use lib.ListN.{length, get_or, drop, length-append}
use borrow.Author.Tests.{eqb-true, eq-eqb}
use Rattle.wire.specs.Message.{message_limit}
use Rattle.wire.proofs.Choice.{either, chosen}
use Rattle.header.specs.Header.{header_of}
use Rattle.header.specs.declared.header.Header.{Header}
use Rattle.header.proofs.Headers.{header_and_back}
use Rattle.settings.specs.declared.terms.Terms.{Terms}
use Rattle.place.specs.Own.{own_standing, standing_at, given_by, own_has_verdict}
use Rattle.place.specs.OwnHistory as own
use Rattle.place.specs.OwnTheorems.{not_acked}
use Rattle.place.proofs.Verdicts.{free_exactly, nothing_shown}
use Rattle.place.specs.declared.Standing.TheVariants as standing
use Rattle.table.specs.Own.{reply_for}
use Rattle.table.specs.Incoming.{message_for, open_alike, free_incoming}
use Rattle.table.proofs.Finding.{reply_lowest}
use Rattle.exchange.specs.Note.{note_number as block_note}
use Rattle.exchange.specs.Exchange.{own_place, sent_from}
use Rattle.exchange.specs.Judge.{judge_of}
use Rattle.exchange.specs.Request.{refused_by, release_own, primary_header, Request, primary, reply, freeing_own, freeing_incoming, answer_of}
use Rattle.exchange.specs.Refusals.{number_given}
use Rattle.exchange.specs.Rules.{Fours, LowestAt, OfReply, total, Ruled, misrouted, duplicate, stray, empty, too_long_lem, no_place, kept}
use Rattle.exchange.specs.History as exchange
use Rattle.exchange.specs.Watching.{found_at, told_by, accepted_as, own_taken, own_sees}
use Rattle.exchange.specs.Underway.{OnItsWay, Underway}
use Rattle.exchange.specs.declared.Note.{Note}
use Rattle.exchange.specs.declared.Exchange.{Exchange}
use Rattle.exchange.specs.declared.Primary.{Primary}
use Rattle.exchange.specs.declared.Requested.{Requested}
use Rattle.exchange.proofs.Accepting.{not_taken, accepted_opens}
use Rattle.exchange.proofs.Finding.{lowest}
use Rattle.exchange.proofs.Judging.{reply_says}
use Rattle.exchange.proofs.Keeping.{bytes_before_lem}
use Rattle.exchange.proofs.Joining.{anew_here}
use Rattle.exchange.proofs.Runs.{four_places}
use Rattle.exchange.proofs.Underway.{apart, underway_all}
use Rattle.link.specs.History.{Made, Track, exchange_track, terms_in, answered, on_exchange_in, next}
use Rattle.link.specs.Inside.{Reached}
use Rattle.link.specs.Verdicts.{Tells, FreesOwn}
use Rattle.link.specs.Moves.{Ticks, noted, GoesUp, Opens, PutsOut, FirstOut, Acknowledges, Loses, RepliedTo, Proves, passed, underway_with, OwnStep, same, passes, loses, loses_passing, opens, goes_out, acknowledges, frees, keeps, spoils, KeepsOne, SpoilsOne, BlocksStay, NoneCounted, Becomes, OwnSeen, UnderwayExactly, HeaderAsAsked}
use Rattle.link.specs.declared.Outcome.TheVariants as outcome
use Rattle.link.proofs.inside.Reached.{by_calls}
use Rattle.link.proofs.inside.Places.{lent, goes, sound_inside, places_inside}
use Rattle.link.proofs.device.Up.{few_up}
use Rattle.link.proofs.moves.Seen.{is_tick, alone, by_seen, seen_with, seen_alone, seen_refused, by_taken, seen_taken, taken_named, named_at}
use Rattle.link.proofs.verdicts.Taken.{request_taken}
use Rattle.link.proofs.moves.Notes.{by_note, kept_note, spoilt_note, up_noted, by_block}

-- ---- the header of a request

pub header_as_asked : HeaderAsAsked
header_as_asked c x q n i =
    let e = header_and_back (primary_header c q n (number_given x)) i in
    record {
      r = ap (λ (h : Header). h.r) e;
      device = ap (λ (h : Header). h.device) e;
      w = ap (λ (h : Header). h.w) e;
      stream = ap (λ (h : Header). h.stream) e;
      function = ap (λ (h : Header). h.function) e;
      system = ap (λ (h : Header). h.system) e;
      number = ap (λ (h : Header). h.number) e;
      e = ap (λ (h : Header). h.e) e;
    }

-- ---- a request is underway exactly while its primary is being sent

pub underway_exactly : UnderwayExactly
underway_exactly t w p k =
    by_calls (λ v. Underway p v.link.exchange (v.own p))
    (λ v r m g.
    subst (λ x. Underway p x ((next v m).own p)) (goes v m)
    (underway_all (terms_in v) p k (exchange_track v (lent v m)) (v.own p) (on_exchange_in v m) (sound_inside v r) ((places_inside v r).own p k, g)).1)
    t w (λ e. absurd (apart own.none own.none refl refl e), λ e. absurd (false≢true e))

-- ---- what was found

pub found_at_lem : (f : Option ℕ) (p : ℕ) → found_at f p ≡ true → f ≡ Some p
found_at_lem (Some q) p e = ap Some (eqb-true q p e)
found_at_lem None p e = absurd (false≢true e)

-- a place that is free has no verdict to release
released_verdict : (x : Exchange) (p : ℕ) → (release_own x p).asked ≡ Ok p → own_standing (own_place x p) ≡ standing.Free → ⊥
unfolding release_own refused_by
released_verdict x p e f =
    chosen (λ (a : Requested). a.asked ≡ Ok p → ⊥) (own_has_verdict (own_place x p)) _ _
    (λ v z. absurd (false≢true (sym (ap given_by f) ∙ v))) (λ v z. not_taken z) e

-- ---- lists of blocks

one_longer : (bs : List Header) (b : Header) → bs ≡ bs ++ (b ∷ []) → ⊥
one_longer bs b e = omega (arith, ap length e, length-append bs (b ∷ []))

not_empty : (bs : List Header) (b : Header) → [] ≡ bs ++ (b ∷ []) → ⊥
not_empty bs b e = omega (arith, ap length e, length-append bs (b ∷ []))

same_last : (bs : List Header) (a b : Header) → bs ++ (a ∷ []) ≡ bs ++ (b ∷ []) → a ≡ b
same_last [] a b e = ap (λ l. get_or l 0 a) e
same_last (c ∷ bs) a b e = same_last bs a b (ap (λ l. drop 1 l) e)

-- a tick: one more to each count of ticks, and the blocks stay
record PassedBy (s y : own.Seen) : Type 0 where
  counts : (y.since ≡ s.since + 1) × (y.quiet ≡ s.quiet + 1)
  blocks : BlocksStay s y

passes_by : (r : own.Request) (s : own.Seen) → PassedBy s (passed (own.at s r))
passes_by r s = record { counts = (refl, refl); blocks = record { kept = refl; bytes = refl; spoilt = refl } }

-- a send that is given up changes no count
given_up : (r : own.Request) (s : own.Seen) → PassedBy s (passed (own.gave_up r s))
given_up own.none s = passes_by _ s
given_up own.underway s = passes_by _ s
given_up own.out s = passes_by _ s
given_up own.acknowledged s = passes_by _ s
given_up own.proved s = passes_by _ s
given_up own.lost s = passes_by _ s

-- where counts start there is none
none_counted : (s : own.Seen) (r : own.Request) → NoneCounted (own.counting s r)
none_counted s r = record { kept = refl; bytes = refl; spoilt = refl; since = refl; quiet = refl }

-- a block of the reply proves the request that is out, and changes no other
proven_or_same : (r : own.Request) (n : ℕ) → ((own.proven_by r ≡ r) × (own.since_by r n ≡ n)) ⊎ ((r ≡ own.out) × (own.proven_by r ≡ own.proved))
proven_or_same own.none n = inl (refl, refl)
proven_or_same own.underway n = inl (refl, refl)
proven_or_same own.out n = inr (refl, refl)
proven_or_same own.acknowledged n = inl (refl, refl)
proven_or_same own.proved n = inl (refl, refl)
proven_or_same own.lost n = inl (refl, refl)

-- 5: "Total data above 4,096: note 26"
too_long_by : {c : Terms} {x : Exchange} {h d : List ℕ} {n : ℕ} → Ruled c x h d n → n ≡ 26 → message_limit < total x h d
too_long_by (misrouted a) e = absurd (omega arith)
too_long_by (duplicate a b) e = absurd (omega arith)
too_long_by (stray a b) e = absurd (omega arith)
too_long_by (empty a b f) e = absurd (omega arith)
too_long_by (too_long_lem a b f g) e = g
too_long_by (no_place a b f g i) e = absurd (omega arith)
too_long_by (kept a b f g i) e = absurd (omega arith)

module _ (t : Track) (w : Reached t) (p : ℕ) (within : p < 4) where
  abbrev c : Terms
  c = terms_in t

  abbrev x : Exchange
  x = t.link.exchange

  abbrev s : own.Seen
  s = t.own p

  four : Fours x
  four = four_places x (sound_inside t w)

  -- the reply of place p is the one found
  of_reply_lem : (b : Header) → (reply_for x.own b ≡ Some p) ↔ LowestAt (λ q. OfReply (own_place x q) b) p
  of_reply_lem b = lowest (reply_for x.own b) _ (λ q. OfReply (own_place x q) b) (reply_lowest x.own b four.own) (λ q. reply_says (own_place x q) b) p

  -- a request that is being sent from here is underway or out
  on_way_lem : sent_from x.sending p ≡ true → OnItsWay s.request
  on_way_lem e = (underway_exactly t w p within).1 e

  by_way : (P : own.Request → Type 0) → (s.request ≡ own.underway → P own.underway) → (s.request ≡ own.out → P own.out)
      → sent_from x.sending p ≡ true → P s.request
  by_way P under out e = ⊎_elim (λ z. subst P (sym z) (under z)) (λ z. subst P (sym z) (out z)) (on_way_lem e)

  acked_so : sent_from x.sending p ≡ true → own.acked s.request s ≡ own.counting s own.acknowledged
  acked_so = by_way (λ r. own.acked r s ≡ own.counting s own.acknowledged) (λ z. refl) (λ z. refl)

  lost_so : sent_from x.sending p ≡ true → own.gave_up s.request s ≡ own.at s own.lost
  lost_so = by_way (λ r. own.gave_up r s ≡ own.at s own.lost) (λ z. refl) (λ z. refl)

  module _ (m : Made) where
    abbrev room : List ℕ
    room = lent t m

    abbrev Goes : own.Seen → Type 0
    Goes = OwnStep t m p

    -- ---- a primary that takes this place

    -- it was free
    taken_free : (q : Primary) (d : List ℕ) → (answer_of c x (primary q d) room).answer.asked ≡ Ok p → s.request ≡ own.none
    taken_free q d e =
        let free = (accepted_opens c x q d room four p e).lowest.so in
        (free_exactly c _ ((places_inside t w).own p within)).0 (ap standing_at free)

    asked_so : (q : Primary) (d : List ℕ) → (answer_of c x (primary q d) room).answer.asked ≡ Ok p
        → own.asked s.request s (accepted_as c x q (length d)) ≡ underway_with s (accepted_as c x q (length d))
    asked_so q d e = ap (λ (r : own.Request). own.asked r s (accepted_as c x q (length d))) (taken_free q d e)

    -- ---- all that a call can be to this onlooker

    -- by whether the message being sent is this place's
    either_sent : (P : own.Seen → Type 0) (y : own.Seen) → (sent_from x.sending p ≡ true → P y) → P s → P (cond (sent_from x.sending p) y s)
    either_sent P y mine other = either (sent_from x.sending p) (λ z. P (cond z y s)) mine (λ z. other)

    block_step : (h d : List ℕ) → GoesUp t m h d → (Ticks t m → ⊥) → Goes (own_sees c p x room s (exchange.block h d))
    block_step h d g n =
        let b = header_of h in
        either (found_at (reply_for x.own b) p) (λ z. Goes (cond z (own.answered (told_by (judge_of c x h d room).answer.note) s b (length d)) s))
        (λ f.
        let o = (of_reply_lem b).0 (found_at_lem (reply_for x.own b) p f) in
        by_note (λ k a. noted t m ≡ block_note k → Goes (own.answered a s b (length d))) (λ y. keeps h d (record { up = g; note = y; of_it = o })) (λ k i j y. same n)
        (λ k i y. spoils (block_note k) h d i (record { up = g; note = y; of_it = o })) (judge_of c x h d room).answer.note (up_noted t m h d g))
        (λ f. same n)

    -- its last block is put out: the first time, if it asks for a reply, or no more comes of it
    put_out_step : Tells t m exchange.put_out → (Ticks t m → ⊥) → sent_from x.sending p ≡ true → Goes (own.went_out s.request s)
    put_out_step a n o =
        by_way (λ r. Goes (own.went_out r s))
        (λ z. either s.header.w (λ y. Goes (cond y (own.counting s own.out) s))
        (λ y. goes_out (record { puts_out = record { told = a; of_it = o }; before = z; wanted = y })) (λ y. same n))
        (λ z. same n) o

    -- by what was asked for, where it took this place
    took : (r : Request) → Tells t m (exchange.request r) → (Ticks t m → ⊥) → (answer_of c x r room).answer.asked ≡ Ok p
        → (answered t m).answer.outcome ≡ outcome.Taken p → Goes (own_taken c x s r)
    took (primary q d) a n e o = subst Goes (sym (asked_so q d e)) (opens q (record { rest = d; told = a; place = o }))
    took (reply q f d) a n e o = same n
    took (freeing_own q) a n e o = frees (subst (λ i. Tells t m (exchange.request (freeing_own i))) (sym (taken_named c x room p (freeing_own q) e)) a)
    took (freeing_incoming q) a n e o = same n

    one_step : (k : exchange.Call) → Tells t m k → (is_tick k ≡ false → Ticks t m → ⊥) → Goes (own_sees c p x room s k)
    one_step (exchange.block h d) a n = block_step h d a (n refl)
    one_step exchange.tick a n = passes a
    one_step exchange.put_out a n = either_sent Goes (own.went_out s.request s) (put_out_step a (n refl)) (same (n refl))
    one_step exchange.acknowledged a n =
        either_sent Goes (own.acked s.request s) (λ o. subst Goes (sym (acked_so o)) (acknowledges (record { told = a; of_it = o }))) (same (n refl))
    one_step exchange.failed a n =
        either_sent Goes (own.gave_up s.request s) (λ o. subst Goes (sym (lost_so o)) (loses (n refl) (record { told = a; of_it = o }))) (same (n refl))
    one_step (exchange.request r) a n = by_taken t m r a p Goes (own_taken c x s r) s (took r a (n refl)) (same (n refl))

    own_step : Goes ((next t m).own p)
    own_step =
        by_seen t m (own_sees c p) s Goes same one_step
        (λ a n.
        either_sent (λ y. Goes (passed y)) (own.gave_up s.request s)
        (λ o. subst (λ y. Goes (passed y)) (sym (lost_so o)) (loses_passing n (record { told = a; of_it = o }))) (passes n))

    -- ---- why the onlooker's readings moved

    abbrev Reason : own.Request → Type 0
    Reason own.none = FreesOwn t m p
    Reason own.underway = (q : Primary) × Opens t m p q
    Reason own.out = FirstOut t m p
    Reason own.acknowledged = Acknowledges t m p
    Reason own.proved = Proves t m p
    Reason own.lost = Loses t m p

    -- "N (10 to 254)": the first block of a reply is not above 4,096 bytes
    first_fits : (h d : List ℕ) → RepliedTo t m p 26 h d → s.request ≡ own.out → ⊥
    first_fits h d r e =
        let long = too_long_by ((by_block t w m h d r.up 26).0 r.note) refl in
        let have = (bytes_before_lem x (header_of h) four).reply p r.of_it in
        let none = (nothing_shown c _ ((places_inside t w).own p within) (not_acked e)).length in
        omega (arith, long, have, none, few_up t w m h d r.up)

    -- a block of the reply that is kept, or breaks it, comes at a request that is out, or changes neither request nor ticks
    block_proves : (n : ℕ) (h d : List ℕ) → (n ≡ 21) ⊎ ((n ≡ 26) ⊎ (n ≡ 27)) → RepliedTo t m p n h d
        → ((own.proven_by s.request ≡ s.request) × (own.since_by s.request s.since ≡ s.since)) ⊎ ((own.proven_by s.request ≡ own.proved) × Proves t m p)
    block_proves n h d i r =
        ⊎_elim inl
        (λ z.
        let which : (n ≡ 21) ⊎ (n ≡ 27) = ⊎_elim inl (⊎_elim (λ e. absurd (first_fits h d (subst (λ k. RepliedTo t m p k h d) e r) z.0)) inr) i in
        inr (z.1, record { before = z.0; header = h; rest = d; note = n; either = which; came = r }))
        (proven_or_same s.request s.since)

    proves_request : (n : ℕ) (h d : List ℕ) → (n ≡ 21) ⊎ ((n ≡ 26) ⊎ (n ≡ 27)) → RepliedTo t m p n h d
        → (own.proven_by s.request ≡ s.request) ⊎ Reason (own.proven_by s.request)
    proves_request n h d i r = ⊎_elim (λ z. inl z.0) (λ z. inr (subst Reason (sym z.0) z.1)) (block_proves n h d i r)

    why_request : (y : own.Seen) → Goes y → (y.request ≡ s.request) ⊎ Reason y.request
    why_request _ (same n) = inl refl
    why_request _ (passes n) = inl refl
    why_request _ (loses_passing n l) = inr l
    why_request _ (loses n l) = inr l
    why_request _ (opens q o) = inr (q, o)
    why_request _ (goes_out f) = inr f
    why_request _ (acknowledges k) = inr k
    why_request _ (frees f) = inr f
    why_request _ (keeps h d r) = proves_request 21 h d (inl refl) r
    why_request _ (spoils n h d i r) = proves_request n h d (inr i) r

    becomes : (r : own.Request) → Becomes t m p r → Reason r
    becomes r b = ⊎_elim (λ e. absurd (b.before (sym e ∙ b.after))) (λ y. subst Reason b.after y) (why_request ((next t m).own p) own_step)

    -- where no count starts or goes on: one in which neither the request's stage nor its header has a part is as a block of the reply leaves it
    module _ (no_tick : Ticks t m → ⊥) (not_out : FirstOut t m p → ⊥) (not_acked : Acknowledges t m p → ⊥) where
      count_same :
          (count : own.Seen → ℕ) → ((q : own.Request) (h : Header) → count (own.at (underway_with s h) q) ≡ count s)
          → ((h d : List ℕ) → RepliedTo t m p 21 h d → count (own.answered own.kept s (header_of h) (length d)) ≡ count s)
          → ((n : ℕ) (h d : List ℕ) → (n ≡ 26) ⊎ (n ≡ 27) → RepliedTo t m p n h d → count (own.answered own.spoilt s (header_of h) (length d)) ≡ count s)
          → (y : own.Seen) → Goes y → count y ≡ count s
      count_same count stays at_kept at_spoilt _ (same n) = refl
      count_same count stays at_kept at_spoilt _ (passes n) = absurd (no_tick n)
      count_same count stays at_kept at_spoilt _ (loses_passing n l) = absurd (no_tick n)
      count_same count stays at_kept at_spoilt _ (loses n l) = stays own.lost s.header
      count_same count stays at_kept at_spoilt _ (opens q o) = stays own.underway (accepted_as c x q (length o.rest))
      count_same count stays at_kept at_spoilt _ (goes_out f) = absurd (not_out f)
      count_same count stays at_kept at_spoilt _ (acknowledges k) = absurd (not_acked k)
      count_same count stays at_kept at_spoilt _ (frees f) = stays own.none s.header
      count_same count stays at_kept at_spoilt _ (keeps h d r) = at_kept h d r
      count_same count stays at_kept at_spoilt _ (spoils n h d i r) = at_spoilt n h d i r

      since_same : (Proves t m p → ⊥) → ((next t m).own p).since ≡ s.since
      since_same not_proved =
          let not_proven : (n : ℕ) (h d : List ℕ) → (n ≡ 21) ⊎ ((n ≡ 26) ⊎ (n ≡ 27)) → RepliedTo t m p n h d → own.since_by s.request s.since ≡ s.since =
          λ n h d i r. ⊎_elim (λ z. z.1) (λ z. absurd (not_proved z.1)) (block_proves n h d i r) in
          count_same (λ y. y.since) (λ q h. refl) (λ h d. not_proven 21 h d (inl refl)) (λ n h d i. not_proven n h d (inr i)) ((next t m).own p) own_step

      quiet_same : ((h d : List ℕ) → RepliedTo t m p 21 h d → ⊥) → ((next t m).own p).quiet ≡ s.quiet
      quiet_same not_kept =
          count_same (λ y. y.quiet) (λ q h. refl) (λ h d r. absurd (not_kept h d r)) (λ n h d i r. refl) ((next t m).own p) own_step

    -- the request's header is changed by the next one alone
    header_same : ((q : Primary) → Opens t m p q → ⊥) → (y : own.Seen) → Goes y → y.header ≡ s.header
    header_same none _ (same n) = refl
    header_same none _ (passes n) = refl
    header_same none _ (loses_passing n l) = refl
    header_same none _ (loses n l) = refl
    header_same none _ (opens q o) = absurd (none q o)
    header_same none _ (goes_out f) = refl
    header_same none _ (acknowledges k) = refl
    header_same none _ (frees f) = refl
    header_same none _ (keeps h d r) = refl
    header_same none _ (spoils n h d i r) = refl

    -- one block more was kept, or as many as before, or none
    abbrev KeptOne : Header → Type 0
    KeptOne b = (h : List ℕ) × (d : List ℕ) × RepliedTo t m p 21 h d × (header_of h ≡ b)

    why_kept : (b : Header) (y : own.Seen) → Goes y → y.kept ≡ s.kept ++ (b ∷ []) → KeptOne b
    why_kept b _ (same n) e = absurd (one_longer _ b e)
    why_kept b _ (passes n) e = absurd (one_longer _ b e)
    why_kept b _ (loses_passing n l) e = absurd (one_longer _ b e)
    why_kept b _ (loses n l) e = absurd (one_longer _ b e)
    why_kept b _ (opens q o) e = absurd (one_longer _ b e)
    why_kept b _ (goes_out f) e = absurd (not_empty s.kept b e)
    why_kept b _ (acknowledges k) e = absurd (not_empty s.kept b e)
    why_kept b _ (frees f) e = absurd (one_longer _ b e)
    why_kept b _ (keeps h d r) e = (h, d, r, same_last s.kept (header_of h) b e)
    why_kept b _ (spoils n h d i r) e = absurd (one_longer _ b e)

    abbrev SpoiltOne : Type 0
    SpoiltOne = (n : ℕ) × (h : List ℕ) × (d : List ℕ) × ((n ≡ 26) ⊎ (n ≡ 27)) × RepliedTo t m p n h d

    why_spoilt : (y : own.Seen) → Goes y → s.spoilt ≡ false → y.spoilt ≡ true → SpoiltOne
    why_spoilt _ (same n) u e = absurd (false≢true (sym u ∙ e))
    why_spoilt _ (passes n) u e = absurd (false≢true (sym u ∙ e))
    why_spoilt _ (loses_passing n l) u e = absurd (false≢true (sym u ∙ e))
    why_spoilt _ (loses n l) u e = absurd (false≢true (sym u ∙ e))
    why_spoilt _ (opens q o) u e = absurd (false≢true (sym u ∙ e))
    why_spoilt _ (goes_out f) u e = absurd (false≢true e)
    why_spoilt _ (acknowledges k) u e = absurd (false≢true e)
    why_spoilt _ (frees f) u e = absurd (false≢true (sym u ∙ e))
    why_spoilt _ (keeps h d r) u e = absurd (false≢true (sym u ∙ e))
    why_spoilt _ (spoils n h d i r) u e = (n, h, d, i, r)

    -- ---- and what moves them

    ticked_so : Ticks t m → PassedBy s ((next t m).own p)
    ticked_so =
        seen_with t m (own_sees c p) s exchange.tick (PassedBy s) (passes_by s.request s)
        (λ a. either_sent (λ y. PassedBy s (passed y)) (own.gave_up s.request s) (λ o. given_up s.request s) (passes_by s.request s))

    opened_at : (q : Primary) (o : Opens t m p q) → (request_taken t m (primary q o.rest) o.told).place ≡ p
    opened_at q o =
        let w = request_taken t m (primary q o.rest) o.told in
        let z : outcome.Taken w.place ≡ outcome.Taken p = sym w.outcome ∙ o.place in
        cc

    opened_asked : (q : Primary) (o : Opens t m p q) → (answer_of c x (primary q o.rest) room).answer.asked ≡ Ok p
    opened_asked q o = (request_taken t m (primary q o.rest) o.told).asked ∙ ap Ok (opened_at q o)

    opened_so : (q : Primary) (o : Opens t m p q) → (next t m).own p ≡ underway_with s (accepted_as c x q (length o.rest))
    opened_so q o = seen_taken t m (primary q o.rest) o.told (own_sees c p) s p _ (opened_at q o) refl ∙ asked_so q o.rest (opened_asked q o)

    -- the last block is put out, of a request that stands so
    put_out_so : PutsOut t m p → (r : own.Request) → s.request ≡ r → (next t m).own p ≡ own.went_out r s
    put_out_so o r e =
        seen_alone t m (own_sees c p) s exchange.put_out refl o.told ∙ ap (λ (z : Bool). cond z (own.went_out s.request s) s) o.of_it
        ∙ ap (λ (q : own.Request). own.went_out q s) e

    out_so : FirstOut t m p → (next t m).own p ≡ own.counting s own.out
    out_so f = put_out_so f.puts_out own.underway f.before ∙ ap (λ (z : Bool). cond z (own.counting s own.out) s) f.wanted

    acknowledged_so : Acknowledges t m p → (next t m).own p ≡ own.counting s own.acknowledged
    acknowledged_so k =
        seen_alone t m (own_sees c p) s exchange.acknowledged refl k.told
        ∙ ap (λ (z : Bool). cond z (own.acked s.request s) s) k.of_it ∙ acked_so k.of_it

    -- a tick after that changes the request no more
    lost_after : Loses t m p → ((next t m).own p).request ≡ own.lost
    lost_after l =
        let y = own.gave_up s.request s in
        let gone : (cond (sent_from x.sending p) y s).request ≡ own.lost =
        ap (λ (z : Bool). (cond z y s).request) l.of_it ∙ ap (λ (z : own.Seen). z.request) (lost_so l.of_it) in
        seen_with t m (own_sees c p) s exchange.failed (λ y. y.request ≡ own.lost) gone (λ a. gone) l.told

    released_so : FreesOwn t m p → (next t m).own p ≡ own.at s own.none
    released_so f = seen_taken t m (freeing_own p) f (own_sees c p) s p _ (named_at t m (freeing_own p) f) refl

    -- a place that is released has a verdict, and so a request
    not_none : FreesOwn t m p → s.request ≡ own.none → ⊥
    not_none f e =
        released_verdict x p ((request_taken t m (freeing_own p) f).asked ∙ ap Ok (named_at t m (freeing_own p) f)) ((free_exactly c _ ((places_inside t w).own p within)).1 e)

    -- a block of the reply, by its note
    block_so : (n : ℕ) (h d : List ℕ) → RepliedTo t m p n h d → (next t m).own p ≡ own.answered (told_by (judge_of c x h d room).answer.note) s (header_of h) (length d)
    block_so n h d r =
        seen_alone t m (own_sees c p) s (exchange.block h d) refl r.up
        ∙ ap (λ (z : Bool). cond z (own.answered (told_by (judge_of c x h d room).answer.note) s (header_of h) (length d)) s)
        (ap (λ (f : Option ℕ). found_at f p) ((of_reply_lem (header_of h)).1 r.of_it) ∙ eq-eqb p p refl)

    kept_so : (h d : List ℕ) → RepliedTo t m p 21 h d
        → ((next t m).own p ≡ own.answered own.kept s (header_of h) (length d)) × ((next t m).joined.replies p ≡ t.joined.replies p ++ d)
    unfolding exchange.track
    kept_so h d r =
        let k = kept_note (judge_of c x h d room).answer.note (sym (up_noted t m h d r.up) ∙ r.note) in (
          block_so 21 h d r ∙ ap (λ (z : Note). own.answered (told_by z) s (header_of h) (length d)) k,
          ap (λ (ks : List exchange.Call). (exchange.track c (exchange_track t room) ks).seen.replies p) (alone t m (exchange.block h d) refl r.up)
              ∙ ap (λ (z : Note). (exchange.if_kept z t.joined (exchange.joins x h t.joined d)).replies p) k
              ∙ ap (λ (f : Option ℕ). (exchange.of_reply f (message_for x.incoming (header_of h)) (open_alike x.incoming (header_of h)) (free_incoming x.incoming) t.joined d).replies p)
              ((of_reply_lem (header_of h)).1 r.of_it)
              ∙ anew_here t.joined.replies p (t.joined.replies p ++ d),
        )

    spoilt_so : (n : ℕ) (h d : List ℕ) → (n ≡ 26) ⊎ (n ≡ 27) → RepliedTo t m p n h d → (next t m).own p ≡ own.answered own.spoilt s (header_of h) (length d)
    spoilt_so n h d i r =
        block_so n h d r
        ∙ ap (λ (a : own.Answer). own.answered a s (header_of h) (length d)) (spoilt_note (judge_of c x h d room).answer.note n i (sym (up_noted t m h d r.up) ∙ r.note))

    -- such a block, while the request is out
    proved_so : Proves t m p → (((next t m).own p).request ≡ own.proved) × (((next t m).own p).since ≡ 0)
    proved_so v =
        let P : own.Seen → Type 0 = λ y. (y.request ≡ own.proved) × (y.since ≡ 0) in
        let proven : (own.proven_by s.request ≡ own.proved) × (own.since_by s.request s.since ≡ 0) =
        (ap own.proven_by v.before, ap (λ (r : own.Request). own.since_by r s.since) v.before) in
        ⊎_elim (λ e. subst P (sym (kept_so v.header v.rest (subst (λ n. RepliedTo t m p n v.header v.rest) e v.came)).0) proven)
        (λ e. subst P (sym (spoilt_so v.note v.header v.rest (inr e) v.came)) proven) v.either

pub own_seen : OwnSeen
own_seen t w p k m =
    record {
      one_of = own_step t w p k m;
      refused = seen_refused t m (own_sees (terms_in t) p) (t.own p);
      ticked = λ n. (ticked_so t w p k m n).counts;
      ticks_keep = λ n. (ticked_so t w p k m n).blocks;
      since_kept = since_same t w p k m;
      quiet_kept = quiet_same t w p k m;
      header_stays = λ none. header_same t w p k m none ((next t m).own p) (own_step t w p k m);
      opened = λ q o. (taken_free t w p k m q o.rest (opened_asked t w p k m q o), opened_so t w p k m q o);
      opened_only = becomes t w p k m own.underway;
      out = (
        becomes t w p k m own.out,
        λ f. record { before = λ e. false≢true (let z = sym f.before ∙ e in cc); after = ap (λ (s : own.Seen). s.request) (out_so t w p k m f) },
      );
      counts_blocks = out_so t w p k m;
      outs_one = λ f. subst NoneCounted (sym (out_so t w p k m f)) (none_counted (t.own p) own.out);
      again = λ o e. put_out_so t w p k m o own.out e;
      acknowledged = (
        becomes t w p k m own.acknowledged,
        λ a. record { before = λ e. apart _ own.acknowledged refl e (on_way_lem t w p k a.of_it); after = ap (λ (s : own.Seen). s.request) (acknowledged_so t w p k m a) },
      );
      counts_start = acknowledged_so t w p k m;
      acks_one = λ a. subst NoneCounted (sym (acknowledged_so t w p k m a)) (none_counted (t.own p) own.acknowledged);
      proved = (
        becomes t w p k m own.proved,
        λ v. record { before = λ e. false≢true (let z = sym v.before ∙ e in cc); after = (proved_so t w p k m v).0 },
      );
      counts_ticks = λ v. (proved_so t w p k m v).1;
      lost = (
        becomes t w p k m own.lost,
        λ l. record { before = λ e. apart _ own.lost refl e (on_way_lem t w p k l.of_it); after = lost_after t w p k m l },
      );
      released = (becomes t w p k m own.none, λ f. record { before = not_none t w p k m f; after = ap (λ (s : own.Seen). s.request) (released_so t w p k m f) });
      released_so = released_so t w p k m;
      kept = kept_so t w p k m;
      keeps_one = λ h d r.
          subst (λ y. KeepsOne (t.own p) y (header_of h) (length d)) (sym (kept_so t w p k m h d r).0) (record { kept = refl; bytes = refl; spoilt = refl; quiet = refl });
      kept_only = λ b e. why_kept t w p k m b ((next t m).own p) (own_step t w p k m) e;
      spoilt = spoilt_so t w p k m;
      spoils_one = λ n h d i r. subst (SpoilsOne (t.own p)) (sym (spoilt_so t w p k m n h d i r)) (record { kept = refl; bytes = refl; spoilt = refl });
      spoilt_only = why_spoilt t w p k m ((next t m).own p) (own_step t w p k m);
    }
