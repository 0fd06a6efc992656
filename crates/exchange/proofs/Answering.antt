-- Assembly of a cut reply is the reply (`specs/Assembly.antt`). Assumes nothing.
use Rattle.std.specs.Prelude.{Some}
use Prim.Native.Nat.{ℕ, zero, suc, ◌+◌, ◌-◌, ◌%◌, ◌≤◌, ◌<◌}
use mathlib.Core.Path.{◌≡◌, refl, sym, ap, subst, ◌∙◌}
use mathlib.Core.Bool.{Bool, true, false, cond, false≢true}
use mathlib.Core.List.{List}
use mathlib.Core.Logic.{inl, ◌≢◌}
use native.Mathlib.Omega.{arith}
use lib.Dec.{eqb}
use lib.ListN.{length}
use borrow.Author.Tests.{eqb-true, eq-eqb, ne_eqb}
use Rattle.wire.specs.Message.{message_limit}
use Rattle.wire.proofs.Choice.{chosen}
use Rattle.header.specs.Header.{InRange, header_of}
use Rattle.header.specs.declared.header.Header.{Header}
use Rattle.settings.specs.declared.terms.Terms.{Terms}
use Rattle.cut.specs.Blocks.{block_count, header_at}
use Rattle.cut.specs.Theorems.{joined}
use Rattle.cut.proofs.Counts.{count_is_fewest}
use Rattle.room.specs.Room.{kept_in}
use Rattle.room.specs.declared.Message.TheVariants as message
use Rattle.place.specs.Message.{Routed}
use Rattle.place.specs.Own.{kept_at, reply_of, own_kept, own_tick, verdict_of}
use Rattle.place.specs.declared.Arriving.{Arriving}
use Rattle.place.specs.declared.OwnStage.{OwnStage}
use Rattle.place.specs.declared.OwnStage.TheVariants.{PutOut, Awaiting, Replying, Done}
use Rattle.place.specs.declared.Own.{Own}
use Rattle.place.specs.declared.Verdict.{Verdict}
use Rattle.place.specs.declared.Verdict.TheVariants.{Sent, Answered, Declined, Other, Broken, NoReply, SendFailed}
use Rattle.table.specs.Number.{number_of}
use Rattle.table.specs.Own.{own_put}
use Rattle.exchange.specs.Exchange.{own_place, sent_from, sent_behind}
use Rattle.exchange.specs.Reports.{outbox_of}
use Rattle.exchange.specs.Judge.{judge_of}
use Rattle.exchange.specs.Reading.{own_reading}
use Rattle.exchange.specs.Rules.{Fours, LowestAt, New, IsAwaited, OfReply, first, further, ReplyHere, noted, bytes_before, Comes, CausesNone, Boxed, open_from, Fits, ReplyGoes, kept}
use Rattle.exchange.specs.Rules as rule
use Rattle.exchange.specs.Releases as side
use Rattle.exchange.specs.Assembly.{header_in, data_in, receiver_of, passes, received, ticks_before, WithinT4, NoneLate, AwaitedFor, acked, out, expects_at, Awaits, ReplyAssembled, IsReply, Earns, AssemblyOfReply, OurReplies}
use Rattle.exchange.specs.declared.Outbox.{Outbox}
use Rattle.exchange.specs.declared.Exchange.{Exchange}
use Rattle.exchange.proofs.Judging.{lowest_reply}
use Rattle.exchange.proofs.Notes.{notes_exactly}
use Rattle.exchange.proofs.Keeping.{bytes_before_lem, reply_block_lem}
use Rattle.exchange.proofs.Boxes.{box_goes}
use Rattle.exchange.proofs.Cases.{by_behind}
use Rattle.exchange.proofs.Underway.{past_here}
use Rattle.exchange.proofs.Blocks.{continues_at, said, one_more, fits_at, ends_at}
use Rattle.exchange.proofs.Passing.{kept_on, counts, awaited_at, replied_at, awaited_on, replied_on, Expects, not_expected, Beside, itself, incomings_beside, put_block}
use Rattle.exchange.proofs.Timely.{InTime, fewer, none_late_then, quiet, none_late_here}
use Rattle.exchange.proofs.Coming.{ticks_first, ticks_among, raised, KeptFor, comes_to, kept_causes_none, complete}

-- the place of a primary with these header bytes
abbrev place_at : List ℕ → OwnStage → Own
place_at b s = record { header = b; stage = s }

-- ---- the verdict

earned : (b : List ℕ) (g h : Header) (v : Verdict) → header_of b ≡ g → Earns g h v → verdict_of (place_at b (Awaiting 0)) h ≡ v
unfolding verdict_of
earned b g h Answered i a =
    rw (i, eq-eqb h.stream g.stream a.stream, eq-eqb h.function (g.function + 1) a.function)
earned b g h Declined i a =
    rw (
      i,
      eq-eqb h.stream g.stream a.stream,
      ne_eqb h.function (g.function + 1) (λ e. omega (arith, a.function)),
      eq-eqb h.function 0 a.function,
    )
earned b g h Other i n =
    rw i
    (chosen (λ v. v ≡ Other) (eqb h.stream g.stream) _ _
    (λ s.
    chosen (λ v. v ≡ Other) (eqb h.function (g.function + 1)) _ _
    (λ e. absurd (n.0 (record { stream = eqb-true _ _ s; function = eqb-true _ _ e })))
    (λ f.
    chosen (λ v. v ≡ Other) (eqb h.function 0) _ _
    (λ e. absurd (n.1 (record { stream = eqb-true _ _ s; function = eqb-true _ _ e }))) (λ e. refl)))
    (λ s. refl))
earned b g h Sent i a = absurd a
earned b g h Broken i a = absurd a
earned b g h NoReply i a = absurd a
earned b g h SendFailed i a = absurd a

-- ---- a place that takes a block

-- its reply is awaited, or blocks of it are kept, and its primary has the block's system bytes
expects_taken : (o : Own) (b : Header) → OfReply o b → Expects b.system o
expects_taken o b (first (rule.out e) system even starts) = (ap expects_at e, sym system)
expects_taken o b (first (rule.acked timer e) system even starts) = (ap expects_at e, sym system)
expects_taken o b (further a e k) = (ap expects_at e, sym k.system)

-- ---- what is being sent

-- it, with the last number given and the reports that wait, once a block of the reply in place p has come and no report started: its primary no
-- more
abbrev past : ℕ → Outbox → Outbox
past p b = record { last = b.last; sending = sent_behind b.sending p; reports = b.reports }

-- a second block changes it no more
past_twice : (p : ℕ) (b : Outbox) → past p (past p b) ≡ past p b
unfolding sent_behind
past_twice p b = rw (past_here b.sending p)

-- no report waits that would start then: "in the call that frees the line" (02, request 2)
abbrev NoneStarts : ℕ → Outbox → Type 0
NoneStarts p b = sent_from b.sending p ≡ true → b.reports.count ≡ 0

-- a block of the reply in place p that is kept
box_behind : (c : Terms) (y : Exchange) (b src room : List ℕ) (p : ℕ) → Fours y → New c y b → LowestAt (λ j. OfReply (own_place y j) (header_of b)) p
    → noted (judge_of c y b src room) ≡ 21 → NoneStarts p (outbox_of y) → outbox_of (judge_of c y b src room).answer.exchange ≡ past p (outbox_of y)
box_behind c y b src room p fours new this note none =
    by_behind (λ n. outbox_of j ≡ record { last = y.numbers.last; sending = n; reports = y.reports }) y.sending p
    (λ e.
    let w = goes.withdrawn (record { new = new; place = p; of_it = this; sent = e }) silent (none e) in
    λ m. record { last = w.0 m; sending = w.1 m; reports = w.2 m })
    (λ e.
    let w = goes.stays (λ r. false≢true (sym e ∙ ap (sent_from y.sending) (sym (one r.place r.of_it)) ∙ r.sent)) silent in
    λ m. record { last = w.0 m; sending = w.1 m; reports = w.2 m })
  where
    j : Exchange
    j = (judge_of c y b src room).answer.exchange

    goes : Boxed c y b (noted (judge_of c y b src room)) j
    goes = box_goes c y b src room fours

    -- the lowest is one
    one : (q : ℕ) → LowestAt (λ j. OfReply (own_place y j) (header_of b)) q → q ≡ p
    one q w = let e : Some q ≡ Some p = sym ((lowest_reply y fours (header_of b) q).1 w) ∙ (lowest_reply y fours (header_of b) p).1 this in cc

    silent : CausesNone c b (noted (judge_of c y b src room))
    silent = kept_causes_none c b _ note

-- ---- all blocks of a reply

module _ (c : Terms) (pauses : ℕ → ℕ) (x : Exchange) (four : Fours x) (p : ℕ) (g h : Header) (d : List ℕ) (v : Verdict)
    (i : InRange h) (even : h.function % 2 ≡ 0) (q : Routed c h) (to : IsReply g h) (earns : Earns g h v)
    (short : length d ≤ message_limit) (w : Awaits c x p g (pauses 1) h d) (t4 : WithinT4 c pauses d) where
  -- the primary's header bytes
  abbrev ten : List ℕ
  ten = (own_place x p).header

  -- the reply once block k + 1 was kept, n bytes in all
  abbrev opened : ℕ → ℕ → Arriving
  opened k n = open_from (header_at h (length d) (suc k)) n

  -- its place then: the last block gives the verdict
  abbrev held : ℕ → Bool → ℕ → Own
  held k t n = place_at ten (cond t (Done v (reply_of h n)) (Replying (opened k n)))

  -- and before block k + 1, which is for it
  record Before (k : ℕ) (o : Own) : Type 0 where
    header : o.header ≡ ten
    bytes : (own_kept o).length ≡ length (joined h d k)
    takes : OfReply o (header_at h (length d) (suc k))

  -- while it is awaited
  awaited : (s : OwnStage) → IsAwaited (place_at ten s) → (kept_at s).length ≡ 0 → Before 0 (place_at ten s)
  unfolding header_at joined
  awaited s a none = record {
    header = refl;
    bytes = none;
    takes = first a (to.system ∙ ap (λ (a : Header). a.system) (sym w.primary)) even (inl refl);
  }

  -- T3 has not run out, or does not run
  first_here : (s : OwnStage) → own_place x p ≡ place_at ten s → AwaitedFor c (pauses 1) s → Before 0 (own_place (passes c x (pauses 1)) p)
  first_here _ here (acked timer t3) =
      subst (Before 0) (sym (counts side.own c x p (awaited_at c ten) c.t3.0 (awaited_on c ten) timer here (pauses 1) t3))
      (awaited (Awaiting (timer + pauses 1)) (rule.acked _ refl) refl)
  first_here _ here out =
      subst (Before 0) (sym (kept_on side.own c x p (λ o. o ≡ place_at ten PutOut) (λ o e. ap (own_tick c) e) here (pauses 1)))
      (awaited PutOut (rule.out refl) refl)

  -- T4 has not run out
  later_here : (k : ℕ) (y : Exchange) → suc k < block_count (length d) → own_place y p ≡ held k false (length (joined h d (suc k)))
      → Before (suc k) (own_place (passes c y (pauses (suc (suc k)))) p)
  unfolding header_at
  later_here k y less e =
      let a : Arriving = opened k (length (joined h d (suc k))) in
      let n : ℕ = pauses (suc (suc k)) in
      let m : 0 + n ≤ c.t4.0 = omega (arith, t4 (suc (suc k)) (omega arith) less) in
      subst (Before (suc k)) (sym (counts side.own c y p (replied_at c ten a) c.t4.0 (replied_on c ten a) 0 e n m))
      (record {
        header = refl;
        bytes = refl;
        takes = further _ refl (rw (w.primary, ← to.device, ← to.system) (continues_at h (length d) (suc k) (length (joined h d (suc k)))));
      })

  -- T3 does not run out at this place before the first block, and does not run there behind it
  first_in_time : (s : OwnStage) → AwaitedFor c (pauses 1) s → InTime c (pauses 1) (place_at ten s)
  first_in_time _ (acked timer t3) m e = let f : timer ≡ m = cc in omega arith
  first_in_time _ out m e = absurd (false≢true cc)

  -- nor at another place, and no report waits that would start once the primary is sent no more: so none starts
  record Silent : Type 0 where
    none_starts : NoneStarts p (outbox_of x)
    none_late : NoneLate c x (ticks_before pauses (block_count (length d))) (λ j. j ≢ p)

  -- then what is being sent is what was, and from the first block on the primary no more
  abbrev box_after : ℕ → Outbox
  box_after zero = outbox_of x
  box_after (suc k) = past p (outbox_of x)

  past_on : (k : ℕ) → past p (box_after k) ≡ past p (outbox_of x)
  past_on zero = refl
  past_on (suc k) = past_twice p (outbox_of x)

  none_starts_on : (k : ℕ) → NoneStarts p (outbox_of x) → NoneStarts p (box_after k)
  none_starts_on zero s = s
  none_starts_on (suc k) s = λ e. absurd (false≢true (sym (past_here x.sending p) ∙ e))

  abbrev Box : ℕ → ℕ → Exchange → Type 0
  Box k n y = Silent → outbox_of y ≡ box_after k

  -- the ticks before the blocks up to k are among all
  among_all : (k : ℕ) → k ≤ block_count (length d) → ticks_before pauses k ≤ ticks_before pauses (block_count (length d))
  among_all k most =
      let all : k + (block_count (length d) - k) ≡ block_count (length d) = omega arith in
      subst (λ (j : ℕ). ticks_before pauses k ≤ ticks_before pauses j) all (ticks_among pauses k (block_count (length d) - k))

  -- before the first block
  box_first : Box 0 (pauses 1) (passes c x (pauses 1))
  box_first s =
      let some = count_is_fewest (length d) in
      let most : pauses 1 ≤ ticks_before pauses (block_count (length d)) = omega (arith, ticks_first pauses, among_all 1 (omega arith)) in
      quiet c x (pauses 1)
      (none_late_here c (pauses 1) p x x (itself side.own p x) (first_in_time (own_place x p).stage w.stage)
      (fewer c x (pauses 1) (ticks_before pauses (block_count (length d))) most s.none_late))

  -- and before a later one
  box_later : (k n : ℕ) (y : Exchange) → suc k < block_count (length d) → ticks_before pauses (suc k) ≡ n → Beside side.own p (passes c x n) y
      → own_place y p ≡ held k false (length (joined h d (suc k))) → Box (suc k) n y
      → Box (suc k) (n + pauses (suc (suc k))) (passes c y (pauses (suc (suc k))))
  unfolding ticks_before
  box_later k n y less e beside here box s =
      let m : ℕ = pauses (suc (suc k)) in
      let most : m + n ≤ ticks_before pauses (block_count (length d)) = omega (arith, among_all (suc (suc k)) less) in
      let not_awaited : InTime c m (own_place y p) =
      λ timer f. let g : Replying (opened k (length (joined h d (suc k)))) ≡ Awaiting timer = sym (ap (λ (o : Own). o.stage) here) ∙ f in absurd (false≢true cc) in
      quiet c y m
      (none_late_here c m p (passes c x n) y beside not_awaited
      (none_late_then c x n m (fewer c x (m + n) _ most s.none_late)))
      ∙ box s

  -- so each block is kept
  judged : (k : ℕ) (t : Bool) (y : Exchange) (room : List ℕ) → k < block_count (length d) → eqb (suc k) (block_count (length d)) ≡ t
      → Fours y → New c y (header_in h d (suc k)) → Beside side.own p (passes c x (ticks_before pauses (suc k))) y → Before k (own_place y p)
      → Box k (ticks_before pauses (suc k)) y
      → KeptFor side.own y p (header_in h d (suc k)) (held k t (length (joined h d (suc k)))) t
      (kept_in room (message.Reply p) (length (joined h d k)) (data_in h d (suc k))) (Box (suc k) (ticks_before pauses (suc k))) (judge_of c y (header_in h d (suc k)) (data_in h d (suc k)) room)
  unfolding header_at verdict_of
  judged k t y room less e fours new beside before box = record {
    note = note;
    latest = latest t;
    comes = comes t (ends_at h d i short (suc k) less ∙ e);
    box = λ s. box_behind c y b src room p fours new this note (subst (NoneStarts p) (sym (box s)) (none_starts_on k s.none_starts)) ∙ ap (past p) (box s) ∙ past_on k;
  }
    where
      b : List ℕ
      b = header_in h d (suc k)

      src : List ℕ
      src = data_in h d (suc k)

      fit : Fits (header_of b) (length (joined h d k)) src
      fit = fits_at h d i short k less

      says : header_of b ≡ header_at h (length d) (suc k)
      says = said h d i short (suc k) less

      -- of the own places this one
      this : LowestAt (λ j. OfReply (own_place y j) (header_of b)) p
      this = record {
        within = w.within;
        so = rw says before.takes;
        none_below = λ j under r.
            kept_on side.own c x j (λ o. Expects h.system o → ⊥) (not_expected c h.system)
            (λ u. w.alone j (omega (arith, w.within)) (λ m. omega arith) u.0 u.1) (ticks_before pauses (suc k))
            (subst (Expects h.system) (beside.others side.own j (λ s m. omega arith))
            (subst (λ (a : Header). Expects a.system (own_place y j)) says (expects_taken (own_place y j) (header_of b) r)));
      }

      there : ReplyHere y (header_of b)
      there = record { place = p; within = w.within; so = this.so }

      have : bytes_before y (header_of b) ≡ length (joined h d k)
      have = (bytes_before_lem y (header_of b) fours).reply p this ∙ before.bytes

      goes : ReplyGoes y b src room p (length (joined h d k)) (judge_of c y b src room)
      goes = subst (λ (n : ℕ). ReplyGoes y b src room p n (judge_of c y b src room)) have (reply_block_lem c y b src room fours new p this)

      size : length (joined h d k) + length src ≡ length (joined h d (suc k))
      size = sym (one_more h d k)

      given : verdict_of (own_place y p) (header_of b) ≡ v
      given = (λ m. verdict_of (record { header = before.header m; stage = (own_place y p).stage }) (says m)) ∙ earned ten g h v w.primary earns

      note : noted (judge_of c y b src room) ≡ 21
      note = (notes_exactly c y b src room fours 21).1 (kept new (inl there) fit.has_data (omega (arith, have, fit.fits)) (inl there))

      latest : Bool → ℕ
      latest t = cond t (number_of (own_place y p)) y.numbers.latest

      comes : (t : Bool) → (header_of b).e ≡ t
          → Comes (judge_of c y b src room) (put_block side.own y b p (held k t (length (joined h d (suc k)))) (latest t)) (raised side.own p t)
          (kept_in room (message.Reply p) (length (joined h d k)) src)
      comes true f =
          comes_to (ap (own_put y.own p) (λ m. record { header = before.header m; stage = Done (given m) (reply_of (says m) (size m)) })) refl refl refl (goes.complete fit f)
      comes false f =
          comes_to (ap (own_put y.own p) (λ m. record { header = before.header m; stage = Replying (open_from (says m) (size m)) })) refl refl refl (goes.more fit f)

  -- the last block is the first or a later one
  box_last : box_after (block_count (length d)) ≡ past p (outbox_of x)
  box_last =
      let some = count_is_fewest (length d) in
      let e : block_count (length d) ≡ suc (block_count (length d) - 1) = omega arith in
      ap box_after e

  assembled : (room : List ℕ) → length room ≡ 36864 → ReplyAssembled c pauses v x p g h d (received c pauses (receiver_of x room) h d (block_count (length d)))
  unfolding own_reading sent_behind
  assembled room whole =
      let r = complete side.own c pauses x four p w.within h d i q short w.new held Before (first_here (own_place x p).stage refl w.stage) later_here Box box_first box_later judged room whole in
      record {
        notes = r.notes;
        flags = r.flags;
        verdict = rw (r.here, w.primary);
        bytes = r.bytes;
        others = λ j ne. r.beside.others side.own j (λ e. ne);
        incomings = incomings_beside r.beside;
        unreported = λ e n. r.box (record { none_starts = λ f. absurd (false≢true (sym e ∙ f)); none_late = n }) ∙ box_last ∙ rw e;
        withdrawn = λ e none n. ap (λ (b : Outbox). b.sending) (r.box (record { none_starts = λ f. none; none_late = n }) ∙ box_last) ∙ rw e;
        saved = r.saved;
      }

pub assembly_of_reply : AssemblyOfReply
assembly_of_reply c pauses x room p g h d v four whole i even q to earns short w t4 =
    assembled c pauses x four p g h d v i even q to earns short w t4 room whole

pub our_replies : OurReplies
our_replies g = record {
  is_reply = λ f. record { device = refl; system = refl };
  answers = record { stream = refl; function = refl };
  declines = record { stream = refl; function = refl };
}
