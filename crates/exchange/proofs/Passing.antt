-- Ticks, one after the other (`passes` of `specs/Assembly.antt`), place by place; and transactions that differ from others at one place
-- alone, before ticks and after them. Assumes nothing.
use Rattle.std.specs.Prelude.{Option, Some, None}
use Prim.Native.Nat.{ℕ, zero, suc, ◌+◌, ◌≤◌, ◌<◌}
use mathlib.Core.Path.{◌≡◌, refl, sym, ap, subst, ◌∙◌}
use mathlib.Core.Bool.{true, false≢true, true≢false}
use mathlib.Core.List.{List}
use mathlib.Core.Logic.{◌≢◌}
use native.Mathlib.Omega.{arith}
use lib.Dec.{eqb}
use lib.ListN.{length-map, length-set, get_or-map}
use lib.Seq.{get_or-set_same, get_or-set_other}
use borrow.Author.Tests.{eqb-true, eqb-false}
use Rattle.wire.proofs.Choice.{either}
use Rattle.header.specs.Header.{header_of}
use Rattle.header.specs.declared.header.Header.{Header}
use Rattle.settings.specs.declared.terms.Terms.{Terms}
use Rattle.settings.specs.Timer.{ticked as counted}
use Rattle.settings.proofs.Timers.{runs}
use Rattle.place.specs.Arriving.{waited_by, arriving_tick, arriving_after}
use Rattle.place.specs.Own.{fresh_own, primary_of, ended, awaited_by, replying_by, await_tick, reply_tick, own_tick}
use Rattle.place.specs.Incoming.{fresh_incoming, open_by, open_tick, incoming_tick}
use Rattle.place.specs.declared.Arriving.{Arriving}
use Rattle.place.specs.declared.OwnStage.{OwnStage}
use Rattle.place.specs.declared.OwnStage.TheVariants as own
use Rattle.place.specs.declared.Own.{Own}
use Rattle.place.specs.declared.IncomingStage.{IncomingStage}
use Rattle.place.specs.declared.IncomingStage.TheVariants as incoming
use Rattle.place.specs.declared.Incoming.{Incoming}
use Rattle.table.specs.Own.{own_put}
use Rattle.table.specs.Incoming.{incoming_put}
use Rattle.table.specs.Theorems.{Alike}
use Rattle.exchange.specs.Exchange.{own_place, incoming_place}
use Rattle.exchange.specs.Request.{sending_by}
use Rattle.exchange.specs.Tick.{passed_of, tick_of}
use Rattle.exchange.specs.Rules.{Fours}
use Rattle.exchange.specs.Releases.{Side}
use Rattle.exchange.specs.Releases as side
use Rattle.exchange.specs.Assembly.{passes, expects_at}
use Rattle.exchange.specs.declared.Exchange.{Exchange}
use Rattle.exchange.proofs.Unreported.{ticked_sends}
use Rattle.exchange.proofs.Sides.{Place, place}

-- ---- one tick

-- at a place
abbrev pub tick_at : (z : Side) → Terms → Place z → Place z
tick_at side.own = own_tick
tick_at side.incoming = incoming_tick

pub ticked : (z : Side) (c : Terms) (x : Exchange) (q : ℕ) → place z (tick_of c x).exchange q ≡ tick_at z c (place z x q)
unfolding passed_of
ticked side.own c x q = get_or-map (own_tick c) x.own q fresh_own
ticked side.incoming c x q = get_or-map (incoming_tick c) x.incoming q fresh_incoming

-- ---- n ticks

module _ (c : Terms) (x : Exchange) where
  pub saved_stays : (n : ℕ) → (passes c x n).saved ≡ x.saved
  unfolding passes passed_of
  saved_stays zero = refl
  saved_stays (suc n) = saved_stays n

  -- a message that is being sent goes on: what is reported meanwhile waits (where none is, a report may start: `Timely`)
  pub sending_stays : (n : ℕ) → sending_by x.sending ≡ true → (passes c x n).sending ≡ x.sending
  unfolding passes
  sending_stays zero sent = refl
  sending_stays (suc n) sent =
      ticked_sends (λ m. m ≡ x.sending) (λ e f k. absurd (true≢false (sym sent ∙ ap sending_by (sym e)))) c (passes c x n) (sending_stays n sent)

  pub fours_stay : (n : ℕ) → Fours x → Fours (passes c x n)
  unfolding passes passed_of
  fours_stay zero four = four
  fours_stay (suc n) four =
      let w = fours_stay n four in
      record { own = simp length-map w.own; incoming = simp length-map w.incoming }

  -- m of them, and then n
  pub passes_more : (m n : ℕ) → passes c (passes c x m) n ≡ passes c x (m + n)
  unfolding passes
  passes_more m zero = let e : m ≡ m + 0 = omega arith in ap (passes c x) e
  passes_more m (suc n) =
      let e : suc (m + n) ≡ m + suc n = omega arith in
      ap (λ (y : Exchange). (tick_of c y).exchange) (passes_more m n) ∙ ap (passes c x) e

module _ (z : Side) (c : Terms) (x : Exchange) (q : ℕ) where
  -- what a tick keeps of a place, they all keep
  pub kept_on : (P : Place z → Type 0) → ((o : Place z) → P o → P (tick_at z c o)) → P (place z x q) → (n : ℕ) → P (place z (passes c x n) q)
  unfolding passes
  kept_on P step w zero = w
  kept_on P step w (suc n) = subst P (sym (ticked z c (passes c x n) q)) (step (place z (passes c x n) q) (kept_on P step w n))

  -- a timer that stands at m, `at` being the place by its timer, stands at m + n, if that is within the limit
  pub counts : (at : ℕ → Place z) (limit : ℕ) → ((m : ℕ) → m < limit → tick_at z c (at m) ≡ at (m + 1)) → (m : ℕ) → place z x q ≡ at m
      → (n : ℕ) → m + n ≤ limit → place z (passes c x n) q ≡ at (m + n)
  unfolding passes
  counts at limit step m e zero within = let f : m ≡ m + 0 = omega arith in e ∙ ap at f
  counts at limit step m e (suc n) within =
      let f : m + n + 1 ≡ m + suc n = omega arith in
      ticked z c (passes c x n) q ∙ ap (tick_at z c) (counts at limit step m e n (omega arith)) ∙ step (m + n) (omega arith) ∙ ap at f

-- ---- a timer that runs on

-- T4
arriving_on : (c : Terms) (a : Arriving) (n : ℕ) → n < c.t4.0 → arriving_tick c (arriving_after a n) ≡ Some (arriving_after a (n + 1))
unfolding arriving_tick
arriving_on c a n less = ap (waited_by (arriving_after a n)) (runs c.t4 n less)

module _ (c : Terms) where
  abbrev pub awaited_at : List ℕ → ℕ → Own
  awaited_at h n = record { header = h; stage = own.Awaiting n }

  abbrev pub replied_at : List ℕ → Arriving → ℕ → Own
  replied_at h a n = record { header = h; stage = own.Replying (arriving_after a n) }

  abbrev pub open_at : Header → Arriving → ℕ → Incoming
  open_at h a n = record { header = h; stage = incoming.Open (arriving_after a n) }

  pub awaited_on : (h : List ℕ) (n : ℕ) → n < c.t3.0 → own_tick c (awaited_at h n) ≡ awaited_at h (n + 1)
  unfolding await_tick
  awaited_on h n less = ap (awaited_by (awaited_at h n)) (runs c.t3 n less)

  pub replied_on : (h : List ℕ) (a : Arriving) (n : ℕ) → n < c.t4.0 → own_tick c (replied_at h a n) ≡ replied_at h a (n + 1)
  unfolding reply_tick
  replied_on h a n less = ap (replying_by (replied_at h a n)) (arriving_on c a n less)

  pub open_on : (h : Header) (a : Arriving) (n : ℕ) → n < c.t4.0 → incoming_tick c (open_at h a n) ≡ open_at h a (n + 1)
  unfolding open_tick
  open_on h a n less = ap (open_by (open_at h a n)) (arriving_on c a n less)

-- ---- what a tick keeps of any place

-- a free place is free
pub free_on : (c : Terms) (i : Incoming) → i.stage ≡ incoming.Free → (incoming_tick c i).stage ≡ incoming.Free
free_on c i e = rw e

-- its header stays
open_header : (i : Incoming) (w : Option Arriving) → (open_by i w).header ≡ i.header
open_header i None = refl
open_header i (Some a) = refl

-- an open message was open, with the same system bytes
pub not_alike : (c : Terms) (b : Header) (i : Incoming) → (Alike b i → ⊥) → Alike b (incoming_tick c i) → ⊥
unfolding open_tick
not_alike c b i = by i.stage
  where
    by : (s : IncomingStage) → (Alike b (record { header = i.header; stage = s }) → ⊥) → Alike b (incoming_tick c (record { header = i.header; stage = s })) → ⊥
    by incoming.Free n w = n w
    by (incoming.Open a) n w = n (refl, ap (λ (h : Header). h.system) (sym (open_header (record { header = i.header; stage = incoming.Open a }) (arriving_tick c a))) ∙ w.1)
    by (incoming.Complete m) n w = n w
    by (incoming.Replying m) n w = n w
    by (incoming.Replied m e) n w = n w

-- T3 or T4 runs on, or out, and the header stays
awaited_header : (o : Own) (w : Option ℕ) → (awaited_by o w).header ≡ o.header
unfolding ended
awaited_header o None = refl
awaited_header o (Some n) = refl

replying_header : (o : Own) (w : Option Arriving) → (replying_by o w).header ≡ o.header
unfolding ended
replying_header o None = refl
replying_header o (Some a) = refl

-- a reply is awaited, or blocks of it are kept, at a place whose primary has these system bytes
abbrev pub Expects : ℕ → Own → Type 0
Expects n o = (expects_at o.stage ≡ true) × ((primary_of o).system ≡ n)

-- so it was there before the tick
pub not_expected : (c : Terms) (n : ℕ) (o : Own) → (Expects n o → ⊥) → Expects n (own_tick c o) → ⊥
unfolding await_tick reply_tick
not_expected c n o = by o.stage
  where
    at : OwnStage → Own
    at s = record { header = o.header; stage = s }

    same : {h : List ℕ} → h ≡ o.header → (header_of h).system ≡ n → (header_of o.header).system ≡ n
    same e w = ap (λ (h : List ℕ). (header_of h).system) (sym e) ∙ w

    by : (s : OwnStage) → (Expects n (at s) → ⊥) → Expects n (own_tick c (at s)) → ⊥
    by own.Free m w = m w
    by own.Sending m w = m w
    by own.PutOut m w = m w
    by (own.Awaiting timer) m w = m (refl, same (awaited_header (at (own.Awaiting timer)) (counted c.t3 timer)) w.1)
    by (own.Replying a) m w = m (refl, same (replying_header (at (own.Replying a)) (arriving_tick c a)) w.1)
    by (own.Done v r) m w = m w

-- ---- but for one place

-- whether place q is this one
pub by_place_lem : {A : Type 0} (q p : ℕ) → (q ≡ p → A) → (q ≢ p → A) → A
by_place_lem {A} q p here there = either (eqb q p) (λ t. A) (λ e. here (eqb-true q p e)) (λ e. there (eqb-false q p e))

-- all places of y but place p on side z are those of x
pub record Beside (z : Side) (p : ℕ) (x y : Exchange) : Type 0 where
  pub others : (s : Side) (q : ℕ) → (s ≡ z → q ≢ p) → place s y q ≡ place s x q

pub itself : (z : Side) (p : ℕ) (x : Exchange) → Beside z p x x
itself z p x = record { others = λ s q ne. refl }

-- so it is on the other side
sides : side.own ≡ side.incoming → ⊥
sides e = false≢true cc

pub owns_beside : {p : ℕ} {x y : Exchange} → Beside side.incoming p x y → (q : ℕ) → own_place y q ≡ own_place x q
owns_beside b q = b.others side.own q (λ e. absurd (sides e))

pub incomings_beside : {p : ℕ} {x y : Exchange} → Beside side.own p x y → (q : ℕ) → incoming_place y q ≡ incoming_place x q
incomings_beside b q = b.others side.incoming q (λ e. absurd (sides (sym e)))

-- and n ticks later
pub beside_ticks : (z : Side) (p : ℕ) (c : Terms) (x y : Exchange) → Beside z p x y → (n : ℕ) → Beside z p (passes c x n) (passes c y n)
unfolding passes
beside_ticks z p c x y b zero = b
beside_ticks z p c x y b (suc n) =
    let w = beside_ticks z p c x y b n in
    record { others = λ s q ne. ticked s c (passes c y n) q ∙ ap (tick_at s c) (w.others s q ne) ∙ sym (ticked s c (passes c x n) q) }

-- place p of side z alone is put anew
abbrev owns_by : (z : Side) → List Own → ℕ → Place z → List Own
owns_by side.own l p o = own_put l p o
owns_by side.incoming l p i = l

abbrev incomings_by : (z : Side) → List Incoming → ℕ → Place z → List Incoming
incomings_by side.own l p o = l
incomings_by side.incoming l p i = incoming_put l p i

-- by a block of its message with header bytes h; `latest` is the number of the latest verdict then
abbrev pub put_block : (z : Side) → Exchange → List ℕ → ℕ → Place z → ℕ → Exchange
put_block z y h p o latest = record {
  own = owns_by z y.own p o;
  incoming = incomings_by z y.incoming p o;
  saved = Some h;
  numbers = record { last = y.numbers.last; latest = latest };
  sending = y.sending;
  reports = y.reports;
}

-- and so once that place is put so
module _ (p : ℕ) (y : Exchange) (h : List ℕ) (latest : ℕ) where
  put_others : (z : Side) (o : Place z) (s : Side) (q : ℕ) → (s ≡ z → q ≢ p) → place s (put_block z y h p o latest) q ≡ place s y q
  put_others side.own o side.own q ne = get_or-set_other y.own p q o fresh_own (ne refl)
  put_others side.own o side.incoming q ne = refl
  put_others side.incoming i side.own q ne = refl
  put_others side.incoming i side.incoming q ne = get_or-set_other y.incoming p q i fresh_incoming (ne refl)

  pub put_fours : (z : Side) (o : Place z) → Fours y → Fours (put_block z y h p o latest)
  put_fours side.own o four = record { own = length-set y.own p o ∙ four.own; incoming = four.incoming }
  put_fours side.incoming i four = record { own = four.own; incoming = length-set y.incoming p i ∙ four.incoming }

  pub put_there : (z : Side) (o : Place z) → Fours y → p < 4 → place z (put_block z y h p o latest) p ≡ o
  put_there side.own o four k = get_or-set_same y.own p o fresh_own (omega (arith, four.own))
  put_there side.incoming i four k = get_or-set_same y.incoming p i fresh_incoming (omega (arith, four.incoming))

  pub beside_put : (z : Side) (o : Place z) (x : Exchange) → Beside z p x y → Beside z p x (put_block z y h p o latest)
  beside_put z o x b = record { others = λ s q ne. put_others z o s q ne ∙ b.others s q ne }
