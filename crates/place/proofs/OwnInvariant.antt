-- What holds of an own place and its onlooker after any events at a fresh place, and what one event more leaves. Assumes nothing.
use Prim.Native.Nat.{ℕ, ◌+◌, ◌*◌, ◌≤◌}
use mathlib.Core.Path.{◌≡◌, refl, sym, ap, subst, ◌∙◌}
use mathlib.Core.Bool.{Bool, true, false, cond, false≢true, true≢false}
use mathlib.Core.List.{List, [], ◌∷◌, ◌++◌}
use mathlib.Core.Logic.{◌↔◌, ◌⊎◌, inl, inr, ⊎_elim}
use native.Mathlib.Omega.{arith}
use native.Mathlib.Nat.{mul-le-mul_right}
use lib.Dec.{eqb}
use lib.ListN.{length}
use borrow.Author.Tests.{eqb-true, eqb-false, eq-eqb}
use Rattle.wire.specs.Message.{message_limit}
use Rattle.wire.proofs.Choice.{either, chosen, both}
use Rattle.header.specs.Header.{header_of}
use Rattle.header.specs.Theorems.{SameElse}
use Rattle.header.specs.declared.header.Header.{Header}
use Rattle.settings.proofs.Timers.{by_timer}
use Rattle.settings.specs.declared.terms.Terms.{Terms}
use Rattle.place.specs.Fate.{begins_reply, fate_of}
use Rattle.place.specs.Message.{Routed, Continues, Whole, first_of}
use Rattle.place.specs.Own.{primary_of, no_reply, ended, own_kept, first_out, acknowledged, awaited_by, await_tick, replying_by, reply_tick, awaits, continues_reply, own_takes, verdict_of, follows, replied_by, replied, own_offered}
use Rattle.place.specs.OwnHistory.{Event, claim, put_out, sent, failed, tick, release, block, passed, answer_by, answer_to, Request, none, underway, out, proved, lost, Seen, at, asked, counting, went_out, acked, gave_up, proven_by, since_by, answered, Track, next}
use Rattle.place.specs.OwnHistory as onlooker
use Rattle.place.specs.OwnTheorems.{Received, Asked, Complete, Earned, on_reply, ReplyAsKept, AllZeros, BeginsReply}
use Rattle.place.proofs.Messages.{none_not_whole}
use Rattle.place.proofs.Arrivals as core
use Rattle.place.proofs.Arrivals.{Arrived, Arrives}
use Rattle.place.proofs.Judging.{reply_exactly}
use Rattle.place.specs.declared.Verdict.{Verdict}
use Rattle.place.specs.declared.Verdict.TheVariants.{Sent, Answered, Declined, Other, Broken, NoReply, SendFailed}
use Rattle.place.specs.declared.Standing.{Standing}
use Rattle.place.specs.declared.Standing.TheVariants as standing
use Rattle.place.specs.declared.Reply.{Reply}
use Rattle.place.specs.declared.Arriving.{Arriving}
use Rattle.place.specs.declared.OwnStage.{OwnStage}
use Rattle.place.specs.declared.OwnStage.TheVariants.{Free, Sending, PutOut, Awaiting, Replying, Done}
use Rattle.place.specs.declared.Own.{Own}

-- ---- what holds at each stage

-- the request with header bytes h is on its way
pub record Leaves (h : List ℕ) (s : Seen) : Type 0 where
  pub request : s.request ≡ underway
  pub header : s.header ≡ header_of h

-- its reply is awaited, and no block of it has come
pub record Unanswered (h : List ℕ) (s : Seen) : Type 0 where
  pub wanted : s.header.w ≡ true
  pub header : s.header ≡ header_of h
  pub kept : s.kept ≡ []
  pub bytes : s.bytes ≡ 0
  pub unspoilt : s.spoilt ≡ false

-- so it is while the request's last block is out
pub record IsOut (h : List ℕ) (s : Seen) : Type 0 where
  pub request : s.request ≡ out
  pub unanswered : Unanswered h s

-- and from the ACK of that block on, for T3
pub record Waits (c : Terms) (h : List ℕ) (s : Seen) (timer : ℕ) : Type 0 where
  pub request : s.request ≡ onlooker.acknowledged
  pub unanswered : Unanswered h s
  pub since : s.since ≡ timer
  pub within : timer ≤ c.t3.0

-- what has come of the reply
abbrev arrived_of : Seen → Arrived
arrived_of s = record { kept = s.kept; bytes = s.bytes; spoilt = s.spoilt; quiet = s.quiet }

-- a reply arrives, with the request's system bytes, and each of its bytes has left time for one T4 more
pub record Replies (c : Terms) (h : List ℕ) (s : Seen) (a : Arriving) : Type 0 where
  pub asked : Asked s
  pub header : s.header ≡ header_of h
  pub system : (first_of s.kept).system ≡ (header_of h).system
  pub arrives : Arrives c a (arrived_of s)
  pub late : s.since + c.t4.0 ≤ c.t3.0 + s.bytes * c.t4.0 + a.timer

-- the verdict is earned; behind one on a whole reply that reply is shown, behind any other nothing
pub record Ended (c : Terms) (h : List ℕ) (s : Seen) (v : Verdict) (r : Reply) : Type 0 where
  pub header : s.header ≡ header_of h
  pub earned : Earned c s v
  pub room : r.length ≤ message_limit
  pub shown : on_reply v ≡ true → ReplyAsKept s r
  pub unshown : on_reply v ≡ false → AllZeros r

-- at each stage, of the place with header bytes h and of what the onlooker has seen
abbrev pub At : Terms → OwnStage → List ℕ → Seen → Type 0
At c Free h s = s.request ≡ none
At c Sending h s = Leaves h s
At c PutOut h s = IsOut h s
At c (Awaiting timer) h s = Waits c h s timer
At c (Replying a) h s = Replies c h s a
At c (Done v r) h s = Ended c h s v r

abbrev pub Good : Terms → Track → Type 0
Good c t = At c t.own.stage t.own.header t.seen

abbrev pub place_at : List ℕ → OwnStage → Own
place_at h p = record { header = h; stage = p }

abbrev pub meet : Own → Seen → Track
meet o s = record { own = o; seen = s }

-- what one event leaves of a place at this stage
abbrev After : (c : Terms) → List ℕ → OwnStage → Seen → Event c → Type 0
After c h p s e = Good c (next (meet (place_at h p) s) e)

-- nothing is shown of a reply
pub zeros : AllZeros no_reply
zeros = record { w = refl; stream = refl; function = refl; length = refl }

-- what is acknowledged, or proved received, is not at another point
abbrev pub IsReceived : Request → Type 0
IsReceived none = ⊥
IsReceived underway = ⊥
IsReceived out = ⊥
IsReceived onlooker.acknowledged = Unit {0}
IsReceived proved = Unit {0}
IsReceived lost = ⊥

pub is_received : (q r : Request) → q ≡ r → Received q → IsReceived r
is_received q r e w = ⊎_elim (λ a. subst IsReceived (sym a ∙ e) tt) (λ p. subst IsReceived (sym p ∙ e) tt) w

-- what is free or open is not a verdict
abbrev pub HasVerdict : Standing → Type 0
HasVerdict standing.Free = ⊥
HasVerdict standing.Open = ⊥
HasVerdict (standing.Given v) = Unit {0}

-- a list with a block in it is not empty
pub no_block : (bs : List Header) → bs ≡ [] → 1 ≤ length bs → ⊥
no_block bs e some = omega (arith, rw e at some)

-- ---- what a verdict that is earned says

-- a reply that was asked for is whole exactly if t
abbrev pub Tells : Seen → Bool → Type 0
Tells s t = Asked s → t ≡ true ↔ Whole s.kept

-- where it is whole, and where it is not
yes_whole : (s : Seen) → Whole s.kept → true ≡ true ↔ Whole s.kept
yes_whole s w = (λ e. w, λ x. refl)

pub not_whole : (s : Seen) → (Whole s.kept → ⊥) → false ≡ true ↔ Whole s.kept
not_whole s n = (λ e. absurd (false≢true e), λ w. absurd (n w))

-- each verdict that is earned says whether the reply is whole
pub tells_earned : (c : Terms) (s : Seen) (v : Verdict) → Earned c s v → Tells s (on_reply v)
tells_earned c s Sent e a = absurd (false≢true (sym e.1 ∙ a.wanted))
tells_earned c s Answered e a = yes_whole s e.0.whole
tells_earned c s Declined e a = yes_whole s e.0.whole
tells_earned c s Other e a = yes_whole s e.0.whole
tells_earned c s Broken e a = not_whole s e.1
tells_earned c s NoReply e a = not_whole s (rw e.2 none_not_whole)
tells_earned c s SendFailed e a = absurd (is_received _ _ e a.received)

-- a verdict that no whole reply earned, and nothing is shown of one
ended_now : (c : Terms) (o : Own) (s : Seen) (v : Verdict) → s.header ≡ primary_of o → Earned c s v → on_reply v ≡ false → Good c (meet (ended o v) s)
unfolding ended
ended_now c o s v header earned bare =
    record { header = header; earned = earned; room = omega arith; shown = λ z. absurd (true≢false (sym z ∙ bare)); unshown = λ z. zeros }

-- ---- a block of the reply

-- block b is the first of the reply, or the next one, and comes in time; the request is received, if not before then by this block
record Joins (c : Terms) (h : List ℕ) (s : Seen) (b : Header) : Type 0 where
  received : Received (proven_by s.request)
  wanted : s.header.w ≡ true
  header : s.header ≡ header_of h
  system : b.system ≡ (header_of h).system
  joins : core.Joins c (arrived_of s) b
  late : since_by s.request s.since ≤ c.t3.0 + s.bytes * c.t4.0

-- the verdict on a whole reply is the one earned: b is its last block
verdict_earned :
    (c : Terms) (o : Own) (s : Seen) (b : Header) → s.header ≡ primary_of o → SameElse b (first_of s.kept) → Complete s → Earned c s (verdict_of o b)
unfolding verdict_of
verdict_earned c o s b h same w =
    let p = primary_of o in
    let f = first_of s.kept in
    chosen (Earned c s) (eqb b.stream p.stream) _ _
    (λ i.
    let stream : f.stream ≡ s.header.stream = rw h (sym same.stream ∙ eqb-true _ _ i) in
    chosen (Earned c s) (follows b.function p.function) _ _
    (λ j. (w, record { stream = stream; function = rw h (sym same.function ∙ eqb-true _ _ j) }))
    (λ j. chosen (Earned c s) (eqb b.function 0) _ _
    (λ k. (w, record { stream = stream; function = sym same.function ∙ eqb-true _ _ k }))
    (λ k. (w, λ a. eqb-false _ _ j (rw h at (same.function ∙ a.function)), λ d. eqb-false _ _ k (same.function ∙ d.function)))))
    (λ i. (w, λ a. eqb-false _ _ i (rw h at (same.stream ∙ a.stream)), λ d. eqb-false _ _ i (rw h at (same.stream ∙ d.stream))))

-- what becomes of it, whatever its fate
met :
    (c : Terms) (o : Own) (s : Seen) (b : Header) (size : ℕ) → Joins c o.header s b → (own_kept o).length ≡ s.bytes
    → Good c (meet (replied o b size) (answered (answer_by (fate_of b (own_kept o).length size)) s b size))
unfolding replied
met c o s b size j e =
    let a : Asked (answered onlooker.kept s b size) = record { received = j.received; wanted = j.wanted } in
    let decides : Whole (s.kept ++ (b ∷ [])) → Earned c (answered onlooker.kept s b size) (verdict_of o b) =
    λ whole. verdict_earned c o (answered onlooker.kept s b size) b j.header j.joins.same (record { asked = a; whole = whole }) in
    let a' : Asked (answered onlooker.spoilt s b size) = record { received = j.received; wanted = j.wanted } in
    let broken : Good c (meet (ended o Broken) (answered onlooker.spoilt s b size)) =
    ended_now c o (answered onlooker.spoilt s b size) Broken j.header (a', j.joins.not_yet, inl refl) refl in
    rw e
    (core.by_join c (arrived_of s) b size j.joins (λ f. Good c (meet (replied_by o b f) (answered (answer_by f) s b size)))
    broken
    broken
    (λ whole fits.
    record {
      header = j.header;
      earned = decides whole;
      room = fits;
      shown = λ z. record { w = j.joins.same.w; stream = j.joins.same.stream; function = j.joins.same.function; length = refl };
      unshown = λ z. absurd (true≢false (sym ((tells_earned c (answered onlooker.kept s b size) (verdict_of o b) (decides whole) a).1 whole) ∙ z));
    })
    (λ arrives some.
    record {
      asked = a;
      header = j.header;
      system = sym j.joins.same.system ∙ j.system;
      arrives = arrives;
      late = omega (arith, j.late, mul-le-mul_right c.t4.0 some);
    }))

-- a block comes: it passes by, or it joins
offered :
    (c : Terms) (o : Own) (s : Seen) (b : Header) (size : ℕ) → Good c (meet o s) → (own_kept o).length ≡ s.bytes
    → (own_takes o b ≡ true → Joins c o.header s b)
    → Good c (meet (own_offered o b size) (answered (answer_to o b size) s b size))
unfolding own_offered answer_to
offered c o s b size g e joins =
    either (own_takes o b)
    (λ t. Good c (meet (cond t (replied o b size) o) (answered (cond t (answer_by (fate_of b (own_kept o).length size)) passed) s b size)))
    (λ t. met c o s b size (joins t) e) (λ t. g)

-- a block is the first of an awaited reply exactly if it begins one
pub awaits_exactly : (h : List ℕ) (p : OwnStage) (s : Seen) (b : Header) → s.header ≡ header_of h → awaits (place_at h p) b ≡ true ↔ BeginsReply s.header b
unfolding awaits
awaits_exactly h p s b e = (
  λ t.
      let w = (both (eqb (header_of h).system b.system) (begins_reply b)).0 t in
      let r = (reply_exactly b).0 w.1 in
      record { system = rw e (sym (eqb-true _ _ w.0)); even = r.0; first = r.1 },
  λ k.
      let system : b.system ≡ (header_of h).system = rw e at k.system in
      (both (eqb (header_of h).system b.system) (begins_reply b)).1 (eq-eqb _ _ (sym system), (reply_exactly b).1 (k.even, k.first)),
)

-- the first block of an awaited reply, which comes within T3 of the ACK, or before it
first_joins :
    (c : Terms) (h : List ℕ) (p : OwnStage) (s : Seen) (b : Header) → Unanswered h s → Received (proven_by s.request) → since_by s.request s.since ≤ c.t3.0
    → Routed c b → awaits (place_at h p) b ≡ true → Joins c h s b
first_joins c h p s b g received early q t =
    let k = (awaits_exactly h p s b g.header).0 t in
    record {
      received = received;
      wanted = g.wanted;
      header = g.header;
      system = rw g.header at k.system;
      joins = core.first_joins c (arrived_of s) b g.kept g.unspoilt q k.first;
      late = omega (arith, early);
    }

-- a block continues the reply exactly if it continues the blocks kept, and has the request's device
pub goes_on_lem :
    (c : Terms) (h : List ℕ) (s : Seen) (a : Arriving) (b : Header) → Replies c h s a → Routed c b
    → continues_reply (place_at h (Replying a)) a b ≡ true ↔ ((b.device ≡ (header_of h).device) × Continues (first_of s.kept) (length s.kept + 1) b)
unfolding continues_reply
goes_on_lem c h s a b g q =
    let w = core.continues_kept c a (arrived_of s) (header_of h).device (header_of h).system b g.arrives in (
      λ t.
          let k = w.0 t in (
            k.device,
            record {
              device = q.device ∙ sym g.arrives.routed.device;
              system = k.system ∙ sym g.system;
              w = k.w;
              stream = k.stream;
              function = k.function;
              number = k.number;
            },
          ),
      λ k.
          w.1 (record {
            device = k.0;
            system = k.1.system ∙ g.system;
            w = k.1.w;
            stream = k.1.stream;
            function = k.1.function;
            number = k.1.number;
          }),
    )

-- a request that was received before is no other by one block more, and ticks count on
received_before : (q : Request) (n : ℕ) → Received q → Received (proven_by q) × (since_by q n ≡ n)
received_before q n w = ⊎_elim (λ a. (rw a (inl refl), rw a)) (λ p. (rw p (inr refl), rw p)) w

-- the next block of a reply that has begun
next_joins :
    (c : Terms) (h : List ℕ) (s : Seen) (a : Arriving) (b : Header) → Replies c h s a → Routed c b
    → continues_reply (place_at h (Replying a)) a b ≡ true → Joins c h s b
next_joins c h s a b g q t =
    let k = ((goes_on_lem c h s a b g q).0 t).1 in
    let r = received_before s.request s.since g.asked.received in
    record {
      received = r.0;
      wanted = g.asked.wanted;
      header = g.header;
      system = k.system ∙ g.system;
      joins = core.next_joins c a (arrived_of s) b g.arrives q k;
      late = omega (arith, r.1, g.late, g.arrives.within);
    }

-- ---- a verdict that is earned stays earned

-- the request is received or lost
abbrev Over : Request → Type 0
Over none = ⊥
Over underway = ⊥
Over out = ⊥
Over onlooker.acknowledged = Unit {0}
Over proved = Unit {0}
Over lost = Unit {0}

-- where a reply was asked for, and where any verdict is earned
over_asked : (s : Seen) → Asked s → Over s.request
over_asked s a = ⊎_elim (λ e. rw e tt) (λ e. rw e tt) a.received

over : (c : Terms) (s : Seen) (v : Verdict) → Earned c s v → Over s.request
over c s Sent e = rw e.0 tt
over c s Answered e = over_asked s e.0.asked
over c s Declined e = over_asked s e.0.asked
over c s Other e = over_asked s e.0.asked
over c s Broken e = over_asked s e.0
over c s NoReply e = rw e.0 tt
over c s SendFailed e = rw e tt

-- a request on its way is not asked for again
asked_sending : (q : Request) (s : Seen) (h : Header) → (q ≡ underway) ⊎ (q ≡ out) → asked q s h ≡ s
asked_sending q s h w = ⊎_elim (λ e. rw e) (λ e. rw e) w

-- one that is over is not asked for, put out, acknowledged or lost again
record Settled (q : Request) (s : Seen) : Type 0 where
  not_asked : (h : Header) → asked q s h ≡ s
  not_out : went_out q s ≡ s
  not_acked : acked q s ≡ s
  not_lost : gave_up q s ≡ s

settled : (q : Request) (s : Seen) → Over q → Settled q s
settled none s o = absurd o
settled underway s o = absurd o
settled out s o = absurd o
settled onlooker.acknowledged s o = record { not_asked = λ h. refl; not_out = refl; not_acked = refl; not_lost = refl }
settled proved s o = record { not_asked = λ h. refl; not_out = refl; not_acked = refl; not_lost = refl }
settled lost s o = record { not_asked = λ h. refl; not_out = refl; not_acked = refl; not_lost = refl }

-- 0.1 s later
abbrev later : Seen → Seen
later s =
    record { request = s.request; header = s.header; kept = s.kept; bytes = s.bytes; spoilt = s.spoilt; since = s.since + 1; quiet = s.quiet + 1 }

-- what time does not change
asked_later : (s : Seen) → Asked s → Asked (later s)
asked_later s a = record { received = a.received; wanted = a.wanted }

complete_later : (s : Seen) → Complete s → Complete (later s)
complete_later s w = record { asked = asked_later s w.asked; whole = w.whole }

earned_later : (c : Terms) (s : Seen) (v : Verdict) → Earned c s v → Earned c (later s) v
earned_later c s Sent e = e
earned_later c s Answered e = (complete_later s e.0, e.1)
earned_later c s Declined e = (complete_later s e.0, e.1)
earned_later c s Other e = (complete_later s e.0, e.1, e.2)
earned_later c s Broken e = (asked_later s e.0, e.1, ⊎_elim inl (λ w. inr (w.0, omega arith)) e.2)
earned_later c s NoReply e = (e.0, e.1, e.2, e.3, omega arith)
earned_later c s SendFailed e = e

unanswered_later : (h : List ℕ) (s : Seen) → Unanswered h s → Unanswered h (later s)
unanswered_later h s g = record { wanted = g.wanted; header = g.header; kept = g.kept; bytes = g.bytes; unspoilt = g.unspoilt }

-- ---- one event

free_step : (c : Terms) (h : List ℕ) (s : Seen) (e : Event c) → s.request ≡ none → After c h Free s e
unfolding own_offered answer_to
free_step c h s (claim x) g = rw g (record { request = refl; header = refl })
free_step c h s put_out g = rw g
free_step c h s sent g = rw g
free_step c h s failed g = rw g
free_step c h s tick g = g
free_step c h s release g = g
free_step c h s (block b size q) g = g

-- the counts start with no block of the reply
unanswered_yet : (h : List ℕ) (s : Seen) (q : Request) → s.header.w ≡ true → s.header ≡ header_of h → Unanswered h (counting s q)
unanswered_yet h s q w e = record { wanted = w; header = e; kept = refl; bytes = refl; unspoilt = refl }

-- the ACK of a request that is on its way
acked_now : (c : Terms) (h : List ℕ) (p : OwnStage) (s : Seen) → s.header ≡ header_of h → Good c (meet (acknowledged (place_at h p)) (counting s onlooker.acknowledged))
unfolding acknowledged
acked_now c h p s e =
    chosen (λ o. Good c (meet o (counting s onlooker.acknowledged))) (header_of h).w _ _
    (λ w. record { request = refl; unanswered = unanswered_yet h s onlooker.acknowledged (rw e w) e; since = refl; within = omega arith })
    (λ w. ended_now c (place_at h p) (counting s onlooker.acknowledged) Sent e (refl, rw e w) refl)

-- the last block is put out for the first time: with W = 1 the reply is awaited
out_now : (c : Terms) (h : List ℕ) (s : Seen) → Leaves h s → Good c (meet (first_out (place_at h Sending)) (went_out underway s))
unfolding first_out
out_now c h s g =
    subst (λ w. Good c (meet (cond w (place_at h PutOut) (place_at h Sending)) (went_out underway s))) (ap (λ (x : Header). x.w) g.header)
    (either s.header.w (λ w. Good c (meet (cond w (place_at h PutOut) (place_at h Sending)) (cond w (counting s out) s)))
    (λ w. record { request = refl; unanswered = unanswered_yet h s out w g.header }) (λ w. g))

sending_step : (c : Terms) (h : List ℕ) (s : Seen) (e : Event c) → Leaves h s → After c h Sending s e
unfolding own_offered answer_to
sending_step c h s (claim x) g = rw (asked_sending s.request s (header_of x) (inl g.request)) g
sending_step c h s put_out g = subst (λ q. Good c (meet (first_out (place_at h Sending)) (went_out q s))) (sym g.request) (out_now c h s g)
sending_step c h s sent g = rw g.request (acked_now c h Sending s g.header)
sending_step c h s failed g = rw g.request (ended_now c (place_at h Sending) (at s lost) SendFailed g.header refl refl)
sending_step c h s tick g = record { request = g.request; header = g.header }
sending_step c h s release g = g
sending_step c h s (block b size q) g = g

put_out_step : (c : Terms) (h : List ℕ) (s : Seen) (e : Event c) → IsOut h s → After c h PutOut s e
put_out_step c h s (claim x) g = rw (asked_sending s.request s (header_of x) (inr g.request)) g
put_out_step c h s put_out g = subst (λ q. IsOut h (went_out q s)) (sym g.request) g
put_out_step c h s sent g = rw g.request (acked_now c h PutOut s g.unanswered.header)
put_out_step c h s failed g = rw g.request (ended_now c (place_at h PutOut) (at s lost) SendFailed g.unanswered.header refl refl)
put_out_step c h s tick g = record { request = g.request; unanswered = unanswered_later h s g.unanswered }
put_out_step c h s release g = g
put_out_step c h s (block b size q) g =
    offered c (place_at h PutOut) s b size g (sym g.unanswered.bytes)
    (λ t. first_joins c h PutOut s b g.unanswered (rw g.request (inr refl)) (rw g.request (omega arith)) q t)

awaiting_step : (c : Terms) (h : List ℕ) (timer : ℕ) (s : Seen) (e : Event c) → Waits c h s timer → After c h (Awaiting timer) s e
unfolding await_tick
awaiting_step c h timer s (claim x) g = rw ((settled s.request s (rw g.request tt)).not_asked (header_of x)) g
awaiting_step c h timer s put_out g = rw (settled s.request s (rw g.request tt)).not_out g
awaiting_step c h timer s sent g = rw (settled s.request s (rw g.request tt)).not_acked g
awaiting_step c h timer s failed g = rw (settled s.request s (rw g.request tt)).not_lost g
awaiting_step c h timer s tick g =
    let u = unanswered_later h s g.unanswered in
    by_timer _ timer (λ t. Good c (meet (awaited_by (place_at h (Awaiting timer)) t) (later s)))
    (λ late. ended_now c (place_at h (Awaiting timer)) (later s) NoReply u.header (g.request, u.wanted, u.kept, u.unspoilt, omega (arith, g.since)) refl)
    (λ on. record { request = g.request; unanswered = u; since = omega (arith, g.since); within = omega arith })
awaiting_step c h timer s release g = g
awaiting_step c h timer s (block b size q) g =
    offered c (place_at h (Awaiting timer)) s b size g (sym g.unanswered.bytes)
    (λ t. first_joins c h (Awaiting timer) s b g.unanswered (rw g.request (inl refl)) (rw g.request (omega (arith, g.since, g.within))) q t)

replying_step : (c : Terms) (h : List ℕ) (a : Arriving) (s : Seen) (e : Event c) → Replies c h s a → After c h (Replying a) s e
unfolding reply_tick
replying_step c h a s (claim x) g = rw ((settled s.request s (over_asked s g.asked)).not_asked (header_of x)) g
replying_step c h a s put_out g = rw (settled s.request s (over_asked s g.asked)).not_out g
replying_step c h a s sent g = rw (settled s.request s (over_asked s g.asked)).not_acked g
replying_step c h a s failed g = rw (settled s.request s (over_asked s g.asked)).not_lost g
replying_step c h a s tick g =
    let w = asked_later s g.asked in
    core.by_tick c a (arrived_of s) g.arrives (λ t. Good c (meet (replying_by (place_at h (Replying a)) t) (later s)))
    (λ late. ended_now c (place_at h (Replying a)) (later s) Broken g.header (w, core.not_whole g.arrives, inr (g.arrives.begun.some, late)) refl)
    (λ on. record { asked = w; header = g.header; system = g.system; arrives = on; late = omega (arith, g.late) })
replying_step c h a s release g = g
replying_step c h a s (block b size q) g =
    offered c (place_at h (Replying a)) s b size g g.arrives.size (λ t. next_joins c h s a b g q t)

done_step : (c : Terms) (h : List ℕ) (v : Verdict) (r : Reply) (s : Seen) (e : Event c) → Ended c h s v r → After c h (Done v r) s e
unfolding own_offered answer_to
done_step c h v r s (claim x) g = rw ((settled s.request s (over c s v g.earned)).not_asked (header_of x)) g
done_step c h v r s put_out g = rw (settled s.request s (over c s v g.earned)).not_out g
done_step c h v r s sent g = rw (settled s.request s (over c s v g.earned)).not_acked g
done_step c h v r s failed g = rw (settled s.request s (over c s v g.earned)).not_lost g
done_step c h v r s tick g = record { header = g.header; earned = earned_later c s v g.earned; room = g.room; shown = λ z. let k = g.shown z in record { w = k.w; stream = k.stream; function = k.function; length = k.length }; unshown = g.unshown }
done_step c h v r s release g = refl
done_step c h v r s (block b size q) g = g

-- whatever event comes
pub step : (c : Terms) (h : List ℕ) (p : OwnStage) (s : Seen) (e : Event c) → At c p h s → After c h p s e
step c h Free s e g = free_step c h s e g
step c h Sending s e g = sending_step c h s e g
step c h PutOut s e g = put_out_step c h s e g
step c h (Awaiting timer) s e g = awaiting_step c h timer s e g
step c h (Replying a) s e g = replying_step c h a s e g
step c h (Done v r) s e g = done_step c h v r s e g
