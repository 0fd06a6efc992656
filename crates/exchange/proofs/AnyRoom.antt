-- The transactions go by no byte of the room: what they are after calls on one room, and what is joined of them, is the same on another.
-- Assumes nothing.
use Rattle.std.specs.Prelude.{Option, Some, None}
use Prim.Native.Nat.{ℕ}
use mathlib.Core.Path.{◌≡◌, refl, ap, ◌∙◌}
use mathlib.Core.Bool.{Bool, true, false, cond, not}
use mathlib.Core.List.{List, [], ◌∷◌}
use lib.ListN.{length}
use Rattle.header.specs.Header.{header_of}
use Rattle.header.specs.declared.header.Header.{Header}
use Rattle.settings.specs.declared.terms.Terms.{Terms}
use Rattle.place.specs.Fate.{begins_primary, fate_of}
use Rattle.place.specs.Incoming.{primary_of, incoming_is_replied}
use Rattle.place.specs.declared.Fate.{Fate}
use Rattle.place.specs.declared.Fate.TheVariants as fate
use Rattle.table.specs.Own.{free_own, reply_for}
use Rattle.table.specs.Incoming.{message_for, open_alike, free_incoming}
use Rattle.exchange.specs.Exchange.{incoming_place, saved_now}
use Rattle.exchange.specs.Judge.{Judging, thrown, is_misrouted, is_duplicate, reply_block, message_block, begins_at, in_free, in_place, takes_place, primary_by, primary_block, or_primary, of_message, no_reply_block, of_reply, new_block, reporting, rules_of, judge_of}
use Rattle.exchange.specs.Request.{Requesting, refused, bad_primary, bad_function, data_long, is_sending, not_ready, open_by, open_free, open_of, reply_accepted, reply_ready, reply_of, Request, answer_of}
use Rattle.exchange.specs.Request as request
use Rattle.exchange.specs.History as exchange
use Rattle.exchange.specs.History.{Call, block, tick, put_out, acknowledged, failed, called, Joined, joins, if_kept, sees, Track, next, track}
use Rattle.exchange.specs.declared.Exchange.{Exchange}
use Rattle.exchange.specs.declared.Judged.{Judged}
use Rattle.exchange.specs.declared.Primary.{Primary}
use Rattle.exchange.specs.declared.Requested.{Requested}

-- two choices on one test are alike where their results are
alike_if : {A B : Type 0} (f : A → B) (t : Bool) (j k j' k' : A) → f j ≡ f j' → f k ≡ f k' → f (cond t j k) ≡ f (cond t j' k')
alike_if f true j k j' k' a b = a
alike_if f false j k j' k' a b = b

-- ---- a block is judged alike

abbrev judged_in : Judging → Judged
judged_in j = j.answer

module _ (h : Header) (d room other : List ℕ) where
  free_alike : (f : Option ℕ) (x : Exchange) (last : Bool) → judged_in (in_free f x h last d room) ≡ judged_in (in_free f x h last d other)
  unfolding begins_at thrown
  free_alike (Some p) x last = refl
  free_alike None x last = refl

  place_alike : (f : Option ℕ) (x : Exchange) (last : Bool) → judged_in (in_place f x h last d room) ≡ judged_in (in_place f x h last d other)
  unfolding begins_at
  place_alike (Some p) x last = refl
  place_alike None x last = free_alike (free_incoming x.incoming) x last

  primary_alike : (f : Fate) (x : Exchange) → judged_in (primary_by f x h d room) ≡ judged_in (primary_by f x h d other)
  unfolding thrown takes_place
  primary_alike fate.Empty x = refl
  primary_alike fate.TooLong x = refl
  primary_alike (fate.Last n) x = place_alike (open_alike x.incoming h) x true
  primary_alike (fate.More n) x = place_alike (open_alike x.incoming h) x false

  message_alike : (f : Option ℕ) (x : Exchange) → judged_in (of_message f x h d room) ≡ judged_in (of_message f x h d other)
  unfolding message_block or_primary primary_block thrown
  message_alike (Some p) x = refl
  message_alike None x =
      alike_if judged_in (begins_primary h) _ _ _ _ (primary_alike (fate_of h 0 (length d)) x) refl

  reply_alike : (f : Option ℕ) (x : Exchange) → judged_in (of_reply f x h d room) ≡ judged_in (of_reply f x h d other)
  unfolding reply_block no_reply_block
  reply_alike (Some p) x = refl
  reply_alike None x = message_alike (message_for x.incoming h) x

rules_alike : (h d room other : List ℕ) (c : Terms) (x : Exchange) → judged_in (rules_of c x h d room) ≡ judged_in (rules_of c x h d other)
unfolding rules_of new_block thrown
rules_alike h d room other c x =
    alike_if judged_in (is_misrouted c (header_of h)) _ _ _ _ refl
    (alike_if judged_in (is_duplicate c x h) _ _ _ _ refl
    (reply_alike (header_of h) d room other (reply_for (saved_now x h).own (header_of h)) (saved_now x h)))

-- and so is what is reported of it
judge_alike : (h d room other : List ℕ) (c : Terms) (x : Exchange) → judged_in (judge_of c x h d room) ≡ judged_in (judge_of c x h d other)
judge_alike h d room other c x = ap (reporting c x.sending h) (rules_alike h d room other c x)

-- ---- a request is answered alike

abbrev asked_in : Requesting → Requested
asked_in a = a.answer

module _ (x : Exchange) (d room other : List ℕ) where
  found_alike : (f : Option ℕ) (c : Terms) (q : Primary) → asked_in (open_by f c x q d room) ≡ asked_in (open_by f c x q d other)
  unfolding refused
  found_alike (Some p) c q = refl
  found_alike None c q = refl

  open_alike_lem : (c : Terms) (q : Primary) → asked_in (open_of c x q d room) ≡ asked_in (open_of c x q d other)
  unfolding open_of open_free refused
  open_alike_lem c q =
      alike_if asked_in (bad_primary q) _ _ _ _ refl
      (alike_if asked_in (data_long (length d)) _ _ _ _ refl
      (alike_if asked_in (is_sending x) _ _ _ _ refl (found_alike (free_own x.own) c q)))

  answer_alike : (p f : ℕ) → asked_in (reply_of x p f d room) ≡ asked_in (reply_of x p f d other)
  unfolding reply_of reply_ready reply_accepted refused
  answer_alike p f =
      let i = incoming_place x p in
      alike_if asked_in (not_ready i) _ _ _ _ refl
      (alike_if asked_in (not (primary_of i).w) _ _ _ _ refl
      (alike_if asked_in (incoming_is_replied i) _ _ _ _ refl
      (alike_if asked_in (bad_function (primary_of i) f) _ _ _ _ refl
      (alike_if asked_in (data_long (length d)) _ _ _ _ refl
      (alike_if asked_in (is_sending x) _ _ _ _ refl refl)))))

pub request_alike : (c : Terms) (x : Exchange) (r : Request) (room other : List ℕ) → asked_in (answer_of c x r room) ≡ asked_in (answer_of c x r other)
request_alike c x (request.primary q d) room other = open_alike_lem x d room other c q
request_alike c x (request.reply p f d) room other = answer_alike x d room other p f
request_alike c x (request.freeing_own p) room other = refl
request_alike c x (request.freeing_incoming p) room other = refl

-- ---- any call

module _ (c : Terms) (x : Exchange) (room other : List ℕ) where
  called_alike : (k : Call) → (called c x room k).exchange ≡ (called c x other k).exchange
  called_alike (block h d) = ap (λ (j : Judged). j.exchange) (judge_alike h d room other c x)
  called_alike tick = refl
  called_alike put_out = refl
  called_alike acknowledged = refl
  called_alike failed = refl
  called_alike (exchange.request r) = ap (λ (a : Requested). a.exchange) (request_alike c x r room other)

  sees_alike : (s : Joined) (k : Call) → sees c x room s k ≡ sees c x other s k
  sees_alike s (block h d) = ap (λ (j : Judged). if_kept j.note s (joins x h s d)) (judge_alike h d room other c x)
  sees_alike s tick = refl
  sees_alike s put_out = refl
  sees_alike s acknowledged = refl
  sees_alike s failed = refl
  sees_alike s (exchange.request r) = rw (request_alike c x r room other)

-- ---- any calls

module _ (c : Terms) where
  next_alike : (t v : Track) (k : Call) → t.exchange ≡ v.exchange → (next c t k).exchange ≡ (next c v k).exchange
  next_alike t v k e = ap (λ (x : Exchange). (called c x t.room k).exchange) e ∙ called_alike c v.exchange t.room v.room k

  pub track_alike : (t v : Track) (ks : List Call) → t.exchange ≡ v.exchange → t.seen ≡ v.seen
      → ((track c t ks).exchange ≡ (track c v ks).exchange) × ((track c t ks).seen ≡ (track c v ks).seen)
  unfolding track
  track_alike t v [] e s = (e, s)
  track_alike t v (k ∷ ks) e s =
      track_alike (next c t k) (next c v k) ks (next_alike t v k e)
      ((λ i. sees c (e i) t.room (s i) k) ∙ sees_alike c v.exchange t.room v.room v.seen k)
