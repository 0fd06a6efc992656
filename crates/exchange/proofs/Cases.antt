-- What holds in each case of judging holds of judging, and in each case of a request, of the request. Assumes nothing.
use Rattle.std.specs.Prelude.{Option, Some, None, Ok}
use Prim.Native.Nat.{ℕ}
use mathlib.Core.Path.{◌≡◌, refl}
use mathlib.Core.Bool.{Bool, true, false, not}
use mathlib.Core.List.{List}
use lib.ListN.{length}
use Rattle.header.specs.Header.{header_of}
use Rattle.header.specs.declared.header.Header.{Header}
use Rattle.settings.specs.declared.terms.Terms.{Terms}
use Rattle.wire.proofs.Choice.{chosen}
use Rattle.place.specs.Fate.{begins_primary, fate_of}
use Rattle.place.specs.Own.{own_has_verdict, own_released}
use Rattle.place.specs.Incoming.{primary_of, incoming_is_replied, incoming_released}
use Rattle.place.specs.declared.Fate.{Fate}
use Rattle.place.specs.declared.Fate.TheVariants as fate
use Rattle.table.specs.Own.{free_own, reply_for}
use Rattle.table.specs.Incoming.{free_incoming, message_for, open_alike}
use Rattle.exchange.specs.Exchange.{own_place, incoming_place, put_own, put_incoming, sent_from, sent_behind, saved_now}
use Rattle.exchange.specs.Judge.{Judging, thrown, is_misrouted, is_duplicate, last_by, spoilt_by, reply_block, message_block, begins_at, in_free, in_place, takes_place, primary_by, primary_block, or_primary, of_message, no_reply_block, of_reply, new_block, rules_of}
use Rattle.exchange.specs.Request.{Requesting, requesting, bad_primary, bad_function, data_long, is_sending, not_ready, refused, open_by, open_free, open_of, reply_accepted, reply_ready, reply_of, release_own, release_incoming, Request, answer_of}
use Rattle.exchange.specs.Request as request
use Rattle.exchange.specs.declared.Note.{Note}
use Rattle.exchange.specs.declared.Note.TheVariants.{Misrouted, Duplicate, Stray, NoPlace, TooLong, Empty}
use Rattle.exchange.specs.declared.Sending.{Sending}
use Rattle.exchange.specs.declared.Sending.TheVariants.{Nothing}
use Rattle.exchange.specs.declared.Exchange.{Exchange}
use Rattle.exchange.specs.declared.Refusal.{Refusal}
use Rattle.exchange.specs.declared.Primary.{Primary}
use Rattle.exchange.specs.declared.Requested.{Requested}
use Rattle.exchange.proofs.Judging.{Passed}

-- what was found
pub by_found : (f : Option ℕ) (P : Option ℕ → Type 0) → ((p : ℕ) → f ≡ Some p → P (Some p)) → (f ≡ None → P None) → P f
by_found (Some p) P here nowhere = here p refl
by_found None P here nowhere = nowhere refl

-- the notes 24 to 27, by which a block is thrown out
pub data Thrown : Note → Type 0 where
  stray : Thrown Stray
  no_place : Thrown NoPlace
  too_long_lem : Thrown TooLong
  empty : Thrown Empty

-- place p is the one that a new primary takes: of an open message that is alike, or else the lowest free one
abbrev pub Takes : Exchange → Header → ℕ → Bool → Type 0
Takes x b p true = open_alike x.incoming b ≡ Some p
Takes x b p false = (open_alike x.incoming b ≡ None) × (free_incoming x.incoming ≡ Some p)

-- what is being sent once a block of the reply in own place p has come
pub by_behind : (P : Sending → Type 0) (z : Sending) (p : ℕ) → (sent_from z p ≡ true → P Nothing) → (sent_from z p ≡ false → P z) → P (sent_behind z p)
unfolding sent_behind
by_behind P z p gone still = chosen P (sent_from z p) Nothing z gone still

-- ---- a block that passed 1 and 2, with header b and data d

module _ (x : Exchange) (b : Header) (d room : List ℕ) (J : Judging → Type 0) where
  abbrev pub AsReply : Type 0
  AsReply = (p : ℕ) → reply_for x.own b ≡ Some p → J (reply_block x p b d room)

  abbrev pub AsMessage : Type 0
  AsMessage = (p : ℕ) → reply_for x.own b ≡ None → message_for x.incoming b ≡ Some p → J (message_block x p b d room)

  -- the fate is that of a block that is kept
  abbrev pub AsPrimary : Type 0
  AsPrimary =
      (p : ℕ) (gone : Bool) (f : Fate) → reply_for x.own b ≡ None → message_for x.incoming b ≡ None → begins_primary b ≡ true
      → fate_of b 0 (length d) ≡ f → spoilt_by f ≡ false → Takes x b p gone → J (begins_at x p b gone (last_by f) d room)

  abbrev pub AsOutcast : Type 0
  AsOutcast = (n : Note) → Thrown n → reply_for x.own b ≡ None → message_for x.incoming b ≡ None → J (thrown x n room)

  module _ (primary : AsPrimary) (outcast : AsOutcast) (r : reply_for x.own b ≡ None) (m : message_for x.incoming b ≡ None) (o : begins_primary b ≡ true) where
    placed : (f : Fate) → fate_of b 0 (length d) ≡ f → spoilt_by f ≡ false → J (takes_place x b (last_by f) d room)
    unfolding takes_place
    placed f e s =
        by_found (open_alike x.incoming b) (λ a. J (in_place a x b (last_by f) d room))
        (λ p a. primary p true f r m o e s a)
        (λ a.
        by_found (free_incoming x.incoming) (λ g. J (in_free g x b (last_by f) d room))
        (λ p g. primary p false f r m o e s (a, g)) (λ g. outcast NoPlace no_place r m))

    by_fate : (f : Fate) → fate_of b 0 (length d) ≡ f → J (primary_by f x b d room)
    by_fate fate.Empty e = outcast Empty empty r m
    by_fate fate.TooLong e = outcast TooLong too_long_lem r m
    by_fate (fate.Last n) e = placed (fate.Last n) e refl
    by_fate (fate.More n) e = placed (fate.More n) e refl

    begun : J (primary_block x b d room)
    unfolding primary_block
    begun = by_fate (fate_of b 0 (length d)) refl

  module _ (reply : AsReply) (message : AsMessage) (primary : AsPrimary) (outcast : AsOutcast) where
    no_reply : reply_for x.own b ≡ None → J (no_reply_block x b d room)
    unfolding no_reply_block or_primary
    no_reply r =
        by_found (message_for x.incoming b) (λ f. J (of_message f x b d room))
        (λ p m. message p r m)
        (λ m.
        chosen J (begins_primary b) _ _
        (λ o. begun primary outcast r m o) (λ o. outcast Stray stray r m))

    pub by_new : J (new_block x b d room)
    unfolding new_block
    by_new = by_found (reply_for x.own b) (λ f. J (of_reply f x b d room)) (λ p r. reply p r) no_reply

-- ---- a block with header bytes h and data d

module _ (c : Terms) (x : Exchange) (h d room : List ℕ) (J : Judging → Type 0) where
  abbrev pub OfReply : Type 0
  OfReply = (p : ℕ) → Passed c x h → reply_for x.own (header_of h) ≡ Some p → J (reply_block (saved_now x h) p (header_of h) d room)

  abbrev pub OfMessage : Type 0
  OfMessage =
      (p : ℕ) → Passed c x h → reply_for x.own (header_of h) ≡ None → message_for x.incoming (header_of h) ≡ Some p
      → J (message_block (saved_now x h) p (header_of h) d room)

  -- the fate is that of a block that is kept
  abbrev pub OfPrimary : Type 0
  OfPrimary =
      (p : ℕ) (gone : Bool) (f : Fate) → Passed c x h → reply_for x.own (header_of h) ≡ None
      → message_for x.incoming (header_of h) ≡ None → begins_primary (header_of h) ≡ true → fate_of (header_of h) 0 (length d) ≡ f
      → spoilt_by f ≡ false → Takes x (header_of h) p gone → J (begins_at (saved_now x h) p (header_of h) gone (last_by f) d room)

  abbrev pub Outcast : Type 0
  Outcast =
      (n : Note) → Thrown n → reply_for x.own (header_of h) ≡ None → message_for x.incoming (header_of h) ≡ None
      → J (thrown (saved_now x h) n room)

  -- the saved header is no part of a place
  takes_same : (b : Header) (p : ℕ) (gone : Bool) → Takes (saved_now x h) b p gone → Takes x b p gone
  unfolding saved_now
  takes_same b p true t = t
  takes_same b p false t = t

  new : OfReply → OfMessage → OfPrimary → Outcast → Passed c x h → J (new_block (saved_now x h) (header_of h) d room)
  unfolding saved_now
  new reply message primary outcast q =
      by_new (saved_now x h) (header_of h) d room J (λ p r. reply p q r) (λ p r m. message p q r m)
      (λ p gone f r m o e s t. primary p gone f q r m o e s (takes_same (header_of h) p gone t)) outcast

  pub by_judge :
      (is_misrouted c (header_of h) ≡ true → J (thrown x Misrouted room))
      → (is_misrouted c (header_of h) ≡ false → is_duplicate c x h ≡ true → J (thrown x Duplicate room))
      → OfReply → OfMessage → OfPrimary → Outcast → J (rules_of c x h d room)
  unfolding rules_of
  by_judge misrouted duplicate reply message primary outcast =
      chosen J (is_misrouted c (header_of h)) _ _ misrouted
      (λ q. chosen J (is_duplicate c x h) _ _ (λ u. duplicate q u) (λ u. new reply message primary outcast (q, u)))

-- ---- the requests

-- neither 6 nor 7 refuses a message of this data
pub record Sendable (x : Exchange) (d : List ℕ) : Type 0 where
  pub fits : data_long (length d) ≡ false
  pub idle : is_sending x ≡ false

-- what an accepted release leaves
abbrev pub own_freed : Exchange → ℕ → Requested
own_freed x p = record { exchange = put_own x p (own_released (own_place x p)); asked = Ok p }

abbrev pub incoming_freed : Exchange → ℕ → Requested
incoming_freed x p = record { exchange = put_incoming x p (incoming_released (incoming_place x p)); asked = Ok p }

module _ (x : Exchange) (room : List ℕ) (R : Requesting → Type 0) (refuse : (n : Refusal) → R (refused x n room)) where
  -- a primary takes the free place that is found
  pub by_open : (c : Terms) (q : Primary) (d : List ℕ) → ((p : ℕ) → Sendable x d → free_own x.own ≡ Some p → R (open_by (Some p) c x q d room)) → R (open_of c x q d room)
  unfolding open_of open_free
  by_open c q d take =
      chosen R (bad_primary q) _ _ (λ e. refuse _)
      (λ e. chosen R (data_long (length d)) _ _ (λ l. refuse _)
      (λ l. chosen R (is_sending x) _ _ (λ u. refuse _)
      (λ u. by_found (free_own x.own) (λ f. R (open_by f c x q d room)) (λ p a. take p (record { fits = l; idle = u }) a) (λ a. refuse _))))

  -- a reply is to a message that is complete, and the first to it
  pub by_reply : (p f : ℕ) (d : List ℕ)
      → (Sendable x d → not_ready (incoming_place x p) ≡ false → incoming_is_replied (incoming_place x p) ≡ false → R (reply_accepted x p f d room)) → R (reply_of x p f d room)
  unfolding reply_of reply_ready
  by_reply p f d accept =
      let i = incoming_place x p in
      chosen R (not_ready i) _ _ (λ e. refuse _)
      (λ a. chosen R (not (primary_of i).w) _ _ (λ e. refuse _)
      (λ e. chosen R (incoming_is_replied i) _ _ (λ e. refuse _)
      (λ b. chosen R (bad_function (primary_of i) f) _ _ (λ e. refuse _)
      (λ e. chosen R (data_long (length d)) _ _ (λ l. refuse _)
      (λ l. chosen R (is_sending x) _ _ (λ u. refuse _) (λ u. accept (record { fits = l; idle = u }) a b))))))

  -- a release is of a place with a verdict, or of a message that is complete and whose reply is not on its way
  pub by_free_own : (p : ℕ) → (own_has_verdict (own_place x p) ≡ true → R (requesting (own_freed x p) room)) → R (requesting (release_own x p) room)
  unfolding release_own refused
  by_free_own p free = chosen (λ (a : Requested). R (requesting a room)) (own_has_verdict (own_place x p)) _ _ free (λ e. refuse _)

  pub by_free_incoming : (p : ℕ) → (not_ready (incoming_place x p) ≡ false → R (requesting (incoming_freed x p) room)) → R (requesting (release_incoming x p) room)
  unfolding release_incoming refused
  by_free_incoming p free = chosen (λ (a : Requested). R (requesting a room)) (not_ready (incoming_place x p)) _ _ (λ e. refuse _) free

-- any request: it is refused, or accepted as one of four kinds
module _ (c : Terms) (x : Exchange) (room : List ℕ) (R : Request → Requesting → Type 0) where
  abbrev pub Opens : Type 0
  Opens = (q : Primary) (d : List ℕ) (p : ℕ) → Sendable x d → free_own x.own ≡ Some p → R (request.primary q d) (open_by (Some p) c x q d room)

  abbrev pub Replies : Type 0
  Replies =
      (p f : ℕ) (d : List ℕ) → Sendable x d → not_ready (incoming_place x p) ≡ false → incoming_is_replied (incoming_place x p) ≡ false
      → R (request.reply p f d) (reply_accepted x p f d room)

  abbrev pub FreesOwn : Type 0
  FreesOwn = (p : ℕ) → own_has_verdict (own_place x p) ≡ true → R (request.freeing_own p) (requesting (own_freed x p) room)

  abbrev pub FreesIncoming : Type 0
  FreesIncoming = (p : ℕ) → not_ready (incoming_place x p) ≡ false → R (request.freeing_incoming p) (requesting (incoming_freed x p) room)

  pub by_request : ((r : Request) (n : Refusal) → R r (refused x n room)) → Opens → Replies → FreesOwn → FreesIncoming → (r : Request) → R r (answer_of c x r room)
  by_request refuse opens replies own incoming (request.primary q d) = by_open x room (R (request.primary q d)) (refuse (request.primary q d)) c q d (opens q d)
  by_request refuse opens replies own incoming (request.reply p f d) = by_reply x room (R (request.reply p f d)) (refuse (request.reply p f d)) p f d (replies p f d)
  by_request refuse opens replies own incoming (request.freeing_own p) = by_free_own x room (R (request.freeing_own p)) (refuse (request.freeing_own p)) p (own p)
  by_request refuse opens replies own incoming (request.freeing_incoming p) = by_free_incoming x room (R (request.freeing_incoming p)) (refuse (request.freeing_incoming p)) p (incoming p)
