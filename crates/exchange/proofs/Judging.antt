-- Each test of judging is true exactly if 01's words hold (`specs/Rules.antt`). Assumes nothing.
use Rattle.std.specs.Prelude.{Some, None, Option}
use Prim.Native.Nat.{ℕ, ◌+◌, ◌<◌}
use mathlib.Core.Path.{◌≡◌, refl, sym, ap, ◌∙◌}
use mathlib.Core.Bool.{Bool, true, false, not, ◌&&◌, ◌||◌, beq, false≢true}
use mathlib.Core.List.{List}
use mathlib.Core.Logic.Iff
use mathlib.Core.Logic.{◌↔◌, ◌⊎◌}
use lib.Dec.{eqb}
use borrow.Author.Tests.{eqb-true, eq-eqb, ltb-true, lt-ltb}
use Rattle.wire.specs.Message.{message_limit}
use Rattle.wire.proofs.Choice.{both, same_bits, either_of}
use Rattle.header.specs.Header.{header_of}
use Rattle.header.specs.declared.header.Header.{Header}
use Rattle.settings.specs.declared.terms.Terms.{Terms}
use Rattle.place.specs.Message.{Routed}
use Rattle.place.specs.Fate.{begins_primary, too_long}
use Rattle.place.specs.Own.{awaits, continues_reply, own_takes, takes_at as own_takes_at}
use Rattle.place.specs.Incoming.{continues_here, incoming_takes, takes_at as incoming_takes_at, free_at}
use Rattle.place.proofs.Judging.{primary_exactly, reply_exactly, continues_exactly}
use Rattle.place.specs.declared.OwnStage.{OwnStage}
use Rattle.place.specs.declared.OwnStage.TheVariants as own
use Rattle.place.specs.declared.Own.{Own}
use Rattle.place.specs.declared.IncomingStage.{IncomingStage}
use Rattle.place.specs.declared.IncomingStage.TheVariants as incoming
use Rattle.place.specs.declared.Incoming.{Incoming}
use Rattle.table.specs.Own.{reply_for}
use Rattle.table.specs.Incoming.{free_incoming, message_for, open_alike}
use Rattle.table.proofs.Finding.{reply_lowest, free_incoming_lowest, message_lowest, open_alike_lowest}
use Rattle.exchange.specs.Exchange.{own_place, incoming_place}
use Rattle.exchange.specs.Judge.{is_misrouted, is_saved, is_duplicate}
use Rattle.exchange.specs.Rules.{Fours, Duplicate, New, IsAwaited, out, acked, OfReply, first, further, OfMessage, goes_on_lem, Begins, ReplyHere, MessageHere, Expected, AlikeHere, AlikeAt, FreeHere, FreeAt, HasPlace, LowestAt}
use Rattle.exchange.specs.declared.Exchange.{Exchange}
use Rattle.exchange.proofs.Alike.{same_refl, same_eq, bytes_saved}
use Rattle.exchange.proofs.Finding.{found, somewhere, lowest, nowhere}

-- ---- rules 1 and 2

abbrev pub is_routed : Terms → Header → Bool
is_routed c b = eqb b.device c.device && beq b.r c.host

pub routed : (c : Terms) (b : Header) → is_routed c b ≡ true ↔ Routed c b
routed c b = (
  λ t.
      let w = (both (eqb b.device c.device) (beq b.r c.host)).0 t in
      record { r = (same_bits b.r c.host).0 w.1; device = eqb-true _ _ w.0 },
  λ q. (both (eqb b.device c.device) (beq b.r c.host)).1 (eq-eqb _ _ q.device, (same_bits b.r c.host).1 q.r),
)

-- these bytes are saved
saved_exactly : (s : Option (List ℕ)) (h : List ℕ) → is_saved s h ≡ true ↔ (s ≡ Some h)
unfolding is_saved
saved_exactly None h = (λ e. absurd (false≢true e), λ e. cc)
saved_exactly (Some s) h = (λ e. ap Some (same_eq s h e), λ e. rw (ap (λ (o : Option (List ℕ)). bytes_saved o) e) (same_refl h))

pub duplicate : (c : Terms) (x : Exchange) (h : List ℕ) → is_duplicate c x h ≡ true ↔ Duplicate c x h
unfolding is_duplicate is_saved
duplicate c x h = (
  λ t.
      let w = (both c.duplicates _).0 t in
      record { check = w.0; same = (saved_exactly x.saved h).0 w.1 },
  λ u. (both c.duplicates _).1 (u.check, (saved_exactly x.saved h).1 u.same),
)

-- what is asked of a block by 1 and 2
abbrev pub Passed : Terms → Exchange → List ℕ → Type 0
Passed c x h = (is_misrouted c (header_of h) ≡ false) × (is_duplicate c x h ≡ false)

not_false : (t : Bool) → not t ≡ false → t ≡ true
not_false true e = refl
not_false false e = absurd (false≢true (sym e))

pub is_new : (c : Terms) (x : Exchange) (h : List ℕ) → Passed c x h → New c x h
unfolding is_misrouted
is_new c x h q = record {
  routed = (routed c (header_of h)).0 (not_false _ q.0);
  no_duplicate = λ u. false≢true (sym q.1 ∙ (duplicate c x h).1 u);
}

-- ---- rule 3

-- a place that awaits its reply takes the first block of it
takes_first : (o : Own) (b : Header) → IsAwaited o → awaits o b ≡ true → OfReply o b
unfolding awaits
takes_first o b w t =
    let u = (both _ _).0 t in
    let v = (reply_exactly b).0 u.1 in
    first w (sym (eqb-true _ _ u.0)) v.0 v.1

awaited_takes : (o : Own) (b : Header) → IsAwaited o → own_takes o b ≡ awaits o b
awaited_takes o b (out e) = rw e
awaited_takes o b (acked timer e) = rw e

-- a place that takes a block as its reply's
takes_reply : (s : OwnStage) (o : Own) (b : Header) → o.stage ≡ s → own_takes_at s o b ≡ true → OfReply o b
unfolding continues_reply
takes_reply own.Free o b e t = absurd (false≢true t)
takes_reply own.Sending o b e t = absurd (false≢true t)
takes_reply own.PutOut o b e t = takes_first o b (out e) t
takes_reply (own.Awaiting timer) o b e t = takes_first o b (acked timer e) t
takes_reply (own.Replying a) o b e t = further a e ((continues_exactly _ _ a b).0 t)
takes_reply (own.Done v r) o b e t = absurd (false≢true t)

-- and a block that is
of_reply_lem : (o : Own) (b : Header) → OfReply o b → own_takes o b ≡ true
unfolding awaits continues_reply
of_reply_lem o b (first w s even n) = awaited_takes o b w ∙ (both _ _).1 (eq-eqb _ _ (sym s), (reply_exactly b).1 (even, n))
of_reply_lem o b (further a e k) = rw e ((continues_exactly _ _ a b).1 k)

pub reply_says : (o : Own) (b : Header) → own_takes o b ≡ true ↔ OfReply o b
reply_says o b = (takes_reply o.stage o b refl, of_reply_lem o b)

-- a place that takes a block as its message's
takes_message : (s : IncomingStage) (i : Incoming) (b : Header) → i.stage ≡ s → incoming_takes_at s i b ≡ true → OfMessage i b
unfolding continues_here
takes_message incoming.Free i b e t = absurd (false≢true t)
takes_message (incoming.Open a) i b e t = goes_on_lem a e ((continues_exactly _ _ a b).0 t)
takes_message (incoming.Complete n) i b e t = absurd (false≢true t)
takes_message (incoming.Replying n) i b e t = absurd (false≢true t)
takes_message (incoming.Replied n f) i b e t = absurd (false≢true t)

-- and a block that is
of_message_lem : (i : Incoming) (b : Header) → OfMessage i b → incoming_takes i b ≡ true
unfolding continues_here
of_message_lem i b (goes_on_lem a e k) = rw e ((continues_exactly _ _ a b).1 k)

pub message_says : (i : Incoming) (b : Header) → incoming_takes i b ≡ true ↔ OfMessage i b
message_says i b = (takes_message i.stage i b refl, of_message_lem i b)

pub begins : (b : Header) → begins_primary b ≡ true ↔ Begins b
begins b = (
  λ t. let w = (primary_exactly b).0 t in record { odd = w.0; starts = w.1 },
  λ g. (primary_exactly b).1 (g.odd, g.starts),
)

-- ---- rule 5

pub long : (have size : ℕ) → too_long have size ≡ true ↔ (message_limit < have + size)
unfolding too_long
long have size = (λ t. ltb-true _ _ t, λ l. lt-ltb _ _ l)

-- ---- rule 6

pub is_free : (s : IncomingStage) → free_at s ≡ true ↔ (s ≡ incoming.Free)
is_free incoming.Free = (λ t. refl, λ e. refl)
is_free (incoming.Open a) = (λ t. absurd (false≢true t), λ e. ap free_at e)
is_free (incoming.Complete n) = (λ t. absurd (false≢true t), λ e. ap free_at e)
is_free (incoming.Replying n) = (λ t. absurd (false≢true t), λ e. ap free_at e)
is_free (incoming.Replied n f) = (λ t. absurd (false≢true t), λ e. ap free_at e)

-- ---- the places of an exchange

module _ (x : Exchange) (four : Fours x) (b : Header) where
  pub reply_here : found (reply_for x.own b) ≡ true ↔ ReplyHere x b
  reply_here = somewhere _ _ _ (reply_lowest x.own b four.own) (λ p. reply_says _ b)

  pub lowest_reply : (p : ℕ) → (reply_for x.own b ≡ Some p) ↔ LowestAt (λ q. OfReply (own_place x q) b) p
  lowest_reply p = lowest _ _ _ (reply_lowest x.own b four.own) (λ q. reply_says _ b) p

  pub no_reply : (ReplyHere x b → ⊥) → reply_for x.own b ≡ None
  no_reply = nowhere _ _ _ (reply_lowest x.own b four.own) (λ p. reply_says _ b)

  pub message_here : found (message_for x.incoming b) ≡ true ↔ MessageHere x b
  message_here = somewhere _ _ _ (message_lowest x.incoming b four.incoming) (λ p. message_says _ b)

  pub lowest_message : (p : ℕ) → LowestAt (λ q. OfMessage (incoming_place x q) b) p → message_for x.incoming b ≡ Some p
  lowest_message p = (lowest _ _ _ (message_lowest x.incoming b four.incoming) (λ q. message_says _ b) p).1

  pub no_message : (MessageHere x b → ⊥) → message_for x.incoming b ≡ None
  no_message = nowhere _ _ _ (message_lowest x.incoming b four.incoming) (λ p. message_says _ b)

  pub alike_here : found (open_alike x.incoming b) ≡ true ↔ AlikeHere x b
  alike_here = somewhere _ _ _ (open_alike_lowest x.incoming b four.incoming) (λ p. Iff.rfl)

  pub lowest_alike : (p : ℕ) → LowestAt (AlikeAt x b) p → open_alike x.incoming b ≡ Some p
  lowest_alike p = (lowest _ _ _ (open_alike_lowest x.incoming b four.incoming) (λ q. Iff.rfl) p).1

  pub no_alike : (AlikeHere x b → ⊥) → open_alike x.incoming b ≡ None
  no_alike = nowhere _ _ _ (open_alike_lowest x.incoming b four.incoming) (λ p. Iff.rfl)

  pub free_here : found (free_incoming x.incoming) ≡ true ↔ FreeHere x
  free_here = somewhere _ _ _ (free_incoming_lowest x.incoming four.incoming) (λ p. is_free _)

  pub lowest_free : (p : ℕ) → LowestAt (FreeAt x) p → free_incoming x.incoming ≡ Some p
  lowest_free p = (lowest _ _ _ (free_incoming_lowest x.incoming four.incoming) (λ q. is_free _) p).1

  pub expected : found (reply_for x.own b) || (found (message_for x.incoming b) || begins_primary b) ≡ true ↔ Expected x b
  expected = either_of _ _ _ _ reply_here (either_of _ _ _ _ message_here (begins b))

  -- one of the four is open with these system bytes, or free
  pub takes_one : found (open_alike x.incoming b) || found (free_incoming x.incoming) ≡ true ↔ (AlikeHere x b ⊎ FreeHere x)
  takes_one = either_of _ _ _ _ alike_here free_here

  pub has_place_lem :
      found (reply_for x.own b) || (found (message_for x.incoming b) || (found (open_alike x.incoming b) || found (free_incoming x.incoming))) ≡ true
      ↔ HasPlace x b
  has_place_lem = either_of _ _ _ _ reply_here (either_of _ _ _ _ message_here takes_one)
