-- What a block does to the place of its message, by rules 4, 5 and 7 (`specs/Rules.antt`). Assumes nothing.
use Rattle.std.specs.Prelude.{Option, Some, None}
use Prim.Native.Nat.{ℕ, zero, suc}
use mathlib.Core.Path.{◌≡◌, refl, sym, ap, subst, ◌∙◌}
use mathlib.Core.Bool.{Bool, true, false, cond}
use mathlib.Core.List.{List}
use mathlib.Core.Logic.{◌⊎◌, inl, inr, ⊎_elim}
use native.Mathlib.Omega.{arith}
use lib.ListN.{length}
use Rattle.wire.proofs.Choice.{chosen}
use Rattle.header.specs.Header.{header_of}
use Rattle.header.specs.declared.header.Header.{Header}
use Rattle.settings.specs.declared.terms.Terms.{Terms}
use Rattle.place.specs.Fate.{begins_primary, fate_of}
use Rattle.place.specs.Own.{stage_at, ended, standing_at, given_by, own_has_verdict, own_kept, own_takes, replied_by, replied, own_offered}
use Rattle.place.specs.Incoming.{incoming_length, incoming_takes, kept_by, goes_on, incoming_offered}
use Rattle.place.proofs.Messages.{by_fate}
use Rattle.place.specs.declared.Fate.TheVariants as fate
use Rattle.place.specs.declared.OwnStage.{OwnStage}
use Rattle.place.specs.declared.Own.{Own}
use Rattle.place.specs.declared.Incoming.{Incoming}
use Rattle.table.specs.Number.{number_of}
use Rattle.table.specs.Own.{reply_for}
use Rattle.table.specs.Incoming.{message_for}
use Rattle.exchange.specs.Flags.{no_marks, mark_at, no_flags, verdict_flag, incoming_flags}
use Rattle.exchange.specs.Exchange.{own_place, incoming_place, got_verdict, latest_after, put_own, put_incoming, with_sending, sent_behind, put_replied, saved_now}
use Rattle.exchange.specs.Judge.{Judging, judging, thrown, replied_as, reply_block, continued_as, message_block, primary_block, or_primary, of_message, no_reply_block, of_reply, new_block, rules_of}
use Rattle.exchange.specs.Rules.{out, acked, OfReply, first, further, reply_bytes, message_bytes, bytes_before, BytesBefore, Comes, only_saved, Untouched, own_behind, Spoils, ReplyGoes, ReplyBlock, MessageGoes, MessageBlock, NoPlaceTaken}
use Rattle.exchange.specs.declared.Note.{Note}
use Rattle.exchange.specs.declared.Note.TheVariants.{Kept}
use Rattle.exchange.specs.declared.Flags.{Flags}
use Rattle.exchange.specs.declared.Sending.{Sending}
use Rattle.exchange.specs.declared.Exchange.{Exchange}
use Rattle.exchange.proofs.Judging as test
use Rattle.exchange.proofs.Leaving.{passes, replied_there, whole, comes_whole}
use Rattle.exchange.proofs.Outcomes.{fate_kept}

-- ---- what is kept before a block

pub bytes_before_lem : BytesBefore
bytes_before_lem x b four = record {
  reply = λ p w. ap (λ (f : Option ℕ). reply_bytes f x.own x.incoming b) ((test.lowest_reply x four b p).1 w);
  message = λ none p w.
      ap (λ (f : Option ℕ). reply_bytes f x.own x.incoming b) (test.no_reply x four b none)
      ∙ ap (λ (f : Option ℕ). message_bytes f x.incoming) (test.lowest_message x four b p w);
  none = λ none no_message.
      ap (λ (f : Option ℕ). reply_bytes f x.own x.incoming b) (test.no_reply x four b none)
      ∙ ap (λ (f : Option ℕ). message_bytes f x.incoming) (test.no_message x four b no_message);
}

-- ---- flags

-- a place that is not marked
pub no_mark : (p : ℕ) → mark_at p false ≡ no_marks
no_mark zero = refl
no_mark (suc zero) = refl
no_mark (suc (suc zero)) = refl
no_mark (suc (suc (suc zero))) = refl
no_mark (suc (suc (suc (suc p)))) = refl

pub no_verdict_flag : (p : ℕ) → verdict_flag p false ≡ no_flags
no_verdict_flag p = λ k. record { verdicts = no_mark p k; completed = no_marks; dropped = no_marks }

pub no_incoming_flag : (p : ℕ) → incoming_flags p false false ≡ no_flags
no_incoming_flag p = λ k. record { verdicts = no_marks; completed = no_mark p k; dropped = no_mark p k }

-- what judging comes to, with its flags told otherwise
raises : (j : Judging) (y : Exchange) (raised told : Flags) (left : List ℕ) → raised ≡ told → Comes j y raised left → Comes j y told left
raises j y raised told left e w = subst (λ (f : Flags). Comes j y f left) e w

-- the fate of a block that spoils its message
spoils : (b : Header) (have : ℕ) (d : List ℕ) → Spoils b have d → (fate_of b have (length d) ≡ fate.Empty) ⊎ (fate_of b have (length d) ≡ fate.TooLong)
spoils b have d s =
    by_fate b have (length d) (λ f. (f ≡ fate.Empty) ⊎ (f ≡ fate.TooLong)) (λ l. inl refl) (λ has long. inr refl)
    (λ has e fits. absurd (⊎_elim has (λ long. omega arith) s)) (λ has e fits some. absurd (⊎_elim has (λ long. omega arith) s))

-- what is chosen where the test holds
held : {A : Type 0} (t : Bool) (a b : A) → t ≡ true → cond t a b ≡ a
held t a b e = rw e

-- ---- the reply in an own place

-- it has no verdict yet
undecided : (o : Own) (b : Header) → OfReply o b → own_has_verdict o ≡ false
undecided o b (first (out e) s even n) = rw e
undecided o b (first (acked timer e) s even n) = rw e
undecided o b (further a e k) = rw e

-- it gets a verdict with the stage that has one
now_given : (o q : Own) → own_has_verdict o ≡ false → got_verdict o q ≡ own_has_verdict q
unfolding got_verdict
now_given o q v = rw v

-- its number is the latest with its verdict, and this is told
behind :
    (x : Exchange) (h left : List ℕ) (p : ℕ) (s : OwnStage) (n : Note) → own_has_verdict (own_place x p) ≡ false
    → Comes
    (judging (record { exchange = put_replied (saved_now x h) p (stage_at (own_place x p) s); note = n; flags = verdict_flag p (got_verdict (own_place x p) (stage_at (own_place x p) s)) }) left)
    (own_behind x h p s (cond (given_by (standing_at s)) (number_of (own_place x p)) x.numbers.latest)) (verdict_flag p (given_by (standing_at s))) left
unfolding put_replied with_sending put_own sent_behind saved_now latest_after number_of
behind x h left p s n v =
    let got = now_given (own_place x p) (stage_at (own_place x p) s) v in
    record {
      own = refl;
      incoming = refl;
      saved = refl;
      latest = ap (λ (g : Bool). cond g (number_of (own_place x p)) x.numbers.latest) got;
      flags = ap (verdict_flag p) got;
      bytes = refl;
    }

reply_goes :
    (x : Exchange) (h d room : List ℕ) (p : ℕ) → own_has_verdict (own_place x p) ≡ false
    → ReplyGoes x h d room p (own_kept (own_place x p)).length
    (replied_as (saved_now x h) p (own_place x p) (replied_by (own_place x p) (header_of h) (fate_of (header_of h) (own_kept (own_place x p)).length (length d)))
    (fate_of (header_of h) (own_kept (own_place x p)).length (length d)) d room)
unfolding ended
reply_goes x h d room p v =
    let b = header_of h in
    let have = (own_kept (own_place x p)).length in
    record {
      broken = λ s. ⊎_elim (λ f. rw f (behind x h room p _ _ v)) (λ f. rw f (behind x h room p _ _ v)) (spoils b have d s);
      complete = λ w e. rw (fate_kept b have (length d) w.has_data w.fits, e) (behind x h _ p _ _ v);
      more = λ w e.
          rw (fate_kept b have (length d) w.has_data w.fits, e)
          (raises _ _ _ _ _ (no_verdict_flag p) (behind x h _ p _ Kept v));
    }

-- what is reported of it is nothing to them
reply_whole :
    (c : Terms) (before : Sending) (x : Exchange) (h d room : List ℕ) (p have : ℕ) (j : Judging)
    → ReplyGoes x h d room p have j → ReplyGoes x h d room p have (whole c before h j)
reply_whole c before x h d room p have j w = record {
  broken = λ s. comes_whole c before h j _ _ _ (w.broken s);
  complete = λ f e. comes_whole c before h j _ _ _ (w.complete f e);
  more = λ f e. comes_whole c before h j _ _ _ (w.more f e);
}

pub reply_block_lem : ReplyBlock
unfolding reply_block own_offered replied saved_now
reply_block_lem c x h d room four new p w =
    reply_whole c x.sending x h d room p _ _
    (subst (ReplyGoes x h d room p (bytes_before x b)) (sym judges)
    (subst (λ (n : ℕ). ReplyGoes x h d room p n (replied_as (saved_now x h) p o (replied_by o b (fate_of b have (length d))) (fate_of b have (length d)) d room)) (sym before)
    (reply_goes x h d room p (undecided o b w.so))))
  where
    b : Header
    b = header_of h

    o : Own
    o = own_place x p

    have : ℕ
    have = (own_kept o).length

    before : bytes_before x b ≡ have
    before = (bytes_before_lem x b four).reply p w

    judges : rules_of c x h d room ≡ replied_as (saved_now x h) p o (replied_by o b (fate_of b have (length d))) (fate_of b have (length d)) d room
    judges =
        replied_there c x h d room four new p w
        ∙ ap (λ (q : Own). replied_as (saved_now x h) p o q (fate_of b have (length d)) d room) (held (own_takes o b) _ o ((test.reply_says o b).1 w.so))

-- ---- the message in an incoming place

message_goes :
    (x : Exchange) (h d room : List ℕ) (p : ℕ)
    → MessageGoes x h d room p (incoming_length (incoming_place x p))
    (continued_as (saved_now x h) p (incoming_place x p)
    (kept_by (incoming_place x p) (header_of h) (fate_of (header_of h) (incoming_length (incoming_place x p)) (length d)))
    (fate_of (header_of h) (incoming_length (incoming_place x p)) (length d)) d room)
unfolding put_incoming saved_now
message_goes x h d room p =
    let b = header_of h in
    let have = incoming_length (incoming_place x p) in
    record {
      broken = λ s. ⊎_elim (λ f. rw f (record { own = refl; incoming = refl; saved = refl; latest = refl; flags = refl; bytes = refl })) (λ f. rw f (record { own = refl; incoming = refl; saved = refl; latest = refl; flags = refl; bytes = refl })) (spoils b have d s);
      complete = λ w e. rw (fate_kept b have (length d) w.has_data w.fits, e) (record { own = refl; incoming = refl; saved = refl; latest = refl; flags = refl; bytes = refl });
      more = λ w e. rw (fate_kept b have (length d) w.has_data w.fits, e) (record { own = refl; incoming = refl; saved = refl; latest = refl; flags = no_incoming_flag p; bytes = refl });
    }

-- what is reported of it is nothing to them
message_whole :
    (c : Terms) (before : Sending) (x : Exchange) (h d room : List ℕ) (p have : ℕ) (j : Judging)
    → MessageGoes x h d room p have j → MessageGoes x h d room p have (whole c before h j)
message_whole c before x h d room p have j w = record {
  broken = λ s. comes_whole c before h j _ _ _ (w.broken s);
  complete = λ f e. comes_whole c before h j _ _ _ (w.complete f e);
  more = λ f e. comes_whole c before h j _ _ _ (w.more f e);
}

pub message_block_lem : MessageBlock
unfolding new_block no_reply_block message_block incoming_offered goes_on saved_now
message_block_lem c x h d room four new none p w =
    message_whole c x.sending x h d room p _ _
    (subst (MessageGoes x h d room p (bytes_before x b)) (sym judges)
    (subst (λ (n : ℕ). MessageGoes x h d room p n (continued_as (saved_now x h) p i (kept_by i b (fate_of b have (length d))) (fate_of b have (length d)) d room)) (sym before)
    (message_goes x h d room p)))
  where
    b : Header
    b = header_of h

    i : Incoming
    i = incoming_place x p

    have : ℕ
    have = incoming_length i

    no_reply : reply_for x.own b ≡ None
    no_reply = test.no_reply x four b none

    found : message_for x.incoming b ≡ Some p
    found = test.lowest_message x four b p w

    before : bytes_before x b ≡ have
    before = (bytes_before_lem x b four).message none p w

    judges : rules_of c x h d room ≡ continued_as (saved_now x h) p i (kept_by i b (fate_of b have (length d))) (fate_of b have (length d)) d room
    judges =
        passes c x h d room new
        ∙ ap (λ (f : Option ℕ). of_reply f (saved_now x h) (header_of h) d room) no_reply
        ∙ ap (λ (f : Option ℕ). of_message f (saved_now x h) (header_of h) d room) found
        ∙ ap (λ (q : Incoming). continued_as (saved_now x h) p i q (fate_of b have (length d)) d room) (held (incoming_takes i b) _ i ((test.message_says i b).1 w.so))

-- ---- a primary that is not open

pub no_place_taken : NoPlaceTaken
unfolding new_block no_reply_block or_primary primary_block thrown saved_now
no_place_taken c x h d room four new none no_message s =
    comes_whole c x.sending h (rules_of c x h d room) (only_saved x h) no_flags room
    (subst (Untouched (only_saved x h) room) (sym judges)
    (chosen (Untouched (only_saved x h) room) (begins_primary (header_of h)) (primary_block (saved_now x h) (header_of h) d room) _
    (λ e.
    ⊎_elim (λ f. rw f (record { own = refl; incoming = refl; saved = refl; latest = refl; flags = refl; bytes = refl })) (λ f. rw f (record { own = refl; incoming = refl; saved = refl; latest = refl; flags = refl; bytes = refl })) (spoils (header_of h) 0 d s))
    (λ e. record { own = refl; incoming = refl; saved = refl; latest = refl; flags = refl; bytes = refl })))
  where
    judges : rules_of c x h d room ≡ or_primary (saved_now x h) (header_of h) d room
    judges =
        passes c x h d room new
        ∙ ap (λ (f : Option ℕ). of_reply f (saved_now x h) (header_of h) d room) (test.no_reply x four (header_of h) none)
        ∙ ap (λ (f : Option ℕ). of_message f (saved_now x h) (header_of h) d room) (test.no_message x four (header_of h) no_message)
