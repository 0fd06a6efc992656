-- What judging leaves, and the place of a new primary (`specs/Rules.antt`). Assumes nothing.
use Rattle.std.specs.Prelude.{Option, Some}
use Prim.Native.Nat.{ℕ, ◌≤◌}
use mathlib.Core.Path.{◌≡◌, refl, sym, ap, ◌∙◌}
use mathlib.Core.Bool.{Bool, true, false, cond, not, ◌||◌, false≢true}
use mathlib.Core.List.{List}
use mathlib.Core.Logic.{◌↔◌, ◌⊎◌, inl, inr, ⊎_elim, ◌≢◌}
use native.Mathlib.Nat.{zero-add}
use native.Mathlib.Omega.{arith}
use lib.ListN.{length}
use Rattle.wire.specs.Message.{message_limit}
use Rattle.header.specs.Header.{header_of}
use Rattle.header.specs.declared.header.Header.{Header}
use Rattle.settings.specs.declared.terms.Terms.{Terms}
use Rattle.room.specs.Room.{kept_in}
use Rattle.room.specs.declared.Message.{Message}
use Rattle.room.specs.declared.Message.TheVariants as message
use Rattle.place.specs.Message.{LacksData}
use Rattle.place.specs.Fate.{fate_of}
use Rattle.place.specs.Own.{own_kept}
use Rattle.place.specs.Incoming.{incoming_length, free_at, open_at, begun_by, begins, begun_at}
use Rattle.place.proofs.Messages.{by_fate}
use Rattle.place.specs.declared.Fate.{Fate}
use Rattle.place.specs.declared.Fate.TheVariants as fate
use Rattle.place.specs.declared.IncomingStage.{IncomingStage}
use Rattle.place.specs.declared.IncomingStage.TheVariants as incoming
use Rattle.place.specs.declared.Incoming.{Incoming}
use Rattle.table.specs.Incoming.{free_incoming, open_alike}
use Rattle.exchange.specs.Note.{note_by, note_number}
use Rattle.exchange.specs.Flags.{incoming_flags}
use Rattle.exchange.specs.Reports.{outbox_of, with_outbox, freed, freed_in, is_over}
use Rattle.exchange.specs.Exchange.{own_place, incoming_place, put_own, put_incoming, with_sending, sent_behind, put_replied, saved_now}
use Rattle.exchange.specs.Judge.{Judging, judging, thrown, is_misrouted, is_duplicate, keep_by, reply_block, message_block, begins_at, in_free, in_place, takes_place, primary_by, primary_block, or_primary, of_message, no_reply_block, of_reply, new_block, reporting, rules_of, judge_of, box_behind}
use Rattle.exchange.specs.Rules.{Fours, LowestAt, New, OfReply, AlikeHere, FreeHere, noted, Comes, OfReplyToSent, Leaves, JudgeLeaves, NewPrimary, incoming_behind, begun_with, begun_in, PlaceTaken}
use Rattle.exchange.specs.declared.Note.{Note}
use Rattle.exchange.specs.declared.Note.TheVariants.{Kept, Misrouted, Duplicate, Stray, NoPlace, TooLong, Empty}
use Rattle.exchange.specs.declared.Flags.{Flags}
use Rattle.exchange.specs.declared.Outbox.{Outbox}
use Rattle.exchange.specs.declared.Sending.{Sending}
use Rattle.exchange.specs.declared.Sending.TheVariants.{Nothing}
use Rattle.exchange.specs.declared.Exchange.{Exchange}
use Rattle.exchange.proofs.Tests.{fails}
use Rattle.exchange.proofs.Unreported.{not_freed}
use Rattle.exchange.proofs.Finding.{found}
use Rattle.exchange.proofs.Cases.{Thrown, stray, no_place, too_long_lem, empty, by_behind, by_judge}
use Rattle.exchange.proofs.Judging as test
use Rattle.exchange.proofs.Notes.{place_note, takes_note}

-- ---- a block that is new

-- neither misrouted nor a duplicate
third : (r u : Bool) (j k m : Judging) → r ≡ true → u ≡ false → cond (not r) j (cond u k m) ≡ m
third r u j k m a b = rw (a, b)

-- a block that passed 1 and 2 is judged by the others
pub passes : (c : Terms) (x : Exchange) (h d room : List ℕ) → New c x h → rules_of c x h d room ≡ new_block (saved_now x h) (header_of h) d room
unfolding rules_of is_misrouted
passes c x h d room new =
    third (test.is_routed c (header_of h)) (is_duplicate c x h) _ _ _
    ((test.routed c (header_of h)).1 new.routed) (fails _ _ (test.duplicate c x h) new.no_duplicate)

-- one of the reply in own place p is judged there
pub replied_there : (c : Terms) (x : Exchange) (h d room : List ℕ) → Fours x → New c x h → (p : ℕ) → LowestAt (λ q. OfReply (own_place x q) (header_of h)) p
    → rules_of c x h d room ≡ reply_block (saved_now x h) p (header_of h) d room
unfolding new_block saved_now
replied_there c x h d room four new p w =
    passes c x h d room new ∙ ap (λ (f : Option ℕ). of_reply f (saved_now x h) (header_of h) d room) ((test.lowest_reply x four (header_of h) p).1 w)

-- ---- what is left

-- judging, with what is reported of it
abbrev pub whole : Terms → Sending → List ℕ → Judging → Judging
whole c before h j = judging (reporting c before h j.answer) j.room

-- a report touches no place, no saved header, no flag and no byte of the room
pub comes_whole :
    (c : Terms) (before : Sending) (h : List ℕ) (j : Judging) (y : Exchange) (raised : Flags) (left : List ℕ)
    → Comes j y raised left → Comes (whole c before h j) y raised left
comes_whole c before h j y raised left w = record {
  own = w.own;
  incoming = w.incoming;
  saved = w.saved;
  latest = w.latest;
  flags = w.flags;
  bytes = w.bytes;
}

leaves_whole : (c : Terms) (x : Exchange) (h room : List ℕ) (j : Judging) → Leaves c x h room j → Leaves c x h room (whole c x.sending h j)
leaves_whole c x h room j w = record {
  misrouted = λ e. comes_whole c x.sending h j _ _ _ (w.misrouted e);
  duplicate = λ e. comes_whole c x.sending h j _ _ _ (w.duplicate e);
  saves = w.saves;
  stray = λ e. comes_whole c x.sending h j _ _ _ (w.stray e);
  no_place = λ e. comes_whole c x.sending h j _ _ _ (w.no_place e);
  thrown_out = w.thrown_out;
}

-- a block that is kept or breaks its message has none of the notes between
no_rule : (f : Fate) (n : ℕ) → 22 ≤ n → n ≤ 25 → note_number (note_by f) ≡ n → ⊥
no_rule fate.Empty n a b e = omega arith
no_rule fate.TooLong n a b e = omega arith
no_rule (fate.Last m) n a b e = omega arith
no_rule (fate.More m) n a b e = omega arith

-- nor has one that is thrown out once its header is saved a note of rule 1 or 2
late : (n : Note) → Thrown n → 24 ≤ note_number n
late Kept t = elim t [ ]
late Misrouted t = elim t [ ]
late Duplicate t = elim t [ ]
late Stray stray = omega arith
late NoPlace no_place = omega arith
late TooLong too_long_lem = omega arith
late Empty empty = omega arith

-- no byte of a block that breaks its message is kept
not_kept : (f : Fate) (room : List ℕ) (m : Message) (have : ℕ) (d : List ℕ) → note_number (note_by f) ≢ 21 → keep_by f room m have d ≡ room
not_kept fate.Empty room m have d n = refl
not_kept fate.TooLong room m have d n = refl
not_kept (fate.Last k) room m have d n = absurd (n refl)
not_kept (fate.More k) room m have d n = absurd (n refl)

module _ (c : Terms) (x : Exchange) (h d room : List ℕ) where
  -- by a block of a message that has its place, or gets one
  by_block :
      (j : Judging) (f : Fate) (m : Message) (have : ℕ) → noted j ≡ note_number (note_by f)
      → j.answer.exchange.saved ≡ Some h → j.room ≡ keep_by f room m have d → Leaves c x h room j
  by_block j f m have note saved kept = record {
    misrouted = λ e. absurd (no_rule f 22 (omega arith) (omega arith) (sym note ∙ e));
    duplicate = λ e. absurd (no_rule f 23 (omega arith) (omega arith) (sym note ∙ e));
    saves = λ a b. saved;
    stray = λ e. absurd (no_rule f 24 (omega arith) (omega arith) (sym note ∙ e));
    no_place = λ e. absurd (no_rule f 25 (omega arith) (omega arith) (sym note ∙ e));
    thrown_out = λ n. kept ∙ not_kept f room m have d (λ e. n (note ∙ e));
  }

  by_misrouted : Leaves c x h room (thrown x Misrouted room)
  unfolding thrown
  by_misrouted = record {
    misrouted = λ e. record { own = refl; incoming = refl; saved = refl; latest = refl; flags = refl; bytes = refl };
    duplicate = λ e. absurd (omega arith);
    saves = λ a b. absurd (a refl);
    stray = λ e. absurd (omega arith);
    no_place = λ e. absurd (omega arith);
    thrown_out = λ n. refl;
  }

  by_duplicate : Leaves c x h room (thrown x Duplicate room)
  unfolding thrown
  by_duplicate = record {
    misrouted = λ e. absurd (omega arith);
    duplicate = λ e. record { own = refl; incoming = refl; saved = refl; latest = refl; flags = refl; bytes = refl };
    saves = λ a b. absurd (b refl);
    stray = λ e. absurd (omega arith);
    no_place = λ e. absurd (omega arith);
    thrown_out = λ n. refl;
  }

  by_thrown : (n : Note) → Thrown n → Leaves c x h room (thrown (saved_now x h) n room)
  unfolding thrown saved_now
  by_thrown n t = record {
    misrouted = λ e. let z : note_number n ≡ 22 = e in absurd (omega (arith, late n t));
    duplicate = λ e. let z : note_number n ≡ 23 = e in absurd (omega (arith, late n t));
    saves = λ a b. refl;
    stray = λ e. record { own = refl; incoming = refl; saved = refl; latest = refl; flags = refl; bytes = refl };
    no_place = λ e. record { own = refl; incoming = refl; saved = refl; latest = refl; flags = refl; bytes = refl };
    thrown_out = λ m. refl;
  }

  -- a block that is not of the reply to it leaves it
  pub goes_on_lem : Fours x → (OfReplyToSent c x h → ⊥) → (rules_of c x h d room).answer.exchange.sending ≡ x.sending
  unfolding thrown reply_block message_block begins_at put_replied put_incoming with_sending saved_now
  goes_on_lem four none =
      by_judge c x h d room (λ j. j.answer.exchange.sending ≡ x.sending) (λ q. refl) (λ q u. refl)
      (λ p q r.
      let of_it = (test.lowest_reply x four (header_of h) p).0 r in
      by_behind (λ z. z ≡ x.sending) x.sending p
      (λ e. absurd (none (record { new = test.is_new c x h q; place = p; of_it = of_it; sent = e }))) (λ e. refl))
      (λ p q r m. refl) (λ p gone f q r m o e s t. refl) (λ n t r m. refl)

  -- one of the reply to it ends it
  pub ends : Fours x → OfReplyToSent c x h → (rules_of c x h d room).answer.exchange.sending ≡ Nothing
  unfolding reply_block put_replied with_sending sent_behind saved_now
  ends four w = ap (λ (j : Judging). j.answer.exchange.sending) (replied_there c x h d room four w.new w.place w.of_it) ∙ rw w.sent

pub judge_leaves : JudgeLeaves
unfolding reply_block message_block begins_at put_own put_replied put_incoming with_sending saved_now
judge_leaves c x h d room =
    leaves_whole c x h room (rules_of c x h d room)
    (by_judge c x h d room (Leaves c x h room) (λ q. by_misrouted c x h d room) (λ q u. by_duplicate c x h d room)
    (λ p q r.
    by_block c x h d room _ (fate_of (header_of h) (own_kept (own_place x p)).length (length d)) (message.Reply p) (own_kept (own_place x p)).length
    refl refl refl)
    (λ p q r m.
    by_block c x h d room _ (fate_of (header_of h) (incoming_length (incoming_place x p)) (length d)) (message.Incoming p) (incoming_length (incoming_place x p))
    refl refl refl)
    (λ p gone f q r m o e s t. by_block c x h d room _ (fate.Last 0) (message.Incoming p) 0 refl refl refl)
    (λ n t r m. by_thrown c x h d room n t))

-- ---- the place of a new primary

-- it is judged by rule 6
by_rule_6 : (c : Terms) (x : Exchange) (h d room : List ℕ) → Fours x → NewPrimary c x h d → rules_of c x h d room ≡ takes_place (saved_now x h) (header_of h) (header_of h).e d room
unfolding new_block no_reply_block or_primary primary_block saved_now
by_rule_6 c x h d room four new =
    passes c x h d room new.new
    ∙ ap (λ (f : Option ℕ). of_reply f (saved_now x h) (header_of h) d room) (test.no_reply x four (header_of h) new.no_reply)
    ∙ ap (λ (f : Option ℕ). of_message f (saved_now x h) (header_of h) d room) (test.no_message x four (header_of h) new.no_message)
    ∙ ap (λ (t : Bool). cond t (primary_block (saved_now x h) (header_of h) d room) (thrown (saved_now x h) Stray room)) ((test.begins (header_of h)).1 new.begins)
    ∙ by_fate (header_of h) 0 (length d) (λ f. primary_by f (saved_now x h) (header_of h) d room ≡ takes_place (saved_now x h) (header_of h) (header_of h).e d room)
    (λ l. absurd (new.has_data l)) (λ a l. absurd (omega (arith, new.fits))) (λ a e l. rw e) (λ a e l s. rw e)

-- what the place is then
begun_by_lem : (i : Incoming) (h : Header) (n : ℕ) → (LacksData h n → ⊥) → n ≤ message_limit → begins i h n ≡ begun_with h n
unfolding begins
begun_by_lem i h n has fits =
    by_fate h 0 n (λ f. begun_by i h f ≡ begun_with h n)
    (λ l. absurd (has l)) (λ a l. absurd (omega arith)) (λ a e l. rw (e, zero-add n)) (λ a e l s. rw (e, zero-add n))

begun_there :
    (s : IncomingStage) (i : Incoming) (h : Header) (n : ℕ) → (open_at s || free_at s ≡ true)
    → (LacksData h n → ⊥) → n ≤ message_limit → begun_at s i h n ≡ begun_with h n
begun_there incoming.Free i h n t has fits = begun_by_lem i h n has fits
begun_there (incoming.Open a) i h n t has fits = begun_by_lem i h n has fits
begun_there (incoming.Complete m) i h n t has fits = absurd (false≢true t)
begun_there (incoming.Replying m) i h n t has fits = absurd (false≢true t)
begun_there (incoming.Replied m e) i h n t has fits = absurd (false≢true t)

-- all that is left
begins_there :
    (c : Terms) (x : Exchange) (h d room : List ℕ) (p : ℕ) (gone : Bool) → NewPrimary c x h d → (open_at (incoming_place x p).stage || free_at (incoming_place x p).stage ≡ true)
    → begins_at (saved_now x h) p (header_of h) gone (header_of h).e d room ≡ begun_in x p h gone d room
unfolding begins_at put_incoming saved_now
begins_there c x h d room p gone new t =
    ap (λ (i : Incoming). judging (record { exchange = incoming_behind x h p i; note = Kept; flags = incoming_flags p (header_of h).e gone }) (kept_in room (message.Incoming p) 0 d))
    (begun_there (incoming_place x p).stage (incoming_place x p) (header_of h) (length d) t new.has_data new.fits)

-- what is being sent goes on, and nothing is reported of it
begun_whole : (c : Terms) (x : Exchange) (h d room : List ℕ) (p : ℕ) (gone : Bool) (j : Judging) → j ≡ begun_in x p h gone d room → whole c x.sending h j ≡ begun_in x p h gone d room
unfolding box_behind freed kept_in freed_in is_over
begun_whole c x h d room p gone j e =
    let y = incoming_behind x h p (begun_with (header_of h) (length d)) in
    ap (whole c x.sending h) e
    ∙ ap (λ (b : Outbox). judging (record { exchange = with_outbox y b; note = Kept; flags = incoming_flags p (header_of h).e gone }) (kept_in room (message.Incoming p) 0 d))
    (not_freed y.own y.numbers.latest (outbox_of y))

-- note 25 where there is neither
neither : (t : Bool) (A B : Type 0) → (t ≡ true ↔ (A ⊎ B)) → (place_note t ≡ 25) ↔ ((A → ⊥) × (B → ⊥))
neither true A B w = (λ e. absurd (omega arith), λ n. absurd (⊎_elim n.0 n.1 (w.0 refl)))
neither false A B w = (λ e. (λ a. false≢true (w.1 (inl a)), λ b. false≢true (w.1 (inr b))), λ n. refl)

pub place_taken : PlaceTaken
unfolding takes_place saved_now
place_taken c x h d room four new = record {
  alike = λ p w.
      begun_whole c x h d room p true _
      (judges
      ∙ ap (λ (f : Option ℕ). in_place f (saved_now x h) (header_of h) (header_of h).e d room) (test.lowest_alike x four (header_of h) p w)
      ∙ begins_there c x h d room p true new (rw w.so.0));
  free = λ none p w.
      begun_whole c x h d room p false _
      (judges
      ∙ ap (λ (f : Option ℕ). in_place f (saved_now x h) (header_of h) (header_of h).e d room) (test.no_alike x four (header_of h) none)
      ∙ ap (λ (f : Option ℕ). in_free f (saved_now x h) (header_of h) (header_of h).e d room) (test.lowest_free x four (header_of h) p w)
      ∙ begins_there c x h d room p false new (rw w.so));
  all_in_use = (λ e. in_use_lem.0 (sym note ∙ e), λ w. note ∙ in_use_lem.1 w);
}
  where
    judges : rules_of c x h d room ≡ takes_place (saved_now x h) (header_of h) (header_of h).e d room
    judges = by_rule_6 c x h d room four new

    note : noted (judge_of c x h d room) ≡ place_note (found (open_alike x.incoming (header_of h)) || found (free_incoming x.incoming))
    note = ap noted judges ∙ takes_note (saved_now x h) (header_of h) d room (header_of h).e

    in_use_lem : (place_note (found (open_alike x.incoming (header_of h)) || found (free_incoming x.incoming)) ≡ 25) ↔ ((AlikeHere x (header_of h) → ⊥) × (FreeHere x → ⊥))
    in_use_lem = neither _ _ _ (test.takes_one x four (header_of h))
