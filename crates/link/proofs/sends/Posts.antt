-- The message that the onlooker at the door keeps is the one that the onlooker of the transactions keeps (exchange/specs/Posting.antt).
-- Assumes nothing.
use Rattle.std.specs.Prelude.{Ok}
use Prim.Native.Nat.{ℕ}
use mathlib.Core.Path.{◌≡◌, refl, sym, ap, ◌∙◌, subst}
use mathlib.Core.Bool.{true, false≢true}
use mathlib.Core.List.{List, [], ◌∷◌}
use mathlib.Core.Logic.{◌≢◌}
use Rattle.settings.specs.declared.terms.Terms.{Terms}
use Rattle.line.specs.Line.{Heard, busy}
use Rattle.line.specs.History as line
use Rattle.line.specs.Theorems.{Turns, BusySteps}
use Rattle.line.proofs.Busy.{busy_turns}
use Rattle.exchange.specs.Reading.{own_reading, incoming_reading}
use Rattle.exchange.specs.Request.{Request}
use Rattle.exchange.specs.Send.{put_out_of}
use Rattle.exchange.specs.Posting.{Post, post_asked, post_reported, post_sees}
use Rattle.exchange.specs.Watching.{watch}
use Rattle.exchange.specs.History as exchange
use Rattle.exchange.specs.declared.Exchange.{Exchange}
use Rattle.exchange.proofs.Another.{late_other, call_numbered}
use Rattle.exchange.proofs.BeingSent.{request_sends, sending_ends}
use Rattle.exchange.proofs.Numbering.{call_moves}
use Rattle.exchange.proofs.Posting.{same_post, asked_post, post_late}
use Rattle.exchange.proofs.Runs.{four_places, sound_on}
use Rattle.link.specs.Run.{Left}
use Rattle.link.specs.Reading.{own_of, incoming_of, sending_of}
use Rattle.link.specs.History.{Call, byte, tick, drained, request, called, Room, Made, step_in, unless_refused, Track, line_track, exchange_track, limits_in, terms_in, answered, on_exchange_in, next}
use Rattle.link.specs.Inside.{Reached}
use Rattle.link.specs.Verdicts.{Among, here, Tells}
use Rattle.link.specs.Moves.{on_the_line}
use Rattle.link.specs.Device as device
use Rattle.link.specs.Device.{Few}
use Rattle.link.specs.Sends.{post_by, message_after}
use Rattle.link.specs.declared.Outcome.TheVariants as outcome
use Rattle.link.proofs.Cases.{by_request, answering}
use Rattle.link.proofs.inside.Reached.{line_inside}
use Rattle.link.proofs.inside.Places.{lent, goes, sound_inside, numbered_inside}
use Rattle.link.proofs.inside.Courier.{clash, over_sends}
use Rattle.link.proofs.inside.Agrees.{agrees}
use Rattle.link.proofs.device.Told.{told_exactly, few_told}
use Rattle.exchange.specs.Asked.{Asked}

-- ---- what the line tells to be over was being sent

pub over_sending : (t : Track) → Reached t → (k : Call) → line.is_over (step_in t.link k).step.told ≡ true → sending_of t.link ≡ true
over_sending t w k = by k
  where
    turns : BusySteps (limits_in t) t.link.line
    turns = busy_turns (limits_in t) (line_track t) (line_inside t w)

    step : (h : Heard) → Turns h.step.told (busy t.link.line) (busy h.step.line) → line.is_over h.step.told ≡ true → sending_of t.link ≡ true
    step h z e = (agrees t w).same ∙ over_sends h.step.told (busy t.link.line) (busy h.step.line) z e

    by : (k : Call) → line.is_over (step_in t.link k).step.told ≡ true → sending_of t.link ≡ true
    by (byte b fits) = step (step_in t.link (byte b fits)) (turns.byte b t.link.received).turns
    by tick = step (step_in t.link tick) turns.tick.turns
    by drained = clash
    by (request r) = clash

pub failed_sending : (t : Track) → Reached t → (m : Made) → Tells t m exchange.failed → sending_of t.link ≡ true
failed_sending t w m a = over_sending t w m.call (ap line.is_over ((told_exactly t m).failed.0 a).told)

-- ---- one call

module _ (t : Track) (s : Post) (m : Made) where
  abbrev c : Terms
  c = terms_in t

  abbrev x : Exchange
  x = t.link.exchange

  abbrev room : List ℕ
  room = lent t m

  -- the transactions, and what their onlooker has seen, after these calls
  abbrev after : List exchange.Call → Exchange
  after ks = (exchange.track c (exchange_track t room) ks).exchange

  abbrev pub seen : List exchange.Call → Post
  seen ks = watch c (post_sees c) (exchange_track t room) s ks

  -- what else is told posts a report, if one starts
  module _ (w : Reached t) where
    few_seen :
        (ks : List exchange.Call) → Few ks → ((r : Request) → Among (exchange.request r) ks → ⊥) → (Among exchange.failed ks → sending_of t.link ≡ true)
        → seen ks ≡ post_reported c x (after ks) s
    unfolding watch exchange.track
    few_seen _ device.none n f = sym (same_post c x x s refl)
    few_seen _ (device.one (exchange.block h d)) n f = refl
    few_seen _ (device.one exchange.tick) n f = refl
    few_seen _ (device.one exchange.put_out) n f = sym (same_post c x (put_out_of x) s (sending_ends c x).put_out)
    few_seen _ (device.one exchange.acknowledged) n f = refl
    few_seen _ (device.one exchange.failed) n f = refl
    few_seen _ (device.one (exchange.request r)) n f = absurd (n r here)
    few_seen _ device.lost_on_tick_lem n f =
        let y = (exchange.called c x room exchange.failed).exchange in
        let g = sound_inside t w in
        let numbered = numbered_inside t w in
        let other : (exchange.called c y room exchange.tick).exchange.sending ≢ x.sending = late_other c x room g numbered (f here) in
        post_late c x y (exchange.called c y room exchange.tick).exchange s (call_numbered c x room (four_places x g) numbered exchange.failed)
        (sending_ends c y).ticked (call_moves c y room (four_places y (sound_on c x room exchange.failed g)) exchange.tick) (λ e. other (sym e))

    -- a byte, a tick, drained
    on_line : on_the_line m.call ≡ true → seen (on_exchange_in t m) ≡ post_reported c x (next t m).link.exchange s
    on_line l =
        few_seen (on_exchange_in t m) (few_told t m) (λ r a. false≢true (sym (ap on_the_line (((told_exactly t m).asks r).0 a).1) ∙ l)) (failed_sending t w m)
        ∙ ap (λ (y : Exchange). post_reported c x y s) (goes t m)

  -- a request, refused or not
  module _ (r : Request) where
    abbrev Asks : Left → Type 0
    Asks l =
        let ks = unless_refused l.answer.outcome (exchange.request r ∷ []) in
        seen ks ≡ post_by c (incoming_reading x) (own_reading (after ks)) r l.answer.outcome s

    none : seen [] ≡ s
    unfolding watch
    none = refl

    taken : (p : ℕ) → (answering t.link r room).answer.asked ≡ Ok p
        → seen (exchange.request r ∷ []) ≡ post_by c (incoming_reading x) (own_reading (after (exchange.request r ∷ []))) r (outcome.Taken p) s
    unfolding watch exchange.track
    taken p e = ap (λ (a : Asked). post_asked c (incoming_reading x) (own_reading (answering t.link r room).answer.exchange) r a s) e

    asks : Asks (called t.link room m.out (request r))
    asks = by_request t.link r room m.out Asks (λ n e. none) (λ p e l. taken p e) (λ p e l. taken p e) (λ n. none)

    -- it starts no report
    starts_none : (q : Post) → post_reported c x (called t.link room m.out (request r)).answer.link.exchange q ≡ q
    starts_none q =
        let a = (answering t.link r room).answer in
        let none' : post_reported c x a.exchange q ≡ q = asked_post c x a.exchange q r a.asked (request_sends c x r room).becomes in
        by_request t.link r room m.out (λ (l : Left). post_reported c x l.answer.link.exchange q ≡ q) (λ n e. same_post c x x q refl)
        (λ p e l. none') (λ p e l. none') (λ n. same_post c x x q refl)

pub message_goes : (t : Track) → Reached t → (s : Post) (k : Call) (r : Room) (o : List ℕ)
    → (let m : Made = record { call = k; room = r; out = o } in
    seen t s m (on_exchange_in t m)
    ≡ post_reported (terms_in t) t.link.exchange (next t m).link.exchange
    (message_after (terms_in t) (incoming_of t.link) (own_of (next t m).link) k (answered t m).answer.outcome s))
message_goes t w s (byte b fits) r o = on_line t s (record { call = byte b fits; room = r; out = o }) w refl
message_goes t w s tick r o = on_line t s (record { call = tick; room = r; out = o }) w refl
message_goes t w s drained r o = on_line t s (record { call = drained; room = r; out = o }) w refl
message_goes t w s (request q) r o =
    let m : Made = record { call = request q; room = r; out = o } in
    subst (λ (y : Exchange). seen t s m (on_exchange_in t m) ≡ post_by (terms_in t) (incoming_of t.link) (own_reading y) q (answered t m).answer.outcome s) (goes t m)
    (asks t s m q)
    ∙ sym (starts_none t s m q _)
