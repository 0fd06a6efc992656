-- What an end is made of while messages are carried: a unit that calls left, its line idle, and what further calls leave of its
-- transactions. So its numbers are in their ranges. Assumes nothing.
use Prim.Native.Nat.{ℕ, zero, suc, ◌≤◌}
use mathlib.Core.Path.{◌≡◌, refl, sym, ap, subst, ◌∙◌}
use mathlib.Core.Bool.{Bool, true, false}
use mathlib.Core.List.{List, [], ◌∷◌}
use native.Mathlib.Omega.{arith}
use lib.ListN.{length}
use Rattle.cut.specs.Blocks.{most_blocks}
use Rattle.header.specs.Header.{header_of}
use Rattle.header.specs.declared.header.Header.{Header}
use Rattle.settings.specs.declared.terms.Terms.{Terms}
use Rattle.room.specs.declared.Message.{Message}
use Rattle.room.specs.declared.Message.TheVariants as message
use Rattle.room.proofs.Keeping.{keeps_only}
use Rattle.line.specs.Line.{fresh_line, busy}
use Rattle.line.specs.declared.phase.Phase.TheVariants.{Idle}
use Rattle.line.proofs.Always.{always as line_always}
use Rattle.place.specs.Fate.{fate_of}
use Rattle.place.specs.Own.{own_kept}
use Rattle.place.specs.Incoming.{incoming_length}
use Rattle.place.specs.declared.Fate.{Fate}
use Rattle.place.specs.declared.Fate.TheVariants as fate
use Rattle.exchange.specs.Exchange.{own_place, incoming_place, saved_now}
use Rattle.exchange.specs.Range.{exchange_in_range}
use Rattle.exchange.specs.Request.{is_sending}
use Rattle.exchange.specs.Judge.{keep_by, thrown, reply_block, message_block, begins_at, judge_of}
use Rattle.exchange.specs.Rules.{Fours}
use Rattle.exchange.specs.History.{Call, block, tick, put_out, called, Track, track}
use Rattle.exchange.specs.Theorems.{Reached}
use Rattle.exchange.specs.Assembly.{header_in, data_in, Receiver, passes, received}
use Rattle.exchange.proofs.Unreported.{idle as none_sent}
use Rattle.exchange.proofs.Cases.{by_judge}
use Rattle.exchange.proofs.AnyRoom.{track_alike}
use Rattle.exchange.proofs.Runs.{reached_more, four_places, sound_reached}
use Rattle.exchange.proofs.Inside.{exchange_reached_in_range}
use Rattle.exchange.specs.declared.Sending.TheVariants.{Nothing}
use Rattle.exchange.specs.declared.Exchange.{Exchange}
use Rattle.link.specs.Setup.{settings_in_range}
use Rattle.link.specs.Run.{putting_out}
use Rattle.link.specs.Refusals.{SetupFits, in_ticks}
use Rattle.link.specs.History as link
use Rattle.link.specs.Inside as inside
use Rattle.link.specs.declared.Settings.{Settings}
use Rattle.link.proofs.Cases.{by_put_out}
use Rattle.link.proofs.refusals.Start.{StartedAs, started_as, settings_sound}
use Rattle.link.proofs.inside.Reached.{settings_stay, line_inside}
use Rattle.link.proofs.inside.Places.{exchange_inside}
use Rattle.link.proofs.inside.Agrees.{agrees}
use Rattle.link.proofs.same_message.Calls.{unit, Sound}

-- ---- the transactions

-- these are what calls from a fresh start left, whatever rooms were lent to them
pub record Stands (c : Terms) (x : Exchange) : Type 0 where
  pub track : Track
  pub reached : Reached c track
  pub same : track.exchange ≡ x

module _ (c : Terms) where
  -- one call more
  pub stands_next : (x : Exchange) (room : List ℕ) (k : Call) → Stands c x → Stands c (called c x room k).exchange
  unfolding track
  stands_next x room k w =
      let there : Track = record { exchange = x; room = room; seen = w.track.seen } in
      record {
        track = track c w.track (k ∷ []);
        reached = reached_more c w.track w.reached (k ∷ []);
        same = (track_alike c w.track there (k ∷ []) w.same refl).0;
      }

  -- n ticks more
  pub stands_later : (x : Exchange) → Stands c x → (n : ℕ) → Stands c (passes c x n)
  unfolding passes
  stands_later x w zero = w
  stands_later x w (suc n) = stands_next (passes c x n) [] tick (stands_later x w n)

  -- the last block of the message being sent is put out, or another one
  pub stands_out : (more : Bool) (x : Exchange) → Stands c x → Stands c (putting_out more x)
  stands_out more x w = by_put_out (λ z y. Stands c y) more x (λ e. w) (λ e. stands_next x [] put_out w)

  pub stands_fours : (x : Exchange) → Stands c x → Fours x
  stands_fours x w = subst Fours w.same (four_places w.track.exchange (sound_reached c w.track w.reached))

-- ---- the room

kept_size : (f : Fate) (room : List ℕ) (m : Message) (have : ℕ) (d : List ℕ) → length (keep_by f room m have d) ≡ length room
kept_size fate.Empty room m have d = refl
kept_size fate.TooLong room m have d = refl
kept_size (fate.Last n) room m have d = (keeps_only room m have d).size
kept_size (fate.More n) room m have d = (keeps_only room m have d).size

-- judging leaves it as long as it was, whatever is reported
judged_size : (c : Terms) (x : Exchange) (h d room : List ℕ) → length (judge_of c x h d room).room ≡ length room
unfolding thrown saved_now reply_block message_block begins_at
judged_size c x h d room =
    let fate : ℕ → Fate = λ have. fate_of (header_of h) have (length d) in
    by_judge c x h d room (λ j. length j.room ≡ length room) (λ q. refl) (λ q u. refl)
    (λ p q r. let n : ℕ = (own_kept (own_place x p)).length in kept_size (fate n) room (message.Reply p) n d)
    (λ p q r m. let n : ℕ = incoming_length (incoming_place x p) in kept_size (fate n) room (message.Incoming p) n d)
    (λ p gone f q r m o k s t. (keeps_only room (message.Incoming p) 0 d).size) (λ n t r m. refl)

-- ---- what blocks of a message leave

module _ (c : Terms) (pauses : ℕ → ℕ) (r : Receiver) (h : Header) (d : List ℕ) where
  pub stands_received : Stands c r.exchange → (k : ℕ) → Stands c (received c pauses r h d k).exchange
  unfolding received
  stands_received w zero = w
  stands_received w (suc k) =
      let y : Receiver = received c pauses r h d k in
      stands_next c (passes c y.exchange (pauses (suc k))) y.room (block (header_in h d (suc k)) (data_in h d (suc k)))
      (stands_later c y.exchange (stands_received w k) (pauses (suc k)))

  pub received_size : (k : ℕ) → length (received c pauses r h d k).room ≡ length r.room
  unfolding received
  received_size zero = refl
  received_size (suc k) =
      let y : Receiver = received c pauses r h d k in
      judged_size c (passes c y.exchange (pauses (suc k))) (header_in h d (suc k)) (data_in h d (suc k)) y.room ∙ received_size k

-- ---- the unit

module _ (t : link.Track) (w : inside.Reached t) where
  set : StartedAs w.setup w.settings
  set = started_as w.setup w.settings w.started

  pub settings_fit : SetupFits w.setup
  settings_fit = set.fits

  -- the settings are those of the start
  pub settings_are : t.link.settings ≡ in_ticks w.setup
  settings_are = settings_stay t w ∙ set.in_ticks_lem

  pub stands : Stands (link.terms_in t) t.link.exchange
  stands = let e = exchange_inside t w in record { track = link.exchange_track t e.room; reached = e.reached; same = refl }

  pub array_fits : length t.link.received ≡ 256
  array_fits = (line_always (link.limits_in t) (link.line_track t) (line_inside t w)).room

  -- with such transactions
  pub sound : (x : Exchange) → Stands (link.terms_in t) x → (room : List ℕ) → length room ≡ 36864
      → (k : ℕ) → 1 ≤ k → k ≤ most_blocks → (n : ℕ) → Sound t.link.settings (passes (link.terms_in t) x n) k room
  sound x v room whole k least most n =
      let f = settings_fit in
      let e = settings_are in
      let T3 : (link.terms_in t).t3.0 ≤ 1200 = subst (λ (s : Settings). s.terms.t3.0 ≤ 1200) (sym e) (omega (arith, f.t3_most)) in
      let T4 : (link.terms_in t).t4.0 ≤ 1200 = subst (λ (s : Settings). s.terms.t4.0 ≤ 1200) (sym e) (omega (arith, f.t4_most)) in
      let u = stands_later (link.terms_in t) x v n in
      record {
        settings = subst (λ (s : Settings). settings_in_range s ≡ true) (sym e) (settings_sound w.setup f);
        exchange =
            subst (λ (y : Exchange). exchange_in_range y ≡ true) u.same (exchange_reached_in_range (link.terms_in t) T3 T4 u.track u.reached);
        least = least;
        most = most;
        whole = whole;
        t1 = subst (λ (s : Settings). s.limits.t1.0 ≤ 100) (sym e) f.t1_most;
        t2 = subst (λ (s : Settings). s.limits.t2.0 ≤ 250) (sym e) (omega (arith, f.t2_most));
      }

  -- its line is idle
  module _ (idle : t.link.line ≡ fresh_line) where
    not_sending : is_sending t.link.exchange ≡ false
    not_sending = (agrees t w).same ∙ ap busy idle

    pub sends_none : t.link.exchange.sending ≡ Nothing
    sends_none = none_sent t.link.exchange.sending not_sending

    pub idles : t.link ≡ unit t.link.settings Idle t.link.received t.link.exchange 1
    idles =
        let one = (agrees t w).idle not_sending in
        λ i. record { settings = t.link.settings; line = idle i; received = t.link.received; exchange = t.link.exchange; block = one i }
