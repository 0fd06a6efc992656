-- A message of the far end is complete exactly when its blocks are, shows what they say, and stays until it is released; and no
-- place that is reached is out of range. Assumes nothing.
use Prim.Native.Nat.{◌+◌, ◌≤◌}
use mathlib.Core.Path.{◌≡◌, refl, sym, ap, ◌∙◌}
use mathlib.Core.Bool.{Bool, true, false, false≢true}
use mathlib.Core.Logic.{◌↔◌, ⊎_elim}
use lib.ListN.{length}
use borrow.Author.Tests.{le-leb}
use Rattle.wire.specs.Message.{message_limit}
use Rattle.header.specs.declared.header.Header.{Header}
use Rattle.settings.specs.declared.terms.Terms.{Terms}
use Rattle.place.specs.Message.{Continues, Whole, first_of}
use Rattle.place.specs.Incoming.{primary_of, length_at, takes_at, incoming_offered, incoming_length}
use Rattle.place.specs.Range.{length_in_range, incoming_stage_in_range}
use Rattle.place.specs.IncomingHistory.{Event, begin, block, tick, answer, sent, failed, release, nothing, arriving, shows_at, shows, step, Seen, Track}
use Rattle.place.specs.IncomingTheorems.{is_complete, Breaks, IncomingTicked, ShowsExactly, CompleteExactly, TakesExactly, MessageShown, spares, StaysComplete, CompleteStays, IncomingReachedInRange}
use Rattle.place.specs.declared.IncomingStage.{IncomingStage}
use Rattle.place.specs.declared.IncomingStage.TheVariants.{Free, Open, Complete, Replying, Replied}
use Rattle.place.specs.declared.Incoming.{Incoming}
use Rattle.place.proofs.Arrivals.{not_whole, not_broken, arriving_in_range_lem}
use Rattle.place.proofs.IncomingInvariant.{NoneHere, At, goes_on_lem, always}

-- ---- a tick

pub incoming_ticked : IncomingTicked
incoming_ticked c i s = record { begun = refl; kept = refl; bytes = refl; spoilt = refl; quiet = refl }

-- ---- what a place shows, exactly when

-- a test that is true is not false
clash : {A : Type 0} {t : Bool} → t ≡ false → t ≡ true → A
clash f t = absurd (false≢true (sym f ∙ t))

-- an open message is not none
other : arriving ≡ nothing → ⊥
other e = false≢true cc

-- a place that shows a complete message
complete_so : (c : Terms) (t : Track) → is_complete (shows t.incoming) ≡ true → t.seen.begun ≡ true → Whole t.seen.kept → ShowsExactly c t
complete_so c t e b w =
    record {
      whole = (λ x. (b, w), λ x. e);
      open_yet = (λ x. clash (ap is_complete x) e, λ x. absurd (x.1 w));
      none = (λ x. clash (ap is_complete x) e, ⊎_elim (λ f. clash f b) (λ x. absurd (x.1 w)));
    }

-- one that shows an open message
arriving_so :
    (c : Terms) (t : Track) → shows t.incoming ≡ arriving → t.seen.begun ≡ true → (Whole t.seen.kept → ⊥) → (Breaks c t.seen → ⊥)
    → ShowsExactly c t
arriving_so c t e b w n =
    record {
      whole = (λ x. clash (ap is_complete e) x, λ x. absurd (w x.1));
      open_yet = (λ x. (b, w, n), λ x. e);
      none = (λ x. absurd (other (sym e ∙ x)), ⊎_elim (λ f. clash f b) (λ x. absurd (n x.2)));
    }

-- one that shows none
nothing_so : (c : Terms) (t : Track) → shows t.incoming ≡ nothing → NoneHere c t.seen → ShowsExactly c t
nothing_so c t e n =
    record {
      whole = (λ x. clash (ap is_complete e) x, λ x. ⊎_elim (λ f. clash f x.0) (λ w. absurd (w.1 x.1)) n);
      open_yet = (λ x. absurd (other (sym x ∙ e)), λ x. ⊎_elim (λ f. clash f x.0) (λ w. absurd (x.2 w.2)) n);
      none = (λ x. n, λ x. e);
    }

-- each stage shows one of the three
exactly : (c : Terms) (h : Header) (p : IncomingStage) (s : Seen) → At c p h s → ShowsExactly c (record { incoming = record { header = h; stage = p }; seen = s })
exactly c h Free s g = nothing_so c _ refl g
exactly c h (Open a) s g = arriving_so c _ refl g.begins.begun (not_whole g.arrives) (not_broken g.arrives)
exactly c h (Complete n) s g = complete_so c _ refl g.begins.begun g.whole
exactly c h (Replying n) s g = complete_so c _ refl g.begins.begun g.whole
exactly c h (Replied n e) s g = complete_so c _ refl g.begins.begun g.whole

pub complete_exactly : CompleteExactly
complete_exactly c t w = exactly c t.incoming.header t.incoming.stage t.seen (always c t w)

-- ---- which blocks are for it

-- only an open message takes blocks
taken : (c : Terms) (i : Incoming) (p : IncomingStage) (s : Seen) (h : Header) → At c p (primary_of i) s → (takes_at p i h ≡ true) ↔ ((shows_at p ≡ arriving) × Continues (first_of s.kept) (length s.kept + 1) h)
taken c i Free s h g = (clash refl, λ w. absurd (other (sym w.0)))
taken c i (Open a) s h g = let k = goes_on_lem c i s a h g in (λ e. (refl, k.0 e), λ w. k.1 w.1)
taken c i (Complete n) s h g = (clash refl, λ w. clash (ap is_complete w.0) refl)
taken c i (Replying n) s h g = (clash refl, λ w. clash (ap is_complete w.0) refl)
taken c i (Replied n e) s h g = (clash refl, λ w. clash (ap is_complete w.0) refl)

pub takes_exactly : TakesExactly
takes_exactly c t w h = taken c t.incoming t.incoming.stage t.seen h (always c t w)

-- ---- what it shows

-- at each stage but the free one
said : (c : Terms) (p : IncomingStage) (m : Header) (s : Seen) → At c p m s → (shows_at p ≡ nothing → ⊥) → (m ≡ first_of s.kept) × (length_at p ≡ s.bytes)
said c Free m s g n = absurd (n refl)
said c (Open a) m s g n = (g.begins.first, g.arrives.size)
said c (Complete k) m s g n = (g.begins.first, g.size)
said c (Replying k) m s g n = (g.begins.first, g.size)
said c (Replied k e) m s g n = (g.begins.first, g.size)

pub message_shown : MessageShown
message_shown c t w = said c t.incoming.stage _ t.seen (always c t w)

-- ---- a complete message stays

-- whatever comes, but a release
stays :
    (c : Terms) (h : Header) (p : IncomingStage) (e : Event c) → is_complete (shows_at p) ≡ true → spares e ≡ true
    → let i : Incoming = record { header = h; stage = p } in
    (is_complete (shows (step i e)) ≡ true) × ((step i e).header ≡ h) × (incoming_length (step i e) ≡ length_at p)
unfolding incoming_offered
stays c h Free e x y = absurd (false≢true x)
stays c h (Open a) e x y = absurd (false≢true x)
stays c h (Complete n) (begin h' size q b) x y = (refl, refl, refl)
stays c h (Complete n) (block b size q) x y = (refl, refl, refl)
stays c h (Complete n) tick x y = (refl, refl, refl)
stays c h (Complete n) answer x y = (refl, refl, refl)
stays c h (Complete n) sent x y = (refl, refl, refl)
stays c h (Complete n) failed x y = (refl, refl, refl)
stays c h (Complete n) release x y = absurd (false≢true y)
stays c h (Replying n) (begin h' size q b) x y = (refl, refl, refl)
stays c h (Replying n) (block b size q) x y = (refl, refl, refl)
stays c h (Replying n) tick x y = (refl, refl, refl)
stays c h (Replying n) answer x y = (refl, refl, refl)
stays c h (Replying n) sent x y = (refl, refl, refl)
stays c h (Replying n) failed x y = (refl, refl, refl)
stays c h (Replying n) release x y = absurd (false≢true y)
stays c h (Replied n f) (begin h' size q b) x y = (refl, refl, refl)
stays c h (Replied n f) (block b size q) x y = (refl, refl, refl)
stays c h (Replied n f) tick x y = (refl, refl, refl)
stays c h (Replied n f) answer x y = (refl, refl, refl)
stays c h (Replied n f) sent x y = (refl, refl, refl)
stays c h (Replied n f) failed x y = (refl, refl, refl)
stays c h (Replied n f) release x y = absurd (false≢true y)

-- and our reply to it
of_stage : (c : Terms) (h : Header) (p : IncomingStage) → StaysComplete c (record { header = h; stage = p })
of_stage c h Free =
    record {
      kept = λ x e y. stays c h Free e x y;
      taken = λ x. cc;
      ends_sent = λ x. cc;
      ends_failed = λ x. cc;
      on_its_way = λ x. cc;
      once = λ f x. cc;
      freed = λ x. cc;
      freed_later = λ f x. cc;
    }
of_stage c h (Open a) =
    record {
      kept = λ x e y. stays c h (Open a) e x y;
      taken = λ x. cc;
      ends_sent = λ x. cc;
      ends_failed = λ x. cc;
      on_its_way = λ x. cc;
      once = λ f x. cc;
      freed = λ x. cc;
      freed_later = λ f x. cc;
    }
of_stage c h (Complete n) =
    record {
      kept = λ x e y. stays c h (Complete n) e x y;
      taken = λ x. refl;
      ends_sent = λ x. cc;
      ends_failed = λ x. cc;
      on_its_way = λ x. cc;
      once = λ f x. cc;
      freed = λ x. refl;
      freed_later = λ f x. cc;
    }
of_stage c h (Replying n) =
    record {
      kept = λ x e y. stays c h (Replying n) e x y;
      taken = λ x. cc;
      ends_sent = λ x. refl;
      ends_failed = λ x. refl;
      on_its_way = λ x. refl;
      once = λ f x. cc;
      freed = λ x. cc;
      freed_later = λ f x. cc;
    }
of_stage c h (Replied n e) =
    record {
      kept = λ x k y. stays c h (Replied n e) k x y;
      taken = λ x. cc;
      ends_sent = λ x. cc;
      ends_failed = λ x. cc;
      on_its_way = λ x. cc;
      once = λ f x. refl;
      freed = λ x. cc;
      freed_later = λ f x. refl;
    }

pub complete_stays : CompleteStays
complete_stays c i = of_stage c i.header i.stage

-- ---- ranges

-- at each stage
in_range : (c : Terms) → c.t4.0 ≤ 1200 → (p : IncomingStage) (m : Header) (s : Seen) → At c p m s → incoming_stage_in_range p ≡ true
unfolding length_in_range
in_range c short Free m s g = refl
in_range c short (Open a) m s g = arriving_in_range_lem c a _ g.arrives short
in_range c short (Complete n) m s g = le-leb n message_limit g.fits
in_range c short (Replying n) m s g = le-leb n message_limit g.fits
in_range c short (Replied n e) m s g = le-leb n message_limit g.fits

pub incoming_reached_in_range : IncomingReachedInRange
incoming_reached_in_range c short t w = in_range c short t.incoming.stage _ t.seen (always c t w)
