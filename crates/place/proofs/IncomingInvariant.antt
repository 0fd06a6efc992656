-- What holds of an incoming place and its onlooker after any events from a fresh start, and what one event more leaves. Assumes
-- nothing.
use Prim.Native.Nat.{ℕ, ◌+◌, ◌≤◌}
use mathlib.Core.Path.{◌≡◌, refl, sym, subst, ◌∙◌}
use mathlib.Core.Bool.{true, false, cond}
use mathlib.Core.List.{List, [], ◌∷◌}
use mathlib.Core.Logic.{◌↔◌, ◌⊎◌, inl, inr, ⊎_elim}
use native.Mathlib.Omega.{arith}
use native.Mathlib.Nat.{zero-add}
use lib.ListN.{length}
use Rattle.wire.specs.Message.{message_limit}
use Rattle.wire.proofs.Choice.{judged}
use Rattle.header.specs.declared.header.Header.{Header}
use Rattle.settings.specs.declared.terms.Terms.{Terms}
use Rattle.place.specs.Message.{Routed, StartsMessage, Continuing, Continues, first_of, Whole}
use Rattle.place.specs.Fate.{fate_of}
use Rattle.place.specs.Arriving.{kind_of, arriving_from}
use Rattle.place.specs.Incoming.{primary_of, begun_by, begins, open_by, open_tick, continues_here, kept_by, goes_on, incoming_offered}
use Rattle.place.specs.OwnHistory.{passed, kept, spoilt, answer_by}
use Rattle.place.specs.IncomingHistory.{Event, begin, block, tick, answer, sent, failed, release, answer_first, answer_next, sees_first, sees_next, Seen, Track, next, track, at_start}
use Rattle.place.specs.IncomingTheorems.{Reached, Breaks}
use Rattle.place.specs.declared.Arriving.{Arriving}
use Rattle.place.specs.declared.Fate.{Fate}
use Rattle.place.specs.declared.IncomingStage.{IncomingStage}
use Rattle.place.specs.declared.IncomingStage.TheVariants.{Free, Open, Complete, Replying, Replied}
use Rattle.place.specs.declared.Incoming.{Incoming}
use Rattle.place.proofs.Messages.{first_more, starts_primary}
use Rattle.place.proofs.Arrivals as core
use Rattle.place.proofs.Arrivals.{Arrived, Arrives}

-- ---- what is so at each stage

-- what has come of the message
abbrev arrived_of : Seen → Arrived
arrived_of s = record { kept = s.kept; bytes = s.bytes; spoilt = s.spoilt; quiet = s.quiet }

-- a message that began, of whose first block the place has the header m
pub record Begins (m : Header) (s : Seen) : Type 0 where
  pub begun : s.begun ≡ true
  pub first : m ≡ first_of s.kept

-- it is whole, and n bytes long
pub record Holds (n : ℕ) (m : Header) (s : Seen) : Type 0 where
  pub begins : Begins m s
  pub whole : Whole s.kept
  pub size : n ≡ s.bytes
  pub fits : n ≤ message_limit

-- it arrives
pub record Grows (c : Terms) (a : Arriving) (m : Header) (s : Seen) : Type 0 where
  pub begins : Begins m s
  pub arrives : Arrives c a (arrived_of s)

-- none began since the last release, or what began was broken before it was whole
abbrev pub NoneHere : Terms → Seen → Type 0
NoneHere c s = (s.begun ≡ false) ⊎ ((s.begun ≡ true) × (Whole s.kept → ⊥) × Breaks c s)

-- at each stage of a place whose first block has header m, of what the onlooker has seen
abbrev pub At : Terms → IncomingStage → Header → Seen → Type 0
At c Free m s = NoneHere c s
At c (Open a) m s = Grows c a m s
At c (Complete n) m s = Holds n m s
At c (Replying n) m s = Holds n m s
At c (Replied n e) m s = Holds n m s

abbrev pub Good : Terms → Track → Type 0
Good c t = At c t.incoming.stage (primary_of t.incoming) t.seen

-- ---- blocks

-- a first block, with what becomes of it
abbrev first_leaves : Incoming → Seen → Header → ℕ → Fate → Track
first_leaves i s h size f = record { incoming = begun_by i h f; seen = sees_first (answer_by f) s h size }

-- where it comes, nothing of its message is seen
abbrev none_yet : Arrived
none_yet = record { kept = []; bytes = 0; spoilt = false; quiet = 0 }

-- one that is kept is all that is kept; one that is not leaves all as it was
first_block :
    (c : Terms) (i : Incoming) (s : Seen) (h : Header) (size : ℕ) → Routed c h → StartsMessage h
    → Good c (record { incoming = i; seen = s }) → Good c (first_leaves i s h size (fate_of h 0 size))
first_block c i s h size q b g =
    let from : Begins h (sees_first kept s h size) = record { begun = refl; first = refl } in
    core.by_join c none_yet h size (core.first_joins c none_yet h refl refl q b) (λ f. Good c (first_leaves i s h size f))
    g
    g
    (λ whole fits. record { begins = from; whole = whole; size = omega arith; fits = fits })
    (λ arrives some. record { begins = from; arrives = subst (λ n. Arrives c (arriving_from h (0 + size)) (record { kept = h ∷ []; bytes = n; spoilt = false; quiet = 0 })) (zero-add size) arrives })

-- a block that continues the open message, with what becomes of it
abbrev next_leaves : Incoming → Seen → Header → ℕ → Fate → Track
next_leaves i s h size f = record { incoming = kept_by i h f; seen = sees_next (answer_by f) s h size }

-- one that is kept is one more; one that is not breaks the message
next_block :
    (c : Terms) (i : Incoming) (s : Seen) (a : Arriving) (h : Header) (size : ℕ) → Routed c h
    → Continues (first_of s.kept) (length s.kept + 1) h → Grows c a (primary_of i) s → Good c (next_leaves i s h size (fate_of h a.length size))
next_block c i s a h size q k g =
    let broken : NoneHere c (sees_next spoilt s h size) = inr (g.begins.begun, core.not_whole g.arrives, inl refl) in
    let from : Begins (primary_of i) (sees_next kept s h size) =
    record { begun = g.begins.begun; first = g.begins.first ∙ sym (first_more s.kept h g.arrives.begun.some) } in
    rw g.arrives.size
    (core.by_join c (arrived_of s) h size (core.next_joins c a (arrived_of s) h g.arrives q k) (λ f. Good c (next_leaves i s h size f))
    broken
    broken
    (λ whole fits. record { begins = from; whole = whole; size = refl; fits = fits })
    (λ arrives some. record { begins = from; arrives = arrives }))

-- a block continues the open message exactly if it continues the blocks kept
pub goes_on_lem :
    (c : Terms) (i : Incoming) (s : Seen) (a : Arriving) (b : Header) → Grows c a (primary_of i) s
    → continues_here i a b ≡ true ↔ Continues (first_of s.kept) (length s.kept + 1) b
unfolding continues_here
goes_on_lem c i s a b g =
    subst (λ (m : Header). continues_here i a b ≡ true ↔ Continuing m.device m.system (length s.kept + 1) (kind_of (first_of s.kept)) b) g.begins.first
    (core.continues_kept c a (arrived_of s) (primary_of i).device (primary_of i).system b g.arrives)

-- ---- one event

-- a place at a stage, and what the onlooker has seen of it
abbrev placed : Header → IncomingStage → Seen → Track
placed h p s = record { incoming = record { header = h; stage = p }; seen = s }

-- what the onlooker has seen a tick later
abbrev ticks : Seen → Seen
ticks s = record { begun = s.begun; kept = s.kept; bytes = s.bytes; spoilt = s.spoilt; quiet = s.quiet + 1 }

-- what is broken stays broken as time passes
none_longer : (c : Terms) (s : Seen) → NoneHere c s → NoneHere c (ticks s)
none_longer c s g = ⊎_elim inl (λ w. inr (w.0, w.1, ⊎_elim inl (λ late. inr (omega arith)) w.2)) g

-- and what is whole stays whole
holds_longer : {n : ℕ} {m : Header} {s : Seen} → Holds n m s → Holds n m (ticks s)
holds_longer g = record { begins = record { begun = g.begins.begun; first = g.begins.first }; whole = g.whole; size = g.size; fits = g.fits }

-- what one event leaves
one_more : (c : Terms) (h : Header) (p : IncomingStage) (s : Seen) (e : Event c) → At c p h s → Good c (next (placed h p s) e)
unfolding begins open_tick goes_on incoming_offered answer_first answer_next
one_more c h Free s (begin h' size q b) g = first_block c _ s h' size q (starts_primary h' b) g
one_more c h Free s (block b size q) g = g
one_more c h Free s tick g = none_longer c s g
one_more c h Free s answer g = g
one_more c h Free s sent g = g
one_more c h Free s failed g = g
one_more c h Free s release g = g
one_more c h (Open a) s (begin h' size q b) g = first_block c _ s h' size q (starts_primary h' b) g
one_more c h (Open a) s (block b size q) g =
    let i : Incoming = record { header = h; stage = Open a } in
    judged (continues_here i a b) (goes_on_lem c i s a b g)
    (λ t. Good c (record { incoming = cond t (goes_on i b size) i; seen = sees_next (cond t (answer_by (fate_of b a.length size)) passed) s b size }))
    (λ k. next_block c i s a b size q k g) (λ k. g)
one_more c h (Open a) s tick g =
    core.by_tick c a (arrived_of s) g.arrives (λ t. Good c (record { incoming = open_by (record { header = h; stage = Open a }) t; seen = ticks s }))
    (λ out. inr (g.begins.begun, core.not_whole g.arrives, inr out))
    (λ on. record { begins = record { begun = g.begins.begun; first = g.begins.first }; arrives = on })
one_more c h (Open a) s answer g = g
one_more c h (Open a) s sent g = g
one_more c h (Open a) s failed g = g
one_more c h (Open a) s release g = g
one_more c h (Complete n) s (begin h' size q b) g = g
one_more c h (Complete n) s (block b size q) g = g
one_more c h (Complete n) s tick g = holds_longer g
one_more c h (Complete n) s answer g = g
one_more c h (Complete n) s sent g = g
one_more c h (Complete n) s failed g = g
one_more c h (Complete n) s release g = inl refl
one_more c h (Replying n) s (begin h' size q b) g = g
one_more c h (Replying n) s (block b size q) g = g
one_more c h (Replying n) s tick g = holds_longer g
one_more c h (Replying n) s answer g = g
one_more c h (Replying n) s sent g = g
one_more c h (Replying n) s failed g = g
one_more c h (Replying n) s release g = g
one_more c h (Replied n e) s (begin h' size q b) g = g
one_more c h (Replied n e) s (block b size q) g = g
one_more c h (Replied n e) s tick g = holds_longer g
one_more c h (Replied n e) s answer g = g
one_more c h (Replied n e) s sent g = g
one_more c h (Replied n e) s failed g = g
one_more c h (Replied n e) s release g = inl refl

-- ---- any events

all_events : (c : Terms) (t : Track) (es : List (Event c)) → Good c t → Good c (track t es)
unfolding track
all_events c t [] g = g
all_events c t (e ∷ es) g = all_events c (next t e) es (one_more c t.incoming.header t.incoming.stage t.seen e g)

pub always : (c : Terms) (t : Track) → Reached c t → Good c t
always c t w = subst (Good c) w.so (all_events c at_start w.events (inl refl))
