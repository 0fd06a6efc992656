-- What holds in each case of a call holds of the call. Assumes nothing.
use Rattle.std.specs.Prelude.{Result, Ok, Err}
use Prim.Native.Nat.{ℕ}
use mathlib.Core.Path.{◌≡◌, refl, sym, ap, subst}
use mathlib.Core.Bool.{Bool, true, false, cond, false≢true}
use mathlib.Core.List.{List, []}
use lib.Dec.{eqb}
use lib.ListN.{length}
use borrow.Author.Tests.{eqb-true}
use Rattle.wire.proofs.Choice.{either, chosen}
use Rattle.room.specs.Room.{room_size}
use Rattle.line.specs.Line.{Heard}
use Rattle.line.specs.declared.step.Out.{Out}
use Rattle.line.specs.declared.step.Out.TheVariants as out
use Rattle.exchange.specs.Send.{put_out_of, sent_of}
use Rattle.exchange.specs.Request.{Requesting, requesting, Request, primary, reply, freeing_own, freeing_incoming, answer_of, lends}
use Rattle.exchange.specs.declared.Exchange.{Exchange}
use Rattle.exchange.specs.declared.Refusal.{Refusal as RequestRefusal}
use Rattle.exchange.proofs.Accepting.{refused_number, refused_changes_nothing}
use Rattle.link.specs.State.{refused_as, link_in_range, output_short, room_fits, gate_of}
use Rattle.link.specs.Run.{Left, left, untold, changed_to, putting_out, acknowledged, block_out, unless_block, hears, hearing, stepped, byte_stepped}
use Rattle.link.specs.Call.{through, gated, requested_by, requested_as, frees_by, frees, free_call, request_by, request_call}
use Rattle.link.specs.declared.Refusal.{Refusal}
use Rattle.link.specs.declared.Refusal.TheVariants as refusal
use Rattle.link.specs.declared.Midway.{Midway}
use Rattle.link.specs.declared.Note.{Note}
use Rattle.link.specs.declared.Answer.{Answer}
use Rattle.link.specs.declared.Link.{Link}
use Rattle.exchange.specs.Asked.{Asked}

-- ---- refusals 1 to 3

through_gate : (g : Result Unit Refusal) (P : Left → Type 0) (u : Link) (room o : List ℕ) (l : Left)
    → ((r : Refusal) → g ≡ Err r → P (left (refused_as u r) room o)) → (g ≡ Ok tt → P l) → P (through g u room o l)
through_gate (Ok tt) P u room o l shut open' = open' refl
through_gate (Err r) P u room o l shut open' = shut r refl

-- a call is refused and leaves all as it was, or goes through
pub by_gate : (P : Left → Type 0) (u : Link) (room o : List ℕ) (l : Left)
    → ((r : Refusal) → gate_of u (length room) (length o) ≡ Err r → P (left (refused_as u r) room o))
    → (gate_of u (length room) (length o) ≡ Ok tt → P l) → P (gated u room o l)
by_gate P u room o l shut open' = through_gate (gate_of u (length room) (length o)) P u room o l shut open'

-- one that goes through is lent 36,864 bytes
abbrev Lent : ℕ → Result Unit Refusal → Type 0
Lent n (Ok tt) = n ≡ 36864
Lent n (Err r) = Unit {0}

pub open_lent : (u : Link) (n o : ℕ) → gate_of u n o ≡ Ok tt → n ≡ 36864
unfolding gate_of room_fits
open_lent u n o e =
    subst (Lent n) e
    (chosen (Lent n) (output_short o) _ _ (λ a. tt)
    (λ a. chosen (Lent n) (eqb n room_size) _ _ (λ b. chosen (Lent n) (link_in_range u) _ _ (λ c. eqb-true n room_size b) (λ c. tt)) (λ b. tt)))

-- ---- a call on the line

by_block : (P : Out → Left → Type 0) (p : Out) (block l : Left)
    → (p ≡ out.Nothing → P out.Nothing l) → ((c : ℕ) → p ≡ out.Code c → P (out.Code c) l) → (p ≡ out.Block → P out.Block block) → P p (unless_block p block l)
by_block P out.Nothing block l none code whole = none refl
by_block P (out.Code c) block l none code whole = code c refl
by_block P out.Block block l none code whole = whole refl

-- a byte: the whole block leaves, or the transactions are told and the call goes on
pub by_byte : (P : Out → Left → Type 0) (u : Link) (h : Heard) (room o : List ℕ)
    → (h.step.out ≡ out.Nothing → P out.Nothing (stepped false u h room o))
    → ((c : ℕ) → h.step.out ≡ out.Code c → P (out.Code c) (stepped false u h room o))
    → (h.step.out ≡ out.Block → P out.Block (block_out (hears u h) (hearing h.step.told h.step.remark (hears u h) room) room o))
    → P h.step.out (byte_stepped u h room o)
by_byte P u h room o none code whole =
    by_block P h.step.out (block_out (hears u h) (hearing h.step.told h.step.remark (hears u h) room) room o) (stepped false u h room o) none code whole

-- a block goes out: its message has a next one, or it is the last
pub by_put_out : (P : Bool → Exchange → Type 0) (more : Bool) (x : Exchange)
    → (more ≡ true → P true x) → (more ≡ false → P false (put_out_of x)) → P more (putting_out more x)
unfolding putting_out
by_put_out P more x on last = either more (λ z. P z (cond z x (put_out_of x))) on last

-- a block was acknowledged: its message has a next one, or it was the last
pub by_sent : (P : Bool → Midway → Type 0) (more : Bool) (x : Exchange) (t : Note)
    → (more ≡ true → P true (untold x t)) → (more ≡ false → P false (changed_to (sent_of x) t)) → P more (acknowledged more x t)
unfolding acknowledged
by_sent P more x t on last = either more (λ z. P z (cond z (untold x t) (changed_to (sent_of x) t))) on last

-- ---- a request

-- what the transactions answer
pub by_asked :
    (u : Link) (x : Exchange) (room o : List ℕ) (P : Asked → Left → Type 0)
    → ((p : ℕ) → P (Ok p) (requested_by (Ok p) u x room o))
    → ((r : RequestRefusal) → P (Err r) (left (refused_as u (refusal.Request r)) room o))
    → (k : Asked) → P k (requested_by k u x room o)
by_asked u x room o P take refuse (Ok p) = take p
by_asked u x room o P take refuse (Err r) = refuse r

pub by_freed :
    (u : Link) (x : Exchange) (P : Asked → Answer → Type 0)
    → ((p : ℕ) → P (Ok p) (frees_by (Ok p) u x)) → ((r : RequestRefusal) → P (Err r) (refused_as u (refusal.Request r)))
    → (k : Asked) → P k (frees_by k u x)
by_freed u x P take refuse (Ok p) = take p
by_freed u x P take refuse (Err r) = refuse r

-- of the room a release knows nothing
pub unlent : (u : Link) (r : Request) (room : List ℕ) → lends r ≡ false
    → answer_of u.settings.terms u.exchange r room ≡ requesting (answer_of u.settings.terms u.exchange r []).answer room
unlent u (primary q d) room e = absurd (false≢true (sym e))
unlent u (reply p f d) room e = absurd (false≢true (sym e))
unlent u (freeing_own p) room e = refl
unlent u (freeing_incoming p) room e = refl

pub unlent_room : (u : Link) (r : Request) (room : List ℕ) → lends r ≡ false → (answer_of u.settings.terms u.exchange r room).room ≡ room
unlent_room u r room e = ap (λ (a : Requesting). a.room) (unlent u r room e)

-- what it answers to this request, on this room
abbrev pub answering : Link → Request → List ℕ → Requesting
answering u r room = answer_of u.settings.terms u.exchange r room

-- what a request leaves that passes 1, 2 and 3
abbrev pub behind_by : Bool → Link → Request → List ℕ → List ℕ → Left
behind_by true u r room o = requested_as u (answering u r room) o
behind_by false u r room o = left (frees u (answering u r []).answer) room o

module _ (u : Link) (r : Request) (room o : List ℕ) (P : Left → Type 0)
    (refuse : (n : RequestRefusal) → (answering u r room).answer.asked ≡ Err n → P (left (refused_as u (refusal.Request n)) room o))
    (take : (p : ℕ) → (answering u r room).answer.asked ≡ Ok p → lends r ≡ true
    → P (requested_by (Ok p) u (answering u r room).answer.exchange (answering u r room).room o))
    (free : (p : ℕ) → (answering u r room).answer.asked ≡ Ok p → lends r ≡ false
    → P (left (frees_by (Ok p) u (answering u r room).answer.exchange) room o)) where
  lent_answer : lends r ≡ true → (k : Asked) → (answering u r room).answer.asked ≡ k
      → P (requested_by k u (answering u r room).answer.exchange (answering u r room).room o)
  lent_answer l (Ok p) e = take p e l
  lent_answer l (Err n) e =
      subst (λ (z : List ℕ). P (left (refused_as u (refusal.Request n)) z o))
      (sym (refused_changes_nothing u.settings.terms u.exchange r room (refused_number (answering u r room).answer.asked n e)).1) (refuse n e)

  free_answer : lends r ≡ false → (k : Asked) → (answering u r room).answer.asked ≡ k → P (left (frees_by k u (answering u r room).answer.exchange) room o)
  free_answer l (Ok p) e = free p e l
  free_answer l (Err n) e = refuse n e

  -- past 1, 2 and 3 a request is refused by the transactions, or taken: with the memory that it is lent, or without
  pub by_answer : (t : Bool) → lends r ≡ t → P (behind_by t u r room o)
  by_answer true l = lent_answer l (answering u r room).answer.asked refl
  by_answer false l =
      subst (λ (a : Requesting). P (left (frees u a.answer) room o)) (unlent u r room l)
      (free_answer l (answering u r room).answer.asked refl)

  -- and any request is that, or refused by 1, 2 or 3
  pub by_request : ((n : Refusal) → P (left (refused_as u n) room o)) → P (request_call u r room o)
  unfolding free_call
  by_request shut = by (lends r) refl
    where
      by : (t : Bool) → lends r ≡ t → P (request_by t u r room o)
      by true l = by_gate P u room o (requested_as u (answering u r room) o) (λ n e. shut n) (λ e. by_answer true l)
      by false l = chosen (λ (a : Answer). P (left a room o)) (link_in_range u) _ _ (λ e. by_answer false l) (λ e. shut refusal.State)
