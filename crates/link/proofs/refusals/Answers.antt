-- Which place a call answers, and what a release has no part in (`specs/Refusals.antt`). Assumes nothing.
use Rattle.std.specs.Prelude.{Ok}
use Prim.Native.Nat.{ℕ}
use mathlib.Core.Path.{◌≡◌, refl, sym, ap, ◌∙◌}
use mathlib.Core.Bool.{true, false, not, false≢true}
use mathlib.Core.List.{List}
use Rattle.settings.specs.declared.terms.Terms.{Terms}
use Rattle.exchange.specs.Request.{Request, primary, reply, freeing_own, freeing_incoming, answer_of}
use Rattle.exchange.specs.Rules.{Fours}
use Rattle.exchange.specs.declared.Exchange.{Exchange}
use Rattle.exchange.proofs.Accepting.{accepted_opens, accepted_replies, accepted_releases}
use Rattle.exchange.proofs.Releases.{lent_exactly}
use Rattle.link.specs.Run.{stepped, byte_step, byte_stepped, tick_step, drained_step}
use Rattle.link.specs.History.{byte, tick, drained, request}
use Rattle.link.specs.Refusals.{About, AboutPlace, AboutNone, PlaceAnswered, RequestsAre, CallsAre, AllElse, ReleaseApart}
use Rattle.link.specs.declared.Link.{Link}
use Rattle.link.proofs.Cases.{by_gate, by_byte, by_request}

-- the transactions answer it so
about : (c : Terms) (x : Exchange) (r : Request) (room : List ℕ) → Fours x → (p : ℕ) → (answer_of c x r room).answer.asked ≡ Ok p → About x r p
about c x (primary q d) room four p e = (accepted_opens c x q d room four p e).lowest
about c x (reply k f d) room four p e = (accepted_replies c x k f d room p e).same
about c x (freeing_own k) room four p e = (accepted_releases.own c x k room p e).same
about c x (freeing_incoming k) room four p e = (accepted_releases.incoming c x k room p e).same

-- and the unit hands it on
pub place_answered : PlaceAnswered
place_answered u room o (byte b fits) four =
    by_gate (λ l. AboutNone l.answer.outcome) u room o (byte_stepped u (byte_step u b) room o) (λ n e. tt)
    (λ e. by_byte (λ p l. AboutNone l.answer.outcome) u (byte_step u b) room o (λ z. tt) (λ c z. tt) (λ z. tt))
place_answered u room o tick four =
    by_gate (λ l. AboutNone l.answer.outcome) u room o (stepped true u (tick_step u) room o) (λ n e. tt) (λ e. tt)
place_answered u room o drained four =
    by_gate (λ l. AboutNone l.answer.outcome) u room o (stepped false u (drained_step u) room o) (λ n e. tt) (λ e. tt)
place_answered u room o (request r) four =
    by_request u r room o (λ l. AboutPlace u.exchange r l.answer.outcome) (λ n e. tt)
    (λ p e l. about u.settings.terms u.exchange r room four p e) (λ p e l. about u.settings.terms u.exchange r room four p e) (λ n. tt)

-- ---- the calls by name

pub requests_are : RequestsAre
requests_are = record {
  opens = λ u q d room o. refl;
  replies = λ u p f d room o. refl;
  frees_own = λ u p room o. refl;
  frees_incoming = λ u p room o. refl;
}

pub calls_are : CallsAre
calls_are = record { byte_in = λ u b fits room o. refl; ticks = λ u room o. refl; drains = λ u room o. refl }

-- ---- a release

untouched : (u : Link) → AllElse u u
untouched u = record { settings = refl; line = refl; received = refl; block = refl }

pub release_apart : ReleaseApart
release_apart u room o r e =
    by_request u r room o (λ l. AllElse u l.answer.link) (λ n z. untouched u)
    (λ p z l. absurd (false≢true (sym (lent_exactly r ∙ ap not e) ∙ l)))
    (λ p z l. record { settings = refl; line = refl; received = refl; block = refl }) (λ n. untouched u)
