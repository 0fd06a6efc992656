-- What the calls of an end leave of it is again a unit that calls left. Assumes nothing.
use Prim.Native.Nat.{ℕ, zero, suc}
use mathlib.Core.Path.{◌≡◌, refl, sym, ap, ◌∙◌}
use mathlib.Core.Bool.{not}
use mathlib.Core.List.{List, [], ◌∷◌, ◌++◌}
use Rattle.wire.specs.Bytes.{Bytes}
use Rattle.line.specs.Line.{fresh_line}
use Rattle.exchange.specs.Request.{Request}
use Rattle.exchange.proofs.Runs.{go_on}
use Rattle.link.specs.Call.{request_call}
use Rattle.link.specs.History.{Call, byte, tick, drained, request, called, other, Made, Track, next, track}
use Rattle.link.specs.SameMessage.{End, end_of, said_by, hears_all, hears_late, drains_late, waits, Linked, Lent, Again}
use Rattle.link.specs.declared.Settings.{Settings}
use Rattle.link.specs.declared.Link.{Link}
use Rattle.link.proofs.inside.Reached.{reached_more}

-- the unit of this end is what some calls more leave of a, whatever rooms were lent to them
pub record Reaches (a : Track) (e : End) : Type 0 where
  pub calls : List Made
  pub so : (track a calls).link ≡ e.link

module _ (a : Track) where
  pub reaches_itself : (room : List ℕ) → Reaches a (end_of a.link room)
  unfolding track
  reaches_itself room = record { calls = []; so = refl }

  -- a call
  reaches_call : (e : End) → Reaches a e → (o : List ℕ) (k : Call) (room : List ℕ) → Reaches a (end_of (called e.link e.room o k).answer.link room)
  unfolding track
  reaches_call e r o k room =
      let m : Made = record { call = k; room = other e.room; out = o } in
      record {
        calls = r.calls ++ (m ∷ []);
        so =
            ap (λ (t : Track). t.link) (go_on next track (λ v. refl) (λ v l ks. refl) a (track a r.calls) r.calls (m ∷ []) refl)
            ∙ ap (λ (u : Link). (called u e.room o k).answer.link) r.so;
      }

  pub reaches_asked : (e : End) → Reaches a e → (o : List ℕ) (q : Request) → Reaches a (said_by (request_call e.link q e.room o)).end
  reaches_asked e r o q = reaches_call e r o (request q) _

  pub reaches_waits : (e : End) → Reaches a e → (o : List ℕ) (n : ℕ) → Reaches a (waits o e n).end
  unfolding waits
  reaches_waits e r o zero = r
  reaches_waits e r o (suc n) = reaches_call (waits o e n).end (reaches_waits e r o n) o tick _

  pub reaches_drained : (e : End) → Reaches a e → (o : List ℕ) (n : ℕ) → Reaches a (drains_late o n e).end
  reaches_drained e r o n = reaches_call (waits o e n).end (reaches_waits e r o n) o drained _

  -- bytes
  pub reaches_heard : (e : End) → Reaches a e → (o : List ℕ) (w : ℕ → ℕ) (bs : List ℕ) → Bytes bs → Reaches a (hears_all o w e bs).end
  unfolding hears_all
  reaches_heard e r o w [] fit = r
  reaches_heard e r o w (b ∷ bs) fit =
      let one : Reaches a (hears_late o (w 0) e b).end = reaches_call (waits o e (w 0)).end (reaches_waits e r o (w 0)) o (byte b (fit.at 0)) _ in
      reaches_heard (hears_late o (w 0) e b).end one o (λ i. w (suc i)) bs (record { at = λ i. fit.at (suc i) })

-- ---- both ends

-- two ends that calls left, with the same settings and idle lines, agree as before
pub meet_again : (a b : Track) → Linked a b → (o : List ℕ) (e f : End) → Reaches a e → Reaches b f
    → e.link.settings ≡ a.link.settings → f.link.settings ≡ b.link.settings → e.link.line ≡ fresh_line → f.link.line ≡ fresh_line
    → Lent e.room f.room o → Again o e f
unfolding reached_more
meet_again a b l o e f r q se sf le lf lent =
    let sa : (track a r.calls).link.settings ≡ a.link.settings = ap (λ (u : Link). u.settings) r.so ∙ se in
    let sb : (track b q.calls).link.settings ≡ b.link.settings = ap (λ (u : Link). u.settings) q.so ∙ sf in
    record {
      here = track a r.calls;
      there = track b q.calls;
      linked = record {
        one = reached_more a l.one r.calls;
        other = reached_more b l.other q.calls;
        last = l.last;
        far_last = l.far_last;
        roles = ap (λ (s : Settings). s.terms.host) sb ∙ l.roles ∙ sym (ap (λ (s : Settings). not s.terms.host) sa);
        device = ap (λ (s : Settings). s.terms.device) sb ∙ l.device ∙ sym (ap (λ (s : Settings). s.terms.device) sa);
        line = ap (λ (u : Link). u.line) r.so ∙ le;
        far_line = ap (λ (u : Link). u.line) q.so ∙ lf;
      };
      one = r.so;
      other = q.so;
      lent = lent;
    }
