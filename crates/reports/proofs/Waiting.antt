-- Reports that wait: a new one behind the others, the oldest gone first, a ninth dropped and counted, and what is shown nothing to
-- them. Assumes nothing.
use Prim.Native.Nat.{ℕ, suc, ◌+◌, ◌≤◌, ◌<◌}
use mathlib.Core.Path.{◌≡◌, refl, sym, ap, ◌∙◌}
use mathlib.Core.List.{List, [], ◌∷◌, ◌++◌}
use native.Mathlib.Omega.{arith}
use lib.ListN.{length, get_or, set, take, drop, length-set, length-drop}
use lib.Seq.{length-take-le, take-suc-set, take-append-le, drop-cons}
use borrow.Author.Tests.{lt-ltb, le-ltb, ne_eqb, leb-true, le-leb}
use Rattle.reports.specs.Reports.{most_dropped, most_waiting, no_report, one_more, added, less_one, without_oldest, showing, reports_in_range}
use Rattle.reports.specs.Theorems.{NoneAtStart, EachComes, OldestGoes, ShownAlone, CountIs, ReportsFitExactly, ReportIs}
use Rattle.reports.specs.declared.Report.{Report}
use Rattle.reports.proofs.Slots.{slots, slots_from}

pub none_at_start : NoneAtStart
none_at_start = record { sound = record { slots = refl; most = omega arith }; none = refl; dropped = refl }

pub count_is : CountIs
count_is r s = length-take-le r.count r.waiting (omega (arith, s.slots, s.most))

-- ---- a report comes

-- what is put at k stands behind the first k
put_behind : (l : List Report) (k : ℕ) (new : Report) → k < length l → take (k + 1) (set l k new) ≡ take k l ++ (new ∷ [])
put_behind l k new h =
    let one : k + 1 ≡ suc k = omega arith in
    ap (λ (n : ℕ). take n (set l k new)) one ∙ take-suc-set l k new h

-- below its top the count goes up by one
goes_up : (n : ℕ) → n < 4294967295 → one_more n ≡ n + 1
unfolding one_more
goes_up n h = simp (lt-ltb n most_dropped h)

-- and there it stops
stops : (n : ℕ) → 4294967295 ≤ n → one_more n ≡ n
unfolding one_more
stops n h = simp (le-ltb n most_dropped h)

pub each_comes : EachComes
unfolding added
each_comes r s new = record {
  waits = λ few.
      let fewer : r.count < 8 = omega (arith, count_is r s) in
      rw (lt-ltb r.count most_waiting fewer)
      (record {
        sound = record { slots = length-set r.waiting r.count new ∙ s.slots; most = omega arith };
        behind = put_behind r.waiting r.count new (omega (arith, s.slots));
        dropped = refl;
        shown = refl;
      });
  drops = λ full.
      let eight : 8 ≤ r.count = omega (arith, count_is r s) in
      rw (le-ltb r.count most_waiting eight)
      (record {
        sound = record { slots = s.slots; most = s.most };
        same = refl;
        counted = goes_up r.dropped;
        stops = stops r.dropped;
        shown = refl;
      });
}

-- ---- the oldest goes

one_less : (n : ℕ) → 1 ≤ n → suc (less_one n) ≡ n
unfolding less_one
one_less n h = rw (ne_eqb n 0 (λ e. omega arith)) (omega arith)

-- the oldest, and behind it k of those that move up
moves_up : (l : List Report) (k : ℕ) → length l ≡ 8 → k ≤ 7
    → take (suc k) l ≡ get_or l 0 no_report ∷ take k (slots l no_report 7 1 ++ (no_report ∷ []))
moves_up l k e h =
    let others : List Report = drop 1 l in
    let up : slots l no_report 7 1 ++ (no_report ∷ []) ≡ others ++ (no_report ∷ []) = ap (λ (m : List Report). m ++ (no_report ∷ [])) (slots_from l no_report 7 1 e) in
    let same : take k (slots l no_report 7 1 ++ (no_report ∷ [])) ≡ take k others =
    ap (take k) up ∙ take-append-le k others (no_report ∷ []) (omega (arith, length-drop 1 l)) in
    ap (take (suc k)) (drop-cons l 0 no_report (omega arith)) ∙ ap (λ (m : List Report). get_or l 0 no_report ∷ m) (sym same)

pub oldest_goes : OldestGoes
unfolding without_oldest
oldest_goes r s some =
    let n : ℕ = r.count in
    let less : suc (less_one n) ≡ n = one_less n (omega (arith, count_is r s)) in
    record {
      sound = record { slots = refl; most = omega (arith, s.most) };
      first = ap (λ (m : ℕ). take m r.waiting) (sym less) ∙ moves_up r.waiting (less_one n) s.slots (omega (arith, s.most));
      dropped = refl;
      shown = refl;
    }

-- ---- what is shown, and the range

pub shown_alone : ShownAlone
unfolding showing
shown_alone r s h = record { sound = record { slots = s.slots; most = s.most }; shown = refl; same = refl; dropped = refl }

pub reports_fit_exactly : ReportsFitExactly
unfolding reports_in_range
reports_fit_exactly r = (leb-true r.count most_waiting, le-leb r.count most_waiting)

pub report_is : ReportIs
report_is f h = (refl, refl)
