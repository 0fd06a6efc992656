-- The bytes of a report, as they leave; and the header of a primary's last block (`specs/Reporting.antt`: ReportBytes, LastBlocksHeader).
-- Assumes nothing.
use Prim.Native.Nat.{ℕ, ◌+◌, ◌-◌, ◌*◌, ◌/◌, ◌%◌, ◌≤◌}
use mathlib.Core.Path.{◌≡◌, refl, sym, ap, subst, ◌∙◌}
use mathlib.Core.Bool.{Bool}
use mathlib.Core.List.{List, ◌∷◌, ◌++◌}
use native.Mathlib.Omega.{arith}
use lib.ListN.{length, take, drop}
use lib.Seq.{take_all}
use borrow.Author.Tests.{eq-eqb}
use Rattle.header.specs.Header.{header_bytes, numbered_of}
use Rattle.cut.specs.Blocks.{block_count}
use Rattle.block.specs.Block.{framed, block_of}
use Rattle.reports.specs.declared.Report.{Report}
use Rattle.exchange.specs.Reports.{report_header, report_body}
use Rattle.exchange.specs.Send.{outgoing_at}
use Rattle.exchange.specs.Posting.{primary_asked}
use Rattle.exchange.specs.declared.Sending.{Sending}
use Rattle.link.specs.Run.{block_in}
use Rattle.link.specs.History.{Track, terms_in, lent_room}
use Rattle.link.specs.Inside.{Reached}
use Rattle.link.specs.Reporting.{report_bytes, report_line, ReportBytes, LastBlocksHeader}
use Rattle.link.specs.declared.Settings.{Settings}
use Rattle.link.proofs.inside.Reached.{settings_stay}
use Rattle.link.proofs.inside.Tens.{tens_inside}
use Rattle.link.proofs.refusals.Start.{started_as}
use Rattle.link.proofs.door.Limits.{door_each_enq_its_block}
use Rattle.link.proofs.reporting.Kept.{kept_inside, report_kept}

-- ---- one report

-- its twenty-two bytes
report_bytes_lem : (device f n : ℕ) (shown : List ℕ) → device ≤ 32767 → n ≤ 65535 → length shown ≡ 10
    → header_bytes (report_header device f n) ++ report_body shown ≡ report_bytes device f n shown
unfolding header_bytes
report_bytes_lem device f n shown small fits ten =
    let upper : device / 256 % 128 ≡ device / 256 = omega arith in
    let first : n / 16777216 % 256 ≡ 0 = omega arith in
    let second : n / 65536 % 256 ≡ 0 = omega arith in
    let third : n / 256 % 256 ≡ n / 256 = omega arith in
    let all : take 10 shown ≡ shown = take_all 10 shown (omega arith) in
    λ i.
    (128 + upper i) ∷ (device % 256) ∷ 9 ∷ f ∷ 128 ∷ 1 ∷ first i ∷ second i ∷ third i ∷ (n % 256) ∷ 33 ∷ 10 ∷ all i

-- and its length before them, its sum behind
report_line_lem : (device f n : ℕ) (shown : List ℕ) → device ≤ 32767 → n ≤ 65535 → length shown ≡ 10
    → block_of (report_header device f n) (report_body shown) ≡ report_line (report_bytes device f n shown)
unfolding framed
report_line_lem device f n shown small fits ten =
    ap framed (report_bytes_lem device f n shown small fits ten)
    ∙ let long : length (report_bytes device f n shown) ≡ 22 = omega arith in
    rw long refl

-- ---- as EOT answers its ENQ

-- the device ID is the start's
device_set : (t : Track) (r : Reached t) → ((terms_in t).device ≡ r.setup.device) × (r.setup.device ≤ 32767)
device_set t r =
    let s = started_as r.setup r.settings r.started in
    (ap (λ (z : Settings). z.terms.device) (settings_stay t r ∙ s.in_ticks_lem), s.fits.device_most)

pub report_leaves : ReportBytes
report_leaves t w a fits ours f n e eot room o accepted =
    let r = a.reached in
    let x = t.link.exchange in
    let k = report_kept t r fits f n e in
    let turn = k.0 in
    let d = device_set t r in
    let ten = (tens_inside t r).reports.shown in
    let number : n ≤ 65535 = subst (λ (m : ℕ). m ≤ 65535) (sym k.1) (kept_inside t r fits).numbers.fits in (
      sym (ap (λ (z : Report). z.function) turn),
      door_each_enq_its_block t w a ours eot room o accepted
          ∙ ap (λ (z : Sending). block_in (terms_in t).device x.reports.shown (outgoing_at z x) t.link.block (lent_room room t.room)) e
          ∙ ap (λ (i : ℕ). block_of (report_header i f n) (report_body x.reports.shown)) d.0
          ∙ report_line_lem r.setup.device f n x.reports.shown d.1 number ten
          ∙ ap (λ (h : List ℕ). report_line (report_bytes r.setup.device f n h)) (sym (ap (λ (z : Report). z.header) turn)),
    )

-- ---- a primary's last block

pub last_blocks_header : LastBlocksHeader
unfolding header_bytes framed
last_blocks_header c q d n =
    let h = primary_asked c q (length d) n in
    let k = block_count (length d) in
    ap (λ (last : Bool). take 10 (drop 1 (block_of (numbered_of h k last) (take 244 (drop ((k - 1) * 244) d))))) (eq-eqb k k refl)
