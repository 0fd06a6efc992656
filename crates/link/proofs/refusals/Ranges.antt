-- The unit's test of its ranges is true exactly if each field is in its own (`specs/Refusals.antt`). The line's and the
-- transactions' are theirs. Assumes nothing.
use mathlib.Core.Path.{◌≡◌}
use mathlib.Core.Bool.{true, ◌&&◌}
use mathlib.Core.Logic.{◌↔◌}
use lib.Dec.{leb}
use borrow.Author.Tests.{le-leb, leb-true}
use Rattle.cut.specs.Blocks.{most_blocks}
use Rattle.wire.proofs.Choice.{both, three}
use Rattle.settings.specs.Panel.{between}
use Rattle.settings.specs.Limits.{limits_in_range}
use Rattle.settings.specs.Terms.{terms_in_range}
use Rattle.settings.proofs.Panels.{in_between}
use Rattle.line.specs.Range.{line_in_range}
use Rattle.line.proofs.Ranges.{range_exactly}
use Rattle.reports.proofs.Waiting.{reports_fit_exactly}
use Rattle.exchange.proofs.Ranges.{sending_fits_exactly, exchange_fits_exactly}
use Rattle.exchange.specs.Range.{exchange_in_range}
use Rattle.link.specs.Setup.{settings_in_range}
use Rattle.link.specs.State.{link_in_range}
use Rattle.link.specs.Refusals.{SettingsFit, Fits, RangesExactly}
use Rattle.link.specs.declared.Settings.{Settings}
use Rattle.link.specs.declared.Link.{Link}
use Rattle.place.proofs.Ranges.{own_fits_exactly, incoming_fits_exactly}

-- ---- the settings

settings_fit : (s : Settings) → settings_in_range s ≡ true ↔ SettingsFit s
unfolding settings_in_range limits_in_range terms_in_range
settings_fit s =
    let w = both (limits_in_range s.limits) (terms_in_range s.terms) in
    let l = three (between 1 s.limits.t1.0 100) (between 2 s.limits.t2.0 250) (leb s.limits.rty 31) in
    let t = three (between 10 s.terms.t3.0 1200) (between 10 s.terms.t4.0 1200) (leb s.terms.device 32767) in
    let t1 = in_between 1 s.limits.t1.0 100 in
    let t2 = in_between 2 s.limits.t2.0 250 in
    let t3 = in_between 10 s.terms.t3.0 1200 in
    let t4 = in_between 10 s.terms.t4.0 1200 in (
      λ e.
          let a = l.0 (w.0 e).0 in
          let b = t.0 (w.0 e).1 in
          record {
            t1_least = (t1.0 a.0).0;
            t1_most = (t1.0 a.0).1;
            t2_least = (t2.0 a.1).0;
            t2_most = (t2.0 a.1).1;
            rty_most = leb-true s.limits.rty 31 a.2;
            t3_least = (t3.0 b.0).0;
            t3_most = (t3.0 b.0).1;
            t4_least = (t4.0 b.1).0;
            t4_most = (t4.0 b.1).1;
            device_most = leb-true s.terms.device 32767 b.2;
          },
      λ f.
          w.1 (
            l.1 (t1.1 (f.t1_least, f.t1_most), t2.1 (f.t2_least, f.t2_most), le-leb s.limits.rty 31 f.rty_most),
            t.1 (t3.1 (f.t3_least, f.t3_most), t4.1 (f.t4_least, f.t4_most), le-leb s.terms.device 32767 f.device_most),
          ),
    )

-- ---- the unit

pub link_fits : (u : Link) → link_in_range u ≡ true ↔ Fits u
unfolding link_in_range
link_fits u =
    let x = u.exchange in
    let a = both (between 1 u.block most_blocks) (settings_in_range u.settings && (line_in_range u.line && exchange_in_range x)) in
    let b = both (settings_in_range u.settings) (line_in_range u.line && exchange_in_range x) in
    let c = both (line_in_range u.line) (exchange_in_range x) in
    let k = in_between 1 u.block most_blocks in (
      λ t.
          let w = a.0 t in
          let s = b.0 w.1 in
          let l = c.0 s.1 in
          let y = (exchange_fits_exactly x).0 l.1 in
          record {
            block_least = (k.0 w.0).0;
            block_most = (k.0 w.0).1;
            settings = (settings_fit u.settings).0 s.0;
            line = (range_exactly u.line).0 l.0;
            own = y.own;
            incoming = y.incoming;
            sending = y.sending;
            waiting = y.waiting;
          },
      λ f.
          a.1 (
            k.1 (f.block_least, f.block_most),
            b.1 (
              (settings_fit u.settings).1 f.settings,
              c.1 (
                (range_exactly u.line).1 f.line,
                (exchange_fits_exactly x).1 (record { own = f.own; incoming = f.incoming; sending = f.sending; waiting = f.waiting }),
              ),
            ),
          ),
    )

pub ranges_exactly : RangesExactly
ranges_exactly = record {
  settings = settings_fit;
  line = range_exactly;
  own = own_fits_exactly;
  incoming = incoming_fits_exactly;
  sending = sending_fits_exactly;
  reports = reports_fit_exactly;
  all = link_fits;
}
