-- `printed::put_data` meets its contract.
use mathlib.Core.Path.{refl, ◌∙◌}
use native.Mathlib.Omega.{arith}
use Rattle.wire.proofs.Lent.{put_fits}
use Rattle.script.proofs.Printing.{put_some, hex_length, no_data, data_length}
use Rattle.scribe.proofs.printed.put_data.Goals as goal

-- no bytes
pub returns-then-bytes-eq0 : goal.returns-then-bytes-eq0
returns-then-bytes-eq0 c =
    let no = no_data c.args.bytes.now c.if-bytes-eq0.true in
    record { out_after = rw no (c.put.ensures ∙ put_fits _ _ _ (rw no at c.requires)); value = rw no refl }

pub overflow_mul-end : goal.overflow_mul-end
overflow_mul-end c = omega (arith, data_length c.args.bytes.now, hex_length c.args.bytes.now)

pub overflow_add-end : goal.overflow_add-end
overflow_add-end c = omega (arith, data_length c.args.bytes.now)

pub overflow_add-result-2 : goal.overflow_add-result-2
overflow_add-result-2 c = omega (arith, data_length c.args.bytes.now)

-- some bytes: the space stands where they end
pub returns : goal.returns
returns c =
    record {
      out_after = put_some _ c.args.bytes.now _ _ _ _ (omega (arith, c.requires)) c.if-bytes-eq0.false refl c.put_hex.ensures (c.put-2.ensures ∙ put_fits _ _ _ (omega (arith, c.requires, data_length c.args.bytes.now)));
      value = omega (arith, data_length c.args.bytes.now, c.if-bytes-eq0.false);
    }
