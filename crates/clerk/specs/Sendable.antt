-- Refusals 5, 6 and 7, which a primary and a reply have in this order ("5, 6, 7, 8" and "9, 10, 11, 5, 6, 7", 01, "Refusal numbers and
-- notes"): `bad` is what 5 says of either, and n how many data bytes there are.
use Rattle.std.specs.Prelude.{ℕ, Bool, cond, Result, Ok, Err}
use Rattle.exchange.specs.Request.{data_long, is_sending}
use Rattle.exchange.specs.declared.Exchange.{Exchange}
use Rattle.exchange.specs.declared.Refusal.{Refusal}
use Rattle.exchange.specs.declared.Refusal.TheVariants as refusal

abbrev pub sendable : Exchange → Bool → ℕ → Result Unit Refusal
sendable x bad n =
    cond bad (Err refusal.Message) (cond (data_long n) (Err refusal.DataLong) (cond (is_sending x) (Err refusal.Sending) (Ok tt)))
