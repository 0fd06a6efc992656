-- What becomes of a block of a message (01, "A block that goes up is judged in this order"): rules 3, 4, 5 and 7 as far as they
-- are the same for a reply to us and for a message of the far end.
use Rattle.std.specs.Prelude.{ℕ, ◌+◌, ◌%◌, Bool, cond, not, ◌&&◌, ◌||◌, eqb, ltb}
use Rattle.wire.specs.Message.{message_limit}
use Rattle.header.specs.declared.header.Header.{Header}
use Rattle.place.specs.declared.Fate.{Fate}
use Rattle.place.specs.declared.Fate.TheVariants.{Empty, TooLong, Last, More}

-- "number 1, or 0 with E = 1"
unfoldable pub starts_message : Header → Bool
starts_message h = eqb h.number 1 || (eqb h.number 0 && h.e)

-- the first block of a reply: "even function, number 1, or 0 with E = 1"
unfoldable pub begins_reply : Header → Bool
begins_reply h = eqb (h.function % 2) 0 && starts_message h

-- the first block of a primary: "odd function, same number rule"
unfoldable pub begins_primary : Header → Bool
begins_primary h = eqb (h.function % 2) 1 && starts_message h

-- 4: "E = 0, or number above 1, with no data"
unfoldable pub lacks_data : Header → ℕ → Bool
lacks_data h size = eqb size 0 && (not h.e || ltb 1 h.number)

-- 5: "Total data above 4,096"
unfoldable pub too_long : ℕ → ℕ → Bool
too_long have size = ltb message_limit (have + size)

-- 7: kept; with E = 1 the message is complete
abbrev pub kept_of : Header → ℕ → Fate
kept_of h total = cond h.e (Last total) (More total)

-- rules 4, 5 and 7 in their order, for a block with `size` data bytes behind `have` bytes of its message
unfoldable pub fate_of : Header → ℕ → ℕ → Fate
fate_of h have size = cond (lacks_data h size) Empty (cond (too_long have size) TooLong (kept_of h (have + size)))
