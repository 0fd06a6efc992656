-- How long a message is (01, "Messages"): one definition for all that counts its bytes.
use Rattle.std.specs.Prelude.{ℕ, ◌+◌}

-- the most data bytes of a message: "4,096 each" of the areas, "Total data above 4,096" of rule 5, "data above 4,096 bytes" of refusal 6
abbrev pub message_limit : ℕ
message_limit = 4096

-- the highest number that the next block of a message can have while the message arrives: one above the limit, since each of its
-- blocks so far has a byte at least
abbrev pub next_limit : ℕ
next_limit = message_limit + 1
