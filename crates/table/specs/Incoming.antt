-- The four incoming places.
use Rattle.std.specs.Prelude.{ℕ, Bool, ◌&&◌, List, map, eqb, get_or, set, Option}
use Rattle.header.specs.declared.header.Header.{Header}
use Rattle.settings.specs.declared.terms.Terms.{Terms}
use Rattle.place.specs.Incoming.{fresh_incoming, primary_of, incoming_is_free, incoming_is_open, incoming_takes, incoming_tick}
use Rattle.place.specs.declared.Incoming.{Incoming}
use Rattle.table.specs.Find.{first_of}

-- the place; one outside the table is as a free one
abbrev pub incoming_at : List Incoming → ℕ → Incoming
incoming_at is p = get_or is p fresh_incoming

-- the table with place p put anew; outside it nothing is put
abbrev pub incoming_put : List Incoming → ℕ → Incoming → List Incoming
incoming_put is p i = set is p i

abbrev pub free_marks : List Incoming → List Bool
free_marks is = map incoming_is_free is

-- rule 6: "the lowest free incoming place"
unfoldable pub free_incoming : List Incoming → Option ℕ
free_incoming is = first_of (free_marks is)

abbrev pub message_marks : List Incoming → Header → List Bool
message_marks is h = map (λ (i : Incoming). incoming_takes i h) is

-- rule 3: the place of the open message that a block continues
unfoldable pub message_for : List Incoming → Header → Option ℕ
message_for is h = first_of (message_marks is h)

-- rule 6: "the system bytes of an open (not yet complete) incoming one"
unfoldable pub alike : Header → Incoming → Bool
alike h i = incoming_is_open i && eqb (primary_of i).system h.system

abbrev pub alike_marks : List Incoming → Header → List Bool
alike_marks is h = map (alike h) is

unfoldable pub open_alike : List Incoming → Header → Option ℕ
open_alike is h = first_of (alike_marks is h)

-- a tick at each
abbrev pub ticked_incoming : Terms → List Incoming → List Incoming
ticked_incoming c is = map (incoming_tick c) is
