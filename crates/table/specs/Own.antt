-- The four own places.
use Rattle.std.specs.Prelude.{ℕ, Bool, List, map, get_or, set, Option}
use Rattle.header.specs.declared.header.Header.{Header}
use Rattle.settings.specs.declared.terms.Terms.{Terms}
use Rattle.place.specs.Own.{fresh_own, own_is_free, own_takes, own_tick}
use Rattle.place.specs.declared.Own.{Own}
use Rattle.table.specs.Find.{first_of}

-- the place; one outside the table is as a free one
abbrev pub own_at : List Own → ℕ → Own
own_at os p = get_or os p fresh_own

-- the table with place p put anew; outside it nothing is put
abbrev pub own_put : List Own → ℕ → Own → List Own
own_put os p o = set os p o

abbrev pub free_marks : List Own → List Bool
free_marks os = map own_is_free os

-- "A primary takes the lowest free own place."
unfoldable pub free_own : List Own → Option ℕ
free_own os = first_of (free_marks os)

abbrev pub reply_marks : List Own → Header → List Bool
reply_marks os h = map (λ (o : Own). own_takes o h) os

-- rule 3: the place of the reply that a block is of
unfoldable pub reply_for : List Own → Header → Option ℕ
reply_for os h = first_of (reply_marks os h)

-- a tick at each
abbrev pub ticked_own : Terms → List Own → List Own
ticked_own c os = map (own_tick c) os
