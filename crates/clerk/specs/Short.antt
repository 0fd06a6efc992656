-- What functions of the clerk say that are not public: on a tick they look first whether a report can be due at all.
use Rattle.std.specs.Prelude.{Bool, false, ◌||◌, List, get_or}

-- one of four marks is set
abbrev pub is_marked : List Bool → Bool
is_marked l = get_or l 0 false || (get_or l 1 false || (get_or l 2 false || get_or l 3 false))
