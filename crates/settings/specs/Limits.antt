-- The settings of the line (01, "Settings and time").
use Rattle.std.specs.Prelude.{ℕ, Bool, cond, ◌&&◌, leb, Option, Some, None}
use Rattle.settings.specs.Panel.{between, tenths_ticks, fifths_ticks, tenths_in_range, fifths_in_range}
use Rattle.settings.specs.declared.limits.Panel.{Panel}
use Rattle.settings.specs.declared.limits.Limits.{Limits}

-- "In all rules and limits T1 to T4 mean ticks."
abbrev pub limits_of : Panel → Limits
limits_of p = record { t1 = tenths_ticks p.t1; t2 = fifths_ticks p.t2; rty = p.rty; master = p.master }

-- T1 1 to 100, T2 1 to 125, RTY 0 to 31
unfoldable pub panel_in_range : Panel → Bool
panel_in_range p = tenths_in_range p.t1 && fifths_in_range p.t2 && leb p.rty 31

unfoldable pub taken_of : Panel → Option Limits
taken_of p = cond (panel_in_range p) (Some (limits_of p)) None

-- refusal 4: "setting out of range"
abbrev pub taken_number : Option Limits → ℕ
taken_number (Some c) = 0
taken_number None = 4

-- the ranges of docs/STATE.md, for the limits that a state holds
unfoldable pub limits_in_range : Limits → Bool
limits_in_range c = between 1 c.t1.0 100 && between 2 c.t2.0 250 && leb c.rty 31
