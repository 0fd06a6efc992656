-- Panel steps, their ranges, and what they are in ticks of 0.1 s (01, "Settings and time").
use Rattle.std.specs.Prelude.{ℕ, ◌*◌, Bool, ◌&&◌, leb}
use Rattle.settings.specs.declared.panel.Tenths.{Tenths}
use Rattle.settings.specs.declared.panel.Fifths.{Fifths}
use Rattle.settings.specs.declared.panel.Seconds.{Seconds}
use Rattle.settings.specs.declared.panel.Ticks.{Ticks}

-- T1: "0.1 s"
abbrev pub tenths_ticks : Tenths → Ticks
tenths_ticks p = record { 0 = p.0 }

-- T2: "0.2 s"
abbrev pub fifths_ticks : Fifths → Ticks
fifths_ticks p = record { 0 = p.0 * 2 }

-- T3, T4: "1 s"
abbrev pub seconds_ticks : Seconds → Ticks
seconds_ticks p = record { 0 = p.0 * 10 }

-- "low to high"
unfoldable pub between : ℕ → ℕ → ℕ → Bool
between low n high = leb low n && leb n high

-- T1: "1 to 100"
abbrev pub tenths_in_range : Tenths → Bool
tenths_in_range p = between 1 p.0 100

-- T2: "1 to 125"
abbrev pub fifths_in_range : Fifths → Bool
fifths_in_range p = between 1 p.0 125

-- T3, T4: "1 to 120"
abbrev pub seconds_in_range : Seconds → Bool
seconds_in_range p = between 1 p.0 120
