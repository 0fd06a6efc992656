-- A timer (01, "Settings and time"): "A timer starts at 0, each later tick adds 1, and it runs out on the tick that makes it
-- exceed its limit".
use Rattle.std.specs.Prelude.{ℕ, ◌+◌, cond, ltb, Option, Some, None}
use Rattle.settings.specs.declared.panel.Ticks.{Ticks}

-- what one tick makes of a timer
unfoldable pub ticked : Ticks → ℕ → Option ℕ
ticked limit timer = cond (ltb limit.0 (timer + 1)) None (Some (timer + 1))
