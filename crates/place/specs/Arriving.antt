-- A message that is arriving (E4 7.2; 01, "Messages"): from its first block, if that has E = 0, to its last one, or until it breaks.
-- One machine for a reply to us and for a message of the far end.
use Rattle.std.specs.Prelude.{ℕ, ◌+◌, Bool, ◌&&◌, eqb, Option, Some, None}
use Rattle.std.specs.Bool.{beq}
use Rattle.header.specs.declared.header.Header.{Header}
use Rattle.settings.specs.Timer.{ticked}
use Rattle.settings.specs.declared.terms.Terms.{Terms}
use Rattle.place.specs.declared.Kind.{Kind}
use Rattle.place.specs.declared.Arriving.{Arriving}

-- what a block says of its message
abbrev pub kind_of : Header → Kind
kind_of h = record { w = h.w; stream = h.stream; function = h.function }

-- 7: a block with E = 0 is kept, n data bytes in all; "With E = 0, T4 restarts."
abbrev pub arriving_from : Header → ℕ → Arriving
arriving_from h n = record { timer = 0; next = h.number + 1; kind = kind_of h; length = n }

-- ---- time

-- so many ticks since the last block kept
abbrev pub arriving_after : Arriving → ℕ → Arriving
arriving_after a timer = record { timer = timer; next = a.next; kind = a.kind; length = a.length }

-- "T4 beyond its limit breaks the message."
abbrev pub waited_by : Arriving → Option ℕ → Option Arriving
waited_by a None = None
waited_by a (Some timer) = Some (arriving_after a timer)

unfoldable pub arriving_tick : Terms → Arriving → Option Arriving
arriving_tick c a = waited_by a (ticked c.t4 a.timer)

-- ---- its further blocks

abbrev pub same_bit : Bool → Bool → Bool
same_bit a b = beq a b

-- "W, stream, function"
unfoldable pub same_kind : Kind → Header → Bool
same_kind k h = eqb k.stream h.stream && eqb k.function h.function && same_bit k.w h.w

-- "Continues an open message (device ID, system bytes, W, stream, function and next number)"; device ID and system bytes of that
-- message are known to its place
unfoldable pub continues_arriving : (device system : ℕ) → Arriving → Header → Bool
continues_arriving device system a h =
    eqb device h.device && eqb system h.system && eqb h.number a.next && same_kind a.kind h
