-- What the line has to do with what a call tells the transactions: each thing exactly when. With these a statement of
-- `specs/Verdicts.antt` or `specs/Moves.antt` speaks of the line; another device would have its own. Each proof is in `proofs/`.
use Rattle.std.specs.Prelude.{ℕ, ◌+◌, ◌<◌, ◌≡◌, Bool, true, false, List, [], ◌∷◌, ◌++◌, ◌↔◌, eqb, length}
use Rattle.wire.specs.Bytes.{part}
use Rattle.header.specs.Header.{first_ten}
use Rattle.line.specs.Codes.{EOT, ACK}
use Rattle.line.specs.History as line
use Rattle.line.specs.Theorems.{IsBlock}
use Rattle.line.specs.declared.step.Told.{Told}
use Rattle.line.specs.declared.step.Told.TheVariants as told
use Rattle.exchange.specs.Request.{Request}
use Rattle.exchange.specs.History as exchange
use Rattle.link.specs.Run.{has_next, byte_step, tick_step, drained_step}
use Rattle.link.specs.History.{Call, byte, tick, drained, request, Made, step_in, Track, on_exchange_in}
use Rattle.link.specs.Inside.{Always}
use Rattle.link.specs.Verdicts.{Accepted, Tells}
use Rattle.link.specs.declared.Link.{Link}

-- The step that a call makes on the line is the line's own: the unit's words for it, by which its calls go (specs/Run.antt), say no more and
-- no less than the line does.
pub record StepIsLines : Type 0 where
  -- of a byte
  pub byte : (u : Link) (b : ℕ) (fits : b < 256) → byte_step u b ≡ line.called u.settings.limits u.line u.received (line.byte b fits)
  -- of a tick
  pub tick : (u : Link) → tick_step u ≡ line.called u.settings.limits u.line u.received line.tick
  -- of drained
  pub drained : (u : Link) → drained_step u ≡ line.called u.settings.limits u.line u.received line.drained

-- the line tells this in it
pub record LineTells (t : Track) (m : Made) (e : Told) : Type 0 where
  pub accepted : Accepted t m
  pub told : (step_in t.link m.call).step.told ≡ e

-- the byte x came in it
abbrev pub comes : ℕ → Call → Bool
comes x (byte b fits) = eqb b x
comes x tick = false
comes x drained = false
comes x (request r) = false

-- "EOT puts out the whole block": the line tells so exactly if EOT came while it was waited for
abbrev pub PutOutExactly : Type 0
PutOutExactly = Always (λ t. (m : Made) → LineTells t m told.PutOut ↔ (Accepted t m × (comes EOT m.call ≡ true) × (t.seen.ours ≡ line.enquired)))

-- "ACK means sent": the line tells so exactly if ACK came while it was waited for
abbrev pub SentExactly : Type 0
SentExactly = Always (λ t. (m : Made) → LineTells t m told.Sent ↔ (Accepted t m × (comes ACK m.call ≡ true) × (t.seen.ours ≡ line.left)))

-- With this call's byte a block of n bytes has come whole: since our EOT its length, the n bytes of its body, and their sum (`IsBlock`,
-- line/specs/Theorems.antt).
pub record CameWhole (t : Track) (m : Made) (n : ℕ) (body : List ℕ) : Type 0 where
  pub accepted : Accepted t m
  -- a block of the far end is being received: our EOT went out, and neither ACK nor NAK since
  pub receiving : t.seen.theirs ≡ true
  -- the byte that came in this call is the last of it
  pub last : ℕ
  pub came : comes last m.call ≡ true
  pub whole : IsBlock n body (t.seen.bytes ++ (last ∷ []))

-- "Equal sums: ACK, and the block goes up": the line tells so exactly if one has come whole
abbrev pub UpExactly : Type 0
UpExactly = Always (λ t. (m : Made) (n : ℕ) → LineTells t m (told.Up n) ↔ ((body : List ℕ) × CameWhole t m n body))

-- a block of n bytes went up: its ten header bytes, and its data
pub record WentUp (t : Track) (m : Made) (h d : List ℕ) : Type 0 where
  pub size : ℕ
  pub told : LineTells t m (told.Up size)
  pub header : first_ten (step_in t.link m.call).received ≡ h
  pub rest : part 10 size (step_in t.link m.call).received ≡ d

-- and these are the bytes that came: its header the first ten of its body, its data all the others
abbrev pub WentUpExactly : Type 0
WentUpExactly = Always (λ t. (m : Made) (h d : List ℕ) → WentUp t m h d ↔ ((length h ≡ 10) × CameWhole t m (10 + length d) (h ++ d)))

-- What the transactions are told, each exactly when.
pub record ToldWhen (t : Track) (m : Made) : Type 0 where
  -- a message's last block that is put out
  pub put_out : Tells t m exchange.put_out ↔ (LineTells t m told.PutOut × (has_next t.link ≡ false))
  -- the ACK of a message's last block
  pub acknowledged : Tells t m exchange.acknowledged ↔ (LineTells t m told.Sent × (has_next t.link ≡ false))
  -- a send that failed
  pub failed : Tells t m exchange.failed ↔ LineTells t m told.Failed
  -- a block that went up
  pub block : (h d : List ℕ) → Tells t m (exchange.block h d) ↔ WentUp t m h d
  -- a tick, a request, that was not refused
  pub ticks : Tells t m exchange.tick ↔ (Accepted t m × (m.call ≡ tick))
  pub asks : (r : Request) → Tells t m (exchange.request r) ↔ (Accepted t m × (m.call ≡ request r))

abbrev pub ToldExactly : Type 0
ToldExactly = (t : Track) (m : Made) → ToldWhen t m

-- In one call they are told nothing, one thing, or that a send failed and that 0.1 s passed.
pub data Few : List exchange.Call → Type 0 where
  none : Few []
  one : (k : exchange.Call) → Few (k ∷ [])
  lost_on_tick_lem : Few (exchange.failed ∷ exchange.tick ∷ [])

abbrev pub FewTold : Type 0
FewTold = (t : Track) (m : Made) → Few (on_exchange_in t m)
