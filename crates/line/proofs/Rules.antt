-- The rules of each phase (`specs/Rules.antt`). Assumes nothing.
use Prim.Native.Nat.{ℕ, ◌+◌}
use mathlib.Core.Path.{◌≡◌, refl}
use mathlib.Core.List.{List}
use mathlib.Core.Bool.{Bool, true, false}
use native.Mathlib.Omega.{arith}
use lib.Dec.{ltb, eqb}
use borrow.Author.Tests.{le-leb, lt-leb, lt-ltb, le-ltb, eq-eqb, ne_eqb}
use Rattle.wire.specs.Bytes.{pair_of}
use Rattle.settings.specs.Panel.{between}
use Rattle.settings.proofs.Timers.{runs, runs_out}
use Rattle.line.proofs.Retrying.{above, not_above}
use Rattle.line.specs.Codes.{ENQ, EOT, ACK}
use Rattle.line.specs.Line.{line_at, retry_of, give_way, holding, eot_byte, ack_byte, length_byte, low_byte, body_byte, idle_byte, settle_idle, byte_of, drained_of, ask_of, settle_of}
use Rattle.line.specs.Rules.{says, Retries, IdleRules, WaitEotRules, DrainingRules, DrainedElsewhere, WaitAckRules, WaitLengthRules, BodyRules, SilenceRules, LineRules, Sends, wait_eot, draining, wait_ack, Receives, wait_length, body, silence}
use Rattle.line.specs.declared.phase.Phase.{Phase}
use Rattle.line.specs.declared.phase.Phase.TheVariants.{WaitEot, WaitAck}
use Rattle.line.specs.declared.phase.Fault.{Fault}
use Rattle.line.specs.declared.step.Out.TheVariants.{Nothing}
use Rattle.settings.specs.declared.limits.Limits.{Limits}

retries : (c : Limits) (h : Bool) (p : Phase) (tries : ℕ) → Retries c h tries (retry_of c (line_at h p) tries)
unfolding retry_of
retries c h p tries =
    record {
      above = λ o. simp (above c tries o);
      else_again = λ o. simp (not_above c tries o);
    }

idle_rules : (c : Limits) (rs : List ℕ) (h : Bool) → IdleRules c rs h
unfolding idle_byte settle_idle holding
idle_rules c rs h =
    record { enq = refl; other = λ b n. simp (ne_eqb b ENQ n); ticks = refl; held = refl; none_held = refl; asked = refl }

wait_eot_rules : (c : Limits) (rs : List ℕ) (h : Bool) (timer tries : ℕ) → WaitEotRules c rs h timer tries
unfolding eot_byte give_way holding
wait_eot_rules c rs h timer tries =
    record {
      eot = refl;
      enq_slave = λ m. simp m;
      enq_master = λ m. simp m;
      other = λ b n n'. simp (ne_eqb b EOT n, ne_eqb b ENQ n');
      in_time = λ i. rw (runs c.t2 timer (omega arith));
      beyond = λ i. rw (runs_out c.t2 timer (omega arith)) (retries c h (WaitEot timer tries) tries);
    }

draining_rules : (c : Limits) (rs : List ℕ) (h : Bool) (tries : ℕ) → DrainingRules c rs h tries
draining_rules c rs h tries = record { bytes = λ b. refl; drains = refl; ticks = refl }

drained_receiving : (h : Bool) (p : Phase) → Receives p → drained_of (line_at h p) ≡ line_at h p
drained_receiving h _ (wait_length timer) = refl
drained_receiving h _ (body timer a) = refl
drained_receiving h _ (silence timer f) = refl

drained_elsewhere : (h : Bool) → DrainedElsewhere h
drained_elsewhere h = record { idle = refl; wait_eot = λ timer tries. refl; wait_ack = λ timer tries. refl; receiving = drained_receiving h }

wait_ack_rules : (c : Limits) (rs : List ℕ) (h : Bool) (timer tries : ℕ) → WaitAckRules c rs h timer tries
unfolding ack_byte settle_idle holding
wait_ack_rules c rs h timer tries =
    record {
      ack = refl;
      then_next = refl;
      other = λ b n. rw (ne_eqb b ACK n) (retries c h (WaitAck timer tries) tries);
      in_time = λ i. rw (runs c.t2 timer (omega arith));
      beyond = λ i. rw (runs_out c.t2 timer (omega arith)) (retries c h (WaitAck timer tries) tries);
    }

wait_length_rules : (c : Limits) (rs : List ℕ) (h : Bool) (timer : ℕ) → WaitLengthRules c rs h timer
unfolding length_byte between
wait_length_rules c rs h timer =
    record {
      opens = λ b ten most. simp (le-leb 10 b ten, le-leb b 254 most);
      short = λ b i. simp (lt-leb 10 b i);
      long = λ b i. simp (le-leb 10 b (omega arith), lt-leb b 254 i);
      in_time = λ i. rw (runs c.t2 timer (omega arith));
      beyond = λ i. rw (runs_out c.t2 timer (omega arith));
    }

-- the byte after the N bytes and the high one
low_byte_lem : (n : ℕ) → (ltb (n + 1) n ≡ false) × (eqb (n + 1) n ≡ false)
low_byte_lem n = (le-ltb (n + 1) n (omega arith), ne_eqb (n + 1) n (λ e. omega arith))

body_rules : (c : Limits) (rs : List ℕ) (h : Bool) (timer n sum high : ℕ) → BodyRules c rs h timer n sum high
unfolding body_byte low_byte
body_rules c rs h timer n sum high =
    record {
      one_of_n = λ got less b. simp (lt-ltb got n less);
      high_byte = λ b. simp (le-ltb n n (omega arith), eq-eqb n n refl);
      equal = λ b e. simp ((low_byte_lem n).0, (low_byte_lem n).1, eq-eqb (pair_of high b) sum e);
      unequal = λ b ne. simp ((low_byte_lem n).0, (low_byte_lem n).1, ne_eqb (pair_of high b) sum ne);
      in_time = λ a i. rw (runs c.t1 timer (omega arith));
      beyond = λ a i. rw (runs_out c.t1 timer (omega arith));
    }

silence_rules : (c : Limits) (rs : List ℕ) (h : Bool) (timer : ℕ) (f : Fault) → SilenceRules c rs h timer f
silence_rules c rs h timer f =
    record {
      bytes = λ b. refl;
      in_time = λ i. rw (runs c.t1 timer (omega arith));
      beyond = λ i. rw (runs_out c.t1 timer (omega arith));
    }

ask_receiving : (h : Bool) (p : Phase) → Receives p → ask_of (line_at h p) ≡ line_at true p
unfolding holding
ask_receiving h _ (wait_length timer) = refl
ask_receiving h _ (body timer a) = refl
ask_receiving h _ (silence timer f) = refl

ask_sending : (h : Bool) (p : Phase) → Sends p → ask_of (line_at h p) ≡ line_at h p
ask_sending h _ (wait_eot timer tries) = refl
ask_sending h _ (draining tries) = refl
ask_sending h _ (wait_ack timer tries) = refl

settle_receiving : (h : Bool) (p : Phase) → Receives p → settle_of (line_at h p) ≡ says h p Nothing
settle_receiving h _ (wait_length timer) = refl
settle_receiving h _ (body timer a) = refl
settle_receiving h _ (silence timer f) = refl

settle_sending : (h : Bool) (p : Phase) → Sends p → settle_of (line_at h p) ≡ says h p Nothing
settle_sending h _ (wait_eot timer tries) = refl
settle_sending h _ (draining tries) = refl
settle_sending h _ (wait_ack timer tries) = refl

received_sending : (c : Limits) (rs : List ℕ) (h : Bool) (p : Phase) → Sends p → (b : ℕ) → (byte_of c (line_at h p) b rs).received ≡ rs
received_sending c rs h _ (wait_eot timer tries) b = refl
received_sending c rs h _ (draining tries) b = refl
received_sending c rs h _ (wait_ack timer tries) b = refl

pub line_rules : LineRules
line_rules =
    record {
      idle = idle_rules;
      wait_eot = wait_eot_rules;
      draining = draining_rules;
      drained_elsewhere = drained_elsewhere;
      wait_ack = wait_ack_rules;
      wait_length = wait_length_rules;
      body = body_rules;
      silence = silence_rules;
      held = λ h. record { ask_receiving = ask_receiving h; ask_sending = ask_sending h; settle_receiving = settle_receiving h; settle_sending = settle_sending h; withdrawn = λ p. refl };
      received_elsewhere =
          λ c rs h. record { idle = λ b. refl; sending = received_sending c rs h; length = λ timer b. refl; silence = λ timer f b. refl };
    }
