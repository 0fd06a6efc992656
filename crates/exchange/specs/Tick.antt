-- A tick: "own places 0 to 3, then incoming places 0 to 3" (01, "Messages"); and what is reported of it (02, request 2).
use Rattle.std.specs.Prelude.{ℕ, ◌≡◌, Bool, true, false, cond, not, ◌&&◌, ◌||◌, List, [], ◌∷◌, length}
use Rattle.settings.specs.declared.terms.Terms.{Terms}
use Rattle.place.specs.Incoming.{incoming_is_free, incoming_is_open}
use Rattle.reports.specs.Reports.{report}
use Rattle.place.specs.declared.Verdict.{Verdict}
use Rattle.place.specs.declared.Verdict.TheVariants as verdict
use Rattle.place.specs.declared.OwnStage.{OwnStage}
use Rattle.place.specs.declared.OwnStage.TheVariants as own
use Rattle.place.specs.declared.Own.{Own}
use Rattle.place.specs.declared.Incoming.{Incoming}
use Rattle.table.specs.Own.{own_at, ticked_own}
use Rattle.table.specs.Incoming.{incoming_at, ticked_incoming}
use Rattle.exchange.specs.Flags.{no_marks, no_flags}
use Rattle.exchange.specs.Exchange.{got_verdict, latest_after}
use Rattle.exchange.specs.Reports.{outbox_of, with_outbox, caused}
use Rattle.exchange.specs.declared.Outbox.{Outbox}
use Rattle.exchange.specs.declared.Exchange.{Exchange}
use Rattle.exchange.specs.declared.Changed.{Changed}

-- which own places got their verdict
abbrev pub got_marks : List Own → List Own → List Bool
got_marks os qs =
    got_verdict (own_at os 0) (own_at qs 0) ∷ got_verdict (own_at os 1) (own_at qs 1)
    ∷ got_verdict (own_at os 2) (own_at qs 2) ∷ got_verdict (own_at os 3) (own_at qs 3) ∷ []

-- of several verdicts in one tick the last of places 0 to 3 is the latest
abbrev pub latest_over : ℕ → List Own → List Own → ℕ
latest_over latest os qs =
    latest_after
    (latest_after (latest_after (latest_after latest (own_at os 0) (own_at qs 0)) (own_at os 1) (own_at qs 1)) (own_at os 2) (own_at qs 2))
    (own_at os 3)
    (own_at qs 3)

-- a tick drops an open message whose T4 runs out
unfoldable pub was_dropped : Incoming → Incoming → Bool
was_dropped before after = incoming_is_open before && incoming_is_free after

abbrev pub gone_marks : List Incoming → List Incoming → List Bool
gone_marks is js =
    was_dropped (incoming_at is 0) (incoming_at js 0) ∷ was_dropped (incoming_at is 1) (incoming_at js 1)
    ∷ was_dropped (incoming_at is 2) (incoming_at js 2) ∷ was_dropped (incoming_at is 3) (incoming_at js 3) ∷ []

-- what the places make of it
unfoldable pub passed_of : Terms → Exchange → Changed
passed_of c x = record {
  exchange = record {
    own = ticked_own c x.own;
    incoming = ticked_incoming c x.incoming;
    saved = x.saved;
    numbers = record { last = x.numbers.last; latest = latest_over x.numbers.latest x.own (ticked_own c x.own) };
    sending = x.sending;
    reports = x.reports;
  };
  flags = record {
    verdicts = got_marks x.own (ticked_own c x.own);
    completed = no_marks;
    dropped = gone_marks x.incoming (ticked_incoming c x.incoming);
  };
}

-- ---- "verdict 6 gives S9F9"

abbrev pub is_no_reply : Verdict → Bool
is_no_reply verdict.Sent = false
is_no_reply verdict.Answered = false
is_no_reply verdict.Declined = false
is_no_reply verdict.Other = false
is_no_reply verdict.Broken = false
is_no_reply verdict.NoReply = true
is_no_reply verdict.SendFailed = false

-- a place has it
abbrev pub no_reply_at : OwnStage → Bool
no_reply_at own.Free = false
no_reply_at own.Sending = false
no_reply_at own.PutOut = false
no_reply_at (own.Awaiting timer) = false
no_reply_at (own.Replying a) = false
no_reply_at (own.Done v r) = is_no_reply v

-- and got it now
unfoldable pub got_no_reply : Own → Own → Bool
got_no_reply before after = got_verdict before after && no_reply_at after.stage

-- "for S9F9 of the primary's last": the header that its place keeps; os are the places before the tick, qs behind it
unfoldable pub late_at : Terms → List Own → List Own → ℕ → ℕ → Outbox → Outbox
late_at c os qs latest p b = cond (got_no_reply (own_at os p) (own_at qs p)) (caused c qs latest b (report 9 (own_at qs p).header)) b

-- places 0 to 3 add theirs (reading 34)
unfoldable pub late_over : Terms → List Own → List Own → ℕ → Outbox → Outbox
late_over c os qs latest b = late_at c os qs latest 3 (late_at c os qs latest 2 (late_at c os qs latest 1 (late_at c os qs latest 0 b)))

-- what time leaves, y, with what is reported of it
abbrev pub reports_late : Terms → Exchange → Changed → Changed
reports_late c x y = record {
  exchange = with_outbox y.exchange (late_over c x.own y.exchange.own y.exchange.numbers.latest (outbox_of y.exchange));
  flags = y.flags;
}

abbrev pub tick_of : Terms → Exchange → Changed
tick_of c x = reports_late c x (passed_of c x)

-- ---- a tick at which no timer runs

-- T3 or T4 runs at an own place
abbrev pub timed_at : OwnStage → Bool
timed_at own.Free = false
timed_at own.Sending = false
timed_at own.PutOut = false
timed_at (own.Awaiting timer) = true
timed_at (own.Replying a) = true
timed_at (own.Done v r) = false

abbrev pub own_timed : Own → Bool
own_timed o = timed_at o.stage

unfoldable pub owns_timed : List Own → Bool
owns_timed os = own_timed (own_at os 0) || (own_timed (own_at os 1) || (own_timed (own_at os 2) || own_timed (own_at os 3)))

-- T4 runs while a message is open
unfoldable pub incomings_timed : List Incoming → Bool
incomings_timed is =
    incoming_is_open (incoming_at is 0) || (incoming_is_open (incoming_at is 1) || (incoming_is_open (incoming_at is 2) || incoming_is_open (incoming_at is 3)))

unfoldable pub is_still : Exchange → Bool
is_still x = not (owns_timed x.own) && not (incomings_timed x.incoming)

-- such a tick changes nothing and raises no flag
abbrev pub StillTick : Type 0
StillTick =
    (c : Terms) (x : Exchange) → length x.own ≡ 4 → length x.incoming ≡ 4 → is_still x ≡ true → tick_of c x ≡ record { exchange = x; flags = no_flags }
