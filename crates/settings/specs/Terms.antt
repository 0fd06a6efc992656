-- The settings of the message protocol (01, "Settings and time").
use Rattle.std.specs.Prelude.{ℕ, Bool, cond, ◌&&◌, leb, eqb, Option, Some, None}
use Rattle.settings.specs.Panel.{between, seconds_ticks, seconds_in_range}
use Rattle.settings.specs.declared.terms.MessagePanel.{MessagePanel}
use Rattle.settings.specs.declared.terms.Terms.{Terms}

-- "In all rules and limits T1 to T4 mean ticks."; the duplicate check is on at 1
abbrev pub terms_of : MessagePanel → Terms
terms_of p = record { t3 = seconds_ticks p.t3; t4 = seconds_ticks p.t4; device = p.device; duplicates = eqb p.duplicates 1; host = p.host }

-- T3, T4 1 to 120, DEVID 0 to 32767, duplicate check 0 or 1
unfoldable pub message_panel_in_range : MessagePanel → Bool
message_panel_in_range p = seconds_in_range p.t3 && seconds_in_range p.t4 && leb p.device 32767 && leb p.duplicates 1

unfoldable pub agreed_of : MessagePanel → Option Terms
agreed_of p = cond (message_panel_in_range p) (Some (terms_of p)) None

-- refusal 4: "setting out of range"
abbrev pub agreed_number : Option Terms → ℕ
agreed_number (Some c) = 0
agreed_number None = 4

-- the ranges of docs/STATE.md, for the terms that a state holds
unfoldable pub terms_in_range : Terms → Bool
terms_in_range c = between 10 c.t3.0 1200 && between 10 c.t4.0 1200 && leb c.device 32767
