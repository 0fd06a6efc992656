-- The settings: as they are handed to a start, and as the unit goes by them (01, "Settings and time").
use Rattle.std.specs.Prelude.{Bool, false, cond, not, ◌&&◌, ltb, Option, Some, None}
use Rattle.settings.specs.Panel.{tenths_ticks, fifths_ticks, seconds_ticks}
use Rattle.settings.specs.Limits.{taken_of, limits_in_range}
use Rattle.settings.specs.Terms.{agreed_of, terms_in_range}
use Rattle.settings.specs.declared.limits.Panel.{Panel}
use Rattle.settings.specs.declared.limits.Limits.{Limits}
use Rattle.settings.specs.declared.terms.MessagePanel.{MessagePanel}
use Rattle.link.specs.declared.Setup.{Setup}
use Rattle.link.specs.declared.Settings.{Settings}
use Rattle.settings.specs.declared.terms.Terms.{Terms}

-- the line's settings; "host = slave, equipment = master"
abbrev pub panel_of : Setup → Panel
panel_of s = record { t1 = s.t1; t2 = s.t2; rty = s.rty; master = not s.host }

-- those of the messages
abbrev pub messages_of : Setup → MessagePanel
messages_of s = record { t3 = s.t3; t4 = s.t4; device = s.device; duplicates = s.duplicates; host = s.host }

abbrev pub agreed_by : Option Terms → Limits → Option Settings
agreed_by (Some terms) limits = Some (record { limits = limits; terms = terms })
agreed_by None limits = None

abbrev pub taken_by : Option Limits → Setup → Option Settings
taken_by (Some limits) s = agreed_by (agreed_of (messages_of s)) limits
taken_by None s = None

-- refusal 4: "setting out of range"
unfoldable pub ranged_of : Setup → Option Settings
ranged_of s = cond (ltb 31 s.rty) None (taken_by (taken_of (panel_of s)) s)

-- settings of no unit: none of T1 to T4 is in its range
abbrev pub no_settings : Settings
no_settings = record {
  limits = record { t1 = tenths_ticks (record { 0 = 0 }); t2 = fifths_ticks (record { 0 = 0 }); rty = 0; master = false };
  terms = record { t3 = seconds_ticks (record { 0 = 0 }); t4 = seconds_ticks (record { 0 = 0 }); device = 0; duplicates = false; host = false };
}

unfoldable pub settings_in_range : Settings → Bool
settings_in_range s = limits_in_range s.limits && terms_in_range s.terms
