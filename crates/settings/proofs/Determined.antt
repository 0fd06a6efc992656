-- The contract of each public function asks nothing and determines the result. Assumes nothing.
use mathlib.Core.Path.{sym, ◌∙◌}
use Rattle.wire.specs.Determined.{Determined}
use Rattle.settings.proofs.panel.Tenths.ticks.Reads as tenths_ticks_reads
use Rattle.settings.proofs.panel.Tenths.ticks.Kinds as tenths_ticks_kinds
use Rattle.settings.proofs.panel.Tenths.in_range.Reads as tenths_in_range_reads
use Rattle.settings.proofs.panel.Tenths.in_range.Kinds as tenths_in_range_kinds
use Rattle.settings.proofs.panel.Fifths.ticks.Reads as fifths_ticks_reads
use Rattle.settings.proofs.panel.Fifths.ticks.Kinds as fifths_ticks_kinds
use Rattle.settings.proofs.panel.Fifths.in_range.Reads as fifths_in_range_reads
use Rattle.settings.proofs.panel.Fifths.in_range.Kinds as fifths_in_range_kinds
use Rattle.settings.proofs.panel.Seconds.ticks.Reads as seconds_ticks_reads
use Rattle.settings.proofs.panel.Seconds.ticks.Kinds as seconds_ticks_kinds
use Rattle.settings.proofs.panel.Seconds.in_range.Reads as seconds_in_range_reads
use Rattle.settings.proofs.panel.Seconds.in_range.Kinds as seconds_in_range_kinds
use Rattle.settings.proofs.panel.Ticks.count.Reads as count_reads
use Rattle.settings.proofs.panel.Ticks.count.Kinds as count_kinds
use Rattle.settings.proofs.panel.Ticks.tick.Reads as tick_reads
use Rattle.settings.proofs.panel.Ticks.tick.Kinds as tick_kinds
use Rattle.settings.proofs.limits.Panel.limits.Reads as panel_limits_reads
use Rattle.settings.proofs.limits.Panel.limits.Kinds as panel_limits_kinds
use Rattle.settings.proofs.limits.Limits.in_range.Reads as limits_in_range_reads
use Rattle.settings.proofs.limits.Limits.in_range.Kinds as limits_in_range_kinds
use Rattle.settings.proofs.terms.MessagePanel.terms.Reads as terms_reads
use Rattle.settings.proofs.terms.MessagePanel.terms.Kinds as terms_kinds
use Rattle.settings.proofs.terms.Terms.in_range.Reads as terms_in_range_reads
use Rattle.settings.proofs.terms.Terms.in_range.Kinds as terms_in_range_kinds

pub tenths_ticks_determined : Determined 0 tenths_ticks_kinds.ps tenths_ticks_kinds.r tenths_ticks_reads.Asked tenths_ticks_reads.Post (λ κs r s. r)
tenths_ticks_determined κs a = (tt, λ x y s t p q. p ∙ sym q)

pub tenths_in_range_determined : Determined 0 tenths_in_range_kinds.ps tenths_in_range_kinds.r tenths_in_range_reads.Asked tenths_in_range_reads.Post (λ κs r s. r)
tenths_in_range_determined κs a = (tt, λ x y s t p q. p ∙ sym q)

pub fifths_ticks_determined : Determined 0 fifths_ticks_kinds.ps fifths_ticks_kinds.r fifths_ticks_reads.Asked fifths_ticks_reads.Post (λ κs r s. r)
fifths_ticks_determined κs a = (tt, λ x y s t p q. p ∙ sym q)

pub fifths_in_range_determined : Determined 0 fifths_in_range_kinds.ps fifths_in_range_kinds.r fifths_in_range_reads.Asked fifths_in_range_reads.Post (λ κs r s. r)
fifths_in_range_determined κs a = (tt, λ x y s t p q. p ∙ sym q)

pub seconds_ticks_determined : Determined 0 seconds_ticks_kinds.ps seconds_ticks_kinds.r seconds_ticks_reads.Asked seconds_ticks_reads.Post (λ κs r s. r)
seconds_ticks_determined κs a = (tt, λ x y s t p q. p ∙ sym q)

pub seconds_in_range_determined : Determined 0 seconds_in_range_kinds.ps seconds_in_range_kinds.r seconds_in_range_reads.Asked seconds_in_range_reads.Post (λ κs r s. r)
seconds_in_range_determined κs a = (tt, λ x y s t p q. p ∙ sym q)

pub count_determined : Determined 0 count_kinds.ps count_kinds.r count_reads.Asked count_reads.Post (λ κs r s. r)
count_determined κs a = (tt, λ x y s t p q. p ∙ sym q)

pub tick_determined : Determined 0 tick_kinds.ps tick_kinds.r tick_reads.Asked tick_reads.Post (λ κs r s. r)
tick_determined κs a = (tt, λ x y s t p q. p ∙ sym q)

pub panel_limits_determined : Determined 0 panel_limits_kinds.ps panel_limits_kinds.r panel_limits_reads.Asked panel_limits_reads.Post (λ κs r s. r)
panel_limits_determined κs a = (tt, λ x y s t p q. p ∙ sym q)

pub limits_in_range_determined : Determined 0 limits_in_range_kinds.ps limits_in_range_kinds.r limits_in_range_reads.Asked limits_in_range_reads.Post (λ κs r s. r)
limits_in_range_determined κs a = (tt, λ x y s t p q. p ∙ sym q)

pub terms_determined : Determined 0 terms_kinds.ps terms_kinds.r terms_reads.Asked terms_reads.Post (λ κs r s. r)
terms_determined κs a = (tt, λ x y s t p q. p ∙ sym q)

pub terms_in_range_determined : Determined 0 terms_in_range_kinds.ps terms_in_range_kinds.r terms_in_range_reads.Asked terms_in_range_reads.Post (λ κs r s. r)
terms_in_range_determined κs a = (tt, λ x y s t p q. p ∙ sym q)
