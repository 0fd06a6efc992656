-- When a byte or a tick takes the short way: the line tells and remarks nothing, and puts no block out.
use Rattle.std.specs.Prelude.{Bool, true, false}
use Rattle.line.specs.declared.step.Out.{Out}
use Rattle.line.specs.declared.step.Out.TheVariants as out
use Rattle.line.specs.declared.step.Told.{Told}
use Rattle.line.specs.declared.step.Told.TheVariants as told
use Rattle.line.specs.declared.step.Remark.{Remark}
use Rattle.line.specs.declared.step.Remark.TheVariants as remark

abbrev pub remarks_nothing : Remark → Bool
remarks_nothing remark.Nothing = true
remarks_nothing remark.GaveWay = false
remarks_nothing remark.NoLength = false
remarks_nothing remark.Gap = false
remarks_nothing (remark.Bad fault) = false

abbrev pub says_nothing : Told → Remark → Bool
says_nothing told.Nothing r = remarks_nothing r
says_nothing told.PutOut r = false
says_nothing told.Sent r = false
says_nothing told.Failed r = false
says_nothing (told.Up n) r = false

abbrev pub is_quiet : Out → Told → Remark → Bool
is_quiet out.Nothing t r = says_nothing t r
is_quiet (out.Code c) t r = says_nothing t r
is_quiet out.Block t r = false
