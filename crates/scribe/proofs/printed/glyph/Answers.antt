-- `printed::glyph` meets its contract.
use borrow.Author.Tests.{le-ltb, lt-ltb}
use Rattle.script.specs.Hex.{glyph_of}
use Rattle.scribe.proofs.printed.glyph.Goals as goal

pub returns-then-digit-lt10 : goal.returns-then-digit-lt10
unfolding glyph_of
returns-then-digit-lt10 c = rw (lt-ltb _ _ c.if-digit-lt10.true)

pub returns : goal.returns
unfolding glyph_of
returns c = rw (le-ltb _ _ c.if-digit-lt10.false)
