use Rattle.std.proofs.Common.{take}
use Rattle.wb_compose_language.specs.Inner.Known.{AreTexts}
use Rattle.wb_compose_language.proofs.known.texts_of.Given as goal

abbrev pub invariant-patterns : goal.invariant-patterns
invariant-patterns l = AreTexts (take l.pattern-index l.patterns) l.texts.items
