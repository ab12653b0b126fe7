-- Expressions as they are added to others.
use Rattle.std.specs.Prelude.{◌++◌, List}
use Rattle.std.specs.List.{AllZip}
use Rattle.wb_regex.specs.Tree.{Tree}
use Rattle.wb_compose_texts.specs.Expressions.{IsExpressionOf, Row}

-- the expressions of these rows were added: whatever the old ones were of, the new ones are of that and then of these
abbrev pub AreAdded : List Row → (old new : List Tree) → Type 0
AreAdded rows old new = (before : List Row) → AllZip IsExpressionOf before old → AllZip IsExpressionOf (before ++ rows) new
