-- The expressions of terminals.
use Rattle.std.specs.Prelude.{List, map}
use Rattle.wb_regex.specs.Tree.{Tree}
use Rattle.wb_syntax_resolved.specs.declared.terminal.Terminal.{Terminal}

-- the expression of each terminal
abbrev pub patterns_of : List Terminal → List Tree
patterns_of terminals = map (λ (t : Terminal). t.pattern) terminals
