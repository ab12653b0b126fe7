use Rattle.std.proofs.Common.{[], ◌∷◌, ◌++◌, drop}
use Rattle.std.specs.Prelude.{◌↔◌}
use Rattle.wb_base.specs.declared.symbol.Symbol.TheVariants.{Terminal}
use Rattle.wb_grammar_theory.specs.Derives.{IsFirst}
use Rattle.wb_recheck_entries.proofs.begins.begins.Given as goal

abbrev pub invariant-symbols : goal.invariant-symbols
invariant-symbols l =
    IsFirst l.grammar (l.symbols ++ Terminal l.last ∷ []) l.terminal
    ↔ IsFirst l.grammar (drop l.symbol-index l.symbols ++ Terminal l.last ∷ []) l.terminal
