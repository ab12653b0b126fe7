use Rattle.std.proofs.Common.{Contains, take}
use Rattle.wb_names_theory.specs.Declarations.{nonterminals}
use Rattle.wb_names_symbols.specs.Inner.Nonterminals.{AddsApart, IsDeclaredRow}
use Rattle.wb_names_symbols.proofs.nonterminals.add_declared.Given as goal

abbrev pub invariant-loop-item : goal.invariant-loop-item
invariant-loop-item l =
    AddsApart (Contains l.known.grammar.now) (IsDeclaredRow l.known.scope.now.owner l.known.items.now l.known.scope.now.attributes)
    (nonterminals (take l.item-index l.known.items.now)) l.fn.made l.made
