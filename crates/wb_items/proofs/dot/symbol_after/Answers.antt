use Rattle.std.proofs.Common.{sym, ◌∙◌, ap, arith, [], ◌∷◌}
use Rattle.wb_base.specs.declared.symbol.Symbol.TheVariants.{Nonterminal}
use Rattle.wb_items.proofs.SymbolLemmas.{symbol_some, symbol_past, symbol_last, symbol_end, symbol_none}
use Rattle.wb_items.proofs.dot.symbol_after.Goals as goal

pub returns-then-item-productions-clause-symbol : goal.returns-then-item-productions-clause-symbol
returns-then-item-productions-clause-symbol c = symbol_none c.args.grammar.now c.args.item (omega arith)

pub returns-then-item-eq0-clause-symbol : goal.returns-then-item-eq0-clause-symbol
returns-then-item-eq0-clause-symbol c = (
  [],
  symbol_last c.args.grammar.now c.args.item (omega arith) (omega arith) ∙
      ap (λ s. Nonterminal s ∷ []) (sym c.start.ensures.start),
)

pub returns-else-item-eq0-clause-symbol : goal.returns-else-item-eq0-clause-symbol
returns-else-item-eq0-clause-symbol c = symbol_end c.args.grammar.now c.args.item (omega arith) c.if-item-eq0.false

pub returns-then-item-right-clause-symbol : goal.returns-then-item-right-clause-symbol
returns-then-item-right-clause-symbol c = symbol_some c.args.grammar.now c.args.item c.right-right.result.now _
    (omega arith) c.right-right.ensures.right c.if-item-right.true

pub returns-else-item-right-clause-symbol : goal.returns-else-item-right-clause-symbol
returns-else-item-right-clause-symbol c = symbol_past c.args.grammar.now c.args.item c.right-right.result.now
    (omega arith) c.right-right.ensures.right c.if-item-right.false
