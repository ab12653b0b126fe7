use Rattle.std.proofs.Common.{List, sym, subst}
use Rattle.std.specs.Prelude.{IsSome}
use Rattle.std.proofs.lemmas.List.{take_all}
use Rattle.wb_syntax_resolved.specs.declared.production.Child.{Child}
use Rattle.wb_syntax_resolved.specs.Grammar.{symbol_of}
use Rattle.wb_names_rows.specs.Inner.Grammars.{AreSymbolsOf}
use Rattle.wb_names_rows.proofs.MadeLemmas.{symbols_more}
use Rattle.wb_names_rows.proofs.grammar.symbols_of.Goals as goal

pub children-preserved : goal.children-preserved
children-preserved c =
    let some = subst (λ (z : Child). IsSome (symbol_of z.kind)) (sym c.child-item.is)
    (c.requires c.children.child-index c.child-item.result c.children-test.true) in
    symbols_more c.args.children.now c.children.child-index c.child-item.result c.children.symbols.items c.add_symbol.new.symbols.items
    c.children.invariant c.children-test.true c.child-item.is some c.in_ok-add_symbol.ensures

pub returns : goal.returns
returns c =
    subst (λ (z : List Child). AreSymbolsOf z c.children.symbols.items)
    (take_all c.children.child-index c.args.children.now c.children-test.false) c.children.invariant
