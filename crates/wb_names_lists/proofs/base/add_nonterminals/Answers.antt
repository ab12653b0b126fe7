use Rattle.wb_syntax_resolved.specs.declared.attributes.Nonterminal.{Nonterminal}
use Rattle.wb_names_theory.specs.declared.declaration.Declaration.TheVariants as d
use Rattle.wb_names_theory.specs.declared.declaration.Sort.TheVariants as sort
use Rattle.wb_names_lists.proofs.ListLemmas.{map_next, map_all}
use Rattle.wb_names_lists.proofs.base.add_nonterminals.Goals as goal

pub nonterminals-preserved : goal.nonterminals-preserved
nonterminals-preserved c =
    map_next (λ (x : Nonterminal). d.Symbol x.name sort.Nonterminal)
    c.args.nonterminals.now c.nonterminals.nonterminal-index c.nonterminal-item.result c.args.out.now.items c.nonterminals.out.items
    c.add_symbol.new.out.items
    c.nonterminals.invariant c.nonterminals-test.true c.nonterminal-item.is c.in_ok-add_symbol.ensures

pub returns : goal.returns
returns c =
    map_all (λ (x : Nonterminal). d.Symbol x.name sort.Nonterminal)
    c.args.nonterminals.now c.nonterminals.nonterminal-index c.args.out.now.items c.nonterminals.out.items c.nonterminals.invariant
    c.nonterminals-test.false
