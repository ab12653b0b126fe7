use Rattle.std.proofs.Common.{◌≡◌, ◌++◌, take, map}
use Rattle.wb_syntax_resolved.specs.declared.attributes.Nonterminal.{Nonterminal}
use Rattle.wb_names_theory.specs.declared.declaration.Declaration.TheVariants as d
use Rattle.wb_names_theory.specs.declared.declaration.Sort.TheVariants as sort
use Rattle.wb_names_lists.proofs.base.add_nonterminals.Given as goal

abbrev pub invariant-nonterminals : goal.invariant-nonterminals
invariant-nonterminals l = l.out.items ≡ l.fn.out.items ++ map (λ (x : Nonterminal). d.Symbol x.name sort.Nonterminal) (take l.nonterminal-index l.nonterminals)
