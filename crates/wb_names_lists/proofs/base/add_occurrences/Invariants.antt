use Rattle.std.proofs.Common.{◌≡◌, ◌++◌, take, map}
use Rattle.wb_syntax_resolved.specs.declared.attributes.Occurrence.{Occurrence}
use Rattle.wb_names_theory.specs.declared.declaration.Declaration.TheVariants as d
use Rattle.wb_names_theory.specs.Declares.{attribute_name, nonterminal_name}
use Rattle.wb_names_lists.proofs.base.add_occurrences.Given as goal

abbrev pub invariant-occurrences : goal.invariant-occurrences
invariant-occurrences l = l.out.items ≡ l.fn.out.items ++ map (λ (x : Occurrence). d.Occurrence (attribute_name l.base x.attribute) (nonterminal_name l.base x.nonterminal)) (take l.occurrence-index l.occurrences)
