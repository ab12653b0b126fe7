use Rattle.std.proofs.Common.{◌++◌, ◌∷◌, [], ap, ◌∙◌}
use Rattle.wb_syntax_resolved.specs.declared.attributes.Occurrence.{Occurrence}
use Rattle.wb_names_theory.specs.declared.declaration.Declaration.TheVariants as d
use Rattle.wb_names_theory.specs.Declares.{attribute_name, nonterminal_name}
use Rattle.wb_names_lists.proofs.ListLemmas.{map_next, map_all}
use Rattle.wb_names_lists.proofs.base.add_occurrences.Goals as goal

pub occurrences-preserved : goal.occurrences-preserved
occurrences-preserved c =
    map_next (λ (x : Occurrence). d.Occurrence (attribute_name c.args.base.now x.attribute)
    (nonterminal_name c.args.base.now x.nonterminal))
    c.args.occurrences.now c.occurrences.occurrence-index c.occurrence-item.result c.args.out.now.items c.occurrences.out.items
    c.add_occurrence.new.out.items
    c.occurrences.invariant c.occurrences-test.true c.occurrence-item.is
    (c.in_ok-add_occurrence.ensures
    ∙ (ap (λ z. c.occurrences.out.items ++ d.Occurrence z c.nonterminal_name-nonterminal.result.now ∷ [])
    c.attribute_name-attribute.ensures
    ∙ ap (λ z. c.occurrences.out.items ++ d.Occurrence (attribute_name c.args.base.now c.occurrence-item.result.attribute) z ∷ [])
    c.nonterminal_name-nonterminal.ensures))

pub returns : goal.returns
returns c =
    map_all (λ (x : Occurrence). d.Occurrence (attribute_name c.args.base.now x.attribute) (nonterminal_name c.args.base.now x.nonterminal))
    c.args.occurrences.now c.occurrences.occurrence-index c.args.out.now.items c.occurrences.out.items c.occurrences.invariant
    c.occurrences-test.false
