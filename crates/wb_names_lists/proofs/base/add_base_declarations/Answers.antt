use Rattle.std.proofs.Common.{◌++◌, ap, map, sym, append_assoc, refl, ◌∙◌}
use Rattle.std.specs.List.{flat_map}
use Rattle.std.proofs.lemmas.Result.{on_ok_weaker}
use Rattle.wb_syntax_resolved.specs.declared.attributes.Attribute.{Attribute}
use Rattle.wb_syntax_resolved.specs.declared.attributes.Nonterminal.{Nonterminal}
use Rattle.wb_syntax_resolved.specs.declared.attributes.Occurrence.{Occurrence}
use Rattle.wb_syntax_resolved.specs.declared.attribution.AttributionParts.{AttributionParts}
use Rattle.wb_syntax_resolved.specs.declared.terminal.Terminal.{Terminal}
use Rattle.wb_names_theory.specs.declared.declaration.Declaration.TheVariants as d
use Rattle.wb_names_theory.specs.declared.declaration.Sort.TheVariants as sort
use Rattle.wb_names_theory.specs.Declares.{attribute_name, base_names, nonterminal_name, production_declarations, terminal_sort}
use Rattle.wb_names_lists.proofs.ListLemmas.{both_added}
use Rattle.wb_names_lists.proofs.base.add_base_declarations.Goals as goal

pub returns : goal.returns
returns c =
    let b = c.args.base.now in
    let old = c.args.out.now.items in
    let of_terminal = (λ (x : Terminal). d.Symbol x.name (terminal_sort x.kind)) in
    let of_nonterminal = (λ (x : Nonterminal). d.Symbol x.name sort.Nonterminal) in
    let of_attribute = (λ (x : Attribute). d.Attribute x.name x.direction) in
    let of_occurrence = (λ (x : Occurrence). d.Occurrence (attribute_name b x.attribute) (nonterminal_name b x.nonterminal)) in
    let terminals = c.in_ok-add_terminals.ensures ∙ ap (λ z. old ++ map of_terminal z) c.as_slice.ensures in
    let nonterminals = both_added (map of_terminal b.terminals) _ (map of_nonterminal b.attributes.nonterminals) old
    c.add_terminals.new.out.items c.add_nonterminals.new.out.items terminals c.in_ok-add_nonterminals.ensures
    (ap (map of_nonterminal) (c.as_slice-2.ensures ∙ ap (λ (z : AttributionParts). z.nonterminals) c.parts-attributes.ensures.parts)) in
    let attributes = both_added _ _ (map of_attribute b.attributes.attributes) old c.add_nonterminals.new.out.items
    c.add_attributes.new.out.items nonterminals c.in_ok-add_attributes.ensures
    (ap (map of_attribute) (c.as_slice-3.ensures ∙ ap (λ (z : AttributionParts). z.attributes) c.parts-attributes.ensures.parts)) in
    on_ok_weaker c.add_numbered-answer.result (λ added. both_added (base_names b) _ _ old c.add_attributes.new.out.items
    c.add_numbered-answer.new.out.items attributes added refl
    ∙ ap (λ z. old ++ z) (sym (append_assoc (base_names b) (map of_occurrence b.attributes.occurrences)
    (flat_map (production_declarations b) b.attributes.productions)))) c.add_numbered-answer.ensures
