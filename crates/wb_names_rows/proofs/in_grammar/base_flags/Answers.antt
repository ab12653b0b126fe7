use Rattle.std.proofs.Common.{◌≡◌, subst, ap, ◌∙◌, false, length, replicate}
use Rattle.std.specs.List.{flat_map}
use Rattle.wb_syntax_resolved.specs.declared.attribution.AttributionParts.{AttributionParts}
use Rattle.wb_syntax_resolved.specs.declared.production.Production.{Production}
use Rattle.wb_names_rows.specs.Inner.Marks.{Marks, role_numbers}
use Rattle.wb_names_rows.proofs.MarkLemmas.{marks_exact}
use Rattle.wb_names_rows.proofs.in_grammar.base_flags.Goals as goal

pub returns-clause-exact : goal.returns-clause-exact
returns-clause-exact c =
    marks_exact c.args.base.now (length c.args.base.now.attributes.nonterminals) c.in_ok-flags.flags.items c.mark_start.new.flags.items
    c.mark_all.new.flags.items c.mark_productions.new.flags.items
    (c.in_ok-flags.ensures.items_if_clones_equal (λ y same. same) ∙ ap (λ n. replicate n false) count) c.mark_start.ensures
    (subst (λ z. Marks z c.mark_start.new.flags.items c.mark_all.new.flags.items) c.as_slice.ensures c.mark_all.ensures)
    (subst (λ z. Marks (flat_map (λ (p : Production). role_numbers p.role p) z) c.mark_all.new.flags.items c.mark_productions.new.flags.items)
    (c.as_slice-2.ensures ∙ ap (λ (z : AttributionParts). z.productions) c.parts-attributes.ensures.parts) c.mark_productions.ensures) where
      count : c.len.result ≡ length c.args.base.now.attributes.nonterminals
      count = c.len.ensures ∙ ap (λ (z : AttributionParts). length z.nonterminals) c.parts-attributes.ensures.parts
