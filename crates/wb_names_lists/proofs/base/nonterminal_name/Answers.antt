use Rattle.std.proofs.Common.{List, ap, slice_get, ◌∙◌}
use Rattle.wb_syntax_resolved.specs.declared.attributes.Nonterminal.{Nonterminal}
use Rattle.wb_syntax_resolved.specs.declared.attribution.AttributionParts.{AttributionParts}
use Rattle.wb_names_theory.specs.Declares.{name_in}
use Rattle.wb_names_lists.proofs.ListLemmas.{name_at, no_name_past}
use Rattle.wb_names_lists.proofs.base.nonterminal_name.Goals as goal

pub returns-in-Some : goal.returns-in-Some
returns-in-Some c =
    let same = c.as_slice.ensures ∙ ap (λ (z : AttributionParts). z.nonterminals) c.parts.ensures.parts in
    name_at (λ (x : Nonterminal). x.name) c.as_slice.result.now c.args.number c.in-Some.nonterminal.now c.in-Some.ensures.lookup.0
    c.in-Some.ensures.lookup.1 ∙ ap (λ (z : List Nonterminal). name_in (λ (x : Nonterminal). x.name) (slice_get z c.args.number)) same

pub returns-in-None : goal.returns-in-None
returns-in-None c =
    let same = c.as_slice.ensures ∙ ap (λ (z : AttributionParts). z.nonterminals) c.parts.ensures.parts in
    c.requires ∙ (no_name_past (λ (x : Nonterminal). x.name) c.as_slice.result.now c.args.number c.in-None.ensures.lookup.0
    ∙ ap (λ (z : List Nonterminal). name_in (λ (x : Nonterminal). x.name) (slice_get z c.args.number)) same)
