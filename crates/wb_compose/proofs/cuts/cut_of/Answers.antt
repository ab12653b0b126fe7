use Rattle.std.proofs.Common.{◌≡◌, ◌∙◌, ap, sym}
use Rattle.std.specs.Prelude.{List, ℕ, Some, [], slice_index_or}
use Rattle.wb_syntax_resolved.specs.declared.attribution.AttributionParts.{AttributionParts}
use Rattle.wb_syntax_resolved.specs.declared.resolved.ResolvedParts.{ResolvedParts}
use Rattle.wb_compose.specs.Inner.Cuts.{added_by}
use Rattle.wb_compose.proofs.cuts.cut_of.Goals as goal

pub returns : goal.returns
returns c =
    let host = c.args.host.now in
    let e = c.args.extension.now in
    let own = c.lent_of-own.result in
    let attributes : own.attributes.now ≡ e.resolved.attributes =
    c.lent_of-own.ensures.attributes ∙ ap (λ (r : ResolvedParts). r.attributes) c.resolved.ensures.resolved in
    let start : e.resolved.grammar ≡ Some own.grammar.now =
    ap (λ (r : ResolvedParts). r.grammar) (sym c.resolved.ensures.resolved) ∙ c.lent_of-own.ensures.grammar in
    record {
      grammar = own.grammar.now;
      start = start;
      name_is = sym (ap (λ (names : List (List ℕ)). slice_index_or names 0 []) c.name.ensures);
      rows_are = c.added_rows.ensures
          ∙ ap (λ (a : AttributionParts). added_by host.attributes.now host.grammar.now a own.grammar.now) attributes;
      written_are = c.as_slice.ensures ∙ ap (λ (a : AttributionParts). a.productions) attributes;
      both = λ h host_start. c.certified_both.ensures h own.grammar.now host_start start;
    }
