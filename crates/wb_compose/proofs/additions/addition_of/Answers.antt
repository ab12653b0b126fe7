use Rattle.std.proofs.Common.{◌≡◌, ◌∙◌, ap, sym}
use Rattle.std.specs.Prelude.{List, ℕ, [], slice_index_or}
use Rattle.wb_syntax_resolved.specs.declared.resolved.ResolvedParts.{ResolvedParts}
use Rattle.wb_compose.proofs.additions.addition_of.Goals as goal

pub returns : goal.returns
returns c =
    let e = c.args.extension.now in
    let parts : c.parts-parts.result.now ≡ e.resolved = c.parts-parts.ensures.parts ∙ c.resolved.ensures.resolved in
    let start = ap (λ (r : ResolvedParts). r.grammar) (sym parts) ∙ c.in-Some.is in record {
      start = start;
      terminals_are = c.as_slice.ensures ∙ ap (λ (r : ResolvedParts). r.terminals) parts;
      preferences_are = c.as_slice-in-Some.ensures ∙ ap (λ (r : ResolvedParts). r.preferences) parts;
      name_is = sym (ap (λ (names : List (List ℕ)). slice_index_or names 0 []) c.name.ensures);
      both = λ h host_start. c.certified_both.ensures h c.in-Some.grammar host_start start;
    }
