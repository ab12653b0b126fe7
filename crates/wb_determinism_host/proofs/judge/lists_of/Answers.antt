use Rattle.std.proofs.Common.{◌≡◌, ◌∙◌, ap, map}
use Rattle.wb_syntax_resolved.specs.declared.resolved.ResolvedParts.{ResolvedParts}
use Rattle.wb_syntax_resolved.specs.declared.terminal.Preference.{Preference}
use Rattle.wb_syntax_resolved.specs.declared.terminal.Terminal.{Terminal}
use Rattle.wb_determinism_host.specs.Lexicons.{is_layout_of}
use Rattle.wb_determinism_host.proofs.judge.lists_of.Goals as goal

pub returns : goal.returns
returns c =
    let terminals : c.as_slice-terminals.result.now ≡ c.args.resolved.now.terminals =
    c.as_slice-terminals.ensures ∙ ap (λ (p : ResolvedParts). p.terminals) c.parts-parts.ensures.parts in
    let preferences : c.as_slice.result.now ≡ c.args.resolved.now.preferences =
    c.as_slice.ensures ∙ ap (λ (p : ResolvedParts). p.preferences) c.parts-parts.ensures.parts in record {
      expressions = c.in_ok-expressions.ensures ∙ ap (map (λ (t : Terminal). t.pattern)) terminals;
      layout = c.in_ok-layout.ensures ∙ ap (map (is_layout_of c.args.everywhere)) terminals;
      own_layout = c.in_ok-own_layout.ensures ∙ ap (map (is_layout_of c.args.own)) terminals;
      pairs = c.in_ok-pairs.ensures ∙ ap (map (λ (p : Preference). (p.first, p.second))) preferences;
    }
