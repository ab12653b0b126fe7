use Rattle.std.proofs.Common.{List, Some, ap, refl, subst, sym, ◌∙◌}
use Rattle.std.specs.List.{AllZip}
use Rattle.std.proofs.lemmas.Option.{slice_get-get_or}
use Rattle.wb_syntax_resolved.specs.Expression.{Node}
use Rattle.wb_names_rows.specs.Moves.{IsNodeNow}
use Rattle.wb_names_rows.proofs.moves.moved_local.Goals as goal

pub returns : goal.returns
returns c = record {
  label = c.in_ok-label.ensures.ok;
  owner = refl;
  offset = refl;
  nonterminal = slice_get-get_or c.args.moves.now.nonterminals.items c.args.local.now.nonterminal c.index.result.now c.requires.nonterminal
      ∙ ap Some (sym c.index.ensures);
  nodes = subst (λ (z : List Node). AllZip (IsNodeNow c.args.moves.now) z c.in_ok-nodes.nodes) c.as_slice.ensures c.in_ok-nodes.ensures;
}
