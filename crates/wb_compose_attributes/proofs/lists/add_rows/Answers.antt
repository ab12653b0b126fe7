use Rattle.std.proofs.Common.{refl}
use Rattle.wb_compose_attributes.proofs.lists.add_rows.Goals as goal

pub returns : goal.returns
returns c = record {
  extensions = refl;
  nonterminals = c.in_ok-add_nonterminals.ensures;
  attributes = c.in_ok-add_attributes.ensures;
  occurrences = c.in_ok-add_occurrences.ensures;
  productions = refl;
}
