-- New numbers by blocks.
use Rattle.std.specs.Prelude.{ℕ}
use Rattle.wb_compose_theory.specs.Blocks.{spread}
use Rattle.wb_compose_theory_attributes.specs.Numbers.{NumberMap}
use Rattle.wb_compose_attributes.specs.declared.numbers.Block.{Block}
use Rattle.wb_compose_attributes.specs.declared.numbers.Grouped.{Grouped}
use Rattle.wb_compose_attributes.specs.declared.numbers.Numbers.{Numbers}

-- the new number where there is one group
abbrev pub place_in : Block → ℕ → ℕ
place_in b number = spread b.own b.before b.size b.total number

-- the new number where there are two
abbrev pub grouped_in : Grouped → ℕ → ℕ
grouped_in g number = place_in g.follow (place_in g.lead number)

-- the new numbers, with those of locals on one production
abbrev pub map_of : Numbers → NumberMap
map_of n = record {
  terminal = place_in n.terminal;
  nonterminal = grouped_in n.nonterminal;
  attribute = place_in n.attribute;
  production = grouped_in n.production;
  local_in = λ p. place_in n.local;
}
