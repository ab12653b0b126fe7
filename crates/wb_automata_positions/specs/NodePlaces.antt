-- A machine of places as nodes have it: node i has the place i, where a plus goes on is behind all of these, and the ends are last.
use Rattle.std.specs.Prelude.{◌≡◌, ◌-◌, ℕ, Option, Some, None, List, length, slice_get, slice_index}
use Rattle.wb_regex.specs.declared.node.RegexNode.{RegexNode}
use Rattle.wb_regex.specs.declared.node.RegexNode.TheVariants as n
use Rattle.wb_automata_positions.specs.declared.places.Place.{Place}
use Rattle.wb_automata_positions.specs.declared.places.Place.TheVariants as p
use Rattle.wb_automata_positions.specs.Places.{GoesOn}

-- what is at the place of a node that goes on at `next`
abbrev pub first_place : RegexNode → ℕ → Place
first_place (n.Set words) next = p.Read words next
first_place (n.Sequence i j) next = p.Go i
first_place (n.Choice i j) next = p.Fork i j
first_place (n.Star i) next = p.Fork i next
first_place (n.Plus i) next = p.Go i
first_place (n.Maybe i) next = p.Fork i next

-- what is at the second place of a node, where the part of a plus goes on
abbrev pub again_place : RegexNode → ℕ → Place
again_place (n.Set words) next = p.Go next
again_place (n.Sequence i j) next = p.Go next
again_place (n.Choice i j) next = p.Go next
again_place (n.Star i) next = p.Go next
again_place (n.Plus i) next = p.Fork i next
again_place (n.Maybe i) next = p.Go next

-- the place of the one node, or the second place of the other, or an end
abbrev pub place_in : Option RegexNode → Option RegexNode → ℕ → ℕ → ℕ → Place
place_in (Some node) other next again k = first_place node next
place_in None (Some node) next again k = again_place node again
place_in None None next again k = p.End k

-- what is at place i, where each node goes on at its place in `next`
abbrev pub place_of : List RegexNode → List ℕ → ℕ → Place
place_of nodes next i = place_in (slice_get nodes i) (slice_get nodes (i - length nodes)) (slice_index next i)
    (slice_index next (i - length nodes)) (i - length nodes - length nodes)

-- from the one place one comes to the other without reading
pub data Reaches (nodes : List RegexNode) (next : List ℕ) : ℕ → ℕ → Type 0 where
  stays : {i j : ℕ} → j ≡ i → Reaches nodes next i j
  goes : {i j : ℕ} (q : ℕ) → GoesOn (place_of nodes next i) q → Reaches nodes next q j → Reaches nodes next i j
