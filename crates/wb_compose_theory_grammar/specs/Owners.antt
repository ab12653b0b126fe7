-- Who owns what is at a place, and which marks are past all terminals.
use Rattle.std.specs.Prelude.{ℕ, zero, suc, List, [], ◌∷◌}
use Rattle.wb_compose_theory.specs.Worlds.{Owner, host, hole, extension, top, Mark, bare, on}
use Rattle.wb_compose_theory_grammar.specs.Places.{Place, of_host, of_extension, past}

-- what is past all terminals: the holes, one for each of these nonterminals, and the end of a text
abbrev pub past_terminal_owner : List ℕ → ℕ → Owner
past_terminal_owner [] zero = host
past_terminal_owner [] (suc j) = top
past_terminal_owner (a ∷ extensible) zero = hole
past_terminal_owner (a ∷ extensible) (suc j) = past_terminal_owner extensible j

abbrev pub past_mark : List ℕ → ℕ → Mark
past_mark [] j = bare
past_mark (a ∷ extensible) zero = on a
past_mark (a ∷ extensible) (suc j) = past_mark extensible j

-- what is past all productions: those of the holes, and the added production
abbrev pub past_production_owner : List ℕ → ℕ → Owner
past_production_owner [] j = top
past_production_owner (a ∷ extensible) zero = hole
past_production_owner (a ∷ extensible) (suc j) = past_production_owner extensible j

-- the owner at a place
abbrev pub owner_at : (ℕ → Owner) → Place → Owner
owner_at past_owner (of_host i) = host
owner_at past_owner (of_extension k i) = extension k
owner_at past_owner (past j) = past_owner j
