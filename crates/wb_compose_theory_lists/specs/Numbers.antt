-- The numbers of a host, and of each of its extensions with the host alone, in the union of all.
use Rattle.std.specs.Prelude.{◌+◌, ◌-◌, ◌++◌, ℕ, List, [], Option, Some, None, length, map, slice_get, ltb, cond}
use Rattle.wb_syntax_resolved.specs.declared.production.Local.{Local}
use Rattle.wb_syntax_resolved.specs.declared.production.Production.{Production}
use Rattle.wb_compose_theory_grammar.specs.Places.{count_before, total_of}
use Rattle.wb_compose_theory.specs.Blocks.{lift}
use Rattle.wb_compose_theory_attributes.specs.Numbers.{NumberMap}
use Rattle.wb_compose_theory_lists.specs.Additions.{Rows, Addition}
use Rattle.wb_compose_theory_lists.specs.Joined.{Block, place_after, place_grouped}

-- the locals of what may be a production
abbrev pub locals_in : Option Production → List Local
locals_in None = []
locals_in (Some production) = production.locals

-- the host's own locals on its production of this number
abbrev pub host_locals : Rows → ℕ → List Local
host_locals host p = locals_in (slice_get (host.productions ++ host.abstract_productions) p)

-- the number that a production of the host has in the host with the extension, and the number in the host of one that is the host's
abbrev pub number_with : Rows → Addition → ℕ → ℕ
number_with host x p = lift (length host.productions) (length x.rows.productions) p

abbrev pub number_without : Rows → Addition → ℕ → Option ℕ
number_without host x p = cond (ltb p (length host.productions)) (Some p)
    (cond (ltb p (length host.productions + length x.rows.productions)) None
    (cond (ltb p (length host.productions + length x.rows.productions + length host.abstract_productions))
    (Some (p - length x.rows.productions)) None))

-- how many productions come before the abstract ones of an extension, in the host with it alone
abbrev pub before_abstract : Rows → Addition → ℕ
before_abstract host x = length host.productions + length x.rows.productions + length host.abstract_productions

module _ (host : Rows) (all : List Addition) where
  -- how many an extension has, among all
  abbrev pub block_of : (Addition → ℕ) → ℕ → Addition → Block
  block_of size k x = record { before = count_before (map size all) k; size = size x; total = total_of (map size all) }

  -- the host's locals on a production stay, and those of the extensions come after them
  abbrev pub local_number : ℕ → Addition → Option ℕ → ℕ → ℕ
  local_number k x None number = number
  local_number k x (Some p) number = place_after (length (host_locals host p)) (block_of (λ (y : Addition). length (y.locals p)) k x) number

  -- the numbers of the host with the k-th extension
  abbrev pub numbers_of : ℕ → Addition → NumberMap
  numbers_of k x = record {
    terminal = place_after host.terminals (block_of (λ (y : Addition). y.rows.terminals) k x);
    nonterminal = place_grouped (length host.nonterminals) (length host.abstract_nonterminals)
        (block_of (λ (y : Addition). length y.rows.nonterminals) k x)
        (block_of (λ (y : Addition). length y.rows.abstract_nonterminals) k x);
    attribute = place_after (length host.attributes) (block_of (λ (y : Addition). length y.rows.attributes) k x);
    production = place_grouped (length host.productions) (length host.abstract_productions)
        (block_of (λ (y : Addition). length y.rows.productions) k x)
        (block_of (λ (y : Addition). length y.rows.abstract_productions) k x);
    local_in = λ p. local_number k x (number_without host x p);
  }
