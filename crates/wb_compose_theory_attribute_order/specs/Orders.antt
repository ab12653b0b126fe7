-- Where the numbers of the attributes of a host with extensions are, when the extensions come in another order.
use Rattle.std.specs.Prelude.{◌+◌, ℕ, List, Option, Some, None, cond, length, ltb, map}
use Rattle.wb_compose_theory_lists.specs.Additions.{Addition, Rows}
use Rattle.wb_compose_theory_lists.specs.Numbers.{host_locals}
use Rattle.wb_compose_theory_attribute_order.specs.Renumberings.{Renumbering}
use Rattle.wb_compose_theory_order.specs.Orders.{number_to}
use Rattle.wb_compose_theory_grammar.specs.Places.{Place, of_extension, of_host, past, place_of, total_of}
use Rattle.wb_compose_theory_attributes.specs.Numbers.{NumberMap}

-- what is the host's at a place among productions: those that lead, and so many that follow all that lead
abbrev pub host_number_at : (leading following : ℕ) → Place → Option ℕ
host_number_at leading following (of_host p) = Some p
host_number_at leading following (of_extension k p) = None
host_number_at leading following (past p) = cond (ltb p following) (Some (leading + p)) None

-- the number that the host alone has for a production of the union, where it is one of the host
abbrev pub host_number : Rows → List Addition → ℕ → Option ℕ
host_number host all p =
    host_number_at (length host.productions) (length host.abstract_productions)
    (place_of (length host.productions) (map (λ (x : Addition). length x.rows.productions) all) p)

-- where the numbers of the union of the extensions in the first order are in that of the second
module _ (host : Rows) (all others : List Addition) (to : ℕ → ℕ) where
  -- a number, where the host has `own` numbers and each extension so many
  abbrev pub moved : (own : ℕ) → (Addition → ℕ) → ℕ → ℕ
  moved own size number = number_to own (map size all) (map size others) to number

  -- one of two groups: those of the host and of the extensions that lead, and those that follow
  abbrev pub moved_grouped : (leading following : ℕ) → (lead follow : Addition → ℕ) → ℕ → ℕ
  moved_grouped leading following lead follow number =
      moved (leading + total_of (map lead all) + following) follow (moved leading lead number)

  -- a local of the host's production of this number, and one of what is no production of the host
  abbrev pub moved_local : Option ℕ → ℕ → ℕ
  moved_local None number = number
  moved_local (Some p) number = moved (length (host_locals host p)) (λ (x : Addition). length (x.locals p)) number

  -- the new numbers
  abbrev pub reordered_numbers : NumberMap
  reordered_numbers = record {
    terminal = moved host.terminals (λ (x : Addition). x.rows.terminals);
    nonterminal = moved_grouped (length host.nonterminals) (length host.abstract_nonterminals)
        (λ (x : Addition). length x.rows.nonterminals) (λ (x : Addition). length x.rows.abstract_nonterminals);
    attribute = moved (length host.attributes) (λ (x : Addition). length x.rows.attributes);
    production = moved_grouped (length host.productions) (length host.abstract_productions)
        (λ (x : Addition). length x.rows.productions) (λ (x : Addition). length x.rows.abstract_productions);
    local_in = λ p. moved_local (host_number host all p);
  }

  -- the new numbers, with the places of the extensions
  abbrev pub reordered_rows : Renumbering
  reordered_rows = record { numbers = reordered_numbers; extension = to }
