-- No rows, names and numbers.
use Rattle.std.specs.Prelude.{◌≡◌, ℕ, List, []}
use Rattle.wb_names_rows.specs.declared.scope.Scope.{Scope}
use Rattle.wb_names_symbols.specs.declared.symbols.Symbols.{Symbols}

-- the names of a file of this owner, where attributes alone have some
abbrev pub no_names : ℕ → List (List ℕ) → Scope
no_names owner attributes =
    record { owner = owner; terminals = []; nonterminals = []; attributes = attributes; productions = [] }

-- no rows, names and numbers, in a file of this owner
pub record IsEmpty (owner : ℕ) (g : Symbols) : Type 0 where
  pub scanned : g.terminals.scanned.items ≡ []
  pub layout : g.terminals.layout.items ≡ []
  pub of_grammar : g.nonterminals.of_grammar.items ≡ []
  pub others : g.nonterminals.others.items ≡ []
  pub scope : g.scope ≡ no_names owner []
  pub by_terminal : g.moves.terminals.items ≡ []
  pub by_nonterminal : g.moves.nonterminals.items ≡ []
  pub by_production : g.moves.productions.items ≡ []
