-- That the names which are declared are there, so that each name that is used has a number.
use Rattle.std.specs.Prelude.{List, ℕ, Contains}
use Rattle.wb_syntax_resolved.specs.declared.attributes.Direction.{Direction}
use Rattle.wb_names_theory.specs.declared.declaration.Declaration.{Declaration}
use Rattle.wb_names_theory.specs.declared.declaration.Sort.TheVariants as sort
use Rattle.wb_names_theory.specs.Meaning.{IsSymbol, IsAttribute}
use Rattle.wb_names_rows.specs.declared.scope.Scope.{Scope}

-- the scope has the names of what is declared; layout is among its terminals
pub record HasDeclared (s : Scope) (declared : List Declaration) : Type 0 where
  pub terminals : (name : List ℕ) → IsSymbol declared name sort.Terminal → Contains s.terminals name
  pub markers : (name : List ℕ) → IsSymbol declared name sort.Marker → Contains s.terminals name
  pub layout : (name : List ℕ) → IsSymbol declared name sort.Layout → Contains s.terminals name
  pub nonterminals : (name : List ℕ) → IsSymbol declared name sort.Nonterminal → Contains s.nonterminals name
  pub productions : (name : List ℕ) → IsSymbol declared name sort.Production → Contains s.productions name
  pub attributes : (name : List ℕ) (goes : Direction) → IsAttribute declared name goes → Contains s.attributes name
