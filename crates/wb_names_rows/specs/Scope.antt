-- Names in the order of their numbers, and the numbers and places that they stand for.
use Rattle.std.specs.Prelude.{◌≡◌, ◌⊎◌, ◌<◌, ◌+◌, ◌++◌, ℕ, List, Some, All, Contains, map, length, slice_get}
use Rattle.wb_syntax_resolved.specs.declared.equation.Place.{Place}
use Rattle.wb_syntax_resolved.specs.declared.equation.Place.TheVariants as place
use Rattle.wb_syntax_resolved.specs.declared.production.Child.{Child}
use Rattle.wb_syntax_resolved.specs.Once.{Entry}
use Rattle.wb_syntax_resolved.specs.Owners.{Sees}
use Rattle.wb_syntax.specs.declared.production.Child as named
use Rattle.wb_syntax.specs.declared.production.NamedKind.{NamedKind}
use Rattle.wb_syntax.specs.Names.{kind_names}
use Rattle.wb_names_numbers_theory.specs.Numbering.{Numbering, Labels}
use Rattle.wb_names_numbers_theory.specs.Written.{IsWrittenChild}
use Rattle.wb_names_rows.specs.declared.scope.Scope.{Scope}
use Rattle.wb_names_rows.specs.declared.scope.ProductionLabels.{ProductionLabels}

-- the names are those of the entries, each of which the owner sees
pub record AreNames (names : List (List ℕ)) (entries : List Entry) (owner : ℕ) : Type 0 where
  pub are : names ≡ map (λ (e : Entry). e.1) entries
  pub seen : (e : Entry) → Contains entries e → Sees owner e.0

-- the scope has the names of this numbering
pub record IsScope (s : Scope) (n : Numbering) : Type 0 where
  pub terminals : AreNames s.terminals n.terminals s.owner
  pub nonterminals : AreNames s.nonterminals n.nonterminals s.owner
  pub attributes : AreNames s.attributes n.attributes s.owner
  pub productions : AreNames s.productions n.productions s.owner

-- the label has this place
abbrev pub IsLabelOf : ProductionLabels → List ℕ → Place → Type 0
IsLabelOf labels label (place.Child k) = (k < labels.children) × (slice_get labels.names k ≡ Some label)
IsLabelOf labels label (place.Local k) = slice_get labels.names (labels.children + k) ≡ Some label

-- they are the labels of a production
pub record AreLabels (labels : ProductionLabels) (of : Labels) (owner : ℕ) : Type 0 where
  pub names : labels.names ≡ of.children ++ map (λ (e : Entry). e.1) of.locals
  pub count : labels.children ≡ length of.children
  pub seen : (e : Entry) → Contains of.locals e → Sees owner e.0

-- the name in a kind is there, as a terminal or a nonterminal
abbrev pub KindIsThere : Scope → NamedKind → Type 0
KindIsThere s kind = All (λ name. Contains s.terminals name ⊎ Contains s.nonterminals name) (kind_names kind)

-- the child is this one, where the scope has the names of a numbering
abbrev pub IsFoundChild : Scope → Numbering → named.Child → Child → Type 0
IsFoundChild s n child to = IsScope s n → IsWrittenChild n s.owner child to
