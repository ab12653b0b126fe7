-- N4: each name is of the kind that its place asks for. When that fails, and with which name.
use Rattle.std.specs.Prelude.{◌≡◌, ◌⊎◌, ℕ, zero, List, [], ◌∷◌, Contains, flat_map}
use Rattle.wb_syntax_resolved.specs.declared.attributes.Direction.{Direction}
use Rattle.wb_syntax_resolved.specs.declared.attributes.Direction.TheVariants.{Synthesized, Inherited}
use Rattle.wb_syntax.specs.declared.expression.Equation.{Equation}
use Rattle.wb_syntax.specs.declared.expression.Target.{Target}
use Rattle.wb_syntax.specs.declared.expression.Target.TheVariants as t
use Rattle.wb_syntax.specs.declared.item.Item.{Item}
use Rattle.wb_syntax.specs.declared.item.ItemForm.{ItemForm}
use Rattle.wb_syntax.specs.declared.item.ItemForm.TheVariants as f
use Rattle.wb_syntax.specs.declared.pattern.Pattern.{Pattern}
use Rattle.wb_syntax.specs.declared.pattern.Role.{Role}
use Rattle.wb_syntax.specs.declared.pattern.Role.TheVariants as r
use Rattle.wb_syntax.specs.declared.production.Child.{Child}
use Rattle.wb_syntax.specs.declared.production.NamedKind.{NamedKind}
use Rattle.wb_syntax.specs.declared.production.NamedKind.TheVariants as k
use Rattle.wb_syntax.specs.declared.production.ProductionRole.{ProductionRole}
use Rattle.wb_syntax.specs.declared.production.ProductionRole.TheVariants.{Concrete, Abstract}
use Rattle.wb_names_theory.specs.declared.declaration.Declaration.{Declaration}
use Rattle.wb_names_theory.specs.declared.declaration.Labelled.{Labelled}
use Rattle.wb_names_theory.specs.declared.declaration.Sort.{Sort}
use Rattle.wb_names_theory.specs.declared.declaration.Sort.TheVariants as s
use Rattle.wb_names_theory.specs.declared.usage.LabelWanted.{LabelWanted}
use Rattle.wb_names_theory.specs.declared.usage.LabelWanted.TheVariants as labels
use Rattle.wb_names_theory.specs.declared.usage.Usage.{Usage}
use Rattle.wb_names_theory.specs.declared.usage.Usage.TheVariants as u
use Rattle.wb_names_theory.specs.declared.usage.Wanted.{Wanted}
use Rattle.wb_names_theory.specs.declared.usage.Wanted.TheVariants as w
use Rattle.wb_names_theory.specs.Declarations.{Items}
use Rattle.wb_names_theory.specs.Meaning.{IsSymbol, IsAttribute, HasLabel, IsTree, IsLexeme}
use Rattle.wb_names_theory.specs.Unknown.{UsesLabel}

-- a place may hold a symbol of this sort; a place of an attribute holds no symbol
abbrev pub Suits : Wanted → Sort → Type 0
Suits w.Lexical is = (is ≡ s.Terminal) ⊎ (is ≡ s.Layout) ⊎ (is ≡ s.Marker)
Suits w.GrammarSymbol is = (is ≡ s.Terminal) ⊎ (is ≡ s.Marker) ⊎ (is ≡ s.Nonterminal)
Suits w.Nonterminal is = is ≡ s.Nonterminal
Suits w.Production is = is ≡ s.Production
Suits other is = Unit {0}

-- a place may hold an attribute whose values go this way; a place of a symbol holds no attribute
abbrev pub SuitsDirection : Wanted → Direction → Type 0
SuitsDirection w.Synthesized direction = direction ≡ Synthesized
SuitsDirection w.Inherited direction = direction ≡ Inherited
SuitsDirection other direction = Unit {0}

-- what has a label isn't what a place of the label asks for
abbrev pub IsMisused : List Declaration → LabelWanted → Labelled → Type 0
IsMisused declared labels.Tree is = (nonterminal : List ℕ) → ¬ IsTree declared is nonterminal
IsMisused declared labels.Lexeme is = ¬ IsLexeme declared is
IsMisused declared labels.Value is = IsLexeme declared is

-- a marker, where the owner is 0: a host
abbrev pub misplaced_marker : ℕ → Role → List ℕ → List (List ℕ)
misplaced_marker zero r.Marking name = name ∷ []
misplaced_marker owner role name = []

-- a child of kind int, bool or text, where its production is concrete
abbrev pub misplaced_child : ProductionRole → List ℕ → NamedKind → List (List ℕ)
misplaced_child Abstract l kind = []
misplaced_child Concrete l (k.Name name) = []
misplaced_child Concrete l plain = l ∷ []

-- an equation by which a production forwards
abbrev pub misplaced_forward : List ℕ → Target → List (List ℕ)
misplaced_forward production t.ForwardsTo = production ∷ []
misplaced_forward production other = []

-- the names of what an item has where it has no place: a host's markers, plain children of concrete productions by their labels, and
-- `forwards to` in an aspect by its production
abbrev pub form_misplaced : ℕ → ItemForm Pattern → List (List ℕ)
form_misplaced owner (f.Lexical role name pattern) = misplaced_marker owner role name
form_misplaced owner (f.Plain plain) = []
form_misplaced owner (f.Production role p) = flat_map (λ (c : Child). misplaced_child role c.label c.kind) p.children
form_misplaced owner (f.Aspect name equations) = flat_map (λ (e : Equation). misplaced_forward name e.target) equations

-- the names of what items have where it has no place
abbrev pub misplaced : ℕ → Items → List (List ℕ)
misplaced owner items = flat_map (λ (item : Item Pattern). form_misplaced owner item.form) items

-- this name shows that something is of another kind than its place asks for
pub data FailsWrongKind (declared : List Declaration) (used : List Usage) (unplaced : List (List ℕ)) (name : List ℕ) : Type 0 where
  symbol : {wanted : Wanted} {is : Sort} → Contains used (u.Name name wanted) → IsSymbol declared name is
      → ¬ Suits wanted is → FailsWrongKind declared used unplaced name
  attribute : {wanted : Wanted} {direction : Direction} → Contains used (u.Name name wanted)
      → IsAttribute declared name direction → ¬ SuitsDirection wanted direction → FailsWrongKind declared used unplaced name
  label : {production : List ℕ} {wanted : LabelWanted} {is : Labelled} → UsesLabel declared used production name wanted
      → HasLabel declared production name is → IsMisused declared wanted is → FailsWrongKind declared used unplaced name
  placed : Contains unplaced name → FailsWrongKind declared used unplaced name
