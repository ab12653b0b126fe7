-- Rows of nonterminals, those of the grammar apart from the others.
use Rattle.std.specs.Prelude.{◌≡◌, ◌≢◌, ◌↔◌, ◌++◌, ◌∷◌, [], ℕ, Bool, true, false, List, Some}
use Rattle.std.specs.Prelude.{All, Contains, IsTrue, length, map, option_to_list, slice_get}
use Rattle.std.specs.List.{AllZip}
use Rattle.wb_syntax_resolved.specs.declared.attributes.Attribute.{Attribute}
use Rattle.wb_syntax_resolved.specs.declared.attributes.Nonterminal.{Nonterminal}
use Rattle.wb_syntax_resolved.specs.declared.resolved.ResolvedParts.{ResolvedParts}
use Rattle.wb_syntax.specs.declared.item.Item.{Item}
use Rattle.wb_syntax.specs.declared.item.ItemForm.{ItemForm}
use Rattle.wb_syntax.specs.declared.item.ItemForm.TheVariants as f
use Rattle.wb_syntax.specs.declared.pattern.Pattern.{Pattern}
use Rattle.wb_syntax.specs.Names.{FormHasNames}
use Rattle.wb_names_theory.specs.Declarations.{Items, AttributeDeclaration, attributes, closeds, nonterminal_of, nonterminals}
use Rattle.wb_names_theory.specs.Declares.{item_declarations}
use Rattle.wb_names_theory.specs.Hold.{AreOnce}
use Rattle.wb_names_numbers_theory.specs.Files.{File, IsInBaseGrammar, IsInGrammar, forward_needs_of, grammar_names}
use Rattle.wb_names_numbers_theory.specs.Sources.{Splits}
use Rattle.wb_names_rows.specs.declared.scope.Scope.{Scope}
use Rattle.wb_names_rows.specs.Marks.{IsMarked}
use Rattle.wb_names_rows.specs.Nodes.{IsAt}
use Rattle.wb_names_rows.specs.Plains.{AddsEach}
use Rattle.wb_names_symbols.specs.declared.nonterminals.Nonterminals.{Nonterminals}
use Rattle.wb_names_symbols.specs.Inner.Names.{form_forwarder, form_needs}

-- the names of attributes by number
abbrev pub attribute_names : File → List (List ℕ)
attribute_names file =
    map (λ (a : Attribute). a.name) file.base.attributes.attributes ++ map (λ (d : AttributeDeclaration). d.name) (attributes file.items)

-- one row is added, to those of the grammar or to the others
abbrev pub AddsRow : Bool → Nonterminal → Nonterminals → Nonterminals → Type 0
AddsRow true row old new =
    (new.of_grammar.items ≡ old.of_grammar.items ++ row ∷ []) × (new.others.items ≡ old.others.items)
AddsRow false row old new =
    (new.of_grammar.items ≡ old.of_grammar.items) × (new.others.items ≡ old.others.items ++ row ∷ [])

-- one row for each is added, to those of the grammar where it leads, and else to the others
pub record AddsApart {X : Type 0} (IsLeading : X → Type 0) (IsRow : X → Nonterminal → Type 0) (xs : List X)
    (old new : Nonterminals) : Type 0 where
  pub leading : List X
  pub following : List X
  pub splits : Splits IsLeading xs leading following
  pub of_grammar : AddsEach IsRow leading old.of_grammar.items new.of_grammar.items
  pub others : AddsEach IsRow following old.others.items new.others.items

-- the same row
abbrev pub IsSame : Nonterminal → Nonterminal → Type 0
IsSame x row = row ≡ x

-- the row of a nonterminal that this owner's items declare, where attributes have these names
pub record IsDeclaredRow (owner : ℕ) (items : Items) (names : List (List ℕ)) (name : List ℕ) (row : Nonterminal) : Type 0 where
  pub name_is : row.name ≡ name
  pub owner_is : row.owner ≡ owner
  pub closed : IsTrue row.closed ↔ Contains (closeds items) name
  pub needs : AllZip (IsAt names) (forward_needs_of name items) row.forward_needs

-- the flags are those of the nonterminals whose names are in a base's grammar
abbrev pub AreFlags : ResolvedParts → List Bool → Type 0
AreFlags base flags = (k : ℕ) (x : Nonterminal) → slice_get base.attributes.nonterminals k ≡ Some x
    → IsMarked flags k ↔ IsInBaseGrammar base x.name

-- items whose forwards are found by these names, each once, and whose flow types have attributes that are there
pub record HasForwards (s : Scope) (items : Items) (forwarders : List (List ℕ)) : Type 0 where
  pub are : forwarders ≡ map (λ (item : Item Pattern). form_forwarder item.form) items
  pub once : AreOnce (item_declarations items)
  pub names : All (λ (item : Item Pattern). FormHasNames item.form) items
  pub needs : All (λ (item : Item Pattern). All (Contains s.attributes) (form_needs item.form)) items

-- the name of the nonterminal that an item declares
abbrev pub form_nonterminals : ItemForm Pattern → List (List ℕ)
form_nonterminals (f.Plain plain) = option_to_list (nonterminal_of plain)
form_nonterminals (f.Lexical role name pattern) = []
form_nonterminals (f.Production role production) = []
form_nonterminals (f.Aspect name equations) = []

-- it has bytes
abbrev pub HasBytes : List ℕ → Type 0
HasBytes name = name ≢ []

-- the rows of a base are added, and then those of declared nonterminals, where attributes have these names
pub record AddsNonterminals (file : File) (names : List (List ℕ)) (old new : Nonterminals) : Type 0 where
  pub mid : Nonterminals
  pub base : AddsApart (λ (x : Nonterminal). IsInGrammar file x.name) IsSame file.base.attributes.nonterminals old mid
  pub own : AddsApart (Contains (grammar_names file.items)) (IsDeclaredRow file.owner file.items names) (nonterminals file.items) mid new

-- these are added, and then the others are put after those of the grammar, of which there are so many
pub record AddsJoined (file : File) (names : List (List ℕ)) (count : ℕ) (old new : Nonterminals) : Type 0 where
  pub both : Nonterminals
  pub adds : AddsNonterminals file names old both
  pub count_is : count ≡ length both.of_grammar.items
  pub joined : new.of_grammar.items ≡ both.of_grammar.items ++ both.others.items
