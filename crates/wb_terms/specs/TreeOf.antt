-- Which tree of given signatures a term stands for, and where a term doesn't fit them.
use Rattle.std.specs.Prelude.{◌≡◌, ◌≢◌, ◌⊎◌, ℕ, List, Some, length, slice_get}
use Rattle.std.specs.List.{AllZip}
use Rattle.wb_base.specs.declared.symbol.Kind.{Kind}
use Rattle.wb_base.specs.declared.symbol.Kind.TheVariants as k
use Rattle.wb_values.specs.Signature.{Signature, IsFirst, HasNone}
use Rattle.wb_values.specs.Tree.{Tree, Value, Values, int, bool, text}
use Rattle.wb_values.specs.Tree as v
use Rattle.wb_terms.specs.Term.{Term, Argument, Arguments, named, plain, term, empty, more, place_of}
use Rattle.wb_terms.specs.Nodes.{EachNode}

-- the first production of a name, with its signature
pub record HasFirst (signatures : List Signature) (name : List ℕ) : Type 0 where
  pub production : ℕ
  pub signature : Signature
  pub first : IsFirst signatures name production
  pub its : slice_get signatures production ≡ Some signature

-- the first production of the name is one of the nonterminal
pub record IsOfNonterminal (signatures : List Signature) (name : List ℕ) (nonterminal : ℕ) : Type 0 where
  pub found : HasFirst signatures name
  pub left : found.signature.left ≡ nonterminal

-- the argument is of the kind: a number, a truth value, a text, or a term of a production of the nonterminal
abbrev pub IsOfKind : List Signature → Argument → Kind → Type 0
IsOfKind signatures (plain (int z) place) k.Int = Unit {0}
IsOfKind signatures (plain (bool b) place) k.Bool = Unit {0}
IsOfKind signatures (plain (text s) place) k.Text = Unit {0}
IsOfKind signatures (term (named name place arguments)) (k.Tree n) = IsOfNonterminal signatures name n
IsOfKind signatures argument kind = ⊥

-- the node's name is that of a production, and it has as many children as the first of the name asks for, each of its kind
pub record FitsNode (signatures : List Signature) (name : List ℕ) (place : ℕ) (arguments : List Argument) : Type 0 where
  pub found : HasFirst signatures name
  pub fit : AllZip (IsOfKind signatures) arguments found.signature.children

-- the tree is the term with each name replaced by the number of the first production of the name
abbrev mutual
  pub IsNumbered : List Signature → Term → Tree → Type 0
  IsNumbered signatures (named name place arguments) (v.node production values) =
      IsFirst signatures name production × AreNumbered signatures arguments values

  pub IsNumberedValue : List Signature → Argument → Value → Type 0
  IsNumberedValue signatures (plain c place) (v.plain d) = c ≡ d
  IsNumberedValue signatures (plain c place) (v.tree u) = ⊥
  IsNumberedValue signatures (term t) (v.plain d) = ⊥
  IsNumberedValue signatures (term t) (v.tree u) = IsNumbered signatures t u

  pub AreNumbered : List Signature → Arguments → Values → Type 0
  AreNumbered signatures empty v.empty = Unit {0}
  AreNumbered signatures empty (v.more x xs) = ⊥
  AreNumbered signatures (more a others) v.empty = ⊥
  AreNumbered signatures (more a others) (v.more x xs) = IsNumberedValue signatures a x × AreNumbered signatures others xs

-- the term fits the signatures, and stands for this tree
pub record IsTreeOf (signatures : List Signature) (term : Term) (tree : Tree) : Type 0 where
  pub numbered : IsNumbered signatures term tree
  pub fit : EachNode (FitsNode signatures) term

-- the name at this place is that of no production
abbrev pub IsUnknown : List Signature → ℕ → List ℕ → ℕ → List Argument → Type 0
IsUnknown signatures at name place arguments = HasNone signatures name × (at ≡ place)

-- the child at this place isn't of the kind that is asked for there
pub record IsWrongChild (signatures : List Signature) (arguments : List Argument) (kinds : List Kind) (at : ℕ) : Type 0 where
  pub index : ℕ
  pub argument : Argument
  pub kind : Kind
  pub there : slice_get arguments index ≡ Some argument
  pub asked : slice_get kinds index ≡ Some kind
  pub wrong : ¬ IsOfKind signatures argument kind
  pub place : at ≡ place_of argument

-- the node of this place has a wrong number of children, or the child of this place is of a wrong kind
pub record IsWrong (signatures : List Signature) (at : ℕ) (name : List ℕ) (place : ℕ) (arguments : List Argument) : Type 0 where
  pub found : HasFirst signatures name
  pub fault : ((length arguments ≢ length found.signature.children) × (at ≡ place))
      ⊎ IsWrongChild signatures arguments found.signature.children at
