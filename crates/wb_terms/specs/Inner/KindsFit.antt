-- How the children of a node are tested.
use Rattle.std.specs.Prelude.{◌≡◌, ◌<◌, ℕ, List, Some, slice_get}
use Rattle.wb_base.specs.declared.symbol.Kind.{Kind}
use Rattle.wb_values.specs.Signature.{Signature}
use Rattle.wb_terms.specs.Term.{Argument}
use Rattle.wb_terms.specs.TreeOf.{IsOfKind, IsWrongChild}

-- the production is there, and is one of the nonterminal
pub record IsOfLeft (signatures : List Signature) (production nonterminal : ℕ) : Type 0 where
  pub signature : Signature
  pub its : slice_get signatures production ≡ Some signature
  pub left : signature.left ≡ nonterminal

-- each of the first arguments, so many of them, is of the kind at its place, where one is asked for
abbrev pub FirstFit : List Signature → ℕ → List Argument → List Kind → Type 0
FirstFit signatures count arguments kinds =
    (index : ℕ) (argument : Argument) (kind : Kind) → index < count → slice_get arguments index ≡ Some argument
    → slice_get kinds index ≡ Some kind → IsOfKind signatures argument kind

-- each argument is
abbrev pub KindsFit : List Signature → List Argument → List Kind → Type 0
KindsFit signatures arguments kinds =
    (index : ℕ) (argument : Argument) (kind : Kind) → slice_get arguments index ≡ Some argument → slice_get kinds index ≡ Some kind
    → IsOfKind signatures argument kind

-- a child of a wrong kind among the first, so many of them
pub record IsWrongAmong (signatures : List Signature) (count : ℕ) (arguments : List Argument) (kinds : List Kind) (at : ℕ) : Type 0 where
  pub child : IsWrongChild signatures arguments kinds at
  pub early : child.index < count
