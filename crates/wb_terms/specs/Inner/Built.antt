-- Which values an argument was built as, and which faults were found among the nodes that were ended.
use Rattle.std.specs.Prelude.{◌≡◌, ◌⊎◌, ℕ, List, Option, length}
use Rattle.std.specs.List.{AllZip}
use Rattle.wb_values.specs.Signature.{Signature, IsFirst, HasNone}
use Rattle.wb_values.specs.Tree.{Tree, Values}
use Rattle.wb_values.specs.Tree as v
use Rattle.wb_values.specs.ValuesIn.{value_in, IsIn}
use Rattle.wb_values.specs.declared.value.Value.{Value}
use Rattle.wb_terms.specs.declared.event.Event.{Event}
use Rattle.wb_terms.specs.Term.{Term, Argument, Arguments, named, plain, term, empty, more}
use Rattle.wb_terms.specs.Inner.Least.{FindsLeast}
use Rattle.wb_terms.specs.TreeOf.{HasFirst, IsOfKind, IsUnknown, IsWrong}
use Rattle.wb_terms.specs.Inner.Zipper.{SomeEnded, EachEnded}

-- the number stands for the name: that of its first production, or the count of the signatures where it has none
abbrev pub IsNumberOf : List Signature → List ℕ → ℕ → Type 0
IsNumberOf signatures name number = IsFirst signatures name number ⊎ (HasNone signatures name × (number ≡ length signatures))

-- the tree is the term with each name replaced by a number that stands for it
abbrev mutual
  pub IsBuilt : List Signature → Term → Tree → Type 0
  IsBuilt signatures (named name place arguments) (v.node production values) =
      IsNumberOf signatures name production × AreBuilt signatures arguments values

  pub IsBuiltValue : List Signature → Argument → v.Value → Type 0
  IsBuiltValue signatures (plain c place) (v.plain d) = c ≡ d
  IsBuiltValue signatures (plain c place) (v.tree u) = ⊥
  IsBuiltValue signatures (term t) (v.plain d) = ⊥
  IsBuiltValue signatures (term t) (v.tree u) = IsBuilt signatures t u

  pub AreBuilt : List Signature → Arguments → Values → Type 0
  AreBuilt signatures empty v.empty = Unit {0}
  AreBuilt signatures empty (v.more x xs) = ⊥
  AreBuilt signatures (more a others) v.empty = ⊥
  AreBuilt signatures (more a others) (v.more x xs) = IsBuiltValue signatures a x × AreBuilt signatures others xs

-- a stored value is the argument
pub record IsStored (signatures : List Signature) (trees : List Tree) (argument : Argument) (value : Value) : Type 0 where
  pub within : IsIn (length trees) value
  pub built : IsBuiltValue signatures argument (value_in trees value)

-- where the name has a first production, each argument that has a kind there is of that kind, and there are as many
abbrev pub FitsIfKnown : List Signature → List ℕ → ℕ → List Argument → Type 0
FitsIfKnown signatures name place arguments =
    (found : HasFirst signatures name) → AllZip (IsOfKind signatures) arguments found.signature.children

-- the name has a first production
abbrev pub IsKnown : List Signature → List ℕ → ℕ → List Argument → Type 0
IsKnown signatures name place arguments = HasFirst signatures name

-- the least place of an unknown name among the nodes that were ended
abbrev pub FindsUnknown : List Signature → List Event → Option ℕ → Type 0
FindsUnknown signatures events found =
    FindsLeast (λ at. SomeEnded (IsUnknown signatures at) events) (EachEnded (IsKnown signatures) events) found

-- the least place of a fault of number or kind among them
abbrev pub FindsWrong : List Signature → List Event → Option ℕ → Type 0
FindsWrong signatures events found =
    FindsLeast (λ at. SomeEnded (IsWrong signatures at) events) (EachEnded (FitsIfKnown signatures) events) found
