-- A term of which a part was met: the nodes that were begun, each with the arguments that were met whole.
use Rattle.std.specs.Prelude.{◌⊎◌, ℕ, List, [], ◌∷◌, ◌++◌}
use Rattle.wb_values.specs.Tree.{int, bool, text}
use Rattle.wb_terms.specs.declared.event.Event.{Event}
use Rattle.wb_terms.specs.declared.event.Event.TheVariants.{Begin, Int, Bool, Text, End}
use Rattle.wb_terms.specs.Term.{Argument, Arguments, named, plain, term, empty, more}

-- nothing was begun, or a node was begun within others
pub data Zipper : Type 0 where
  outside : (met : List Argument) → Zipper
  inside : (name : List ℕ) → (place : ℕ) → (met : List Argument) → (outer : Zipper) → Zipper

-- an argument more of the innermost node
abbrev pub with_argument : Argument → Zipper → Zipper
with_argument a (outside met) = outside (met ++ a ∷ [])
with_argument a (inside name place met outer) = inside name place (met ++ a ∷ []) outer

-- arguments as those of a node
abbrev pub arguments_of : List Argument → Arguments
arguments_of [] = empty
arguments_of (a ∷ others) = more a (arguments_of others)

-- the innermost node is whole
abbrev pub closed : Zipper → Zipper
closed (outside met) = outside met
closed (inside name place met outer) = with_argument (term (named name place (arguments_of met))) outer

-- what was met
abbrev pub zipper : List Event → Zipper
zipper [] = outside []
zipper (Begin name place ∷ v) = inside name place [] (zipper v)
zipper (Int z place ∷ v) = with_argument (plain (int z) place) (zipper v)
zipper (Bool b place ∷ v) = with_argument (plain (bool b) place) (zipper v)
zipper (Text s place ∷ v) = with_argument (plain (text s) place) (zipper v)
zipper (End ∷ v) = closed (zipper v)

-- all arguments that were met, from left to right
abbrev pub all_met : Zipper → List Argument
all_met (outside met) = met
all_met (inside name place met outer) = all_met outer ++ met

module _ (Holds : List ℕ → ℕ → List Argument → Type 0) where
  -- of the innermost node it holds
  abbrev pub OfInnermost : Zipper → Type 0 → Type 0
  OfInnermost (outside met) Else = Else
  OfInnermost (inside name place met outer) Else = Holds name place met

  -- of some node that was ended it holds
  abbrev pub SomeEnded : List Event → Type 0
  SomeEnded [] = ⊥
  SomeEnded (Begin name place ∷ v) = SomeEnded v
  SomeEnded (Int z place ∷ v) = SomeEnded v
  SomeEnded (Bool b place ∷ v) = SomeEnded v
  SomeEnded (Text s place ∷ v) = SomeEnded v
  SomeEnded (End ∷ v) = OfInnermost (zipper v) ⊥ ⊎ SomeEnded v

  -- of each node that was ended it holds
  abbrev pub EachEnded : List Event → Type 0
  EachEnded [] = Unit {0}
  EachEnded (Begin name place ∷ v) = EachEnded v
  EachEnded (Int z place ∷ v) = EachEnded v
  EachEnded (Bool b place ∷ v) = EachEnded v
  EachEnded (Text s place ∷ v) = EachEnded v
  EachEnded (End ∷ v) = OfInnermost (zipper v) (Unit {0}) × EachEnded v
