-- The nodes of a term, and how the least place of some is found.
use Rattle.std.specs.Prelude.{◌≤◌, ◌⊎◌, ℕ, List}
use Rattle.wb_terms.specs.Term.{Term, Argument, Arguments, named, plain, term, empty, more, list_of}

module _ (Holds : List ℕ → ℕ → List Argument → Type 0) where
  -- of some node of the term, by its name, its place and its arguments, it holds
  abbrev mutual
    pub SomeNode : Term → Type 0
    SomeNode (named name place arguments) = Holds name place (list_of arguments) ⊎ SomeInArguments arguments

    pub SomeInArgument : Argument → Type 0
    SomeInArgument (plain c place) = ⊥
    SomeInArgument (term t) = SomeNode t

    pub SomeInArguments : Arguments → Type 0
    SomeInArguments empty = ⊥
    SomeInArguments (more a others) = SomeInArgument a ⊎ SomeInArguments others

  -- of each node of the term it holds
  abbrev mutual
    pub EachNode : Term → Type 0
    EachNode (named name place arguments) = Holds name place (list_of arguments) × EachInArguments arguments

    pub EachInArgument : Argument → Type 0
    EachInArgument (plain c place) = Unit {0}
    EachInArgument (term t) = EachNode t

    pub EachInArguments : Arguments → Type 0
    EachInArguments empty = Unit {0}
    EachInArguments (more a others) = EachInArgument a × EachInArguments others

-- of this place it holds, and of no lesser one
pub record IsLeast (Holds : ℕ → Type 0) (place : ℕ) : Type 0 where
  pub here : Holds place
  pub least : (at : ℕ) → Holds at → place ≤ at
