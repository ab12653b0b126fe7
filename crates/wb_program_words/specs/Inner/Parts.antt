-- What is at the beginning of some words.
use Rattle.std.specs.Prelude.{◌≡◌, ◌<◌, ◌≤◌, ◌++◌, ◌⊎◌, ℕ, List, ◌∷◌, All, Option, drop}
use Rattle.std.specs.Borrow.{Bor}
use lib.Chars.{codes}
use Rattle.wb_program_words.specs.Options.{Given, IsOptionName, IsPositional, Splits, AreOptions}
use Rattle.wb_program_words.specs.declared.options.Part.{Part}
use Rattle.wb_program_words.specs.declared.options.Part.TheVariants as p
use Rattle.wb_program_words.specs.Inner.Slots.{AreSlots}

-- the words are an option with this name and value, in one word or in two, and then the rest
pub record IsOptionBefore (words rest : List (List ℕ)) (name value : List ℕ) : Type 0 where
  pub is_name : IsOptionName name
  pub is_value : IsPositional value
  pub written : (words ≡ (codes "--" ++ name) ∷ value ∷ rest) ⊎ (words ≡ (codes "--" ++ (name ++ (codes "=" ++ value))) ∷ rest)

-- no words split so
abbrev pub NeverSplits : List (List ℕ) → Type 0
NeverSplits words = (options : List Given) (positional : List (List ℕ)) → ¬ Splits words options positional

-- what stands from a place on of these words
abbrev pub IsPart : List (List ℕ) → ℕ → Part → Type 0
IsPart words at (p.Option name value next) = IsOptionBefore (drop at words) (drop next words) name.now value.now
IsPart words at p.Positional = All IsPositional (drop at words)
IsPart words at p.Neither = NeverSplits (drop at words)

-- an option ends after where it began, and within so many words
abbrev pub EndsWithin : ℕ → ℕ → Part → Type 0
EndsWithin at count (p.Option name value next) = (at < next) × (next ≤ count)
EndsWithin at count other = Unit {0}

-- the words are options of some of these names with these values, and then positional words
pub record IsSplit (names words positional : List (List ℕ)) (slots : List (Option (Bor (List ℕ)))) : Type 0 where
  pub options : List Given
  pub values : AreSlots names options slots
  pub splits : Splits words options positional

-- the words are no options of these names and positional words after them
abbrev pub HasNoSplit : (names words : List (List ℕ)) → Type 0
HasNoSplit names words =
    (options : List Given) (positional : List (List ℕ)) → Splits words options positional → ¬ AreOptions names options

-- the words to a place are options with these values, and those after it split with whatever options come then
pub record IsBegun (names words later : List (List ℕ)) (slots : List (Option (Bor (List ℕ)))) : Type 0 where
  pub options : List Given
  pub values : AreSlots names options slots
  pub onto : (more : List Given) (positional : List (List ℕ)) → Splits later more positional → Splits words (options ++ more) positional
  pub back : (all : List Given) (positional : List (List ℕ)) → Splits words all positional
      → (more : List Given) × (all ≡ options ++ more) × Splits later more positional
