-- What one step of a reading has found.
use Rattle.std.specs.Prelude.{◌≡◌, ◌<◌, ◌≤◌, ℕ, List, [], ◌∷◌, ◌++◌, Bool}
use Rattle.wb_text_predictive.specs.declared.symbol.Symbol.{Symbol}
use Rattle.wb_text_predictive.specs.declared.table.Placed.{Placed}
use Rattle.wb_text_predictive.specs.declared.table.Next.{Next}
use Rattle.wb_text_predictive.specs.declared.table.Next.TheVariants.{Found, End}
use Rattle.wb_text_predictive.specs.declared.reading.Step.{Step}
use Rattle.wb_text_predictive.specs.declared.reading.Step.TheVariants.{Went, Done, Stuck}
use Rattle.wb_text_predictive.specs.Grammar.{Grammar, IsText}
use Rattle.wb_text_predictive.specs.Entries.{Entry}
use Rattle.wb_text_predictive.specs.Stack.{Stands, Any}
use Rattle.wb_text_predictive.specs.Reading.{CannotFollow, place_of}

-- a token was next after the place and was taken, or the end was next and the tokens are a text, or what was next can't follow them
abbrev pub StepIs : {K N A X V : Type 0} → (K → K → Bool) → K → (N → Entry K) → Grammar K N A X V
    → (ℕ → Next X → Type 0) → ℕ → V → List (Placed X) → List (Symbol K N A) → V → Step → Type 0
StepIs {X = X} same end entries g IsNext from first read row now (Went to) = (x : Placed X)
    × IsNext from (Found x) × (x.end ≡ to) × Stands same end entries g first (read ++ x ∷ []) row now Any
StepIs same end entries g IsNext from first read row now Done = (at : ℕ) × IsNext from (End at) × IsText g first read now
StepIs {X = X} same end entries g IsNext from first read row now (Stuck at) = (next : Next X)
    × IsNext from next × CannotFollow g first read next × (place_of next ≡ at)

-- a step goes on after the place, within the text
abbrev pub GoesOn : ℕ → ℕ → Step → Type 0
GoesOn from long (Went to) = (from < to) × (to ≤ long)
GoesOn from long Done = Unit {0}
GoesOn from long (Stuck at) = Unit {0}
