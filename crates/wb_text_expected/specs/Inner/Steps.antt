-- What a walk over the tokens before a place has found.
use Rattle.std.specs.Prelude.{◌≡◌, ◌<◌, ◌≤◌, ℕ, List, [], ◌∷◌, ◌++◌, All, Bool}
use Rattle.wb_text_predictive.specs.declared.symbol.Symbol.{Symbol}
use Rattle.wb_text_predictive.specs.declared.table.Placed.{Placed}
use Rattle.wb_text_predictive.specs.declared.table.Next.{Next}
use Rattle.wb_text_predictive.specs.declared.table.Next.TheVariants.{Found}
use Rattle.wb_text_predictive.specs.Grammar.{Grammar}
use Rattle.wb_text_predictive.specs.Entries.{Entry}
use Rattle.wb_text_predictive.specs.Stack.{Any}
use Rattle.wb_text_predictive.specs.Reading.{Spells, place_of}
use Rattle.wb_text_expected.specs.Inner.Bare.{StandsBare}
use Rattle.wb_text_expected.specs.declared.walk.Step.{Step}
use Rattle.wb_text_expected.specs.declared.walk.Step.TheVariants.{Went, There, Stuck}

-- what is next doesn't begin before the place, and the row still stands for what may follow
pub record IsThere {K N A X V : Type 0} (same : K → K → Bool) (end : K) (entries : N → Entry K) (g : Grammar K N A X V)
    (IsNext : ℕ → Next X → Type 0) (from at : ℕ) (read : List (Placed X)) (row : List (Symbol K N A)) : Type 0 where
  pub next : Next X
  pub stands : IsNext from next
  pub after : at ≤ place_of next
  pub row_is : StandsBare same end entries g read row Any

-- a token was next, began before the place and was taken
pub record HasGone {K N A X V : Type 0} (same : K → K → Bool) (end : K) (entries : N → Entry K) (g : Grammar K N A X V)
    (IsNext : ℕ → Next X → Type 0) (from at to : ℕ) (read : List (Placed X)) (row : List (Symbol K N A)) : Type 0 where
  pub x : Placed X
  pub stands : IsNext from (Found x)
  pub before : x.at < at
  pub ends : x.end ≡ to
  pub row_is : StandsBare same end entries g (read ++ x ∷ []) row Any

-- what a step has found
abbrev pub StepIs : {K N A X V : Type 0} → (K → K → Bool) → K → (N → Entry K) → Grammar K N A X V → (ℕ → Next X → Type 0) → ℕ → ℕ
    → List (Placed X) → List (Symbol K N A) → Step → Type 0
StepIs same end entries g IsNext from at read row (Went to) = HasGone same end entries g IsNext from at to read row
StepIs same end entries g IsNext from at read row There = IsThere same end entries g IsNext from at read row
StepIs same end entries g IsNext from at read row Stuck = Unit {0}

-- a step goes on after the place, within the text
abbrev pub GoesOn : ℕ → ℕ → Step → Type 0
GoesOn from long (Went to) = (from < to) × (to ≤ long)
GoesOn from long There = Unit {0}
GoesOn from long Stuck = Unit {0}

-- where no token is next: the one place isn't before the other, or nothing is said
abbrev pub IsEnded : ℕ → ℕ → Step → Type 0
IsEnded place at (Went to) = ⊥
IsEnded place at There = at ≤ place
IsEnded place at Stuck = Unit {0}

-- the tokens before the place were taken, and the row stands for what may follow them
pub record HasWalked {K N A X V : Type 0} (same : K → K → Bool) (end : K) (entries : N → Entry K) (g : Grammar K N A X V)
    (IsNext : ℕ → Next X → Type 0) (at : ℕ) (row : List (Symbol K N A)) : Type 0 where
  pub front : List (Placed X)
  pub from : ℕ
  pub next : Next X
  pub spelled : Spells IsNext 0 front from
  pub before : All (λ x. x.at < at) front
  pub stands : IsNext from next
  pub after : at ≤ place_of next
  pub row_is : StandsBare same end entries g front row Any
