-- Texts of bytes that are read: the tokens that they spell, the values of a whole text, and a text's first error.
use Rattle.std.specs.Prelude.{◌≡◌, ℕ, List, [], ◌∷◌, ◌++◌}
use Rattle.wb_text_predictive.specs.declared.table.Placed.{Placed}
use Rattle.wb_text_predictive.specs.declared.table.Next.{Next}
use Rattle.wb_text_predictive.specs.declared.table.Next.TheVariants.{Found, End, NoToken}
use Rattle.wb_text_predictive.specs.declared.reading.Outcome.{Outcome}
use Rattle.wb_text_predictive.specs.declared.reading.Outcome.TheVariants.{Whole, Stopped}
use Rattle.wb_text_predictive.specs.Grammar.{Grammar, IsText, CanStart}

-- the place of what is next
abbrev pub place_of : {X : Type 0} → Next X → ℕ
place_of (Found x) = x.at
place_of (End at) = at
place_of (NoToken at) = at

-- these tokens are one after the other, the first is next after the first place, and the last ends at the second
pub data Spells {X : Type 0} (IsNext : ℕ → Next X → Type 0) : ℕ → List (Placed X) → ℕ → Type 0 where
  -- nothing more
  none : {from to : ℕ} → from ≡ to → Spells IsNext from [] to
  -- one token, and the others after it
  next : {from to : ℕ} {x : Placed X} {xs : List (Placed X)} → IsNext from (Found x) → Spells IsNext x.end xs to
      → Spells IsNext from (x ∷ xs) to

-- what is next can't follow these tokens: a token with which no text goes on, the end where they are no text, or no token
abbrev pub CannotFollow : {K N A X V : Type 0} → Grammar K N A X V → V → List (Placed X) → Next X → Type 0
CannotFollow g first front (Found x) = CanStart g first (front ++ x ∷ []) → ⊥
CannotFollow {V = V} g first front (End at) = (last : V) → IsText g first front last → ⊥
CannotFollow g first front (NoToken at) = Unit {0}

module _ {K N A X V : Type 0} (g : Grammar K N A X V) (IsNext : ℕ → Next X → Type 0) (first : V) where
  -- the bytes spell a text of the grammar from their beginning to their end, and it makes of the first values the last
  pub record IsReading (last : V) : Type 0 where
    pub tokens : List (Placed X)
    pub to : ℕ
    pub at : ℕ
    pub spelled : Spells IsNext 0 tokens to
    pub ended : IsNext to (End at)
    pub text : IsText g first tokens last

  -- at this place is the first thing that can't follow the tokens before it, which begin some text
  pub record IsFirstFault (at : ℕ) : Type 0 where
    pub front : List (Placed X)
    pub from : ℕ
    pub next : Next X
    pub spelled : Spells IsNext 0 front from
    pub before : CanStart g first front
    pub stands : IsNext from next
    pub fault : CannotFollow g first front next
    pub place : place_of next ≡ at

  -- the text is whole, with these values, or its first error is there
  abbrev pub IsOutcome : Outcome V → Type 0
  IsOutcome (Whole last) = IsReading last
  IsOutcome (Stopped at) = IsFirstFault at
