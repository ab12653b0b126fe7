-- A form that is being replaced, and how one goes on to another.
use Rattle.std.specs.Prelude.{◌≡◌, ◌≤◌, ◌+◌, ℕ, List, All, ◌∷◌, ◌++◌}
use Rattle.wb_base.specs.declared.symbol.Symbol.{Symbol}
use Rattle.wb_base.specs.Grammar.{GrammarView, IsSymbolBelow}
use Rattle.wb_generate.specs.Counts.{total}
use Rattle.wb_generate.specs.Making.{Makes}
use Rattle.wb_generate.specs.declared.make.Making.{Making}

-- what is left of a form, the leaves to spare, the state of the draws, and the leaves made
pub record State : Type 0 where
  pub form : List Symbol
  pub spare : ℕ
  pub number : ℕ
  pub made : List ℕ

-- the state that is kept
abbrev pub state_of : Making → State
state_of m = record { form = m.form; spare = m.spare; number = m.number; made = m.made.items }

-- the state with the symbol before the form
abbrev pub before : Symbol → State → State
before x s = record s { form = x ∷ s.form }

-- the form is over the grammar's symbols, and at most so many leaves come of it
pub record IsFit (g : GrammarView) (counts : List ℕ) (most : ℕ) (s : State) : Type 0 where
  pub known : All (IsSymbolBelow g.terminals g.nonterminals) s.form
  pub few : s.spare + total counts s.form ≤ most

-- what the new state becomes is what the old one becomes, with the leaves made between
pub record Leads (g : GrammarView) (counts : List ℕ) (old new : State) : Type 0 where
  pub more : List ℕ
  pub made : new.made ≡ old.made ++ more
  pub makes : (rest : List ℕ) → Makes g counts new.form new.spare new.number rest →
      Makes g counts old.form old.spare old.number (more ++ rest)

-- one state goes on to a fit one
pub record GoesOn (g : GrammarView) (counts : List ℕ) (most : ℕ) (old new : State) : Type 0 where
  pub fit : IsFit g counts most new
  pub leads : Leads g counts old new
