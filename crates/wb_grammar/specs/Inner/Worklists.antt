-- A worklist for a least set: how far each production has come, and why none is forgotten.
use Rattle.std.specs.Prelude.{◌≡◌, ◌<◌, ◌≤◌, ◌+◌, ◌-◌, ◌*◌, ◌⊎◌, ◌++◌, ◌∷◌, [], ℕ, Bool, true, false, List, All, Contains, length, take}
use Rattle.std.specs.Prelude.{slice_get, slice_set, Some}
use Rattle.wb_base.specs.declared.symbol.Symbol.{Symbol}
use Rattle.wb_base.specs.declared.symbol.Symbol.TheVariants.{Terminal, Nonterminal}
use Rattle.wb_base.specs.Grammar.{GrammarView}
use Rattle.wb_termset.specs.Sets.{IsMember, IsSubset, members}
use Rattle.wb_grammar_theory.specs.Productions.{IsProduction}
use Rattle.wb_grammar.specs.Inner.LeastSets.{Holds, AreGenerated}
use Rattle.wb_grammar.specs.declared.least_fixpoint.Worklist.{Worklist}

-- the set so far, the members whose productions still wait, and for each nonterminal the productions that stopped at it, each with the
-- number of symbols passed
pub record State : Type 0 where
  pub set : List Bool
  pub waiting : List ℕ
  pub stopped : List (List (ℕ × ℕ))

-- the lists of this worklist
abbrev pub state_of : Worklist → State
state_of s = record { set = s.set; waiting = s.waiting.items; stopped = s.stopped.items }

-- the state with one more member that waits, or the same where it was one already
abbrev pub added : State → ℕ → Bool → State
added s a true = s
added s a false = record s { set = slice_set s.set a true; waiting = s.waiting ++ a ∷ [] }

-- the state with one more production that stopped at the nonterminal, where this list did before
abbrev pub stopped_at : State → ℕ → List (ℕ × ℕ) → ℕ → ℕ → State
stopped_at s b list p place = record s { stopped = slice_set s.stopped b (list ++ (p, place) ∷ []) }

-- the set holds so many symbols at the beginning of the production's right side
pub record IsPassed (g : GrammarView) (terminals : Bool) (set : List Bool) (p passed : ℕ) : Type 0 where
  pub left : ℕ
  pub right : List Symbol
  pub rule : IsProduction g p left right
  pub held : All (Holds terminals set) (take passed right)

-- the production stopped at the nonterminal
abbrev pub IsStoppedAt : State → ℕ → ℕ → Type 0
IsStoppedAt s b p = (list : List (ℕ × ℕ)) × (slice_get s.stopped b ≡ Some list) × ((passed : ℕ) × Contains list (p, passed))

-- the symbol keeps the production from going on: a terminal where none may be, or a nonterminal at which it stopped and which is no
-- member yet, or one that waits
abbrev pub Blocks : Bool → State → ℕ → Symbol → Type 0
Blocks terminals s p (Terminal t) = terminals ≡ false
Blocks terminals s p (Nonterminal b) = IsStoppedAt s b p × ((¬ IsMember s.set b) ⊎ Contains s.waiting b)

-- some symbol of the right side keeps the production from going on
pub record IsBlocked (terminals : Bool) (s : State) (p : ℕ) (right : List Symbol) : Type 0 where
  pub symbol : Symbol
  pub within : Contains right symbol
  pub blocks : Blocks terminals s p symbol

-- the production's left side is a member, or it can't go on
abbrev pub IsSettled : GrammarView → Bool → State → ℕ → Type 0
IsSettled g terminals s p = (a : ℕ) (right : List Symbol) → IsProduction g p a right → IsMember s.set a ⊎ IsBlocked terminals s p right

-- every production is settled
abbrev pub AreSettled : GrammarView → Bool → State → Type 0
AreSettled g terminals s = (p : ℕ) → IsSettled g terminals s p

-- what a worklist keeps: its members are generated, and what is said of productions that stopped is so
pub record IsWorklist (g : GrammarView) (terminals : Bool) (s : State) : Type 0 where
  pub len : length s.set ≡ g.nonterminals
  pub rows : length s.stopped ≡ g.nonterminals
  pub sound : AreGenerated g terminals s.set
  pub waits : All (λ a. a < g.nonterminals) s.waiting
  pub passed : (b : ℕ) (list : List (ℕ × ℕ)) (p k : ℕ) → slice_get s.stopped b ≡ Some list → Contains list (p, k) →
      IsPassed g terminals s.set p k

-- how much is left to do: each nonterminal that is no member may become one that waits, and then waits no more
abbrev pub left_of : State → ℕ
left_of s = 2 * (length s.set - members s.set) + length s.waiting

-- the state after a production went on as far as it can
pub record Passes (g : GrammarView) (terminals : Bool) (p : ℕ) (old new : State) : Type 0 where
  pub worklist : IsWorklist g terminals new
  pub within : IsSubset old.set new.set
  pub settled : IsSettled g terminals new p
  pub keeps : (q : ℕ) → IsSettled g terminals old q → IsSettled g terminals new q
  pub fewer : left_of new ≤ left_of old

-- the state after the productions of one member went on
pub record Advances (g : GrammarView) (terminals : Bool) (old new : State) : Type 0 where
  pub worklist : IsWorklist g terminals new
  pub settled : AreSettled g terminals new
  pub fewer : left_of new < left_of old
