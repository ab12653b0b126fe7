-- The actions of one kernel as they are found, item by item.
use Rattle.std.specs.Prelude.{◌≡◌, ◌≢◌, ◌⊎◌, ◌<◌, ◌+◌, ℕ, List, [], ◌∷◌, length, Some, slice_get, slice_set, slice_index}
use Rattle.wb_base.specs.declared.symbol.Symbol.{Symbol}
use Rattle.wb_base.specs.declared.symbol.Symbol.TheVariants.{Terminal, Nonterminal}
use Rattle.wb_grammar_theory.specs.declared.item.Item.{Item}
use Rattle.wb_grammar_theory.specs.Productions.{top_of}
use Rattle.wb_grammar_theory.specs.Items.{after_dot}
use Rattle.wb_grammar_theory.specs.Lookaheads.{IsLookahead}
use Rattle.wb_items.specs.declared.transitions.Move.{Move}
use Rattle.wb_items.specs.Kernels.{KernelsView, LeadsTo, closure_of, prefix_of}
use Rattle.wb_lookahead.specs.declared.action.Action.{Action}
use Rattle.wb_lookahead.specs.declared.action.Action.TheVariants as act
use Rattle.wb_lookahead.specs.declared.action.Action.TheVariants.{Shift, Reduce, Accept}
use Rattle.wb_lookahead.specs.declared.action.TableRefusal.{TableRefusal}
use Rattle.wb_lookahead.specs.declared.action.TableRefusal.TheVariants.{Conflict, NoMemory}
use Rattle.wb_lookahead.specs.Codes.{goto_at}
use Rattle.wb_lookahead.specs.Contents.{action_in}
use Rattle.wb_lookahead.specs.Tables.{Stands, ComesBefore, IsGoto}

-- the item asks for the action on the terminal: to shift the terminal after its dot, or, where it is complete, to reduce before its
-- lookaheads
pub data Asks (kernels : KernelsView) (s : ℕ) (item : Item) (t : ℕ) : Action → Type 0 where
  shift : (rest : List Symbol) (n : ℕ) → after_dot kernels.grammar item ≡ Terminal t ∷ rest → LeadsTo kernels s (Terminal t) n →
      Asks kernels s item t (Shift n)
  reduce : (p : ℕ) → after_dot kernels.grammar item ≡ [] → item.production ≡ p → p < length kernels.grammar.productions →
      IsLookahead kernels.grammar (prefix_of kernels s) item t → Asks kernels s item t (Reduce p)
  accept : after_dot kernels.grammar item ≡ [] → item.production ≡ top_of kernels.grammar →
      IsLookahead kernels.grammar (prefix_of kernels s) item t → Asks kernels s item t Accept

-- the action is the reduction by the production
abbrev pub IsReduction : ℕ → ℕ → Action → Type 0
IsReduction top p action = ((p < top) × (action ≡ Reduce p)) ⊎ ((p ≡ top) × (action ≡ Accept))

-- each action of the row stands
pub record IsSoundRow (kernels : KernelsView) (s : ℕ) (row : List Action) : Type 0 where
  pub len : length row ≡ kernels.grammar.terminals + 1
  pub stands : (t : ℕ) → action_in row t ≢ act.None → Stands kernels s t (action_in row t)

-- the actions that stood before stand
abbrev pub Keeps : List Action → List Action → Type 0
Keeps old new = (t : ℕ) → action_in old t ≢ act.None → action_in new t ≡ action_in old t

-- the action was put on the members of the set, and nothing else changed
pub record Puts (old : List Action) (set : ℕ → Type 0) (action : Action) (new : List Action) : Type 0 where
  pub len : length new ≡ length old
  pub keeps : Keeps old new
  pub takes : (t : ℕ) → set t → action_in new t ≡ action
  pub only : (t : ℕ) → (action_in new t ≡ action_in old t) ⊎ (set t × (action_in new t ≡ action))

-- the refusal shows the two actions in order
abbrev pub ShowsBoth : ℕ → ℕ → Action → Action → TableRefusal → Type 0
ShowsBoth s t one other (Conflict s' t' first second) =
    (s' ≡ s) × (t' ≡ t) × (((first ≡ one) × (second ≡ other) × ComesBefore one other) ⊎
    ((first ≡ other) × (second ≡ one) × (¬ ComesBefore one other)))
ShowsBoth s t one other (NoMemory _) = ⊥

-- another action than this one is in the row on a member of the set, and the refusal shows both
pub record IsClash (s : ℕ) (row : List Action) (set : ℕ → Type 0) (action : Action) (refusal : TableRefusal) : Type 0 where
  pub terminal : ℕ
  pub member : set terminal
  pub taken : action_in row terminal ≢ act.None
  pub different : action_in row terminal ≢ action
  pub shows : ShowsBoth s terminal (action_in row terminal) action refusal

-- the actions stand for which the item asks
pub record AddsItem (kernels : KernelsView) (s : ℕ) (item : Item) (old new : List Action) : Type 0 where
  pub sound : IsSoundRow kernels s new
  pub keeps : Keeps old new
  pub takes : (t : ℕ) (action : Action) → Asks kernels s item t action → action_in new t ≡ action

-- the actions for which the items at the first places ask are there, and each action there stands
pub record RowUpTo (kernels : KernelsView) (s : ℕ) (row : List Action) (n : ℕ) : Type 0 where
  pub sound : IsSoundRow kernels s row
  pub complete : (j t : ℕ) (item : Item) (action : Action) → j < n → slice_get (closure_of kernels s) j ≡ Some item →
      Asks kernels s item t action → action_in row t ≡ action

-- the row has the action at the kernel on each terminal
abbrev pub IsRowOf : KernelsView → ℕ → List Action → Type 0
IsRowOf kernels s row = RowUpTo kernels s row (length (closure_of kernels s))

-- the codes are those of the kernels to which the first so many nonterminals lead
pub record AreGotos (kernels : KernelsView) (s : ℕ) (codes : List ℕ) (n : ℕ) : Type 0 where
  pub len : length codes ≡ n
  pub each : (b : ℕ) → b < n → IsGoto kernels s b (goto_at (slice_index codes b))

-- the code of the kernel to which a move by a nonterminal leads is in the row at the nonterminal, and nothing else changed
abbrev pub PutsGoto : Move → List ℕ → List ℕ → Type 0
PutsGoto move old new =
    (((t : ℕ) × (move.symbol ≡ Terminal t)) × (new ≡ old)) ⊎
    ((b code : ℕ) × (move.symbol ≡ Nonterminal b) × (goto_at code ≡ Some move.state) × (new ≡ slice_set old b code))

-- the codes say where the moves at the first places lead by nonterminals
pub record GotosUpTo (kernels : KernelsView) (s : ℕ) (moves : List Move) (codes : List ℕ) (n : ℕ) : Type 0 where
  pub len : length codes ≡ kernels.grammar.nonterminals
  pub sound : (b next : ℕ) → goto_at (slice_index codes b) ≡ Some next → LeadsTo kernels s (Nonterminal b) next
  pub complete : (i b next : ℕ) → i < n → slice_get moves i ≡ Some (record { symbol = Nonterminal b; state = next }) →
      b < kernels.grammar.nonterminals → goto_at (slice_index codes b) ≡ Some next
