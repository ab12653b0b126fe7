-- Lookaheads on their way from item to item.
use Rattle.std.specs.Prelude.{◌≡◌, ◌⊎◌, ◌≤◌, ◌<◌, ◌+◌, ◌*◌, ◌-◌, ℕ, List, [], ◌∷◌, ◌++◌, All, Contains, Some, length, slice_get}
use Rattle.std.specs.List.{sum_by}
use Rattle.wb_base.specs.declared.symbol.Symbol.{Symbol}
use Rattle.wb_base.specs.declared.symbol.Symbol.TheVariants.{Terminal, Nonterminal}
use Rattle.wb_base.specs.Grammar.{GrammarView}
use Rattle.wb_termset.specs.Sets.{IsMember, members}
use Rattle.wb_grammar_theory.specs.declared.item.Item.{Item}
use Rattle.wb_grammar_theory.specs.Productions.{IsProduction, end_of}
use Rattle.wb_grammar_theory.specs.Derives.{IsFirst}
use Rattle.wb_grammar_theory.specs.Items.{after_dot, advance, initial_item, start_item}
use Rattle.wb_grammar_theory.specs.States.{Flows}
use Rattle.wb_items.specs.Apart.{AreApart, BelongTogether}
use Rattle.wb_items.specs.Kernels.{KernelsView, AreKernels, LeadsTo, closure_of, count_of}
use Rattle.wb_items.specs.Lookaheads.{AreLookaheadsOf, HasNumber, Lists, LookaheadsView, set_of}
use Rattle.wb_items.specs.Table.{AreProductions}
use Rattle.wb_lookahead.specs.declared.first_of.Rest.{Rest}
use Rattle.wb_lookahead.specs.declared.worklist.Place.{Place}
use Rattle.wb_lookahead.specs.Inner.Rests.{AreRests}

-- what stays while lookaheads spread: the kernels of the grammar, the productions of each nonterminal, and what rests of right sides begin
-- with
pub record IsContext (kernels : KernelsView) (g : GrammarView) (productions : List (List ℕ)) (rests : List (List Rest)) : Type 0 where
  pub are_kernels : AreKernels kernels
  pub of_grammar : kernels.grammar ≡ g
  pub are_productions : AreProductions g productions
  pub are_rests : AreRests g rests

-- the production is one of the nonterminal's
abbrev pub IsProductionOf : GrammarView → ℕ → ℕ → Type 0
IsProductionOf g b p = (right : List Symbol) × IsProduction g p b right

-- the place is one of a kernel and an item of its closure
pub record IsPlace (kernels : KernelsView) (place : Place) : Type 0 where
  pub state : place.state < count_of kernels
  pub here : slice_get (closure_of kernels place.state) place.at ≡ Some place.item

-- an item that has the set of this number waits
abbrev pub Waits : LookaheadsView → List Place → ℕ → Type 0
Waits lookaheads waiting n = (place : Place) × Contains waiting place × HasNumber lookaheads place.state place.item n

-- the terminal flows to the item of the kernel
abbrev pub FlowsTo : KernelsView → ℕ → Item → ℕ → Type 0
FlowsTo kernels s item t = Flows kernels.grammar (LeadsTo kernels) s item t

-- there is one set for the items that belong together, what the sets list flows there, and the places that wait are places
pub record AreSound (kernels : KernelsView) (lookaheads : LookaheadsView) (waiting : List Place) : Type 0 where
  pub shape : AreLookaheadsOf kernels lookaheads
  pub apart : AreApart kernels.grammar lookaheads
  pub sound : (s : ℕ) (item : Item) (t : ℕ) → Lists lookaheads s item t → FlowsTo kernels s item t
  pub places : All (IsPlace kernels) waiting

-- where a terminal at the item flows from there, it is listed: at the item after the symbol, and at the initial items of a nonterminal
pub record IsItemPassed (kernels : KernelsView) (lookaheads : LookaheadsView) (s : ℕ) (item : Item) (t : ℕ) : Type 0 where
  pub moves : (x : Symbol) (rest : List Symbol) (next : ℕ) → after_dot kernels.grammar item ≡ x ∷ rest → LeadsTo kernels s x next →
      Lists lookaheads next (advance item) t
  pub opens : (b : ℕ) (rest : List Symbol) (p u : ℕ) → after_dot kernels.grammar item ≡ Nonterminal b ∷ rest →
      IsProductionOf kernels.grammar b p → IsFirst kernels.grammar (rest ++ Terminal t ∷ []) u → Lists lookaheads s (initial_item p) u

-- a terminal is passed on so from each item that belongs with the one
abbrev pub IsPassedOn : KernelsView → LookaheadsView → ℕ → Item → ℕ → Type 0
IsPassedOn kernels lookaheads s one t = (item : Item) → BelongTogether kernels.grammar one item → IsItemPassed kernels lookaheads s item t

-- each set waits, or what it has is passed on from each of its items
pub record AreWaiting (kernels : KernelsView) (lookaheads : LookaheadsView) (waiting : List Place) : Type 0 where
  pub start : Lists lookaheads 0 (start_item kernels.grammar) (end_of kernels.grammar)
  pub each : (n : ℕ) → Waits lookaheads waiting n ⊎ ((s t : ℕ) (item : Item) → HasNumber lookaheads s item n →
      IsMember (set_of lookaheads n) t → IsItemPassed kernels lookaheads s item t)

-- nothing that was listed is lost
abbrev pub Keeps : LookaheadsView → LookaheadsView → Type 0
Keeps old new = (s : ℕ) (item : Item) (t : ℕ) → Lists old s item t → Lists new s item t

-- how many terminals the sets lack
unfoldable pub room : LookaheadsView → ℕ
room lookaheads = sum_by (λ set. length set - members set) lookaheads.sets

-- the work that is left at most
abbrev pub work_left : LookaheadsView → List Place → ℕ
work_left lookaheads waiting = 2 * room lookaheads + length waiting

-- the sets grew at most, each that did waits, and the work that is left did not grow
pub record Spreads (lookaheads : LookaheadsView) (waiting : List Place) (new_lookaheads : LookaheadsView)
    (new_waiting : List Place) : Type 0 where
  pub keeps : Keeps lookaheads new_lookaheads
  pub numbers : (s : ℕ) (item : Item) (n : ℕ) → HasNumber lookaheads s item n → HasNumber new_lookaheads s item n
  pub back : (s : ℕ) (item : Item) (n : ℕ) → HasNumber new_lookaheads s item n → HasNumber lookaheads s item n
  pub waits : (place : Place) → Contains waiting place → Contains new_waiting place
  pub grew : (n : ℕ) → Waits new_lookaheads new_waiting n ⊎
      ((t : ℕ) → IsMember (set_of new_lookaheads n) t → IsMember (set_of lookaheads n) t)
  pub less : work_left new_lookaheads new_waiting ≤ work_left lookaheads waiting
