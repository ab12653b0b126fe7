-- How lookaheads spread between the items of kernels, which have numbers.
use Rattle.std.specs.Prelude.{◌≡◌, ◌⊎◌, ◌↔◌, ◌<◌, ℕ, Bool, List, [], ◌∷◌, Some, length, slice_get}
use Rattle.wb_termset.specs.Sets.{IsMember}
use Rattle.wb_graph.specs.Graphs.{Edge, IsEdge}
use Rattle.wb_base.specs.declared.symbol.Symbol.{Symbol}
use Rattle.wb_base.specs.declared.symbol.Symbol.TheVariants.{Terminal, Nonterminal}
use Rattle.wb_base.specs.Grammar.{GrammarView}
use Rattle.wb_grammar_theory.specs.declared.item.Item.{Item}
use Rattle.wb_grammar_theory.specs.Productions.{IsProduction, end_of}
use Rattle.wb_grammar_theory.specs.Derives.{Derives, IsNullable}
use Rattle.wb_grammar_theory.specs.Items.{HasItem, advance, after_dot, initial_item, start_item}
use Rattle.wb_grammar_theory.specs.States.{Flows}
use Rattle.wb_items.specs.Apart.{BelongTogether}
use Rattle.wb_items.specs.Kernels.{KernelsView, LeadsTo, count_of, prefix_of}
use Rattle.wb_digraph.specs.Inner.Pools.{AreNumbers, set_at}
use Rattle.wb_digraph.specs.Inner.Spreading.{Spreads}

-- the terminal is shifted at the kernel
abbrev pub Shifts : KernelsView → ℕ → ℕ → Type 0
Shifts kernels s t = (next : ℕ) × LeadsTo kernels s (Terminal t) next

-- a nonterminal that derives the empty text leads from one kernel to the other
abbrev pub ReadsOn : KernelsView → ℕ → ℕ → Type 0
ReadsOn kernels s next = (c : ℕ) × LeadsTo kernels s (Nonterminal c) next × IsNullable kernels.grammar c

-- the terminal is shifted at the kernel, or after nonterminals that derive the empty text
abbrev pub IsReadFrom : KernelsView → ℕ → ℕ → Type 0
IsReadFrom kernels s t = Spreads (Shifts kernels) (ReadsOn kernels) s t

-- the terminal flows to the item of the kernel
abbrev pub FlowsIn : KernelsView → ℕ → Item → ℕ → Type 0
FlowsIn kernels s item t = Flows kernels.grammar (LeadsTo kernels) s item t

-- each item of a kernel has a number, and items of one number are of one kernel and belong together
pub record IsNumbering (kernels : KernelsView) (Number : ℕ → Item → ℕ → Type 0) : Type 0 where
  pub given : (s : ℕ) (item : Item) → s < count_of kernels → HasItem kernels.grammar (prefix_of kernels s) item → (n : ℕ) × Number s item n
  pub apart : (s k : ℕ) (item other : Item) (n : ℕ) → Number s item n → Number k other n →
      (s ≡ k) × BelongTogether kernels.grammar item other

-- what comes to a number directly: what is read after a nonterminal, to the items that it opens, and the end to the start item
pub data ComesDirectly (kernels : KernelsView) (Number : ℕ → Item → ℕ → Type 0) (n t : ℕ) : Type 0 where
  reads : (s q b next : ℕ) (right : List Symbol) → Number s (initial_item q) n → IsProduction kernels.grammar q b right →
      LeadsTo kernels s (Nonterminal b) next → IsReadFrom kernels next t → ComesDirectly kernels Number n t
  ends : Number 0 (start_item kernels.grammar) n → t ≡ end_of kernels.grammar → ComesDirectly kernels Number n t

-- u is the number of the item, and v that of the item after the symbol after its dot, where that leads
abbrev pub HandsOver : KernelsView → (ℕ → Item → ℕ → Type 0) → ℕ → Item → ℕ → ℕ → Type 0
HandsOver kernels Number s item v u =
    (x : Symbol) × (rest : List Symbol) × (next : ℕ) × (after_dot kernels.grammar item ≡ x ∷ rest) × LeadsTo kernels s x next ×
    Number s item u × Number next (advance item) v

-- u is the number of the item, and v that of what the nonterminal after its dot opens, where the symbols behind that derive the empty text
abbrev pub HandsOpened : KernelsView → (ℕ → Item → ℕ → Type 0) → ℕ → Item → ℕ → ℕ → Type 0
HandsOpened kernels Number s item v u =
    (b : ℕ) × (rest : List Symbol) × (q : ℕ) × (right : List Symbol) × (after_dot kernels.grammar item ≡ Nonterminal b ∷ rest) ×
    Derives kernels.grammar rest [] × IsProduction kernels.grammar q b right × Number s item u × Number s (initial_item q) v

-- the item hands its lookaheads, which come to u, on to v
abbrev pub HandsOn : KernelsView → (ℕ → Item → ℕ → Type 0) → ℕ → Item → ℕ → ℕ → Type 0
HandsOn kernels Number s item v u = HandsOver kernels Number s item v u ⊎ HandsOpened kernels Number s item v u

-- an item of the kernel hands them on
abbrev pub HandsOnAt : KernelsView → (ℕ → Item → ℕ → Type 0) → ℕ → ℕ → ℕ → Type 0
HandsOnAt kernels Number s v u = (item : Item) × HasItem kernels.grammar (prefix_of kernels s) item × HandsOn kernels Number s item v u

-- an item of some kernel does
abbrev pub IsLink : KernelsView → (ℕ → Item → ℕ → Type 0) → ℕ → ℕ → Type 0
IsLink kernels Number v u = (s : ℕ) × (s < count_of kernels) × HandsOnAt kernels Number s v u

-- links were added, and among them these
pub record AddsLinks (kernels : KernelsView) (Number : ℕ → Item → ℕ → Type 0) (Of : ℕ → ℕ → Type 0) (old new : List Edge) : Type 0 where
  pub sound : (v u : ℕ) → IsEdge new v u → IsEdge old v u ⊎ IsLink kernels Number v u
  pub keeps : (v u : ℕ) → IsEdge old v u → IsEdge new v u
  pub lists : (v u : ℕ) → Of v u → IsEdge new v u

-- each kernel has the number of the set of what can be read there
pub record AreReads (kernels : KernelsView) (sets : List (List Bool)) (reads : List ℕ) : Type 0 where
  pub len : length reads ≡ count_of kernels
  pub below : AreNumbers sets reads
  pub exact : (s n t : ℕ) → slice_get reads s ≡ Some n → IsMember (set_at sets n) t ↔ IsReadFrom kernels s t

-- the first kernels have the numbers of the sets of what is shifted there
pub record AreShiftsUpTo (kernels : KernelsView) (n : ℕ) (sets : List (List Bool)) (shifts : List ℕ) : Type 0 where
  pub len : length shifts ≡ n
  pub below : AreNumbers sets shifts
  pub exact : (s m t : ℕ) → slice_get shifts s ≡ Some m → IsMember (set_at sets m) t ↔ Shifts kernels s t

-- the edges from the kernel to these were added
abbrev pub AddsReads : (ℕ → Type 0) → ℕ → List Edge → List Edge → Type 0
AddsReads To s old new = (u v : ℕ) → IsEdge new u v ↔ (IsEdge old u v ⊎ ((u ≡ s) × To v))
