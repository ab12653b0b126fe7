-- The same in numbers: g is the grammar of a host with holes, k that of the host with holes and an extension, `up` takes the numbers of g
-- to those of k, and `phi` takes a terminal of k to itself, or a marker to the hole of its nonterminal.
use Rattle.std.specs.Prelude.{◌≡◌, ◌≢◌, ◌↔◌, ◌<◌, ◌≤◌, ◌++◌, ◌∷◌, [], ℕ, Bool, IsTrue, List, map}
use Rattle.wb_base.specs.declared.symbol.Symbol.{Symbol}
use Rattle.wb_base.specs.declared.symbol.Symbol.TheVariants.{Terminal, Nonterminal}
use Rattle.wb_base.specs.Grammar.{GrammarView}
use Rattle.wb_grammar_theory.specs.declared.item.Item.{Item}
use Rattle.wb_grammar_theory.specs.Derives.{IsFirst}
use Rattle.wb_grammar_theory.specs.Items.{advance, after_dot, initial_item, HasItem, IsViablePrefix, SameKernel}
use Rattle.wb_grammar_theory.specs.Lookaheads.{HasConflict, HasNoConflict, IsLookahead, IsValidTerminal}
use Rattle.wb_grammar_theory.specs.Productions.{IsProduction, end_of, top_of}
use Rattle.wb_grammar_theory.specs.States.{IsNext}
use Rattle.wb_compose_theory.specs.NumberLaws.{HasHostKernels}
use Rattle.wb_compose_theory.specs.Numbered.{IsHostKernel}
use Rattle.wb_compose_theory.specs.Renamings.{Renaming, renamed, renamed_item}

module _ (g k : GrammarView) (up : Renaming) (phi : ℕ → ℕ) where
  -- an item of k is one of g, or the initial item of a production that a marker begins; it is known by that item, or by the initial item of
  -- the production of the marker's hole
  pub data StandsAs (i own : Item) : Type 0 where
    itself : i ≡ renamed_item up own → StandsAs i own
    bridge : (m h q p a b : ℕ) (rest right : List Symbol) → phi m ≢ m → up.terminal h ≡ phi m → IsProduction k q a (Terminal m ∷ rest) →
        IsProduction g p b (Terminal h ∷ right) → i ≡ initial_item q → own ≡ initial_item p → StandsAs i own

  -- what the item is known by is an item of g at the prefix
  pub record IsKnownItem (other : List Symbol) (i : Item) : Type 0 where
    pub own : Item
    pub stands : StandsAs i own
    pub has : HasItem g other own

  -- what the terminal becomes by phi is, in g at the prefix, a lookahead of what the item is known by
  pub record IsKnown (other : List Symbol) (i : Item) (t : ℕ) : Type 0 where
    pub named : t ≤ end_of k
    pub own : Item
    pub stands : StandsAs i own
    pub u : ℕ
    pub is : up.terminal u ≡ phi t
    pub lookahead : IsLookahead g other own u

  -- g in the numbers of k: prefixes keep their kernels, the end and `S' -> S` are kept, items keep what is after their dots; and what is
  -- known is true and closed within a kernel
  pub record IsBeside : Type 0 where
    pub kernels : HasHostKernels g k up
    pub end_up : up.terminal (end_of g) ≡ end_of k
    pub end_phi : phi (end_of k) ≡ end_of k
    pub top_up : up.production (top_of g) ≡ top_of k
    pub production_once : (p q : ℕ) → up.production p ≡ up.production q → p ≡ q
    pub dots : (other : List Symbol) (own : Item) → HasItem g other own →
        after_dot k (renamed_item up own) ≡ map (renamed up) (after_dot g own)
    pub items : (prefix other : List Symbol) → IsHostKernel g k up prefix other → (i : Item) → HasItem k prefix i ↔ IsKnownItem other i
    pub true : (prefix other : List Symbol) → IsHostKernel g k up prefix other → (i : Item) (t : ℕ) → IsKnown other i t →
        IsLookahead k prefix i t
    pub closed : (other : List Symbol) (i : Item) (t b : ℕ) (rest : List Symbol) (q u : ℕ) (right : List Symbol) → IsKnown other i t →
        after_dot k i ≡ Nonterminal b ∷ rest → IsProduction k q b right → IsFirst k (rest ++ Terminal t ∷ []) u →
        IsKnown other (initial_item q) u

  -- what the lookahead rule gives at each kernel of g
  pub record IsKeptBeside : Type 0 where
    pub lookaheads : (prefix other : List Symbol) → IsHostKernel g k up prefix other → (i : Item) (t : ℕ) →
        IsLookahead k prefix i t ↔ IsKnown other i t
    pub no_conflict : HasNoConflict g → (prefix other : List Symbol) → IsHostKernel g k up prefix other → (t : ℕ) → ¬ HasConflict k prefix t
    pub valid : (prefix other : List Symbol) → IsHostKernel g k up prefix other → (t : ℕ) →
        IsValidTerminal k prefix t ↔ ((t ≤ end_of k) × ((u : ℕ) × (up.terminal u ≡ phi t) × IsValidTerminal g other u))

  -- numbers for kernels of k, of which the first `own` are those of g, all of them, at their prefixes
  pub record AreHostFirst (own count : ℕ) (prefix_of host_of : ℕ → List Symbol) : Type 0 where
    pub within : own ≤ count
    pub host : (s : ℕ) → s < own → IsViablePrefix g (host_of s)
    pub lifted : (s : ℕ) → s < own → prefix_of s ≡ map (renamed up) (host_of s)
    pub all_host : (other : List Symbol) → IsViablePrefix g other → (s : ℕ) × (s < own) × SameKernel g (host_of s) other

  -- some number below the count has the kernel of the prefix
  abbrev pub HasNumberOf : ℕ → (ℕ → List Symbol) → List Symbol → Type 0
  HasNumberOf count prefix_of prefix = (s : ℕ) × (s < count) × SameKernel k (prefix_of s) prefix

  -- besides, there is a number for the kernel after each marker at one of the first, and for that after each symbol at one of the others
  pub record AreFound (own count : ℕ) (prefix_of host_of : ℕ → List Symbol) : Type 0 where
    pub first : AreHostFirst own count prefix_of host_of
    pub crossed : (s : ℕ) → s < own → (m : ℕ) → phi m ≢ m → IsViablePrefix k (prefix_of s ++ Terminal m ∷ []) →
        HasNumberOf count prefix_of (prefix_of s ++ Terminal m ∷ [])
    pub onward : (s : ℕ) → own ≤ s → s < count → (x : Symbol) → IsViablePrefix k (prefix_of s ++ x ∷ []) →
        HasNumberOf count prefix_of (prefix_of s ++ x ∷ [])

  -- sets for these numbers: those of g have what is known; the others have true lookaheads, are closed under the rules of valid items, hand
  -- on over each symbol, and have what markers bring from the first
  pub record IsSpreadOver (own count : ℕ) (prefix_of host_of : ℕ → List Symbol) (set : ℕ → Item → ℕ → Bool) : Type 0 where
    pub first : AreHostFirst own count prefix_of host_of
    pub known : (s : ℕ) → s < own → (i : Item) (t : ℕ) → IsTrue (set s i t) ↔ IsKnown (host_of s) i t
    pub sound : (s : ℕ) → own ≤ s → s < count → (i : Item) (t : ℕ) → IsTrue (set s i t) → IsLookahead k (prefix_of s) i t
    pub crosses : (s s' : ℕ) → s < own → (m : ℕ) → phi m ≢ m → IsNext k count prefix_of s (Terminal m) s' → (i : Item) (t : ℕ)
        (rest : List Symbol) → after_dot k i ≡ Terminal m ∷ rest → IsTrue (set s i t) → IsTrue (set s' (advance i) t)
    pub closes : (s : ℕ) → own ≤ s → s < count → (i : Item) (t b : ℕ) (rest : List Symbol) (q u : ℕ) (right : List Symbol) →
        IsTrue (set s i t) → after_dot k i ≡ Nonterminal b ∷ rest → IsProduction k q b right → IsFirst k (rest ++ Terminal t ∷ []) u →
        IsTrue (set s (initial_item q) u)
    pub moves : (s s' : ℕ) → own ≤ s → s < count → (x : Symbol) → IsNext k count prefix_of s x s' → (i : Item) (t : ℕ)
        (rest : List Symbol) → after_dot k i ≡ x ∷ rest → IsTrue (set s i t) → IsTrue (set s' (advance i) t)
