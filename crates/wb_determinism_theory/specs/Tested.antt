-- Sets at the new numbers alone, with a test where a move leads back to one of the host's numbers.
use Rattle.std.specs.Prelude.{◌≡◌, ◌≢◌, ◌<◌, ◌≤◌, ◌++◌, ◌∷◌, [], ℕ, Bool, IsTrue, List}
use Rattle.wb_base.specs.declared.symbol.Symbol.{Symbol}
use Rattle.wb_base.specs.declared.symbol.Symbol.TheVariants.{Terminal, Nonterminal}
use Rattle.wb_base.specs.Grammar.{GrammarView}
use Rattle.wb_grammar_theory.specs.declared.item.Item.{Item}
use Rattle.wb_grammar_theory.specs.Derives.{IsFirst}
use Rattle.wb_grammar_theory.specs.Items.{advance, after_dot, initial_item}
use Rattle.wb_grammar_theory.specs.Lookaheads.{IsLookahead}
use Rattle.wb_grammar_theory.specs.Productions.{IsProduction}
use Rattle.wb_grammar_theory.specs.States.{IsNext}
use Rattle.wb_compose_theory.specs.Renamings.{Renaming}
use Rattle.wb_determinism_theory.specs.Beside.{IsKnown}

-- members are true; what markers bring from the host's numbers is there; what the rules of valid items give within a kernel and over each
-- symbol is there; and what comes back to one of the host's numbers is known there
pub record IsTested (g k : GrammarView) (up : Renaming) (phi : ℕ → ℕ) (own count : ℕ) (prefix_of host_of : ℕ → List Symbol)
    (set : ℕ → Item → ℕ → Bool) : Type 0 where
  pub sound : (s : ℕ) → own ≤ s → s < count → (i : Item) (t : ℕ) → IsTrue (set s i t) → IsLookahead k (prefix_of s) i t
  pub crosses : (s s' : ℕ) → s < own → own ≤ s' → (m : ℕ) → phi m ≢ m → IsNext k count prefix_of s (Terminal m) s' → (i : Item)
      (t : ℕ) (rest : List Symbol) → after_dot k i ≡ Terminal m ∷ rest → IsKnown g k up phi (host_of s) i t → IsTrue (set s' (advance i) t)
  pub leaves : (s s' m : ℕ) → s < own → phi m ≢ m → IsNext k count prefix_of s (Terminal m) s' → own ≤ s'
  pub closes : (s : ℕ) → own ≤ s → s < count → (i : Item) (t b : ℕ) (rest : List Symbol) (q u : ℕ) (right : List Symbol) →
      IsTrue (set s i t) → after_dot k i ≡ Nonterminal b ∷ rest → IsProduction k q b right → IsFirst k (rest ++ Terminal t ∷ []) u →
      IsTrue (set s (initial_item q) u)
  pub moves : (s s' : ℕ) → own ≤ s → own ≤ s' → (x : Symbol) → IsNext k count prefix_of s x s' → (i : Item) (t : ℕ)
      (rest : List Symbol) → after_dot k i ≡ x ∷ rest → IsTrue (set s i t) → IsTrue (set s' (advance i) t)
  pub returns : (s s' : ℕ) → own ≤ s → s' < own → (x : Symbol) → IsNext k count prefix_of s x s' → (i : Item) (t : ℕ)
      (rest : List Symbol) → after_dot k i ≡ x ∷ rest → IsTrue (set s i t) → IsKnown g k up phi (host_of s') (advance i) t
