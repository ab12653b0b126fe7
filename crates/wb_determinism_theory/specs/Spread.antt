-- Sets of lookaheads by numbers of kernels: at the host's what is known, and at the others what spreads from markers on.
use Rattle.std.specs.Prelude.{◌<◌, ◌≤◌, ◌≡◌, ◌↔◌, ◌++◌, ◌∷◌, [], ℕ, Bool, IsTrue, List}
use Rattle.wb_base.specs.declared.symbol.Symbol.{Symbol}
use Rattle.wb_base.specs.declared.symbol.Symbol.TheVariants.{Terminal, Nonterminal}
use Rattle.wb_grammar_theory.specs.declared.item.Item.{Item}
use Rattle.wb_grammar_theory.specs.Items.{advance, initial_item}
use Rattle.wb_compose_theory.specs.Worlds.{World, both, IsProductionIn}
use Rattle.wb_compose_theory.specs.Derives.{IsFirstIn}
use Rattle.wb_compose_theory.specs.Items.{SameKernelIn, after_dot_in}
use Rattle.wb_compose_theory.specs.Lookaheads.{IsLookaheadIn}
use Rattle.wb_determinism_theory.specs.Known.{IsKnownLookahead, IsMarkerOf}

-- the symbol leads from the one number to the other
abbrev pub LeadsIn : World → ℕ → (ℕ → List Symbol) → ℕ → Symbol → ℕ → Type 0
LeadsIn w e prefix_of s x s' = SameKernelIn w (both e) (prefix_of s') (both e) (prefix_of s ++ x ∷ [])

-- the set of each number is true; that of one of the first `own` numbers is what is known there; that of another is closed under the rules
-- of valid items within its kernel and over each symbol; and a marker hands on what is known of its bridge
pub record IsSpread (w : World) (e own count : ℕ) (prefix_of : ℕ → List Symbol) (set : ℕ → Item → ℕ → Bool) : Type 0 where
  pub known : (s : ℕ) → s < own → (i : Item) (t : ℕ) → IsTrue (set s i t) ↔ IsKnownLookahead w e (prefix_of s) i t
  pub sound : (s : ℕ) → own ≤ s → s < count → (i : Item) (t : ℕ) → IsTrue (set s i t) → IsLookaheadIn w (both e) (prefix_of s) i t
  pub crosses : (s s' : ℕ) → s < own → s' < count → (x : Symbol) → IsMarkerOf w e x → LeadsIn w e prefix_of s x s' →
      (i : Item) (t : ℕ) (rest : List Symbol) → after_dot_in w i ≡ x ∷ rest → IsTrue (set s i t) → IsTrue (set s' (advance i) t)
  pub closes : (s : ℕ) → own ≤ s → s < count → (i : Item) (t b : ℕ) (rest : List Symbol) (q u : ℕ) → IsTrue (set s i t) →
      after_dot_in w i ≡ Nonterminal b ∷ rest → IsProductionIn w (both e) q → w.left q ≡ b →
      IsFirstIn w (both e) (rest ++ Terminal t ∷ []) u → IsTrue (set s (initial_item q) u)
  pub moves : (s s' : ℕ) → own ≤ s → s < count → s' < count → (x : Symbol) → LeadsIn w e prefix_of s x s' →
      (i : Item) (t : ℕ) (rest : List Symbol) → after_dot_in w i ≡ x ∷ rest → IsTrue (set s i t) → IsTrue (set s' (advance i) t)
