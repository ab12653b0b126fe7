-- What spreads from markers on, and nothing else: the least sets.
use Rattle.std.specs.Prelude.{◌≡◌, ◌≢◌, ◌<◌, ◌++◌, ◌∷◌, [], ℕ, List}
use Rattle.wb_base.specs.declared.symbol.Symbol.{Symbol}
use Rattle.wb_base.specs.declared.symbol.Symbol.TheVariants.{Terminal, Nonterminal}
use Rattle.wb_base.specs.Grammar.{GrammarView}
use Rattle.wb_grammar_theory.specs.declared.item.Item.{Item}
use Rattle.wb_grammar_theory.specs.Derives.{IsFirst}
use Rattle.wb_grammar_theory.specs.Items.{advance, after_dot, initial_item}
use Rattle.wb_grammar_theory.specs.Productions.{IsProduction}
use Rattle.wb_grammar_theory.specs.States.{IsNext}
use Rattle.wb_compose_theory.specs.Renamings.{Renaming}
use Rattle.wb_determinism_theory.specs.Beside.{IsKnown}

module _ (g k : GrammarView) (up : Renaming) (phi : ℕ → ℕ) (own count : ℕ) (prefix_of host_of : ℕ → List Symbol) where
  -- what is known of a bridge at one of the host's numbers, over its marker; and what the rules of valid items make of that within a kernel
  -- and over each symbol
  pub data Spreads : ℕ → Item → ℕ → Type 0 where
    crossed : (s : ℕ) (m : ℕ) (i : Item) (rest : List Symbol) {t s' : ℕ} {moved : Item} → s < own → IsKnown g k up phi (host_of s) i t →
        after_dot k i ≡ Terminal m ∷ rest → phi m ≢ m → IsNext k count prefix_of s (Terminal m) s' → moved ≡ advance i → Spreads s' moved t
    closed : (i : Item) (t b : ℕ) (rest : List Symbol) (q u : ℕ) (right : List Symbol) {s : ℕ} → Spreads s i t →
        after_dot k i ≡ Nonterminal b ∷ rest → IsProduction k q b right → IsFirst k (rest ++ Terminal t ∷ []) u →
        Spreads s (initial_item q) u
    moved : (i : Item) (x : Symbol) (rest : List Symbol) (s : ℕ) {t s' : ℕ} {further : Item} → Spreads s i t → after_dot k i ≡ x ∷ rest →
        IsNext k count prefix_of s x s' → further ≡ advance i → Spreads s' further t

  -- nothing spreads to one of the host's numbers that isn't known there
  abbrev pub StaysKnown : Type 0
  StaysKnown = (s : ℕ) → s < own → (i : Item) (t : ℕ) → Spreads s i t → IsKnown g k up phi (host_of s) i t
