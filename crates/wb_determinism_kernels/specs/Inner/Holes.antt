-- Where the host has its holes, and what is after a marker.
use Rattle.std.specs.Prelude.{◌≡◌, ◌<◌, ◌∷◌, ℕ, List, Contains}
use Rattle.wb_base.specs.declared.symbol.Symbol.{Symbol}
use Rattle.wb_base.specs.declared.symbol.Symbol.TheVariants.{Terminal}
use Rattle.wb_base.specs.Grammar.{GrammarView}
use Rattle.wb_grammar_theory.specs.declared.item.Item.{Item}
use Rattle.wb_grammar_theory.specs.Items.{HasItem, advance, initial_item}
use Rattle.wb_grammar_theory.specs.Productions.{IsProduction}
use Rattle.wb_items.specs.Kernels.{AreInOrder, KernelsView, count_of, prefix_of}
use Rattle.wb_determinism_kernels.specs.declared.before_hole.BeforeHole.{BeforeHole}
use Rattle.wb_determinism_kernels.specs.NewKernels.{BeginsWith}

-- no item of the first kernels is the initial one of a production that the terminal begins
abbrev pub HasNoHole : KernelsView → ℕ → ℕ → Type 0
HasNoHole host hole n =
    (s : ℕ) → s < n → (item : Item) → HasItem host.grammar (prefix_of host s) item → ¬ BeginsWith host.grammar hole item

-- the kernel has the initial item of the production, which the terminal begins
pub record IsBefore (host : KernelsView) (hole : ℕ) (before : BeforeHole) : Type 0 where
  pub below : before.state < count_of host
  pub has : HasItem host.grammar (prefix_of host before.state) (initial_item before.production)
  pub begins : BeginsWith host.grammar hole (initial_item before.production)

-- the items of the first productions that the terminal begins, with the dot after it, in order
pub record AfterUpTo (k : GrammarView) (marker : ℕ) (items : List Item) (n : ℕ) : Type 0 where
  pub sound : (item : Item) → Contains items item →
      (q a : ℕ) × (rest : List Symbol) × (q < n) × IsProduction k q a (Terminal marker ∷ rest) × (item ≡ advance (initial_item q))
  pub complete : (q a : ℕ) (rest : List Symbol) → q < n → IsProduction k q a (Terminal marker ∷ rest) →
      Contains items (advance (initial_item q))
  pub in_order : AreInOrder items
