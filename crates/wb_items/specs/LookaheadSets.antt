-- The lookaheads of a grammar's items as sets.
use Rattle.std.specs.Prelude.{◌↔◌, ◌<◌, ℕ, Bool, List}
use Rattle.wb_termset.specs.Sets.{IsMember}
use Rattle.wb_grammar_theory.specs.declared.item.Item.{Item}
use Rattle.wb_grammar_theory.specs.Lookaheads.{IsLookahead}
use Rattle.wb_items.specs.Kernels.{KernelsView, count_of, prefix_of}
use Rattle.wb_items.specs.Lookaheads.{AreLookaheadsOf, IsSetOf, LookaheadsView}

-- each item of each kernel's prefix has a set, and the members of the set are exactly the item's lookaheads there
pub record AreLookaheads (kernels : KernelsView) (lookaheads : LookaheadsView) : Type 0 where
  pub shape : AreLookaheadsOf kernels lookaheads
  pub exact : (s : ℕ) (item : Item) (set : List Bool) (t : ℕ) → s < count_of kernels → IsSetOf lookaheads s item set →
      IsMember set t ↔ IsLookahead kernels.grammar (prefix_of kernels s) item t
