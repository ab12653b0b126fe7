-- Lookaheads of the entries before a place.
use Rattle.std.specs.Prelude.{◌≡◌, ◌<◌, ℕ, List, Some, slice_get}
use Rattle.wb_grammar_theory.specs.declared.item.Item.{Item}
use Rattle.wb_grammar_theory.specs.States.{Flows}
use Rattle.wb_items.specs.Apart.{AreApart}
use Rattle.wb_items.specs.Kernels.{KernelsView, LeadsTo}
use Rattle.wb_items.specs.Lookaheads.{AreLookaheadsOf, Lists, LookaheadsView}
use Rattle.wb_recheck_theory.specs.declared.entry.Entry.{Entry}

-- what is listed flows there, and each entry before the place is listed at the number of its kernel
pub record AreGathered (kernels : KernelsView) (states : List ℕ) (entries : List Entry) (lookaheads : LookaheadsView) (n : ℕ) : Type 0 where
  pub shape : AreLookaheadsOf kernels lookaheads
  pub apart : AreApart kernels.grammar lookaheads
  pub sound : (s : ℕ) (item : Item) (t : ℕ) → Lists lookaheads s item t → Flows kernels.grammar (LeadsTo kernels) s item t
  pub complete : (m s : ℕ) (e : Entry) → m < n → slice_get entries m ≡ Some e → slice_get states e.kernel ≡ Some s →
      Lists lookaheads s e.item e.terminal
