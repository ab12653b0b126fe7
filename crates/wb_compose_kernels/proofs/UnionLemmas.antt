-- What is listed is what kernels can be made of.
use Rattle.std.proofs.Common.{◌≡◌, ◌<◌, List, length, subst, sym, ℕ, suc, Some}
use Rattle.std.specs.Prelude.{slice_get}
use Rattle.wb_base.specs.declared.symbol.Symbol.{Symbol}
use Rattle.wb_base.specs.Grammar.{GrammarView}
use Rattle.wb_grammar_theory.specs.declared.item.Item.{Item}
use Rattle.wb_grammar_theory.specs.Shape.{IsLive}
use Rattle.wb_items.specs.Kernels.{AreInOrder}
use Rattle.wb_items.specs.Parts.{IsReached}
use Rattle.wb_recheck_theory.specs.KernelLists.{AreKernelsAndMoves}
use Rattle.wb_compose_theory.specs.Homes.{of_host}
use Rattle.wb_compose_kernels.proofs.MoveLemmas.{all_reached, kernels_and_moves, union_live}
use Rattle.wb_compose_kernels.specs.declared.blocks.Blocks.{Blocks}
use Rattle.wb_compose_kernels.specs.declared.splice.Splice.{Splice}
use Rattle.wb_compose_kernels.specs.Inner.Blocks.{AreBlocksUpTo, IsBlocksOf}
use Rattle.wb_compose_kernels.specs.Inner.Given.{IsGiven}
use Rattle.wb_compose_kernels.specs.Inner.Lists.{IsListing}
use Rattle.wb_compose_kernels.specs.Inner.Moves.{AreMovesOf}

module _ (s : Splice) (given : IsGiven s) (b : Blocks) (blocks : List Blocks) (kernels : List (List Item)) (host : List ℕ)
    (new : List (List ℕ)) (moves : List (ℕ × Symbol × ℕ)) (b_is : IsBlocksOf s of_host b)
    (blocks_are : AreBlocksUpTo s (length s.parts.now) blocks) (listed : IsListing s kernels host new)
    (made : AreMovesOf s b blocks host new moves) where
  pub listed_live : IsLive s.union.now
  listed_live = subst IsLive (sym given.spliceable.union_is) (union_live s given.spliceable)

  pub listed_lists : AreKernelsAndMoves s.union.now kernels moves
  listed_lists = subst (λ (g : GrammarView). AreKernelsAndMoves g kernels moves) (sym given.spliceable.union_is)
      (kernels_and_moves s given.spliceable given b blocks kernels host new moves (b_is given.spliceable) (blocks_are given.spliceable)
      (listed given.spliceable) made)

  pub listed_in_order : (u : ℕ) (list : List Item) → slice_get kernels u ≡ Some list → AreInOrder list
  listed_in_order = (listed given.spliceable).so_far.in_order

  pub listed_reached : (v : ℕ) → suc v < length kernels → IsReached moves (suc v)
  listed_reached = all_reached s given.spliceable given b blocks kernels host new moves (b_is given.spliceable)
      (blocks_are given.spliceable) (listed given.spliceable) made
