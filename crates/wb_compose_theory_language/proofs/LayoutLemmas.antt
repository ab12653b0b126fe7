-- Each layout of the union is the host's, or an extension's own.
use Rattle.std.proofs.Common.{◌≡◌, ◌<◌, ◌+◌, ℕ, List, Some, slice_get, arith}
use Rattle.wb_base.specs.Grammar.{GrammarView}
use Rattle.wb_determinism_contexts.specs.Considered.{LexiconView}
use Rattle.wb_compose_theory_grammar.specs.Pieces.{ArePieces}
use Rattle.wb_compose_theory_grammar.specs.UnitedWorlds.{united}
use Rattle.wb_compose_theory_grammar.proofs.FactLemmas.{map_at}
use Rattle.wb_compose_theory_grammar.proofs.PlaceLemmas.{Located, after_all, in_extension, in_host, located}
use Rattle.wb_compose_theory_language.specs.Written.{IsHostLayoutRow, IsOwnLayoutRow, WrittenPiece, host_layouts, own_layouts, pieces_of}
use Rattle.wb_compose_theory_language.specs.Rows.{host_row, layout_count, layout_sizes, piece_row}
use Rattle.wb_compose_theory_language.proofs.RowLemmas.{host_past, row_layout}

module _ (host : GrammarView) (extensible : List ℕ) (own : LexiconView) (written : List WrittenPiece)
    (ok : ArePieces host extensible (pieces_of written)) where
  -- the number is that of layout of the host, or of an extension's own
  pub data Layout (number : ℕ) : Type 0 where
    hosts : (t : ℕ) → IsHostLayoutRow host.terminals (host_layouts host own) t → number ≡ host_row host extensible own written t →
        Layout number
    owned : (k : ℕ) (x : WrittenPiece) (t : ℕ) → slice_get written k ≡ Some x → IsOwnLayoutRow host own x t →
        number ≡ piece_row host extensible own written k x t → Layout number

  -- layout by its place after all terminals
  pub layout_of : (j : ℕ) → j < layout_count host extensible own written →
      Layout ((united host extensible (pieces_of written)).terminals + j)
  layout_of j less = go (located (host_layouts host own) (layout_sizes host extensible own written) j)
    where
      go : Located (host_layouts host own) (layout_sizes host extensible own written) j →
          Layout ((united host extensible (pieces_of written)).terminals + j)
      go (in_host near) =
          let here = host_past host extensible own written ok j near in
          hosts (host.terminals + j) (omega arith, omega (arith, near)) (omega (arith, here))
      go (in_extension k size i at within is) =
          let (x, there, size_is) = map_at (own_layouts host own) written k size at in
          let mine : IsOwnLayoutRow host own x (x.piece.grammar.terminals + host_layouts host own + i) =
          (omega arith, omega (arith, within, size_is)) in
          let here = row_layout host extensible own written ok k x there (x.piece.grammar.terminals + host_layouts host own + i) mine in
          owned k x (x.piece.grammar.terminals + host_layouts host own + i) there mine (omega (arith, here, is))
      go (after_all i is) = absurd (omega (arith, is, less))
