-- The languages of two unions of a host with the same extensions, in two orders.
use Rattle.std.specs.Prelude.{ℕ, List}
use Rattle.wb_base.specs.Grammar.{GrammarView}
use Rattle.wb_determinism_contexts.specs.Considered.{LexiconView}
use Rattle.wb_scan_theory.specs.Languages.{LanguageView}
use Rattle.wb_compose_theory.specs.Renamings.{Renaming}
use Rattle.wb_compose_theory_grammar.specs.Pieces.{ArePieces}
use Rattle.wb_compose_theory_language.specs.Languages.{IsUnitedLanguage}
use Rattle.wb_compose_theory_language.specs.Written.{WrittenPiece, pieces_of}
use Rattle.wb_compose_theory_order.specs.Orders.{IsReordering, reordered}

module _ (host : GrammarView) (extensible : List ℕ) where
  -- where the numbers of the union of the extensions in the first order are in that of the second
  abbrev pub names_to : (written others : List WrittenPiece) → (ℕ → ℕ) → Renaming
  names_to written others to = reordered host extensible (pieces_of written) (pieces_of others) to

  -- extensions of the host in two orders, and a language of the union of each
  pub record AreInTwoOrders (own : LexiconView) (written others : List WrittenPiece) (to from : ℕ → ℕ) (l m : LanguageView) : Type 0 where
    pub pieces : ArePieces host extensible (pieces_of written)
    pub reordering : IsReordering to from written others
    pub one : IsUnitedLanguage host extensible own written l
    pub other : IsUnitedLanguage host extensible own others m
