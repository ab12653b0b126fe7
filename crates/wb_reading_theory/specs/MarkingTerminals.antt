-- The markers of the union of a host and extensions.
use Rattle.std.specs.Prelude.{◌↔◌, ℕ, Bool, List}
use Rattle.wb_base.specs.Grammar.{GrammarView}
use Rattle.wb_determinism_contexts.specs.Considered.{LexiconView}
use Rattle.wb_termset.specs.Sets.{IsMember}
use Rattle.wb_compose_theory_language.specs.Forms.{IsMarkerOf}
use Rattle.wb_compose_theory_language.specs.Written.{WrittenPiece}

module _ (host : GrammarView) (extensible : List ℕ) (own : LexiconView) (written : List WrittenPiece) where
  -- the terminal of the union is a marker of one of the extensions
  pub record IsMarking (t : ℕ) : Type 0 where
    pub k : ℕ
    pub x : WrittenPiece
    pub of_extension : IsMarkerOf host extensible own written k x t

  -- the set holds exactly the marking terminals of the union
  abbrev pub AreMarking : List Bool → Type 0
  AreMarking markers = (t : ℕ) → IsMember markers t ↔ IsMarking t
