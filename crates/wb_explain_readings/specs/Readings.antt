-- Two derivation trees that show what a conflict is about.
use Rattle.std.specs.Prelude.{◌≡◌, ◌≢◌, ℕ, Bool, true, false, List, ◌++◌}
use Rattle.wb_base.specs.Grammar.{GrammarView}
use Rattle.wb_grammar_theory.specs.Trees.{Forest, DerivationTree}
use Rattle.wb_explain_readings.specs.declared.found.Found.{Found}
use Rattle.wb_explain_readings.specs.declared.piece.Piece.{Piece}
use Rattle.wb_explain_readings.specs.Written.{terminals, written}

-- the text is at the beginning
abbrev pub Begins : List ℕ → List ℕ → Type 0
Begins text all = (rest : List ℕ) × (all ≡ text ++ rest)

-- the terminals are this text, where it is a whole one, and else they begin with it
abbrev pub HasText : Bool → List ℕ → List ℕ → Type 0
HasText true text all = all ≡ text
HasText false text all = Begins text all

-- the pieces are a derivation tree of the grammar, whose leaves are this text or begin with it
pub record IsReading (g : GrammarView) (whole : Bool) (text : List ℕ) (pieces : List Piece) (tree : Forest) : Type 0 where
  pub derivation : DerivationTree g tree
  pub is_written : written tree ≡ pieces
  pub has_text : HasText whole text (terminals tree)

-- both are, and the trees differ: two readings of one text, or two texts that begin alike
pub record AreReadings (g : GrammarView) (found : Found) : Type 0 where
  pub first : Forest
  pub second : Forest
  pub first_is : IsReading g found.is_whole found.text found.first first
  pub second_is : IsReading g found.is_whole found.text found.second second
  pub differ : first ≢ second
