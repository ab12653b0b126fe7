-- Trees while what is written is read from right to left: those of the innermost bracket first, then those of the brackets around it.
use Rattle.std.specs.Prelude.{◌≡◌, List, [], ◌∷◌, ◌++◌, Option, Some, None, map}
use Rattle.wb_base.specs.declared.symbol.Symbol.{Symbol}
use Rattle.wb_base.specs.Grammar.{GrammarView}
use Rattle.wb_grammar_theory.specs.Trees.{Forest, IsDerived, symbols}
use Rattle.wb_explain_readings.specs.declared.piece.Piece.{Piece}
use Rattle.wb_explain_readings.specs.declared.piece.Piece.TheVariants.{Close}
use Rattle.wb_explain_readings.specs.Written.{written}

-- the symbols of the roots, those of each bracket after a mark
abbrev pub marked : Forest → List Forest → List (Option Symbol)
marked top [] = map Some (symbols top)
marked top (next ∷ more) = map Some (symbols top) ++ None ∷ marked next more

-- what was read
abbrev pub spelled : Forest → List Forest → List Piece
spelled top [] = written top
spelled top (next ∷ more) = written top ++ Close ∷ spelled next more

-- each of these is made of derivation trees
abbrev pub AreDerived : GrammarView → List Forest → Type 0
AreDerived g [] = Unit {0}
AreDerived g (f ∷ more) = IsDerived g f × AreDerived g more

-- the stack has the roots of such trees, and what was read is this
pub record Holds (g : GrammarView) (stack : List (Option Symbol)) (read : List Piece) : Type 0 where
  pub top : Forest
  pub more : List Forest
  pub roots : stack ≡ marked top more
  pub top_derived : IsDerived g top
  pub more_derived : AreDerived g more
  pub is : read ≡ spelled top more
