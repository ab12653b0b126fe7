-- What the stack stands for once a token is on top, or nothing is.
use Rattle.std.specs.Prelude.{List, [], ◌∷◌, Bool}
use Rattle.wb_text_predictive.specs.declared.symbol.Symbol.{Symbol}
use Rattle.wb_text_predictive.specs.declared.symbol.Symbol.TheVariants as Symbols
use Rattle.wb_text_predictive.specs.declared.table.Placed.{Placed}
use Rattle.wb_text_predictive.specs.Grammar.{Grammar}
use Rattle.wb_text_predictive.specs.Entries.{Entry}
use Rattle.wb_text_predictive.specs.Stack.{Begins, NoneFits}
use Rattle.wb_text_expected.specs.Inner.Bare.{StandsBare, bare}
use Rattle.wb_text_expected.specs.declared.machine.Top.{Top}
use Rattle.wb_text_expected.specs.declared.machine.Top.TheVariants.{Token, Bottom, Stuck}

-- with this kind ahead, what is left of the row follows the token that was on top, or is alone, or no text goes on
abbrev pub TopIs : {K N A X V : Type 0} → (K → K → Bool) → K → (N → Entry K) → Grammar K N A X V → K → List (Placed X)
    → List (Symbol K N A) → Top K → Type 0
TopIs same end entries g kind read row (Token wanted) = StandsBare same end entries g read (Symbols.Token wanted ∷ row) (Begins g.kind_of end kind)
TopIs same end entries g kind read row Bottom = StandsBare same end entries g read [] (Begins g.kind_of end kind)
TopIs same end entries g kind read row Stuck = NoneFits (bare g) end kind tt read
