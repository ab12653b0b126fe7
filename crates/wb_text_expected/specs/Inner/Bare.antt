-- A grammar without what it makes of a text.
use Rattle.std.specs.Prelude.{List, Bool}
use Rattle.wb_text_predictive.specs.declared.symbol.Symbol.{Symbol}
use Rattle.wb_text_predictive.specs.declared.table.Placed.{Placed}
use Rattle.wb_text_predictive.specs.Grammar.{Grammar}
use Rattle.wb_text_predictive.specs.Entries.{Entry}
use Rattle.wb_text_predictive.specs.Stack.{Stands}

-- the same grammar, which makes nothing of a text
abbrev pub bare : {K N A X V : Type 0} → Grammar K N A X V → Grammar K N A X (Unit {0})
bare g = record { start = g.start; rights = g.rights; kind_of = g.kind_of; shift = λ x at end v. v; act = λ c v. v }

-- the row is what may follow the tokens that were read, whatever was made of them
abbrev pub StandsBare : {K N A X V : Type 0} → (K → K → Bool) → K → (N → Entry K) → Grammar K N A X V → List (Placed X)
    → List (Symbol K N A) → (List (Placed X) → Type 0) → Type 0
StandsBare same end entries g read row Fits = Stands same end entries (bare g) tt read row tt Fits
