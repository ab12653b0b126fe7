-- What rules in code stand for.
use Rattle.std.specs.Prelude.{List, map}
use Rattle.wb_text_predictive.specs.declared.symbol.Symbol.{Symbol}
use Rattle.wb_text_predictive.specs.declared.symbol.Rule.{Rule}

-- the right sides of rules
abbrev pub rights_of : {K N A : Type 0} → List (Rule K N A) → List (List (Symbol K N A))
rights_of rules = map (λ r. r.right.now) rules

-- the kinds at which each of the rules is chosen
abbrev pub kinds_of : {K N A : Type 0} → List (Rule K N A) → List (List K)
kinds_of rules = map (λ r. r.kinds.now) rules
