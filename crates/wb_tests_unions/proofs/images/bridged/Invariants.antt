use Rattle.std.proofs.Common.{◌≡◌, drop}
use Rattle.wb_determinism.specs.Images.{bridged}
use Rattle.wb_tests_unions.proofs.images.bridged.Given as goal

abbrev pub invariant-productions : goal.invariant-productions
invariant-productions l = bridged l.terminal (drop l.production l.grammar.productions) ≡ bridged l.terminal l.grammar.productions
