use Rattle.std.proofs.Common.{◌≡◌, ◌++◌, take}
use Rattle.wb_compose_texts.specs.Signatures.{grammar_signatures}
use Rattle.wb_compose_texts.proofs.signatures.add_host.Given as goal

abbrev pub invariant-productions : goal.invariant-productions
invariant-productions l = l.made ≡ l.initial.made ++ take l.production (grammar_signatures l.host)
