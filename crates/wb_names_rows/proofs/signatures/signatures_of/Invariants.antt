use Rattle.std.proofs.Common.{◌≡◌, map, take}
use Rattle.wb_syntax_resolved.specs.Numbered.{signature_of}
use Rattle.wb_names_rows.proofs.signatures.signatures_of.Given as goal

abbrev pub invariant-productions : goal.invariant-productions
invariant-productions l = l.made ≡ map (signature_of l.extensions) (take l.production-index l.productions)
