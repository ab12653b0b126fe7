use Rattle.std.proofs.Common.{◌≡◌, ◌++◌, take}
use Rattle.wb_report.specs.Parts.{spaced}
use Rattle.wb_report.proofs.pieces.push_spaced.Given as goal

abbrev pub invariant-names : goal.invariant-names
invariant-names l = l.out.items ≡ l.initial.out.items ++ spaced (take l.name-index l.names)
