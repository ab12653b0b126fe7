use Rattle.std.proofs.Common.{◌≡◌, drop}
use Rattle.wb_reader_printer.specs.Inner.Output.{after}
use Rattle.wb_reader_printer.specs.Inner.PartTokens.{further_names}
use Rattle.wb_reader_printer.proofs.parts.write_further_names.Given as goal

abbrev pub invariant-names : goal.invariant-names
invariant-names l = after l.line (further_names (drop l.name-index l.names)) ≡ after l.fn.line (further_names l.names)
