use Rattle.std.proofs.Common.{◌≡◌, drop}
use Rattle.wb_reader_printer.specs.Inner.Output.{after}
use Rattle.wb_reader_printer.specs.Inner.PartTokens.{children_tokens}
use Rattle.wb_reader_printer.proofs.parts.write_children.Given as goal

abbrev pub invariant-children : goal.invariant-children
invariant-children l = after l.line (children_tokens (drop l.child-index l.children)) ≡ after l.fn.line (children_tokens l.children)
