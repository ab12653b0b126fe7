use Rattle.std.proofs.Common.{take}
use Rattle.std.specs.List.{AllZip}
use Rattle.wb_compose.specs.Inner.Cuts.{IsCut}
use Rattle.wb_compose.proofs.cuts.cuts_of.Given as goal

abbrev pub invariant-extensions : goal.invariant-extensions
invariant-extensions l = AllZip (IsCut l.host.attributes.now l.host.grammar.now) (take l.extension-index l.extensions) l.additions.items
