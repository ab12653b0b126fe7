use Rattle.std.proofs.Common.{take}
use Rattle.wb_compose_language.specs.Inner.Known.{AreBases}
use Rattle.wb_compose_language.proofs.known.owns_of.Given as goal

abbrev pub invariant-extensions : goal.invariant-extensions
invariant-extensions l = AreBases l.own l.hosts (take l.extension-index l.extensions) l.owns.patterns.items l.owns.bases.items
