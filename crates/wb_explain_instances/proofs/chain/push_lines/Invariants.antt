use Rattle.std.proofs.Common.{take}
use Rattle.wb_explain_instances.specs.Said.{HasLines}
use Rattle.wb_explain_instances.proofs.chain.push_lines.Given as goal

abbrev pub invariant-keys : goal.invariant-keys
invariant-keys l = HasLines l.shown.attributes.now (take l.key-index l.keys) l.initial.out.items l.out.items
