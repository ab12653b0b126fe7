use Rattle.std.proofs.Common.{◌≡◌, map, take}
use Rattle.wb_compose_theory.specs.Blocks.{lift}
use Rattle.wb_compose_texts.specs.Signatures.{kind_by}
use Rattle.wb_compose_texts.proofs.signatures.lifted_kinds.Given as goal

abbrev pub invariant-kinds : goal.invariant-kinds
invariant-kinds l = l.made.items ≡ map (kind_by (lift l.own l.before)) (take l.kind-index l.kinds)
