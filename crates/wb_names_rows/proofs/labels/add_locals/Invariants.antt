use Rattle.std.proofs.Common.{◌≡◌, ◌++◌, map, take}
use Rattle.wb_syntax_resolved.specs.declared.production.Local.{Local}
use Rattle.wb_names_rows.proofs.labels.add_locals.Given as goal

abbrev pub invariant-loop-local : goal.invariant-loop-local
invariant-loop-local l = l.labels ≡ l.fn.labels ++ map (λ (x : Local). x.label) (take l.local-index l.locals)
