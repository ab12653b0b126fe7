use Rattle.std.proofs.Common.{take}
use Rattle.wb_names_rows.specs.Blocks.{equations_at, AddsBody}
use Rattle.wb_names_rows.proofs.body.add_all.Given as goal

abbrev pub invariant-loop-place : goal.invariant-loop-place
invariant-loop-place l = AddsBody l.scope l.labels (equations_at l.items (take l.place-index l.places)) l.fn.body l.body
