use Rattle.std.proofs.Common.{◌≡◌, ◌++◌, take}
use Rattle.wb_report.specs.Parts.{vertices_text}
use Rattle.wb_report.proofs.pieces.push_vertices.Given as goal

abbrev pub invariant-vertices : goal.invariant-vertices
invariant-vertices l = l.out.items ≡ l.initial.out.items ++ vertices_text (take l.vertex-index l.vertices)
