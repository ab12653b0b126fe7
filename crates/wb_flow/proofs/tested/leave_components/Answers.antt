use Rattle.std.proofs.Common.{◌≡◌, ◌<◌, ◌≤◌, ◌∙◌, Some, length, get_or, slice_get, sym, subst, arith}
use Rattle.std.proofs.lemmas.Option.{slice_get-get_or, same_Some}
use Rattle.wb_lemmas.proofs.Elements.{all_at}
use Rattle.wb_lemmas.proofs.Members.{place_of}
use Rattle.wb_graph.specs.Graphs.{IsEdgeBelow}
use Rattle.wb_flow.specs.Inner.Sources.{LeavesComponent}
use Rattle.wb_flow.proofs.EachLemmas.{each_more, each_in}
use Rattle.wb_flow.proofs.tested.leave_components.Goals as goal

pub edges-init : goal.edges-init
edges-init c k e lt at = absurd (omega (arith, lt))
