use Rattle.std.proofs.Common.{Some, ap, ◌∙◌}
use Rattle.std.proofs.lemmas.Option.{slice_get-get_or}
use Rattle.wb_explain_flows.proofs.chain.is_at.Goals as goal

pub returns-then-place-vertices : goal.returns-then-place-vertices
returns-then-place-vertices c =
    λ yes. slice_get-get_or c.args.vertices.now c.args.place _ c.if-place-vertices.true ∙ ap Some (c.same.ensures yes)
