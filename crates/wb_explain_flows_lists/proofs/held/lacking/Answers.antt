use Rattle.std.proofs.Common.{get_or, refl}
use Rattle.std.proofs.lemmas.Option.{slice_get-get_or}
use Rattle.wb_lemmas.proofs.Members.{contains_at}
use Rattle.wb_flow.proofs.EachLemmas.{not_contained}
use Rattle.wb_explain_flows_lists.proofs.held.lacking.Goals as goal

pub returns-then-not-contains : goal.returns-then-not-contains
returns-then-not-contains c =
    let wanted = c.args.wanted.now in
    let i = get_or wanted c.wanted.number-index 0 in
    let at = slice_get-get_or wanted c.wanted.number-index 0 c.wanted-test.true in (
      contains_at wanted i c.wanted.number-index at,
      not_contained c.args.listed.now c.args.listed.now refl i c.contains.result c.contains.ensures.cases c.if-not-contains.true,
    )
