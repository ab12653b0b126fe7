use Rattle.std.proofs.Common.{sym, subst, take, ◌+◌, ◌∙◌, ap, List, ℕ, Contains, Some, slice_get, ◌≡◌}
use Rattle.std.specs.List.{AllZip}
use Rattle.wb_names_rows.specs.Nodes.{IsAt}
use Rattle.wb_names_rows.proofs.ZipLemmas.{zip_more, zip_all}
use Rattle.wb_names_rows.proofs.plains.written_needs.Goals as goal

pub number_of-requires : goal.number_of-requires
number_of-requires c =
    subst (λ (z : List ℕ). Contains c.args.scope.now.attributes z) (sym (c.as_slice.ensures ∙ c.name-item.is))
    (c.requires c.loop-name.name-index c.name-item.result c.loop-name-test.true)

pub loop-name-preserved : goal.loop-name-preserved
loop-name-preserved c =
    let found : slice_get c.args.scope.now.attributes c.number_of.result ≡ Some c.name-item.result =
    c.number_of.ensures ∙ ap Some c.as_slice.ensures in
    subst (AllZip (IsAt c.args.scope.now.attributes) (take (c.loop-name.name-index + 1) c.args.names.now)) (sym c.in_ok-push.ensures.ok)
    (zip_more (IsAt c.args.scope.now.attributes) c.args.names.now c.loop-name.made.items c.loop-name.name-index c.name-item.result
    c.number_of.result c.loop-name.invariant c.loop-name-test.true c.name-item.is found)

pub returns : goal.returns
returns c =
    subst (AllZip (IsAt c.args.scope.now.attributes) c.args.names.now) (sym c.from_vec.ensures)
    (zip_all (IsAt c.args.scope.now.attributes) c.args.names.now c.loop-name.made.items c.loop-name.name-index c.loop-name.invariant
    c.loop-name-test.false)
