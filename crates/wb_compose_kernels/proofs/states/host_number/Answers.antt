use Rattle.std.proofs.Common.{◌∙◌, map, sym}
use Rattle.std.proofs.lemmas.Bool.{true≢false}
use Rattle.wb_compose_theory.specs.Homes.{of_host}
use Rattle.wb_compose_theory.specs.Renamings.{renamed_item}
use Rattle.wb_compose_kernels.specs.Inner.Blocks.{names_by}
use Rattle.wb_compose_kernels.specs.Inner.Filling.{HasNoNumber, IsNumberBy, IsOfList, IsOfNoList}
use Rattle.wb_compose_kernels.proofs.FillingLemmas.{host_of_hole, host_of_list, host_of_none}
use Rattle.wb_compose_kernels.proofs.SlotLemmas.{match_as}
use Rattle.wb_compose_kernels.proofs.states.host_number.Goals as goal

pub returns-then-has_hole : goal.returns-then-has_hole
returns-then-has_hole c = λ h u.
    host_of_hole c.args.filling.now h c.args.state c.kernel-kernel.result.now c.kernel-kernel.ensures.exact
    (c.has_hole.ensures.0 c.if-has_hole.true) u

pub returns : goal.returns
returns c =
    let f = c.args.filling.now in
    let kernel = c.kernel-kernel.result.now in
    let list = map (renamed_item (names_by f.host)) kernel in
    match_as c.in_ok-found.found (IsOfList f.kernels.now list) (IsNumberBy f of_host c.args.state) (IsOfNoList f.kernels.now list)
    (HasNoNumber f of_host c.args.state)
    (λ none h u. host_of_none f h c.args.state kernel c.kernel-kernel.ensures.exact none u)
    (λ u is h. host_of_list f h c.args.state u kernel c.requires.state c.kernel-kernel.ensures.exact
    (λ x. true≢false (sym (c.has_hole.ensures.1 x) ∙ c.if-has_hole.false)) is) c.in_ok-found.ensures
