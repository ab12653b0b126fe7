use Rattle.std.proofs.Common.{◌+◌, ◌<◌, arith, map, subst}
use Rattle.wb_items.specs.Kernels.{count_of}
use Rattle.wb_compose_theory.specs.Homes.{of}
use Rattle.wb_compose_theory.specs.Renamings.{renamed_item}
use Rattle.wb_compose_kernels.specs.Inner.Counts.{new_count_in}
use Rattle.wb_compose_kernels.specs.Inner.Blocks.{names_by}
use Rattle.wb_compose_kernels.specs.Inner.Filling.{HasNoNumber, IsNumberBy, IsOfList, IsOfNoList}
use Rattle.wb_compose_kernels.proofs.FillingLemmas.{new_of_list, new_of_none}
use Rattle.wb_compose_kernels.proofs.SlotLemmas.{match_as}
use Rattle.wb_compose_kernels.proofs.states.new_number.Goals as goal

pub blocks_at-names-requires : goal.blocks_at-names-requires
blocks_at-names-requires c =
    let len = (c.requires.filling.blocks c.requires.filling.given.spliceable).len in
    let lt = c.requires.part in
    omega (arith, len, lt)

pub kernel-requires : goal.kernel-requires
kernel-requires c = subst (λ o. c.args.place < new_count_in o) c.part_at.ensures c.requires.place

pub returns : goal.returns
returns c =
    let f = c.args.filling.now in
    let k = count_of f.splice.now.kernels.now + c.args.place in
    let kernel = c.kernel.result.now in
    let names = c.blocks_at-names.result in
    let list = map (renamed_item (names_by names)) kernel in
    match_as c.in_ok-found.found (IsOfList f.kernels.now list) (IsNumberBy f (of c.args.part) k) (IsOfNoList f.kernels.now list)
    (HasNoNumber f (of c.args.part) k)
    (λ none h u. new_of_none f h c.args.part c.args.place c.requires.part c.requires.place names c.blocks_at-names.ensures
    c.part_at.result c.part_at.ensures kernel c.kernel.ensures none u)
    (λ u is h. new_of_list f h c.args.part c.args.place c.requires.part c.requires.place names c.blocks_at-names.ensures
    c.part_at.result c.part_at.ensures kernel c.kernel.ensures u is) c.in_ok-found.ensures
