use Rattle.std.proofs.Common.{◌≡◌, ◌++◌, ◌∷◌, [], Some, sym, subst}
use Rattle.std.specs.Prelude.{slice_get, slice_index_or}
use Rattle.std.proofs.lemmas.Option.{slice_get-get_or}
use Rattle.wb_lemmas.proofs.Places.{at_once}
use Rattle.wb_items.specs.Moved.{IsKernelFor}
use Rattle.wb_determinism_kernels.specs.declared.moved.MovedKernel.{MovedKernel}
use Rattle.wb_determinism_kernels.specs.NewKernels.{prefixes_beside}
use Rattle.wb_determinism_kernels.specs.Numbers.{up_by}
use Rattle.wb_determinism_kernels.specs.Inner.Growing.{IsAdded}
use Rattle.wb_determinism_kernels.proofs.FollowLemmas.{row_more}
use Rattle.wb_determinism_kernels.proofs.follow.add_move.Goals as goal

pub number_of-requires-clause-kernel : goal.number_of-requires-clause-kernel
number_of-requires-clause-kernel c = λ prefix at.
    let b = c.args.beside.now in
    let moved = c.args.moved.now in
    let m = slice_index_or moved c.args.at c.index-moved-at.result in
    let m' = slice_index_or moved c.args.at c.index-moved-at-2.result in
    let here = slice_get-get_or moved c.args.at c.index-moved-at.result c.requires.at in
    let here' = slice_get-get_or moved c.args.at c.index-moved-at-2.result c.requires.at in
    let same : m ≡ m' = at_once moved c.args.at m m' here here' in
    subst (IsKernelFor b.grammar.now (prefix ++ m.symbol ∷ [])) (sym c.as_slice.ensures)
    (subst (λ (z : MovedKernel). IsKernelFor b.grammar.now (prefix ++ m.symbol ∷ []) z.kernel) same
    (c.requires.kernels prefix
    (subst (λ z. slice_get (prefixes_beside (up_by b.numbers.now) b.host.now c.args.found.now.steps) z ≡ Some prefix)
    c.in_ok-from.ensures at)
    c.args.at m here))

pub returns : goal.returns
returns c =
    let b = c.args.beside.now in
    let moved = c.args.moved.now in
    let m = slice_index_or moved c.args.at c.index-moved-at.result in
    row_more c.args.found.now c.number_of.new.found moved c.args.place c.args.row.now.items c.push.new.list.items c.args.at
    c.in_ok-state.state m c.requires.before (slice_get-get_or moved c.args.at c.index-moved-at.result c.requires.at)
    (subst (λ z. IsAdded b.host.now b.grammar.now (up_by b.numbers.now) c.args.found.now c.number_of.new.found z m.symbol
    c.in_ok-state.state)
    c.in_ok-from.ensures c.in_ok-state.ensures) c.in_ok-push.ensures.ok
