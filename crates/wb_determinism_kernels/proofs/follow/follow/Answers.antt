use Rattle.std.proofs.Common.{◌≡◌, ◌+◌, ◌<◌, ◌∷◌, [], List, Some, length, sym, subst, arith, length-append}
use Rattle.wb_grammar_theory.specs.declared.item.Item.{Item}
use Rattle.std.specs.Prelude.{slice_get}
use Rattle.wb_items.specs.Kernels.{ListsItems, count_of}
use Rattle.wb_determinism_kernels.specs.NewKernels.{prefixes_beside}
use Rattle.wb_determinism_kernels.specs.Numbers.{up_by}
use Rattle.wb_determinism_kernels.specs.Inner.Following.{IsRowAdded}
use Rattle.wb_determinism_kernels.proofs.FollowLemmas.{closure_lists, followed_more, still_within}
use Rattle.wb_determinism_kernels.proofs.follow.follow.Goals as goal

pub moves-requires-clause-exact : goal.moves-requires-clause-exact
moves-requires-clause-exact c = λ prefix at.
    subst (ListsItems c.args.beside.now.grammar.now prefix) (sym c.as_slice.ensures)
    (closure_lists c.args.beside.now.grammar.now c.requires.given.live prefix c.kernel.result.now c.in_ok-closure.closure
    (c.requires.so_far.exact c.len-place.result prefix c.kernel.result.now at c.kernel.ensures) c.in_ok-closure.ensures)

place_is : (c : goal.In_ok-push-2) → c.len-place.result ≡ length c.args.table.now.closures.items
place_is c = omega (arith, c.len-place.ensures, c.args.table.now.closures.ok.0)

pub returns : goal.returns
returns c =
    let b = c.args.beside.now in
    let k = b.grammar.now in
    let up = up_by b.numbers.now in
    let old = c.args.table.now.found in
    let new = c.moves.new.found in
    let closures = c.args.table.now.closures.items in
    let closure = c.in_ok-closure.closure in
    let row = c.in_ok-row.row in
    let place = c.len-place.result in
    let e : place ≡ length closures = place_is c in
    let within : place < length old.kernels = omega (arith, c.requires.within, c.len-place.ensures) in
    let within' : length closures < length old.kernels = omega (arith, within, e) in
    let added : IsRowAdded b.host.now k up old new closure (length closures) row =
    subst (λ n. IsRowAdded b.host.now k up old new closure n row) e
    (subst (λ (z : List Item). IsRowAdded b.host.now k up old new z place row) c.as_slice.ensures c.in_ok-row.ensures) in
    let longer : length c.push.new.list.items ≡ length closures + 1 =
    rw c.in_ok-push.ensures.ok (omega (arith, length-append {A = List Item} closures (closure ∷ []))) in
    record {
      so_far = added.so_far;
      grows = added.grows;
      followed = followed_more old new closures c.push.new.list.items c.args.table.now.rows.items c.push-2.new.list.items closure row
          c.requires.so_far within' c.requires.followed added
          (λ prefix at. closure_lists k c.requires.given.live prefix c.kernel.result.now closure
          (c.requires.so_far.exact place prefix c.kernel.result.now (subst (λ n. slice_get (prefixes_beside up b.host.now old.steps)
          (count_of b.host.now + n) ≡ Some prefix) (sym e) at) c.kernel.ensures) c.in_ok-closure.ensures)
          c.in_ok-push.ensures.ok c.in_ok-push-2.ensures.ok;
      within = (let w = still_within old new (length closures) added.grows within' in omega (arith, w, longer));
      more = longer;
    }
