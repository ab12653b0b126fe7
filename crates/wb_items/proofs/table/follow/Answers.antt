use Rattle.std.proofs.Common.{◌≡◌, ◌<◌, ◌∷◌, [], List, Some, length, sym, subst, arith, length-append}
use Rattle.std.specs.Prelude.{slice_get}
use Rattle.std.proofs.lemmas.Option.{slice_get_within}
use Rattle.wb_lemmas.proofs.Places.{at_once}
use Rattle.wb_grammar_theory.specs.declared.item.Item.{Item}
use Rattle.wb_items.specs.Kernels.{ListsItems}
use Rattle.wb_items.specs.Table.{IsRow}
use Rattle.wb_items.proofs.TableLemmas.{prefix_at, closure_lists, followed_more}
use Rattle.wb_items.proofs.table.follow.Goals as goal

pub moves-requires-clause-exact : goal.moves-requires-clause-exact
moves-requires-clause-exact c = λ prefix at.
    subst (ListsItems c.args.grammar.now prefix) (sym c.as_slice.ensures)
    (closure_lists c.args.grammar.now c.requires.live prefix c.kernel.result.now c.in_ok-closure.closure
    (c.requires.kernels.exact c.len-state.result prefix c.kernel.result.now at c.kernel.ensures) c.in_ok-closure.ensures.exact)

state_is : (c : goal.In_ok-push-2) → c.len-state.result ≡ length c.args.table.now.closures.items
state_is c = omega (arith, c.len-state.ensures, c.args.table.now.closures.ok.0)

pub returns-clause-followed : goal.returns-clause-followed
returns-clause-followed c =
    let g = c.args.grammar.now in
    let old = c.args.table.now.found in
    let new = c.moves.new.found in
    let closures = c.args.table.now.closures.items in
    let state = c.len-state.result in
    let e : state ≡ length closures = state_is c in
    let within : state < length old.kernels = omega (arith, c.requires.within, c.len-state.ensures) in
    let (prefix, at) = prefix_at c.requires.kernels state within in
    let grows = c.in_ok-row.ensures.grows in
    rw (c.in_ok-push.ensures.ok, c.in_ok-push-2.ensures.ok)
    (followed_more g old new closures c.args.table.now.rows.items prefix c.in_ok-closure.closure c.in_ok-row.row grows
    (λ s p lt there.
    let (p0, at0) = prefix_at c.requires.kernels s (omega (arith, lt, e, within)) in
    subst (λ z. slice_get old.prefixes s ≡ Some z) (at_once new.prefixes s p0 p (grows.prefixes s p0 at0) there) at0)
    (subst (λ k. slice_get new.prefixes k ≡ Some prefix) e (grows.prefixes state prefix at))
    c.requires.followed
    (closure_lists g c.requires.live prefix c.kernel.result.now c.in_ok-closure.closure
    (c.requires.kernels.exact state prefix c.kernel.result.now at c.kernel.ensures) c.in_ok-closure.ensures.exact)
    c.in_ok-closure.ensures.in_order
    (subst (λ k. IsRow g new.prefixes c.in_ok-closure.closure k c.in_ok-row.row) e
    (subst (λ xs. IsRow g new.prefixes xs state c.in_ok-row.row) c.as_slice.ensures c.in_ok-row.ensures.row)))

pub returns-clause-within : goal.returns-clause-within
returns-clause-within c =
    let old = c.args.table.now.found in
    let new = c.moves.new.found in
    let state = c.len-state.result in
    let e : state ≡ length c.args.table.now.closures.items = state_is c in
    let within : state < length old.kernels = omega (arith, c.requires.within, c.len-state.ensures) in
    let (prefix, at) = prefix_at c.requires.kernels state within in
    let w = slice_get_within new.prefixes state prefix (c.in_ok-row.ensures.grows.prefixes state prefix at) in
    rw c.in_ok-push.ensures.ok (omega (
      arith,
      length-append {A =
          List Item} c.args.table.now.closures.items (c.in_ok-closure.closure ∷ []),
      w,
      e,
      c.in_ok-row.ensures.kernels.len,
    ))
