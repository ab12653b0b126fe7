use Rattle.std.proofs.Common.{◌≡◌, ◌<◌, ◌≤◌, ◌%◌, sym, subst, rules}
use Rattle.wb_values.specs.InPlace.{node_at}
use Rattle.wb_values.specs.Inner.Layouts.{IsWalk}
use Rattle.wb_values.proofs.WalkLemmas.{walk_begins, walk_top, walk_tree, walk_inner, walk_cell, walk_other, walk_past, walk_ends}
use Rattle.wb_values.proofs.walk.child_position.Goals as goal

pub children-init : goal.children-init
children-init c =
    subst (λ n. IsWalk c.args.nodes.now c.args.tree c.args.after (node_at c.args.nodes.now c.args.tree).inner c.args.tree n c.args.after)
    (sym c.begin-at.ensures) (walk_begins c.args.nodes.now c.args.tree c.args.after c.requires.sized c.requires.tree c.requires.after)

pub overflow_sub-result : goal.overflow_sub-result
overflow_sub-result c =
    let some : 1 ≤ c.children.digits = search rules in
    let odd : c.children.digits % 2 ≡ 1 = search rules in
    (walk_top c.args.nodes.now c.args.tree c.args.after c.children.digits c.children.top c.children.at c.children.left some
    c.children.invariant odd).0

pub returns-then-left-eq0 : goal.returns-then-left-eq0
returns-then-left-eq0 c values child le there =
    let some : 1 ≤ c.children.digits = search rules in
    let odd : c.children.digits % 2 ≡ 1 = search rules in
    let here : c.children.left ≡ 0 = search rules in
    walk_tree c.args.nodes.now c.args.tree c.args.after c.children.digits c.children.top c.children.at c.children.left some
    c.children.invariant odd here values child le there

pub overflow_sub-top : goal.overflow_sub-top
overflow_sub-top c =
    let some : 1 ≤ c.children.digits = search rules in
    let odd : c.children.digits % 2 ≡ 1 = search rules in
    (walk_top c.args.nodes.now c.args.tree c.args.after c.children.digits c.children.top c.children.at c.children.left some
    c.children.invariant odd).0

pub overflow_sub-top-then-digits-eq1 : goal.overflow_sub-top-then-digits-eq1
overflow_sub-top-then-digits-eq1 c =
    let some : 1 ≤ c.children.digits = search rules in
    let odd : c.children.digits % 2 ≡ 1 = search rules in
    (walk_top c.args.nodes.now c.args.tree c.args.after c.children.digits c.children.top c.children.at c.children.left some
    c.children.invariant odd).2

pub children-preserved-then-digits-eq1 : goal.children-preserved-then-digits-eq1
children-preserved-then-digits-eq1 c =
    let some : 1 ≤ c.children.digits = search rules in
    let odd : c.children.digits % 2 ≡ 1 = search rules in
    let more : 1 ≤ c.children.left = search rules in
    walk_inner c.args.nodes.now c.args.tree c.args.after c.children.digits c.children.top c.children.at c.children.left some
    c.children.invariant odd more

pub returns-then-left-eq0-2 : goal.returns-then-left-eq0-2
returns-then-left-eq0-2 c values child le there =
    let some : 1 ≤ c.children.digits = search rules in
    let even : c.children.digits % 2 ≡ 0 = search rules in
    let here : c.children.left ≡ 0 = search rules in
    let more : c.children.at < (node_at c.args.nodes.now c.args.tree).end = search rules in
    walk_cell c.args.nodes.now c.args.tree c.args.after c.children.digits c.children.top c.children.at c.children.left some
    c.children.invariant even more here values child le there

pub children-preserved-then-at-end : goal.children-preserved-then-at-end
children-preserved-then-at-end c =
    let some : 1 ≤ c.children.digits = search rules in
    let even : c.children.digits % 2 ≡ 0 = search rules in
    let some_left : 1 ≤ c.children.left = search rules in
    let more : c.children.at < (node_at c.args.nodes.now c.args.tree).end = search rules in
    walk_other c.args.nodes.now c.args.tree c.args.after c.children.digits c.children.top c.children.at c.children.left some
    c.children.invariant even more some_left

pub children-preserved : goal.children-preserved
children-preserved c =
    let some : 1 ≤ c.children.digits = search rules in
    let even : c.children.digits % 2 ≡ 0 = search rules in
    let none : (node_at c.args.nodes.now c.args.tree).end ≤ c.children.at = search rules in
    walk_past c.args.nodes.now c.args.tree c.args.after c.children.digits c.children.top c.children.at c.children.left some
    c.children.invariant even none

pub returns : goal.returns
returns c values child le there =
    let none : c.children.digits ≡ 0 = search rules in
    walk_ends c.args.nodes.now c.args.tree c.args.after c.children.digits c.children.top c.children.at c.children.left none
    c.children.invariant values child le there
