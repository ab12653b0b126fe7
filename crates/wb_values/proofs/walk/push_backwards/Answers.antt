use Rattle.std.proofs.Common.{◌≡◌, ◌<◌, ◌≤◌, ◌%◌, ◌/◌, ◌-◌, ◌+◌, List, sym, subst, rules}
use Rattle.wb_values.specs.declared.value.Value.{Value}
use Rattle.wb_values.specs.InPlace.{node_at, size_at}
use Rattle.wb_values.specs.Inner.Layouts.{IsListing}
use Rattle.wb_values.proofs.ListingLemmas.{listing_begins, listing_top, listing_inner, listing_other, listing_past, listing_rest, listing_ends}
use Rattle.wb_values.proofs.walk.push_backwards.Goals as goal

pub children-init : goal.children-init
children-init c =
    subst (λ n. IsListing c.args.nodes.now c.args.cells.now c.args.tree (node_at c.args.nodes.now c.args.tree).inner c.args.tree n
    c.args.values.now c.args.values.now) (sym c.begin-at.ensures)
    (listing_begins c.args.nodes.now c.args.cells.now c.args.tree c.args.values.now c.requires.sized c.requires.tree)

pub overflow_sub-top : goal.overflow_sub-top
overflow_sub-top c =
    let some : 1 ≤ c.children.digits = search rules in
    let odd : c.children.digits % 2 ≡ 1 = search rules in
    (listing_top c.args.nodes.now c.args.cells.now c.args.tree c.args.values.now c.children.digits c.children.top c.children.at
    c.children.values c.children.invariant some odd).0

pub overflow_sub-top-then-digits-eq1 : goal.overflow_sub-top-then-digits-eq1
overflow_sub-top-then-digits-eq1 c =
    let some : 1 ≤ c.children.digits = search rules in
    let odd : c.children.digits % 2 ≡ 1 = search rules in
    (listing_top c.args.nodes.now c.args.cells.now c.args.tree c.args.values.now c.children.digits c.children.top c.children.at
    c.children.values c.children.invariant some odd).0

pub overflow_sub-top-then-digits-eq1-2 : goal.overflow_sub-top-then-digits-eq1-2
overflow_sub-top-then-digits-eq1-2 c =
    let some : 1 ≤ c.children.digits = search rules in
    let odd : c.children.digits % 2 ≡ 1 = search rules in
    (listing_top c.args.nodes.now c.args.cells.now c.args.tree c.args.values.now c.children.digits c.children.top c.children.at
    c.children.values c.children.invariant some odd).2

pub children-preserved-then-digits-eq1 : goal.children-preserved-then-digits-eq1
children-preserved-then-digits-eq1 c =
    let some : 1 ≤ c.children.digits = search rules in
    let odd : c.children.digits % 2 ≡ 1 = search rules in
    subst (λ (xs : List Value). IsListing c.args.nodes.now c.args.cells.now c.args.tree (c.children.digits / 2)
    (c.children.top - size_at c.args.nodes.now (c.children.top - 1)) c.children.at c.args.values.now xs) (sym c.in_ok-push_tree.ensures.ok)
    (listing_inner c.args.nodes.now c.args.cells.now c.args.tree c.args.values.now c.children.digits c.children.top c.children.at
    c.children.values c.children.invariant some odd)

pub children-preserved-then-at-end : goal.children-preserved-then-at-end
children-preserved-then-at-end c =
    let some : 1 ≤ c.children.digits = search rules in
    let even : c.children.digits % 2 ≡ 0 = search rules in
    let more : c.children.at < (node_at c.args.nodes.now c.args.tree).end = search rules in
    subst (λ (xs : List Value). IsListing c.args.nodes.now c.args.cells.now c.args.tree (c.children.digits / 2) c.children.top
    (c.children.at + 1) c.args.values.now xs) (sym c.in_ok-push_copy.ensures.ok)
    (listing_other c.args.nodes.now c.args.cells.now c.args.tree c.args.values.now c.children.digits c.children.top c.children.at
    c.children.values c.children.invariant some even more c.requires.end)

pub children-preserved : goal.children-preserved
children-preserved c =
    let some : 1 ≤ c.children.digits = search rules in
    let even : c.children.digits % 2 ≡ 0 = search rules in
    let past : (node_at c.args.nodes.now c.args.tree).end ≤ c.children.at = search rules in
    listing_past c.args.nodes.now c.args.cells.now c.args.tree c.args.values.now c.children.digits c.children.top c.children.at
    c.children.values c.children.invariant some even past

pub others-init : goal.others-init
others-init c = record { none = search rules; listing = c.children.invariant }

pub others-preserved : goal.others-preserved
others-preserved c =
    let more : c.others.at < (node_at c.args.nodes.now c.args.tree).end = search rules in
    record {
      none = c.others.invariant.none;
      listing = subst (λ (xs : List Value). IsListing c.args.nodes.now c.args.cells.now c.args.tree c.children.digits c.children.top
          (c.others.at + 1) c.args.values.now xs) (sym c.in_ok-push_copy-2.ensures.ok)
          (listing_rest c.args.nodes.now c.args.cells.now c.args.tree c.args.values.now c.children.digits c.children.top c.others.at
          c.others.values c.others.invariant.listing c.others.invariant.none more c.requires.end);
    }

pub returns-clause-ok : goal.returns-clause-ok
returns-clause-ok c =
    let past : (node_at c.args.nodes.now c.args.tree).end ≤ c.others.at = search rules in
    listing_ends c.args.nodes.now c.args.cells.now c.args.tree c.args.values.now c.children.digits c.children.top c.others.at
    c.others.values c.others.invariant.listing c.others.invariant.none past
