use Rattle.std.proofs.Common.{◌≡◌, ◌+◌, ◌++◌, ◌∷◌, ◌∙◌, [], List, sym, ap, subst}
use Rattle.wb_grammar_theory.specs.declared.item.Item.{Item}
use Rattle.wb_items.specs.Kernels.{AreInOrder, count_of}
use Rattle.wb_items.specs.Table.{SameItems}
use Rattle.wb_determinism_kernels.specs.Numbers.{up_by}
use Rattle.wb_determinism_kernels.specs.Inner.Growing.{IsAdded}
use Rattle.wb_determinism_kernels.proofs.GrowLemmas.{for_sorted, leads_found, leads_new}
use Rattle.wb_determinism_kernels.proofs.numbering.find_or_add.Goals as goal

pub find-requires : goal.find-requires
find-requires c =
    for_sorted c.requires.given c.args.found.now c.requires.so_far c.args.step.from c.args.step.symbol c.args.kernel.now c.requires.from
    c.requires.kernel

pub returns-in-Some : goal.returns-in-Some
returns-in-Some c =
    let b = c.args.beside.now in
    let (other, there, same) = c.in-Some.ensures.found in
    subst (IsAdded b.host.now b.grammar.now (up_by b.numbers.now) c.args.found.now c.args.found.now c.args.step.from c.args.step.symbol)
    (sym c.in_ok-number.ensures)
    (leads_found c.requires.given c.args.found.now c.requires.so_far c.args.step.from c.args.step.symbol c.args.kernel.now c.requires.from
    c.requires.kernel c.in-Some.place other there same)

pub add-requires-clause-in_order : goal.add-requires-clause-in_order
add-requires-clause-in_order c = subst AreInOrder (sym (c.from_vec.ensures ∙ c.in_ok-items.ensures.items))
    (for_sorted c.requires.given c.args.found.now c.requires.so_far c.args.step.from c.args.step.symbol c.args.kernel.now c.requires.from
    c.requires.kernel)

pub add-requires-clause-new : goal.add-requires-clause-new
add-requires-clause-new c = λ i other at same. c.in_default.ensures.none i other at
    (subst (SameItems other) (c.from_vec.ensures ∙ c.in_ok-items.ensures.items) same)

pub returns : goal.returns
returns c =
    let b = c.args.beside.now in
    let old = c.args.found.now in
    let items_is : c.from_vec.result ≡ c.args.kernel.now = c.from_vec.ensures ∙ c.in_ok-items.ensures.items in
    subst (IsAdded b.host.now b.grammar.now (up_by b.numbers.now) old c.add.new.self c.args.step.from c.args.step.symbol)
    (sym (c.in_ok-number-2.ensures ∙ ap (λ n. count_of b.host.now + n) c.len.ensures.kernels))
    (leads_new c.requires.given old c.requires.so_far c.args.step.from c.args.step.symbol c.args.kernel.now c.requires.from
    c.requires.kernel c.requires.foreign c.in_default.ensures.none
    (for_sorted c.requires.given old c.requires.so_far c.args.step.from c.args.step.symbol c.args.kernel.now c.requires.from
    c.requires.kernel) c.add.new.self
    (subst (λ (z : List Item). c.add.new.self ≡ record { steps = old.steps ++ c.args.step ∷ []; kernels = old.kernels ++ z ∷ [] }) items_is
    c.in_ok-add.ensures))
