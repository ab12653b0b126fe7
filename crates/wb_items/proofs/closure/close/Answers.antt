use Rattle.std.proofs.Common.{◌≡◌, List, sym, subst}
use Rattle.std.specs.Prelude.{◌↔◌, Contains}
use Rattle.std.proofs.lemmas.Result.{IfOk-weaker}
use Rattle.std.proofs.lemmas.List.Sorted.{Contains-permutation, IsPermutation-sym}
use Rattle.wb_grammar_theory.specs.declared.item.Item.{Item}
use Rattle.wb_grammar_theory.specs.Closure.{InClosure}
use Rattle.wb_items.specs.Kernels.{AreInOrder}
use Rattle.wb_items.specs.Sorted.{AreRising}
use Rattle.wb_items.proofs.OrderLemmas.{sorted_rises}
use Rattle.wb_items.proofs.closure.close.Goals as goal

pub deduplicated-requires : goal.deduplicated-requires
deduplicated-requires c = subst AreRising (sym c.deref.ensures.value) (sorted_rises c.sort.new.self.items c.in_ok-sort.ensures.sorted)

pub returns-clause-exact : goal.returns-clause-exact
returns-clause-exact c =
    let before = c.in_ok-closure.closure.items in
    let after = c.sort.new.self.items in
    let moved = c.in_ok-sort.ensures.permutation in
    let listed : (list : List Item) → list ≡ c.in_ok-list.list → (item : Item) →
    Contains list item ↔ InClosure c.args.grammar.now (Contains c.args.kernel.now) item = λ list is item.
    let whole = c.in_ok-closure.ensures item in
    let same = c.in_ok-list.ensures.same item in (
      λ has. whole.0 (Contains-permutation after before item (IsPermutation-sym before after moved)
          (subst (λ xs. Contains xs item) c.deref.ensures.value (same.0 (subst (λ xs. Contains xs item) is has)))),
      λ within. subst (λ xs. Contains xs item) (sym is) (same.1
          (subst (λ xs. Contains xs item) (sym c.deref.ensures.value) (Contains-permutation before after item moved (whole.1 within)))),
    ) in
    IfOk-weaker c.new.result (λ list. list ≡ c.in_ok-list.list)
    (λ list. (item : Item) → Contains list item ↔ InClosure c.args.grammar.now (Contains c.args.kernel.now) item) listed c.new.ensures

pub returns-clause-in_order : goal.returns-clause-in_order
returns-clause-in_order c =
    IfOk-weaker c.new.result (λ list. list ≡ c.in_ok-list.list) AreInOrder (λ list is. subst AreInOrder (sym is) c.in_ok-list.ensures.in_order)
    c.new.ensures
