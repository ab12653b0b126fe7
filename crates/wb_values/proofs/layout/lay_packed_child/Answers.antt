use Rattle.std.proofs.Common.{◌≡◌, ◌++◌, ◌∷◌, [], List, take, drop, sym, subst, ap, ◌∙◌}
use Rattle.wb_values.specs.declared.value.Value.{Value}
use Rattle.wb_values.specs.declared.value.Value.TheVariants.{Tree as Stored}
use Rattle.wb_values.specs.Inner.Layouts.{IsLayout}
use Rattle.wb_values.proofs.CallerLemmas.{one_at}
use Rattle.wb_values.proofs.PackedLemmas.{some_one}
use Rattle.wb_values.proofs.layout.lay_packed_child.Goals as goal

pub returns-in-Some-with_tree-clause-ok : goal.returns-in-Some-with_tree-clause-ok
returns-in-Some-with_tree-clause-ok c start done l =
    subst (λ (xs : List Value). IsLayout c.args.nodes.now start c.args.cells.now (done ++ xs) c.in-Some-with_tree.next)
    (sym (one_at c.args.values.now c.args.place (Stored c.in-Some.tree) c.in-Some.ensures.some))
    (c.in-Some-with_tree.ensures start c.args.cells.now done l)

pub returns-clause-ok : goal.returns-clause-ok
returns-clause-ok c start done l =
    let (x, one) = some_one c.args.values.now c.args.place c.requires.place in
    let pushed : c.push_copy.new.self ≡ c.args.cells.now ++ x ∷ [] =
    c.in_ok-push_copy.ensures.ok ∙ ap (λ (xs : List Value). c.args.cells.now ++ xs) one in
    let P = λ (xs ys : List Value). IsLayout c.args.nodes.now start xs (done ++ ys) c.with_other.result in
    subst (λ (xs : List Value). P xs (take 1 (drop c.args.place c.args.values.now))) (sym pushed)
    (subst (P (c.args.cells.now ++ x ∷ [])) (sym one) (c.with_other.ensures c.args.nodes.now start c.args.cells.now done x l))
