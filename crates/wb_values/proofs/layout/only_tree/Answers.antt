use Rattle.std.proofs.Common.{◌≡◌, ◌-◌, ◌∷◌, [], List, drop, reverse, length, sym, subst, rules}
use Rattle.std.proofs.lemmas.Option.{IfSome_then}
use Rattle.wb_values.specs.declared.value.Value.{Value}
use Rattle.wb_values.specs.declared.value.Value.TheVariants.{Tree as Stored}
use Rattle.wb_values.specs.Inner.Layouts.{IsLayout}
use Rattle.wb_values.proofs.CallerLemmas.{one_left}
use Rattle.wb_values.proofs.LayoutLemmas.{layout_whole}
use Rattle.wb_values.proofs.layout.only_tree.Goals as goal

pub with_tree-requires-clause-within : goal.with_tree-requires-clause-within
with_tree-requires-clause-within c = (c.no_children.ensures []).within

pub returns : goal.returns
returns c =
    let nodes = c.args.nodes.now in
    let vs = c.args.values.now in
    let last : length vs - c.args.start ≡ 1 = search rules in
    let all : drop c.args.start vs ≡ Stored c.in-Some.tree ∷ [] = one_left vs c.args.start (Stored c.in-Some.tree) last c.in-Some.ensures.some in
    IfSome_then c.with_tree.result c.with_tree.ensures (λ next laid cells.
    layout_whole nodes cells cells (drop c.args.start vs) next (subst (λ (xs : List Value). IsLayout nodes cells cells (reverse xs) next)
    (sym all) (laid cells cells [] (c.no_children.ensures cells))))
