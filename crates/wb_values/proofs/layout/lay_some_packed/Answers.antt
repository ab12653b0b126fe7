use Rattle.std.proofs.Common.{◌≡◌, ◌+◌, ◌-◌, ◌++◌, ℕ, List, take, drop, reverse, subst, sym, ap, ◌∙◌, rules}
use Rattle.wb_values.specs.declared.value.Value.{Value}
use Rattle.wb_values.specs.Inner.Layouts.{IsLayout}
use Rattle.wb_values.proofs.LayoutLemmas.{layout_whole, reverse_more}
use Rattle.wb_values.proofs.layout.lay_some_packed.Goals as goal

pub children-preserved : goal.children-preserved
children-preserved c =
    let some : c.children.place - 1 + 1 ≡ c.children.place = search rules in
    let vs = c.args.values.now in
    let more = sym (ap (λ (n : ℕ). reverse (drop n vs) ++ take 1 (drop (c.children.place - 1) vs)) some)
    ∙ reverse_more vs (c.children.place - 1) in
    record {
      from = search rules;
      to = search rules;
      laid = subst (λ (xs : List Value). IsLayout c.args.nodes.now c.args.cells.now c.lay_packed_child.new.cells xs c.in_ok-layout.layout) more
          (c.in_ok-layout.ensures.ok c.args.cells.now (reverse (drop c.children.place vs)) c.children.invariant.laid);
    }

pub returns-clause-ok : goal.returns-clause-ok
returns-clause-ok c =
    let here : c.children.place ≡ c.args.start = search rules in
    layout_whole c.args.nodes.now c.args.cells.now c.children.cells (drop c.args.start c.args.values.now) c.children.layout
    (subst (λ (n : ℕ). IsLayout c.args.nodes.now c.args.cells.now c.children.cells (reverse (drop n c.args.values.now)) c.children.layout)
    here c.children.invariant.laid)
