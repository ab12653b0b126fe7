-- The label of the child at this place, and none past the last.
use Rattle.std.proofs.Common.{◌≡◌, IfOk, refl, subst, ◌∙◌}
use Rattle.wb_syntax_resolved.specs.declared.production.Child.{Child}
use Rattle.wb_certify_shown.proofs.ListLemmas.{name_at, no_name_past}
use Rattle.wb_certify_shown.proofs.attributes.label_in.Goals as goal

pub returns-in-Some : goal.returns-in-Some
returns-in-Some c =
    let children = c.args.children.now in
    subst (λ z. IfOk c.copy.result (λ label. label ≡ z)) (name_at (λ (x : Child). x.label) children children c.args.place c.in-Some.child.now
    c.in-Some.ensures.lookup.0 c.in-Some.ensures.lookup.1 refl) c.copy.ensures.ok

pub returns-in-None : goal.returns-in-None
returns-in-None c =
    let children = c.args.children.now in
    c.empty.ensures ∙ no_name_past (λ (x : Child). x.label) children children c.args.place c.in-None.ensures.lookup.0 refl
