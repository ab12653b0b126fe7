use Rattle.std.proofs.Common.{List, slice_get, ap, ◌∙◌}
use Rattle.wb_names_theory.specs.declared.declaration.Declaration.{Declaration}
use Rattle.wb_names_theory.specs.declared.declaration.Declaration.TheVariants as d
use Rattle.wb_names_theory.specs.declared.declaration.Labelled.TheVariants.{Local}
use Rattle.wb_names_rules.proofs.OwnerLemmas.{host_label, own_label, contains_drop, label_place}
use Rattle.wb_names_rules.proofs.orphans.is_own_label.Goals as goal

pub returns-in-None : goal.returns-in-None
returns-in-None c =
    let none = rw (c.as_slice.ensures, c.as_slice-2.ensures) at (rw c.in-None.is at c.in_ok-label.ensures.none) in
    (λ e. absurd (cc), λ (n, has). absurd (none (Local n) (contains_drop c.args.index.now c.args.from (d.Label c.args.production.now c.args.label.now (Local n)) has)))

pub returns-then-place-from : goal.returns-then-place-from
returns-then-place-from c =
    let (is, at) = label_place c.args.index.now c.in-Some.place _ _ _ _ c.as_slice.ensures c.as_slice-2.ensures
    (rw c.in-Some.is at c.in_ok-label.ensures.found) in (
      λ e. absurd (cc),
      λ has. absurd (host_label c.args.index.now c.args.from c.in_ok-label.ensures.once c.in-Some.place c.args.production.now
          c.args.label.now is at c.requires c.if-place-from.true has),
    )

pub returns-else-place-from : goal.returns-else-place-from
returns-else-place-from c =
    let (is, at) = label_place c.args.index.now c.in-Some.place _ _ _ _ c.as_slice.ensures c.as_slice-2.ensures
    (rw c.in-Some.is at c.in_ok-label.ensures.found) in
    own_label c.args.index.now c.args.from c.in_ok-label.ensures.once c.in-Some.place c.args.production.now c.args.label.now is at c.requires
    c.is_local_at.result c.if-place-from.false (c.is_local_at.ensures c.args.production.now c.args.label.now is
    (ap (λ (ds : List Declaration). slice_get ds c.in-Some.place) c.declarations.ensures.all ∙ at))
