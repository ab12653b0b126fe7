use Rattle.std.proofs.Common.{List, ap, slice_get, sym, ◌∙◌}
use Rattle.wb_syntax_resolved.specs.declared.production.Child.{Child}
use Rattle.wb_syntax_resolved.specs.declared.production.Local.{Local}
use Rattle.wb_names_theory.specs.Declares.{label_at, name_in}
use Rattle.wb_names_lists.proofs.ListLemmas.{name_at, no_name_past}
use Rattle.wb_names_lists.proofs.base.label_at.Goals as goal

pub returns-in-Some : goal.returns-in-Some
returns-in-Some c =
    name_at (λ (x : Child). x.label) c.as_slice.result.now c.in-Child.number c.in-Some.child.now c.in-Some.ensures.lookup.0
    c.in-Some.ensures.lookup.1
    ∙ (ap (λ (z : List Child). name_in (λ (x : Child). x.label) (slice_get z c.in-Child.number)) c.as_slice.ensures
    ∙ sym (ap (label_at c.args.production.now) c.in-Child.is))

pub returns-in-None : goal.returns-in-None
returns-in-None c =
    c.requires ∙ (no_name_past (λ (x : Child). x.label) c.as_slice.result.now c.in-Child.number c.in-None.ensures.lookup.0
    ∙ (ap (λ (z : List Child). name_in (λ (x : Child). x.label) (slice_get z c.in-Child.number)) c.as_slice.ensures
    ∙ sym (ap (label_at c.args.production.now) c.in-Child.is)))

pub returns-in-Some-get : goal.returns-in-Some-get
returns-in-Some-get c =
    name_at (λ (x : Local). x.label) c.as_slice-in-Local.result.now c.in-Local.number c.in-Some-get.local.now c.in-Some-get.ensures.lookup.0
    c.in-Some-get.ensures.lookup.1
    ∙ (ap (λ (z : List Local). name_in (λ (x : Local). x.label) (slice_get z c.in-Local.number)) c.as_slice-in-Local.ensures
    ∙ sym (ap (label_at c.args.production.now) c.in-Local.is))

pub returns-in-None-get : goal.returns-in-None-get
returns-in-None-get c =
    c.requires ∙ (no_name_past (λ (x : Local). x.label) c.as_slice-in-Local.result.now c.in-Local.number c.in-None-get.ensures.lookup.0
    ∙ (ap (λ (z : List Local). name_in (λ (x : Local). x.label) (slice_get z c.in-Local.number)) c.as_slice-in-Local.ensures
    ∙ sym (ap (label_at c.args.production.now) c.in-Local.is)))
