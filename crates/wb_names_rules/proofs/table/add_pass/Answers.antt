use Rattle.std.proofs.Common.{◌≡◌, ℕ, length, subst, arith}
use Rattle.wb_lemmas.proofs.Refusals.{handed_on}
use Rattle.wb_names_rules.specs.Indexed.{IsIndexed}
use Rattle.wb_names_rules.specs.Inner.Indexed.{IsDuplicate}
use Rattle.wb_names_rules.proofs.table.add_pass.Goals as goal

pub returns-in_err-add_at-clause-refused : goal.returns-in_err-add_at-clause-refused
returns-in_err-add_at-clause-refused c =
    handed_on (IsDuplicate c.args.declarations.now) (IsDuplicate c.args.declarations.now) c.from_residual.result c.in_err-add_at.field-0.0
    c.from_residual.ensures.1 (λ refusal is. is) c.in_err-add_at.ensures.refused

pub places-preserved : goal.places-preserved
places-preserved c = c.in_ok-add_at.ensures.ok

pub returns-clause-ok : goal.returns-clause-ok
returns-clause-ok c =
    let ended : c.places.place ≡ length c.args.declarations.now = omega arith in
    subst (λ (n : ℕ). IsIndexed c.args.declarations.now c.places.table.keys c.places.table.places.items c.args.pass n) ended
    c.places.invariant
