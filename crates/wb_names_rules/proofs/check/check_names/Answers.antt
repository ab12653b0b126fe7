use Rattle.std.proofs.Common.{sym, subst, ◌∙◌}
use Rattle.wb_lemmas.proofs.Refusals.{handed_on}
use Rattle.wb_names_theory.specs.NamesOk.{bounds_of, scope_of}
use Rattle.wb_names_theory.specs.Refusals.{IsTrueRefusal}
use Rattle.wb_names_rules.specs.Index.{CountOnce}
use Rattle.wb_names_rules.specs.Inner.Passing.{UsesFail, OwnerFails}
use Rattle.wb_names_rules.proofs.PassLemmas.{listed, begins_with, rules_ok, rules_hold}
use Rattle.wb_names_rules.proofs.RefusalLemmas.{use_fails, owner_fails}
use Rattle.wb_names_rules.proofs.check.check_names.Goals as goal

pub check_owner-requires-clause-over : goal.check_owner-requires-clause-over
check_owner-requires-clause-over c =
    let l = listed c.args.base.now c.args.items.now c.new-declarations.result.items c.add_base_declarations.new.out.items
    c.add_item_declarations.new.out.items c.in_ok-index.index c.len-from.result c.new-declarations.ensures.items
    c.in_ok-add_base_declarations.ensures (c.len-from.ensures ∙ c.add_base_declarations.new.out.ok.0) c.in_ok-add_item_declarations.ensures
    c.in_ok-index.ensures.ok in
    begins_with c.args.base.now c.args.items.now c.in_ok-index.index c.len-from.result l

pub returns-clause-ok : goal.returns-clause-ok
returns-clause-ok c =
    let l = listed c.args.base.now c.args.items.now c.new-declarations.result.items c.add_base_declarations.new.out.items
    c.add_item_declarations.new.out.items c.in_ok-index.index c.len-from.result c.new-declarations.ensures.items
    c.in_ok-add_base_declarations.ensures (c.len-from.ensures ∙ c.add_base_declarations.new.out.ok.0) c.in_ok-add_item_declarations.ensures
    c.in_ok-index.ensures.ok in
    let once = subst CountOnce (sym c.in_ok-index.ensures.ok) c.in_ok-index.ensures.once in
    rules_ok c.args.base.now c.args.owner c.args.format c.args.items.now c.in_ok-index.index c.len-from.result l once
    c.in_ok-check_uses.ensures.ok c.in_ok-check_owner.ensures.ok

pub returns-clause-hold : goal.returns-clause-hold
returns-clause-hold c =
    let l = listed c.args.base.now c.args.items.now c.new-declarations.result.items c.add_base_declarations.new.out.items
    c.add_item_declarations.new.out.items c.in_ok-index.index c.len-from.result c.new-declarations.ensures.items
    c.in_ok-add_base_declarations.ensures (c.len-from.ensures ∙ c.add_base_declarations.new.out.ok.0) c.in_ok-add_item_declarations.ensures
    c.in_ok-index.ensures.ok in
    let once = subst CountOnce (sym c.in_ok-index.ensures.ok) c.in_ok-index.ensures.once in
    rules_hold c.args.base.now c.args.owner c.args.format c.args.items.now c.in_ok-index.index c.len-from.result l once
    c.in_ok-check_uses.ensures.ok c.in_ok-check_owner.ensures.ok c.requires

pub returns-in_err-check_uses-clause-refused : goal.returns-in_err-check_uses-clause-refused
returns-in_err-check_uses-clause-refused c =
    let l = listed c.args.base.now c.args.items.now c.new-declarations.result.items c.add_base_declarations.new.out.items
    c.add_item_declarations.new.out.items c.in_ok-index.index c.len-from.result c.new-declarations.ensures.items
    c.in_ok-add_base_declarations.ensures (c.len-from.ensures ∙ c.add_base_declarations.new.out.ok.0) c.in_ok-add_item_declarations.ensures
    c.in_ok-index.ensures.ok in
    let once = subst CountOnce (sym c.in_ok-index.ensures.ok) c.in_ok-index.ensures.once in
    handed_on (UsesFail c.in_ok-index.index c.args.owner c.args.items.now)
    (IsTrueRefusal (scope_of c.args.base.now c.args.owner c.args.format c.args.items.now))
    c.from_residual-in_err-check_uses.result c.in_err-check_uses.field-0.0 c.from_residual-in_err-check_uses.ensures.1
    (use_fails c.args.base.now c.args.owner c.args.format c.args.items.now c.in_ok-index.index c.len-from.result l once)
    c.in_err-check_uses.ensures.refused

pub returns-in_err-check_owner-clause-refused : goal.returns-in_err-check_owner-clause-refused
returns-in_err-check_owner-clause-refused c =
    let l = listed c.args.base.now c.args.items.now c.new-declarations.result.items c.add_base_declarations.new.out.items
    c.add_item_declarations.new.out.items c.in_ok-index.index c.len-from.result c.new-declarations.ensures.items
    c.in_ok-add_base_declarations.ensures (c.len-from.ensures ∙ c.add_base_declarations.new.out.ok.0) c.in_ok-add_item_declarations.ensures
    c.in_ok-index.ensures.ok in
    let once = subst CountOnce (sym c.in_ok-index.ensures.ok) c.in_ok-index.ensures.once in
    handed_on (OwnerFails c.in_ok-index.index c.len-from.result c.args.owner (bounds_of c.args.base.now c.args.format))
    (IsTrueRefusal (scope_of c.args.base.now c.args.owner c.args.format c.args.items.now))
    c.from_residual-in_err-check_owner.result c.in_err-check_owner.field-0.0 c.from_residual-in_err-check_owner.ensures.1
    (owner_fails c.args.base.now c.args.owner c.args.format c.args.items.now c.in_ok-index.index c.len-from.result l once
    c.in_ok-check_uses.ensures.ok) c.in_err-check_owner.ensures.refused
