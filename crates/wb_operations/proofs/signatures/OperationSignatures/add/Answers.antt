use Rattle.std.proofs.Common.{◌≡◌, ◌++◌, ◌∷◌, [], List, length, sym, ap, subst, ◌∙◌}
use Rattle.wb_operations.specs.Operations.{OperationSignature, HasOperation}
use Rattle.wb_operations.specs.Entries.{signature_of}
use Rattle.wb_operations.proofs.EntryLemmas.{length-signatures, entries-push, signatures-push, pushed-name, shown-push}
use Rattle.wb_operations.proofs.signatures.OperationSignatures.add.Goals as goal

pub invariant_of-self-2 : goal.invariant_of-self-2
invariant_of-self-2 c =
    let names = c.self.inside.names in
    let es = c.self.inside.entries.items in
    let pushed = pushed-name names es c.args.self.now c.args.name.now c.in_ok-add.field-0 c.add.new.self c.self.invariant.counted
    c.self.view_is c.in_ok-add.ensures.ok c.requires.new in
    rw (c.push_reserved.ensures.items, c.in_ok-reserve.ensures.items, pushed)
    (entries-push names es c.args.name.now _ c.self.invariant c.in_ok-takes.ensures.items c.requires.takes c.requires.gives)

pub returns-clause-number : goal.returns-clause-number
returns-clause-number c =
    c.len-number.ensures ∙ c.self.inside.entries.ok.0 ∙ sym
    (length-signatures c.self.inside.names c.self.inside.entries.items c.self.invariant.counted) ∙ ap length c.self.view_is

pub returns-clause-ok : goal.returns-clause-ok
returns-clause-ok c =
    let names = c.self.inside.names in
    let es = c.self.inside.entries.items in
    let pushed = pushed-name names es c.args.self.now c.args.name.now c.in_ok-add.field-0 c.add.new.self c.self.invariant.counted
    c.self.view_is c.in_ok-add.ensures.ok c.requires.new in
    rw (c.push_reserved.ensures.items, c.in_ok-reserve.ensures.items, pushed)
    (shown-push names es c.args.self.now c.args.name.now _ c.args.takes.now c.self.invariant.counted c.self.view_is
    c.in_ok-takes.ensures.items)
