use Rattle.std.proofs.Common.{◌≡◌}
use Rattle.wb_names_theory.specs.declared.declaration.Sort.TheVariants.{Layout}
use Rattle.wb_names_rules.proofs.OwnerLemmas.{orphan_if}
use Rattle.wb_names_rules.proofs.orphans.check_symbol.Goals as goal

pub returns-in-Layout-clause-refused : goal.returns-in-Layout-clause-refused
returns-in-Layout-clause-refused c =
    orphan_if ((c.args.format ≡ 1) × (c.args.is ≡ Layout)) c.args.name.now c.orphan.result (c.if-format-ne1.false, c.in-Layout.is)
    c.orphan.ensures
