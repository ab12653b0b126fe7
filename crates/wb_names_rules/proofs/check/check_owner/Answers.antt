use Rattle.std.proofs.lemmas.Result.{IfErr-weaker}
use Rattle.wb_names_theory.specs.NamesOk.{bounds_of}
use Rattle.wb_names_rules.specs.Inner.Owners.{IsOrphanIn}
use Rattle.wb_names_rules.specs.Inner.Passing.{OwnerFails}
use Rattle.wb_names_rules.proofs.RefusalLemmas.{extension_fails}
use Rattle.wb_names_rules.proofs.check.check_owner.Goals as goal

pub returns-clause-refused : goal.returns-clause-refused
returns-clause-refused c =
    IfErr-weaker c.check_owned.result (IsOrphanIn c.args.index.now c.args.from (bounds_of c.args.base.now c.args.format))
    (OwnerFails c.args.index.now c.args.from c.args.owner (bounds_of c.args.base.now c.args.format))
    (extension_fails c.args.index.now c.args.from c.args.owner (bounds_of c.args.base.now c.args.format) c.if-owner-eq0.false)
    c.check_owned.ensures.refused
