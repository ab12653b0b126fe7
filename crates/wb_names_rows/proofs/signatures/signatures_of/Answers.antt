use Rattle.std.proofs.Common.{[], refl}
use Rattle.wb_syntax_resolved.specs.Numbered.{signature_of}
use Rattle.wb_names_rows.proofs.ListLemmas.{map_next, map_all}
use Rattle.wb_names_rows.proofs.signatures.signatures_of.Goals as goal

pub productions-preserved : goal.productions-preserved
productions-preserved c =
    map_next (signature_of c.args.extensions.now) c.args.productions.now c.productions.production-index c.production-item.result
    (signature_of c.args.extensions.now c.production-item.result) [] c.productions.made c.add_signature.new.made c.productions.invariant
    c.productions-test.true c.production-item.is refl c.in_ok-add_signature.ensures

pub returns : goal.returns
returns c =
    map_all (signature_of c.args.extensions.now) c.args.productions.now c.productions.production-index [] c.productions.made
    c.productions.invariant c.productions-test.false
