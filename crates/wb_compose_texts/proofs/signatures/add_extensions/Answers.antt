use Rattle.wb_compose_texts.proofs.TableLemmas.{added_next}
use Rattle.wb_compose_texts.proofs.signatures.add_extensions.Goals as goal

pub extensions-preserved : goal.extensions-preserved
extensions-preserved c =
    added_next c.args.host.now c.args.extensions.now c.extensions.extension-index c.extension-item.result c.resolved-extension.result.now
    c.own_of-own.result.productions c.own_of-own.result.nonterminals c.args.made.now
    c.extensions.made c.add_own.new.made c.extensions.before
    c.in_ok-before.before c.extensions-test.true c.extension-item.is c.resolved-extension.ensures.resolved c.own_of-own.ensures.productions
    c.own_of-own.ensures.nonterminals
    c.extensions.invariant c.in_ok-add_own.ensures c.in_ok-before.ensures
