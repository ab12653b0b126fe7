use Rattle.wb_terms.proofs.MeetLemmas.{int_met, bool_met, text_met}
use Rattle.wb_terms.proofs.builder.Builder.handle.Goals as goal

pub returns-in-Int-clause-ok : goal.returns-in-Int-clause-ok
returns-in-Int-clause-ok c =
    int_met c.args.signatures.now c.args.store.now c.args.self.now c.add_int.new.self c.args.event.now c.in-Int.at c.in-Int.value
    c.add_int.result c.in-Int.is c.add_int.ensures.ok

pub returns-in-Bool-clause-ok : goal.returns-in-Bool-clause-ok
returns-in-Bool-clause-ok c =
    bool_met c.args.signatures.now c.args.store.now c.args.self.now c.add.new.self c.args.event.now c.in-Bool.at c.in-Bool.value
    c.add.result c.in-Bool.is c.add.ensures.ok

pub returns-in_ok-text-in-Text-clause-ok : goal.returns-in_ok-text-in-Text-clause-ok
returns-in_ok-text-in-Text-clause-ok c =
    text_met c.args.signatures.now c.args.store.now c.args.self.now c.add-in-Text.new.self c.args.event.now c.in-Text.at c.in-Text.value
    c.in_ok-text-in-Text.text c.add-in-Text.result c.in-Text.is c.in_ok-text-in-Text.ensures.ok c.add-in-Text.ensures.ok
