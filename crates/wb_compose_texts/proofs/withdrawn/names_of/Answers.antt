use Rattle.std.proofs.Common.{◌∙◌, ap, map}
use Rattle.std.proofs.lemmas.List.{take_all}
use Rattle.wb_compose_texts.specs.Names.{name_at}
use Rattle.wb_compose_texts.proofs.TableLemmas.{mapped_next}
use Rattle.wb_compose_texts.proofs.withdrawn.names_of.Goals as goal

pub numbers-preserved : goal.numbers-preserved
numbers-preserved c =
    mapped_next (name_at c.args.names.now) c.args.numbers.now c.numbers.number-index 0 c.in_ok-name.name c.numbers.made.items
    c.push.new.list.items c.numbers-test.true c.numbers.invariant c.in_ok-name.ensures c.in_ok-push.ensures.ok

pub returns : goal.returns
returns c =
    c.from_vec.ensures ∙ (c.numbers.invariant ∙ ap (map (name_at c.args.names.now))
    (take_all c.numbers.number-index c.args.numbers.now c.numbers-test.false))
