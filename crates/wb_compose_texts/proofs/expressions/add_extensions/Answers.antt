use Rattle.std.proofs.Common.{List, map, subst}
use Rattle.std.proofs.lemmas.List.{take_all}
use Rattle.wb_compose.specs.Kept.{ExtensionView}
use Rattle.wb_reading.specs.OrderedNames.{all_of}
use Rattle.wb_compose_texts.specs.Expressions.{added_rows}
use Rattle.wb_compose_texts.specs.Inner.Added.{AreAdded}
use Rattle.wb_compose_texts.specs.Unions.{all_resolved}
use Rattle.wb_compose_texts.proofs.AddedLemmas.{block_next, blocks_begun}
use Rattle.wb_compose_texts.proofs.expressions.add_extensions.Goals as goal

pub extensions-init : goal.extensions-init
extensions-init c = blocks_begun (added_rows c.args.host.now) c.args.extensions.now c.args.expressions.now.items

pub extensions-preserved : goal.extensions-preserved
extensions-preserved c =
    block_next (added_rows c.args.host.now) c.args.extensions.now c.extensions.extension-index c.extension-item.result c.args.expressions.now.items
    c.extensions.expressions.items c.add_extension.new.expressions.items c.extensions-test.true c.extension-item.is c.extensions.invariant
    c.in_ok-add_extension.ensures

pub returns : goal.returns
returns c =
    subst (λ (es : List ExtensionView). AreAdded (all_of (map (added_rows c.args.host.now) (all_resolved es))) c.args.expressions.now.items
    c.extensions.expressions.items) (take_all c.extensions.extension-index c.args.extensions.now c.extensions-test.false)
    c.extensions.invariant
