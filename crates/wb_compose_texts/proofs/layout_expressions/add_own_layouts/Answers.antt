use Rattle.std.proofs.Common.{◌∙◌, List, ap, map, subst}
use Rattle.std.proofs.lemmas.List.{take_all}
use Rattle.wb_compose.specs.Kept.{ExtensionView}
use Rattle.wb_reading.specs.OrderedNames.{all_of}
use Rattle.wb_compose_texts.specs.Expressions.{Row, added_layouts, layouts_past}
use Rattle.wb_compose_texts.specs.Inner.Added.{AreAdded}
use Rattle.wb_compose_texts.specs.Unions.{all_resolved}
use Rattle.wb_compose_texts.proofs.AddedLemmas.{block_next, blocks_begun, blocks_to}
use Rattle.wb_compose_texts.proofs.layout_expressions.add_own_layouts.Goals as goal

pub extensions-init : goal.extensions-init
extensions-init c =
    blocks_begun (layouts_past c.layout_count-count.result) c.args.extensions.now c.args.expressions.now.items

pub extensions-preserved : goal.extensions-preserved
extensions-preserved c =
    block_next (layouts_past c.layout_count-count.result) c.args.extensions.now c.extensions.extension-index c.extension-item.result
    c.args.expressions.now.items c.extensions.expressions.items c.add_own_layout.new.expressions.items c.extensions-test.true
    c.extension-item.is c.extensions.invariant c.in_ok-add_own_layout.ensures

pub returns : goal.returns
returns c =
    let all = take_all c.extensions.extension-index c.args.extensions.now c.extensions-test.false in
    subst (λ (rows : List Row). AreAdded rows c.args.expressions.now.items c.extensions.expressions.items)
    ((λ z. blocks_to (layouts_past (c.layout_count-count.ensures z)) c.args.extensions.now c.extensions.extension-index)
    ∙ ap (λ (es : List ExtensionView). all_of (map (added_layouts c.args.host.now) (all_resolved es))) all)
    c.extensions.invariant
