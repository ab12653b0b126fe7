-- The flags of each extension come after those before it.
use Rattle.std.proofs.Common.{rules, ◌≡◌, ◌∙◌, ◌++◌, List, ap, map, sym}
use Rattle.std.proofs.lemmas.List.{append-nil, take_all}
use Rattle.wb_compose.specs.Kept.{ExtensionView}
use Rattle.wb_certify_shown.specs.Names.{terminals_in}
use Rattle.wb_reading.specs.OrderedNames.{all_of}
use Rattle.wb_compose_texts.specs.Unions.{all_resolved}
use Rattle.wb_compose_texts.specs.UnionMarkers.{added_markers}
use Rattle.wb_compose_texts.proofs.FlagLemmas.{block_next}
use Rattle.wb_compose_texts.proofs.markers.add_extensions.Goals as goal

pub extensions-init : goal.extensions-init
extensions-init c = sym (append-nil c.args.flags.now.items)

pub extensions-preserved : goal.extensions-preserved
extensions-preserved c =
    let own : c.terminals_in-own.result ≡ terminals_in c.args.host.now.grammar = search rules in
    block_next c.args.host.now c.args.extensions.now c.extensions.extension-index c.extension-item.result c.resolved.result.now
    c.terminals_in-own.result c.args.flags.now.items c.extensions.flags.items c.add_flags.new.flags.items c.extensions-test.true
    c.extension-item.is c.resolved.ensures.resolved own c.extensions.invariant c.in_ok-add_flags.ensures

pub returns : goal.returns
returns c =
    c.extensions.invariant ∙ ap (λ (es : List ExtensionView). c.args.flags.now.items
    ++ all_of (map (added_markers c.args.host.now) (all_resolved es)))
    (take_all c.extensions.extension-index c.args.extensions.now c.extensions-test.false)
