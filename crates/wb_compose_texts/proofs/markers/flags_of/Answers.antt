-- The flags of the host, and then those of the extensions, are those of the union.
use Rattle.std.proofs.Common.{rules, ◌≡◌, ◌∙◌, ◌++◌, ap, false, map, replicate}
use Rattle.wb_certify_shown.specs.Names.{terminals_in}
use Rattle.wb_reading.specs.OrderedNames.{all_of}
use Rattle.wb_compose_texts.specs.Unions.{all_resolved}
use Rattle.wb_compose_texts.specs.UnionMarkers.{added_markers}
use Rattle.wb_compose_texts.proofs.markers.flags_of.Goals as goal

pub returns : goal.returns
returns c =
    let host = c.args.host.now in
    let count : c.terminals_in.result ≡ terminals_in host.grammar = search rules in
    let own = c.in_ok-flags.ensures ∙ ap (λ n. replicate n false) count in
    c.in_ok-add_extensions.ensures ∙ ap (λ z. z ++ all_of (map (added_markers host) (all_resolved c.args.extensions.now))) own
