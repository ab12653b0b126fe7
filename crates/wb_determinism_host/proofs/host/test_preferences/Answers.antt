use Rattle.std.proofs.Common.{ap, map, ◌∙◌}
use Rattle.wb_syntax_resolved.specs.declared.resolved.ResolvedParts.{ResolvedParts}
use Rattle.wb_syntax_resolved.specs.declared.terminal.Preference.{Preference}
use Rattle.wb_determinism_host.proofs.host.test_preferences.Goals as goal

pub test_pairs-tested-requires : goal.test_pairs-tested-requires
test_pairs-tested-requires c =
    c.deref.ensures.value ∙ c.in_ok-pairs.ensures ∙ ap (map (λ (p : Preference). (p.first, p.second)))
    (c.as_slice.ensures ∙ ap (λ (p : ResolvedParts). p.preferences) c.parts.ensures.parts)
