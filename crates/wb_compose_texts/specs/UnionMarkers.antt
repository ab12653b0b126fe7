-- The markers of a union, by number: none of the host's terminals is one, and then come those that each extension adds, in turn. An
-- extension is given by the host with it alone.
use Rattle.std.specs.Prelude.{◌↔◌, ℕ, Bool, false, List, drop, map, replicate, take}
use Rattle.wb_termset.specs.Sets.{IsMember}
use Rattle.wb_compose.specs.DeterminismImages.{is_marking}
use Rattle.wb_syntax_resolved.specs.declared.resolved.ResolvedParts.{ResolvedParts}
use Rattle.wb_syntax_resolved.specs.declared.terminal.Terminal.{Terminal}
use Rattle.wb_certify_shown.specs.Names.{terminals_in}
use Rattle.wb_reading.specs.OrderedNames.{in_turn}

-- of each terminal of a grammar, whether it is a marker
abbrev pub grammar_markers : ResolvedParts → List Bool
grammar_markers r = map (λ (t : Terminal). is_marking t.kind) (take (terminals_in r.grammar) r.terminals)

-- of each terminal that an extension adds
abbrev pub added_markers : (host r : ResolvedParts) → List Bool
added_markers host r = drop (terminals_in host.grammar) (grammar_markers r)

-- of each terminal of the union
abbrev pub union_markers : ResolvedParts → List ResolvedParts → List Bool
union_markers host extensions = in_turn (replicate (terminals_in host.grammar) false) (map (added_markers host) extensions)

-- the members of the set are the markers of the union
abbrev pub AreUnionMarkers : ResolvedParts → List ResolvedParts → List Bool → Type 0
AreUnionMarkers host extensions markers = (t : ℕ) → IsMember markers t ↔ IsMember (union_markers host extensions) t
