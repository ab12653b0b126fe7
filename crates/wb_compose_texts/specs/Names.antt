-- The printed names of a union's terminals, by number: the host's, and then those that each extension adds, in turn. An extension is given
-- by the host with it alone.
use Rattle.std.specs.Prelude.{ℕ, List, drop, map, slice_get}
use Rattle.wb_scan_theory.specs.declared.stop_kind.StopKind.{StopKind}
use Rattle.wb_scan_theory.specs.declared.stop_kind.StopKind.TheVariants as kind
use Rattle.wb_reading.specs.OrderedNames.{in_turn}
use Rattle.wb_report.specs.declared.shown.ShownStop.{ShownStop}
use Rattle.wb_report.specs.declared.shown.ShownStop.TheVariants as stop
use Rattle.wb_syntax_resolved.specs.declared.resolved.ResolvedParts.{ResolvedParts}
use Rattle.wb_certify_shown.specs.Names.{grammar_terminals, or_end, terminals_in}

-- the names of the terminals that an extension adds
abbrev pub added_names : (host r : ResolvedParts) → List (List ℕ)
added_names host r = drop (terminals_in host.grammar) (grammar_terminals r)

-- the names of all terminals
abbrev pub terminals_of : ResolvedParts → List ResolvedParts → List (List ℕ)
terminals_of host extensions = in_turn (grammar_terminals host) (map (added_names host) extensions)

-- the name of a terminal among these, or of the end of a text
abbrev pub name_at : List (List ℕ) → ℕ → List ℕ
name_at names k = or_end (slice_get names k)

-- why a text stops, as it is shown where terminals have these names: no terminal, or this one or the end of the text
abbrev pub stop_shown : List (List ℕ) → StopKind → ShownStop
stop_shown names kind.NoToken = stop.NoToken
stop_shown names (kind.Unexpected k) = stop.Unexpected (name_at names k)
