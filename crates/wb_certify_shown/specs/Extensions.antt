-- What a report shows for a refusal of an extension by number: the same rule, with names. Numbers are those of the host with the extension.
use Rattle.std.specs.Prelude.{ℕ, List, Option, Some, None, map, option_map}
use Rattle.std.specs.Option.{option_or}
use Rattle.wb_certify_host.specs.declared.refusal.CertifyRefusal.{CertifyRefusal}
use Rattle.wb_certify_host.specs.declared.refusal.CertifyRefusal.TheVariants as c
use Rattle.wb_certify_host.specs.determinism_refusal.DeterminismRefusal.{DeterminismRefusal}
use Rattle.wb_certify_host.specs.determinism_refusal.DeterminismRefusal.TheVariants as d
use Rattle.wb_certify_host.specs.determinism_refusal.EnvelopeFault.{EnvelopeFault}
use Rattle.wb_certify_host.specs.determinism_refusal.EnvelopeFault.TheVariants as f
use Rattle.wb_grammar_theory.specs.declared.item.Item.{Item}
use Rattle.wb_marking.specs.declared.refusal.MarkRefusal.{MarkRefusal}
use Rattle.wb_marking.specs.declared.refusal.MarkRefusal.TheVariants as m
use Rattle.wb_report.specs.declared.extension_reason.ExtensionReason.{ExtensionReason}
use Rattle.wb_report.specs.declared.extension_reason.ExtensionReason.TheVariants as e
use Rattle.wb_report.specs.declared.refusal.Refusal.{Refusal}
use Rattle.wb_report.specs.declared.refusal.Refusal.TheVariants as r
use Rattle.wb_report.specs.declared.shown.ShownItem.{ShownItem}
use Rattle.wb_syntax_resolved.specs.declared.resolved.ResolvedParts.{ResolvedParts}
use Rattle.wb_certify_shown.specs.Names.{terminal_shown, production_shown, lookahead_shown, reduction_shown, symbol_shown}
use Rattle.wb_certify_shown.specs.Shows.{action_shown, grammar_reason, of_grammar, refusal_shown}

-- an item of the grammar with holes, as it is shown: its production, and the place of its dot
abbrev pub item_shown : ResolvedParts → Item → ShownItem
item_shown r item = record { production = reduction_shown r item.production; dot = item.dot }

-- how a new kernel of host's items goes beyond what the host allows, as it is shown after this prefix
abbrev pub envelope_reason : ResolvedParts → List (List ℕ) → EnvelopeFault → ExtensionReason
envelope_reason r prefix (f.Lookahead item terminal) = e.NewLookahead prefix (item_shown r item) (lookahead_shown r terminal)
envelope_reason r prefix (f.Conflict terminal first second) =
    e.NewConflict prefix
    (record { terminal = lookahead_shown r terminal; first = action_shown r first; second = action_shown r second })
envelope_reason r prefix (f.Clash left right text) = e.NewClash prefix (terminal_shown r left) (terminal_shown r right) text

-- a rule on the markers of an extension, as it is shown; out of memory has none
abbrev pub marker_reason : ResolvedParts → MarkRefusal → Option ExtensionReason
marker_reason r (m.NotBridge production) = Some (e.NotBridge (production_shown r production))
marker_reason r (m.MarkerElsewhere marker) = Some (e.MarkerElsewhere (terminal_shown r marker))
marker_reason r (m.NotExtensible production) = Some (e.NotExtensible (production_shown r production))
marker_reason r (m.MarkerClash marker other text) = Some (e.MarkerClash (terminal_shown r marker) (terminal_shown r other) text)
marker_reason r (m.NoMemory _) = None

-- a rule on what an extension adds to its host, as it is shown; the rules that hosts have too, and out of memory, have none
abbrev pub extension_reason : ResolvedParts → DeterminismRefusal → Option ExtensionReason
extension_reason r (d.Markers refusal) = marker_reason r refusal
extension_reason r (d.PreferenceCycle _) = None
extension_reason r (d.NotReduced _) = None
extension_reason r (d.UnitCycle _) = None
extension_reason r (d.HiddenLeftRecursion _) = None
extension_reason r (d.Conflict _ _ _ _) = None
extension_reason r (d.Clash _ _ _ _) = None
extension_reason r (d.Lookahead prefix item terminal) =
    Some (e.Lookahead (map (symbol_shown r) prefix) (item_shown r item) (lookahead_shown r terminal))
extension_reason r (d.Envelope prefix fault) = Some (envelope_reason r (map (symbol_shown r) prefix) fault)
extension_reason r (d.NoMemory _) = None

-- a rule on what an extension adds as a refusal, where it has one
abbrev pub of_extension : Option ExtensionReason → Option Refusal
of_extension reason = option_map (λ (x : ExtensionReason). r.Extension x) reason

-- why an extension isn't deterministic with its host, as it is shown: a rule that hosts have too, or one on what it adds
abbrev pub determinism_shown : ResolvedParts → DeterminismRefusal → Option Refusal
determinism_shown p refusal = option_or (of_grammar (grammar_reason p refusal)) (of_extension (extension_reason p refusal))

-- why an extension isn't certified with its host, as it is shown: as that of a host, but for what it adds to the host
abbrev pub extension_refusal_shown : ResolvedParts → CertifyRefusal → Option Refusal
extension_refusal_shown p (c.Determinism refusal) = determinism_shown p refusal
extension_refusal_shown p other = refusal_shown p other
