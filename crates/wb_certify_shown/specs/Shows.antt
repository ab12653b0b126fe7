-- What a report shows for a refusal by number: the same rule, with names.
use Rattle.std.specs.Prelude.{ℕ, Option, Some, None, map, option_map, slice_get}
use Rattle.wb_certify_host.specs.declared.refusal.CertifyRefusal.{CertifyRefusal}
use Rattle.wb_certify_host.specs.declared.refusal.CertifyRefusal.TheVariants as c
use Rattle.wb_certify_host.specs.determinism_refusal.DeterminismRefusal.{DeterminismRefusal}
use Rattle.wb_certify_host.specs.determinism_refusal.DeterminismRefusal.TheVariants as d
use Rattle.wb_flow.specs.declared.refusal.AttributeRefusal.{AttributeRefusal}
use Rattle.wb_flow.specs.declared.refusal.AttributeRefusal.TheVariants as a
use Rattle.wb_flow.specs.declared.vertex.Vertex.{Vertex}
use Rattle.wb_flow.specs.declared.vertex.Vertex.TheVariants as v
use Rattle.wb_grammar.specs.declared.refusal.Reason.{Reason}
use Rattle.wb_grammar.specs.declared.refusal.Reason.TheVariants as g
use Rattle.wb_lookahead.specs.declared.action.Action.{Action}
use Rattle.wb_lookahead.specs.declared.action.Action.TheVariants as act
use Rattle.wb_names_theory.specs.declared.refusal.NameRefusal.{NameRefusal}
use Rattle.wb_names_theory.specs.declared.refusal.NameRefusal.TheVariants as n
use Rattle.wb_reader.specs.declared.refusal.SpecRefusal.{SpecRefusal}
use Rattle.wb_reader.specs.declared.refusal.SpecRefusal.TheVariants as s
use Rattle.wb_report.specs.declared.attribute_reason.AttributeReason.{AttributeReason}
use Rattle.wb_report.specs.declared.attribute_reason.AttributeReason.TheVariants as shown_attribute
use Rattle.wb_report.specs.declared.grammar_reason.GrammarReason.{GrammarReason}
use Rattle.wb_report.specs.declared.grammar_reason.GrammarReason.TheVariants as shown_grammar
use Rattle.wb_report.specs.declared.refusal.Refusal.{Refusal}
use Rattle.wb_report.specs.declared.refusal.Refusal.TheVariants as r
use Rattle.wb_report.specs.declared.shown.ShownAction.{ShownAction}
use Rattle.wb_report.specs.declared.shown.ShownAction.TheVariants as shown_action
use Rattle.wb_report.specs.declared.shown.ShownVertex.{ShownVertex}
use Rattle.wb_report.specs.declared.shown.ShownVertex.TheVariants as shown_vertex
use Rattle.wb_report.specs.declared.spec_reason.SpecReason.{SpecReason}
use Rattle.wb_report.specs.declared.spec_reason.SpecReason.TheVariants as shown_spec
use Rattle.wb_syntax_resolved.specs.declared.production.Production.{Production}
use Rattle.wb_syntax_resolved.specs.declared.resolved.ResolvedParts.{ResolvedParts}
use Rattle.wb_types.specs.declared.refusal.TypeRefusal.{TypeRefusal}
use Rattle.wb_types.specs.declared.refusal.TypeRefusal.TheVariants as t
use Rattle.wb_certify_shown.specs.Names.{terminal_shown, nonterminal_shown, attribute_shown, production_shown}
use Rattle.wb_certify_shown.specs.Names.{lookahead_shown, reduction_shown, symbol_shown, child_shown, local_shown}

-- a rule of what is written, as it is shown; out of memory has no line
abbrev pub written_reason : SpecRefusal → Option SpecReason
written_reason s.TooLong = Some shown_spec.TooLong
written_reason s.WrongFormat = Some shown_spec.WrongFormat
written_reason (s.Syntax offset) = Some (shown_spec.Syntax offset)
written_reason (s.BadRegex offset) = Some (shown_spec.BadRegex offset)
written_reason (s.MatchesEmpty name) = Some (shown_spec.MatchesEmpty name)
written_reason (s.NoMemory error) = None

-- a rule of names, as it is shown; another host has a line of its own, and out of memory has none
abbrev pub name_reason : NameRefusal → Option SpecReason
name_reason (n.Unknown name) = Some (shown_spec.Unknown name)
name_reason (n.Duplicate name) = Some (shown_spec.Duplicate name)
name_reason (n.Orphan name) = Some (shown_spec.Orphan name)
name_reason (n.WrongKind name) = Some (shown_spec.WrongKind name)
name_reason (n.WrongHost name) = None
name_reason (n.NoMemory error) = None

-- a rule of kinds, as it is shown: an operation that isn't there as a name that isn't declared
abbrev pub type_reason : TypeRefusal → Option SpecReason
type_reason (t.UnknownOperation name) = Some (shown_spec.Unknown name)
type_reason (t.WrongArity offset) = Some (shown_spec.WrongArity offset)
type_reason (t.TypeMismatch offset) = Some (shown_spec.TypeMismatch offset)
type_reason (t.NoMemory error) = None

-- why a grammar isn't reduced, as it is shown
abbrev pub reduced_reason : ResolvedParts → Reason → GrammarReason
reduced_reason r (g.Unreachable k) = shown_grammar.Unreachable (nonterminal_shown r k)
reduced_reason r (g.Unproductive k) = shown_grammar.Unproductive (nonterminal_shown r k)

-- an action, as it is shown: to reduce by a production of the grammar with holes
abbrev pub action_shown : ResolvedParts → Action → ShownAction
action_shown r (act.Shift state) = shown_action.Shift
action_shown r (act.Reduce p) = shown_action.Reduce (reduction_shown r p)
action_shown r act.Accept = shown_action.Accept
action_shown r act.None = shown_action.Accept

-- a rule of grammars and scanners, as it is shown of a host; the rules on what extensions add, and out of memory, have none
abbrev pub grammar_reason : ResolvedParts → DeterminismRefusal → Option GrammarReason
grammar_reason r (d.PreferenceCycle terminals) = Some (shown_grammar.PreferenceCycle (map (terminal_shown r) terminals))
grammar_reason r (d.NotReduced reason) = Some (reduced_reason r reason)
grammar_reason r (d.UnitCycle list) = Some (shown_grammar.UnitCycle (map (nonterminal_shown r) list))
grammar_reason r (d.HiddenLeftRecursion list) = Some (shown_grammar.HiddenLeftRecursion (map (nonterminal_shown r) list))
grammar_reason r (d.Conflict prefix terminal first second) =
    Some (shown_grammar.Conflict (map (symbol_shown r) prefix)
    (record { terminal = lookahead_shown r terminal; first = action_shown r first; second = action_shown r second }))
grammar_reason r (d.Clash prefix left right text) =
    Some (shown_grammar.Clash (map (symbol_shown r) prefix) (terminal_shown r left) (terminal_shown r right) text)
grammar_reason r (d.Markers _) = None
grammar_reason r (d.Lookahead _ _ _) = None
grammar_reason r (d.Envelope _ _) = None
grammar_reason r (d.NoMemory _) = None

-- a vertex of the flow graph of this production, as it is shown
abbrev pub vertex_shown : ResolvedParts → Option Production → Vertex → ShownVertex
vertex_shown r p (v.Top k) = shown_vertex.Top (attribute_shown r k)
vertex_shown r p (v.Child n k) = shown_vertex.Label (child_shown r p n) (attribute_shown r k)
vertex_shown r p (v.Local n k) = shown_vertex.Label (local_shown r p n) (attribute_shown r k)
vertex_shown r p (v.Forward k) = shown_vertex.Forward (attribute_shown r k)
vertex_shown r p (v.LocalTree n) = shown_vertex.LocalTree (local_shown r p n)
vertex_shown r p v.ForwardTree = shown_vertex.ForwardTree

-- that this production lacks an equation for an attribute of a child or local, as it is shown; other vertices don't come
abbrev pub inherited_reason : ResolvedParts → ℕ → Option Production → Vertex → Option AttributeReason
inherited_reason r number p (v.Child n k) =
    Some (shown_attribute.NoInherited (production_shown r number) (child_shown r p n) (attribute_shown r k))
inherited_reason r number p (v.Local n k) =
    Some (shown_attribute.NoInherited (production_shown r number) (local_shown r p n) (attribute_shown r k))
inherited_reason r number p (v.Top k) = None
inherited_reason r number p (v.Forward k) = None
inherited_reason r number p (v.LocalTree n) = None
inherited_reason r number p v.ForwardTree = None

-- a rule of attributes, as it is shown; out of memory has none
abbrev pub attribute_reason : ResolvedParts → AttributeRefusal → Option AttributeReason
attribute_reason r (a.StartInherits k) = Some (shown_attribute.StartInherits (attribute_shown r k))
attribute_reason r (a.NoForward p) = Some (shown_attribute.NoForward (production_shown r p))
attribute_reason r (a.NoEquation p k) = Some (shown_attribute.NoEquation (production_shown r p) (attribute_shown r k))
attribute_reason r (a.NoInherited p vertex) = inherited_reason r p (slice_get r.attributes.productions p) vertex
attribute_reason r (a.LacksForward n k i) =
    Some (shown_attribute.LacksForward (nonterminal_shown r n) (attribute_shown r k) (attribute_shown r i))
attribute_reason r (a.Reads p k i) =
    Some (shown_attribute.Reads (production_shown r p) (option_map (attribute_shown r) k) (attribute_shown r i))
attribute_reason r (a.Cycle p vertices) =
    Some (shown_attribute.Cycle (production_shown r p) (map (vertex_shown r (slice_get r.attributes.productions p)) vertices))
attribute_reason r (a.ForwardReads p k i) =
    Some (shown_attribute.ForwardReads (production_shown r p) (attribute_shown r k) (attribute_shown r i))
attribute_reason r (a.NoMemory _) = None

-- a rule as a refusal, where it has one
abbrev pub of_spec : Option SpecReason → Option Refusal
of_spec reason = option_map (λ (x : SpecReason). r.Specification x) reason

abbrev pub of_grammar : Option GrammarReason → Option Refusal
of_grammar reason = option_map (λ (x : GrammarReason). r.Grammar x) reason

abbrev pub of_attributes : Option AttributeReason → Option Refusal
of_attributes reason = option_map (λ (x : AttributeReason). r.Attributes x) reason

-- why a resolved host isn't certified, as it is shown
abbrev pub refusal_shown : ResolvedParts → CertifyRefusal → Option Refusal
refusal_shown p (c.Names refusal) = of_spec (name_reason refusal)
refusal_shown p (c.Types refusal) = of_spec (type_reason refusal)
refusal_shown p c.NoStart = Some (r.Grammar shown_grammar.NoStart)
refusal_shown p (c.Determinism refusal) = of_grammar (grammar_reason p refusal)
refusal_shown p (c.Attributes refusal) = of_attributes (attribute_reason p refusal)
refusal_shown p (c.NoMemory error) = None
