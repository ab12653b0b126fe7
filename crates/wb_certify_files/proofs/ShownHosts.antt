-- Each refusal that can be true of a host has a line.
use Rattle.std.proofs.Common.{◌≡◌, ◌≢◌, inl, inr, ℕ, List, Some, None, sym}
use Rattle.std.specs.Prelude.{Option}
use Rattle.wb_flow_theory.specs.Vertices as g
use Rattle.wb_base.specs.Grammar.{GrammarView}
use Rattle.wb_recheck.specs.CertifyRefusals.{IsValueRefusal, IsAttributeRefusal, IsDeterminismOf, IsNameMemory, IsAttributeMemory, start_of}
use Rattle.wb_recheck.specs.certify_refusal.CertifyRefusal.{CertifyRefusal}
use Rattle.wb_recheck.specs.certify_refusal.CertifyRefusal.TheVariants as c
use Rattle.wb_complete.specs.Refusals.{LacksInherited}
use Rattle.wb_recheck.specs.DeterminismRefusals.{IsNoMemory}
use Rattle.wb_recheck.specs.determinism_refusal.DeterminismRefusal.{DeterminismRefusal}
use Rattle.wb_recheck.specs.determinism_refusal.DeterminismRefusal.TheVariants as d
use Rattle.wb_flow.specs.Vertices.{top_vertex, vertex_below, direction_of}
use Rattle.wb_flow.specs.declared.refusal.AttributeRefusal.{AttributeRefusal}
use Rattle.wb_flow.specs.declared.refusal.AttributeRefusal.TheVariants as a
use Rattle.wb_flow.specs.declared.vertex.Vertex.{Vertex}
use Rattle.wb_flow.specs.declared.vertex.Vertex.TheVariants as v
use Rattle.wb_recheck.specs.Resolving.{IsHostNameRefusal}
use Rattle.wb_names_theory.specs.declared.refusal.NameRefusal.{NameRefusal}
use Rattle.wb_names_theory.specs.declared.refusal.NameRefusal.TheVariants as n
use Rattle.wb_operations.specs.Operations.{OperationSignature}
use Rattle.wb_reader.specs.OneAnswer.{IsNoMemory as IsReadMemory}
use Rattle.wb_reader.specs.declared.refusal.SpecRefusal.{SpecRefusal}
use Rattle.wb_reader.specs.declared.refusal.SpecRefusal.TheVariants as t
use Rattle.wb_syntax_resolved.specs.declared.attributes.Direction.{Direction}
use Rattle.wb_syntax_resolved.specs.declared.attributes.Direction.TheVariants.{Synthesized, Inherited}
use Rattle.wb_syntax_resolved.specs.declared.resolved.ResolvedParts.{ResolvedParts}
use Rattle.wb_certify_shown.specs.Shows.{written_reason, name_reason, of_spec, of_grammar, of_attributes, grammar_reason, attribute_reason}
use Rattle.wb_certify_shown.specs.Shows.{refusal_shown}
use Rattle.wb_syntax.specs.SpecText.{SpecView}
use Rattle.wb_types.specs.declared.refusal.TypeRefusal.TheVariants as k
use Rattle.wb_recheck.specs.WellDefinedHosts.{IsWellDefinedRefusal}
use Rattle.wb_certify_files.specs.Inner.RefusedHosts.{IsCertifyMemory}

-- something is not nothing
some_none : {X : Type 0} {x : X} → Some x ≡ None → ⊥
some_none e = cc

-- of what is written
pub written_shown : (refusal : SpecRefusal) → ¬ IsReadMemory refusal → of_spec (written_reason refusal) ≡ None → ⊥
written_shown t.TooLong other is = some_none is
written_shown t.WrongFormat other is = some_none is
written_shown (t.Syntax at) other is = some_none is
written_shown (t.BadRegex at) other is = some_none is
written_shown (t.MatchesEmpty name) other is = some_none is
written_shown (t.NoMemory error) other is = other tt

-- of names
pub name_shown : (spec : SpecView) (refusal : NameRefusal) → IsHostNameRefusal spec refusal → ¬ IsNameMemory refusal
    → of_spec (name_reason refusal) ≡ None → ⊥
name_shown spec (n.Unknown name) fails other is = some_none is
name_shown spec (n.Duplicate name) fails other is = some_none is
name_shown spec (n.Orphan name) fails other is = some_none is
name_shown spec (n.WrongKind name) fails other is = some_none is
name_shown spec (n.WrongHost name) (inl (ext, same)) other is = absurd (cc same)
name_shown spec (n.WrongHost name) (inr (host, fails)) other is = absurd fails
name_shown spec (n.NoMemory error) fails other is = other tt

-- of grammars and scanners
determinism_shown : (r : ResolvedParts) (o : Option GrammarView) (refusal : DeterminismRefusal) → IsDeterminismOf r o refusal
    → ¬ IsNoMemory refusal → of_grammar (grammar_reason r refusal) ≡ None → ⊥
determinism_shown r o (d.PreferenceCycle list) fails other is = some_none is
determinism_shown r o (d.NotReduced reason) fails other is = some_none is
determinism_shown r o (d.UnitCycle list) fails other is = some_none is
determinism_shown r o (d.HiddenLeftRecursion list) fails other is = some_none is
determinism_shown r o (d.Conflict prefix terminal first second) fails other is = some_none is
determinism_shown r o (d.Clash prefix left right text) fails other is = some_none is
determinism_shown r (Some h) (d.Markers m) fails other is = absurd fails
determinism_shown r None (d.Markers m) fails other is = absurd fails
determinism_shown r (Some h) (d.Lookahead prefix item terminal) fails other is = absurd fails
determinism_shown r None (d.Lookahead prefix item terminal) fails other is = absurd fails
determinism_shown r (Some h) (d.Envelope prefix fault) fails other is = absurd fails
determinism_shown r None (d.Envelope prefix fault) fails other is = absurd fails
determinism_shown r o (d.NoMemory error) fails other is = other tt

-- no attribute of the top is one of a step down
not_top : (direction : Direction) (x i : ℕ) (step : g.Step) → top_vertex direction x ≡ g.inherited step i → ⊥
not_top Synthesized x i step is = let never : g.top_synthesized x ≡ g.inherited step i = is in cc
not_top Inherited x i step is = let never : g.top_inherited x ≡ g.inherited step i = is in cc

-- an attribute of the forwarded tree is of that step
of_forward : (direction : Direction) (x i : ℕ) (step : g.Step) → vertex_below (g.made g.forward) direction x ≡ g.inherited step i
    → step ≢ g.made g.forward → ⊥
of_forward Synthesized x i step is other = let never : g.synthesized (g.made g.forward) x ≡ g.inherited step i = is in cc
of_forward Inherited x i step is other =
    let both : g.inherited (g.made g.forward) x ≡ g.inherited step i = is in
    let same : g.made g.forward ≡ step = cc in
    other (sym same)

inherited_shown : (r : ResolvedParts) (start : Option ℕ) (number : ℕ) (vertex : Vertex)
    → LacksInherited r.attributes start None number vertex
    → of_attributes (attribute_reason r (a.NoInherited number vertex)) ≡ None → ⊥
inherited_shown r start number (v.Child place x) fails is = some_none is
inherited_shown r start number (v.Local place x) fails is = some_none is
inherited_shown r start number (v.Top x) fails is =
    let lacks = fails.lacks in not_top (direction_of r.attributes x) x lacks.inherited_one lacks.step lacks.names
inherited_shown r start number (v.Forward x) fails is =
    let lacks = fails.lacks in of_forward (direction_of r.attributes x) x lacks.inherited_one lacks.step lacks.names lacks.other
inherited_shown r start number (v.LocalTree place) fails is = let never = fails.lacks.names in cc
inherited_shown r start number v.ForwardTree fails is = let never = fails.lacks.names in cc

-- of attributes
attributes_shown : (r : ResolvedParts) (start : Option ℕ) (refusal : AttributeRefusal) → IsAttributeRefusal r start refusal
    → ¬ IsAttributeMemory refusal → of_attributes (attribute_reason r refusal) ≡ None → ⊥
attributes_shown r start (a.StartInherits x) fails other is = some_none is
attributes_shown r start (a.NoForward p) fails other is = some_none is
attributes_shown r start (a.NoEquation p x) fails other is = some_none is
attributes_shown r start (a.NoInherited p vertex) (inl fails) other is = inherited_shown r start p vertex fails is
attributes_shown r start (a.NoInherited p vertex) (inr (ok, fails)) other is = absurd fails
attributes_shown r start (a.LacksForward m x i) fails other is = some_none is
attributes_shown r start (a.Reads p x i) fails other is = some_none is
attributes_shown r start (a.Cycle p vertices) fails other is = some_none is
attributes_shown r start (a.ForwardReads p x i) fails other is = some_none is
attributes_shown r start (a.NoMemory error) fails other is = other tt

-- of a value
pub value_shown : (r : ResolvedParts) (operations : List OperationSignature) (refusal : CertifyRefusal) → IsValueRefusal r operations refusal
    → ¬ IsCertifyMemory refusal → refusal_shown r refusal ≡ None → ⊥
value_shown r operations (c.Names refusal) reason other is = absurd reason
value_shown r operations (c.Types (k.UnknownOperation name)) reason other is = some_none is
value_shown r operations (c.Types (k.WrongArity at)) reason other is = some_none is
value_shown r operations (c.Types (k.TypeMismatch at)) reason other is = some_none is
value_shown r operations (c.Types (k.NoMemory error)) reason other is = reason.1 tt
value_shown r operations c.NoStart reason other is = some_none is
value_shown r operations (c.Determinism refusal) reason other is = determinism_shown r r.grammar refusal reason.0.reason reason.1 is
value_shown r operations (c.Attributes refusal) reason other is = attributes_shown r (start_of r) refusal reason.0.reason reason.1 is
value_shown r operations (c.NoMemory error) reason other is = other tt

-- of a value whose attributes aren't well defined
pub ill_defined_shown : (r : ResolvedParts) (operations : List OperationSignature) (refusal : CertifyRefusal)
    → IsWellDefinedRefusal r operations refusal → ¬ IsCertifyMemory refusal → refusal_shown r refusal ≡ None → ⊥
ill_defined_shown r operations (c.Names refusal) reason other is = absurd reason
ill_defined_shown r operations (c.Types (k.UnknownOperation name)) reason other is = some_none is
ill_defined_shown r operations (c.Types (k.WrongArity at)) reason other is = some_none is
ill_defined_shown r operations (c.Types (k.TypeMismatch at)) reason other is = some_none is
ill_defined_shown r operations (c.Types (k.NoMemory error)) reason other is = reason.1 tt
ill_defined_shown r operations c.NoStart reason other is = absurd reason
ill_defined_shown r operations (c.Determinism refusal) reason other is = absurd reason
ill_defined_shown r operations (c.Attributes refusal) reason other is = attributes_shown r (start_of r) refusal reason.0.reason reason.1 is
ill_defined_shown r operations (c.NoMemory error) reason other is = other tt
