-- Each refusal that can be true of an extension has a line.
use Rattle.std.proofs.Common.{◌≡◌, ◌≢◌, inl, inr, ℕ, List, Some, None, sym}
use Rattle.std.specs.Prelude.{Option}
use Rattle.wb_flow_theory.specs.Vertices as g
use Rattle.wb_recheck.specs.BesideRefusals.{IsAttributeRefusal, IsBesideRefusal, IsMemory}
use Rattle.wb_recheck.specs.CertifyRefusals.{IsNameMemory, IsAttributeMemory}
use Rattle.wb_recheck.specs.certify_refusal.CertifyRefusal.{CertifyRefusal}
use Rattle.wb_recheck.specs.certify_refusal.CertifyRefusal.TheVariants as c
use Rattle.wb_complete.specs.Refusals.{LacksInherited}
use Rattle.wb_flow.specs.Vertices.{top_vertex, vertex_below, direction_of}
use Rattle.wb_flow.specs.declared.refusal.AttributeRefusal.{AttributeRefusal}
use Rattle.wb_flow.specs.declared.refusal.AttributeRefusal.TheVariants as a
use Rattle.wb_flow.specs.declared.vertex.Vertex.{Vertex}
use Rattle.wb_flow.specs.declared.vertex.Vertex.TheVariants as v
use Rattle.wb_names_theory.specs.declared.refusal.NameRefusal.{NameRefusal}
use Rattle.wb_names_theory.specs.declared.refusal.NameRefusal.TheVariants as n
use Rattle.wb_operations.specs.Operations.{OperationSignature}
use Rattle.wb_reader.specs.OneAnswer.{IsNoMemory as IsReadMemory}
use Rattle.wb_reader.specs.declared.refusal.SpecRefusal.{SpecRefusal}
use Rattle.wb_reader.specs.declared.refusal.SpecRefusal.TheVariants as t
use Rattle.wb_syntax_resolved.specs.declared.attributes.Direction.{Direction}
use Rattle.wb_syntax_resolved.specs.declared.attributes.Direction.TheVariants.{Synthesized, Inherited}
use Rattle.wb_syntax_resolved.specs.declared.resolved.ResolvedParts.{ResolvedParts}
use Rattle.wb_certify_shown.proofs.CallerLemmas.{reason_shown}
use Rattle.wb_certify_shown.specs.Extensions.{extension_refusal_shown}
use Rattle.wb_certify_shown.specs.Shows.{written_reason, name_reason, of_spec, of_attributes, attribute_reason}
use Rattle.wb_types.specs.declared.refusal.TypeRefusal.TheVariants as k
use Rattle.wb_certify_files.specs.Inner.RefusedExtensions.{IsOtherHost}

-- something is not nothing
some_none : {X : Type 0} {x : X} → Some x ≡ None → ⊥
some_none e = cc

-- of what is written
pub written_shown : (refusal : SpecRefusal) → ¬ IsReadMemory refusal → of_spec (written_reason refusal) ≡ None → ⊥
written_shown t.TooLong other is = some_none is
written_shown t.WrongFormat other is = some_none is
written_shown (t.Syntax at) other is = some_none is
written_shown (t.BadRegex at) other is = some_none is
written_shown (t.MatchesEmpty name) other is = some_none is
written_shown (t.NoMemory error) other is = other tt

-- of names
pub name_shown : (refusal : NameRefusal) → ¬ IsOtherHost refusal → ¬ IsNameMemory refusal → of_spec (name_reason refusal) ≡ None → ⊥
name_shown (n.Unknown name) other memory is = some_none is
name_shown (n.Duplicate name) other memory is = some_none is
name_shown (n.Orphan name) other memory is = some_none is
name_shown (n.WrongKind name) other memory is = some_none is
name_shown (n.WrongHost name) other memory is = other tt
name_shown (n.NoMemory error) other memory is = memory tt

-- no attribute of the top is one of a step down
not_top : (direction : Direction) (x i : ℕ) (step : g.Step) → top_vertex direction x ≡ g.inherited step i → ⊥
not_top Synthesized x i step is = let never : g.top_synthesized x ≡ g.inherited step i = is in cc
not_top Inherited x i step is = let never : g.top_inherited x ≡ g.inherited step i = is in cc

-- an attribute of the forwarded tree is of that step
of_forward : (direction : Direction) (x i : ℕ) (step : g.Step) → vertex_below (g.made g.forward) direction x ≡ g.inherited step i
    → step ≢ g.made g.forward → ⊥
of_forward Synthesized x i step is other = let never : g.synthesized (g.made g.forward) x ≡ g.inherited step i = is in cc
of_forward Inherited x i step is other =
    let both : g.inherited (g.made g.forward) x ≡ g.inherited step i = is in
    let same : g.made g.forward ≡ step = cc in
    other (sym same)

inherited_shown : (r : ResolvedParts) (start extension : Option ℕ) (number : ℕ) (vertex : Vertex)
    → LacksInherited r.attributes start extension number vertex
    → of_attributes (attribute_reason r (a.NoInherited number vertex)) ≡ None → ⊥
inherited_shown r start extension number (v.Child place x) fails is = some_none is
inherited_shown r start extension number (v.Local place x) fails is = some_none is
inherited_shown r start extension number (v.Top x) fails is =
    let lacks = fails.lacks in not_top (direction_of r.attributes x) x lacks.inherited_one lacks.step lacks.names
inherited_shown r start extension number (v.Forward x) fails is =
    let lacks = fails.lacks in of_forward (direction_of r.attributes x) x lacks.inherited_one lacks.step lacks.names lacks.other
inherited_shown r start extension number (v.LocalTree place) fails is = let never = fails.lacks.names in cc
inherited_shown r start extension number v.ForwardTree fails is = let never = fails.lacks.names in cc

-- of attributes
attributes_shown : (r : ResolvedParts) (start : Option ℕ) (refusal : AttributeRefusal) → IsAttributeRefusal r.attributes start refusal
    → ¬ IsAttributeMemory refusal → of_attributes (attribute_reason r refusal) ≡ None → ⊥
attributes_shown r start (a.StartInherits x) fails other is = some_none is
attributes_shown r start (a.NoForward p) fails other is = some_none is
attributes_shown r start (a.NoEquation p x) fails other is = some_none is
attributes_shown r start (a.NoInherited p vertex) (inl fails) other is = inherited_shown r start (Some 1) p vertex fails is
attributes_shown r start (a.NoInherited p vertex) (inr (inl (ok, fails))) other is = absurd fails
attributes_shown r start (a.NoInherited p vertex) (inr (inr (ok, flows, fails))) other is = absurd fails
attributes_shown r start (a.LacksForward m x i) fails other is = some_none is
attributes_shown r start (a.Reads p x i) fails other is = some_none is
attributes_shown r start (a.Cycle p vertices) fails other is = some_none is
attributes_shown r start (a.ForwardReads p x i) fails other is = some_none is
attributes_shown r start (a.NoMemory error) fails other is = other tt

-- of a host with an extension
pub value_shown : (host r : ResolvedParts) (operations : List OperationSignature) (refusal : CertifyRefusal)
    → IsBesideRefusal host r operations refusal → ¬ IsMemory refusal → extension_refusal_shown r refusal ≡ None → ⊥
value_shown host r operations (c.Names refusal) reason other is = absurd reason
value_shown host r operations (c.Types (k.UnknownOperation name)) reason other is = some_none is
value_shown host r operations (c.Types (k.WrongArity at)) reason other is = some_none is
value_shown host r operations (c.Types (k.TypeMismatch at)) reason other is = some_none is
value_shown host r operations (c.Types (k.NoMemory error)) reason other is = reason.1 tt
value_shown host r operations c.NoStart reason other is = absurd reason
value_shown host r operations (c.Determinism refusal) reason other is = reason_shown r refusal reason.1 is
value_shown host r operations (c.Attributes refusal) reason other is =
    attributes_shown r (Some reason.0.grammar.start) refusal reason.0.reason reason.1 is
value_shown host r operations (c.NoMemory error) reason other is = other tt
