-- When the attributes of a resolved host are well defined, whether it has a start or not, and why they aren't.
use Rattle.std.specs.Prelude.{◌≡◌, None, List, []}
use Rattle.wb_flow_theory.specs.Modular.{AreWellDefinedAttributes}
use Rattle.wb_flow.specs.declared.refusal.AttributeRefusal.{AttributeRefusal}
use Rattle.wb_operations.specs.Operations.{OperationSignature}
use Rattle.wb_syntax_resolved.specs.declared.resolved.ResolvedParts.{ResolvedParts}
use Rattle.wb_types.specs.Refusals.{IsTrueRefusal}
use Rattle.wb_types.specs.Rules.{KindsOk}
use Rattle.wb_certify_host.specs.Refusals.{IsAttributeMemory, IsAttributeRefusal, IsTypeMemory, start_of}
use Rattle.wb_certify_host.specs.declared.refusal.CertifyRefusal.{CertifyRefusal}
use Rattle.wb_certify_host.specs.declared.refusal.CertifyRefusal.TheVariants as c

-- over operations of these signatures the attributes of a resolved host are well defined: it is a host alone, each expression is of its
-- kind, and its attributes are well defined from its start, where it has one
pub record HasWellDefinedAttributes (r : ResolvedParts) (operations : List OperationSignature) : Type 0 where
  pub alone : r.attributes.extensions ≡ []
  pub kinds : KindsOk r.attributes operations
  pub attributes : AreWellDefinedAttributes r.attributes (start_of r) None

-- expressions are of their kinds, and attributes aren't well defined for this reason
pub record HasIllDefinedAttributes (r : ResolvedParts) (operations : List OperationSignature) (refusal : AttributeRefusal) : Type 0 where
  pub kinds : KindsOk r.attributes operations
  pub reason : IsAttributeRefusal r (start_of r) refusal

-- the refusal is true of a resolved host whose attributes are asked about: a rule of kinds or of attributes, and no other; out of memory
-- says nothing and is in no other reason
abbrev pub IsWellDefinedRefusal : ResolvedParts → List OperationSignature → CertifyRefusal → Type 0
IsWellDefinedRefusal r operations (c.Types refusal) = IsTrueRefusal r.attributes operations refusal × ¬ IsTypeMemory refusal
IsWellDefinedRefusal r operations (c.Attributes refusal) = HasIllDefinedAttributes r operations refusal × ¬ IsAttributeMemory refusal
IsWellDefinedRefusal r operations (c.NoMemory error) = Unit {0}
IsWellDefinedRefusal r operations other = ⊥
