-- Why a resolved host isn't certified: each reason with a true example, where no earlier one holds.
use Rattle.std.specs.Prelude.{◌≡◌, ◌⊎◌, ℕ, Some, None, List, option_map, Option}
use Rattle.wb_base.specs.Grammar.{GrammarView}
use Rattle.wb_complete.specs.Refusals.{CompleteOk, IsTrueCompletenessRefusal}
use Rattle.wb_determinism_host.specs.Hosts.{AreAcyclic, IsDeterministicHost}
use Rattle.wb_determinism_host.specs.Lexicons.{preference_pairs}
use Rattle.wb_determinism_host.specs.Refusals.{IsHostRefusal, IsNoMemory}
use Rattle.wb_determinism_host.specs.declared.refusal.DeterminismRefusal.{DeterminismRefusal}
use Rattle.wb_determinism_host.specs.declared.refusal.DeterminismRefusal.TheVariants as d
use Rattle.wb_flow.specs.Refusals.{IsTrueFlowRefusal}
use Rattle.wb_flow.specs.declared.refusal.AttributeRefusal.{AttributeRefusal}
use Rattle.wb_flow.specs.declared.refusal.AttributeRefusal.TheVariants as a
use Rattle.wb_graph.specs.Orders.{IsSimpleCycle}
use Rattle.wb_names.specs.Resolving.{ResolvesHost, IsHostNameRefusal}
use Rattle.wb_names_theory.specs.declared.refusal.NameRefusal.{NameRefusal}
use Rattle.wb_names_theory.specs.declared.refusal.NameRefusal.TheVariants as n
use Rattle.wb_operations.specs.Operations.{OperationSignature}
use Rattle.wb_syntax_resolved.specs.declared.resolved.ResolvedParts.{ResolvedParts}
use Rattle.wb_syntax.specs.SpecText.{SpecView}
use Rattle.wb_types.specs.Refusals.{IsTrueRefusal}
use Rattle.wb_types.specs.Rules.{KindsOk}
use Rattle.wb_types.specs.declared.refusal.TypeRefusal.{TypeRefusal}
use Rattle.wb_types.specs.declared.refusal.TypeRefusal.TheVariants as t
use Rattle.wb_certify_host.specs.declared.refusal.CertifyRefusal.{CertifyRefusal}
use Rattle.wb_certify_host.specs.declared.refusal.CertifyRefusal.TheVariants as c

-- preferences form this cycle
abbrev pub IsPreferenceCycle : ResolvedParts → DeterminismRefusal → Type 0
IsPreferenceCycle r (d.PreferenceCycle cycle) = IsSimpleCycle (preference_pairs r) cycle
IsPreferenceCycle r other = ⊥

-- the refusal of a host with this grammar, or without one, is true; where there is none, preferences alone are tested
abbrev pub IsDeterminismOf : ResolvedParts → Option GrammarView → DeterminismRefusal → Type 0
IsDeterminismOf r (Some g) refusal = IsHostRefusal r g refusal
IsDeterminismOf r None refusal = IsPreferenceCycle r refusal

-- the host has a grammar and is deterministic
pub record IsDeterministic (r : ResolvedParts) : Type 0 where
  pub grammar : GrammarView
  pub start : r.grammar ≡ Some grammar
  pub deterministic : IsDeterministicHost r grammar

-- expressions are of their kinds, preferences are acyclic, and there is no start
pub record HasNoStart (r : ResolvedParts) (operations : List OperationSignature) : Type 0 where
  pub kinds : KindsOk r.attributes operations
  pub acyclic : AreAcyclic r
  pub none : r.grammar ≡ None

-- expressions are of their kinds, and the host isn't deterministic for this reason
pub record IsNotDeterministic (r : ResolvedParts) (operations : List OperationSignature) (refusal : DeterminismRefusal) : Type 0 where
  pub kinds : KindsOk r.attributes operations
  pub reason : IsDeterminismOf r r.grammar refusal

-- the start, where there is one
abbrev pub start_of : ResolvedParts → Option ℕ
start_of r = option_map (λ (g : GrammarView). g.start) r.grammar

-- attributes aren't complete, or are and don't keep to their flow types, for this reason
abbrev pub IsAttributeRefusal : ResolvedParts → Option ℕ → AttributeRefusal → Type 0
IsAttributeRefusal r start refusal =
    IsTrueCompletenessRefusal r.attributes start None refusal
    ⊎ (CompleteOk r.attributes start None × IsTrueFlowRefusal r.attributes refusal)

-- expressions are of their kinds, the host is deterministic, and its attributes aren't well defined for this reason
pub record AreNotWellDefined (r : ResolvedParts) (operations : List OperationSignature) (refusal : AttributeRefusal) : Type 0 where
  pub kinds : KindsOk r.attributes operations
  pub deterministic : IsDeterministic r
  pub reason : IsAttributeRefusal r (start_of r) refusal

-- it is that memory ran out
abbrev pub IsTypeMemory : TypeRefusal → Type 0
IsTypeMemory (t.NoMemory error) = Unit {0}
IsTypeMemory other = ⊥

-- it is that memory ran out
abbrev pub IsAttributeMemory : AttributeRefusal → Type 0
IsAttributeMemory (a.NoMemory error) = Unit {0}
IsAttributeMemory other = ⊥

-- the refusal is true of a resolved host; that of names isn't about one, and out of memory says nothing and is in no other reason
abbrev pub IsValueRefusal : ResolvedParts → List OperationSignature → CertifyRefusal → Type 0
IsValueRefusal r operations (c.Names refusal) = ⊥
IsValueRefusal r operations (c.Types refusal) = IsTrueRefusal r.attributes operations refusal × ¬ IsTypeMemory refusal
IsValueRefusal r operations c.NoStart = HasNoStart r operations
IsValueRefusal r operations (c.Determinism refusal) = IsNotDeterministic r operations refusal × ¬ IsNoMemory refusal
IsValueRefusal r operations (c.Attributes refusal) = AreNotWellDefined r operations refusal × ¬ IsAttributeMemory refusal
IsValueRefusal r operations (c.NoMemory error) = Unit {0}

-- the specification's names are right, and the value that it stands for isn't certified for this reason
pub record IsNotCertified (spec : SpecView) (operations : List OperationSignature) (refusal : CertifyRefusal) : Type 0 where
  pub resolved : ResolvedParts
  pub names : ResolvesHost spec resolved
  pub reason : IsValueRefusal resolved operations refusal

-- it is that memory ran out
abbrev pub IsNameMemory : NameRefusal → Type 0
IsNameMemory (n.NoMemory error) = Unit {0}
IsNameMemory other = ⊥

-- the refusal of a specification as a host is true: its names aren't right for this reason, or they are and the value that it stands for
-- isn't certified
abbrev pub IsHostCertifyRefusal : SpecView → List OperationSignature → CertifyRefusal → Type 0
IsHostCertifyRefusal spec operations (c.Names refusal) = IsHostNameRefusal spec refusal × ¬ IsNameMemory refusal
IsHostCertifyRefusal spec operations (c.NoMemory error) = Unit {0}
IsHostCertifyRefusal spec operations other = IsNotCertified spec operations other
