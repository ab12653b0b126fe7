-- What each test of a host tells.
use Rattle.std.specs.Prelude.{◌≡◌, None, List}
use Rattle.wb_complete.specs.Refusals.{CompleteOk}
use Rattle.wb_determinism_host.specs.Hosts.{AreAcyclic}
use Rattle.wb_determinism_host.specs.Refusals.{IsNoMemory}
use Rattle.wb_operations.specs.Operations.{OperationSignature}
use Rattle.wb_syntax_resolved.specs.declared.resolved.ResolvedParts.{ResolvedParts}
use Rattle.wb_types.specs.Refusals.{IsTrueRefusal}
use Rattle.wb_certify_host.specs.Refusals.{IsAttributeMemory, IsAttributeRefusal, IsDeterminismOf, IsTypeMemory, start_of}
use Rattle.wb_certify_host.specs.declared.refusal.CertifyRefusal.{CertifyRefusal}
use Rattle.wb_certify_host.specs.declared.refusal.CertifyRefusal.TheVariants as c

-- each attribute that is needed is defined, and the start inherits nothing
abbrev pub AreComplete : ResolvedParts → Type 0
AreComplete r = CompleteOk r.attributes (start_of r) None

-- a rule of kinds fails for this reason; out of memory says nothing and is in no other reason
abbrev pub IsKindRefusal : ResolvedParts → List OperationSignature → CertifyRefusal → Type 0
IsKindRefusal r operations (c.Types refusal) = IsTrueRefusal r.attributes operations refusal × ¬ IsTypeMemory refusal
IsKindRefusal r operations (c.NoMemory error) = Unit {0}
IsKindRefusal r operations other = ⊥

-- a rule of preferences, of the start, of the grammar or of the scanner fails for this reason; out of memory says nothing and is in no
-- other reason
abbrev pub IsGrammarRefusal : ResolvedParts → CertifyRefusal → Type 0
IsGrammarRefusal r c.NoStart = AreAcyclic r × (r.grammar ≡ None)
IsGrammarRefusal r (c.Determinism refusal) = IsDeterminismOf r r.grammar refusal × ¬ IsNoMemory refusal
IsGrammarRefusal r (c.NoMemory error) = Unit {0}
IsGrammarRefusal r other = ⊥

-- a rule of attributes fails for this reason; out of memory says nothing and is in no other reason
abbrev pub IsAttributesRefusal : ResolvedParts → CertifyRefusal → Type 0
IsAttributesRefusal r (c.Attributes refusal) = IsAttributeRefusal r (start_of r) refusal × ¬ IsAttributeMemory refusal
IsAttributesRefusal r (c.NoMemory error) = Unit {0}
IsAttributesRefusal r other = ⊥
