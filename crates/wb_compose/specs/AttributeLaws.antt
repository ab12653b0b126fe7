-- What the laws say of the attributes of a certified host with certified extensions.
use Rattle.std.specs.Prelude.{ℕ, List, Some, None, All, map}
use Rattle.wb_flow_theory.specs.Modular.{AreWellDefinedAttributes, IsHosts}
use Rattle.wb_flow_theory.specs.Occurrences.{Needs}
use Rattle.wb_base.specs.Different.{Differ}
use Rattle.wb_base.specs.Grammar.{GrammarView}
use Rattle.wb_compose.specs.Attributes.{attributes_of}
use Rattle.wb_compose.specs.Joined.{AreCertifiedApart, Extended}
use Rattle.wb_compose.specs.Written.{name_in}
use Rattle.wb_operations.specs.Operations.{OperationSignature, IsPlainSignature}
use Rattle.wb_syntax_resolved.specs.Attribution.{IsAttribution}
use Rattle.wb_syntax_resolved.specs.declared.attribution.AttributionParts.{AttributionParts}
use Rattle.wb_syntax_resolved.specs.declared.resolved.ResolvedParts.{ResolvedParts}
use Rattle.wb_types.specs.Rules.{KindsOk}
use Rattle.wb_compose_theory_attributes.specs.Unions.{Rooted, IsUnionOf}

-- a host, and a host with an extension, from the start of its grammar
abbrev pub host_rooted : ResolvedParts → GrammarView → Rooted
host_rooted host g = record { attributes = host.attributes; start = g.start }

abbrev pub with_host : Extended → Rooted
with_host e = record { attributes = e.resolved.attributes; start = e.grammar.start }

-- all together, from the host's start
abbrev pub all_rooted : ResolvedParts → GrammarView → List Extended → Rooted
all_rooted host g extended = record { attributes = attributes_of host g extended; start = g.start }

-- the flow type of each attribute on this nonterminal is empty
abbrev pub NeedsNothing : AttributionParts → ℕ → Type 0
NeedsNothing a nonterminal = (attribute i : ℕ) → ¬ Needs a attribute nonterminal i

-- the host and the extensions are certified, each with the host alone, over operations that take and give no trees, and names differ
pub record AreComposable (host : ResolvedParts) (g : GrammarView) (operations : List OperationSignature) (extended : List Extended) : Type 0
  where
    pub certified : AreCertifiedApart host g operations extended
    pub names : Differ (map (λ (e : Extended). name_in e.resolved) extended)
    pub plain : All IsPlainSignature operations

-- the attributes of all together are the union of the host's and of those of each extension with the host; they are an attribution, whose
-- start is the host's and needs nothing; they are well defined as a host's are; and each expression is of its kind
pub record AreUnitedAttributes (host : ResolvedParts) (g : GrammarView) (operations : List OperationSignature) (extended : List Extended) :
    Type 0 where
  pub is_union : IsUnionOf (host_rooted host g) (map with_host extended) (all_rooted host g extended)
  pub attribution : IsAttribution (attributes_of host g extended)
  pub start : IsHosts (attributes_of host g extended) g.start
  pub start_needs_nothing : NeedsNothing (attributes_of host g extended) g.start
  pub well_defined : AreWellDefinedAttributes (attributes_of host g extended) (Some g.start) None
  pub kinds : KindsOk (attributes_of host g extended) operations
