-- That certification of an extension has at most one answer, but for which true example it shows.
use Rattle.std.specs.Prelude.{List}
use Rattle.wb_certify_host.specs.Refusals.{IsNameMemory}
use Rattle.wb_certify_host.specs.declared.refusal.CertifyRefusal.{CertifyRefusal}
use Rattle.wb_certify_host.specs.declared.refusal.CertifyRefusal.TheVariants as c
use Rattle.wb_certify_host.specs.determinism_refusal.DeterminismRefusal.{DeterminismRefusal}
use Rattle.wb_flow.specs.declared.refusal.AttributeRefusal.{AttributeRefusal}
use Rattle.wb_certify_host.specs.Resolving.{IsExtensionNameRefusal, ResolvesExtension}
use Rattle.wb_names_theory.specs.declared.refusal.NameRefusal.{NameRefusal}
use Rattle.wb_operations.specs.Operations.{OperationSignature}
use Rattle.wb_syntax_resolved.specs.declared.resolved.ResolvedParts.{ResolvedParts}
use Rattle.wb_syntax.specs.SpecText.{SpecView}
use Rattle.wb_types.specs.declared.refusal.TypeRefusal.{TypeRefusal}
use Rattle.wb_certify.specs.Extensions.{IsCertifiedBeside}
use Rattle.wb_certify.specs.Refusals.{IsBesideRefusal, IsMemory}

-- an extension that stands for a value isn't refused for its names, except when memory runs out
abbrev pub NamesExclude : (host : ResolvedParts) → SpecView → ResolvedParts → Type 0
NamesExclude host spec r =
    ResolvesExtension host spec r → (refusal : NameRefusal) → IsExtensionNameRefusal host spec refusal → IsNameMemory refusal

module _ (host r : ResolvedParts) (operations : List OperationSignature) where
  -- refusals of two sorts aren't both true
  pub record SortsExclude : Type 0 where
    pub kinds_determinism : (x : TypeRefusal) (y : DeterminismRefusal) → IsBesideRefusal host r operations (c.Types x)
        → ¬ IsBesideRefusal host r operations (c.Determinism y)
    pub kinds_attributes : (x : TypeRefusal) (y : AttributeRefusal) → IsBesideRefusal host r operations (c.Types x)
        → ¬ IsBesideRefusal host r operations (c.Attributes y)
    pub determinism_attributes : (x : DeterminismRefusal) (y : AttributeRefusal) → IsBesideRefusal host r operations (c.Determinism x)
        → ¬ IsBesideRefusal host r operations (c.Attributes y)

  -- an extension that is certified isn't refused, except when memory runs out, and refusals of two sorts aren't both true
  pub record HasOneAnswer : Type 0 where
    pub certified : IsCertifiedBeside host r operations → (refusal : CertifyRefusal) → IsBesideRefusal host r operations refusal
        → IsMemory refusal
    pub sorts : SortsExclude
