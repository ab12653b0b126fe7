-- The value of a file is that of its specification.
use Rattle.std.proofs.Common.{ℕ, List, Option, None, Some, IfSome, IfOk, Result, Ok, Err}
use Rattle.wb_names.specs.Resolving.{ResolvesExtension, ResolvesHost}
use Rattle.wb_reader.specs.Refusals.{IsAcceptedText}
use Rattle.wb_syntax.specs.SpecText.{SpecView}
use Rattle.wb_syntax_resolved.specs.declared.resolved.ResolvedParts.{ResolvedParts}
use Rattle.wb_explain_attributes.specs.Values.{IsExtensionValue, IsHostValue, IsValueBeside}

-- what holds of a value that is there
pub if_some : {X E : Type 0} (P Q : X → Type 0) (r : Result (Option X) E) → ((x : X) → P x → Q x) → IfOk r (λ o. IfSome o P)
    → IfOk r (λ o. IfSome o Q)
if_some P Q (Ok (Some x)) f holds = f x holds
if_some P Q (Ok None) f holds = tt
if_some P Q (Err e) f holds = tt

pub host_is : (contents : List ℕ) (spec : SpecView) → IsAcceptedText contents spec → (r : ResolvedParts) → ResolvesHost spec r
    → IsHostValue contents r
host_is contents spec accepted r names = record { spec = spec; accepted = accepted; names = names }

pub extension_is : (base : ResolvedParts) (contents : List ℕ) (spec : SpecView) → IsAcceptedText contents spec → (r : ResolvedParts)
    → ResolvesExtension base spec r → IsExtensionValue base contents r
extension_is base contents spec accepted r names = record { spec = spec; accepted = accepted; names = names }

pub beside_is : (host contents : List ℕ) (base : ResolvedParts) → IsHostValue host base → (r : ResolvedParts)
    → IsExtensionValue base contents r → IsValueBeside host contents r
beside_is host contents base of_host r of_extension = record { base = base; of_host = of_host; of_extension = of_extension }
