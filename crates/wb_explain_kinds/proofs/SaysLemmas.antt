-- What is said of the value that contents stand for is said of the contents.
use Rattle.std.proofs.Common.{inr, ℕ, List, Result, Ok, Err, OnOk, Some, None}
use Rattle.wb_operations.specs.Operations.{OperationSignature}
use Rattle.wb_syntax.specs.SpecText.{SpecView}
use Rattle.wb_syntax_resolved.specs.declared.resolved.ResolvedParts.{ResolvedParts}
use Rattle.wb_certify_files.specs.HostContents.{StandsFor}
use Rattle.wb_certify_files.specs.Numbered.{IsNumbered}
use Rattle.wb_certify_files.specs.Specifications.{IsSpecFor}
use Rattle.wb_explain_mismatches.specs.Said.{Says}
use Rattle.wb_explain_kinds.specs.Said.{SaysOf}

-- what follows from what is so where it went well
pub on_ok : {T E : Type 0} (r : Result T E) (P Q : Type 0) → (P → Q) → OnOk r P → OnOk r Q
on_ok (Ok x) P Q f p = f p
on_ok (Err e) P Q f p = tt

-- of a host
pub host_says : (operations : List OperationSignature) (contents old new : List ℕ) (r : ResolvedParts) → StandsFor contents r
    → Says r.attributes operations old new → SaysOf operations None contents old new
host_says operations contents old new r stands says = inr (record { value = r; stands = stands; says = says })

-- of an extension beside a host
pub beside_says : (operations : List OperationSignature) (beside own old new : List ℕ) (h r : ResolvedParts) (spec : SpecView)
    → StandsFor beside h → IsSpecFor h own spec → IsNumbered h spec r → Says r.attributes operations old new
    → SaysOf operations (Some beside) own old new
beside_says operations beside own old new h r spec hosts is numbered says = inr (record {
  base = h;
  stands_for = hosts;
  value = r;
  stands = record { spec = spec; accepted = is.accepted; names = numbered.names; resolved = numbered.resolved };
  says = says;
})
