-- What is said of the value that contents stand for is said of the contents.
use Rattle.std.proofs.Common.{inl, inr, ℕ, List, Result, Ok, Err, OnOk}
use Rattle.wb_syntax.specs.SpecText.{SpecView}
use Rattle.wb_syntax_resolved.specs.declared.resolved.ResolvedParts.{ResolvedParts}
use Rattle.wb_certify_files.specs.HostContents.{StandsFor}
use Rattle.wb_certify_files.specs.Numbered.{IsNumbered}
use Rattle.wb_certify_files.specs.Specifications.{IsSpecFor}
use Rattle.wb_explain_beside.specs.Inner.Grammars.{Says}
use Rattle.wb_explain_beside.specs.Said.{SaysOf}

-- of an extension beside a host
pub beside_says : {X E : Type 0} (result : Result X E) (beside own old new : List ℕ) (h r : ResolvedParts) (spec : SpecView)
    → StandsFor beside h → IsSpecFor h own spec → IsNumbered h spec r → OnOk result (Says h r old new)
    → OnOk result (SaysOf beside own old new)
beside_says (Ok x) beside own old new h r spec hosts is numbered (inl same) = inl same
beside_says (Ok x) beside own old new h r spec hosts is numbered (inr says) = inr (record {
  base = h;
  stands_for = hosts;
  value = r;
  stands = record { spec = spec; accepted = is.accepted; names = numbered.names; resolved = numbered.resolved };
  says = says;
})
beside_says (Err e) beside own old new h r spec hosts is numbered says = tt
