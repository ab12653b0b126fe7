-- A report of what comes of a text and an attribute is one with the extensions in every other order.
use Rattle.std.proofs.Common.{ℕ, List, Some, inl, inr}
use Rattle.wb_operations.specs.Operations.{Operations}
use Rattle.wb_program_theory.specs.ValueLaws.{AreInTwoOrders, HasSameRoots, HasSameValues}
use Rattle.wb_program_theory.proofs.OrderLemmas.{roots_there, values_there}
use Rattle.wb_syntax_resolved.specs.declared.resolved.ResolvedParts.{ResolvedParts}
use Rattle.wb_world.specs.Shelf.{Files}
use Rattle.wb_program.specs.status.Status.{Status}
use Rattle.wb_program.specs.Commands.Run.{RunChecks}
use Rattle.wb_program_theory.specs.RunLaws.{HaveOneRun, IsRunStatus}
use Rattle.wb_program_theory.proofs.SeveralLemmas.{RefusesNone, several_there}

-- no refusal of a host or an extension has a status of a run
abbrev run_refuses_none : RefusesNone IsRunStatus
run_refuses_none = record {
  specification = λ no. no;
  certification = λ no. no;
  other_host = λ no. no;
  duplicate = λ no. no;
  many = λ no. no;
}

-- the attribute, the text and what comes of both, in the other order
run_there : (operations : Operations) (files : Files) (text name : List ℕ) (steps : ℕ) (status : Status) (bytes : List ℕ)
    (r : ResolvedParts) (values others : List ResolvedParts) (to from : ℕ → ℕ) → AreInTwoOrders values others to from
    → RunChecks operations (Some files) text name steps r values status bytes
    → RunChecks operations (Some files) text name steps r others status bytes
run_there operations files text name steps status bytes r values others to from two (inl (ends, x)) =
    let roots : HasSameRoots r operations.signatures values others = roots_there r operations values others to from two in
    inl (ends, record { none = roots.none name x.none; line = x.line })
run_there operations files text name steps status bytes r values others to from two (inr (attribute, asked, inl long)) =
    let roots : HasSameRoots r operations.signatures values others = roots_there r operations values others to from two in
    let (other, asked_there) = roots.some name attribute asked in
    inr (other, asked_there, inl long)
run_there operations files text name steps status bytes r values others to from two (inr (attribute, asked, inr (contents, is, report))) =
    let roots : HasSameRoots r operations.signatures values others = roots_there r operations values others to from two in
    let same : HasSameValues r operations values others = values_there r operations values others to from two in
    let (other, asked_there) = roots.some name attribute asked in
    inr (
      other,
      asked_there,
      inr (
        contents,
        is,
        record { value = report.value; is = same contents name steps report.value report.is; shown = report.shown },
      ),
    )

-- where what comes of a text and an attribute is reported, extensions in another order have the same report
pub one_run_order : HaveOneRun
one_run_order operations known text name steps host files others to from status bytes re ends =
    several_there IsRunStatus run_refuses_none operations.signatures known status bytes ends
    (RunChecks operations (Some known) text name steps) host files others to from re
    (λ r values in_order reordering differ. run_there operations known text name steps status bytes r values in_order to from
    (record { reordering = reordering; names = differ }))
