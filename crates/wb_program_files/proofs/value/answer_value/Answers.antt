-- A term is read after its host, and its report comes after that host's checks.
use Rattle.std.proofs.Common.{rules, ℕ, List, [], ◌∷◌, Option, inl, inr, sym, subst}
use Rattle.wb_flow_theory.specs.Modular.{EachProduction}
use Rattle.wb_flow_theory.specs.WellDefined.{IsWellDefinedProduction}
use Rattle.wb_operations.specs.Operations.{Operations}
use Rattle.wb_syntax_resolved.specs.declared.resolved.ResolvedParts.{ResolvedParts}
use Rattle.wb_world.specs.Shelf.{Files}
use Rattle.wb_program_files.specs.Checks.{Check, Report}
use Rattle.wb_program_files.specs.Texts.{IsText, IsTooLongText}
use Rattle.wb_program_files.specs.Inner.Hosts.{IsWellDefinedFile}
use Rattle.wb_program_files.specs.HostChecks.{RefusesHost}
use Rattle.wb_program_files.specs.Stops.{well_defined_host, written_term}
use Rattle.wb_program_files.specs.declared.status.Status.TheVariants.{TextTooLong}
use Rattle.wb_program_files.proofs.StopLemmas.{err_of, some_well_defined}
use Rattle.wb_program_files.specs.Commands.Value.{TermReport}
use Rattle.wb_program_files.proofs.MakesLemmas.{answered, handed_first, made_since}
use Rattle.wb_program_files.proofs.HostLemmas.{value_well_defined, value_refused}
use Rattle.wb_certify_files.specs.WellDefined.{IsWellDefinedTextRefusal}
use Rattle.wb_program_files.proofs.value.answer_value.Goals as goal

pub answer_term-answer-requires-clause-productions : goal.answer_term-answer-requires-clause-productions
answer_term-answer-requires-clause-productions g c =
    let signatures = c.args.operations.now.signatures in
    let is : IsWellDefinedFile signatures (g.S.Shelf.files c.args.shelf.now) c.args.host.now c.in-Ok.resolved = search rules in
    subst (λ (r : ResolvedParts). EachProduction r.attributes (IsWellDefinedProduction r.attributes)) (sym c.parts.ensures.parts)
    is.well_defined.attributes.productions

pub returns-in-Ok : goal.returns-in-Ok
returns-in-Ok g c =
    let files = g.S.Shelf.files c.args.shelf.now in
    let between = g.S.Shelf.files c.read_well_defined.new.shelf in
    let r = c.in-Ok.resolved in
    let host = c.args.host.now in
    let file = c.args.term.now in
    let attribute = c.args.attribute.now in
    let operations : Operations = record { signatures = c.args.operations.now.signatures; meaning = g.M.Meaning.meaning } in
    let is : IsWellDefinedFile operations.signatures files host r = search rules in
    let Shows : ResolvedParts → Option Files → Report = λ q known.
    Check TextTooLong (IsTooLongText known file) (IsText known file)
    (λ (text : List ℕ). TermReport operations q.attributes file attribute text) in
    made_since c.answer_term-answer.result c.read_well_defined.ensures.goes_on c.answer_term-answer.ensures
    (λ answer shown. value_well_defined operations files host file attribute r answer.status answer.report.items is
    (subst (λ (known : Option Files). Shows r known answer.status answer.report.items) c.read_well_defined.ensures.goes_on.files
    (subst (λ (q : ResolvedParts). Shows q between answer.status answer.report.items) c.parts.ensures.parts shown)))
    (λ P Q weaker meets. inr (some_well_defined operations.signatures files host r is.contents, inl (weaker file meets)))

pub returns-in-Err : goal.returns-in-Err
returns-in-Err g c =
    let known = g.S.Shelf.files c.args.shelf.now in
    let operations : Operations = record { signatures = c.args.operations.now.signatures; meaning = g.M.Meaning.meaning } in
    let host = c.args.host.now in
    let answer = c.in-Err.answer in
    let refused : RefusesHost (IsWellDefinedTextRefusal operations.signatures) known host answer.status answer.report.items =
    err_of c.in_ok-resolved.field-0 answer
    (λ made. RefusesHost (IsWellDefinedTextRefusal operations.signatures) known host made.status made.report.items) c.in-Err.is c.in_ok-resolved.ensures.refused in
    answered answer (value_refused operations known host c.args.term.now c.args.attribute.now answer.status answer.report.items refused)
    c.read_well_defined.ensures.goes_on

pub returns-in_err-resolved : goal.returns-in_err-resolved
returns-in_err-resolved g c =
    handed_first c.args.operations.now.signatures (well_defined_host c.args.host.now) (written_term c.args.term.now ∷ [])
    c.from_residual.result c.in_err-resolved.field-0.0 c.from_residual.ensures.1 c.in_err-resolved.ensures.stopped
    c.read_well_defined.ensures.goes_on
