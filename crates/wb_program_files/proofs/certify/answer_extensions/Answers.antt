-- A certified extension leads on to the next, and one that is refused or can't be read ends the run.
use Rattle.std.proofs.Common.{◌≡◌, ◌<◌, ◌+◌, ◌++◌, sym, ℕ, List, [], ◌∷◌, Option, length, drop, subst, arith}
use Rattle.std.proofs.lemmas.Grind.{common_steps}
use Rattle.wb_world.specs.Shelf.{Files}
use Rattle.wb_program_words.specs.Asked.{texts}
use Rattle.wb_program_files.specs.Stopped.{outside}
use Rattle.wb_program_files.proofs.StopLemmas.{goes_on_twice, stops_since}
use Rattle.wb_program_files.proofs.WordLemmas.{texts_from, texts_past}
use Rattle.wb_program_files.specs.Commands.Certify.{IsExtensionNamed}
use Rattle.wb_program_files.specs.Inner.Extensions.{EndsAtExtension, IsFound, LeadsTo}
use Rattle.wb_program_files.proofs.MakesLemmas.{answered, exhausted, handed}
use Rattle.wb_program_files.proofs.ExtensionLemmas.{leads_last, leads_on, leads_refused, stops_on, stops_here}
use Rattle.wb_program_files.proofs.certify.answer_extensions.Goals as goal

pub returns : goal.returns
returns g c =
    let operations = c.args.operations.now.signatures in
    let answer = c.in_ok-all_certified.field-0 in
    answered answer (leads_last operations (g.S.Shelf.files c.args.shelf.now) c.args.host.now.resolved (texts c.args.files.now) c.files.at
    c.files.names.items answer.status answer.report.items (texts_past c.args.files.now c.files.at (omega arith))
    c.in_ok-all_certified.ensures.status c.in_ok-all_certified.ensures.report c.files.invariant.leads) c.files.invariant.goes_on

pub returns-in_err-all_certified : goal.returns-in_err-all_certified
returns-in_err-all_certified g c =
    exhausted c.from_residual-in_err-all_certified.result c.from_residual-in_err-all_certified.ensures.1 c.files.invariant.goes_on

pub returns-in_err-name : goal.returns-in_err-name
returns-in_err-name g c =
    let known = g.S.Shelf.files c.args.shelf.now in
    let operations = c.args.operations.now.signatures in
    let files = texts c.args.files.now in
    let file = c.as_str.result.now in
    let before = outside known (g.S.Shelf.absences c.args.shelf.now) (g.S.Shelf.faults c.args.shelf.now) in
    let between = outside (g.S.Shelf.files c.files.shelf) (g.S.Shelf.absences c.files.shelf) (g.S.Shelf.faults c.files.shelf) in
    let now = outside (g.S.Shelf.files c.name_of.new.shelf) (g.S.Shelf.absences c.name_of.new.shelf)
    (g.S.Shelf.faults c.name_of.new.shelf) in
    let within : c.files.at < length c.args.files.now = grind (arith, common_steps) in
    let here : drop c.files.at files ≡ file ∷ drop (c.files.at + 1) files =
    texts_from c.args.files.now c.files.at c.index-files-at.result file within c.index-files-at.is c.as_str.ensures.value in
    let failure = c.in_err-name.field-0.0 in
    handed c.from_residual.result failure c.from_residual.ensures.1
    (stops_here operations before c.args.host.now.resolved files c.files.at file now failure here c.files.invariant.stops
    (stops_since before between now file failure c.files.invariant.goes_on c.in_err-name.ensures.stopped))
    (goes_on_twice before between now c.files.invariant.goes_on c.name_of.ensures.goes_on)

pub returns-in-Err : goal.returns-in-Err
returns-in-Err g c =
    let known = g.S.Shelf.files c.args.shelf.now in
    let operations = c.args.operations.now.signatures in
    let host = c.args.host.now.resolved in
    let files = texts c.args.files.now in
    let file = c.as_str.result.now in
    let before = outside known (g.S.Shelf.absences c.args.shelf.now) (g.S.Shelf.faults c.args.shelf.now) in
    let between = outside (g.S.Shelf.files c.files.shelf) (g.S.Shelf.absences c.files.shelf) (g.S.Shelf.faults c.files.shelf) in
    let now = outside (g.S.Shelf.files c.name_of.new.shelf) (g.S.Shelf.absences c.name_of.new.shelf)
    (g.S.Shelf.faults c.name_of.new.shelf) in
    let answer = c.in-Err.answer in
    let within : c.files.at < length c.args.files.now = grind (arith, common_steps) in
    let here : drop c.files.at files ≡ file ∷ drop (c.files.at + 1) files =
    texts_from c.args.files.now c.files.at c.index-files-at.result file within c.index-files-at.is c.as_str.ensures.value in
    let ends_there : EndsAtExtension operations (g.S.Shelf.files c.files.shelf) host file answer.status answer.report.items =
    subst (IsFound operations (g.S.Shelf.files c.files.shelf) host file) c.in-Err.is c.in_ok-name.ensures.ok in
    let ends : EndsAtExtension operations known host file answer.status answer.report.items =
    subst (λ (told : Option Files). EndsAtExtension operations told host file answer.status answer.report.items)
    c.files.invariant.goes_on.files ends_there in
    answered answer
    (leads_refused operations known host files c.files.at file c.files.names.items answer.status answer.report.items here ends
    c.files.invariant.leads)
    (goes_on_twice before between now c.files.invariant.goes_on c.name_of.ensures.goes_on)

pub returns-in_err-push_name-in-Ok : goal.returns-in_err-push_name-in-Ok
returns-in_err-push_name-in-Ok g c =
    exhausted c.from_residual-in_err-push_name-in-Ok.result c.from_residual-in_err-push_name-in-Ok.ensures.1
    (goes_on_twice (outside (g.S.Shelf.files c.args.shelf.now) (g.S.Shelf.absences c.args.shelf.now) (g.S.Shelf.faults c.args.shelf.now))
    (outside (g.S.Shelf.files c.files.shelf) (g.S.Shelf.absences c.files.shelf) (g.S.Shelf.faults c.files.shelf))
    (outside (g.S.Shelf.files c.name_of.new.shelf) (g.S.Shelf.absences c.name_of.new.shelf) (g.S.Shelf.faults c.name_of.new.shelf))
    c.files.invariant.goes_on c.name_of.ensures.goes_on)

pub files-preserved : goal.files-preserved
files-preserved g c =
    let known = g.S.Shelf.files c.args.shelf.now in
    let operations = c.args.operations.now.signatures in
    let host = c.args.host.now.resolved in
    let files = texts c.args.files.now in
    let file = c.as_str.result.now in
    let before = outside known (g.S.Shelf.absences c.args.shelf.now) (g.S.Shelf.faults c.args.shelf.now) in
    let between = outside (g.S.Shelf.files c.files.shelf) (g.S.Shelf.absences c.files.shelf) (g.S.Shelf.faults c.files.shelf) in
    let now = outside (g.S.Shelf.files c.name_of.new.shelf) (g.S.Shelf.absences c.name_of.new.shelf)
    (g.S.Shelf.faults c.name_of.new.shelf) in
    let within : c.files.at < length c.args.files.now = grind (arith, common_steps) in
    let here : drop c.files.at files ≡ file ∷ drop (c.files.at + 1) files =
    texts_from c.args.files.now c.files.at c.index-files-at.result file within c.index-files-at.is c.as_str.ensures.value in
    let named_there : IsExtensionNamed operations (g.S.Shelf.files c.files.shelf) host file c.in-Ok.name =
    subst (IsFound operations (g.S.Shelf.files c.files.shelf) host file) c.in-Ok.is c.in_ok-name.ensures.ok in
    let named : IsExtensionNamed operations known host file c.in-Ok.name =
    subst (λ (told : Option Files). IsExtensionNamed operations told host file c.in-Ok.name) c.files.invariant.goes_on.files named_there in
    let leads : LeadsTo operations known host files (c.files.at + 1) (c.files.names.items ++ c.in-Ok.name ∷ []) =
    leads_on operations known host files c.files.at file c.in-Ok.name c.files.names.items here named c.files.invariant.leads in
    record {
      within = omega (arith, within);
      goes_on = goes_on_twice before between now c.files.invariant.goes_on c.name_of.ensures.goes_on;
      leads = subst (λ (names : List (List ℕ)). LeadsTo operations known host files (c.files.at + 1) names)
          (sym c.in_ok-push_name-in-Ok.ensures) leads;
      stops = stops_on operations before host files c.files.at file c.in-Ok.name here named c.files.invariant.stops;
    }
