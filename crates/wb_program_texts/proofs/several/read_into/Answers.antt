-- A certified extension leads on to the next, and one that is refused or can't be read ends the run.
use Rattle.std.proofs.Common.{rules, ◌≡◌, ◌<◌, ◌+◌, ◌++◌, sym, List, [], ◌∷◌, Option, IfErr, length, drop, subst, arith}
use Rattle.std.proofs.lemmas.Grind.{common_steps}
use Rattle.wb_program_files.specs.Kept.{ExtensionView}
use Rattle.wb_compose_texts.specs.Unions.{all_resolved}
use Rattle.wb_program_words.specs.Asked.{texts}
use Rattle.wb_world.specs.Shelf.{Files}
use Rattle.wb_syntax_resolved.specs.declared.resolved.ResolvedParts.{ResolvedParts}
use Rattle.wb_program_texts.specs.SeveralStops.{StopsEach}
use Rattle.wb_program_texts.specs.SeveralChecks.{IsNext, RefusesNext}
use Rattle.wb_program_texts.specs.Composable.{AreApart}
use Rattle.wb_program_texts.specs.Inner.Several.{IsApartFrom, IsReached}
use Rattle.wb_program_files.specs.Stopped.{outside, Stopped}
use Rattle.wb_program_files.proofs.StopLemmas.{err_of, goes_on_twice, ok_of, on_err, stops_since}
use Rattle.wb_program_files.proofs.WordLemmas.{texts_from}
use Rattle.wb_program_texts.proofs.SeveralLemmas.{apart_more, reached_on, refused_here, stopped_here, values_more}
use Rattle.wb_program_texts.proofs.several.read_into.Goals as goal

pub returns-in_err-extension-clause-stopped : goal.returns-in_err-extension-clause-stopped
returns-in_err-extension-clause-stopped g c =
    let known = g.S.Shelf.files c.args.shelf.now in
    let operations = c.args.operations.now.signatures in
    let host = c.args.host.now.resolved in
    let files = texts c.args.files.now in
    let file = c.as_str.result.now in
    let before = outside known (g.S.Shelf.absences c.args.shelf.now) (g.S.Shelf.faults c.args.shelf.now) in
    let between = outside (g.S.Shelf.files c.files.shelf) (g.S.Shelf.absences c.files.shelf) (g.S.Shelf.faults c.files.shelf) in
    let now = outside (g.S.Shelf.files c.next_extension.new.shelf) (g.S.Shelf.absences c.next_extension.new.shelf)
    (g.S.Shelf.faults c.next_extension.new.shelf) in
    let within : c.files.at < length c.args.files.now = grind (arith, common_steps) in
    let here : drop c.files.at files ≡ file ∷ drop (c.files.at + 1) files =
    texts_from c.args.files.now c.files.at c.index-files-at.result file within c.index-files-at.is c.as_str.ensures.value in
    let stopped : IfErr c.from_residual.result (Stopped between now (λ P. P file)) = search rules in
    on_err c.from_residual.result (Stopped between now (λ P. P file))
    (Stopped before now (λ P. StopsEach operations known host P files []))
    (λ failure at. stopped_here operations before host files c.files.at file (all_resolved c.files.extensions.items) now failure here
    (stops_since before between now file failure c.files.invariant.goes_on at) c.files.invariant.reached)
    stopped

pub returns-in_err-add-in-Ok-clause-goes_on : goal.returns-in_err-add-in-Ok-clause-goes_on
returns-in_err-add-in-Ok-clause-goes_on g c =
    goes_on_twice (outside (g.S.Shelf.files c.args.shelf.now) (g.S.Shelf.absences c.args.shelf.now) (g.S.Shelf.faults c.args.shelf.now))
    (outside (g.S.Shelf.files c.files.shelf) (g.S.Shelf.absences c.files.shelf) (g.S.Shelf.faults c.files.shelf))
    (outside (g.S.Shelf.files c.next_extension.new.shelf) (g.S.Shelf.absences c.next_extension.new.shelf)
    (g.S.Shelf.faults c.next_extension.new.shelf)) c.files.invariant.goes_on c.next_extension.ensures.goes_on

pub returns-in-Err-clause-refused : goal.returns-in-Err-clause-refused
returns-in-Err-clause-refused g c =
    let known = g.S.Shelf.files c.args.shelf.now in
    let operations = c.args.operations.now.signatures in
    let host = c.args.host.now.resolved in
    let files = texts c.args.files.now in
    let file = c.as_str.result.now in
    let answer = c.in-Err.answer in
    let values = all_resolved c.files.extensions.items in
    let before = outside known (g.S.Shelf.absences c.args.shelf.now) (g.S.Shelf.faults c.args.shelf.now) in
    let within : c.files.at < length c.args.files.now = grind (arith, common_steps) in
    let here : drop c.files.at files ≡ file ∷ drop (c.files.at + 1) files =
    texts_from c.args.files.now c.files.at c.index-files-at.result file within c.index-files-at.is c.as_str.ensures.value in
    let list : List ExtensionView → Type 0 = λ es. RefusesNext operations (g.S.Shelf.files c.files.shelf) host (all_resolved es) file
    answer.status answer.report.items in
    let refused_there : list c.deref.result.now =
    err_of c.in_ok-extension.field-0 answer
    (λ made. RefusesNext operations (g.S.Shelf.files c.files.shelf) host (all_resolved c.deref.result.now) file made.status made.report.items)
    c.in-Err.is c.in_ok-extension.ensures.refused in
    let refused_between : list c.files.extensions.items = subst list c.deref.ensures.value refused_there in
    let refused : RefusesNext operations known host values file answer.status answer.report.items =
    subst (λ (told : Option Files). RefusesNext operations told host values file answer.status answer.report.items)
    c.files.invariant.goes_on.files refused_between in
    refused_here operations before host files c.files.at file values answer.status answer.report.items here refused
    c.files.invariant.reached

pub files-preserved : goal.files-preserved
files-preserved g c =
    let known = g.S.Shelf.files c.args.shelf.now in
    let operations = c.args.operations.now.signatures in
    let host = c.args.host.now in
    let files = texts c.args.files.now in
    let file = c.as_str.result.now in
    let es = c.files.extensions.items in
    let extension = c.in-Ok.extension in
    let before = outside known (g.S.Shelf.absences c.args.shelf.now) (g.S.Shelf.faults c.args.shelf.now) in
    let between = outside (g.S.Shelf.files c.files.shelf) (g.S.Shelf.absences c.files.shelf) (g.S.Shelf.faults c.files.shelf) in
    let now = outside (g.S.Shelf.files c.next_extension.new.shelf) (g.S.Shelf.absences c.next_extension.new.shelf)
    (g.S.Shelf.faults c.next_extension.new.shelf) in
    let within : c.files.at < length c.args.files.now = grind (arith, common_steps) in
    let here : drop c.files.at files ≡ file ∷ drop (c.files.at + 1) files =
    texts_from c.args.files.now c.files.at c.index-files-at.result file within c.index-files-at.is c.as_str.ensures.value in
    let next_there : IsNext operations between.files host.resolved (all_resolved c.deref.result.now) file extension.resolved =
    ok_of c.in_ok-extension.field-0 extension
    (λ e. IsNext operations between.files host.resolved (all_resolved c.deref.result.now) file e.resolved) c.in-Ok.is
    c.in_ok-extension.ensures.ok in
    let next_between : IsNext operations between.files host.resolved (all_resolved es) file extension.resolved =
    subst (λ (list : List ExtensionView). IsNext operations between.files host.resolved (all_resolved list) file extension.resolved)
    c.deref.ensures.value next_there in
    let next : IsNext operations known host.resolved (all_resolved es) file extension.resolved =
    subst (λ (told : Option Files). IsNext operations told host.resolved (all_resolved es) file extension.resolved)
    c.files.invariant.goes_on.files next_between in
    let apart_there : IsApartFrom host c.deref.result.now extension =
    ok_of c.in_ok-extension.field-0 extension (λ e. IsApartFrom host c.deref.result.now e) c.in-Ok.is c.in_ok-extension.ensures.apart in
    let apart_from : IsApartFrom host es extension =
    subst (λ (list : List ExtensionView). IsApartFrom host list extension) c.deref.ensures.value apart_there in
    let apart : AreApart host (es ++ extension ∷ []) = apart_more host es extension c.files.invariant.apart apart_from in
    let reached : IsReached operations before host.resolved files (c.files.at + 1) (all_resolved es ++ extension.resolved ∷ []) =
    reached_on operations before host.resolved files c.files.at file extension.resolved (all_resolved es) here next
    c.files.invariant.reached in
    let reached_all : IsReached operations before host.resolved files (c.files.at + 1) (all_resolved (es ++ extension ∷ [])) =
    subst (λ (values : List ResolvedParts). IsReached operations before host.resolved files (c.files.at + 1) values)
    (sym (values_more es extension)) reached in
    record {
      within = omega (arith, within);
      goes_on = goes_on_twice before between now c.files.invariant.goes_on c.next_extension.ensures.goes_on;
      apart = subst (λ (list : List ExtensionView). AreApart host list) (sym c.in_ok-add-in-Ok.ensures) apart;
      reached = subst (λ (list : List ExtensionView). IsReached operations before host.resolved files (c.files.at + 1) (all_resolved list))
          (sym c.in_ok-add-in-Ok.ensures) reached_all;
    }

pub returns-in_err-extension-clause-goes_on : goal.returns-in_err-extension-clause-goes_on
returns-in_err-extension-clause-goes_on g c =
    goes_on_twice (outside (g.S.Shelf.files c.args.shelf.now) (g.S.Shelf.absences c.args.shelf.now) (g.S.Shelf.faults c.args.shelf.now))
    (outside (g.S.Shelf.files c.files.shelf) (g.S.Shelf.absences c.files.shelf) (g.S.Shelf.faults c.files.shelf))
    (outside (g.S.Shelf.files c.next_extension.new.shelf) (g.S.Shelf.absences c.next_extension.new.shelf)
    (g.S.Shelf.faults c.next_extension.new.shelf))
    c.files.invariant.goes_on c.next_extension.ensures.goes_on

pub returns-in-Err-clause-goes_on : goal.returns-in-Err-clause-goes_on
returns-in-Err-clause-goes_on g c =
    goes_on_twice (outside (g.S.Shelf.files c.args.shelf.now) (g.S.Shelf.absences c.args.shelf.now) (g.S.Shelf.faults c.args.shelf.now))
    (outside (g.S.Shelf.files c.files.shelf) (g.S.Shelf.absences c.files.shelf) (g.S.Shelf.faults c.files.shelf))
    (outside (g.S.Shelf.files c.next_extension.new.shelf) (g.S.Shelf.absences c.next_extension.new.shelf)
    (g.S.Shelf.faults c.next_extension.new.shelf))
    c.files.invariant.goes_on c.next_extension.ensures.goes_on
