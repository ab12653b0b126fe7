-- The lines of all texts on the way come one after another.
use Rattle.std.proofs.Common.{◌≡◌, ◌<◌, ◌∙◌, [], arith, length, refl, subst}
use Rattle.std.proofs.lemmas.Grind.{common_steps}
use Rattle.wb_compose_texts.specs.Names.{terminals_of}
use Rattle.wb_compose_texts.specs.Signatures.{signatures_of}
use Rattle.wb_compose_texts.specs.Unions.{all_resolved}
use Rattle.wb_lemmas.proofs.Places.{read_at}
use Rattle.wb_lemmas.proofs.Refusals.{handed_on}
use Rattle.wb_scan_theory.specs.Languages.{LanguageView}
use Rattle.wb_compose_texts.specs.Inner.Gathered.{HasOneMore}
use Rattle.wb_compose_texts.specs.Inner.Walks.{HaltsAt, HasCome}
use Rattle.wb_compose_texts.proofs.WalkLemmas.{come_before, come_first, come_more}
use Rattle.wb_compose_texts.proofs.edits.edit_all.Goals as goal

pub places-init : goal.places-init
places-init c =
    let names = terminals_of c.args.host.now.resolved (all_resolved c.args.extensions.now) in
    let signatures = signatures_of c.args.host.now.resolved (all_resolved c.args.extensions.now) in
    let session = c.args.session.now in
    record {
      within = omega arith;
      language = refl;
      come = come_first names signatures session.language session.text c.args.edits.now c.add_line.new.lines
          (c.in_ok-add_line.ensures [] c.requires);
    }

pub returns-in_err-do_edit-clause-halted : goal.returns-in_err-do_edit-clause-halted
returns-in_err-do_edit-clause-halted c =
    let names = terminals_of c.args.host.now.resolved (all_resolved c.args.extensions.now) in
    let signatures = signatures_of c.args.host.now.resolved (all_resolved c.args.extensions.now) in
    let session = c.args.session.now in
    let edits = c.args.edits.now in
    let within : c.places.place < length edits = grind (arith, common_steps) in
    handed_on (HaltsAt session.text edits) (HaltsAt session.text edits) c.from_residual-in_err-do_edit.result c.in_err-do_edit.field-0.0
    c.from_residual-in_err-do_edit.ensures.1 (λ halt halts. halts)
    (c.in_err-do_edit.ensures.halted session.text edits
    (come_before names signatures session.language session.text edits c.places.place c.index-edits-place.result c.places.session.text
    c.places.lines c.places.invariant.come
    (read_at edits edits c.places.place c.index-edits-place.result refl within c.index-edits-place.is)))

pub places-preserved : goal.places-preserved
places-preserved c =
    let names = terminals_of c.args.host.now.resolved (all_resolved c.args.extensions.now) in
    let signatures = signatures_of c.args.host.now.resolved (all_resolved c.args.extensions.now) in
    let session = c.args.session.now in
    let edits = c.args.edits.now in
    let within : c.places.place < length edits = grind (arith, common_steps) in
    let at = read_at edits edits c.places.place c.index-edits-place.result refl within c.index-edits-place.is in
    let come = c.places.invariant.come in
    let now = c.do_edit.new.session in
    let lines = c.add_line-in-places.new.lines in
    let language : now.language ≡ session.language = c.do_edit.ensures.language ∙ c.places.invariant.language in
    let one : HasOneMore names signatures session.language now.text come.lines lines =
    subst (λ (l : LanguageView). HasOneMore names signatures l now.text come.lines lines) language
    (c.in_ok-add_line-2.ensures come.lines come.gathered) in
    record {
      within = grind (arith, common_steps);
      language = language;
      come = come_more names signatures session.language session.text edits c.places.place c.index-edits-place.result
          c.places.session.text now.text c.places.lines lines come at c.in_ok-do_edit.ensures.done one;
    }

pub returns-clause-done : goal.returns-clause-done
returns-clause-done c =
    let names = terminals_of c.args.host.now.resolved (all_resolved c.args.extensions.now) in
    let signatures = signatures_of c.args.host.now.resolved (all_resolved c.args.extensions.now) in
    let session = c.args.session.now in
    let edits = c.args.edits.now in
    let within = c.places.invariant.within in
    let same : c.places.place ≡ length edits = grind (arith, common_steps) in
    subst (λ z. HasCome names signatures session.language session.text edits z c.places.session.text c.places.lines) same
    c.places.invariant.come
