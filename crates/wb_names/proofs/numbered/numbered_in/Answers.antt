use Rattle.std.proofs.Common.{◌∙◌, ap, map, refl, subst, sym}
use Rattle.std.proofs.lemmas.Result.{IfOk-weaker}
use Rattle.wb_syntax_resolved.specs.Numbered.{signature_of}
use Rattle.wb_names_numbers_theory.specs.Resolves.{Resolves}
use Rattle.wb_names_numbers_theory.proofs.AllResolved.{gives_resolved}
use Rattle.wb_names_symbols.specs.Lent.{lent_file}
use Rattle.wb_names.specs.Inner.Joined.{rows_with}
use Rattle.wb_names.specs.Inner.Made.{value_with}
use Rattle.wb_names.proofs.GrammarReady.{grammar_ready}
use Rattle.wb_names.proofs.MadeRows.{rows_are, value_is, with_made}
use Rattle.wb_names.proofs.numbered.numbered_in.Goals as goal

pub add_rows-requires-clause-numbers : goal.add_rows-requires-clause-numbers
add_rows-requires-clause-numbers c = c.in_ok-counts.ensures.numbers

pub grammar_for-requires : goal.grammar_for-requires
grammar_for-requires c =
    let file = lent_file c.args.file.now in
    let g = c.fill.new.symbols in
    let written = c.add_rows.new.written in
    grammar_ready file c.requires.ready.right.is_file c.requires.ready.right.hold (rows_with g c.in_ok-counts.counts written)
    (rows_are file g c.in_ok-counts.counts written c.in_ok-counts.ensures c.in_ok-add_rows.ensures) written.rest.start refl

pub value-requires : goal.value-requires
value-requires c =
    let file = lent_file c.args.file.now in
    let g = c.fill.new.symbols in
    let w = c.add_rows.new.written in
    let right = c.requires.ready.right in
    let same = c.in_ok-written-2.ensures ∙ ap (map (signature_of file.extensions)) c.deref.ensures.value in
    gives_resolved file (value_with file g (with_made w c.in_ok-written.field-0 c.in_ok-written-2.field-0)) right.is_file right.format
    right.hold
    (value_is file right g c.in_ok-counts.counts w c.in_ok-counts.ensures c.in_ok-add_rows.ensures c.in_ok-written.ensures same)

pub returns : goal.returns
returns c =
    let file = lent_file c.args.file.now in
    let g = c.fill.new.symbols in
    let w = c.add_rows.new.written in
    let same = c.in_ok-written-2.ensures ∙ ap (map (signature_of file.extensions)) c.deref.ensures.value in
    let is = value_is file c.requires.ready.right g c.in_ok-counts.counts w c.in_ok-counts.ensures c.in_ok-add_rows.ensures
    c.in_ok-written.ensures same in
    IfOk-weaker c.value.result _ (Resolves file) (λ r equal. subst (Resolves file) (sym equal) is) c.value.ensures
