use Rattle.std.proofs.Common.{◌∙◌, ap, slice_index_or}
use Rattle.std.proofs.lemmas.Result.{on_ok_weaker}
use Rattle.wb_compose_language.specs.Lents.{is_marking}
use Rattle.wb_compose_language.proofs.OpenedLemmas.{own_listed, plain_terminal, row_within, same_row}
use Rattle.wb_compose_language.proofs.extension_forms.add_terminal.Goals as goal

pub row_of-row-requires : goal.row_of-row-requires
row_of-row-requires c =
    row_within c.args.opened.now.lent c.requires.opened.unitable c.args.terminal c.requires.terminal c.index-opened-terminal.result

pub add_marker-requires-clause-terminal : goal.add_marker-requires-clause-terminal
add_marker-requires-clause-terminal c =
    let lent = c.args.opened.now.lent in
    let ok = c.requires.opened.unitable in
    let terminal = c.args.terminal in
    let own = c.requires.terminal in
    let x = slice_index_or lent.extensions.now terminal.extension c.index-opened-terminal.result in
    let row = c.row_of-row.result.now in
    let same = same_row lent ok terminal own x row (own_listed lent ok terminal own c.index-opened-terminal.result)
    c.row_of-row.ensures in
    record { is_own = own; marking = ap (λ z. z.kind) same ∙ c.in-Marking.is }

pub returns-in-Plain : goal.returns-in-Plain
returns-in-Plain c =
    let lent = c.args.opened.now.lent in
    let ok = c.requires.opened.unitable in
    let terminal = c.args.terminal in
    let own = c.requires.terminal in
    let x = slice_index_or lent.extensions.now terminal.extension c.index-opened-terminal.result in
    let row = c.row_of-row.result.now in
    on_ok_weaker c.add_plain.result (λ added. plain_terminal lent ok terminal own x row
    (own_listed lent ok terminal own c.index-opened-terminal.result)
    c.row_of-row.ensures c.args.made.now c.add_plain.new.made
    (ap is_marking c.in-Plain.is) added c.requires.made) c.add_plain.ensures

pub returns-in-Ignore : goal.returns-in-Ignore
returns-in-Ignore c =
    let lent = c.args.opened.now.lent in
    let ok = c.requires.opened.unitable in
    let terminal = c.args.terminal in
    let own = c.requires.terminal in
    let x = slice_index_or lent.extensions.now terminal.extension c.index-opened-terminal.result in
    let row = c.row_of-row.result.now in
    on_ok_weaker c.add_plain-in-Ignore.result (λ added. plain_terminal lent ok terminal own x row
    (own_listed lent ok terminal own c.index-opened-terminal.result)
    c.row_of-row.ensures c.args.made.now
    c.add_plain-in-Ignore.new.made (ap is_marking c.in-Ignore.is) added c.requires.made) c.add_plain-in-Ignore.ensures
