use Rattle.std.proofs.Common.{◌≡◌, ◌+◌, refl, slice_index_or, subst}
use Rattle.std.proofs.lemmas.Result.{on_ok_weaker}
use Rattle.wb_compose_language.specs.declared.union_forms.UnitedForms.{UnitedForms}
use Rattle.wb_compose_language.specs.Inner.FormsMade.{IsChosen, IsPrefixedAdded}
use Rattle.wb_compose_language.proofs.OpenedLemmas.{kind_is, marker_terminal, own_listed, row_within}
use Rattle.wb_compose_language.proofs.extension_forms.add_marker.Goals as goal

pub row_of-requires : goal.row_of-requires
row_of-requires c =
    row_within c.args.opened.now.lent c.requires.opened.unitable c.args.terminal c.requires.terminal.is_own c.index-opened-terminal.result

pub returns : goal.returns
returns c =
    let lent = c.args.opened.now.lent in
    let ok = c.requires.opened.unitable in
    let terminal = c.args.terminal in
    let own = c.requires.terminal.is_own in
    let x = slice_index_or lent.extensions.now terminal.extension c.index-opened-terminal.result in
    let row = c.row_of.result.now in
    let at = own_listed lent ok terminal own c.index-opened-terminal.result in
    let row_at = c.row_of.ensures in
    let mid : UnitedForms = record {
      forms = c.add_prefixed.new.forms;
      expressions = c.add_prefixed.new.expressions;
      withdrawn = c.args.made.now.withdrawn;
    } in
    let same : mid.withdrawn.items ≡ c.args.made.now.withdrawn.items = refl in
    let n = c.in_ok-number.number in
    let n_is : n ≡ terminal.number + terminal.before = c.in_ok-number.ensures in
    on_ok_weaker c.add_unless_withdrawn.result (λ chosen. marker_terminal lent ok terminal own x row at row_at
    (kind_is lent ok terminal own x row at row_at c.requires.terminal.marking) c.in_ok-withdrawn.withdrawn c.args.made.now mid
    c.add_unless_withdrawn.new.made c.in_ok-prefix.prefix c.in_ok-prefix.ensures
    (subst (λ z. IsPrefixedAdded c.args.made.now.forms.items mid.forms.items c.args.made.now.expressions.items mid.expressions.items z
    c.in_ok-prefix.prefix row.pattern) n_is c.in_ok-add_prefixed.ensures) same c.in_ok-withdrawn.ensures
    (subst (λ z. IsChosen c.in_ok-withdrawn.withdrawn mid c.add_unless_withdrawn.new.made z row.pattern) n_is chosen)
    c.requires.made) c.add_unless_withdrawn.ensures
