use Rattle.std.proofs.Common.{◌≡◌, ◌<◌, ◌+◌, ◌-◌, ◌^◌, ◌∙◌, ℕ, Bool, Some, ap, arith, length, rules, slice_get, slice_index_or, subst, sym}
use Rattle.std.specs.Prelude.{◌↔◌, IsTrue}
use Rattle.std.proofs.lemmas.Option.{slice_get_within}
use Rattle.std.proofs.lemmas.Result.{IfOk-weaker}
use Rattle.wb_lemmas.proofs.Places.{at_default}
use Rattle.wb_compose_language.specs.Inner.FormsMade.{IsWithdrawnIn}
use Rattle.wb_compose_language.specs.Inner.Layouts.{hosts_in}
use Rattle.wb_compose_language.specs.Inner.Sharing.{SharesWithOther}
use Rattle.wb_compose_language.proofs.KnownLemmas.{at_base, place_at}
use Rattle.wb_compose_language.proofs.OpenedLemmas.{kind_is, own_listed, row_within, within, withdrawn_terminal}
use Rattle.wb_compose_language.proofs.withdrawn.is_withdrawn.Goals as goal

pub row_of-requires : goal.row_of-requires
row_of-requires c =
    row_within c.args.opened.now.lent c.requires.opened.unitable c.args.terminal c.requires.terminal.is_own c.index-opened-terminal.result

pub overflow_add-asked : goal.overflow_add-asked
overflow_add-asked c =
    let lent = c.args.opened.now.lent in
    let ok = c.requires.opened.unitable in
    let own = c.requires.terminal.is_own in
    let k = c.args.terminal.extension in
    let t = c.args.terminal.number in
    let x = slice_index_or lent.extensions.now k c.index-opened-terminal.result in
    let at = own_listed lent ok c.args.terminal own c.index-opened-terminal.result in
    let owns = c.args.opened.now.known.now.owns.now in
    let are = c.requires.opened.opened_are.bases in
    let base = c.index-base.result.now in
    let base_at : slice_get owns.bases.items k ≡ Some base = at_base owns.bases.items k base
    (omega (arith, are.len, slice_get_within lent.extensions.now k own.x own.listed)) c.index-base.ensures in
    let there = place_at lent.grammar.now.terminals x.grammar.now.terminals t base x owns.patterns.items c.row_of.result.now
    (are.each k x base at base_at).terminals own.own (within lent ok c.args.terminal own x c.row_of.result.now at c.row_of.ensures) c.row_of.ensures in
    let small = owns.patterns.small in
    let fits : base + (t - c.terminals.result) < 2 ^ 64 = omega
    (arith, c.terminals.ensures, slice_get_within owns.patterns.items (base + (t - lent.grammar.now.terminals)) c.row_of.result.now.pattern there) in
    search rules

pub shares_with_other-requires-clause-asked : goal.shares_with_other-requires-clause-asked
shares_with_other-requires-clause-asked c =
    let lent = c.args.opened.now.lent in
    let ok = c.requires.opened.unitable in
    let own = c.requires.terminal.is_own in
    let k = c.args.terminal.extension in
    let t = c.args.terminal.number in
    let x = slice_index_or lent.extensions.now k c.index-opened-terminal.result in
    let at = own_listed lent ok c.args.terminal own c.index-opened-terminal.result in
    let owns = c.args.opened.now.known.now.owns.now in
    let are = c.requires.opened.opened_are.bases in
    let base = c.index-base.result.now in
    let base_at : slice_get owns.bases.items k ≡ Some base = at_base owns.bases.items k base
    (omega (arith, are.len, slice_get_within lent.extensions.now k own.x own.listed)) c.index-base.ensures in
    let there = place_at lent.grammar.now.terminals x.grammar.now.terminals t base x owns.patterns.items c.row_of.result.now
    (are.each k x base at base_at).terminals own.own (within lent ok c.args.terminal own x c.row_of.result.now at c.row_of.ensures) c.row_of.ensures in
    record {
      known = c.requires.opened.opened_are.known;
      at = subst (λ z. slice_get owns.patterns.items (base + (t - z)) ≡ Some c.row_of.result.now.pattern) (sym c.terminals.ensures) there;
    }

pub returns : goal.returns
returns c =
    let lent = c.args.opened.now.lent in
    let ok = c.requires.opened.unitable in
    let own = c.requires.terminal.is_own in
    let k = c.args.terminal.extension in
    let x = slice_index_or lent.extensions.now k c.index-opened-terminal.result in
    let row = c.row_of.result.now in
    let at = own_listed lent ok c.args.terminal own c.index-opened-terminal.result in
    let row_at = c.row_of.ensures in
    let same = withdrawn_terminal lent ok c.args.terminal own x row at row_at
    (kind_is lent ok c.args.terminal own x row at row_at c.requires.terminal.marking) in
    let f : (w : Bool) → (IsTrue w ↔ SharesWithOther lent.grammar.now.terminals (hosts_in lent) lent.extensions.now k row.pattern) →
    (IsTrue w ↔ IsWithdrawnIn lent (c.args.terminal.number + c.args.terminal.before)) =
    λ w is. (λ e. same.0 (is.0 e), λ out. is.1 (same.1 out)) in
    IfOk-weaker c.shares_with_other.result _ _ f c.shares_with_other.ensures
