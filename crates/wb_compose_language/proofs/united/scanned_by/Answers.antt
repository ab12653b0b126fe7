use Rattle.std.proofs.Common.{◌≡◌, ◌+◌, arith, length, subst, sym}
use Rattle.wb_compose_language.specs.Inner.Rows.{grammar_of}
use Rattle.wb_compose_language.specs.Inner.Sets.{HaveRoom}
use Rattle.wb_compose_language.proofs.TableLemmas.{tables_are}
use Rattle.wb_compose_language.proofs.UnionLemmas.{forms_count, room}
use Rattle.wb_compose_language.proofs.united.scanned_by.Goals as goal

pub automaton_on-requires-clause-room : goal.automaton_on-requires-clause-room
automaton_on-requires-clause-room c =
    let lent = c.args.lent.now in
    let parts = c.args.parts.now in
    subst (λ forms. HaveRoom forms parts.tables) (sym c.deref.ensures.value)
    (room lent c.requires.unitable parts.tables c.in_ok-made.made.forms.items (tables_are (grammar_of lent) parts c.requires.parts)
    c.in_ok-made.ensures.forms.each)

pub automaton_on-requires-clause-count : goal.automaton_on-requires-clause-count
automaton_on-requires-clause-count c =
    let made = c.in_ok-made.made in
    let count = forms_count c.args.lent.now made.forms.items made.expressions.items c.args.spans.now c.in_ok-made.ensures.expressions
    c.requires.spans in
    let is : c.len-count.result ≡ length made.expressions.items = omega (arith, c.len-count.ensures, made.expressions.ok.0) in
    subst (λ forms. c.len-count.result ≡ length forms + length c.args.spans.now) (sym c.deref.ensures.value)
    (omega (arith, count, is))
