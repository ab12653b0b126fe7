use Rattle.std.proofs.Common.{◌≡◌, ◌∙◌, ◌+◌, ◌++◌, None, arith, replicate, slice_index_or, subst, sym}
use Rattle.wb_lemmas.proofs.Places.{at_default}
use Rattle.wb_compose_theory_grammar.specs.Unions.{added_productions}
use Rattle.wb_compose_language.specs.Inner.Layouts.{owns_in}
use Rattle.wb_compose_language.proofs.LayoutLemmas.{owns_are}
use Rattle.wb_compose_language.proofs.OpenedLemmas.{extension_rows, host_rows}
use Rattle.wb_compose_language.proofs.SpanLemmas.{first_in, first_next, first_none, more_productions, spans_all, spans_first, spans_more}
use Rattle.wb_compose_language.proofs.layout.spans_of.Goals as goal

pub host_layouts-hosts-requires : goal.host_layouts-hosts-requires
host_layouts-hosts-requires c = host_rows c.args.lent.now c.requires

pub extensions-init : goal.extensions-init
extensions-init c =
    let lent = c.args.lent.now in
    record {
      first = c.productions-own.ensures.count ∙ sym (first_none lent);
      spans = spans_first lent c.requires c.new-spans.result.items c.add_spans.new.spans.items c.new-spans.ensures.items
          (subst (λ n. c.add_spans.new.spans.items ≡ c.new-spans.result.items ++ replicate n None) c.host_layouts-hosts.ensures
          c.in_ok-add_spans.ensures);
    }

pub overflow_sub-added : goal.overflow_sub-added
overflow_sub-added c =
    let xs = c.args.lent.now.extensions.now in
    let k = c.extensions.number in
    let x = slice_index_or xs k c.index-lent-number.result in
    let at = at_default xs k c.index-lent-number.result (omega (arith, c.extensions-test.true)) in
    let le = more_productions c.args.lent.now c.requires k x at in
    omega (arith, le, c.productions-own.ensures.count, c.productions.ensures.count)

pub own_layouts-requires : goal.own_layouts-requires
own_layouts-requires c =
    let xs = c.args.lent.now.extensions.now in
    let k = c.extensions.number in
    let x = slice_index_or xs k c.index-lent-number.result in
    let at = at_default xs k c.index-lent-number.result (omega (arith, c.extensions-test.true)) in
    let rows = (extension_rows c.args.lent.now c.requires k x at).1 in
    omega (arith, rows, c.host_layouts-hosts.ensures)

pub extensions-preserved : goal.extensions-preserved
extensions-preserved c =
    let lent = c.args.lent.now in
    let ok = c.requires in
    let xs = lent.extensions.now in
    let k = c.extensions.number in
    let x = slice_index_or xs k c.index-lent-number.result in
    let at = at_default xs k c.index-lent-number.result (omega (arith, c.extensions-test.true)) in
    let next = first_next lent ok k x at in
    let first = c.extensions.invariant.first in
    let end_is : c.in_ok-end.end ≡ c.extensions.first + added_productions lent.grammar.now x.grammar.now =
    omega (arith, c.in_ok-end.ensures, c.productions-own.ensures.count, c.productions.ensures.count) in
    let own = owns_are lent x in
    let count_is : c.own_layouts.result ≡ owns_in lent x = omega (arith, own, c.own_layouts.ensures, c.host_layouts-hosts.ensures) in
    let there : c.in_ok-end.end ≡ first_in lent (k + 1) = omega (arith, next, first, end_is) in
    record {
      first = there;
      spans = spans_more lent ok k x at c.extensions.spans.items c.add_spans-in-extensions.new.spans.items c.extensions.first c.in_ok-end.end
          c.own_layouts.result first end_is count_is c.extensions.invariant.spans c.in_ok-add_spans-2.ensures;
    }

pub returns : goal.returns
returns c =
    spans_all c.args.lent.now c.extensions.number c.extensions.spans.items
    (omega (arith, c.extensions-test.false, c.extensions.auto.number-end)) c.extensions.invariant.spans
