use Rattle.std.proofs.Common.{◌≡◌, Some, length, get_or, ap, subst, sym, ◌∙◌, arith}
use Rattle.std.specs.Prelude.{slice_get}
use Rattle.std.proofs.lemmas.Option.{slice_get-get_or}
use Rattle.std.proofs.lemmas.List.Elements.{Contains-get_or}
use Rattle.wb_grammar_theory.specs.declared.item.Item.{Item}
use Rattle.wb_digraph.proofs.FirstLemmas.{row_done, row_push, row_start}
use Rattle.wb_digraph.proofs.firsts.add_firsts.Goals as goal

-- what items are read with beyond their end
abbrev no_item : Item
no_item = record { production = 0; dot = 0 }

pub items-init : goal.items-init
items-init c =
    row_start c.requires.context.are_kernels c.args.context.now.productions.now c.args.context.now.bases.now c.args.reads.now c.args.end
    c.requires.context.are_bases c.args.state c.args.firsts.now.items c.requires.before

pub first_of-requires-clause-has : goal.first_of-requires-clause-has
first_of-requires-clause-has c =
    (c.closure-items.ensures.exact _).0 (Contains-get_or c.closure-items.result.now c.items.item-index _ c.items-test.true)

pub items-preserved : goal.items-preserved
items-preserved c =
    row_push c.requires.context.are_kernels c.args.context.now.productions.now c.args.context.now.bases.now c.args.reads.now c.args.end
    c.requires.context.are_bases c.args.state c.items.item-index c.first_of.result
    (get_or c.closure-items.result.now c.items.item-index no_item) c.items.firsts.items c.push.new.list.items
    c.requires.state
    (subst (λ z. slice_get z c.items.item-index ≡ Some (get_or c.closure-items.result.now c.items.item-index no_item))
    c.closure-items.ensures.is (slice_get-get_or c.closure-items.result.now c.items.item-index no_item c.items-test.true)) c.in_ok-push.ensures.ok c.first_of.ensures
    c.items.invariant

pub returns : goal.returns
returns c =
    row_done c.requires.context.are_kernels c.args.context.now.productions.now c.args.context.now.bases.now c.args.reads.now c.args.end
    c.requires.context.are_bases c.args.state c.items.item-index c.items.firsts.items c.requires.state
    (let e = ap length c.closure-items.ensures.is in
    let past = c.items-test.false in let le = c.items.auto.item-index-end in omega (arith, e, past, le)) c.items.invariant
