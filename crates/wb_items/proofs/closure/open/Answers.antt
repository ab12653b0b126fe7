use Rattle.std.proofs.Common.{◌≡◌, ◌∷◌, Some, length, refl, ap, sym, ◌∙◌, subst, arith}
use Rattle.std.specs.Prelude.{slice_get}
use Rattle.std.proofs.lemmas.Option.{slice_get_read}
use Rattle.std.proofs.lemmas.Bool.{true≢false}
use Rattle.wb_grammar_theory.specs.declared.item.Item.{Item}
use Rattle.wb_base.specs.declared.symbol.Symbol.TheVariants.{Nonterminal}
use Rattle.wb_grammar_theory.specs.Items.{after_dot}
use Rattle.wb_items.proofs.ClosingLemmas.{closing_pass, closing_more, closing_known}
use Rattle.wb_items.proofs.closure.open.Goals as goal

pub insert-requires : goal.insert-requires
insert-requires c = let below = c.in-Some.ensures.below in omega (arith, c.requires.before.len, below)

pub returns-in_ok-add_initial_items : goal.returns-in_ok-add_initial_items
returns-in_ok-add_initial_items c =
    let g = c.args.grammar.now in
    let (rest, is) = c.in-Some.ensures.nonterminal in
    let below = c.in-Some.ensures.below in
    rw (c.in_ok-add_initial_items.ensures, c.insert.ensures.after)
    (closing_more g c.args.kernel.now c.args.opened.now c.args.closure.now.items c.args.place c.item_at-item.result c.in-Some.nonterminal
    rest c.as_slice.result.now
    (subst (λ xs. slice_get xs c.args.place ≡ Some c.item_at-item.result) c.deref.ensures.value c.item_at-item.ensures) is
    (omega (arith, c.requires.before.len, below))
    (c.requires.rules.each c.in-Some.nonterminal c.as_slice.result.now
    (slice_get_read c.args.rules.now (length c.args.rules.now) c.in-Some.nonterminal c.index-rules-nonterminal.result refl
    (omega (arith, c.requires.rules.len, below)) c.index-rules-nonterminal.is ∙
    ap Some (sym c.as_slice.ensures))) c.requires.before)

pub returns-else-insert : goal.returns-else-insert
returns-else-insert c =
    let (rest, is) = c.in-Some.ensures.nonterminal in
    rw (c.insert.ensures.stayed c.if-insert.false)
    (closing_known c.args.grammar.now c.args.kernel.now c.args.opened.now c.args.closure.now.items c.args.place c.item_at-item.result
    c.in-Some.nonterminal rest
    (subst (λ xs. slice_get xs c.args.place ≡ Some c.item_at-item.result) c.deref.ensures.value c.item_at-item.ensures) is
    (λ without. true≢false (sym (c.insert.ensures.new.1 without) ∙ c.if-insert.false)) c.requires.before)

pub returns-in_default : goal.returns-in_default
returns-in_default c =
    closing_pass c.args.grammar.now c.args.kernel.now c.args.opened.now c.args.closure.now.items c.args.place
    (λ item b rest at is. absurd
    (c.in_default.ensures.nonterminal b rest
    (subst (λ z. after_dot c.args.grammar.now z ≡ Nonterminal b ∷ rest) (lemma c item at) is))) c.requires.before
  where
    lemma : (c : goal.In_default) (item : Item) → slice_get c.args.closure.now.items c.args.place ≡ Some item → item ≡ c.item_at-item.result
    lemma c item at = let e : Some item ≡ Some c.item_at-item.result = sym at ∙
        subst (λ xs. slice_get xs c.args.place ≡ Some c.item_at-item.result) c.deref.ensures.value c.item_at-item.ensures in cc
