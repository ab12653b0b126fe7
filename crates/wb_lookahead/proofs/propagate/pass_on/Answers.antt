use Rattle.std.proofs.Common.{◌≡◌, ℕ, ◌<◌, length, sym, ap, subst, arith}
use Rattle.std.proofs.lemmas.Result.{on_ok_weaker}
use Rattle.wb_base.specs.Grammar.{GrammarView}
use Rattle.wb_grammar_theory.specs.Productions.{IsProduction}
use Rattle.wb_grammar_theory.specs.Items.{initial_item, HasItem}
use Rattle.wb_items.specs.Kernels.{prefix_of}
use Rattle.wb_items.specs.Apart.{Opens}
use Rattle.wb_items.specs.Lookaheads.{IsSetOf}
use Rattle.wb_lookahead.specs.Inner.Spreading.{FlowsTo}
use Rattle.wb_lookahead.proofs.PassLemmas.{alone_passed, initial_passed, place_in_row}
use Rattle.wb_lookahead.proofs.PlaceLemmas.{held, held_len, listed_held, place_has}
use Rattle.wb_lookahead.proofs.PropagateLemmas.{left_is}
use Rattle.wb_lookahead.proofs.OpenedLemmas.{initial_all, initial_flows_all, initial_is, moved_alone, past_alone}
use Rattle.wb_lookahead.proofs.propagate.pass_on.Goals as goal
use Rattle.wb_lookahead.proofs.propagate.pass_on.Goals.{then-place-gt0-via-then-place-gt0}
use Rattle.wb_lookahead.proofs.propagate.pass_on.Goals.{then-place-gt0-via-else-place-gt0+then-place-productions}

pub at-requires-clause-place : goal.at-requires-clause-place
at-requires-clause-place c =
    place_in_row c.requires.context.are_kernels c.args.lookaheads.now c.requires.sound.shape c.args.place.state c.requires.place.state
    c.args.place.item c.args.place.at c.requires.place.here

pub pass_item-requires-clause-has : goal.pass_item-requires-clause-has
pass_item-requires-clause-has c = place_has c.requires.context.are_kernels c.args.place c.requires.place

pub pass_item-requires-clause-len : goal.pass_item-requires-clause-len
pass_item-requires-clause-len c =
    let K = c.args.context.now.kernels.now in
    let h = c.requires.context.are_kernels in
    let place = c.args.place in
    let set_is : IsSetOf c.args.lookaheads.now place.state place.item c.in_ok-set.set =
    held h c.args.lookaheads.now c.requires.sound.shape place c.requires.place c.at.result.now c.in_ok-set.set c.at.ensures
    c.in_ok-set.ensures in
    held_len h c.args.lookaheads.now c.requires.sound.shape place.state c.requires.place.state place.item c.in_ok-set.set set_is

pub pass_item-requires-clause-flows : goal.pass_item-requires-clause-flows
pass_item-requires-clause-flows c =
    let K = c.args.context.now.kernels.now in
    let h = c.requires.context.are_kernels in
    let place = c.args.place in
    let set_is : IsSetOf c.args.lookaheads.now place.state place.item c.in_ok-set.set =
    held h c.args.lookaheads.now c.requires.sound.shape place c.requires.place c.at.result.now c.in_ok-set.set c.at.ensures
    c.in_ok-set.ensures in
    λ t has. c.requires.sound.sound place.state place.item t (c.in_ok-set.set, set_is, has)

pub returns-then-place-gt0-clause-passed : goal.returns-then-place-gt0-clause-passed
returns-then-place-gt0-clause-passed c =
    let K = c.args.context.now.kernels.now in
    let h = c.requires.context.are_kernels in
    let place = c.args.place in
    let set_is : IsSetOf c.args.lookaheads.now place.state place.item c.in_ok-set.set =
    held h c.args.lookaheads.now c.requires.sound.shape place c.requires.place c.at.result.now c.in_ok-set.set c.at.ensures
    c.in_ok-set.ensures in
    let none : (b : ℕ) → ¬ Opens K.grammar b place.item = elim c.then-place-gt0.branch [
      | then-place-gt0-via-then-place-gt0 w ↦ moved_alone K.grammar place.item w.if-place-gt0.true
      | then-place-gt0-via-else-place-gt0+then-place-productions w ↦
          past_alone K.grammar place.item
          (let e = w.productions.ensures.count in let f = w.if-place-productions.true in let g =
          ap (λ (z : GrammarView). length z.productions) c.requires.context.of_grammar in omega (arith, e, f, g))
    ] in
    on_ok_weaker c.pass_item.result
    (λ passed t lists. alone_passed none
    (passed t (listed_held h c.args.lookaheads.now c.requires.sound.shape place.state c.requires.place.state place.item c.in_ok-set.set
    set_is t lists)))
    c.pass_item.ensures.passed

pub pass_all-requires-clause-has : goal.pass_all-requires-clause-has
pass_all-requires-clause-has c =
    let K = c.args.context.now.kernels.now in
    let h = c.requires.context.are_kernels in
    let place = c.args.place in
    let same = c.requires.context.of_grammar in
    let lt : place.item.production < length c.args.context.now.grammar.now.productions = (let e = c.productions.ensures.count in let f =
    c.if-place-productions.false in omega (arith, e, f)) in
    let (w, rule_g) = left_is c.args.context.now.grammar.now place.item.production c.left-left.result lt c.left-left.ensures.left in
    let rule : IsProduction K.grammar place.item.production c.left-left.result w = subst
    (λ z. IsProduction z place.item.production c.left-left.result w) (sym same) rule_g in
    let is : place.item ≡ initial_item place.item.production = initial_is place.item c.if-place-gt0.false in
    let has : HasItem K.grammar (prefix_of K place.state) (initial_item place.item.production) = subst
    (HasItem K.grammar (prefix_of K place.state)) is (place_has h place c.requires.place) in
    λ q right other. initial_all h place.state c.requires.place.state c.left-left.result place.item.production q w right rule other has

pub pass_all-requires-clause-len : goal.pass_all-requires-clause-len
pass_all-requires-clause-len c =
    let K = c.args.context.now.kernels.now in
    let h = c.requires.context.are_kernels in
    let place = c.args.place in
    let set_is : IsSetOf c.args.lookaheads.now place.state place.item c.in_ok-set.set =
    held h c.args.lookaheads.now c.requires.sound.shape place c.requires.place c.at.result.now c.in_ok-set.set c.at.ensures
    c.in_ok-set.ensures in
    held_len h c.args.lookaheads.now c.requires.sound.shape place.state c.requires.place.state place.item c.in_ok-set.set set_is

pub pass_all-requires-clause-flows : goal.pass_all-requires-clause-flows
pass_all-requires-clause-flows c =
    let K = c.args.context.now.kernels.now in
    let h = c.requires.context.are_kernels in
    let place = c.args.place in
    let set_is : IsSetOf c.args.lookaheads.now place.state place.item c.in_ok-set.set =
    held h c.args.lookaheads.now c.requires.sound.shape place c.requires.place c.at.result.now c.in_ok-set.set c.at.ensures
    c.in_ok-set.ensures in
    let same = c.requires.context.of_grammar in
    let lt : place.item.production < length c.args.context.now.grammar.now.productions = (let e = c.productions.ensures.count in let f =
    c.if-place-productions.false in omega (arith, e, f)) in
    let (w, rule_g) = left_is c.args.context.now.grammar.now place.item.production c.left-left.result lt c.left-left.ensures.left in
    let rule : IsProduction K.grammar place.item.production c.left-left.result w = subst
    (λ z. IsProduction z place.item.production c.left-left.result w) (sym same) rule_g in
    let is : place.item ≡ initial_item place.item.production = initial_is place.item c.if-place-gt0.false in
    λ q t right other has. initial_flows_all K c.left-left.result place.item.production q w right rule other
    (subst (λ z. FlowsTo K place.state z t) is (c.requires.sound.sound place.state place.item t (c.in_ok-set.set, set_is, has)))

pub returns-clause-passed : goal.returns-clause-passed
returns-clause-passed c =
    let K = c.args.context.now.kernels.now in
    let h = c.requires.context.are_kernels in
    let place = c.args.place in
    let set_is : IsSetOf c.args.lookaheads.now place.state place.item c.in_ok-set.set =
    held h c.args.lookaheads.now c.requires.sound.shape place c.requires.place c.at.result.now c.in_ok-set.set c.at.ensures
    c.in_ok-set.ensures in
    let same = c.requires.context.of_grammar in
    let lt : place.item.production < length c.args.context.now.grammar.now.productions = (let e = c.productions.ensures.count in let f =
    c.if-place-productions.false in omega (arith, e, f)) in
    let (w, rule_g) = left_is c.args.context.now.grammar.now place.item.production c.left-left.result lt c.left-left.ensures.left in
    let rule : IsProduction K.grammar place.item.production c.left-left.result w = subst
    (λ z. IsProduction z place.item.production c.left-left.result w) (sym same) rule_g in
    let is : place.item ≡ initial_item place.item.production = initial_is place.item c.if-place-gt0.false in
    on_ok_weaker c.pass_all.result
    (λ passed t lists. initial_passed c.left-left.result place.item.production w rule is
    (λ q right other. passed q t right other
    (listed_held h c.args.lookaheads.now c.requires.sound.shape place.state c.requires.place.state place.item c.in_ok-set.set set_is t
    lists)))
    c.pass_all.ensures.passed
