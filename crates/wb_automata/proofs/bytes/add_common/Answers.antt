use Rattle.std.proofs.Common.{ℕ, ◌/◌, ◌%◌, subst, arith, get_or, length}
use Rattle.std.proofs.lemmas.List.{get_or_default}
use Rattle.std.proofs.lemmas.List.Elements.{Contains-get_or}
use Rattle.wb_automata_positions.specs.declared.places.Place.TheVariants as p
use Rattle.wb_automata_positions.specs.Places.{ReadsTo}
use Rattle.wb_automata.proofs.ByteLemmas.{common_all, common_more}
use Rattle.wb_automata.proofs.PairLemmas.{right_below}
use Rattle.wb_automata.proofs.bytes.add_common.Goals as goal

pub nonzero_div-pair : goal.nonzero_div-pair
nonzero_div-pair c = (let lt = c.requires (get_or c.args.pairs.now c.loop-pair.pair-index 0)
    (Contains-get_or c.args.pairs.now c.loop-pair.pair-index 0 c.loop-pair-test.true) in omega arith)

pub nonzero_rem-pair : goal.nonzero_rem-pair
nonzero_rem-pair c = (let lt = c.requires (get_or c.args.pairs.now c.loop-pair.pair-index 0)
    (Contains-get_or c.args.pairs.now c.loop-pair.pair-index 0 c.loop-pair-test.true) in omega arith)

pub loop-pair-preserved : goal.loop-pair-preserved
loop-pair-preserved c =
    let places = c.args.places.now in
    let pair : ℕ = get_or c.args.pairs.now c.loop-pair.pair-index 0 in
    let lt = c.requires pair (Contains-get_or c.args.pairs.now c.loop-pair.pair-index 0 c.loop-pair-test.true) in
    common_more places c.args.pairs.now c.loop-pair.words c.add_both.new.words c.loop-pair.pair-index c.loop-pair-test.true
    c.add_both.ensures.kept
    (λ b q r f g. c.add_both.ensures.both b q r
    (subst (λ z. ReadsTo z b q) (get_or_default places (pair / length places) (p.End 0) _ lt) f)
    (subst (λ z. ReadsTo z b r) (get_or_default places (pair % length places) (p.End 0) _ (right_below places pair lt)) g))
    c.loop-pair.invariant

pub returns : goal.returns
returns c = common_all c.args.places.now c.args.pairs.now c.loop-pair.words c.loop-pair.pair-index (omega arith) c.loop-pair.invariant
