use Rattle.std.proofs.Common.{◌≡◌, arith, length, rules, sym, ◌∙◌}
use Rattle.std.proofs.lemmas.Grind.{same_number_lists}
use Rattle.wb_automata_positions.proofs.classes.are_same.Goals as goal

pub returns : goal.returns
returns c _ =
    let four : length c.args.words.now ≡ 4 = search rules in
    let four' : length c.args.others.now ≡ 4 = search rules in
    same_number_lists c.args.words.now c.args.others.now (four ∙ sym four') (λ j lt. c.loop-k.invariant j (omega arith))
