use Rattle.std.proofs.Common.{◌/◌, ◌%◌, ◌∙◌, sym, length}
use Rattle.std.proofs.lemmas.List.{get_or_default}
use Rattle.wb_automata_positions.specs.declared.places.Place.TheVariants as p
use Rattle.wb_automata.proofs.PairLemmas.{right_below}
use Rattle.wb_automata.proofs.walk.ends_of.Goals as goal

pub returns : goal.returns
returns c i j =
    let places = c.args.places.now in
    let left = get_or_default places (c.args.pair / length places) (p.End 0) _ c.requires in
    let right = get_or_default places (c.args.pair % length places) (p.End 0) _ (right_below places c.args.pair c.requires) in (
      λ e. (c.both.ensures i j).0 ((c.end_of.ensures i).0 (sym left ∙ e.left), (c.end_of-2.ensures j).0 (sym right ∙ e.right)),
      λ e. let (f, g) = (c.both.ensures i j).1 e in record {
        left = left ∙ (c.end_of.ensures i).1 f;
        right = right ∙ (c.end_of-2.ensures j).1 g;
      },
    )
