-- The tree that is there is that of the text.
use Rattle.std.proofs.Common.{subst, sym}
use Rattle.wb_session.specs.Parses.{IsParsed}
use Rattle.wb_explain_trees.proofs.label.root_of.Goals as goal

pub returns-in-Tree : goal.returns-in-Tree
returns-in-Tree c =
    let l = c.args.shown.now.session.now.language in
    let text = c.args.shown.now.session.now.text in
    let store = c.args.shown.now.session.now.store in
    record {
      tree = subst (IsParsed l text store) c.in-Tree.is
          (subst (IsParsed l text store) (sym c.answer.ensures.answer) c.answer.ensures.parsed);
      placed = c.place_of-first.ensures.placed;
    }
