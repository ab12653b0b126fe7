-- The name, and where it begins.
use Rattle.std.proofs.Common.{◌≤◌, arith, length, subst, sym}
use Rattle.wb_explain_drawing.specs.Reached.{IsReached}
use Rattle.wb_explain_trees.specs.Inner.Sessions.{view_of}
use Rattle.wb_explain_trees.proofs.LabelLemmas.{is_label}
use Rattle.wb_explain_trees.proofs.label.label_of.Goals as goal

pub moved-begin-requires-clause-reached : goal.moved-begin-requires-clause-reached
moved-begin-requires-clause-reached c = subst (λ text. IsReached text c.args.cursor) (sym c.text.ensures.text) c.requires

pub moved-begin-requires-clause-within : goal.moved-begin-requires-clause-within
moved-begin-requires-clause-within c =
    subst (λ text. c.in-Some-begin_of.to ≤ length text) (sym c.text.ensures.text) c.in-Some-begin_of.ensures.within

pub returns : goal.returns
returns c =
    let low : c.args.cursor.at ≤ c.in-Some-begin_of.to = omega (arith, c.if-cursor-to.false) in
    is_label (view_of c.args.shown.now.session.now c.args.shown.now.signatures.now c.args.shown.now.names.now) c.args.item c.in-Some.name.now
    c.args.cursor c.moved-begin.result c.in-Some-begin_of.to c.in-Some.ensures c.in-Some-begin_of.ensures.is low c.moved-begin.ensures.at
    (subst (λ text. IsReached text c.moved-begin.result) c.text.ensures.text c.moved-begin.ensures.reached)
