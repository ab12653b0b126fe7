-- One line after the other.
use Rattle.std.proofs.Common.{◌≡◌, rules, subst, sym}
use Rattle.wb_explain_drawing.proofs.PushedLemmas.{no_parts, none_told, one_part, some_told}
use Rattle.wb_explain_drawing.specs.Reached.{IsReached}
use Rattle.wb_explain_trees.specs.Inner.Sessions.{HasLine, view_of}
use Rattle.wb_explain_trees.specs.Lines.{HasLines, IsLine}
use Rattle.wb_explain_trees.proofs.LineLemmas.{some_lines}
use Rattle.wb_explain_trees.proofs.lines.push_lines.Goals as goal

pub items-init : goal.items-init
items-init c = record {
  reached = subst (λ text. IsReached text c.begin-cursor.result) c.text.ensures.text c.begin-cursor.ensures;
  lines = no_parts (IsLine (view_of c.args.shown.now.session.now c.args.shown.now.signatures.now c.args.shown.now.names.now))
      c.args.listing.now.items.items c.args.out.now.items;
}

pub items-preserved : goal.items-preserved
items-preserved c =
    let view = view_of c.args.shown.now.session.now c.args.shown.now.signatures.now c.args.shown.now.names.now in
    record {
      reached = some_told _ c.in-Some.next (IsReached c.args.shown.now.session.now.text) c.in-Some.is c.in_ok-next.ensures.reached;
      lines = one_part (IsLine view) c.args.listing.now.items.items c.args.out.now.items c.items.out.items c.push_item.new.out.items
          c.items.place c.index.result.now c.items.invariant.lines (search rules) (search rules)
          (some_told _ c.in-Some.next (λ next. HasLine view c.index.result.now c.items.out.items c.push_item.new.out.items) c.in-Some.is
          c.in_ok-next.ensures.line);
    }

pub returns : goal.returns
returns c =
    some_lines (view_of c.args.shown.now.session.now c.args.shown.now.signatures.now c.args.shown.now.names.now)
    c.args.listing.now.items.items c.args.out.now.items c.items.out.items c.items.place c.items.invariant.lines

pub returns-in-None : goal.returns-in-None
returns-in-None c =
    let view = view_of c.args.shown.now.session.now c.args.shown.now.signatures.now c.args.shown.now.names.now in
    subst (λ new. HasLines view c.args.listing.now.items.items c.args.out.now.items new)
    (sym (none_told _ (c.push_item.new.out.items ≡ c.items.out.items) c.in-None.is c.in_ok-next.ensures.none))
    (some_lines view c.args.listing.now.items.items c.args.out.now.items c.items.out.items c.items.place c.items.invariant.lines)
