-- One element after the other.
use Rattle.std.proofs.Common.{◌≡◌, rules, subst, sym}
use Rattle.wb_explain_drawing.proofs.PushedLemmas.{no_parts, none_told, one_part, some_told}
use Rattle.wb_explain_drawing.specs.Reached.{IsReached}
use Rattle.wb_explain_trees.specs.Inner.Sessions.{HasElement, view_of}
use Rattle.wb_explain_trees.specs.Pictures.{HasElements, IsElement}
use Rattle.wb_explain_trees.proofs.PictureLemmas.{some_elements}
use Rattle.wb_explain_trees.proofs.picture.push_elements.Goals as goal

pub items-init : goal.items-init
items-init c = record {
  reached = subst (λ text. IsReached text c.begin-cursor.result) c.text.ensures.text c.begin-cursor.ensures;
  elements = no_parts (IsElement (view_of c.args.shown.now.session.now c.args.shown.now.signatures.now c.args.shown.now.names.now))
      c.args.listing.now.items.items c.args.out.now.items;
}

pub items-preserved : goal.items-preserved
items-preserved c =
    let view = view_of c.args.shown.now.session.now c.args.shown.now.signatures.now c.args.shown.now.names.now in
    record {
      reached = some_told _ c.in-Some.next (IsReached c.args.shown.now.session.now.text) c.in-Some.is c.in_ok-next.ensures.reached;
      elements = one_part (IsElement view) c.args.listing.now.items.items c.args.out.now.items c.items.out.items c.push_element.new.out.items
          c.items.place c.index.result.now c.items.invariant.elements (search rules) (search rules)
          (some_told _ c.in-Some.next (λ next. HasElement view c.index.result.now c.items.out.items c.push_element.new.out.items) c.in-Some.is
          c.in_ok-next.ensures.element);
    }

pub returns : goal.returns
returns c =
    some_elements (view_of c.args.shown.now.session.now c.args.shown.now.signatures.now c.args.shown.now.names.now)
    c.args.listing.now.items.items c.args.out.now.items c.items.out.items c.items.place c.items.invariant.elements

pub returns-in-None : goal.returns-in-None
returns-in-None c =
    let view = view_of c.args.shown.now.session.now c.args.shown.now.signatures.now c.args.shown.now.names.now in
    subst (λ new. HasElements view c.args.listing.now.items.items c.args.out.now.items new)
    (sym (none_told _ (c.push_element.new.out.items ≡ c.items.out.items) c.in-None.is c.in_ok-next.ensures.none))
    (some_elements view c.args.listing.now.items.items c.args.out.now.items c.items.out.items c.items.place c.items.invariant.elements)
