use Rattle.std.proofs.Common.{◌∙◌, length, sym}
use Rattle.std.proofs.lemmas.Bool.{true≢false}
use Rattle.wb_lemmas.proofs.Elements.{all_from_places}
use Rattle.wb_marking.specs.Inner.Compared.{IsPreferenceBelow}
use Rattle.wb_marking.proofs.ClashLemmas.{gathers_none, lists_none, preferences_below, unmarked}
use Rattle.wb_marking.proofs.clashes.add_terminal.Goals as goal

pub returns-then-not-is_marker-clause-gathers : goal.returns-then-not-is_marker-clause-gathers
returns-then-not-is_marker-clause-gathers c = gathers_none c.args.scanned.now.parts.now c.args.pairs.now.items

pub returns-then-not-is_marker-clause-lists : goal.returns-then-not-is_marker-clause-lists
returns-then-not-is_marker-clause-lists c other = lists_none c.args.scanned.now.parts.now c.args.pairs.now.items c.args.number other
    (unmarked c.args.scanned.now.parts.now c.args.number
    (λ is. true≢false (sym (c.is_marker.ensures.1 is) ∙ c.if-not-is_marker.true)) other)

pub ordered_with-requires : goal.ordered_with-requires
ordered_with-requires c =
    let r = c.args.scanned.now.parts.now in
    all_from_places (IsPreferenceBelow (length r.terminals)) r.preferences (preferences_below r c.requires.resolved)

pub add_marker-requires : goal.add_marker-requires
add_marker-requires c = record {
  scanned = c.requires;
  is_marker = c.is_marker.ensures.0 c.if-not-is_marker.false;
  ordered = c.in_ok-ordered.ensures;
}

pub returns-clause-gathers : goal.returns-clause-gathers
returns-clause-gathers c = c.add_marker.ensures.gathers

pub returns-clause-lists : goal.returns-clause-lists
returns-clause-lists c = c.add_marker.ensures.lists
