use Rattle.std.proofs.Common.{subst}
use Rattle.wb_automata.specs.Sharing.{IsSharedText}
use Rattle.wb_marking.specs.Inner.Patterns.{patterns_of}
use Rattle.wb_marking.proofs.ClashLemmas.{none_clash, pairs_below, some_clash}
use Rattle.wb_marking.proofs.clashes.check_by.Goals as goal

pub shared_text-requires : goal.shared_text-requires
shared_text-requires c = record {
  pairs = rw (c.as_slice.ensures.value, c.requires.patterns) (pairs_below c.args.parts.now c.in_ok-pairs.pairs.items c.in_ok-pairs.ensures);
}

pub returns-in-None-clause-ok : goal.returns-in-None-clause-ok
returns-in-None-clause-ok c = none_clash c.args.parts.now c.requires.resolved c.in_ok-pairs.pairs.items c.in_ok-pairs.ensures
    (subst (IsSharedText (patterns_of c.args.parts.now.terminals) c.in_ok-pairs.pairs.items) c.in-None.is
    (rw (c.as_slice.ensures.value, c.requires.patterns) at c.in_ok-shared.ensures))

pub returns-clause-refused : goal.returns-clause-refused
returns-clause-refused c = some_clash c.args.parts.now c.in_ok-pairs.pairs.items c.in-Some.shared c.in_ok-pairs.ensures
    (subst (IsSharedText (patterns_of c.args.parts.now.terminals) c.in_ok-pairs.pairs.items) c.in-Some.is
    (rw (c.as_slice.ensures.value, c.requires.patterns) at c.in_ok-shared.ensures))
