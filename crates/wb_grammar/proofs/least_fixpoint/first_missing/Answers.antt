use Rattle.std.proofs.Common.{subst, arith}
use Rattle.std.specs.Prelude.{All}
use Rattle.std.proofs.lemmas.List.{take_all}
use Rattle.std.proofs.lemmas.List.Elements.{All-more}
use Rattle.wb_grammar.specs.Inner.LeastSets.{Holds}
use Rattle.wb_grammar.proofs.least_fixpoint.first_missing.Goals as goal

pub places-preserved : goal.places-preserved
places-preserved c =
    All-more (Holds c.args.terminals c.args.set.now) c.args.symbols.now c.places.place _ (omega arith) c.places.invariant
    (c.holds.ensures.0 c.if-not-holds.false)

pub returns : goal.returns
returns c = subst (All (Holds c.args.terminals c.args.set.now))
    (take_all c.places.place c.args.symbols.now (omega arith)) c.places.invariant
