use Rattle.std.proofs.Common.{◌∙◌, subst, sym}
use Rattle.wb_parser_states.specs.Inner.Followed.{IsKey}
use Rattle.wb_parser_states.proofs.chains.follow.Goals as goal

pub links-init : goal.links-init
links-init c = record { start = c.begin-chain.ensures.start; is = c.begin-chain.ensures.chain }

pub linked-requires-clause-start : goal.linked-requires-clause-start
linked-requires-clause-start c =
    subst (IsKey c.args.language.now.language.grammar c.args.language.now.tables) (sym c.links.invariant.start) c.requires.start

pub linked-requires-clause-chain : goal.linked-requires-clause-chain
linked-requires-clause-chain c = c.links.invariant.is

pub links-preserved : goal.links-preserved
links-preserved c = record { start = c.in-Some.ensures.start ∙ c.links.invariant.start; is = c.in-Some.ensures.chain }
