use Rattle.std.proofs.Common.{◌≡◌}
use Rattle.wb_parser_states.specs.Inner.Followed.{IsChainOf}
use Rattle.wb_parser_states.proofs.chains.follow.Given as goal

abbrev pub invariant-links : goal.invariant-links
invariant-links l = record {
  start : l.chain.start ≡ l.fn.start;
  is : IsChainOf l.language.language.grammar l.language.tables l.chain;
}
