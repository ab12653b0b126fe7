use Rattle.std.proofs.Common.{◌≡◌, length, take}
use Rattle.wb_parser.specs.Inner.Chains.{IsChainOf}
use Rattle.wb_parser.proofs.chains.follow.Given as goal

abbrev pub invariant-links : goal.invariant-links
invariant-links l = record {
  start : l.chain.start ≡ l.fn.start;
  is : IsChainOf l.language.language.grammar l.language.tables l.productions.items l.chain;
  end : l.chain.end ≡ length l.productions.items;
  begins : take (length l.initial.productions.items) l.productions.items ≡ l.initial.productions.items;
}
