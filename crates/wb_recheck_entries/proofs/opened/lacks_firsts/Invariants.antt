use Rattle.std.proofs.Common.{drop}
use Rattle.wb_recheck_entries.specs.Inner.Steps.{AreFirstsListed, IsFirstUnlisted}
use Rattle.wb_recheck_entries.specs.Inner.Walks.{IsKnown}
use Rattle.wb_recheck_entries.proofs.opened.lacks_firsts.Given as goal

abbrev pub invariant-symbols : goal.invariant-symbols
invariant-symbols l =
    IsKnown l.listing.reference.now.grammar.now l.listing.keys.now l.known
    × (IsFirstUnlisted l.listing.reference.now.grammar.now l.listing.keys.now l.kernel l.nonterminal (drop l.symbol-index l.symbols) →
    IsFirstUnlisted l.listing.reference.now.grammar.now l.listing.keys.now l.kernel l.nonterminal l.symbols)
    × (AreFirstsListed l.listing.reference.now.grammar.now l.listing.keys.now l.kernel l.nonterminal (drop l.symbol-index l.symbols) →
    AreFirstsListed l.listing.reference.now.grammar.now l.listing.keys.now l.kernel l.nonterminal l.symbols)
