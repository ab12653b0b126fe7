use Rattle.std.proofs.Common.{ℕ, ◌-◌, ◌<◌, length}
use Rattle.wb_termset.specs.Sets.{IsMember}
use Rattle.wb_recheck_entries.specs.Inner.Steps.{AreOpenedListed}
use Rattle.wb_recheck_entries.specs.Inner.Walks.{IsKnown}
use Rattle.wb_recheck_entries.proofs.opened.lacks_members.Given as goal

abbrev pub invariant-members : goal.invariant-members
invariant-members l =
    IsKnown l.listing.reference.now.grammar.now l.listing.keys.now l.known
    × ((u : ℕ) → u < l.from → IsMember l.set u →
    AreOpenedListed l.listing.reference.now.grammar.now l.listing.keys.now l.kernel l.nonterminal u)

abbrev pub decreases-members : goal.decreases-members
decreases-members l = length l.set - l.from
