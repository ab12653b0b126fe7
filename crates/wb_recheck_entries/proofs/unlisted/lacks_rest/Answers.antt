use Rattle.wb_recheck_entries.specs.Inner.Steps.{AreFirstsListed, IsFirstUnlisted}
use Rattle.wb_recheck_entries.proofs.UnlistedLemmas.{known_rests, match_false}
use Rattle.wb_recheck_entries.proofs.unlisted.lacks_rest.Goals as goal

pub returns-then-has-clause-lacks : goal.returns-then-has-clause-lacks
returns-then-has-clause-lacks c =
    c.requires.known.rests c.args.entry.kernel c.args.entry.item.production c.args.entry.item.dot 0 c.args.nonterminal c.args.rest.now
    (c.has.ensures.0 c.if-has.true) c.requires.rest

pub returns-clause-known : goal.returns-clause-known
returns-clause-known c = record {
  opened = c.in_ok-lacks.ensures.known.opened;
  rests = known_rests c.args.listing.now.reference.now.grammar.now c.args.listing.now.keys.now c.lacks_firsts.new.known
      c.in_ok-lacks.ensures.known c.args.entry.kernel c.args.entry.item c.args.nonterminal c.args.rest.now c.insert.new.self
      c.in_ok-insert.field-0 c.requires.rest (match_false (IsFirstUnlisted c.args.listing.now.reference.now.grammar.now
      c.args.listing.now.keys.now c.args.entry.kernel c.args.nonterminal c.args.rest.now)
      (AreFirstsListed c.args.listing.now.reference.now.grammar.now c.args.listing.now.keys.now c.args.entry.kernel c.args.nonterminal
      c.args.rest.now) c.in_ok-lacks.lacks c.if-lacks.false c.in_ok-lacks.ensures.lacks) c.in_ok-insert.ensures;
}

pub returns-clause-lacks : goal.returns-clause-lacks
returns-clause-lacks c = (match_false (IsFirstUnlisted c.args.listing.now.reference.now.grammar.now c.args.listing.now.keys.now
    c.args.entry.kernel c.args.nonterminal c.args.rest.now)
    (AreFirstsListed c.args.listing.now.reference.now.grammar.now c.args.listing.now.keys.now c.args.entry.kernel c.args.nonterminal
    c.args.rest.now) c.in_ok-lacks.lacks c.if-lacks.false c.in_ok-lacks.ensures.lacks)
