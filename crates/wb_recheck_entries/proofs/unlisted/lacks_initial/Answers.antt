use Rattle.std.proofs.Common.{Bool, []}
use Rattle.std.specs.Prelude.{MatchBool}
use Rattle.std.proofs.lemmas.Result.{IfOk-weaker}
use Rattle.wb_grammar_theory.specs.Derives.{Derives}
use Rattle.wb_recheck_entries.specs.Inner.Steps.{AreFirstsListed, AreInitialsListed, AreOpenedListed, IsFirstUnlisted, IsInitialUnlisted}
use Rattle.wb_recheck_entries.specs.Inner.Steps.{IsOpenedUnlisted}
use Rattle.wb_recheck_entries.proofs.UnlistedLemmas.{first_out, initials_all, itself_out, match_false, match_true, match_weaker}
use Rattle.wb_recheck_entries.proofs.unlisted.lacks_initial.Goals as goal

pub returns-then-lacks-clause-lacks : goal.returns-then-lacks-clause-lacks
returns-then-lacks-clause-lacks c =
    itself_out c.args.listing.now.keys.now c.args.entry.kernel c.args.nonterminal c.args.rest.now c.args.entry.terminal
    (match_true (Derives c.args.listing.now.reference.now.grammar.now c.args.rest.now [] × IsOpenedUnlisted
    c.args.listing.now.reference.now.grammar.now c.args.listing.now.keys.now c.args.entry.kernel c.args.nonterminal
    c.args.entry.terminal)
    (Derives c.args.listing.now.reference.now.grammar.now c.args.rest.now [] →
    AreOpenedListed c.args.listing.now.reference.now.grammar.now c.args.listing.now.keys.now c.args.entry.kernel c.args.nonterminal
    c.args.entry.terminal) c.in_ok-lacks.lacks c.if-lacks.true c.in_ok-lacks.ensures.lacks).0 (match_true (Derives
    c.args.listing.now.reference.now.grammar.now c.args.rest.now [] × IsOpenedUnlisted c.args.listing.now.reference.now.grammar.now
    c.args.listing.now.keys.now c.args.entry.kernel c.args.nonterminal c.args.entry.terminal)
    (Derives c.args.listing.now.reference.now.grammar.now c.args.rest.now [] →
    AreOpenedListed c.args.listing.now.reference.now.grammar.now c.args.listing.now.keys.now c.args.entry.kernel c.args.nonterminal
    c.args.entry.terminal) c.in_ok-lacks.lacks c.if-lacks.true c.in_ok-lacks.ensures.lacks).1

pub returns-clause-lacks : goal.returns-clause-lacks
returns-clause-lacks c =
    let g = c.args.listing.now.reference.now.grammar.now in
    let keys = c.args.listing.now.keys.now in
    let k = c.args.entry.kernel in
    let b = c.args.nonterminal in
    let t = c.args.entry.terminal in
    let rest = c.args.rest.now in
    let itself = (match_false (Derives c.args.listing.now.reference.now.grammar.now c.args.rest.now [] × IsOpenedUnlisted
    c.args.listing.now.reference.now.grammar.now c.args.listing.now.keys.now c.args.entry.kernel c.args.nonterminal
    c.args.entry.terminal)
    (Derives c.args.listing.now.reference.now.grammar.now c.args.rest.now [] →
    AreOpenedListed c.args.listing.now.reference.now.grammar.now c.args.listing.now.keys.now c.args.entry.kernel c.args.nonterminal
    c.args.entry.terminal) c.in_ok-lacks.lacks c.if-lacks.false c.in_ok-lacks.ensures.lacks) in
    let f : (lacks : Bool) → MatchBool lacks (IsFirstUnlisted g keys k b rest) (AreFirstsListed g keys k b rest) →
    MatchBool lacks (IsInitialUnlisted g keys k b rest t) (AreInitialsListed g keys k b rest t) =
    λ lacks. match_weaker lacks (first_out keys k b rest t) (initials_all keys k b rest t itself) in
    IfOk-weaker c.lacks_rest.result _ _ f c.lacks_rest.ensures.lacks
