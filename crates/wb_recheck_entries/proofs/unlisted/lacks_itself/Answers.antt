use Rattle.std.proofs.Common.{[], Bool, sym, ◌∙◌}
use Rattle.std.specs.Prelude.{MatchBool}
use Rattle.std.proofs.lemmas.Bool.{true≢false}
use Rattle.std.proofs.lemmas.Result.{IfOk-weaker}
use Rattle.wb_grammar_theory.specs.Derives.{Derives}
use Rattle.wb_recheck_entries.specs.Inner.Steps.{AreOpenedListed, IsOpenedUnlisted}
use Rattle.wb_recheck_entries.proofs.UnlistedLemmas.{match_weaker}
use Rattle.wb_recheck_entries.proofs.unlisted.lacks_itself.Goals as goal

pub returns-then-not-is_empty-clause-lacks : goal.returns-then-not-is_empty-clause-lacks
returns-then-not-is_empty-clause-lacks c empty = absurd (true≢false (sym (c.is_empty.ensures.1 empty) ∙ c.if-not-is_empty.true))

pub returns-clause-lacks : goal.returns-clause-lacks
returns-clause-lacks c =
    let g = c.args.listing.now.reference.now.grammar.now in
    let keys = c.args.listing.now.keys.now in
    let k = c.args.entry.kernel in
    let b = c.args.nonterminal in
    let t = c.args.entry.terminal in
    let empty = c.is_empty.ensures.0 c.if-not-is_empty.false in
    let f : (lacks : Bool) → MatchBool lacks (IsOpenedUnlisted g keys k b t) (AreOpenedListed g keys k b t) →
    MatchBool lacks (Derives g c.args.rest.now [] × IsOpenedUnlisted g keys k b t) (Derives g c.args.rest.now [] →
    AreOpenedListed g keys k b t) =
    λ lacks. match_weaker lacks (λ out. (empty, out)) (λ all e. all) in
    IfOk-weaker c.lacks_productions.result _ _ f c.lacks_productions.ensures.lacks
