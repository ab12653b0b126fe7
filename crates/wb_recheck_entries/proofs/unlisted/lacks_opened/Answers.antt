use Rattle.std.proofs.Common.{◌≡◌, ◌∷◌, Bool, subst}
use Rattle.std.specs.Prelude.{MatchBool}
use Rattle.std.proofs.lemmas.Result.{IfOk-weaker}
use Rattle.wb_base.specs.declared.symbol.Symbol.TheVariants.{Nonterminal}
use Rattle.wb_base.specs.Grammar.{IsSymbolBelow}
use Rattle.wb_grammar_theory.specs.Items.{after_dot}
use Rattle.wb_recheck_entries.specs.Inner.Steps.{AreInitialsListed, AreOpenersListed, IsInitialUnlisted, IsOpenerUnlisted}
use Rattle.wb_recheck_entries.proofs.UnlistedLemmas.{behind, match_weaker, opens_all, opens_out, terminal_opens_at}
use Rattle.wb_recheck_entries.proofs.unlisted.lacks_opened.Goals as goal

pub returns-in-Terminal-clause-lacks : goal.returns-in-Terminal-clause-lacks
returns-in-Terminal-clause-lacks c =
    terminal_opens_at c.args.listing.now.reference.now.grammar.now c.args.listing.now.keys.now c.args.entry.kernel c.args.entry.item
    c.args.entry.terminal c.args.symbol c.in-Terminal.field-0 c.in-Terminal.is c.requires.symbol

pub lacks_initial-requires-clause-rest : goal.lacks_initial-requires-clause-rest
lacks_initial-requires-clause-rest c =
    behind c.args.listing.now.reference.now.grammar.now c.args.entry.item c.args.symbol c.in-Nonterminal.nonterminal c.in-Nonterminal.is
    c.requires.symbol c.rest_after-rest.result.now c.rest_after-rest.ensures.rest

pub lacks_initial-requires-clause-below : goal.lacks_initial-requires-clause-below
lacks_initial-requires-clause-below c =
    subst (IsSymbolBelow c.args.listing.now.reference.now.grammar.now.terminals c.args.listing.now.reference.now.grammar.now.nonterminals)
    c.in-Nonterminal.is c.requires.below

pub returns-in-Nonterminal-clause-lacks : goal.returns-in-Nonterminal-clause-lacks
returns-in-Nonterminal-clause-lacks c =
    let g = c.args.listing.now.reference.now.grammar.now in
    let keys = c.args.listing.now.keys.now in
    let k = c.args.entry.kernel in
    let b = c.in-Nonterminal.nonterminal in
    let item = c.args.entry.item in
    let t = c.args.entry.terminal in
    let rest = c.rest_after-rest.result.now in
    let here : after_dot g item ≡ Nonterminal b ∷ rest =
    behind g item c.args.symbol b c.in-Nonterminal.is c.requires.symbol rest c.rest_after-rest.ensures.rest in
    let f : (lacks : Bool) → MatchBool lacks (IsInitialUnlisted g keys k b rest t) (AreInitialsListed g keys k b rest t) →
    MatchBool lacks (IsOpenerUnlisted g keys k item t) (AreOpenersListed g keys k item t) =
    λ lacks. match_weaker lacks (opens_out g keys k item t b rest here) (opens_all g keys k item t b rest here) in
    IfOk-weaker c.lacks_initial.result _ _ f c.lacks_initial.ensures.lacks
