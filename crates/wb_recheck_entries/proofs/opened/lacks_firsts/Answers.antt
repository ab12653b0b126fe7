use Rattle.std.proofs.Common.{◌+◌, ◌∷◌, Bool, drop, sym, ◌∙◌, ap, subst}
use Rattle.std.specs.Prelude.{MatchBool}
use Rattle.std.proofs.lemmas.Bool.{true≢false}
use Rattle.std.proofs.lemmas.List.{drop_more, drop_all}
use Rattle.std.proofs.lemmas.Result.{IfOk-weaker}
use Rattle.wb_base.specs.declared.symbol.Symbol.TheVariants.{Terminal}
use Rattle.wb_recheck_entries.specs.Inner.Steps.{AreFirstsListed, AreMembersListed, AreOpenedListed, IsFirstUnlisted, IsMemberUnlisted}
use Rattle.wb_recheck_entries.specs.Inner.Steps.{IsOpenedUnlisted}
use Rattle.wb_recheck_entries.proofs.UnlistedLemmas.{later_out, match_false, match_true, match_weaker, members_on, members_out}
use Rattle.wb_recheck_entries.proofs.UnlistedLemmas.{members_stop, none_all}
use Rattle.wb_recheck_entries.proofs.UnlistedLemmas.{terminal_all, terminal_out}
use Rattle.wb_recheck_entries.proofs.opened.lacks_firsts.Goals as goal

pub symbols-init : goal.symbols-init
symbols-init c = (c.requires.known, λ out. out, λ all. all)

pub returns-in-Terminal-clause-lacks : goal.returns-in-Terminal-clause-lacks
returns-in-Terminal-clause-lacks c =
    let g = c.args.listing.now.reference.now.grammar.now in
    let keys = c.args.listing.now.keys.now in
    let k = c.args.kernel in
    let b = c.args.nonterminal in
    let i = c.symbols.symbol-index in
    let w = c.args.symbols.now in
    let v = c.in-Terminal.terminal in
    let all = drop_more w i (Terminal 0) c.symbols-test.true ∙ ap (λ z. z ∷ drop (i + 1) w) c.in-Terminal.is in
    let f : (lacks : Bool) → MatchBool lacks (IsOpenedUnlisted g keys k b v) (AreOpenedListed g keys k b v) →
    MatchBool lacks (IsFirstUnlisted g keys k b w) (AreFirstsListed g keys k b w) =
    λ lacks. match_weaker lacks
    (λ out. c.symbols.invariant.1 (subst (IsFirstUnlisted g keys k b) (sym all) (terminal_out keys k b v (drop (i + 1) w) out)))
    (λ each. c.symbols.invariant.2 (subst (AreFirstsListed g keys k b) (sym all) (terminal_all keys k b v (drop (i + 1) w) each))) in
    IfOk-weaker c.lacks_productions.result _ _ f c.lacks_productions.ensures.lacks

pub returns-then-lacks-clause-lacks : goal.returns-then-lacks-clause-lacks
returns-then-lacks-clause-lacks c =
    let g = c.args.listing.now.reference.now.grammar.now in
    let keys = c.args.listing.now.keys.now in
    let k = c.args.kernel in
    let b = c.args.nonterminal in
    let i = c.symbols.symbol-index in
    let w = c.args.symbols.now in
    let all = drop_more w i (Terminal 0) c.symbols-test.true ∙ ap (λ z. z ∷ drop (i + 1) w) c.in-Nonterminal.is in
    c.symbols.invariant.1 (subst (IsFirstUnlisted g keys k b) (sym all)
    (members_out keys k b c.in-Nonterminal.leading (drop (i + 1) w) c.first-set.result.now
    (c.first-set.ensures.exact g c.requires.listing.reference.facts) (match_true (IsMemberUnlisted g keys k b c.first-set.result.now)
    (AreMembersListed g keys k b c.first-set.result.now) c.in_ok-lacks-in-Nonterminal.lacks c.if-lacks.true
    c.in_ok-lacks-in-Nonterminal.ensures.lacks)))

pub returns-then-not-nullable-clause-lacks : goal.returns-then-not-nullable-clause-lacks
returns-then-not-nullable-clause-lacks c =
    let g = c.args.listing.now.reference.now.grammar.now in
    let keys = c.args.listing.now.keys.now in
    let k = c.args.kernel in
    let b = c.args.nonterminal in
    let i = c.symbols.symbol-index in
    let w = c.args.symbols.now in
    let all = drop_more w i (Terminal 0) c.symbols-test.true ∙ ap (λ z. z ∷ drop (i + 1) w) c.in-Nonterminal.is in
    c.symbols.invariant.2 (subst (AreFirstsListed g keys k b) (sym all)
    (members_stop keys k b c.in-Nonterminal.leading (drop (i + 1) w) c.first-set.result.now
    (c.first-set.ensures.exact g c.requires.listing.reference.facts) (match_false (IsMemberUnlisted g keys k b c.first-set.result.now)
    (AreMembersListed g keys k b c.first-set.result.now) c.in_ok-lacks-in-Nonterminal.lacks c.if-lacks.false
    c.in_ok-lacks-in-Nonterminal.ensures.lacks)
    (λ e. true≢false (sym ((c.nullable.ensures.exact g c.requires.listing.reference.facts).1 e) ∙ c.if-not-nullable.true))))

pub symbols-preserved : goal.symbols-preserved
symbols-preserved c =
    let g = c.args.listing.now.reference.now.grammar.now in
    let keys = c.args.listing.now.keys.now in
    let k = c.args.kernel in
    let b = c.args.nonterminal in
    let i = c.symbols.symbol-index in
    let w = c.args.symbols.now in
    let all = drop_more w i (Terminal 0) c.symbols-test.true ∙ ap (λ z. z ∷ drop (i + 1) w) c.in-Nonterminal.is in
    let nullable = (c.nullable.ensures.exact g c.requires.listing.reference.facts).0 c.if-not-nullable.false in (
      c.in_ok-lacks-in-Nonterminal.ensures.known,
      λ out. c.symbols.invariant.1 (subst (IsFirstUnlisted g keys k b) (sym all)
          (later_out keys k b c.in-Nonterminal.leading (drop (i + 1) w) nullable out)),
      λ each. c.symbols.invariant.2 (subst (AreFirstsListed g keys k b) (sym all)
          (members_on keys k b c.in-Nonterminal.leading (drop (i + 1) w) c.first-set.result.now
          (c.first-set.ensures.exact g c.requires.listing.reference.facts) (match_false (IsMemberUnlisted g keys k b c.first-set.result.now)
          (AreMembersListed g keys k b c.first-set.result.now) c.in_ok-lacks-in-Nonterminal.lacks c.if-lacks.false
          c.in_ok-lacks-in-Nonterminal.ensures.lacks) each)),
    )

pub returns-clause-lacks : goal.returns-clause-lacks
returns-clause-lacks c =
    let g = c.args.listing.now.reference.now.grammar.now in
    let keys = c.args.listing.now.keys.now in
    let none = drop_all c.symbols.symbol-index c.args.symbols.now c.symbols-test.false in
    c.symbols.invariant.2 (subst (AreFirstsListed g keys c.args.kernel c.args.nonterminal) (sym none)
    (none_all keys c.args.kernel c.args.nonterminal))
