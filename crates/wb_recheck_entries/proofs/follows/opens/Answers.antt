use Rattle.std.proofs.Common.{◌∷◌, [], ◌++◌, sym, ◌∙◌, subst}
use Rattle.std.proofs.lemmas.Bool.{true≢false}
use Rattle.wb_base.specs.declared.symbol.Symbol.TheVariants.{Terminal}
use Rattle.wb_grammar_theory.specs.Derives.{IsFirst}
use Rattle.wb_recheck_entries.proofs.FollowLemmas.{none_follows, opened_follows}
use Rattle.wb_recheck_entries.proofs.follows.opens.Goals as goal

pub returns-in-None : goal.returns-in-None
returns-in-None c =
    let s = c.args.source in
    let e = c.args.entry in (
      λ t. absurd (true≢false (sym t)),
      λ f. absurd (none_follows c.args.reference.now.grammar.now c.args.reference.now.lines.now s.kernel s.item s.terminal e.kernel e.item
          e.terminal c.in-None.ensures.symbol f),
    )

pub returns-then-entry-source : goal.returns-then-entry-source
returns-then-entry-source c =
    let s = c.args.source in
    let e = c.args.entry in
    let follows = opened_follows c.args.reference.now.grammar.now c.args.reference.now.lines.now s.kernel s.item s.terminal e.kernel e.item
    e.terminal c.in-Some.symbol c.in-Some.ensures.symbol.0 c.in-Some.ensures.symbol.1 c.requires.dot in (
      λ t. absurd (true≢false (sym t)),
      λ f. absurd (c.if-entry-source.true (follows.0 f).0),
    )

pub returns-then-not-is_opened : goal.returns-then-not-is_opened
returns-then-not-is_opened c =
    let s = c.args.source in
    let e = c.args.entry in
    let follows = opened_follows c.args.reference.now.grammar.now c.args.reference.now.lines.now s.kernel s.item s.terminal e.kernel e.item
    e.terminal c.in-Some.symbol c.in-Some.ensures.symbol.0 c.in-Some.ensures.symbol.1 c.requires.dot in (
      λ t. absurd (true≢false (sym t)),
      λ f. absurd (true≢false (sym (c.is_opened.ensures.1 (follows.0 f).1) ∙ c.if-not-is_opened.true)),
    )

pub returns-else-not-is_opened : goal.returns-else-not-is_opened
returns-else-not-is_opened c =
    let s = c.args.source in
    let e = c.args.entry in
    let g = c.args.reference.now.grammar.now in
    let follows = opened_follows g c.args.reference.now.lines.now s.kernel s.item s.terminal e.kernel e.item
    e.terminal c.in-Some.symbol c.in-Some.ensures.symbol.0 c.in-Some.ensures.symbol.1 c.requires.dot in
    let rest = c.rest_after-rest.ensures.rest c.in-Some.symbol c.in-Some.ensures.symbol.0 c.in-Some.ensures.symbol.1 in (
      λ t. follows.1 (
        c.if-entry-source.false,
        c.is_opened.ensures.0 c.if-not-is_opened.false,
        subst (λ z. IsFirst g (z ++ Terminal s.terminal ∷ []) e.terminal) rest (c.begins.ensures.0 t),
      ),
      λ f. c.begins.ensures.1 (subst (λ z. IsFirst g (z ++ Terminal s.terminal ∷ []) e.terminal) (sym rest) (follows.0 f).2),
    )
