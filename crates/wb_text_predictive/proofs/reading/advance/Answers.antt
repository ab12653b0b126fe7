use Rattle.std.proofs.Common.{[], ◌∷◌, ◌++◌, reverse, refl, subst}
use Rattle.std.specs.Prelude.{MatchBool}
use Rattle.wb_text_predictive.specs.declared.table.Next.TheVariants.{Found, End, NoToken}
use Rattle.wb_text_predictive.specs.Grammar.{CanStart, IsText}
use Rattle.wb_text_predictive.specs.Stack.{Stands, Any}
use Rattle.wb_text_predictive.proofs.reading.advance.Goals as goal

pub returns-then-branch-clause-ok : goal.returns-then-branch-clause-ok
returns-then-branch-clause-ok g c = λ first read s.
    let t = g.T.Table in let x = c.in-Found.token in (
      x,
      subst (λ n. t.IsNext c.args.table.now c.args.text.now c.args.from n) c.in-Found.is c.in_ok-token.ensures.ok,
      refl,
      subst (λ b. MatchBool b (Stands g.T.Kind.PartialEq.eq t.end_kind t.entries t.grammar first
          (read ++ x ∷ []) (reverse c.take.new.stack.items) c.take.new.values Any)
          (CanStart t.grammar first (read ++ x ∷ []) → ⊥)) c.if-branch.true (c.in_ok-take-in-Found.ensures.ok first read s),
    )

pub returns-else-branch-clause-ok : goal.returns-else-branch-clause-ok
returns-else-branch-clause-ok g c = λ first read s.
    let t = g.T.Table in let x = c.in-Found.token in (
      Found x,
      subst (λ n. t.IsNext c.args.table.now c.args.text.now c.args.from n) c.in-Found.is c.in_ok-token.ensures.ok,
      subst (λ b. MatchBool b (Stands g.T.Kind.PartialEq.eq t.end_kind t.entries t.grammar first
          (read ++ x ∷ []) (reverse c.take.new.stack.items) c.take.new.values Any)
          (CanStart t.grammar first (read ++ x ∷ []) → ⊥)) c.if-branch.false (c.in_ok-take-in-Found.ensures.ok first read s),
      refl,
    )

pub returns-then-branch-2-clause-ok : goal.returns-then-branch-2-clause-ok
returns-then-branch-2-clause-ok g c = λ first read s.
    let t = g.T.Table in (
      c.in-End.at,
      subst (λ n. t.IsNext c.args.table.now c.args.text.now c.args.from n) c.in-End.is c.in_ok-token.ensures.ok,
      subst (λ b. MatchBool b (IsText t.grammar first read c.finish.new.values)
          ((last : g.row.T-Values.Denot) → IsText t.grammar first read last → ⊥)) c.if-branch-2.true
          (c.in_ok-finish-in-End.ensures.ok first read s),
    )

pub returns-else-branch-2-clause-ok : goal.returns-else-branch-2-clause-ok
returns-else-branch-2-clause-ok g c = λ first read s.
    let t = g.T.Table in (
      End c.in-End.at,
      subst (λ n. t.IsNext c.args.table.now c.args.text.now c.args.from n) c.in-End.is c.in_ok-token.ensures.ok,
      subst (λ b. MatchBool b (IsText t.grammar first read c.finish.new.values)
          ((last : g.row.T-Values.Denot) → IsText t.grammar first read last → ⊥)) c.if-branch-2.false
          (c.in_ok-finish-in-End.ensures.ok first read s),
      refl,
    )

pub returns-in-NoToken-clause-ok : goal.returns-in-NoToken-clause-ok
returns-in-NoToken-clause-ok g c = λ first read s.
    let t = g.T.Table in
    (NoToken c.in-NoToken.at, subst (λ n. t.IsNext c.args.table.now c.args.text.now c.args.from n) c.in-NoToken.is c.in_ok-token.ensures.ok, tt, refl)
