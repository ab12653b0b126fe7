use Rattle.std.proofs.Common.{◌≡◌, [], ◌∷◌, ◌++◌, refl, sym, ap, ◌∙◌, append_assoc, subst}
use Rattle.std.specs.Prelude.{MatchBool}
use Rattle.wb_text_expected.specs.Expected.{ComesAfter, taken, passed}
use Rattle.wb_text_expected.proofs.kinds.add.Goals as goal

pub returns-in_ok-push : goal.returns-in_ok-push
returns-in_ok-push g c = λ read first s asked rest those.
    let P = ComesAfter g.T.Table.grammar first read in let kind = c.args.kind in
    let can = subst (λ b. MatchBool b (P kind) (P kind → ⊥)) c.if-branch.true (c.in_ok-comes.ensures read first s) in (
      kind ∷ rest,
      taken can those refl,
      sym (append_assoc c.args.out.now.items (kind ∷ []) rest) ∙ sym (ap (λ l. l ++ rest) c.in_ok-push.ensures.items),
    )

pub returns-else-branch : goal.returns-else-branch
returns-else-branch g c = λ read first s asked rest those.
    let P = ComesAfter g.T.Table.grammar first read in let kind = c.args.kind in
    let can = subst (λ b. MatchBool b (P kind) (P kind → ⊥)) c.if-branch.false (c.in_ok-comes.ensures read first s) in
    (rest, passed can those, refl)
