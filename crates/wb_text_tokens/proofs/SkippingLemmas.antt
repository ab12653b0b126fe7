-- Layout goes to one place alone.
use Rattle.std.proofs.Common.{◌≡◌, ℕ, true, List, get_or, sym, ap, ◌∙◌, subst, arith, ⊎_elim}
use Rattle.std.proofs.lemmas.Bool.{cases_order}
use Rattle.wb_text_tokens.specs.Skipping.{is_blank, IsComment, IsLayoutPiece, SkipsLayout}
use Rattle.wb_text_tokens.specs.declared.token.Dialect.{Dialect}

-- a slash is no blank
no_blank_comment : {text : List ℕ} {from behind : ℕ} → is_blank (get_or text from 0) ≡ true → IsComment text from behind → ⊥
no_blank_comment {text = text} {from = from} b c = let e = sym b ∙ ap is_blank c.first.is in absurd (cc)

-- a comment ends at one place
same_comment : {text : List ℕ} {from a b : ℕ} → IsComment text from a → IsComment text from b → a ≡ b
same_comment {text = text} {from = from} {a = a} {b = b} c d = ⊎_elim (λ e. e) (λ o. ⊎_elim
    (λ lt. absurd (d.one_line a c.ordered lt (c.ended (omega (arith, lt, d.within)))))
    (λ lt. absurd (c.one_line b d.ordered lt (d.ended (omega (arith, lt, c.within))))) o) (cases_order a b)

-- a piece of layout ends at one place
pub piece_only : {dialect : Dialect} {text : List ℕ} {from a b : ℕ} → IsLayoutPiece dialect text from a → IsLayoutPiece dialect text from b
    → a ≡ b
piece_only (IsLayoutPiece.blank w b e) (IsLayoutPiece.blank w' b' e') = e ∙ sym e'
piece_only (IsLayoutPiece.blank w b e) (IsLayoutPiece.comment l c) = absurd (no_blank_comment b c)
piece_only (IsLayoutPiece.comment l c) (IsLayoutPiece.blank w b e) = absurd (no_blank_comment b c)
piece_only (IsLayoutPiece.comment l c) (IsLayoutPiece.comment l' c') = same_comment c c'

-- the place after all layout is one
pub skips_only : {dialect : Dialect} {text : List ℕ} {from a b : ℕ} → SkipsLayout dialect text from a → SkipsLayout dialect text from b → a ≡ b
skips_only (SkipsLayout.stop n e) (SkipsLayout.stop n' e') = sym e ∙ e'
skips_only (SkipsLayout.stop n e) (SkipsLayout.skip {behind} p s) = absurd (n behind p)
skips_only (SkipsLayout.skip {behind} p s) (SkipsLayout.stop n e) = absurd (n behind p)
skips_only {dialect = dialect} {text = text} {b = b} (SkipsLayout.skip {behind} p s) (SkipsLayout.skip {behind = other} p' s') =
    skips_only s (subst (λ k. SkipsLayout dialect text k b) (sym (piece_only p p')) s')
