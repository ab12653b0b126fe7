-- What the table derives is a term by its grammar.
use Rattle.std.proofs.Common.{◌≡◌, ◌⊎◌, inl, inr, ℕ, zero, suc, List, [], ◌∷◌, ◌++◌, Some, refl, ap, ◌∙◌, subst}
use Rattle.std.specs.Prelude.{slice_get}
use Rattle.wb_text_predictive.specs.declared.symbol.Symbol.TheVariants.{Token, Nonterminal, Act}
use Rattle.wb_text_predictive.specs.declared.table.Placed.{Placed}
use Rattle.wb_text_predictive.specs.Grammar.{done, token, expand, act}
use Rattle.wb_text_tokens.specs.declared.token.Token.{Token as Lexeme}
use Rattle.wb_text_tokens.specs.declared.token.Token.TheVariants as t
use Rattle.wb_text_tokens.specs.declared.word.Word.TheVariants as words
use Rattle.wb_text_tokens.specs.declared.punctuation.Punctuation.TheVariants as p
use Rattle.wb_terms.specs.declared.event.Event.{Event}
use Rattle.wb_text_tokens.specs.declared.kind.TokenKind.{TokenKind}
use Rattle.wb_text_tokens.specs.declared.kind.TokenKind.TheVariants as k
use Rattle.wb_text_tokens.specs.Kinds.{kind_of}
use Rattle.wb_text_tokens.proofs.KindLaws.{name_by_kind, mark_by_kind, word_by_kind, string_by_kind}
use Rattle.wb_text_tokens.proofs.KindLaws.{number_by_kind, one_by_kind, two_by_kind}
use Rattle.wb_terms.specs.declared.rules.Part.{Part}
use Rattle.wb_terms.specs.declared.rules.Action.{Action}
use Rattle.wb_terms.specs.Term.{Term, Argument, Arguments}
use Rattle.wb_terms.specs.TermGrammar.{Tokens, Is, IsHead, IsTerm, AreArguments, AreMore, IsArgument, simple, owned, whole, nothing, some}
use Rattle.wb_terms.specs.TermGrammar.{ended, next, number, string, truth, untruth, below}
use Rattle.wb_terms.specs.Inner.Events.{qualified_name}
use Rattle.wb_terms.specs.Inner.TermTable.{term_rights}
use Rattle.wb_terms.proofs.Complete.{Row, Gives}

-- what a part of the grammar is: the first of the tokens are one, and these are left
abbrev IsPart : Part → Tokens → Tokens → Type 0
IsPart Part.Term w rest = (t : Term) × IsTerm t w rest
IsPart Part.Owner w rest =
    (w ≡ rest) ⊎ ((second : List ℕ) × (colon : Placed Lexeme) × (y : Placed Lexeme) × Is (t.Punctuation p.Colon) colon × Is
    (t.Name second) y × (w ≡ colon ∷ y ∷ rest))
IsPart Part.Arguments w rest = (arguments : Arguments) × AreArguments arguments w rest
IsPart Part.More w rest = (arguments : Arguments) × AreMore arguments w rest
IsPart Part.Argument w rest = (a : Argument) × IsArgument a w rest

-- what a row is
abbrev Means : Row → Tokens → Type 0
Means [] w = w ≡ []
Means (Token kind ∷ f) w = (x : Placed Lexeme) × (v : Tokens) × (kind_of x.token ≡ kind) × (w ≡ x ∷ v) × Means f v
Means (Nonterminal n ∷ f) w = (rest : Tokens) × IsPart n w rest × Means f rest
Means (Act c ∷ f) w = Means f w

-- a term's head is a name with an owner's name or without
head_of : (x : Placed Lexeme) (name : List ℕ) (w v rest : Tokens) → Is (t.Name name) x → w ≡ x ∷ v → IsPart Part.Owner v rest
    → (whole : List ℕ) × IsHead whole x.at w rest
head_of x name w v rest is e (inl same) = (name, simple is refl (e ∙ ap (λ u. x ∷ u) same))
head_of x name w v rest is e (inr o) = (qualified_name name o.0, owned is o.3 o.4 refl refl (e ∙ ap (λ u. x ∷ u) o.5))

-- a right side of a rule
the_right : (f : Row) (w : Tokens) (a b : Row) → Some a ≡ Some b → Means (b ++ f) w → Means (a ++ f) w
the_right f w a b e m = let same : b ≡ a = cc in subst (λ (r : Row). Means (r ++ f) w) same m

-- a term by its rule
term_by : (f : Row) (w : Tokens)
    → Means ((Token k.Name ∷ Nonterminal Part.Owner ∷ Token (k.Mark p.OpenParenthesis) ∷ Nonterminal Part.Arguments ∷ Token
    (k.Mark p.CloseParenthesis) ∷ Act Action.Close ∷ []) ++ f) w
    → Means (Nonterminal Part.Term ∷ f) w
term_by f w m =
    let name = name_by_kind m.0.token m.2 in
    let rest = m.4 in
    let head = head_of m.0 name.0 w m.1 rest.0 name.1 m.3 rest.1 in
    let opening = rest.2 in
    let inside = opening.4 in
    let closing = inside.2 in (
      closing.1,
      (
        _,
        whole (subst (λ v. IsHead head.0 m.0.at w v) opening.3 head.1)
            (mark_by_kind opening.0.token p.OpenParenthesis opening.2) (subst (λ v. AreArguments inside.1.0 opening.1 v) closing.3 inside.1.1)
            (mark_by_kind closing.0.token p.CloseParenthesis closing.2),
      ),
      closing.4,
    )

-- an argument that is a token of this kind
token_by : (kind : TokenKind) (f : Row) (w : Tokens)
    → ((x : Placed Lexeme) (v : Tokens) → kind_of x.token ≡ kind → w ≡ x ∷ v → (a : Argument) × IsArgument a w v)
    → Means (Token kind ∷ f) w → Means (Nonterminal Part.Argument ∷ f) w
token_by kind f w gives m = (m.1, gives m.0 m.1 m.2 m.3, m.4)

-- by each of the rules
expanded : (n : Part) (p : ℕ) (right f : Row) (w : Tokens) → slice_get (term_rights n) p ≡ Some right → Means (right ++ f) w
    → Means (Nonterminal n ∷ f) w
unfolding term_rights
expanded Part.Term zero right f w e m = term_by f w (the_right f w _ right e m)
expanded Part.Term (suc p) right f w e m = absurd (cc)
expanded Part.Owner zero right f w e m = (w, inl refl, the_right f w _ right e m)
expanded Part.Owner (suc zero) right f w e m =
    let m' : Means (Token (k.Mark p.Colon) ∷ Token k.Name ∷ Act Action.Qualify ∷ f) w = the_right f w _ right e m in
    let n' = m'.4 in
    let name = name_by_kind n'.0.token n'.2 in
    (n'.1, inr (name.0, m'.0, n'.0, mark_by_kind m'.0.token p.Colon m'.2, name.1, m'.3 ∙ ap (λ u. m'.0 ∷ u) n'.3), n'.4)
expanded Part.Owner (suc (suc p)) right f w e m = absurd (cc)
expanded Part.Arguments zero right f w e m = (w, (_, nothing refl), the_right f w _ right e m)
expanded Part.Arguments (suc zero) right f w e m =
    let m' : Means (Nonterminal Part.Argument ∷ Nonterminal Part.More ∷ f) w = the_right f w _ right e m in
    let n' = m'.2 in
    (n'.0, (_, some m'.1.1 n'.1.1), n'.2)
expanded Part.Arguments (suc (suc p)) right f w e m = absurd (cc)
expanded Part.More zero right f w e m = (w, (_, ended refl), the_right f w _ right e m)
expanded Part.More (suc zero) right f w e m =
    let m' : Means (Token (k.Mark p.Comma) ∷ Nonterminal Part.Argument ∷ Nonterminal Part.More ∷ f) w = the_right f w _ right e m in
    let a' = m'.4 in
    let n' = a'.2 in
    (n'.0, (_, next (mark_by_kind m'.0.token p.Comma m'.2) m'.3 a'.1.1 n'.1.1), n'.2)
expanded Part.More (suc (suc p)) right f w e m = absurd (cc)
expanded Part.Argument zero right f w e m =
    token_by k.One f w (λ x v is whole. (_, number (one_by_kind x.token is) refl whole)) (the_right f w _ right e m)
expanded Part.Argument (suc zero) right f w e m =
    token_by k.Two f w (λ x v is whole. (_, number (two_by_kind x.token is) refl whole)) (the_right f w _ right e m)
expanded Part.Argument (suc (suc zero)) right f w e m =
    token_by k.Number f w (λ x v is whole. let i = number_by_kind x.token is in (_, number i.1 refl whole)) (the_right f w _ right e m)
expanded Part.Argument (suc (suc (suc zero))) right f w e m =
    token_by k.String f w (λ x v is whole. let i = string_by_kind x.token is in (_, string i.1 refl whole)) (the_right f w _ right e m)
expanded Part.Argument (suc (suc (suc (suc zero)))) right f w e m =
    token_by (k.Word words.True) f w (λ x v is whole. (_, truth (word_by_kind x.token words.True is) refl whole))
    (the_right f w _ right e m)
expanded Part.Argument (suc (suc (suc (suc (suc zero))))) right f w e m =
    token_by (k.Word words.False) f w (λ x v is whole. (_, untruth (word_by_kind x.token words.False is) refl whole))
    (the_right f w _ right e m)
expanded Part.Argument (suc (suc (suc (suc (suc (suc zero)))))) right f w e m =
    let m' : Means (Nonterminal Part.Term ∷ f) w = the_right f w _ right e m in
    (m'.0, (_, below m'.1.1), m'.2)
expanded Part.Argument (suc (suc (suc (suc (suc (suc (suc p))))))) right f w e m = absurd (cc)

-- what a row derives it means
means : {row : Row} {w : Tokens} {a b : List Event} → Gives row w a b → Means row w
means (done e i) = e
means (token {x = x} {v = v} kind d e) = (x, v, kind, e, means d)
means (expand {n = n} {f = f} {right = right} {w = w} p e d) = expanded n p right f w e (means d)
means (act d) = means d

-- so what the table derives is a term
pub sound_term : (w : Tokens) (a b : List Event) → Gives (Nonterminal Part.Term ∷ []) w a b → (t : Term) × IsTerm t w []
sound_term w a b d = let m = means d in (m.1.0, subst (λ v. IsTerm m.1.0 w v) m.2 m.1.1)
