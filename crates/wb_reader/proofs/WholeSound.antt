-- Whole expressions that the table's grammar derives are in the grammar of specifications.
use Rattle.std.proofs.Common.{◌≡◌, ◌<◌, ◌+◌, ◌-◌, ℕ, zero, suc, List, [], ◌∷◌, ◌++◌, inl, inr, refl, sym, ap, ◌∙◌, subst, length, arith}
use Rattle.std.proofs.Common.{true, false, pos}
use Rattle.std.proofs.lemmas.List.{append_assoc, length-append}
use Rattle.wb_text_predictive.specs.declared.symbol.Symbol.TheVariants.{Token, Nonterminal, Act}
use Rattle.wb_text_tokens.specs.declared.word.Word.TheVariants as word
use Rattle.wb_text_tokens.specs.declared.punctuation.Punctuation.TheVariants as p
use Rattle.wb_syntax.specs.Expression.{Node}
use Rattle.wb_syntax_expressions.specs.declared.node.Node.TheVariants as n
use Rattle.wb_syntax.specs.Tokens.{Lexeme, IsInt, IsWord}
use Rattle.wb_syntax_expressions.specs.Expression.{Int, Text, Truth, Top, Forward, Call, If, size, nodes_from, all_nodes_from, places_from}
use Rattle.wb_syntax.specs.ExpressionGrammar as grammar
use Rattle.wb_syntax.specs.ExpressionGrammar.{IsExpression}
use Rattle.wb_text_tokens.specs.declared.kind.TokenKind.TheVariants as kind
use Rattle.wb_reader.specs.declared.part.Part.{Part}
use Rattle.wb_reader_builder.specs.declared.actions.Action.{Action}
use Rattle.wb_reader_builder.specs.declared.expressions.ExpressionAction.{ExpressionAction}
use Rattle.wb_reader_builder.specs.declared.builder.SpecBuilder.{SpecBuilder}
use Rattle.wb_reader.specs.Inner.RightSides.{right_sides}
use Rattle.wb_reader_builder.specs.Builder.{with_name, with_integer}
use Rattle.wb_reader.proofs.Taking.{Row, Makes, Split, OneOf, chosen, acted, word_taken, mark_taken, name_taken, number_taken, one_taken}
use Rattle.wb_reader.proofs.Taking.{two_taken, string_taken}
use Rattle.wb_syntax_expressions.proofs.AppendLemmas.{all_behind_len, if_nodes, if_root}
use Rattle.wb_reader.proofs.ExpressionSound.{begun, grown, ExpressionBelow, rooted, arguments_of_rows, tail_of_rows}
use Rattle.wb_lemmas.proofs.Parts.{joined_one}

-- an integer
integer_of_rows : {f : Row} {w : List Lexeme} {a b : SpecBuilder} → OneOf (right_sides Part.Integer) f w a b
    → Split (λ u z. (x : Lexeme) × IsInt z x × (u ≡ x ∷ [])) (λ z. with_integer z a) f w b
unfolding right_sides
integer_of_rows (inl d) = let r = one_taken d in (r.0 ∷ [], r.1, pos 1, (r.0, r.2, refl), r.3, r.4)
integer_of_rows (inr (inl d)) = let r = two_taken d in (r.0 ∷ [], r.1, pos 2, (r.0, r.2, refl), r.3, r.4)
integer_of_rows (inr (inr (inl d))) = let r = number_taken d in (r.0 ∷ [], r.1, r.2, (r.0, r.3, refl), r.4, r.5)
integer_of_rows (inr (inr (inr e))) = absurd e

-- a choice, where expressions over fewer tokens are known
if_split : (m : ℕ) (E : ExpressionBelow m) (a : SpecBuilder) (list : List Node) (rest : List (List Node)) (f : Row) (w v : List Lexeme)
    (b : SpecBuilder) (x : Lexeme) → IsWord word.If x → w ≡ x ∷ v → length v < m
    → Makes (Nonterminal Part.Expression ∷ Token (kind.Word word.Then) ∷ Nonterminal Part.Expression ∷ Token (kind.Word word.Else)
    ∷ Nonterminal Part.Expression ∷ Act (Action.Expression ExpressionAction.If) ∷ f) v (begun a list rest) b
    → Split IsExpression (grown a list rest) f w b
if_split m E a list rest f w v b x i e h d =
    let c = E a list rest (Token (kind.Word word.Then) ∷ Nonterminal Part.Expression ∷ Token (kind.Word word.Else)
    ∷ Nonterminal Part.Expression ∷ Act (Action.Expression ExpressionAction.If) ∷ f) v b h d in
    let l : length v ≡ length c.0 + length c.1 = ap length c.4 ∙ length-append c.0 c.1 in
    let r = word_taken word.Then c.5 in
    let k : length c.1 ≡ suc (length r.1) = ap length r.3 in
    let one = list ++ nodes_from (length list) c.2 in
    let t = E (record a { roots = (length list + size c.2 - 1) ∷ a.roots }) one rest
    (Token (kind.Word word.Else) ∷ Nonterminal Part.Expression ∷ Act (Action.Expression ExpressionAction.If) ∷ f) r.1 b
    (omega (arith, l, k, h)) r.4 in
    let o : length r.1 ≡ length t.0 + length t.1 = ap length t.4 ∙ length-append t.0 t.1 in
    let s = word_taken word.Else t.5 in
    let q : length t.1 ≡ suc (length s.1) = ap length s.3 in
    let two = one ++ nodes_from (length one) t.2 in
    let z = E (record a { roots = (length one + size t.2 - 1) ∷ (length list + size c.2 - 1) ∷ a.roots }) two rest
    (Act (Action.Expression ExpressionAction.If) ∷ f) s.1 b (omega (arith, l, k, o, q, h)) s.4 in
    let inner : t.1 ≡ s.0 ∷ (z.0 ++ z.1) = s.3 ∙ ap (λ y. s.0 ∷ y) z.4 in
    let middle : r.1 ≡ (t.0 ++ s.0 ∷ z.0) ++ z.1 = t.4 ∙ (ap (λ y. t.0 ++ y) inner ∙ sym (append_assoc t.0 (s.0 ∷ z.0) z.1)) in
    let outer : c.1 ≡ r.0 ∷ ((t.0 ++ s.0 ∷ z.0) ++ z.1) = r.3 ∙ ap (λ y. r.0 ∷ y) middle in
    let all : v ≡ (c.0 ++ r.0 ∷ (t.0 ++ s.0 ∷ z.0)) ++ z.1 =
    c.4 ∙ (ap (λ y. c.0 ++ y) outer ∙ sym (append_assoc c.0 (r.0 ∷ (t.0 ++ s.0 ∷ z.0)) z.1)) in (
      x ∷ (c.0 ++ r.0 ∷ (t.0 ++ s.0 ∷ z.0)),
      z.1,
      If c.2 t.2 z.2,
      grammar.if_then r.0 s.0 i c.3 r.2 t.3 s.2 z.3 refl,
      e ∙ ap (λ y. x ∷ y) all,
      rooted a f z.1 b rest _ _ _ (length list + size (If c.2 t.2 z.2) - 1) (if_nodes list c.2 t.2 z.2)
          (if_root list c.2 t.2 z.2) (acted z.5),
    )

-- an expression, where those over fewer tokens are known
expression_of_rows : (m : ℕ) (E : ExpressionBelow m) (a : SpecBuilder) (list : List Node) (rest : List (List Node)) (f : Row)
    (w : List Lexeme) (b : SpecBuilder) → length w < suc m → OneOf (right_sides Part.Expression) f w (begun a list rest) b
    → Split IsExpression (grown a list rest) f w b
unfolding right_sides
expression_of_rows m E a list rest f w b h (inl d) =
    let r = integer_of_rows (chosen d) in (
      r.0,
      r.1,
      Int r.2,
      subst (λ u. IsExpression u (Int r.2)) (sym r.3.2) (grammar.number r.3.1),
      r.4,
      rooted a f r.1 b rest _ _ (length list) (length list + 1 - 1) refl (omega arith) (acted r.5),
    )
expression_of_rows m E a list rest f w b h (inr (inl d)) =
    let r = string_taken d in (
      r.0 ∷ [],
      r.1,
      Text r.2,
      grammar.text r.3,
      r.4,
      rooted a f r.1 b rest _ _ (length list) (length list + 1 - 1) refl (omega arith)
          (acted r.5),
    )
expression_of_rows m E a list rest f w b h (inr (inr (inl d))) =
    let r = word_taken word.True d in (
      r.0 ∷ [],
      r.1,
      Truth true,
      grammar.holds r.2,
      r.3,
      rooted a f r.1 b rest _ _ (length list) (length list + 1 - 1) refl (omega arith)
          (acted r.4),
    )
expression_of_rows m E a list rest f w b h (inr (inr (inr (inl d)))) =
    let r = word_taken word.False d in (
      r.0 ∷ [],
      r.1,
      Truth false,
      grammar.fails r.2,
      r.3,
      rooted a f r.1 b rest _ _ (length list) (length list + 1 - 1) refl (omega arith)
          (acted r.4),
    )
expression_of_rows m E a list rest f w b h (inr (inr (inr (inr (inl d))))) =
    let r = name_taken d in
    let k : length w ≡ suc (length r.1) = ap length r.4 in
    let s = tail_of_rows m E a r.2 r.0.at list rest r.0 f r.1 b (omega (arith, k, h)) r.3 (chosen r.5) in
    (r.0 ∷ s.0, s.1, s.2, s.3, r.4 ∙ ap (λ y. r.0 ∷ y) s.4, s.5)
expression_of_rows m E a list rest f w b h (inr (inr (inr (inr (inr (inl d)))))) =
    let r = word_taken word.Top d in
    let s = mark_taken p.Dot r.4 in
    let t = name_taken s.4 in (
      r.0 ∷ s.0 ∷ t.0 ∷ [],
      t.1,
      Top t.2,
      grammar.top r.2 s.2 t.3,
      r.3 ∙ ap (λ y. r.0 ∷ y) (s.3 ∙ ap (λ y. s.0 ∷ y) t.4),
      rooted a f t.1 b rest _ _ (length list) (length list + 1 - 1) refl (omega arith) (acted t.5),
    )
expression_of_rows m E a list rest f w b h (inr (inr (inr (inr (inr (inr (inl d))))))) =
    let r = word_taken word.Forward d in
    let s = mark_taken p.Dot r.4 in
    let t = name_taken s.4 in (
      r.0 ∷ s.0 ∷ t.0 ∷ [],
      t.1,
      Forward t.2,
      grammar.forward r.2 s.2 t.3,
      r.3 ∙ ap (λ y. r.0 ∷ y) (s.3 ∙ ap (λ y. s.0 ∷ y) t.4),
      rooted a f t.1 b rest _ _ (length list) (length list + 1 - 1) refl (omega arith) (acted t.5),
    )
expression_of_rows m E a list rest f w b h (inr (inr (inr (inr (inr (inr (inr (inl d)))))))) =
    let t = mark_taken p.At d in
    let x = name_taken t.4 in
    let r = mark_taken p.OpenParenthesis x.5 in
    let k : length w ≡ suc (length t.1) = ap length t.3 in
    let j : length t.1 ≡ suc (length x.1) = ap length x.4 in
    let i : length x.1 ≡ suc (length r.1) = ap length r.3 in
    let s = arguments_of_rows m E (with_name x.2 x.0.at a) list rest a.arguments
    (Token (kind.Mark p.CloseParenthesis) ∷ Act (Action.Expression ExpressionAction.Call) ∷ f) r.1 b (omega (arith, k, j, i, h))
    (chosen (acted r.4)) in
    let c = mark_taken p.CloseParenthesis s.5 in
    let z = all_behind_len list s.2 in (
      t.0 ∷ x.0 ∷ r.0 ∷ (s.0 ++ c.0 ∷ []),
      c.1,
      Call x.2 s.2,
      grammar.call c.0 t.2 x.3 r.2 s.3 c.2 refl,
      t.3 ∙ ap (λ y. t.0 ∷ y) (x.4 ∙ ap (λ y. x.0 ∷ y) (r.3 ∙ ap (λ y. r.0 ∷ y) (joined_one s.0 s.1 c.1 c.0 r.1 s.4 c.3))),
      rooted a f c.1 b rest _ _ _ (length list + size (Call x.2 s.2) - 1)
          (append_assoc list (all_nodes_from (length list) s.2) (n.Call x.2 (places_from (length list) s.2) ∷ [])) (omega (arith, z))
          (acted c.4),
    )
expression_of_rows m E a list rest f w b h (inr (inr (inr (inr (inr (inr (inr (inr (inl d))))))))) =
    let r = word_taken word.If d in
    let k : length w ≡ suc (length r.1) = ap length r.3 in
    if_split m E a list rest f w r.1 b r.0 r.2 r.3 (omega (arith, k, h)) r.4
expression_of_rows m E a list rest f w b h (inr (inr (inr (inr (inr (inr (inr (inr (inr e))))))))) = absurd e

expression_below : (m : ℕ) → ExpressionBelow m
expression_below zero a list rest f w b h d = absurd (omega (arith, h))
expression_below (suc m) a list rest f w b h d = expression_of_rows m (expression_below m) a list rest f w b h (chosen d)

pub expression_sound : (a : SpecBuilder) (list : List Node) (rest : List (List Node)) (f : Row) (w : List Lexeme) (b : SpecBuilder)
    → Makes (Nonterminal Part.Expression ∷ f) w (begun a list rest) b → Split IsExpression (grown a list rest) f w b
expression_sound a list rest f w b d = expression_below (suc (length w)) a list rest f w b (omega arith) d
