-- Expressions that the table's grammar derives are in the grammar of specifications.
use Rattle.std.proofs.Common.{◌≡◌, ◌<◌, ◌+◌, ◌-◌, ℕ, zero, suc, List, [], ◌∷◌, ◌++◌, inl, inr, refl, sym, ap, ◌∙◌, subst, length, arith}
use Rattle.std.proofs.lemmas.List.{append_assoc, append-nil, length-append}
use Rattle.wb_text_predictive.specs.declared.symbol.Symbol.TheVariants.{Token, Nonterminal, Act}
use Rattle.wb_text_tokens.specs.declared.word.Word.TheVariants as word
use Rattle.wb_text_tokens.specs.declared.punctuation.Punctuation.TheVariants as p
use Rattle.wb_syntax.specs.Expression.{Node}
use Rattle.wb_syntax_expressions.specs.declared.node.Node.TheVariants as n
use Rattle.wb_syntax.specs.Tokens.{Lexeme, IsMark, IsName}
use Rattle.wb_syntax.specs.Expression.{Expression, Expressions}
use Rattle.wb_syntax_expressions.specs.Expression.{Label, Read, Lexeme as LexemeOf, Build, none, more, size, nodes_from, all_nodes_from}
use Rattle.wb_syntax_expressions.specs.Expression.{places_from}
use Rattle.wb_syntax.specs.ExpressionGrammar as grammar
use Rattle.wb_syntax.specs.ExpressionGrammar.{IsExpression, AreArguments, AreFurther}
use Rattle.wb_text_tokens.specs.declared.kind.TokenKind.TheVariants as kind
use Rattle.wb_reader.specs.declared.part.Part.{Part}
use Rattle.wb_reader_builder.specs.declared.actions.Action.{Action}
use Rattle.wb_reader_builder.specs.declared.expressions.ExpressionAction.{ExpressionAction}
use Rattle.wb_reader_builder.specs.declared.builder.SpecBuilder.{SpecBuilder}
use Rattle.wb_reader.specs.Inner.RightSides.{right_sides}
use Rattle.wb_reader_builder.specs.Builder.{with_name}
use Rattle.wb_reader.proofs.Taking.{Row, Makes, Split, OneOf, chosen, acted, word_taken, mark_taken, name_taken}
use Rattle.wb_syntax_expressions.proofs.AppendLemmas.{all_behind_len, more_nodes, more_places}
use Rattle.wb_lemmas.proofs.Parts.{joined, joined_one}

-- the parts with these nodes at the top
abbrev pub begun : SpecBuilder → List Node → List (List Node) → SpecBuilder
begun a list rest = record a { nodes = list ∷ rest }

-- the parts with an expression after these nodes
abbrev pub grown : SpecBuilder → List Node → List (List Node) → Expression → SpecBuilder
grown a list rest e = record a { nodes = (list ++ nodes_from (length list) e) ∷ rest; roots = (length list + size e - 1) ∷ a.roots }

-- the parts with these nodes and these arguments at the top
abbrev pub collecting : SpecBuilder → List Node → List (List Node) → List ℕ → List (List ℕ) → SpecBuilder
collecting a list rest front others = record a { nodes = list ∷ rest; arguments = front ∷ others }

-- the parts with expressions after these nodes, and with their places after these arguments
abbrev pub collected : SpecBuilder → List Node → List (List Node) → List ℕ → List (List ℕ) → Expressions → SpecBuilder
collected a list rest front others es =
    collecting a (list ++ all_nodes_from (length list) es) rest (front ++ places_from (length list) es) others

-- expressions over fewer tokens are known
abbrev pub ExpressionBelow : ℕ → Type 0
ExpressionBelow m =
    (a : SpecBuilder) (list : List Node) (rest : List (List Node)) (f : Row) (w : List Lexeme) (b : SpecBuilder) → length w < m
    → Makes (Nonterminal Part.Expression ∷ f) w (begun a list rest) b → Split IsExpression (grown a list rest) f w b

-- nodes and places that are equal
pub recollect : (a : SpecBuilder) (f : Row) (v : List Lexeme) (b : SpecBuilder) (rest : List (List Node)) (others : List (List ℕ))
    (l k : List Node) (x y : List ℕ) → l ≡ k → x ≡ y → Makes f v (collecting a l rest x others) b
    → Makes f v (collecting a k rest y others) b
recollect a f v b rest others l k x y e h d =
    subst (λ z. Makes f v (collecting a k rest z others) b) h (subst (λ z. Makes f v (collecting a z rest x others) b) e d)

pub rooted : (a : SpecBuilder) (f : Row) (v : List Lexeme) (b : SpecBuilder) (rest : List (List Node)) (l k : List Node) (x y : ℕ) → l ≡ k
    → x ≡ y → Makes f v (record a { nodes = l ∷ rest; roots = x ∷ a.roots }) b
    → Makes f v (record a { nodes = k ∷ rest; roots = y ∷ a.roots }) b
rooted a f v b rest l k x y e h d =
    subst (λ z. Makes f v (record a { nodes = k ∷ rest; roots = z ∷ a.roots }) b) h
    (subst (λ z. Makes f v (record a { nodes = z ∷ rest; roots = x ∷ a.roots }) b) e d)

-- after a token fewer are left
fewer : (x : Lexeme) (v w : List Lexeme) (m : ℕ) → w ≡ x ∷ v → length w < suc m → length v < m
fewer x v w m e h = let l : length w ≡ suc (length v) = ap length e in omega (arith, l, h)

fewer_behind : (u v w : List Lexeme) (m : ℕ) → w ≡ u ++ v → length w < m → length v < m
fewer_behind u v w m e h = let l : length w ≡ length (u ++ v) = ap length e in let k = length-append u v in omega (arith, l, k, h)

-- further arguments
further_of_rows : (m : ℕ) (E : ExpressionBelow m) (o : ℕ)
    (again : (a : SpecBuilder) (list : List Node) (rest : List (List Node)) (front : List ℕ) (others : List (List ℕ)) (f : Row)
    (w : List Lexeme) (b : SpecBuilder) → length w < o → length w < m → Makes (Nonterminal Part.FurtherArguments ∷ f) w
    (collecting a list rest front others) b → Split AreFurther (collected a list rest front others) f w b) (a : SpecBuilder)
    (list : List Node) (rest : List (List Node)) (front : List ℕ) (others : List (List ℕ)) (f : Row) (w : List Lexeme) (b : SpecBuilder)
    → length w < suc o → length w < m → OneOf (right_sides Part.FurtherArguments) f w (collecting a list rest front others) b
    → Split AreFurther (collected a list rest front others) f w b
unfolding right_sides
further_of_rows m E o again a list rest front others f w b h g (inl d) = (
  [],
  w,
  none,
  grammar.no_more,
  refl,
  recollect a f w b rest others list (list ++ []) front (front ++ []) (sym (append-nil list))
      (sym (append-nil front)) d,
)
further_of_rows m E o again a list rest front others f w b h g (inr (inl d)) =
    let r = mark_taken p.Comma d in
    let l : length w ≡ suc (length r.1) = ap length r.3 in
    let s = E (record a { arguments = front ∷ others }) list rest
    (Act (Action.Expression ExpressionAction.AddArgument) ∷ Nonterminal Part.FurtherArguments ∷ f) r.1 b (omega (arith, l, g)) r.4 in
    let k : length r.1 ≡ length s.0 + length s.1 = ap length s.4 ∙ length-append s.0 s.1 in
    let i = again a (list ++ nodes_from (length list) s.2) rest (front ++ (length list + size s.2 - 1) ∷ []) others f s.1 b
    (omega (arith, l, k, h)) (omega (arith, l, k, g)) (acted s.5) in (
      r.0 ∷ (s.0 ++ i.0),
      i.1,
      more s.2 i.2,
      grammar.next r.2 s.3 i.3 refl,
      r.3 ∙ ap (λ y. r.0 ∷ y) (joined s.0 s.1 i.0 i.1 r.1 s.4 i.4),
      recollect a f i.1 b rest others _ _ _ _ (more_nodes list s.2 i.2) (more_places list front s.2 i.2) i.5,
    )
further_of_rows m E o again a list rest front others f w b h g (inr (inr e)) = absurd e

further_below : (m : ℕ) (E : ExpressionBelow m) (o : ℕ) (a : SpecBuilder) (list : List Node) (rest : List (List Node)) (front : List ℕ)
    (others : List (List ℕ)) (f : Row) (w : List Lexeme) (b : SpecBuilder) → length w < o → length w < m
    → Makes (Nonterminal Part.FurtherArguments ∷ f) w (collecting a list rest front others) b
    → Split AreFurther (collected a list rest front others) f w b
further_below m E zero a list rest front others f w b h g d = absurd (omega (arith, h))
further_below m E (suc o) a list rest front others f w b h g d =
    further_of_rows m E o (further_below m E o) a list rest front others f w b h g (chosen d)

-- arguments
pub arguments_of_rows : (m : ℕ) (E : ExpressionBelow m) (a : SpecBuilder) (list : List Node) (rest : List (List Node))
    (others : List (List ℕ)) (f : Row) (w : List Lexeme) (b : SpecBuilder) → length w < m
    → OneOf (right_sides Part.Arguments) f w (collecting a list rest [] others) b
    → Split AreArguments (collected a list rest [] others) f w b
unfolding right_sides
arguments_of_rows m E a list rest others f w b g (inl d) =
    ([], w, none, grammar.nothing, refl, recollect a f w b rest others list (list ++ []) [] [] (sym (append-nil list)) refl d)
arguments_of_rows m E a list rest others f w b g (inr (inl d)) =
    let s = E (record a { arguments = [] ∷ others }) list rest
    (Act (Action.Expression ExpressionAction.AddArgument) ∷ Nonterminal Part.FurtherArguments ∷ f) w b g d in
    let k : length w ≡ length s.0 + length s.1 = ap length s.4 ∙ length-append s.0 s.1 in
    let i = further_below m E m a (list ++ nodes_from (length list) s.2) rest ((length list + size s.2 - 1) ∷ []) others f s.1 b
    (omega (arith, k, g)) (omega (arith, k, g)) (acted s.5) in (
      s.0 ++ i.0,
      i.1,
      more s.2 i.2,
      grammar.some s.3 i.3 refl,
      joined s.0 s.1 i.0 i.1 w s.4 i.4,
      recollect a f i.1 b rest others _ _ _ _ (more_nodes list s.2 i.2) (more_places list [] s.2 i.2) i.5,
    )
arguments_of_rows m E a list rest others f w b g (inr (inr e)) = absurd e

-- what comes after a name and a dot
read_of_rows : (a : SpecBuilder) (l : List ℕ) (at : ℕ) (list : List Node) (rest : List (List Node)) (x dot : Lexeme) (f : Row)
    (w : List Lexeme) (b : SpecBuilder) → IsName l x → IsMark p.Dot dot → OneOf (right_sides Part.Read) f w
    (with_name l at (begun a list rest)) b → Split (λ u e. IsExpression (x ∷ dot ∷ u) e) (grown a list rest) f w b
unfolding right_sides
read_of_rows a l at list rest x dot f w b i j (inl d) =
    let r = name_taken d in (
      r.0 ∷ [],
      r.1,
      Read l r.2,
      grammar.read i j r.3,
      r.4,
      rooted a f r.1 b rest _ _ (length list) (length list + 1 - 1) refl (omega arith)
          (acted r.5),
    )
read_of_rows a l at list rest x dot f w b i j (inr (inl d)) =
    let r = word_taken word.Lexeme d in (
      r.0 ∷ [],
      r.1,
      LexemeOf l,
      grammar.lexeme i j r.2,
      r.3,
      rooted a f r.1 b rest _ _ (length list) (length list + 1 - 1) refl
          (omega arith) (acted r.4),
    )
read_of_rows a l at list rest x dot f w b i j (inr (inr e)) = absurd e

-- what comes after a name
pub tail_of_rows : (m : ℕ) (E : ExpressionBelow m) (a : SpecBuilder) (l : List ℕ) (at : ℕ) (list : List Node) (rest : List (List Node))
    (x : Lexeme) (f : Row) (w : List Lexeme) (b : SpecBuilder) → length w < m → IsName l x
    → OneOf (right_sides Part.Tail) f w (with_name l at (begun a list rest)) b
    → Split (λ u e. IsExpression (x ∷ u) e) (grown a list rest) f w b
unfolding right_sides
tail_of_rows m E a l at list rest x f w b g i (inl d) =
    ([], w, Label l, grammar.label i, refl, rooted a f w b rest _ _ (length list) (length list + 1 - 1) refl (omega arith) (acted d))
tail_of_rows m E a l at list rest x f w b g i (inr (inl d)) =
    let r = mark_taken p.Dot d in
    let s = read_of_rows a l at list rest x r.0 f r.1 b i r.2 (chosen r.4) in
    (r.0 ∷ s.0, s.1, s.2, s.3, r.3 ∙ ap (λ y. r.0 ∷ y) s.4, s.5)
tail_of_rows m E a l at list rest x f w b g i (inr (inr (inl d))) =
    let r = mark_taken p.OpenParenthesis d in
    let k : length w ≡ suc (length r.1) = ap length r.3 in
    let s = arguments_of_rows m E (with_name l at a) list rest a.arguments
    (Token (kind.Mark p.CloseParenthesis) ∷ Act (Action.Expression ExpressionAction.Build) ∷ f) r.1 b (omega (arith, k, g))
    (chosen (acted r.4)) in
    let c = mark_taken p.CloseParenthesis s.5 in
    let z = all_behind_len list s.2 in (
      r.0 ∷ (s.0 ++ c.0 ∷ []),
      c.1,
      Build l s.2,
      grammar.build c.0 i r.2 s.3 c.2 refl,
      r.3 ∙ ap (λ y. r.0 ∷ y) (joined_one s.0 s.1 c.1 c.0 r.1 s.4 c.3),
      rooted a f c.1 b rest _ _ _
          (length list + size (Build l s.2) - 1)
          (append_assoc list (all_nodes_from (length list) s.2) (n.Build l (places_from (length list) s.2) ∷ [])) (omega (arith, z))
          (acted c.4),
    )
tail_of_rows m E a l at list rest x f w b g i (inr (inr (inr e))) = absurd e
