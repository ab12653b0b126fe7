-- Expressions of the grammar of specifications are derived by the table's grammar.
use Rattle.std.proofs.Common.{◌≡◌, ◌+◌, ◌-◌, ℕ, ℤ, pos, negsuc, Bool, true, false, cond, List, [], ◌∷◌, ◌++◌, refl, sym, ap, ◌∙◌, subst}
use Rattle.std.proofs.Common.{length, arith}
use Rattle.std.specs.Prelude.{◌==◌}
use Rattle.std.proofs.lemmas.List.{append_assoc, append-nil}
use Rattle.wb_text_predictive.specs.declared.symbol.Symbol.TheVariants.{Token, Nonterminal}
use Rattle.wb_text_predictive.specs.Grammar.{expand, act as acts}
use Rattle.wb_text_tokens.specs.declared.word.Word.TheVariants as word
use Rattle.wb_text_tokens.specs.declared.punctuation.Punctuation.TheVariants as p
use Rattle.wb_syntax.specs.Expression.{Node}
use Rattle.wb_syntax_expressions.specs.declared.node.Node.TheVariants as n
use Rattle.wb_syntax.specs.Tokens.{Lexeme, IsInt}
use Rattle.wb_syntax.specs.Expression.{Expression, Expressions}
use Rattle.wb_syntax_expressions.specs.Expression.{Build, Call, If, size, nodes_from, all_nodes_from, places_from}
use Rattle.wb_syntax.specs.ExpressionGrammar as grammar
use Rattle.wb_syntax.specs.ExpressionGrammar.{IsExpression, AreArguments, AreFurther}
use Rattle.wb_text_tokens.specs.declared.kind.TokenKind.TheVariants as kind
use Rattle.wb_reader.specs.declared.part.Part.{Part}
use Rattle.wb_reader_builder.specs.declared.builder.SpecBuilder.{SpecBuilder}
use Rattle.wb_reader.specs.Inner.RightSides.{right_sides}
use Rattle.wb_reader_builder.specs.Builder.{with_name, with_integer}
use Rattle.wb_reader.proofs.Taking.{Row, Makes}
use Rattle.wb_reader.proofs.Giving.{word_given, mark_given, name_given, integer_given, string_given}
use Rattle.wb_syntax_expressions.proofs.AppendLemmas.{all_behind_len, more_nodes, more_places, if_nodes, if_root}
use Rattle.wb_reader.proofs.ExpressionSound.{begun, grown, collecting, collected, recollect, rooted}

-- an integer of each kind
number_given : (c e : Bool) {f : Row} {w : List Lexeme} {a b : SpecBuilder}
    → Makes (Token (cond c kind.One (cond e kind.Two kind.Number)) ∷ f) w a b → Makes (Nonterminal Part.Integer ∷ f) w a b
unfolding right_sides
number_given true e d = expand 0 refl d
number_given false true d = expand 1 refl d
number_given false false d = expand 2 refl d

whole_given : {x : Lexeme} (z : ℤ) {f : Row} {v : List Lexeme} {a b : SpecBuilder} → IsInt z x → Makes f v (with_integer z a) b
    → Makes (Nonterminal Part.Integer ∷ f) (x ∷ v) a b
unfolding right_sides
whole_given (pos k) h d = number_given (k == 1) (k == 2) (integer_given h d)
whole_given (negsuc k) h d = expand 2 refl (integer_given h d)

-- a leaf's node
leaf : (a : SpecBuilder) (list : List Node) (rest : List (List Node)) (f : Row) (v : List Lexeme) (b : SpecBuilder) (node : Node)
    → Makes f v (record a { nodes = (list ++ node ∷ []) ∷ rest; roots = (length list + 1 - 1) ∷ a.roots }) b
    → Makes f v (record a { nodes = (list ++ node ∷ []) ∷ rest; roots = length list ∷ a.roots }) b
leaf a list rest f v b node d = rooted a f v b rest _ _ (length list + 1 - 1) (length list) refl (omega arith) d

mutual
  unfolding right_sides

  pub expression_given : (a : SpecBuilder) (list : List Node) (rest : List (List Node)) (f : Row) (u v : List Lexeme) (b : SpecBuilder)
      (e : Expression) → IsExpression u e → Makes f v (grown a list rest e) b
      → Makes (Nonterminal Part.Expression ∷ f) (u ++ v) (begun a list rest) b
  expression_given a list rest f u v b e (grammar.number {z = z} h) d =
      expand 0 refl (whole_given z h (acts (leaf a list rest f v b (n.Int z) d)))
  expression_given a list rest f u v b e (grammar.text {s = s} h) d =
      expand 1 refl (string_given h (acts (leaf a list rest f v b (n.Text s) d)))
  expression_given a list rest f u v b e (grammar.holds h) d =
      expand 2 refl (word_given word.True h (acts (leaf a list rest f v b (n.Bool true) d)))
  expression_given a list rest f u v b e (grammar.fails h) d =
      expand 3 refl (word_given word.False h (acts (leaf a list rest f v b (n.Bool false) d)))
  expression_given a list rest f u v b e (grammar.label {l = l} h) d =
      expand 4 refl (name_given h (expand 0 refl (acts (leaf a list rest f v b (n.Label l) d))))
  expression_given a list rest f u v b e (grammar.read {l = l} {a = t} h i j) d =
      expand 4 refl (name_given h (expand 1 refl (mark_given p.Dot i (expand 0 refl (name_given j
      (acts (leaf a list rest f v b (n.Read l t) d)))))))
  expression_given a list rest f u v b e (grammar.lexeme {l = l} h i j) d =
      expand 4 refl (name_given h (expand 1 refl (mark_given p.Dot i (expand 1 refl (word_given word.Lexeme j
      (acts (leaf a list rest f v b (n.Lexeme l) d)))))))
  expression_given a list rest f u v b e (grammar.top {a = t} h i j) d =
      expand 5 refl (word_given word.Top h (mark_given p.Dot i (name_given j (acts (leaf a list rest f v b (n.Top t) d)))))
  expression_given a list rest f u v b e (grammar.forward {a = t} h i j) d =
      expand 6 refl (word_given word.Forward h (mark_given p.Dot i (name_given j (acts (leaf a list rest f v b (n.Forward t) d)))))
  expression_given a list rest f u v b e (grammar.build {x = x} {o = o} c {name = l} {u = s} {es = es} h i r j k) d =
      let g : u ++ v ≡ x ∷ o ∷ (s ++ c ∷ v) = ap (λ y. y ++ v) k ∙ ap (λ y. x ∷ o ∷ y) (append_assoc s (c ∷ []) v) in
      let z = all_behind_len list es in
      subst (λ y. Makes (Nonterminal Part.Expression ∷ f) y (begun a list rest) b) (sym g)
      (expand 4 refl (name_given h (expand 2 refl (mark_given p.OpenParenthesis i (acts
      (arguments_given (with_name l x.at a) list rest a.arguments _ s (c ∷ v) b es r
      (mark_given p.CloseParenthesis j (acts (rooted a f v b rest _ _ (length list + size (Build l es) - 1) _
      (sym (append_assoc list (all_nodes_from (length list) es) (n.Build l (places_from (length list) es) ∷ [])))
      (omega (arith, z)) d)))))))))
  expression_given a list rest f u v b e (grammar.call {a = t} {x = x} {o = o} c {name = l} {u = s} {es = es} m h i r j k) d =
      let g : u ++ v ≡ t ∷ x ∷ o ∷ (s ++ c ∷ v) = ap (λ y. y ++ v) k ∙ ap (λ y. t ∷ x ∷ o ∷ y) (append_assoc s (c ∷ []) v) in
      let z = all_behind_len list es in
      subst (λ y. Makes (Nonterminal Part.Expression ∷ f) y (begun a list rest) b) (sym g)
      (expand 7 refl (mark_given p.At m (name_given h (mark_given p.OpenParenthesis i (acts
      (arguments_given (with_name l x.at a) list rest a.arguments _ s (c ∷ v) b es r
      (mark_given p.CloseParenthesis j (acts (rooted a f v b rest _ _ (length list + size (Call l es) - 1) _
      (sym (append_assoc list (all_nodes_from (length list) es) (n.Call l (places_from (length list) es) ∷ [])))
      (omega (arith, z)) d)))))))))
  expression_given a list rest f u v b e
      (grammar.if_then {i = i} q t {u = x} {v = y} {x = z} {condition = c} {one = m} {other = o} h r j s k l w) d =
      let g : u ++ v ≡ i ∷ (x ++ q ∷ (y ++ t ∷ (z ++ v))) =
      ap (λ y. y ++ v) w ∙ ap (λ y. i ∷ y) (append_assoc x (q ∷ (y ++ t ∷ z)) v ∙ ap (λ k. x ++ q ∷ k) (append_assoc y (t ∷ z) v)) in
      let one = list ++ nodes_from (length list) c in
      let two = one ++ nodes_from (length one) m in
      subst (λ y. Makes (Nonterminal Part.Expression ∷ f) y (begun a list rest) b) (sym g)
      (expand 8 refl (word_given word.If h (expression_given a list rest _ x _ b c r (word_given word.Then j
      (expression_given (record a { roots = (length list + size c - 1) ∷ a.roots }) one rest _ y _ b m s (word_given word.Else k
      (expression_given (record a { roots = (length one + size m - 1) ∷ (length list + size c - 1) ∷ a.roots }) two rest _ z v b o l
      (acts (rooted a f v b rest _ _ (length list + size (If c m o) - 1) _ (sym (if_nodes list c m o)) (sym (if_root list c m o)) d)))))))))

  arguments_given : (a : SpecBuilder) (list : List Node) (rest : List (List Node)) (others : List (List ℕ)) (f : Row) (u v : List Lexeme)
      (b : SpecBuilder) (es : Expressions) → AreArguments u es → Makes f v (collected a list rest [] others es) b
      → Makes (Nonterminal Part.Arguments ∷ f) (u ++ v) (collecting a list rest [] others) b
  arguments_given a list rest others f u v b es grammar.nothing d =
      expand 0 refl (recollect a f v b rest others (list ++ []) list [] [] (append-nil list) refl d)
  arguments_given a list rest others f u v b es (grammar.some {u = x} {v = y} {e = e} {es = es'} h r i) d =
      let g : u ++ v ≡ x ++ (y ++ v) = ap (λ z. z ++ v) i ∙ append_assoc x y v in
      subst (λ z. Makes (Nonterminal Part.Arguments ∷ f) z (collecting a list rest [] others) b) (sym g)
      (expand 1 refl (expression_given (record a { arguments = [] ∷ others }) list rest _ x (y ++ v) b e h
      (acts (further_given a (list ++ nodes_from (length list) e) rest ((length list + size e - 1) ∷ []) others f y v b es' r
      (recollect a f v b rest others _ _ _ _ (sym (more_nodes list e es')) (sym (more_places list [] e es')) d)))))

  further_given : (a : SpecBuilder) (list : List Node) (rest : List (List Node)) (front : List ℕ) (others : List (List ℕ)) (f : Row)
      (u v : List Lexeme) (b : SpecBuilder) (es : Expressions) → AreFurther u es → Makes f v (collected a list rest front others es) b
      → Makes (Nonterminal Part.FurtherArguments ∷ f) (u ++ v) (collecting a list rest front others) b
  further_given a list rest front others f u v b es grammar.no_more d =
      expand 0 refl (recollect a f v b rest others (list ++ []) list (front ++ []) front (append-nil list) (append-nil front) d)
  further_given a list rest front others f u v b es (grammar.next {c = c} {u = x} {v = y} {e = e} {es = es'} k h r i) d =
      let g : u ++ v ≡ c ∷ (x ++ (y ++ v)) = ap (λ z. z ++ v) i ∙ ap (λ z. c ∷ z) (append_assoc x y v) in
      subst (λ z. Makes (Nonterminal Part.FurtherArguments ∷ f) z (collecting a list rest front others) b) (sym g)
      (expand 1 refl (mark_given p.Comma k (expression_given (record a { arguments = front ∷ others }) list rest _ x (y ++ v) b e h
      (acts (further_given a (list ++ nodes_from (length list) e) rest (front ++ (length list + size e - 1) ∷ []) others f y v b es' r
      (recollect a f v b rest others _ _ _ _ (sym (more_nodes list e es')) (sym (more_places list front e es')) d))))))
