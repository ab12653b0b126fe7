-- Equations, blocks and productions of the grammar of specifications are derived by the table's grammar.
use Rattle.std.proofs.Common.{◌≡◌, ℕ, List, [], ◌∷◌, ◌++◌, refl, sym, ap, ◌∙◌, subst}
use Rattle.std.proofs.lemmas.List.{append_assoc, append-nil}
use Rattle.wb_text_predictive.specs.declared.symbol.Symbol.TheVariants.{Nonterminal}
use Rattle.wb_text_predictive.specs.Grammar.{expand, act as acts}
use Rattle.wb_text_tokens.specs.declared.word.Word.TheVariants as word
use Rattle.wb_text_tokens.specs.declared.punctuation.Punctuation.TheVariants as p
use Rattle.wb_syntax.specs.declared.expression.Equation.{Equation}
use Rattle.wb_syntax.specs.declared.expression.Target.{Target}
use Rattle.wb_syntax.specs.declared.production.Production.{Production}
use Rattle.wb_syntax.specs.Tokens.{Lexeme, IsMark}
use Rattle.wb_syntax.specs.Expression.{Expression}
use Rattle.wb_syntax_expressions.specs.Expression.{nodes_of}
use Rattle.wb_syntax.specs.ExpressionGrammar.{IsExpression}
use Rattle.wb_syntax.specs.PartGrammar as grammar
use Rattle.wb_syntax.specs.PartGrammar.{IsTarget, AreEquations, IsBlock}
use Rattle.wb_syntax.specs.ItemGrammar.{IsProduction, whole}
use Rattle.wb_reader.specs.declared.part.Part.{Part}
use Rattle.wb_reader_builder.specs.declared.builder.SpecBuilder.{SpecBuilder}
use Rattle.wb_reader.specs.Inner.RightSides.{right_sides}
use Rattle.wb_reader.proofs.Taking.{Row, Makes}
use Rattle.wb_reader.proofs.Giving.{word_given, mark_given, name_given}
use Rattle.wb_reader.proofs.PartComplete.{children_given}
use Rattle.wb_reader.proofs.ExpressionComplete.{expression_given}

-- the parts with a target, and those with equations
abbrev targeted : SpecBuilder → Target → ℕ → SpecBuilder
targeted a target at = record a { targets = record { target = target; at = at } ∷ a.targets }

abbrev listed : SpecBuilder → List (List Equation) → List Equation → SpecBuilder
listed a others equations = record a { equations = equations ∷ others }

-- an expression after a target, with its semicolon
value_given : (a : SpecBuilder) (others : List (List Equation)) (front : List Equation) (f : Row) (u v : List Lexeme) (b : SpecBuilder)
    (target : Target) (at : ℕ) (s : Lexeme) (e : Expression) → IsExpression u e → IsMark p.Semicolon s
    → Makes f v (listed a others (front ++ record { offset = at; target = target; nodes = nodes_of e } ∷ [])) b
    → Makes (Nonterminal Part.Value ∷ f) (u ++ s ∷ v) (targeted (listed a others front) target at) b
unfolding right_sides
value_given a others front f u v b target at s e h i d =
    expand 0 refl (acts (expression_given (targeted (listed a others front) target at) [] a.nodes _ u (s ∷ v) b e h
    (mark_given p.Semicolon i (acts d))))

equation_given : (a : SpecBuilder) (f : Row) (x : Lexeme) (y v : List Lexeme) (b : SpecBuilder) (target : Target) → IsTarget (x ∷ y) target
    → Makes (Nonterminal Part.Value ∷ f) v (targeted a target x.at) b → Makes (Nonterminal Part.Equation ∷ f) (x ∷ (y ++ v)) a b
unfolding right_sides
equation_given a f x y v b target (grammar.top h i j k) d =
    expand 0 refl (word_given word.Top h (mark_given p.Dot i (name_given j (mark_given p.Equals k (acts d)))))
equation_given a f x y v b target (grammar.label h i j k) d =
    expand 1 refl (name_given h (mark_given p.Dot i (name_given j (mark_given p.Equals k (acts d)))))
equation_given a f x y v b target (grammar.forward h i j k) d =
    expand 2 refl (word_given word.Forward h (mark_given p.Dot i (name_given j (mark_given p.Equals k (acts d)))))
equation_given a f x y v b target (grammar.local h i j k l) d =
    expand 3 refl (word_given word.Local h (name_given i (mark_given p.Colon j (name_given k (mark_given p.Equals l (acts d))))))
equation_given a f x y v b target (grammar.forwards_to h i) d = expand 4 refl (word_given word.Forwards h (word_given word.To i (acts d)))

equations_given : (a : SpecBuilder) (others : List (List Equation)) (front es : List Equation) (f : Row) (u v : List Lexeme)
    (b : SpecBuilder) → AreEquations u es → Makes f v (listed a others (front ++ es)) b
    → Makes (Nonterminal Part.Equations ∷ f) (u ++ v) (listed a others front) b
unfolding right_sides
equations_given a others front es f u v b grammar.nothing d =
    expand 0 refl (subst (λ l. Makes f v (listed a others l) b) (append-nil front) d)
equations_given a others front all f u v b
    (grammar.next {x = x} s {u = y} {v = z} {r = t} {target = target} {e = e} {rest = es} h i j r k) d =
    let one : Equation = record { offset = x.at; target = target; nodes = nodes_of e } in
    let g : u ++ v ≡ x ∷ (y ++ (z ++ s ∷ (t ++ v))) =
    ap (λ q. q ++ v) k ∙ ap (λ q. x ∷ q) (append_assoc (y ++ z) (s ∷ t) v ∙ append_assoc y z (s ∷ (t ++ v))) in
    subst (λ q. Makes (Nonterminal Part.Equations ∷ f) q (listed a others front) b) (sym g)
    (expand 1 refl (equation_given (listed a others front) _ x y _ b target h (value_given a others front _ z (t ++ v) b target x.at s e i j
    (equations_given a others (front ++ one ∷ []) es f t v b r
    (subst (λ l. Makes f v (listed a others l) b) (sym (append_assoc front (one ∷ []) es)) d)))))

pub block_given : (a : SpecBuilder) (es : List Equation) (f : Row) (u v : List Lexeme) (b : SpecBuilder) → IsBlock u es
    → Makes f v (record a { equations = es ∷ a.equations }) b → Makes (Nonterminal Part.Block ∷ f) (u ++ v) a b
unfolding right_sides
block_given a es f u v b r d =
    let e : u ++ v ≡ r.open_brace ∷ (r.inner ++ r.close_brace ∷ v) =
    ap (λ y. y ++ v) r.whole ∙ ap (λ y. r.open_brace ∷ y) (append_assoc r.inner (r.close_brace ∷ []) v) in
    subst (λ y. Makes (Nonterminal Part.Block ∷ f) y a b) (sym e)
    (expand 0 refl (mark_given p.OpenBrace r.is_open (acts (equations_given a a.equations [] es _ r.inner
    (r.close_brace ∷ v) b r.are_equations (mark_given p.CloseBrace r.is_close d)))))

pub production_given : (a : SpecBuilder) (q : Production) (f : Row) (u v : List Lexeme) (b : SpecBuilder) → IsProduction u q
    → Makes f v (record a { productions = q ∷ a.productions }) b → Makes (Nonterminal Part.Production ∷ f) (u ++ v) a b
unfolding right_sides
production_given a q f u v b (whole {n = x} {c = c} {l = l} {b = m} {u = y} {v = z} {name = name} {left = left} {children = cs}
    {equations = es} h i j k r t e) d =
    let named : SpecBuilder = record a { names = record { bytes = left; at = l.at } ∷ record { bytes = name; at = x.at } ∷ a.names } in
    let g : u ++ v ≡ x ∷ c ∷ l ∷ m ∷ (y ++ (z ++ v)) = ap (λ w. w ++ v) e ∙ ap (λ w. x ∷ c ∷ l ∷ m ∷ w) (append_assoc y z v) in
    subst (λ w. Makes (Nonterminal Part.Production ∷ f) w a b) (sym g)
    (expand 0 refl (name_given h (mark_given p.Colon i (name_given j (mark_given p.Becomes k
    (acts (children_given named a.children [] cs _ y (z ++ v) b r
    (block_given (record named { children = cs ∷ a.children }) es _ z v b t (acts d)))))))))
