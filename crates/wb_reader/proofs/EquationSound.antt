-- Equations, blocks and productions that the table's grammar derives are in the grammar of specifications.
use Rattle.std.proofs.Common.{◌≡◌, ℕ, List, [], ◌∷◌, ◌++◌, ◌⊎◌, inl, inr, refl, sym, ap, ◌∙◌, subst, length, arith}
use Rattle.std.proofs.lemmas.List.{append_assoc}
use Rattle.wb_text_predictive.specs.declared.symbol.Symbol.TheVariants.{Token, Nonterminal, Act}
use Rattle.wb_text_tokens.specs.declared.word.Word.TheVariants as word
use Rattle.wb_text_tokens.specs.declared.punctuation.Punctuation.TheVariants as p
use Rattle.wb_syntax.specs.declared.expression.Equation.{Equation}
use Rattle.wb_syntax.specs.declared.expression.Target.{Target}
use Rattle.wb_syntax.specs.declared.expression.Target.TheVariants as g
use Rattle.wb_syntax.specs.Tokens.{Lexeme, IsMark}
use Rattle.wb_syntax.specs.Expression.{Expression}
use Rattle.wb_syntax_expressions.specs.Expression.{nodes_of}
use Rattle.wb_syntax.specs.ExpressionGrammar.{IsExpression}
use Rattle.wb_syntax.specs.PartGrammar as grammar
use Rattle.wb_syntax.specs.PartGrammar.{IsTarget, AreEquations, IsBlock}
use Rattle.wb_syntax.specs.ItemGrammar.{IsProduction, whole}
use Rattle.wb_text_tokens.specs.declared.kind.TokenKind.TheVariants as kind
use Rattle.wb_reader.specs.declared.part.Part.{Part}
use Rattle.wb_reader_builder.specs.declared.actions.Action.{Action}
use Rattle.wb_reader_builder.specs.declared.items.ItemAction.{ItemAction}
use Rattle.wb_reader_builder.specs.declared.parts.PartAction.{PartAction}
use Rattle.wb_reader_builder.specs.declared.builder.SpecBuilder.{SpecBuilder}
use Rattle.wb_reader.specs.Inner.RightSides.{right_sides}
use Rattle.wb_reader.proofs.Taking.{Row, Makes, Split, OneOf, chosen, acted, word_taken, mark_taken, name_taken}
use Rattle.wb_reader.proofs.Many.{Element, many}
use Rattle.wb_reader.proofs.PartSound.{children_sound}
use Rattle.wb_reader.proofs.WholeSound.{expression_sound}
use Rattle.wb_lemmas.proofs.Parts.{joined, joined_one}

-- the parts with a target at the top
abbrev targeted : SpecBuilder → Target → ℕ → SpecBuilder
targeted a target at = record a { targets = record { target = target; at = at } ∷ a.targets }

-- an equation
abbrev IsEquation : List Lexeme → Equation → Type 0
IsEquation u equation =
    (x s : Lexeme) × (y v : List Lexeme) × (target : Target) × (e : Expression) × IsTarget (x ∷ y) target × IsExpression v e
    × IsMark p.Semicolon s × (u ≡ x ∷ (y ++ v ++ s ∷ [])) × (equation ≡ record { offset = x.at; target = target; nodes = nodes_of e })

-- the parts with these equations at the top
abbrev listed : SpecBuilder → List (List Equation) → List Equation → SpecBuilder
listed a others equations = record a { equations = equations ∷ others }

-- an expression after a target
value_of_rows : (a : SpecBuilder) (others : List (List Equation)) (front : List Equation) (f : Row) (w : List Lexeme) (b : SpecBuilder)
    (target : Target) (at : ℕ) → OneOf (right_sides Part.Value) f w (targeted (listed a others front) target at) b
    → Split (λ u e. (v : List Lexeme) × (s : Lexeme) × IsExpression v e × IsMark p.Semicolon s × (u ≡ v ++ s ∷ []))
    (λ e. listed a others (front ++ record { offset = at; target = target; nodes = nodes_of e } ∷ [])) f w b
unfolding right_sides
value_of_rows a others front f w b target at (inl d) =
    let s = expression_sound (targeted (listed a others front) target at) [] a.nodes
    (Token (kind.Mark p.Semicolon) ∷ Act (Action.Part PartAction.AddEquation) ∷ f) w b (acted d) in
    let c = mark_taken p.Semicolon s.5 in
    (s.0 ++ c.0 ∷ [], c.1, s.2, (s.0, c.0, s.3, c.2, refl), joined_one s.0 s.1 c.1 c.0 w s.4 c.3, acted c.4)
value_of_rows a others front f w b target at (inr e) = absurd e

-- an equation by its target
equation_with : (a : SpecBuilder) (others : List (List Equation)) (front : List Equation) (f : Row) (w : List Lexeme) (b : SpecBuilder)
    (x : Lexeme) (y v : List Lexeme) (target : Target) → IsTarget (x ∷ y) target → w ≡ x ∷ (y ++ v)
    → Makes (Nonterminal Part.Value ∷ Nonterminal Part.Equations ∷ f) v (targeted (listed a others front) target x.at) b
    → Element IsEquation Part.Equations f (listed a others) front w b
equation_with a others front f w b x y v target i e d =
    let s = value_of_rows a others front (Nonterminal Part.Equations ∷ f) v b target x.at (chosen d) in
    let h : s.0 ≡ s.3.0 ++ s.3.1 ∷ [] = s.3.4 in
    let k : y ++ s.0 ≡ y ++ s.3.0 ++ s.3.1 ∷ [] = ap (λ z. y ++ z) h ∙ sym (append_assoc y s.3.0 (s.3.1 ∷ [])) in
    let j : y ++ v ≡ (y ++ s.0) ++ s.1 = ap (λ z. y ++ z) s.4 ∙ sym (append_assoc y s.0 s.1) in (
      x ∷ (y ++ s.3.0 ++ s.3.1 ∷ []),
      s.1,
      record { offset = x.at; target = target; nodes = nodes_of s.2 },
      (x, s.3.1, y, s.3.0, target, s.2, i, s.3.2, s.3.3, refl, refl),
      omega arith,
      e ∙ ap (λ z. x ∷ z) (j ∙ ap (λ z. z ++ s.1) k),
      s.5,
    )

equation_of_rows : (a : SpecBuilder) (others : List (List Equation)) (front : List Equation) (f : Row) (w : List Lexeme) (b : SpecBuilder)
    → OneOf (right_sides Part.Equation) (Nonterminal Part.Equations ∷ f) w (listed a others front) b
    → Element IsEquation Part.Equations f (listed a others) front w b
unfolding right_sides
equation_of_rows a others front f w b (inl d) =
    let x = word_taken word.Top d in
    let c = mark_taken p.Dot x.4 in
    let y = name_taken c.4 in
    let e = mark_taken p.Equals y.5 in
    equation_with a others front f w b x.0 (c.0 ∷ y.0 ∷ e.0 ∷ []) e.1 (g.Top y.2) (grammar.top x.2 c.2 y.3 e.2)
    (x.3 ∙ ap (λ z. x.0 ∷ z) (c.3 ∙ ap (λ z. c.0 ∷ z) (y.4 ∙ ap (λ z. y.0 ∷ z) e.3))) (acted e.4)
equation_of_rows a others front f w b (inr (inl d)) =
    let x = name_taken d in
    let c = mark_taken p.Dot x.5 in
    let y = name_taken c.4 in
    let e = mark_taken p.Equals y.5 in
    equation_with a others front f w b x.0 (c.0 ∷ y.0 ∷ e.0 ∷ []) e.1 (g.Label x.2 y.2) (grammar.label x.3 c.2 y.3 e.2)
    (x.4 ∙ ap (λ z. x.0 ∷ z) (c.3 ∙ ap (λ z. c.0 ∷ z) (y.4 ∙ ap (λ z. y.0 ∷ z) e.3))) (acted e.4)
equation_of_rows a others front f w b (inr (inr (inl d))) =
    let x = word_taken word.Forward d in
    let c = mark_taken p.Dot x.4 in
    let y = name_taken c.4 in
    let e = mark_taken p.Equals y.5 in
    equation_with a others front f w b x.0 (c.0 ∷ y.0 ∷ e.0 ∷ []) e.1 (g.Forward y.2) (grammar.forward x.2 c.2 y.3 e.2)
    (x.3 ∙ ap (λ z. x.0 ∷ z) (c.3 ∙ ap (λ z. c.0 ∷ z) (y.4 ∙ ap (λ z. y.0 ∷ z) e.3))) (acted e.4)
equation_of_rows a others front f w b (inr (inr (inr (inl d)))) =
    let x = word_taken word.Local d in
    let l = name_taken x.4 in
    let c = mark_taken p.Colon l.5 in
    let y = name_taken c.4 in
    let e = mark_taken p.Equals y.5 in
    equation_with a others front f w b x.0 (l.0 ∷ c.0 ∷ y.0 ∷ e.0 ∷ []) e.1 (g.Local l.2 y.2) (grammar.local x.2 l.3 c.2 y.3 e.2)
    (x.3 ∙ ap (λ z. x.0 ∷ z) (l.4 ∙ ap (λ z. l.0 ∷ z) (c.3 ∙ ap (λ z. c.0 ∷ z) (y.4 ∙ ap (λ z. y.0 ∷ z) e.3)))) (acted e.4)
equation_of_rows a others front f w b (inr (inr (inr (inr (inl d))))) =
    let x = word_taken word.Forwards d in
    let t = word_taken word.To x.4 in
    equation_with a others front f w b x.0 (t.0 ∷ []) t.1 g.ForwardsTo (grammar.forwards_to x.2 t.2) (x.3 ∙ ap (λ z. x.0 ∷ z) t.3)
    (acted t.4)
equation_of_rows a others front f w b (inr (inr (inr (inr (inr e))))) = absurd e

one_equation : (a : SpecBuilder) (others : List (List Equation)) (front : List Equation) (f : Row) (w : List Lexeme) (b : SpecBuilder)
    → OneOf (right_sides Part.Equations) f w (listed a others front) b → Makes f w (listed a others front) b
    ⊎ Element IsEquation Part.Equations f (listed a others) front w b
unfolding right_sides
one_equation a others front f w b (inl d) = inl d
one_equation a others front f w b (inr (inl d)) = inr (equation_of_rows a others front f w b (chosen d))
one_equation a others front f w b (inr (inr e)) = absurd e

next_equation : (u v : List Lexeme) (equation : Equation) (rest : List Equation) → IsEquation u equation → AreEquations v rest
    → AreEquations (u ++ v) (equation ∷ rest)
next_equation u v equation rest r s =
    let e : u ++ v ≡ r.0 ∷ (r.2 ++ r.3 ++ r.1 ∷ v) = ap (λ y. y ++ v) r.9 ∙ ap (λ y. r.0 ∷ y) (append_assoc (r.2 ++ r.3) (r.1 ∷ []) v) in
    subst (λ y. AreEquations (u ++ v) (y ∷ rest)) (sym r.10) (grammar.next r.1 r.6 r.7 r.8 s e)

equations_sound : (a : SpecBuilder) (others : List (List Equation)) (f : Row) (w : List Lexeme) (b : SpecBuilder)
    → Makes (Nonterminal Part.Equations ∷ f) w (listed a others []) b → Split AreEquations (listed a others) f w b
equations_sound a others f w b d =
    many IsEquation AreEquations grammar.nothing next_equation Part.Equations f b (listed a others)
    (λ front w d. one_equation a others front f w b (chosen d)) (length w) [] w (omega arith) d

-- a block
block_of_rows : (a : SpecBuilder) (f : Row) (w : List Lexeme) (b : SpecBuilder) → OneOf (right_sides Part.Block) f w a b
    → Split IsBlock (λ es. listed a a.equations es) f w b
unfolding right_sides
block_of_rows a f w b (inl d) =
    let o = mark_taken p.OpenBrace d in
    let s = equations_sound a a.equations (Token (kind.Mark p.CloseBrace) ∷ f) o.1 b (acted o.4) in
    let c = mark_taken p.CloseBrace s.5 in (
      o.0 ∷ (s.0 ++ c.0 ∷ []),
      c.1,
      s.2,
      record
          { open_brace = o.0; inner = s.0; close_brace = c.0; is_open = o.2; are_equations = s.3; is_close = c.2; whole = refl },
      o.3 ∙ ap (λ y. o.0 ∷ y) (joined_one s.0 s.1 c.1 c.0 o.1 s.4 c.3),
      c.4,
    )
block_of_rows a f w b (inr e) = absurd e

pub block_sound : (a : SpecBuilder) (f : Row) (w : List Lexeme) (b : SpecBuilder) → Makes (Nonterminal Part.Block ∷ f) w a b
    → Split IsBlock (λ es. record a { equations = es ∷ a.equations }) f w b
block_sound a f w b d = block_of_rows a f w b (chosen d)

-- a production
production_of_rows : (a : SpecBuilder) (f : Row) (w : List Lexeme) (b : SpecBuilder) → OneOf (right_sides Part.Production) f w a b
    → Split IsProduction (λ q. record a { productions = q ∷ a.productions }) f w b
unfolding right_sides
production_of_rows a f w b (inl d) =
    let x = name_taken d in
    let c = mark_taken p.Colon x.5 in
    let l = name_taken c.4 in
    let m = mark_taken p.Becomes l.5 in
    let named = record a { names = record { bytes = l.2; at = l.0.at } ∷ record { bytes = x.2; at = x.0.at } ∷ a.names } in
    let s = children_sound named a.children (Nonterminal Part.Block ∷ Act (Action.Item ItemAction.Production) ∷ f) m.1 b (acted m.4) in
    let t = block_sound (record named { children = s.2 ∷ a.children }) (Act (Action.Item ItemAction.Production) ∷ f) s.1 b s.5 in (
      x.0 ∷ c.0 ∷ l.0 ∷ m.0 ∷ (s.0 ++ t.0),
      t.1,
      record { name = x.2; left = l.2; children = s.2; equations = t.2 },
      whole x.3 c.2 l.3 m.2 s.3 t.3 refl,
      x.4 ∙ ap (λ y. x.0 ∷ y)
          (c.3 ∙ ap (λ y. c.0 ∷ y) (l.4 ∙ ap (λ y. l.0 ∷ y) (m.3 ∙ ap (λ y. m.0 ∷ y) (joined s.0 s.1 t.0 t.1 m.1 s.4 t.4)))),
      acted t.5,
    )
production_of_rows a f w b (inr e) = absurd e

pub production_sound : (a : SpecBuilder) (f : Row) (w : List Lexeme) (b : SpecBuilder) → Makes (Nonterminal Part.Production ∷ f) w a b
    → Split IsProduction (λ q. record a { productions = q ∷ a.productions }) f w b
production_sound a f w b d = production_of_rows a f w b (chosen d)
