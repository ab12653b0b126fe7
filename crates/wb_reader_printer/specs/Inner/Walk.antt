-- Expressions in a list of nodes, and what of them is still to come.
use Rattle.std.specs.Prelude.{◌≡◌, ℕ, ◌+◌, Bool, true, false, List, [], ◌∷◌, ◌++◌, length}
use Rattle.wb_text_tokens.specs.declared.token.Token.{Token}
use Rattle.wb_text_tokens.specs.declared.token.Token.TheVariants as t
use Rattle.wb_text_tokens.specs.declared.word.Word.TheVariants as w
use Rattle.wb_text_tokens.specs.declared.punctuation.Punctuation.TheVariants as p
use Rattle.wb_syntax.specs.Expression.{Node}
use Rattle.wb_syntax.specs.Expression.{Expression, Expressions}
use Rattle.wb_syntax_expressions.specs.Expression.{size, size_of_all}
use Rattle.wb_syntax_expressions.specs.Places.{Stands, AllStand}
use Rattle.wb_reader_printer.specs.Inner.ExpressionTokens.{expression_tokens, arguments_tokens, further_tokens}
use Rattle.wb_reader_printer.specs.declared.expressions.Waiting.{Waiting}
use Rattle.wb_reader_printer.specs.declared.expressions.Waiting.TheVariants.{Whole, Arguments, Then, Else}
use Rattle.wb_reader_printer.specs.Inner.Output.{Output, after}

-- what comes before an argument: nothing before the first one
abbrev pub separator : Bool → List Token
separator true = []
separator false = t.Punctuation p.Comma ∷ []

-- the arguments that are left, the first of which has no comma before it or has one
abbrev pub left_tokens : Bool → Expressions → List Token
left_tokens true es = arguments_tokens es
left_tokens false es = further_tokens es

-- these tokens are still to come of an expression that has begun, or of one that has not, with this many nodes
abbrev pub Comes : List Node → Waiting → List Token → ℕ → Type 0
Comes nodes (Whole place) tokens count = (e : Expression) × Stands nodes place e × (tokens ≡ expression_tokens e) × (count ≡ size e)
Comes nodes (Arguments first places) tokens count =
    (es : Expressions) × AllStand nodes places.now es × (tokens ≡ left_tokens first es ++ t.Punctuation p.CloseParenthesis ∷ [])
    × (count ≡ size_of_all es)
Comes nodes (Then holds fails) tokens count =
    (one : Expression) × (other : Expression) × Stands nodes holds one × Stands nodes fails other
    × (tokens ≡ t.Word w.Then ∷ (expression_tokens one ++ t.Word w.Else ∷ expression_tokens other)) × (count ≡ size one + size other)
Comes nodes (Else fails) tokens count =
    (other : Expression) × Stands nodes fails other × (tokens ≡ t.Word w.Else ∷ expression_tokens other) × (count ≡ size other)

-- these tokens are still to come of expressions, the innermost first, with this many nodes
abbrev pub AreToCome : List Node → List Waiting → List Token → ℕ → Type 0
AreToCome nodes [] tokens count = (tokens ≡ []) × (count ≡ 0)
AreToCome nodes (first ∷ rest) tokens count =
    (a : List Token) × (b : List Token) × (c : ℕ) × (d : ℕ) × Comes nodes first a c × AreToCome nodes rest b d × (tokens ≡ a ++ b)
    × (count ≡ c + d)

-- what was to come then is what is put since and is to come now, but for this many nodes
abbrev pub Continues : List Node → Output → List Waiting → Output → List Waiting → ℕ → Type 0
Continues nodes before then_waiting behind waiting visited =
    (tokens : List Token) (count : ℕ) → AreToCome nodes then_waiting tokens count
    → (more : List Token) × (left : ℕ) × AreToCome nodes waiting more left × (left + visited ≡ count)
    × (after behind more ≡ after before tokens)

-- the whole at this place and what is to come after it are what is left of the expression, of which this many nodes were visited
abbrev pub IsVisiting : List Node → Output → Output → ℕ → List Waiting → ℕ → Expression → Type 0
IsVisiting nodes before behind place stack visited e =
    (tokens : List Token) × (count : ℕ) × AreToCome nodes (Whole place ∷ stack) tokens count × (count + visited ≡ length nodes)
    × (after behind tokens ≡ after before (expression_tokens e))
