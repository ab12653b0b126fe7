-- Which tokens are which expression.
use Rattle.std.specs.Prelude.{◌≡◌, ℕ, ℤ, true, false, List, [], ◌∷◌, ◌++◌}
use Rattle.wb_text_tokens.specs.declared.word.Word.TheVariants as w
use Rattle.wb_text_tokens.specs.declared.punctuation.Punctuation.TheVariants as p
use Rattle.wb_syntax.specs.Tokens.{Lexeme, IsWord, IsMark, IsName, IsInt, IsString}
use Rattle.wb_syntax.specs.Expression.{Expression, Expressions}
use Rattle.wb_syntax_expressions.specs.Expression.{Int, Text, Truth, Label, Read, Lexeme as LexemeOf, Top, Forward, Build, Call, If, none}
use Rattle.wb_syntax_expressions.specs.Expression.{more}

mutual
  -- the tokens are this expression
  pub data IsExpression : List Lexeme → Expression → Type 0 where
    -- INT | STRING | 'true' | 'false'
    number : {x : Lexeme} {z : ℤ} → IsInt z x → IsExpression (x ∷ []) (Int z)
    text : {x : Lexeme} {s : List ℕ} → IsString s x → IsExpression (x ∷ []) (Text s)
    holds : {x : Lexeme} → IsWord w.True x → IsExpression (x ∷ []) (Truth true)
    fails : {x : Lexeme} → IsWord w.False x → IsExpression (x ∷ []) (Truth false)
    -- NAME | NAME '.' NAME | NAME '.' 'lexeme'
    label : {x : Lexeme} {l : List ℕ} → IsName l x → IsExpression (x ∷ []) (Label l)
    read : {x d y : Lexeme} {l a : List ℕ} → IsName l x → IsMark p.Dot d → IsName a y → IsExpression (x ∷ d ∷ y ∷ []) (Read l a)
    lexeme : {x d y : Lexeme} {l : List ℕ} → IsName l x → IsMark p.Dot d → IsWord w.Lexeme y → IsExpression (x ∷ d ∷ y ∷ []) (LexemeOf l)
    -- 'top' '.' NAME | 'forward' '.' NAME
    top : {x d y : Lexeme} {a : List ℕ} → IsWord w.Top x → IsMark p.Dot d → IsName a y → IsExpression (x ∷ d ∷ y ∷ []) (Top a)
    forward : {x d y : Lexeme} {a : List ℕ} → IsWord w.Forward x → IsMark p.Dot d → IsName a y → IsExpression (x ∷ d ∷ y ∷ []) (Forward a)
    -- NAME '(' [expr (',' expr)*] ')'
    build : {x o : Lexeme} (c : Lexeme) {name : List ℕ} {u v : List Lexeme} {es : Expressions} → IsName name x → IsMark p.OpenParenthesis o
        → AreArguments u es → IsMark p.CloseParenthesis c → v ≡ x ∷ o ∷ (u ++ c ∷ []) → IsExpression v (Build name es)
    -- '@' NAME '(' [expr (',' expr)*] ')'
    call : {a x o : Lexeme} (c : Lexeme) {name : List ℕ} {u v : List Lexeme} {es : Expressions} → IsMark p.At a → IsName name x
        → IsMark p.OpenParenthesis o → AreArguments u es → IsMark p.CloseParenthesis c → v ≡ a ∷ x ∷ o ∷ (u ++ c ∷ [])
        → IsExpression v (Call name es)
    -- 'if' expr 'then' expr 'else' expr
    if_then : {i : Lexeme} (t e : Lexeme) {u v x y : List Lexeme} {condition one other : Expression} → IsWord w.If i
        → IsExpression u condition
        → IsWord w.Then t → IsExpression v one → IsWord w.Else e → IsExpression x other → y ≡ i ∷ (u ++ t ∷ (v ++ e ∷ x))
        → IsExpression y (If condition one other)

  -- the tokens are these expressions with commas between them, or nothing
  pub data AreArguments : List Lexeme → Expressions → Type 0 where
    nothing : AreArguments [] none
    some : {u v x : List Lexeme} {e : Expression} {es : Expressions} → IsExpression u e → AreFurther v es → x ≡ u ++ v
        → AreArguments x (more e es)

  -- the tokens are these expressions with a comma before each
  pub data AreFurther : List Lexeme → Expressions → Type 0 where
    no_more : AreFurther [] none
    next : {c : Lexeme} {u v x : List Lexeme} {e : Expression} {es : Expressions} → IsMark p.Comma c → IsExpression u e → AreFurther v es
        → x ≡ c ∷ (u ++ v) → AreFurther x (more e es)
