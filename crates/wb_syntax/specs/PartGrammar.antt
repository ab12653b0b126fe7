-- Which tokens are which kinds, needs, children and equations.
use Rattle.std.specs.Prelude.{◌≡◌, ℕ, List, [], ◌∷◌, ◌++◌, Option, Some, None}
use Rattle.wb_text_tokens.specs.declared.word.Word.TheVariants as word
use Rattle.wb_text_tokens.specs.declared.punctuation.Punctuation.TheVariants as p
use Rattle.wb_syntax.specs.declared.production.NamedKind.{NamedKind}
use Rattle.wb_syntax.specs.declared.production.NamedKind.TheVariants as k
use Rattle.wb_syntax.specs.declared.production.Child.{Child}
use Rattle.wb_syntax.specs.declared.expression.Equation.{Equation}
use Rattle.wb_syntax.specs.declared.expression.Target.{Target}
use Rattle.wb_syntax.specs.declared.expression.Target.TheVariants as g
use Rattle.wb_syntax.specs.Tokens.{Lexeme, IsWord, IsMark, IsName}
use Rattle.wb_syntax.specs.Expression.{Expression}
use Rattle.wb_syntax_expressions.specs.Expression.{nodes_of}
use Rattle.wb_syntax.specs.ExpressionGrammar.{IsExpression}

-- kind = 'int' | 'bool' | 'text' | NAME
pub data IsKind : List Lexeme → NamedKind → Type 0 where
  int : {x : Lexeme} → IsWord word.Int x → IsKind (x ∷ []) k.Int
  bool : {x : Lexeme} → IsWord word.Bool x → IsKind (x ∷ []) k.Bool
  text : {x : Lexeme} → IsWord word.Text x → IsKind (x ∷ []) k.Text
  name : {x : Lexeme} {n : List ℕ} → IsName n x → IsKind (x ∷ []) (k.Name n)

-- the tokens are names with a comma before each
pub data AreFurtherNames : List Lexeme → List (List ℕ) → Type 0 where
  nothing : AreFurtherNames [] []
  next : {c x : Lexeme} {v : List Lexeme} {n : List ℕ} {ns : List (List ℕ)} → IsMark p.Comma c → IsName n x → AreFurtherNames v ns
      → AreFurtherNames (c ∷ x ∷ v) (n ∷ ns)

-- the tokens are names with commas between them, or nothing
pub data AreNames : List Lexeme → List (List ℕ) → Type 0 where
  nothing : AreNames [] []
  some : {x : Lexeme} {v : List Lexeme} {n : List ℕ} {ns : List (List ℕ)} → IsName n x → AreFurtherNames v ns → AreNames (x ∷ v) (n ∷ ns)

-- needs = 'needs' '{' [NAME (',' NAME)*] '}'
pub record AreNeeds (w : List Lexeme) (names : List (List ℕ)) : Type 0 where
  pub needs : Lexeme
  pub open_brace : Lexeme
  pub listed : List Lexeme
  pub close_brace : Lexeme
  pub is_needs : IsWord word.Needs needs
  pub is_open : IsMark p.OpenBrace open_brace
  pub are_names : AreNames listed names
  pub is_close : IsMark p.CloseBrace close_brace
  pub whole : w ≡ needs ∷ open_brace ∷ (listed ++ close_brace ∷ [])

-- needs, or nothing
pub data AreOptionalNeeds : List Lexeme → Option (List (List ℕ)) → Type 0 where
  absent : AreOptionalNeeds [] None
  written : {w : List Lexeme} {names : List (List ℕ)} → AreNeeds w names → AreOptionalNeeds w (Some names)

-- child*, where child = NAME ':' kind
pub data AreChildren : List Lexeme → List Child → Type 0 where
  nothing : AreChildren [] []
  next : {x c : Lexeme} {u v y : List Lexeme} {label : List ℕ} {kind : NamedKind} {rest : List Child} → IsName label x → IsMark p.Colon c
      → IsKind u kind → AreChildren v rest → y ≡ x ∷ c ∷ (u ++ v) → AreChildren y (record { label = label; kind = kind } ∷ rest)

-- what comes before the expression of an equation
pub data IsTarget : List Lexeme → Target → Type 0 where
  -- 'top' '.' NAME '='
  top : {x d y e : Lexeme} {a : List ℕ} → IsWord word.Top x → IsMark p.Dot d → IsName a y → IsMark p.Equals e
      → IsTarget (x ∷ d ∷ y ∷ e ∷ []) (g.Top a)
  -- NAME '.' NAME '='
  label : {x d y e : Lexeme} {l a : List ℕ} → IsName l x → IsMark p.Dot d → IsName a y → IsMark p.Equals e
      → IsTarget (x ∷ d ∷ y ∷ e ∷ []) (g.Label l a)
  -- 'forward' '.' NAME '='
  forward : {x d y e : Lexeme} {a : List ℕ} → IsWord word.Forward x → IsMark p.Dot d → IsName a y → IsMark p.Equals e
      → IsTarget (x ∷ d ∷ y ∷ e ∷ []) (g.Forward a)
  -- 'local' NAME ':' NAME '='
  local : {x l c n e : Lexeme} {label nonterminal : List ℕ} → IsWord word.Local x → IsName label l → IsMark p.Colon c → IsName nonterminal n
      → IsMark p.Equals e → IsTarget (x ∷ l ∷ c ∷ n ∷ e ∷ []) (g.Local label nonterminal)
  -- 'forwards' 'to'
  forwards_to : {x t : Lexeme} → IsWord word.Forwards x → IsWord word.To t → IsTarget (x ∷ t ∷ []) g.ForwardsTo

-- equation*, where each is a target with an expression and ';'. An equation has the place of its first token
pub data AreEquations : List Lexeme → List Equation → Type 0 where
  nothing : AreEquations [] []
  next : {x : Lexeme} (s : Lexeme) {u v r y : List Lexeme} {target : Target} {e : Expression} {rest : List Equation}
      → IsTarget (x ∷ u) target
      → IsExpression v e → IsMark p.Semicolon s → AreEquations r rest → y ≡ x ∷ (u ++ v ++ s ∷ r)
      → AreEquations y (record { offset = x.at; target = target; nodes = nodes_of e } ∷ rest)

-- block = '{' equation* '}'
pub record IsBlock (w : List Lexeme) (equations : List Equation) : Type 0 where
  pub open_brace : Lexeme
  pub inner : List Lexeme
  pub close_brace : Lexeme
  pub is_open : IsMark p.OpenBrace open_brace
  pub are_equations : AreEquations inner equations
  pub is_close : IsMark p.CloseBrace close_brace
  pub whole : w ≡ open_brace ∷ (inner ++ close_brace ∷ [])
