-- Grammars with actions, the tokens that they derive, and the values that they make of them.
use Rattle.std.specs.Prelude.{◌≡◌, ℕ, List, [], ◌∷◌, ◌++◌, Some, slice_get}
use Rattle.wb_text_predictive.specs.declared.symbol.Symbol.{Symbol}
use Rattle.wb_text_predictive.specs.declared.symbol.Symbol.TheVariants.{Token, Nonterminal, Act}
use Rattle.wb_text_predictive.specs.declared.table.Placed.{Placed}

-- a grammar, and what it makes of a text: `K` are kinds of tokens, `N` nonterminals, `A` actions, `X` tokens, `V` values
pub record Grammar (K N A X V : Type 0) : Type 0 where
  -- the nonterminal that derives whole texts
  pub start : N
  -- the right sides of each nonterminal
  pub rights : N → List (List (Symbol K N A))
  -- the kind of each token
  pub kind_of : X → K
  -- what a token that begins at the first place and ends before the second makes of the values so far
  pub shift : X → ℕ → ℕ → V → V
  -- what an action makes of the values so far
  pub act : A → V → V

-- the symbols derive these tokens, and make of the first values the second
pub data Derives {K N A X V : Type 0} (g : Grammar K N A X V) : List (Symbol K N A) → List (Placed X) → V → V → Type 0 where
  -- nothing is left
  done : {w : List (Placed X)} {a b : V} → w ≡ [] → a ≡ b → Derives g [] w a b
  -- a token of the kind, and then the rest
  token : {k : K} {f : List (Symbol K N A)} {x : Placed X} {v w : List (Placed X)} {a b : V}
      → g.kind_of x.token ≡ k → Derives g f v (g.shift x.token x.at x.end a) b → w ≡ x ∷ v → Derives g (Token k ∷ f) w a b
  -- a nonterminal by one of its right sides
  expand : {n : N} {f right : List (Symbol K N A)} {w : List (Placed X)} {a b : V} (p : ℕ)
      → slice_get (g.rights n) p ≡ Some right → Derives g (right ++ f) w a b → Derives g (Nonterminal n ∷ f) w a b
  -- an action, which takes no token
  act : {c : A} {f : List (Symbol K N A)} {w : List (Placed X)} {a b : V} → Derives g f w (g.act c a) b → Derives g (Act c ∷ f) w a b

-- the tokens are a text of the grammar, and it makes of the first values the last
abbrev pub IsText : {K N A X V : Type 0} → Grammar K N A X V → V → List (Placed X) → V → Type 0
IsText g first tokens last = Derives g (Nonterminal g.start ∷ []) tokens first last

-- some text of the grammar begins with these tokens
pub record CanStart {K N A X V : Type 0} (g : Grammar K N A X V) (first : V) (front : List (Placed X)) : Type 0 where
  pub rest : List (Placed X)
  pub last : V
  pub text : IsText g first (front ++ rest) last
