-- Lookaheads by relations between the moves by nonterminals (DeRemer and Pennello). The move (s, a) leaves the kernel s by the
-- nonterminal a.
use Rattle.std.specs.Prelude.{◌≡◌, ℕ, List, [], ◌∷◌, ◌++◌, length}
use Rattle.wb_base.specs.declared.symbol.Symbol.{Symbol}
use Rattle.wb_base.specs.declared.symbol.Symbol.TheVariants.{Terminal, Nonterminal}
use Rattle.wb_base.specs.Grammar.{GrammarView}
use Rattle.wb_grammar_theory.specs.declared.item.Item.{Item}
use Rattle.wb_grammar_theory.specs.Productions.{IsProduction, top_of, end_of}
use Rattle.wb_grammar_theory.specs.Derives.{Derives, IsNullable}
use Rattle.wb_grammar_theory.specs.Items.{after_dot, HasItem}

-- the symbols lead from a kernel to the target, one after another
pub data Path (Next : ℕ → Symbol → ℕ → Type 0) (target : ℕ) : ℕ → List Symbol → Type 0 where
  here : {s : ℕ} → s ≡ target → Path Next target s []
  step : (x : Symbol) (s' : ℕ) {s : ℕ} {w : List Symbol} → Next s x s' → Path Next target s' w → Path Next target s (x ∷ w)

-- there is a move from the kernel s by the nonterminal a
abbrev pub IsMove : (ℕ → Symbol → ℕ → Type 0) → ℕ → ℕ → Type 0
IsMove Next s a = (s' : ℕ) × Next s (Nonterminal a) s'

-- what a move reads directly: a terminal by which a move leaves the kernel that it leads to, and, for the move by the start from the
-- kernel of the empty prefix, the end of the text
pub data DirectlyReads (g : GrammarView) (Next : ℕ → Symbol → ℕ → Type 0) (s a t : ℕ) : Type 0 where
  shifts : (s' s'' : ℕ) → Next s (Nonterminal a) s' → Next s' (Terminal t) s'' → DirectlyReads g Next s a t
  at_end : s ≡ 0 → a ≡ g.start → t ≡ end_of g → DirectlyReads g Next s a t

-- the move (s, a) reads the move (s', c): it leads to s', and c derives the empty text
pub record Reads (g : GrammarView) (Next : ℕ → Symbol → ℕ → Type 0) (s a s' c : ℕ) : Type 0 where
  pub moves : Next s (Nonterminal a) s'
  pub on : IsMove Next s' c
  pub empty : IsNullable g c

-- the move (s, a) includes the move (s', b): there is a production `b -> before a behind`, where `before` leads from s' to s and `behind`
-- derives the empty text. So what comes after b at s' can come after a at s
pub record Includes (g : GrammarView) (Next : ℕ → Symbol → ℕ → Type 0) (s a s' b : ℕ) : Type 0 where
  pub moves : IsMove Next s a
  pub above : IsMove Next s' b
  pub production : ℕ
  pub right : List Symbol
  pub before : List Symbol
  pub behind : List Symbol
  pub rule : IsProduction g production b right
  pub parts : right ≡ before ++ Nonterminal a ∷ behind
  pub empty : Derives g behind []
  pub path : Path Next s s' before

-- the item at the kernel s looks back to the move (s', a): a is the left side of its production, and the symbols before its dot lead from
-- s' to s. So the production was begun at s', and there the move by a is made when it is reduced
pub record LooksBack (g : GrammarView) (Next : ℕ → Symbol → ℕ → Type 0) (s : ℕ) (item : Item) (s' a : ℕ) : Type 0 where
  pub moves : IsMove Next s' a
  pub right : List Symbol
  pub before : List Symbol
  pub rule : IsProduction g item.production a right
  pub parts : right ≡ before ++ after_dot g item
  pub dot : length before ≡ item.dot
  pub path : Path Next s s' before

-- the terminal is in the read set of the move (s, a): it is read directly by that move, or is in the read set of a move that it reads
pub data IsRead (g : GrammarView) (Next : ℕ → Symbol → ℕ → Type 0) : ℕ → ℕ → ℕ → Type 0 where
  direct : {s a t : ℕ} → DirectlyReads g Next s a t → IsRead g Next s a t
  later : (s' c : ℕ) {s a t : ℕ} → Reads g Next s a s' c → IsRead g Next s' c t → IsRead g Next s a t

-- the terminal is in the follow set of the move (s, a): it is in the read set of that move, or in the follow set of a move that it includes
pub data IsFollow (g : GrammarView) (Next : ℕ → Symbol → ℕ → Type 0) : ℕ → ℕ → ℕ → Type 0 where
  read : {s a t : ℕ} → IsRead g Next s a t → IsFollow g Next s a t
  above : (s' b : ℕ) {s a t : ℕ} → Includes g Next s a s' b → IsFollow g Next s' b t → IsFollow g Next s a t

-- the terminal is a lookahead of the item by the relations: for an item of `S' -> S` the end of the text alone, and for any other item what
-- is in the follow set of a move that it looks back to
pub data IsLookaheadByRelations (g : GrammarView) (prefix_of : ℕ → List Symbol) (Next : ℕ → Symbol → ℕ → Type 0) (s : ℕ) (item : Item)
    (t : ℕ) : Type 0 where
  whole : HasItem g (prefix_of s) item → item.production ≡ top_of g → t ≡ end_of g → IsLookaheadByRelations g prefix_of Next s item t
  back : (s' a : ℕ) → LooksBack g Next s item s' a → IsFollow g Next s' a t → IsLookaheadByRelations g prefix_of Next s item t
