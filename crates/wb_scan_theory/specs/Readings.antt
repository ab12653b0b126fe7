-- Trees and stops of a text, where a scanner says what is next.
use Rattle.std.specs.Prelude.{◌≡◌, ℕ, List, [], ◌∷◌, ◌++◌}
use Rattle.wb_base.specs.declared.symbol.Symbol.{Symbol}
use Rattle.wb_base.specs.declared.symbol.Symbol.TheVariants.{Terminal}
use Rattle.wb_base.specs.Grammar.{GrammarView}
use Rattle.wb_grammar_theory.specs.Productions.{end_of}
use Rattle.wb_grammar_theory.specs.Trees.{Forest, Leaf, leaves, DerivationTree}
use Rattle.wb_scan_theory.specs.declared.stop_kind.StopKind.{StopKind}
use Rattle.wb_scan_theory.specs.declared.stop_kind.StopKind.TheVariants.{NoToken, Unexpected}
use Rattle.wb_scan_theory.specs.Tokens.{Next, token, over, missing}

-- what is next on a text at a prefix and a place
abbrev pub Scanner : Type 1
Scanner = List Symbol → ℕ → Next → Type 0

-- the leaves are, one after another, what is next on the text: the first at this prefix and this place, and each other at the left context
-- of the one before followed by that one, from where its text ended. Behind the last stand the further prefix and place
abbrev pub AreOnText : Scanner → List Symbol → ℕ → List Leaf → List Symbol → ℕ → Type 0
AreOnText next prefix at [] prefix' at' = (prefix ≡ prefix') × (at ≡ at')
AreOnText next prefix at (x ∷ xs) prefix' at' =
    (begin after : ℕ) × next prefix at (token begin x.terminal x.text after) ×
    AreOnText next (x.context ++ Terminal x.terminal ∷ []) after xs prefix' at'

-- a tree of the text: a derivation tree whose leaves are on the text, with the end of the text next after them as the last leaf
pub record IsTreeOn (g : GrammarView) (next : Scanner) (tree : Forest) : Type 0 where
  pub is_tree : DerivationTree g tree
  pub prefix : List Symbol
  pub at : ℕ
  pub on_text : AreOnText next [] 0 (leaves [] tree) prefix at
  pub place : ℕ
  pub is_over : next prefix at (over place)

-- the terminals of leaves
abbrev pub terminals_of : List Leaf → List ℕ
terminals_of [] = []
terminals_of (x ∷ xs) = x.terminal ∷ terminals_of xs

-- some derivation tree, the last leaf `end` with it, begins with leaves of these terminals
pub record Begins (g : GrammarView) (terminals : List ℕ) : Type 0 where
  pub tree : Forest
  pub is_tree : DerivationTree g tree
  pub more : List ℕ
  pub is : terminals_of (leaves [] tree) ++ end_of g ∷ [] ≡ terminals ++ more

-- the terminal, which may be `end`, is next at the place
abbrev pub Gives : GrammarView → Next → ℕ → ℕ → Type 0
Gives g (token begin u lexeme after) t place = (u ≡ t) × (begin ≡ place)
Gives g (over at) t place = (end_of g ≡ t) × (at ≡ place)
Gives g (missing at) t place = ⊥

-- why what is next stops a text after leaves of these terminals: it is nothing, or a terminal with which no derivation tree goes on
abbrev pub StopsFor : GrammarView → Next → List ℕ → ℕ → StopKind → Type 0
StopsFor g next terminals place NoToken = next ≡ missing place
StopsFor g next terminals place (Unexpected t) = Gives g next t place × (¬ Begins g (terminals ++ t ∷ []))

-- a stop of the text: some derivation tree begins with leaves, `end` not among them, that are on the text, and what is next after them
-- stops it
pub record IsStopOn (g : GrammarView) (next : Scanner) (place : ℕ) (kind : StopKind) : Type 0 where
  pub tree : Forest
  pub is_tree : DerivationTree g tree
  pub read : List Leaf
  pub rest : List Leaf
  pub is : leaves [] tree ≡ read ++ rest
  pub prefix : List Symbol
  pub at : ℕ
  pub on_text : AreOnText next [] 0 read prefix at
  pub found : Next
  pub is_next : next prefix at found
  pub stops : StopsFor g found (terminals_of read) place kind

-- the text has an answer: a tree or a stop
pub data HasAnswerOn (g : GrammarView) (next : Scanner) : Type 0 where
  a_tree : (tree : Forest) → IsTreeOn g next tree → HasAnswerOn g next
  a_stop : (place : ℕ) (kind : StopKind) → IsStopOn g next place kind → HasAnswerOn g next
