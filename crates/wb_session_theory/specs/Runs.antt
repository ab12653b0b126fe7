-- The machine on a text, above a prefix that it doesn't take apart.
use Rattle.std.specs.Prelude.{◌≡◌, ℕ, List, [], ◌++◌}
use Rattle.wb_base.specs.declared.symbol.Symbol.{Symbol}
use Rattle.wb_base.specs.Grammar.{GrammarView}
use Rattle.wb_grammar_theory.specs.Productions.{IsProduction, end_of, top_of}
use Rattle.wb_grammar_theory.specs.Trees.{Forest, nothing, leaf, node, symbols}
use Rattle.wb_grammar_theory.specs.Lookaheads.{CanShift, CanReduce}
use Rattle.wb_scan_theory.specs.declared.stop_kind.StopKind.{StopKind}
use Rattle.wb_scan_theory.specs.declared.stop_kind.StopKind.TheVariants.{NoToken, Unexpected}
use Rattle.wb_scan_theory.specs.Languages.{LanguageView}
use Rattle.wb_scan_theory.specs.Tokens.{Next, token, over, missing}
use Rattle.wb_scan_theory.specs.Readings.{Gives}
use Rattle.wb_scan_theory.specs.Machine.{joined}
use Rattle.wb_scan_theory.specs.Texts.{ParsesTo, StopsAt}
use Rattle.wb_scan_theory.specs.Examined.{Scans}

-- reductions before the terminal lead from the one stack to the other, none of which takes anything of the prefix below
pub data Reduces (g : GrammarView) (prefix : List Symbol) (t : ℕ) : Forest → Forest → Type 0 where
  rests : {stack stack' : Forest} → stack ≡ stack' → Reduces g prefix t stack stack'
  reduces : (p a : ℕ) (below children : Forest) {stack stack' : Forest} → stack ≡ joined below children →
      IsProduction g p a (symbols children) → CanReduce g (prefix ++ symbols stack) p t →
      Reduces g prefix t (joined below (node p a children nothing)) stack' → Reduces g prefix t stack stack'

-- token after token of the text leads from a stack and a place to others, where nothing from e on is looked at, and nothing of the prefix
-- below is taken
pub data Reads (l : LanguageView) (text : List ℕ) (e : ℕ) (prefix : List Symbol) : Forest → ℕ → Forest → ℕ → Type 0 where
  stays : {stack stack' : Forest} {at at' : ℕ} → stack ≡ stack' → at ≡ at' → Reads l text e prefix stack at stack' at'
  shifts : (begin t : ℕ) (lexeme : List ℕ) (after : ℕ) (reduced : Forest) {stack stack' : Forest} {at at' : ℕ} →
      Scans l text (prefix ++ symbols stack) e at (token begin t lexeme after) → Reduces l.grammar prefix t stack reduced →
      CanShift l.grammar (prefix ++ symbols reduced) t →
      Reads l text e prefix (joined reduced (leaf t lexeme nothing)) after stack' at' → Reads l text e prefix stack at stack' at'

-- an answer: a tree, or a stop at a place
pub data Answer : Type 0 where
  a_tree : Forest → Answer
  a_stop : ℕ → StopKind → Answer

-- the answer is that of the text
abbrev pub IsAnswer : LanguageView → List ℕ → Answer → Type 0
IsAnswer l text (a_tree tree) = ParsesTo l text tree
IsAnswer l text (a_stop place kind) = StopsAt l text place kind

-- from the stack and the place the machine ends with the answer
pub data Ends (l : LanguageView) (text : List ℕ) (e : ℕ) (stack : Forest) (at : ℕ) (answer : Answer) : Type 0 where
  accepts : (place : ℕ) (reduced : Forest) → Scans l text (symbols stack) e at (over place) →
      Reduces l.grammar [] (end_of l.grammar) stack reduced →
      CanReduce l.grammar (symbols reduced) (top_of l.grammar) (end_of l.grammar) → answer ≡ a_tree reduced → Ends l text e stack at answer
  no_token : (place : ℕ) → Scans l text (symbols stack) e at (missing place) → answer ≡ a_stop place NoToken → Ends l text e stack at answer
  unexpected : (next : Next) (t place : ℕ) (reduced : Forest) → Scans l text (symbols stack) e at next → Gives l.grammar next t place →
      Reduces l.grammar [] t stack reduced → (¬ CanShift l.grammar (symbols reduced) t) →
      ((p : ℕ) → ¬ CanReduce l.grammar (symbols reduced) p t) → answer ≡ a_stop place (Unexpected t) → Ends l text e stack at answer
