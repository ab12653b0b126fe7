-- The machine on a text, where so many roots at the bottom of the stack are never taken.
use Rattle.std.specs.Prelude.{◌≡◌, ◌≤◌, ℕ, List}
use Rattle.wb_base.specs.Grammar.{GrammarView}
use Rattle.wb_grammar_theory.specs.Productions.{IsProduction}
use Rattle.wb_grammar_theory.specs.Trees.{Forest, nothing, leaf, node, symbols}
use Rattle.wb_grammar_theory.specs.Lookaheads.{CanShift, CanReduce}
use Rattle.wb_scan_theory.specs.Languages.{LanguageView}
use Rattle.wb_scan_theory.specs.Tokens.{token}
use Rattle.wb_scan_theory.specs.Machine.{joined}
use Rattle.wb_scan_theory.specs.Examined.{Scans}
use Rattle.wb_session_theory.specs.Frames.{roots}

-- reductions before the terminal, each of which leaves so many roots below its children
pub data ReducesOver (g : GrammarView) (n t : ℕ) : Forest → Forest → Type 0 where
  rest : {stack stack' : Forest} → stack ≡ stack' → ReducesOver g n t stack stack'
  reduce : (p a : ℕ) (below children : Forest) {stack stack' : Forest} → stack ≡ joined below children → n ≤ roots below →
      IsProduction g p a (symbols children) → CanReduce g (symbols stack) p t →
      ReducesOver g n t (joined below (node p a children nothing)) stack' → ReducesOver g n t stack stack'

-- tokens with such reductions
pub data ReadsOver (l : LanguageView) (text : List ℕ) (e n : ℕ) : Forest → ℕ → Forest → ℕ → Type 0 where
  stay : {stack stack' : Forest} {at at' : ℕ} → stack ≡ stack' → at ≡ at' → ReadsOver l text e n stack at stack' at'
  shift : (begin t : ℕ) (lexeme : List ℕ) (after : ℕ) (reduced : Forest) {stack stack' : Forest} {at at' : ℕ} →
      Scans l text (symbols stack) e at (token begin t lexeme after) → ReducesOver l.grammar n t stack reduced →
      CanShift l.grammar (symbols reduced) t → ReadsOver l text e n (joined reduced (leaf t lexeme nothing)) after stack' at' →
      ReadsOver l text e n stack at stack' at'
