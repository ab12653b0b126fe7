-- Laws of the definitions, which are proved in `src/laws.rt`.
use Rattle.std.specs.Prelude.{◌≡◌, ◌≤◌, ℕ, List, Option, All}
use Rattle.wb_base.specs.Grammar.{GrammarView, IsGrammar}
use Rattle.wb_regex.specs.Matches.{Matches}
use Rattle.wb_regex.specs.Tree.{Tree}
use Rattle.wb_scan_theory.specs.Bounds.{HasNoCycle}
use Rattle.wb_generate.specs.Outcomes.{IsOutcome}
use Rattle.wb_generate.specs.declared.generated.Generated.{Generated}

-- one answer at most is right
abbrev pub HasOneOutcome : GrammarView → List Tree → Option ℕ → ℕ → ℕ → Type 0
HasOneOutcome g expressions layout number size =
    (one other : Generated) → IsOutcome g expressions layout number size one → IsOutcome g expressions layout number size other → one ≡ other

-- the expression matches some text
abbrev pub MatchesSome : Tree → Type 0
MatchesSome tree = (text : List ℕ) × Matches tree text

-- where no nonterminal derives itself and each expression matches some text, that a number has no outcome can't be
abbrev pub HasSomeOutcome : GrammarView → List Tree → Option ℕ → ℕ → ℕ → Type 0
HasSomeOutcome g expressions layout number size =
    IsGrammar g → HasNoCycle g → All MatchesSome expressions → size ≤ 100000 →
    ¬ ¬ ((answer : Generated) × IsOutcome g expressions layout number size answer)
