-- What a call answers: a text with its leaves, or that each text has too many.
use Rattle.std.specs.Prelude.{◌≡◌, ◌<◌, ◌≤◌, ℕ, List, Option, [], length}
use Rattle.wb_base.specs.Grammar.{GrammarView}
use Rattle.wb_regex.specs.Tree.{Tree}
use Rattle.wb_grammar_theory.specs.Trees.{Forest, DerivationTree, leaves}
use Rattle.wb_scan_theory.specs.Bounds.{count}
use Rattle.wb_scan_theory.specs.Readings.{terminals_of}
use Rattle.wb_generate.specs.Counts.{IsLeast}
use Rattle.wb_generate.specs.Making.{IsMade}
use Rattle.wb_generate.specs.Texts.{IsWritten}
use Rattle.wb_generate.specs.declared.generated.Generated.{Generated}
use Rattle.wb_generate.specs.declared.generated.Generated.TheVariants.{Text, NoSentence}

-- the text is that of the leaves which the start becomes. They are those of a derivation tree, and no more than there may be
pub record IsSentence (g : GrammarView) (expressions : List Tree) (layout : Option ℕ) (number size : ℕ) (text : List ℕ) (many : ℕ) : Type 0
  where
    pub made : List ℕ
    pub is_made : IsMade g 100001 size number made
    pub written : IsWritten expressions layout made text
    pub tree : Forest
    pub derived : DerivationTree g tree
    pub of_tree : terminals_of (leaves [] tree) ≡ made
    pub length_is : many ≡ length made
    pub few : many ≤ size

-- each derivation tree has more leaves than there may be. The number is the least that one has, or 100,001 where that is greater
pub record HasNoSentence (g : GrammarView) (size n : ℕ) : Type 0 where
  pub each : (tree : Forest) → DerivationTree g tree → size < count tree
  pub least : IsLeast g 100001 g.start n

-- what is answered: a sentence, or that there is none
abbrev pub IsOutcome : GrammarView → List Tree → Option ℕ → ℕ → ℕ → Generated → Type 0
IsOutcome g expressions layout number size (Text text many) = IsSentence g expressions layout number size text many
IsOutcome g expressions layout number size (NoSentence n) = HasNoSentence g size n
