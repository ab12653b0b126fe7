-- The entry of a production in the list of left sides and widths.
use Rattle.std.proofs.Common.{◌≡◌, ◌<◌, ℕ, List, length, subst, sym, arith}
use Rattle.std.specs.Prelude.{slice_index_or}
use Rattle.std.proofs.lemmas.Option.{slice_get-get_or}
use Rattle.wb_base.specs.Grammar.{GrammarView}
use Rattle.wb_lookahead.specs.Contents.{TablesView}
use Rattle.wb_scan_theory.specs.Parts.{AreTablesOf}
use Rattle.wb_parser_states.specs.declared.rules.Rule.{Rule}
use Rattle.wb_parser_states.specs.Rules.{AreRules, IsRule}
use Rattle.wb_parser_states.proofs.TableLemmas.{nonterminals_of}

-- what stands past the end of the list
abbrev pub no_rule : Rule
no_rule = record { left = 0; width = 0 }

-- it is that of the production
pub rule_at : (g : GrammarView) (rules : List Rule) (p : ℕ) (d : Rule) → AreRules g rules → p < length g.productions →
    IsRule g p (slice_index_or rules p d)
rule_at g rules p d are lt = are.each p (slice_index_or rules p d) (slice_get-get_or rules p d (omega (arith, lt, are.count)))

-- the same, where the list goes so far
pub rule_within : (g : GrammarView) (rules : List Rule) (p : ℕ) (d : Rule) → AreRules g rules → p < length rules →
    IsRule g p (slice_index_or rules p d)
rule_within g rules p d are lt = are.each p (slice_index_or rules p d) (slice_get-get_or rules p d lt)

-- and its left side has a column in the tables
pub left_below : (g : GrammarView) (tables read : TablesView) (p : ℕ) (rule : Rule) → AreTablesOf g tables → read ≡ tables →
    IsRule g p rule → rule.left < read.nonterminals
left_below g tables read p rule of same is =
    subst (λ (t : TablesView). rule.left < t.nonterminals) (sym same) (subst (λ (n : ℕ). rule.left < n) (sym (nonterminals_of of)) is.below)
