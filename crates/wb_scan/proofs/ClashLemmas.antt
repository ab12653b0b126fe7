-- Clashes of the sets of states, and clashes of forms.
use Rattle.std.proofs.Common.{◌≡◌, ◌<◌, ℕ, Bool, List, subst, arith}
use Rattle.std.proofs.lemmas.Option.{slice_get_within}
use Rattle.wb_automata.specs.Automata.{IsConsidered}
use Rattle.wb_base.specs.declared.symbol.Symbol.{Symbol}
use Rattle.wb_base.specs.Grammar.{GrammarView}
use Rattle.wb_grammar_theory.specs.Items.{IsViablePrefix}
use Rattle.wb_items.specs.Kernels.{KernelsView, AreKernels, count_of, prefix_of}
use Rattle.wb_grammar_theory.proofs.FlowLemmas.{same_itself}
use Rattle.wb_scan_theory.specs.Languages.{LanguageView}
use Rattle.wb_scan_theory.specs.Parts.{AreTablesOf, IsPrefixOf}
use Rattle.wb_scan_theory.specs.Winners.{IsConsideredForm}
use Rattle.wb_scan_theory.proofs.PartLemmas.{state_of}
use Rattle.wb_lexical.specs.Clash.{IsClash, HasNoClash}
use Rattle.wb_lookahead.specs.Contents.{TablesView}
use Rattle.wb_lookahead.specs.Tables.{AreTables}
use Rattle.wb_scan.specs.Inner.Lexicons.{AreStateSets}
use Rattle.wb_scan.specs.Refusals.{IsFormClash}

-- a kernel's prefix is one that its number stands for
pub own_prefix : (l : LanguageView) (kernels : KernelsView) (tables : TablesView) (s : ℕ) → AreKernels kernels → AreTables kernels tables
    → kernels.grammar ≡ l.grammar → s < count_of kernels → IsPrefixOf l.grammar tables s (prefix_of kernels s)
own_prefix l kernels tables s exact tables_of same below = record {
  numbered = record { kernels = kernels; are_kernels = exact; same = same; are_tables = tables_of };
  within = below;
  viable = subst (λ (g : GrammarView). IsViablePrefix g (prefix_of kernels s)) same (exact.states.prefixes s below);
  kernel = same_itself l.grammar (prefix_of kernels s);
}

-- a clash of the sets is one of forms, at the prefix of the kernel
pub clash_of_forms : (l : LanguageView) (kernels : KernelsView) (tables : TablesView) (sets : List (List Bool)) (s left right : ℕ)
    (text : List ℕ) → AreKernels kernels → AreTables kernels tables → kernels.grammar ≡ l.grammar → AreStateSets l tables sets
    → IsClash l.expressions sets l.preferences s left right text
    → (s < count_of kernels) × IsFormClash l (prefix_of kernels s) left right text
clash_of_forms l kernels tables sets s left right text exact tables_of same are clash = (
  below,
  record {
    viable = prefix.viable;
    different = clash.different;
    left_considered = form left clash.left_in;
    right_considered = form right clash.right_in;
    left_matches = clash.left_matches;
    right_matches = clash.right_matches;
    unordered = clash.unordered;
  },
)
  where
    below : s < count_of kernels
    below =
        let within = slice_get_within sets s clash.left_in.flags clash.left_in.at in
        let count = are.count in
        let size = tables_of.count in
        omega (arith, within, count, size)

    prefix : IsPrefixOf l.grammar tables s (prefix_of kernels s)
    prefix = own_prefix l kernels tables s exact tables_of same below

    form : (t : ℕ) → IsConsidered sets s t → IsConsideredForm l (prefix_of kernels s) t
    form t = (are.each s t (prefix_of kernels s) prefix).0

-- sets without a clash are those of a language without one
pub no_clash_of_forms : (l : LanguageView) (tables : TablesView) (sets : List (List Bool)) → AreTablesOf l.grammar tables
    → AreStateSets l tables sets → HasNoClash l.expressions sets l.preferences → (prefix : List Symbol) (left right : ℕ) (text : List ℕ)
    → ¬ IsFormClash l prefix left right text
no_clash_of_forms l tables sets tables_of are never prefix left right text clash =
    let (s, is) = state_of tables_of prefix clash.viable in
    never s left right text (record {
      different = clash.different;
      left_in = set_of s is left clash.left_considered;
      right_in = set_of s is right clash.right_considered;
      left_matches = clash.left_matches;
      right_matches = clash.right_matches;
      unordered = clash.unordered;
    })
  where
    set_of : (s : ℕ) (is : IsPrefixOf l.grammar tables s prefix) (t : ℕ) → IsConsideredForm l prefix t → IsConsidered sets s t
    set_of s is t = (are.each s t prefix is).1
