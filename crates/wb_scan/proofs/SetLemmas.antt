-- What is considered at states, by sets of terminals.
use Rattle.std.proofs.Common.{◌<◌, ◌∙◌, ℕ, Bool, List, sym, subst, inl, inr, arith}
use Rattle.wb_lemmas.proofs.Places.{at_within}
use Rattle.wb_base.specs.declared.symbol.Symbol.{Symbol}
use Rattle.wb_base.specs.Grammar.{GrammarView}
use Rattle.wb_determinism_contexts.specs.Considered.{LexiconView}
use Rattle.wb_determinism_contexts.specs.Considered as context
use Rattle.wb_determinism_contexts.specs.Parts.{ArePartsOf}
use Rattle.wb_determinism_contexts.specs.Sets.{AreConsideredSets}
use Rattle.wb_determinism_contexts.specs.declared.parts.Parts.{Parts}
use Rattle.wb_grammar_theory.specs.Lookaheads.{IsValidTerminal}
use Rattle.wb_items.specs.Kernels.{KernelsView, count_of, prefix_of}
use Rattle.wb_scan_theory.specs.declared.form.Form.{Form}
use Rattle.wb_scan_theory.specs.Languages.{LanguageView, bare}
use Rattle.wb_scan_theory.specs.Parts.{IsPrefixOf}
use Rattle.wb_scan_theory.specs.Winners.{IsConsideredForm}
use Rattle.wb_scan_theory.specs.Winners as considered
use Rattle.wb_scan_theory.proofs.PartLemmas.{valid_at}
use Rattle.wb_lookahead.specs.Contents.{TablesView}
use Rattle.wb_lookahead.specs.Tables.{AreTables}
use Rattle.wb_regex.specs.Tree.{Tree}
use Rattle.wb_scan.specs.Bare.{language_with, AreWrittenFor}
use Rattle.wb_scan.specs.Inner.Lexicons.{IsLexiconOf, AreStateSets}
use Rattle.wb_scan.proofs.FormLemmas.{bare_at, bare_below, bare_is, bare_len}

module _ (kernels : KernelsView) (tables : TablesView) (lexicon : LexiconView) (expressions : List Tree) (layout : List ℕ)
    (preferences : List (ℕ × ℕ)) (tables_of : AreTables kernels tables)
    (written : AreWrittenFor kernels.grammar.terminals expressions layout preferences)
    (is : IsLexiconOf (language_with kernels.grammar expressions layout preferences) lexicon) where
  abbrev l : LanguageView
  l = language_with kernels.grammar expressions layout preferences

  there : (s : ℕ) → s < count_of kernels → (prefix : List Symbol) → IsPrefixOf kernels.grammar tables s prefix → (place : ℕ)
      → context.IsConsideredAt kernels.grammar lexicon (prefix_of kernels s) place → IsConsideredForm l prefix place
  there s below prefix at place (inl (scanned, can)) =
      let count = is.scanned in
      let t : place < kernels.grammar.terminals = omega (arith, scanned, count) in
      considered.valid (bare place) (bare_at kernels.grammar.terminals place t)
      ((valid_at at place (omega (arith, t))).0 (((tables_of.valid s below).each place (omega (arith, t))).1 can))
  there s below prefix at place (inr (inl has)) =
      let (from, to) = (is.layout place).0 has in
      let len = bare_len kernels.grammar.terminals in
      let total = written.count in
      considered.layout (omega (arith, from, len), omega (arith, to, len, total)) tt
  there s below prefix at place (inr (inr own)) = absurd (is.own_layout place own.0)

  back : (s : ℕ) → s < count_of kernels → (prefix : List Symbol) → IsPrefixOf kernels.grammar tables s prefix → (place : ℕ)
      → IsConsideredForm l prefix place → context.IsConsideredAt kernels.grammar lexicon (prefix_of kernels s) place
  back s below prefix at place (considered.valid form form_at can) =
      let t = bare_below kernels.grammar.terminals place form form_at in
      let count = is.scanned in
      let own : IsValidTerminal kernels.grammar prefix place =
      subst (λ (f : Form). IsValidTerminal kernels.grammar prefix f.terminal) (sym (bare_is kernels.grammar.terminals place form form_at)) can in
      let member = (valid_at at place (omega (arith, t))).1 own in
      inl (omega (arith, t, count), ((tables_of.valid s below).each place (omega (arith, t))).0 member)
  back s below prefix at place (considered.layout inside holds) =
      let len = bare_len kernels.grammar.terminals in
      let total = written.count in
      let from = inside.0 in
      let to = inside.1 in
      inr (inl ((is.layout place).1 (omega (arith, from, len), omega (arith, to, len, total))))

  -- the sets are those of the states
  pub state_sets : (sets : List (List Bool)) → AreConsideredSets kernels lexicon (count_of kernels) sets
      → AreStateSets (language_with kernels.grammar expressions layout preferences) tables sets
  state_sets sets are = record {
    count = are.len ∙ sym tables_of.count;
    each = λ s place prefix at. (
      λ is_in. there s (within s prefix at) prefix at place (((are.each s is_in.flags is_in.at).each place).0 is_in.has),
      λ form. let (flags, flags_at) = at_within sets s (let len = are.len in let lt = within s prefix at in omega (arith, lt, len)) in
          record {
            flags = flags;
            at = flags_at;
            has = ((are.each s flags flags_at).each place).1 (back s (within s prefix at) prefix at place form);
          },
    );
  }
    where
      within : (s : ℕ) (prefix : List Symbol) → IsPrefixOf kernels.grammar tables s prefix → s < count_of kernels
      within s prefix at =
          let lt = at.within in
          let own = at.numbered.are_tables.count in
          let count = tables_of.count in
          omega (arith, lt, own, count)

-- the same of a grammar's parts
pub sets_on : (g : GrammarView) (parts : Parts) (lexicon : LexiconView) (expressions : List Tree) (layout : List ℕ)
    (preferences : List (ℕ × ℕ)) → ArePartsOf g parts → AreWrittenFor g.terminals expressions layout preferences
    → IsLexiconOf (language_with g expressions layout preferences) lexicon → (sets : List (List Bool))
    → AreConsideredSets parts.kernels lexicon (count_of parts.kernels) sets
    → AreStateSets (language_with g expressions layout preferences) parts.tables sets
sets_on g parts lexicon expressions layout preferences are written is sets are_sets =
    subst (λ (h : GrammarView). AreWrittenFor h.terminals expressions layout preferences
    → IsLexiconOf (language_with h expressions layout preferences) lexicon
    → AreStateSets (language_with h expressions layout preferences) parts.tables sets) are.grammar
    (λ written is. state_sets parts.kernels parts.tables lexicon expressions layout preferences are.tables written is sets are_sets) written is
