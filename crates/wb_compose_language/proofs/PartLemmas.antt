-- What is made of the union is its language, with its tables and its automaton.
use Rattle.std.proofs.Common.{◌≡◌, ◌∙◌, ◌<◌, ◌+◌, ◌++◌, ℕ, List, Some, length, map, slice_get, refl, sym, ap, subst, inl, inr, arith, Bool}
use Rattle.std.specs.Prelude.{◌↔◌}
use Rattle.std.proofs.lemmas.List.FromFn.{length-range_with_len}
use Rattle.wb_automata.specs.Automata.{IsConsidered}
use Rattle.wb_base.specs.declared.symbol.Symbol.{Symbol}
use Rattle.wb_base.specs.Grammar.{GrammarView}
use Rattle.wb_determinism_contexts.specs.Parts.{ArePartsOf}
use Rattle.wb_determinism_contexts.specs.declared.parts.Parts.{Parts}
use Rattle.wb_grammar_theory.proofs.FlowLemmas.{same_itself}
use Rattle.wb_items.specs.Kernels.{count_of, prefix_of}
use Rattle.wb_scan_theory.specs.Facts.{IsDeterministic, IsWritten}
use Rattle.wb_scan_theory.specs.Languages.{LanguageView, bare, span_at}
use Rattle.wb_scan_theory.specs.Parts.{AreTablesOf, IsPrefixOf}
use Rattle.wb_scan_theory.specs.Winners.{HoldsOne, IsConsideredForm}
use Rattle.wb_scan_theory.specs.Winners as considered
use Rattle.wb_scan_theory.proofs.HasOneLemmas.{has_one}
use Rattle.wb_scan_theory.proofs.NumberingLemmas.{kernels_of}
use Rattle.wb_scan_theory.proofs.PartLemmas.{sets_everywhere, valid_at}
use Rattle.wb_lemmas.proofs.Places.{at_within}
use Rattle.wb_lookahead.specs.Contents.{valid_of}
use Rattle.wb_compose_theory_language.specs.Languages.{AreSpans}
use Rattle.wb_compose_theory_language.proofs.LanguageLemmas.{decided, is_written}
use Rattle.wb_compose_language.specs.declared.addition.Lent.{Lent}
use Rattle.wb_compose_language.specs.Lents.{IsUnitable, all_in, own_in}
use Rattle.wb_compose_language.specs.declared.united.Made.{Made}
use Rattle.wb_compose_language.specs.declared.united.Written.{Written}
use Rattle.wb_compose_language.specs.Inner.Layouts.{layouts_in}
use Rattle.wb_compose_language.specs.Inner.Made.{IsMade, IsWrittenBy, language_of}
use Rattle.wb_compose_language.specs.Inner.Opened.{union_terminals}
use Rattle.wb_compose_language.specs.Inner.Rows.{grammar_of}
use Rattle.wb_compose_language.specs.Inner.Sets.{IsFormAt}
use Rattle.wb_compose_language.specs.United.{IsUnion}
use Rattle.wb_compose_language.proofs.SpanLemmas.{spans_are}
use Rattle.wb_compose_language.proofs.UnionLemmas.{deterministic}

module _ (lent : Lent) (ok : IsUnitable lent) (g : GrammarView) (parts : Parts) (text : Written) (same : g ≡ grammar_of lent)
    (are : ArePartsOf g parts) (is : IsWrittenBy lent parts text) where
  abbrev made : Made
  made = record { tables = parts.tables; rows = text.rows; scanned = text.scanned }

  abbrev l : LanguageView
  l = language_of g made

  -- the language is the union's
  union : IsUnion lent l
  union = record {
    grammar = same;
    forms = is.scanned.forms;
    layout = is.layout;
    spans = subst (λ ls. AreSpansIn ls) (sym is.layout) (spans_are lent text.rows.spans.items is.spans);
    expressions_len = is.scanned.expressions.len ∙ ap (λ ls. length l.forms + length ls) (sym is.layout);
    expressions = λ place form at text. is.scanned.expressions.each place form
        (subst (λ ls. slice_get (l.forms ++ map bare ls) place ≡ Some form) is.layout at) text;
    preferences = is.preferences;
  }
    where
      AreSpansIn : List ℕ → Type 0
      AreSpansIn ls = AreSpans lent.grammar.now lent.extensible.now (own_in lent) (all_in lent) ls text.rows.spans.items

  written : IsWritten l
  written = is_written lent.grammar.now lent.extensible.now (own_in lent) (all_in lent) l ok.certified ok.apart union is.scanned.no_empty

  det : IsDeterministic g
  det = subst IsDeterministic (sym same) (deterministic lent ok)

  abbrev numbered : AreTablesOf g parts.tables
  numbered = record { kernels = parts.kernels; are_kernels = are.kernels; same = are.grammar; are_tables = are.tables }

  -- there is a span for each layout
  spans_len : length l.spans ≡ length l.layout
  spans_len =
      is.spans.len ∙ (sym (length-range_with_len (union_terminals lent) (layouts_in lent)) ∙ ap length (sym is.layout))

  -- what is considered at the prefix of a kernel
  module _ (s place : ℕ) (below : s < count_of parts.kernels) where
    at_state : IsPrefixOf g parts.tables s (prefix_of parts.kernels s)
    at_state = record {
      numbered = numbered;
      within = below;
      viable = (kernels_of numbered).states.prefixes s below;
      kernel = same_itself g (prefix_of parts.kernels s);
    }

    there : IsFormAt parts.kernels s (valid_of parts.tables s) l.forms l.spans place →
        IsConsideredForm l (prefix_of parts.kernels s) place
    there (inl form) =
        let low = written.forms_below place form.form form.at in
        considered.valid form.form form.at ((valid_at at_state form.form.terminal (omega (arith, low))).0 form.has)
    there (inr (from, to, holds)) =
        let len = spans_len in
        considered.layout (from, omega (arith, to, len))
        (subst (λ h. HoldsOne h (prefix_of parts.kernels s) (span_at l place)) are.grammar holds)

    back : IsConsideredForm l (prefix_of parts.kernels s) place →
        IsFormAt parts.kernels s (valid_of parts.tables s) l.forms l.spans place
    back (considered.valid form at v) =
        let low = written.forms_below place form at in
        inl (record { form = form; at = at; has = (valid_at at_state form.terminal (omega (arith, low))).1 v })
    back (considered.layout (from, to) holds) =
        let len = spans_len in
        inr (
          from,
          omega (arith, to, len),
          subst (λ h. HoldsOne h (prefix_of parts.kernels s) (span_at l place)) (sym are.grammar) holds,
        )

    sets_at : IsConsidered text.scanned.automaton.sets s place ↔ IsConsideredForm l (prefix_of parts.kernels s) place
    sets_at = (
      λ c. there ((is.scanned.sets.each s c.flags c.at place).0 c.has),
      λ form.
          (let len = is.scanned.sets.len in
          let count = are.tables.count in
          let (flags, at) = at_within text.scanned.automaton.sets s (omega (arith, below, len, count)) in
          record { flags = flags; at = at; has = (is.scanned.sets.each s flags at place).1 (back form) }),
    )

  pub is_made : IsMade lent g made
  is_made = record {
    parts = record {
      language = record {
        deterministic = det;
        written = written;
        winners = has_one l made.tables written numbered
            (decided lent.grammar.now lent.extensible.now (own_in lent) (all_in lent) l ok.certified ok.apart union);
      };
      tables_of = numbered;
      expressions = refl;
      count = is.scanned.sets.len;
      sets = sets_everywhere l parts.tables text.scanned.automaton.sets det.in_range numbered sets_at;
    };
    union = union;
    withdrawn = is.scanned.withdrawn;
  }
