-- The language of the union extends the host's.
use Rattle.std.proofs.Common.{◌≡◌, ◌<◌, ◌≤◌, ◌+◌, ◌-◌, ◌∙◌, ◌++◌, [], ℕ, Bool, List, Some, length, slice_get, sym, ap, subst, arith}
use Rattle.std.specs.Prelude.{None, slice_index_or}
use Rattle.wb_base.specs.declared.symbol.Symbol.{Symbol}
use Rattle.wb_base.specs.Grammar.{GrammarView}
use Rattle.wb_determinism_contexts.specs.Considered.{LexiconView}
use Rattle.wb_grammar_theory.specs.Items.{IsViablePrefix}
use Rattle.wb_scan_theory.specs.Languages.{LanguageView}
use Rattle.wb_scan_theory.specs.Winners.{HoldsOne}
use Rattle.wb_scan_theory.proofs.ForestLemmas.{append_nil}
use Rattle.wb_compose_theory_grammar.specs.Certificates.{AreCertified}
use Rattle.wb_compose_theory_grammar.specs.Unions.{added_productions}
use Rattle.wb_compose_theory_grammar.specs.UnitedWorlds.{production_sizes, united}
use Rattle.wb_compose_theory_grammar.proofs.FactLemmas.{at_map, size_at, united_len}
use Rattle.wb_compose_theory_grammar.proofs.PlaceLemmas.{within_total}
use Rattle.wb_compose_theory_language.specs.Apart.{AreWrittenApart}
use Rattle.wb_compose_theory_language.specs.Languages.{IsUnitedLanguage, span_of}
use Rattle.wb_compose_theory_language.specs.Rows.{host_row, layout_count}
use Rattle.wb_compose_theory_language.specs.Written.{WrittenPiece, host_layouts, pieces_of}
use Rattle.wb_compose_theory_language.proofs.LayoutLemmas.{Layout, hosts, layout_of, owned}
use Rattle.wb_compose_theory_language.proofs.RowLemmas.{host_past}
use Rattle.wb_reading_theory.specs.Grammars.{ExtendsGrammar, KeepsValid}
use Rattle.wb_reading_theory.specs.Languages.{ExtendsLanguage}
use Rattle.wb_reading_theory.specs.MarkingTerminals.{AreMarking}
use Rattle.wb_reading_theory.proofs.FurtherItems.{holds_none}
use Rattle.wb_reading_theory.proofs.UnionFormLemmas.{host_len, keeps_forms, number_at, union_len}
use Rattle.wb_reading_theory.proofs.UnionGrammarLemmas.{extends_grammar, keeps_valid, viable_below}

-- the union of the host and no extension is the host
pub host_alone : (host : GrammarView) (extensible : List ℕ) → united host extensible [] ≡ host
host_alone host extensible =
    let terminals : host.terminals + 0 ≡ host.terminals = omega arith in
    let nonterminals : host.nonterminals + 0 ≡ host.nonterminals = omega arith in
    let productions : host.productions ++ [] ≡ host.productions = append_nil host.productions in
    λ i. record { terminals = terminals i; nonterminals = nonterminals i; start = host.start; productions = productions i }

-- no layout of an extension is considered at a prefix of the host
no_further : (host : GrammarView) (extensible : List ℕ) (own : LexiconView) (written : List WrittenPiece) (h u : LanguageView)
    (markers : List Bool) → AreCertified host extensible (pieces_of written) → AreWrittenApart host extensible own written →
    (of_host : IsUnitedLanguage host extensible own [] h) → (of_union : IsUnitedLanguage host extensible own written u) →
    AreMarking host extensible own written markers → (prefix : List Symbol) → IsViablePrefix host prefix → (k : ℕ) →
    length h.layout ≤ k → k < length u.layout →
    ¬ HoldsOne (united host extensible (pieces_of written)) prefix (slice_index_or u.spans k None)
no_further host extensible own written h u markers certified apart of_host of_union marking prefix viable k low high holds =
    go (layout_of host extensible own written certified.are_pieces k less)
  where
    less : k < layout_count host extensible own written
    less = let len = union_len host extensible own written certified apart h u of_host of_union in omega (arith, high, len)

    far : host_layouts host own ≤ k
    far = let len = host_len host extensible own written certified apart h u of_host of_union in omega (arith, low, len)

    at : slice_get u.layout k ≡ Some ((united host extensible (pieces_of written)).terminals + k)
    at = number_at host extensible own written certified apart written u of_union k less

    held : (j : ℕ) (x : WrittenPiece) → slice_get written j ≡ Some x →
        ¬ HoldsOne (united host extensible (pieces_of written)) prefix (Some (span_of host extensible own written j x))
    held j x x_at is =
        let there = at_map (λ (y : WrittenPiece). y.piece) written j x x_at in
        let fits = within_total (production_sizes host extensible (pieces_of written)) j (added_productions host x.piece.grammar)
        (size_at host extensible (pieces_of written) (added_productions host) j x.piece there) in
        let len = united_len host extensible (pieces_of written) in
        holds_none certified.are_pieces.is_grammar (extends_grammar host extensible own written certified markers marking) prefix
        (viable_below certified.are_pieces.is_grammar prefix viable) (span_of host extensible own written j x).0
        (span_of host extensible own written j x).1 (omega arith) (omega (arith, fits, len)) is

    go : Layout host extensible own written certified.are_pieces ((united host extensible (pieces_of written)).terminals + k) → ⊥
    go (hosts t row is) =
        let back : host.terminals + (t - host.terminals) ≡ t = let a = row.0 in omega (arith, a) in
        let past = host_past host extensible own written certified.are_pieces (t - host.terminals)
        (let a = row.0 in let b = row.1 in omega (arith, a, b)) in
        let same = ap (host_row host extensible own written) back in
        let b = row.1 in omega (arith, is, past, same, far, back, b)
    go (owned j x t x_at mine is) =
        held j x x_at
        (subst (HoldsOne (united host extensible (pieces_of written)) prefix)
        (of_union.spans.of_extension k j x t x_at mine (at ∙ ap Some is)) holds)

pub extends_language : (host : GrammarView) (extensible : List ℕ) (own : LexiconView) (written : List WrittenPiece) (h u : LanguageView)
    (markers : List Bool) → AreCertified host extensible (pieces_of written) → AreWrittenApart host extensible own written →
    IsUnitedLanguage host extensible own [] h → IsUnitedLanguage host extensible own written u →
    AreMarking host extensible own written markers →
    ExtendsLanguage h u markers
extends_language host extensible own written h u markers certified apart of_host of_union marking =
    let here : host ≡ h.grammar = sym (of_host.grammar ∙ host_alone host extensible) in
    let there : united host extensible (pieces_of written) ≡ u.grammar = sym of_union.grammar in
    record {
      grammar = subst (λ g. ExtendsGrammar g u.grammar markers) here (subst (λ k. ExtendsGrammar host k markers) there
          (extends_grammar host extensible own written certified markers marking));
      valid = subst (λ g. KeepsValid g u.grammar markers) here (subst (λ k. KeepsValid host k markers) there
          (keeps_valid host extensible own written certified markers marking));
      forms = keeps_forms host extensible own written certified apart h u of_host of_union
          (ap (λ (g : GrammarView). g.terminals) (sym here));
      layout = λ prefix viable k low high.
          subst (λ g. ¬ HoldsOne g prefix (slice_index_or u.spans k None)) there
          (no_further host extensible own written h u markers certified apart of_host of_union marking prefix
          (subst (λ g. IsViablePrefix g prefix) (sym here) viable) k low high);
    }
