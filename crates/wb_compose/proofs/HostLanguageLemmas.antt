-- The language of a host by itself is composed of the host and no extensions.
use Rattle.std.proofs.Common.{◌≡◌, ◌<◌, ◌≤◌, ◌+◌, ◌-◌, ◌∙◌, ◌++◌, [], ◌∷◌, ℕ, zero, suc, List, Option, None, Some, All, inl, inr}
use Rattle.std.proofs.Common.{length, map, refl, sym, ap, subst, arith}
use Rattle.std.specs.Prelude.{◌↔◌, Contains, slice_get, slice_index_or}
use Rattle.std.specs.List.{AllZip, range_with_len}
use Rattle.std.proofs.lemmas.Bool.{cases_lt}
use Rattle.std.proofs.lemmas.List.{append-nil, length-map}
use Rattle.std.proofs.lemmas.List.Elements.{All-nil}
use Rattle.std.proofs.lemmas.List.FromFn.{length-range_with_len, get_or-range_with_len}
use Rattle.std.proofs.lemmas.Option.{slice_get_within}
use Rattle.wb_lemmas.proofs.Members.{contains_at, contains_first, nothing_in}
use Rattle.wb_lemmas.proofs.Places.{at_append, default_at, nothing_at}
use Rattle.wb_automata.specs.Automata.{IsMatch}
use Rattle.wb_base.specs.Grammar.{GrammarView}
use Rattle.wb_certify.specs.Kept.{AreCertifiedBoth}
use Rattle.wb_certify.specs.Hosts.{CertifiedView, IsCertified}
use Rattle.wb_determinism_contexts.specs.Considered.{LexiconView}
use Rattle.wb_certify.specs.Lexicons.{lexicon_of, preference_pairs}
use Rattle.wb_certify.proofs.DeterministicHostLemmas.{edges_below}
use Rattle.wb_graph.specs.Graphs.{IsEdgeBelow}
use Rattle.wb_scan.specs.Bare.{AreWrittenFor, bare_forms}
use Rattle.wb_scan.proofs.FormLemmas.{bare_at, bare_below, bare_is, bare_len, form_is}
use Rattle.wb_scan_theory.specs.declared.form.Form.{Form}
use Rattle.wb_scan_theory.specs.Languages.{LanguageView, bare, forms_of}
use Rattle.wb_scan_theory.proofs.BareLemmas.{layout_bare}
use Rattle.wb_syntax_resolved.specs.declared.resolved.ResolvedParts.{ResolvedParts}
use Rattle.wb_syntax_resolved.specs.declared.terminal.Terminal.{Terminal}
use Rattle.wb_syntax_resolved.specs.Resolved.{IsResolved}
use Rattle.wb_compose_theory_grammar.specs.UnitedWorlds.{united}
use Rattle.wb_compose_theory_grammar.proofs.PlaceLemmas.{spread_below, spread_past}
use Rattle.wb_compose_theory_language.specs.Forms.{IsForm, IsWithdrawn, kept, of_extension, of_host, prefixed}
use Rattle.wb_compose_theory_language.specs.Languages.{AreForms, AreWithdrawn, IsTextOf, IsUnitedLanguage}
use Rattle.wb_compose_theory.specs.Blocks.{spread}
use Rattle.wb_compose_theory_grammar.specs.Places.{total_of}
use Rattle.wb_compose_theory_language.specs.Rows.{Prefers, Reads, by_extension, by_host, host_row, layout_count, layouts_from, sizes}
use Rattle.wb_compose_theory_language.specs.Rows as rows
use Rattle.wb_compose.specs.Composed.{IsComposed, IsExtended}
use Rattle.wb_compose.specs.HostLanguage.{host_language, layout_numbers}
use Rattle.wb_compose.specs.Joined.{AreCertifiedApart, Extended}
use Rattle.wb_compose.specs.Written.{written_in}
use Rattle.wb_certify.proofs.InRange.{grammar_of}

-- without extensions nothing is added to a grammar
pub alone : (g : GrammarView) (extensible : List ℕ) → g ≡ united g extensible []
alone g extensible =
    let terminals : g.terminals ≡ g.terminals + 0 = omega arith in
    let nonterminals : g.nonterminals ≡ g.nonterminals + 0 = omega arith in
    let productions = sym (append-nil g.productions) in
    λ j. record { terminals = terminals j; nonterminals = nonterminals j; start = g.start; productions = productions j }

-- nothing moves where nothing is added
unspread : (from t : ℕ) → spread from 0 0 0 t ≡ t
unspread from t = elim (cases_lt t from) [
  | inl below ↦ spread_below from 0 0 0 t below
  | inr far ↦ spread_past from 0 0 0 t (omega (arith, far)) ∙ (let same : t + (0 - 0) ≡ t = omega arith in same)
]

-- a list of no productions has none at any place
abbrev no_spans : List (Option (ℕ × ℕ))
no_spans = []

no_span : (place : ℕ) → slice_index_or no_spans place None ≡ None
no_span zero = refl
no_span (suc place) = refl

module _ (r : ResolvedParts) (g : GrammarView) (whole : IsResolved r) (start : r.grammar ≡ Some g) where
  abbrev own : LexiconView
  own = lexicon_of r g

  abbrev l : LanguageView
  l = host_language r g

  -- each number of the host stays
  stays : (t : ℕ) → host_row g r.extensible own [] t ≡ t
  stays t =
      unspread (layouts_from g r.extensible own []) (spread g.terminals 0 0 (total_of (sizes g r.extensible own [])) t)
      ∙ unspread g.terminals t

  few : g.terminals ≤ length r.terminals
  few = (grammar_of r g whole start).terminals_len

  expressions_len : length l.expressions ≡ length r.terminals
  expressions_len = length-map r.terminals (λ (t : Terminal). t.pattern)

  layout_len : length l.layout ≡ length r.terminals - g.terminals
  layout_len = length-range_with_len g.terminals (length r.terminals - g.terminals)

  written : AreWrittenFor g.terminals l.expressions l.layout l.preferences
  written = record {
    count = let all = expressions_len in let some = layout_len in let less = few in omega (arith, all, some, less);
    numbers = number;
    within = subst (λ (n : ℕ). All (IsEdgeBelow n) (preference_pairs r)) (sym expressions_len) (edges_below r whole.preferences);
  }
    where
      number : (k t : ℕ) → slice_get (layout_numbers r g) k ≡ Some t → t ≡ g.terminals + k
      number k t at =
          let within = slice_get_within (layout_numbers r g) k t at in
          let len = layout_len in
          sym (default_at (layout_numbers r g) k 0 t at)
          ∙ get_or-range_with_len g.terminals (length r.terminals - g.terminals) k 0 (omega (arith, within, len))

  -- each form is bare
  bare_form : (place : ℕ) (form : Form) → slice_get (forms_of l) place ≡ Some form → form.prefix ≡ []
  bare_form place form at = elim (at_append (bare_forms g.terminals) (map bare l.layout) form place at) [
    | inl first ↦ sym (ap (λ (f : Form). f.prefix) (bare_is g.terminals place form first))
    | inr (k, from, second) ↦ layout_bare l.layout k form second
  ]

  are_forms : AreForms g r.extensible own [] l.forms
  are_forms = record {
    each = λ place form at.
        let is = bare_is g.terminals place form at in
        of_host (subst (λ (f : Form). f.terminal < g.terminals) is (bare_below g.terminals place form at))
        (sym (ap (λ (f : Form). f.prefix) is));
    every = every;
    once = λ form i j first second.
        ap (λ (f : Form). f.terminal) (bare_is g.terminals i form first ∙ sym (bare_is g.terminals j form second));
  }
    where
      every : (form : Form) → IsForm g r.extensible own [] form → Contains l.forms form
      every form (prefixed k x marker is) = absurd (nothing_at x k marker.listed)
      every form (kept k x marker stays_bare is) = absurd (nothing_at x k marker.listed)
      every form (of_extension k x t listed mine number is) = absurd (nothing_at x k listed)
      every form (of_host less is) =
          let same : bare form.terminal ≡ form = λ j. record { terminal = form.terminal; prefix = sym is j } in
          contains_at l.forms form form.terminal (bare_at g.terminals form.terminal less ∙ ap Some same)

  -- a form has the texts of its expression
  texts : (place : ℕ) (form : Form) → slice_get (forms_of l) place ≡ Some form → (text : List ℕ) →
      IsMatch l.expressions place text ↔ IsTextOf g r.extensible own [] form text
  texts place form at text = (there, back) where
    number : form.terminal ≡ place
    number = form_is g l.expressions l.layout l.preferences place form written at

    nothing_before : form.prefix ≡ []
    nothing_before = bare_form place form at

    there : IsMatch l.expressions place text → IsTextOf g r.extensible own [] form text
    there matches = record {
      lexeme = text;
      reads = rows.of_host place (number ∙ sym (stays place)) matches;
      is = ap (λ (before : List ℕ). before ++ text) (sym nothing_before);
    }

    read : (lexeme : List ℕ) → Reads g r.extensible own [] form.terminal lexeme → IsMatch l.expressions place lexeme
    read lexeme (rows.of_host t is matches) =
        subst (λ k. IsMatch l.expressions k lexeme) (sym (stays t) ∙ (sym is ∙ number)) matches
    read lexeme (rows.of_extension k x t listed is matches) = absurd (nothing_at x k listed)

    back : IsTextOf g r.extensible own [] form text → IsMatch l.expressions place text
    back is =
        subst (IsMatch l.expressions place) (sym (is.is ∙ ap (λ (before : List ℕ). before ++ is.lexeme) nothing_before))
        (read is.lexeme is.reads)

  -- preferences are the host's
  preferred : (one other : ℕ) → Contains l.preferences (one, other) ↔ Prefers g r.extensible own [] one other
  preferred one other = (λ listed. by_host one other (sym (stays one)) (sym (stays other)) listed, back) where
    back : Prefers g r.extensible own [] one other → Contains l.preferences (one, other)
    back (by_host t u first second listed) =
        subst (λ k. Contains l.preferences (k, other)) (sym (stays t) ∙ sym first)
        (subst (λ k. Contains l.preferences (t, k)) (sym (stays u) ∙ sym second) listed)
    back (by_extension k x t u at first second listed) = absurd (nothing_at x k at)

  -- it is the language of the union of no extensions
  pub of_none : IsUnitedLanguage g r.extensible own [] l
  of_none = record {
    grammar = alone g r.extensible;
    forms = are_forms;
    layout =
        (let all = expressions_len in
        let counted : length r.terminals - g.terminals ≡ layout_count g r.extensible own [] = omega (arith, all) in
        λ j. range_with_len ((alone g r.extensible j).terminals) (counted j));
    spans = record {
      of_host = λ place t is at. no_span place;
      of_extension = λ place k x t listed is at. absurd (nothing_at x k listed);
    };
    expressions_len = written.count ∙ ap (λ n. n + length l.layout) (sym (bare_len g.terminals));
    expressions = texts;
    preferences = preferred;
  }

  -- no marker is withdrawn there
  pub none_withdrawn : (number : ℕ) → ¬ IsWithdrawn g r.extensible own [] number
  none_withdrawn number is = nothing_at is.x is.k is.marker.listed

  pub no_list : AreWithdrawn g r.extensible own [] []
  no_list = record {
    each = λ number. (λ listed. absurd (nothing_in number listed), λ is. absurd (none_withdrawn number is));
    rising = λ i j m n at. absurd (nothing_at m i at);
  }

  -- and no list but the empty one has such markers
  pub one_list : (withdrawn : List ℕ) → AreWithdrawn g r.extensible own [] withdrawn → withdrawn ≡ []
  one_list [] are = refl
  one_list (number ∷ rest) are = absurd (none_withdrawn number ((are.each number).0 (contains_first number rest)))

-- no extensions are none with their grammars
pub none_extended : (extended : List Extended) → AllZip IsExtended [] extended → extended ≡ []
none_extended [] each = refl
none_extended (x ∷ extended) each = absurd each

-- a certified host alone is what unions ask for
pub apart_alone : (host : CertifiedView) (g : GrammarView) → IsCertified host → host.resolved.grammar ≡ Some g →
    AreCertifiedApart host.resolved g host.operations []
apart_alone host g is start = record {
  host_resolved = is.whole;
  host_start = start;
  host_certified = is.certified;
  each = All-nil (λ (e : Extended). AreCertifiedBoth host.resolved e.resolved g e.grammar host.operations);
}

-- the language of a certified host by itself is composed of the host and no extensions
pub composed_alone : (host : CertifiedView) (g : GrammarView) → IsCertified host → host.resolved.grammar ≡ Some g →
    IsComposed host [] (host_language host.resolved g) []
composed_alone host g is start = record {
  grammar = g;
  start = start;
  extended = [];
  each = tt;
  certified = apart_alone host g is start;
  language = of_none host.resolved g is.whole start;
  withdrawn_are = no_list host.resolved g is.whole start;
}

-- of what is composed of a host and no extensions no marker is withdrawn
pub none_composed : (host : CertifiedView) (l : LanguageView) (withdrawn : List ℕ) → IsComposed host [] l withdrawn → withdrawn ≡ []
none_composed host l withdrawn is =
    one_list host.resolved is.grammar is.certified.host_resolved is.start withdrawn
    (subst (λ (xs : List Extended). AreWithdrawn is.grammar host.resolved.extensible (lexicon_of host.resolved is.grammar)
    (written_in is.grammar xs) withdrawn) (none_extended is.extended is.each) is.withdrawn_are)
