-- The union of a certified host and certified extensions has a language.
use Rattle.std.proofs.Common.{◌≡◌, ◌<◌, ◌+◌, ◌⊎◌, ◌++◌, inl, inr, ℕ, zero, suc, List, [], ◌∷◌, length, refl, sym, ◌∙◌, subst, ap, arith}
use Rattle.std.proofs.Common.{Contains, slice_get, Option, Some, map, length-append}
use Rattle.std.specs.Prelude.{◌↔◌, All, slice_index_or}
use Rattle.std.specs.List.{range_with_len}
use Rattle.std.proofs.lemmas.List.{length-map}
use Rattle.std.proofs.lemmas.List.Elements.{All-nil, All-cons}
use Rattle.std.proofs.lemmas.Option.{slice_get_within}
use Rattle.wb_automata.specs.Automata.{IsMatch}
use Rattle.wb_base.specs.Grammar.{GrammarView}
use Rattle.wb_determinism_contexts.specs.Considered.{LexiconView}
use Rattle.wb_scan_theory.specs.declared.form.Form.{Form}
use Rattle.wb_scan_theory.specs.Facts.{IsDeterministic, IsLanguage}
use Rattle.wb_scan_theory.specs.Languages.{LanguageView, bare}
use Rattle.wb_scan_theory.proofs.HasOneLemmas.{has_one}
use Rattle.wb_lemmas.proofs.Elements.{all_at, all_from_places}
use Rattle.wb_lemmas.proofs.Members.{contains_at, place_of, contains_first, contains_later, append_contains_left, append_contains_right}
use Rattle.wb_lemmas.proofs.Places.{at_default, at_within, at_append, default_at, at_once}
use Rattle.wb_regex.specs.Tree.{Tree, Set}
use Rattle.wb_regex.specs.Matches.{Matches}
use Rattle.wb_compose_theory_grammar.specs.Certificates.{AreCertified}
use Rattle.wb_compose_theory_grammar.specs.UnitedWorlds.{united}
use Rattle.wb_compose_theory_grammar.proofs.ApartLemmas.{into_is}
use Rattle.wb_compose_theory_grammar.proofs.FactLemmas.{at_map, map_at}
use Rattle.wb_compose_theory_grammar.proofs.UnionGrammarLemmas.{terminal_below}
use Rattle.wb_compose_theory_grammar.proofs.UnitedLemmas.{is_united}
use Rattle.wb_compose_theory_language.specs.Written.{WrittenPiece, pieces_of}
use Rattle.wb_compose_theory_language.specs.Apart.{AreWrittenApart, colon}
use Rattle.wb_compose_theory_language.specs.Forms.{IsForm, IsMarkerOf, kept, of_extension, of_host, prefix_of, prefixed}
use Rattle.wb_compose_theory_language.specs.Languages.{AreSpans, IsTextOf, IsUnitedLanguage}
use Rattle.wb_compose_theory_language.specs.Rows.{Reads, Prefers, by_host, by_extension, host_row, piece_row, layout_count}
use Rattle.wb_compose_theory_language.specs.Rows as row
use Rattle.wb_compose_theory_language.proofs.BareLemmas.{marker_own}
use Rattle.wb_compose_theory_language.proofs.LanguageLemmas.{decided, is_written}
use Rattle.wb_compose_theory_language.proofs.RowLemmas.{piece_there}
use Rattle.wb_lemmas.proofs.NotNot.{follows, bind, Chosen, choose}
use Rattle.wb_scan_theory.proofs.TablesExist.{tables_exist}
use Rattle.wb_compose_theory_language.specs.Spelled.{AreSpelled, HasNoEmpty}
use Rattle.wb_compose_theory_language.proofs.Listings.{IsListing, listing, differs}
use Rattle.wb_compose_theory_language.proofs.SpansExist.{spans_exist}
use Rattle.wb_compose_theory_language.proofs.TreesExist.{any_of, any_has, any_only, behind, behind_is}

module _ (host : GrammarView) (extensible : List ℕ) (own : LexiconView) (written : List WrittenPiece) where
  abbrev union : GrammarView
  union = united host extensible (pieces_of written)

  -- the expression is one of the terminal or layout of the union
  data IsTreeOf (number : ℕ) (tree : Tree) : Type 0 where
    tree_of_host : (t : ℕ) → number ≡ host_row host extensible own written t → slice_get own.expressions t ≡ Some tree → IsTreeOf number tree
    tree_of_extension : (k : ℕ) (x : WrittenPiece) (t : ℕ) → slice_get written k ≡ Some x → number ≡ piece_row host extensible own written k x t
        → slice_get x.lexicon.expressions t ≡ Some tree → IsTreeOf number tree

  reads_tree : (number : ℕ) (text : List ℕ) → Reads host extensible own written number text → (tree : Tree) × IsTreeOf number tree × Matches tree text
  reads_tree number text (row.of_host t is m) = (m.tree, tree_of_host t is m.at, m.matches)
  reads_tree number text (row.of_extension k x t at is m) = (m.tree, tree_of_extension k x t at is m.at, m.matches)

  tree_reads : (number : ℕ) (text : List ℕ) (tree : Tree) → IsTreeOf number tree → Matches tree text → Reads host extensible own written number text
  tree_reads number text tree (tree_of_host t is at) m = row.of_host t is (record { tree = tree; at = at; matches = m })
  tree_reads number text tree (tree_of_extension k x t there is at) m = row.of_extension k x t there is (record { tree = tree; at = at; matches = m })

  -- all expressions of all extensions
  trees_in : List WrittenPiece → List Tree
  trees_in [] = []
  trees_in (x ∷ xs) = x.lexicon.expressions ++ trees_in xs

  trees_have : (xs : List WrittenPiece) (k : ℕ) (x : WrittenPiece) (tree : Tree) → slice_get xs k ≡ Some x → Contains x.lexicon.expressions tree
      → Contains (trees_in xs) tree
  unfolding trees_in
  trees_have [] k x tree at has = absurd (none at) where
    none : slice_get [] k ≡ Some x → ⊥
    none e = cc
  trees_have (y ∷ xs) zero x tree at has =
      append_contains_left y.lexicon.expressions (trees_in xs) tree
      (subst (λ (z : WrittenPiece). Contains z.lexicon.expressions tree) (at_once (y ∷ xs) 0 x y at refl) has)
  trees_have (y ∷ xs) (suc k) x tree at has =
      append_contains_right y.lexicon.expressions (trees_in xs) tree (trees_have xs k x tree at has)

  all_trees : List Tree
  all_trees = own.expressions ++ trees_in written

  tree_listed : (number : ℕ) (tree : Tree) → IsTreeOf number tree → Contains all_trees tree
  unfolding all_trees
  tree_listed number tree (tree_of_host t is at) =
      append_contains_left own.expressions (trees_in written) tree (contains_at own.expressions tree t at)
  tree_listed number tree (tree_of_extension k x t there is at) =
      append_contains_right own.expressions (trees_in written) tree
      (trees_have written k x tree there (contains_at x.lexicon.expressions tree t at))

  -- an expression of what the terminal or layout matches
  abbrev IsReader : ℕ → Tree → Type 0
  IsReader number tree = (text : List ℕ) → Matches tree text ↔ Reads host extensible own written number text

  reader : (number : ℕ) → ¬ ¬ ((tree : Tree) × IsReader number tree)
  reader number = follows (listing (IsTreeOf number) all_trees) (λ (ts, h). (
    any_of ts,
    λ text. (
      λ m. let (t, has, n) = any_only ts text m in tree_reads number text t ((h.exact t).0 has).1 n,
      λ r. let (t, is, n) = reads_tree number text r in any_has ts t text ((h.exact t).1 (tree_listed number t is, is)) n,
    ),
  ))

  -- an expression of a form
  abbrev IsFormTree : Form → Tree → Type 0
  IsFormTree form tree = (text : List ℕ) → Matches tree text ↔ IsTextOf host extensible own written form text

  form_tree : (form : Form) → All (λ b. b < 256) form.prefix → ¬ ¬ ((tree : Tree) × IsFormTree form tree)
  form_tree form bytes = follows (reader form.terminal) (λ (r, is). (
    behind form.prefix r,
    λ text. (
      λ m. let p = (behind_is form.prefix r bytes text).0 m in record { lexeme = p.rest; reads = (is p.rest).0 p.matches; is = p.is },
      λ t. (behind_is form.prefix r bytes text).1 (record { rest = t.lexeme; matches = (is t.lexeme).1 t.reads; is = t.is }),
    ),
  ))

  -- preferences, of the host and of each extension
  host_pairs : List (ℕ × ℕ) → List (ℕ × ℕ)
  host_pairs [] = []
  host_pairs (p ∷ ps) = (host_row host extensible own written p.0, host_row host extensible own written p.1) ∷ host_pairs ps

  host_pairs_have : (ps : List (ℕ × ℕ)) (i t u : ℕ) → slice_get {X = ℕ × ℕ} ps i ≡ Some (t, u)
      → Contains (host_pairs ps) (host_row host extensible own written t, host_row host extensible own written u)
  unfolding host_pairs
  host_pairs_have [] i t u at = absurd (none at) where
    none : slice_get {X = ℕ × ℕ} [] i ≡ Some (t, u) → ⊥
    none e = cc
  host_pairs_have (p ∷ ps) zero t u at =
      subst (λ (z : ℕ × ℕ). Contains (host_pairs (p ∷ ps)) (host_row host extensible own written z.0, host_row host extensible own written z.1))
      (at_once (p ∷ ps) 0 p (t, u) refl at) (contains_first (host_row host extensible own written p.0, host_row host extensible own written p.1) (host_pairs ps))
  host_pairs_have (p ∷ ps) (suc i) t u at =
      contains_later (host_row host extensible own written p.0, host_row host extensible own written p.1)
      (host_row host extensible own written t, host_row host extensible own written u) (host_pairs ps) (host_pairs_have ps i t u at)

  piece_pairs : ℕ → WrittenPiece → List (ℕ × ℕ) → List (ℕ × ℕ)
  piece_pairs k x [] = []
  piece_pairs k x (p ∷ ps) = (piece_row host extensible own written k x p.0, piece_row host extensible own written k x p.1) ∷ piece_pairs k x ps

  piece_pairs_have : (k : ℕ) (x : WrittenPiece) (ps : List (ℕ × ℕ)) (i t u : ℕ) → slice_get {X = ℕ × ℕ} ps i ≡ Some (t, u)
      → Contains (piece_pairs k x ps) (piece_row host extensible own written k x t, piece_row host extensible own written k x u)
  unfolding piece_pairs
  piece_pairs_have k x [] i t u at = absurd (none at) where
    none : slice_get {X = ℕ × ℕ} [] i ≡ Some (t, u) → ⊥
    none e = cc
  piece_pairs_have k x (p ∷ ps) zero t u at =
      subst (λ (z : ℕ × ℕ). Contains (piece_pairs k x (p ∷ ps)) (piece_row host extensible own written k x z.0, piece_row host extensible own written k x z.1))
      (at_once (p ∷ ps) 0 p (t, u) refl at)
      (contains_first (piece_row host extensible own written k x p.0, piece_row host extensible own written k x p.1) (piece_pairs k x ps))
  piece_pairs_have k x (p ∷ ps) (suc i) t u at =
      contains_later (piece_row host extensible own written k x p.0, piece_row host extensible own written k x p.1)
      (piece_row host extensible own written k x t, piece_row host extensible own written k x u) (piece_pairs k x ps) (piece_pairs_have k x ps i t u at)

  pairs_in : ℕ → List WrittenPiece → List (ℕ × ℕ)
  pairs_in k [] = []
  pairs_in k (x ∷ xs) = piece_pairs k x x.lexicon.preferences ++ pairs_in (suc k) xs

  pairs_have : (k : ℕ) (xs : List WrittenPiece) (j n : ℕ) (x : WrittenPiece) (pair : ℕ × ℕ) → slice_get xs j ≡ Some x → n ≡ k + j
      → Contains (piece_pairs n x x.lexicon.preferences) pair → Contains (pairs_in k xs) pair
  unfolding pairs_in
  pairs_have k [] j n x pair at is has = absurd (none at) where
    none : slice_get [] j ≡ Some x → ⊥
    none e = cc
  pairs_have k (y ∷ xs) zero n x pair at is has =
      append_contains_left (piece_pairs k y y.lexicon.preferences) (pairs_in (suc k) xs) pair
      (subst (λ (z : WrittenPiece). Contains (piece_pairs k z z.lexicon.preferences) pair) (at_once (y ∷ xs) 0 x y at refl)
      (subst (λ m. Contains (piece_pairs m x x.lexicon.preferences) pair) (let e : n ≡ k = omega (arith, is) in e) has))
  pairs_have k (y ∷ xs) (suc j) n x pair at is has =
      append_contains_right (piece_pairs k y y.lexicon.preferences) (pairs_in (suc k) xs) pair
      (pairs_have (suc k) xs j n x pair at (omega (arith, is)) has)

  all_pairs : List (ℕ × ℕ)
  all_pairs = host_pairs own.preferences ++ pairs_in 0 written

  abbrev IsPreferred : ℕ × ℕ → Type 0
  IsPreferred p = Prefers host extensible own written p.0 p.1

  pair_listed : (one other : ℕ) → Prefers host extensible own written one other → Contains all_pairs (one, other)
  unfolding all_pairs
  pair_listed one other (by_host t u one_is other_is has) =
      let (i, at) = place_of own.preferences (t, u) has in
      append_contains_left (host_pairs own.preferences) (pairs_in 0 written) (one, other)
      (subst (λ (z : ℕ × ℕ). Contains (host_pairs own.preferences) z) (λ j. (sym one_is j, sym other_is j))
      (host_pairs_have own.preferences i t u at))
  pair_listed one other (by_extension k x t u there one_is other_is has) =
      let (i, at) = place_of x.lexicon.preferences (t, u) has in
      append_contains_right (host_pairs own.preferences) (pairs_in 0 written) (one, other)
      (subst (λ (z : ℕ × ℕ). Contains (pairs_in 0 written) z) (λ j. (sym one_is j, sym other_is j))
      (pairs_have 0 written k k x (piece_row host extensible own written k x t, piece_row host extensible own written k x u) there (omega arith)
      (piece_pairs_have k x x.lexicon.preferences i t u at)))

  -- forms with these prefixes, of terminals below a bound
  forms_with : ℕ → List (List ℕ) → List Form
  forms_with t [] = []
  forms_with t (p ∷ ps) = record { terminal = t; prefix = p } ∷ forms_with t ps

  forms_below : ℕ → List (List ℕ) → List Form
  forms_below zero ps = []
  forms_below (suc n) ps = forms_with n ps ++ forms_below n ps

  with_has : (form : Form) (t : ℕ) (ps : List (List ℕ)) (i : ℕ) → form.terminal ≡ t → slice_get ps i ≡ Some form.prefix
      → Contains (forms_with t ps) form
  unfolding forms_with
  with_has form t [] i is at = absurd (none at) where
    none : slice_get [] i ≡ Some form.prefix → ⊥
    none e = cc
  with_has form t (p ∷ ps) zero is at =
      subst (Contains (forms_with t (p ∷ ps)))
      (let same : p ≡ form.prefix = at_once (p ∷ ps) 0 p form.prefix refl at in λ j. record { terminal = sym is j; prefix = same j })
      (contains_first (record { terminal = t; prefix = p }) (forms_with t ps))
  with_has form t (p ∷ ps) (suc i) is at = contains_later (record { terminal = t; prefix = p }) form (forms_with t ps) (with_has form t ps i is at)

  below_has : (form : Form) (n : ℕ) (ps : List (List ℕ)) (i : ℕ) → form.terminal < n → slice_get ps i ≡ Some form.prefix
      → Contains (forms_below n ps) form
  unfolding forms_below
  below_has form zero ps i lt at = absurd (omega (arith, lt))
  below_has form (suc n) ps i lt at = elim (last form.terminal n (omega (arith, lt))) [
    | inl same ↦ append_contains_left (forms_with n ps) (forms_below n ps) form (with_has form n ps i same at)
    | inr less ↦ append_contains_right (forms_with n ps) (forms_below n ps) form (below_has form n ps i less at)
  ] where
    last : (a b : ℕ) → a < suc b → (a ≡ b) ⊎ (a < b)
    last zero zero h = inl refl
    last zero (suc b) h = inr (omega arith)
    last (suc a) zero h = absurd (omega (arith, h))
    last (suc a) (suc b) h = elim (last a b (omega (arith, h))) [ inl same ↦ inl (ap suc same) | inr more ↦ inr (omega (arith, more)) ]

  prefixes : List (List ℕ)
  prefixes = [] ∷ map prefix_of written

  prefix_bytes : (x : WrittenPiece) → All (λ b. b < 256) x.name → All (λ b. b < 256) (prefix_of x)
  prefix_bytes x bytes = joined x.name bytes where
    colons : All (λ b. b < 256) (colon ∷ colon ∷ [])
    colons = All-cons (λ b. b < 256) colon (colon ∷ []) (omega arith) (All-cons (λ b. b < 256) colon [] (omega arith) (All-nil (λ b. b < 256)))

    joined : (name : List ℕ) → All (λ b. b < 256) name → All (λ b. b < 256) (name ++ colon ∷ colon ∷ [])
    joined name all = all_from_places (λ b. b < 256) (name ++ colon ∷ colon ∷ []) (λ i b at. elim (at_append name (colon ∷ colon ∷ []) b i at) [
      | inl here ↦ all_at (λ c. c < 256) name i b all here
      | inr (j, is, later) ↦ all_at (λ c. c < 256) (colon ∷ colon ∷ []) j b colons later
    ])

  -- forms of the union by their prefixes
  module _ (spelled : AreSpelled own written) where
    form_prefix : (form : Form) → IsForm host extensible own written form → (i : ℕ) × (slice_get prefixes i ≡ Some form.prefix)
    unfolding prefixes
    form_prefix form (prefixed k x marker is) = (suc k, at_map prefix_of written k x marker.listed ∙ ap Some (sym is))
    form_prefix form (kept k x marker stays is) = (0, ap Some (sym is))
    form_prefix form (of_host less is) = (0, ap Some (sym is))
    form_prefix form (of_extension k x t at mine t_is is) = (0, ap Some (sym is))

    no_bytes : (p : List ℕ) → p ≡ [] → All (λ b. b < 256) p
    no_bytes p is = subst (All (λ b. b < 256)) (sym is) (All-nil (λ b. b < 256))

    form_bytes : (form : Form) → IsForm host extensible own written form → All (λ b. b < 256) form.prefix
    form_bytes form (prefixed k x marker is) =
        subst (All (λ b. b < 256)) (sym is)
        (prefix_bytes x (all_at (λ (y : WrittenPiece). All (λ b. b < 256) y.name) written k x spelled.names marker.listed))
    form_bytes form (kept k x marker stays is) = no_bytes form.prefix is
    form_bytes form (of_host less is) = no_bytes form.prefix is
    form_bytes form (of_extension k x t at mine t_is is) = no_bytes form.prefix is

    -- nothing of the union matches the empty text
    reads_some : (number : ℕ) → ¬ Reads host extensible own written number []
    reads_some number (row.of_host t is m) = spelled.of_host t m
    reads_some number (row.of_extension k x t at is m) =
        all_at (λ (y : WrittenPiece). HasNoEmpty y.lexicon) written k x spelled.of_extensions at t m

    empty_parts : (a b : List ℕ) → [] ≡ a ++ b → b ≡ []
    empty_parts [] b e = sym e
    empty_parts (x ∷ a) b e = absurd (cc e)

    text_some : (form : Form) → ¬ IsTextOf host extensible own written form []
    text_some form t = reads_some form.terminal (subst (Reads host extensible own written form.terminal) (empty_parts form.prefix t.lexeme t.is) t.reads)

    module _ (certified : AreCertified host extensible (pieces_of written)) (apart : AreWrittenApart host extensible own written) where
      -- forms are of the union's terminals
      form_less : (form : Form) → IsForm host extensible own written form → form.terminal < union.terminals
      form_less form is = by_kind is where
        marked : (k : ℕ) (x : WrittenPiece) → IsMarkerOf host extensible own written k x form.terminal → form.terminal < union.terminals
        marked k x marker =
            let there = piece_there host extensible own written certified.are_pieces k x marker.listed in
            let mine = marker_own host extensible own written certified apart [] k x marker.listed marker.terminal marker.marker in
            let less = terminal_below host extensible (pieces_of written) certified.are_pieces k x.piece marker.terminal there mine.1 in
            subst (λ z. z < union.terminals) (sym (marker.is ∙ into_is host extensible (pieces_of written) certified k marker.terminal)) less

        by_kind : IsForm host extensible own written form → form.terminal < union.terminals
        by_kind (prefixed k x marker e) = marked k x marker
        by_kind (kept k x marker stays e) = marked k x marker
        by_kind (of_host less e) = omega (arith, less)
        by_kind (of_extension k x t at mine t_is e) =
            let there = piece_there host extensible own written certified.are_pieces k x at in
            let less = terminal_below host extensible (pieces_of written) certified.are_pieces k x.piece t there mine.within in
            subst (λ z. z < union.terminals) (sym (t_is ∙ into_is host extensible (pieces_of written) certified k t)) less

      all_forms : List Form
      all_forms = forms_below union.terminals prefixes

      form_listed : (form : Form) → IsForm host extensible own written form → Contains all_forms form
      unfolding all_forms
      form_listed form is = let (i, at) = form_prefix form is in below_has form union.terminals prefixes i (form_less form is) at

      abbrev layouts : List ℕ
      layouts = range_with_len union.terminals (layout_count host extensible own written)

      module _ (forms : List Form) (are : IsListing (IsForm host extensible own written) all_forms forms)
          (pairs : List (ℕ × ℕ)) (prefer : IsListing IsPreferred all_pairs pairs) where
        abbrev places : List Form
        places = forms ++ map bare layouts

        abbrev IsExpression : ℕ → Tree → Type 0
        IsExpression place tree = (form : Form) → slice_get places place ≡ Some form → IsFormTree form tree

        place_bytes : (place : ℕ) (form : Form) → slice_get places place ≡ Some form → All (λ b. b < 256) form.prefix
        place_bytes place form at = elim (at_append forms (map bare layouts) form place at) [
          | inl here ↦ form_bytes form ((are.exact form).0 (contains_at forms form place here)).1
          | inr (j, is, later) ↦
              let (t, t_at, form_is) = map_at bare layouts j form later in
              no_bytes form.prefix (ap (λ (z : Form). z.prefix) form_is)
        ]

        expression : (place : ℕ) → place < length places → ¬ ¬ ((tree : Tree) × IsExpression place tree)
        expression place lt =
            let (form, at) = at_within places place lt in
            follows (form_tree form (place_bytes place form at)) (λ (tree, is).
            (tree, λ other at_other. subst (λ (z : Form). IsFormTree z tree) (at_once places place form other at at_other) is))

        module _ (c : Chosen (length places) (Set []) IsExpression) (spans : List (Option (ℕ × ℕ)))
            (are_spans : AreSpans host extensible own written layouts spans) where
          abbrev view : LanguageView
          view = record { grammar = union; forms = forms; layout = layouts; spans = spans; expressions = c.list; preferences = pairs }

          are_expressions : (place : ℕ) (form : Form) → slice_get places place ≡ Some form → (text : List ℕ) →
              IsMatch c.list place text ↔ IsTextOf host extensible own written form text
          are_expressions place form at text =
              let within = slice_get_within places place form at in
              let is = c.each place within form at text in (
                λ m. is.0 (subst (λ z. Matches z text) (sym (default_at c.list place (Set []) m.tree m.at)) m.matches),
                λ t. record {
                  tree = slice_index_or c.list place (Set []);
                  at = at_default c.list place (Set []) (let l = c.len in omega (arith, l, within));
                  matches = is.1 t;
                },
              )

          united_language : IsUnitedLanguage host extensible own written view
          united_language = record {
            grammar = refl;
            forms = record {
              each = λ place form at. ((are.exact form).0 (contains_at forms form place at)).1;
              every = λ form is. (are.exact form).1 (form_listed form is, is);
              once = differs forms are.unlike;
            };
            layout = refl;
            spans = are_spans;
            expressions_len = let l = c.len in let a = length-append forms (map bare layouts) in let b = length-map layouts bare in omega (arith, l, a, b);
            expressions = are_expressions;
            preferences = λ one other. (
              λ has. ((prefer.exact (one, other)).0 has).1,
              λ p. (prefer.exact (one, other)).1 (pair_listed one other p, p),
            );
          }

          no_empty : (place : ℕ) → ¬ IsMatch c.list place []
          no_empty place m =
              let (form, at) = at_within places place (let l = c.len in let w = slice_get_within c.list place m.tree m.at in omega (arith, l, w)) in
              text_some form ((are_expressions place form at []).0 m)

          deterministic : IsDeterministic union
          deterministic =
              let is = is_united host extensible (pieces_of written) certified in record {
                in_range = is.is_grammar;
                reduced = is.fit.reduced;
                no_unit_cycle = is.fit.no_unit_cycle;
                no_hidden_left_recursion = is.fit.no_hidden_left_recursion;
                no_conflict = is.no_conflict;
              }

          language : ¬ ¬ IsLanguage view
          language =
              let d = deterministic in
              let w = is_written host extensible own written view certified apart united_language no_empty in
              follows (tables_exist union d.in_range d.reduced d.no_conflict) (λ (tables, are_tables). record {
                deterministic = d;
                written = w;
                winners = has_one view tables w are_tables (decided host extensible own written view certified apart united_language);
              })

      pub language_exists : ¬ ¬ ((l : LanguageView) × IsUnitedLanguage host extensible own written l × IsLanguage l)
      language_exists =
          bind (listing (IsForm host extensible own written) all_forms) (λ (forms, are).
          bind (listing IsPreferred all_pairs) (λ (pairs, prefer).
          bind (choose (length (forms ++ map bare layouts)) (Set []) (IsExpression forms are pairs prefer) (expression forms are pairs prefer)) (λ c.
          bind (spans_exist host extensible own written certified.are_pieces) (λ (spans, are_spans).
          follows (language forms are pairs prefer c spans are_spans) (λ is.
          (view forms are pairs prefer c spans are_spans, united_language forms are pairs prefer c spans are_spans, is))))))

pub law : (host : GrammarView) (extensible : List ℕ) (own : LexiconView) (written : List WrittenPiece)
    → AreCertified host extensible (pieces_of written) → AreWrittenApart host extensible own written → AreSpelled own written
    → ¬ ¬ ((l : LanguageView) × IsUnitedLanguage host extensible own written l × IsLanguage l)
law host extensible own written certified apart spelled = language_exists host extensible own written spelled certified apart
