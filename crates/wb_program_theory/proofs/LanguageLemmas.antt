-- The union of a host and extensions has a language in every order of the extensions, where it has one in one.
use Rattle.std.proofs.Common.{◌≡◌, ◌<◌, ◌+◌, ◌-◌, ◌∙◌, ◌++◌, [], ℕ, List, Some, Contains, length, map, slice_get, ap, sym, refl}
use Rattle.std.proofs.Common.{inl, inr, subst, arith}
use Rattle.std.specs.List.{range_with_len}
use Rattle.std.proofs.lemmas.Bool.{cases_lt}
use Rattle.std.proofs.lemmas.List.{length-append, length-map}
use Rattle.std.proofs.lemmas.List.FromFn.{get_or-range_with_len, length-range_with_len}
use Rattle.std.proofs.lemmas.Option.{same_Some, slice_get-get_or, slice_get_within}
use Rattle.std.specs.Prelude.{◌↔◌, slice_index_or}
use Rattle.wb_automata.specs.Automata.{IsMatch}
use Rattle.wb_base.specs.Grammar.{GrammarView}
use Rattle.wb_determinism_contexts.specs.Considered.{LexiconView}
use Rattle.wb_regex.specs.Matches.{Matches}
use Rattle.wb_regex.specs.Tree.{Set, Tree}
use Rattle.wb_scan_theory.specs.declared.form.Form.{Form}
use Rattle.wb_scan_theory.specs.Languages.{LanguageView, bare, forms_of}
use Rattle.wb_scan_theory.proofs.BareLemmas.{forms_count}
use Rattle.wb_lemmas.proofs.Members.{contains_at, place_of}
use Rattle.wb_lemmas.proofs.NotNot.{Chosen}
use Rattle.wb_lemmas.proofs.Places.{append_after, append_keeps, at_append, at_default, at_within, default_at}
use Rattle.wb_compose_theory_order.specs.Grammars.{IsUndoneBy}
use Rattle.wb_compose_theory_order.specs.Languages.{renamed_form}
use Rattle.wb_compose_theory_order.specs.Orders.{IsReordering}
use Rattle.wb_compose_theory_order.specs.Unions.{names_to}
use Rattle.wb_compose_theory_order.proofs.UnionFormLemmas.{form_is, form_there, layout_row, layout_to, moved_form, pieces_reordered}
use Rattle.wb_compose_theory_order.proofs.UnionFormLemmas.{pieces_there, prefers_there, row_to, terminal_row, text_there}
use Rattle.wb_compose_theory_order.proofs.NumberLemmas.{number_back, reordering_back, reordering_map, to_below}
use Rattle.wb_compose_theory_order.proofs.UnionLemmas.{reordered_back, sizes_reordered}
use Rattle.wb_compose_theory.specs.Renamings.{Renaming}
use Rattle.wb_compose_theory_grammar.specs.Pieces.{ArePieces}
use Rattle.wb_compose_theory_grammar.specs.Unions.{added_terminals}
use Rattle.wb_compose_theory_grammar.specs.UnitedWorlds.{united}
use Rattle.wb_compose_theory_grammar.proofs.FactLemmas.{at_map, map_at}
use Rattle.wb_compose_theory_language.specs.Forms.{IsForm}
use Rattle.wb_compose_theory_language.specs.Languages.{AreForms, IsTextOf, IsUnitedLanguage}
use Rattle.wb_compose_theory_language.specs.Rows.{Prefers, layout_count}
use Rattle.wb_compose_theory_language.specs.Written.{WrittenPiece, host_layouts, own_layouts, pieces_of}
use Rattle.wb_compose_theory_language.proofs.DecidedLemmas.{range_at}
use Rattle.wb_program_theory.proofs.ChosenLists.{listed}
use Rattle.wb_program_theory.proofs.SpanLemmas.{are_spans, spans_in}

-- what a range has at a place within
at_range : (a n j : ℕ) → j < n → slice_get (range_with_len a n) j ≡ Some (a + j)
at_range a n j less =
    let len = length-range_with_len a n in
    slice_get-get_or (range_with_len a n) j 0 (omega (arith, less, len)) ∙ ap Some (get_or-range_with_len a n j 0 less)

-- a number of the union there and back
row_back : (host : GrammarView) (extensible : List ℕ) (own : LexiconView) (written others : List WrittenPiece) (to from : ℕ → ℕ)
    (ok : ArePieces host extensible (pieces_of written)) (there_ok : ArePieces host extensible (pieces_of others))
    (re : IsReordering to from written others) (number : ℕ)
    → row_to host extensible own others written from to there_ok (reordering_back re)
    (row_to host extensible own written others to from ok re number) ≡ number
row_back host extensible own written others to from ok there_ok re number = elim (cases_lt number count) [
  | inl less ↦
      let here = terminal_row host extensible own written others to from ok re number less in
      let below = to_below host.terminals (sizes_reordered host extensible (added_terminals host) (pieces_reordered re)) number
      (omega (arith, less)) in
      let inside : (names_to host extensible written others to).terminal number < (united host extensible (pieces_of others)).terminals =
      omega (arith, below) in
      ap back here ∙
      (terminal_row host extensible own others written from to there_ok (reordering_back re)
      ((names_to host extensible written others to).terminal number) inside ∙
      (reordered_back host extensible (pieces_reordered re)).terminal number)
  | inr high ↦
      let j = number - count in
      let is : count + j ≡ number = omega (arith, high) in
      let here = layout_row host extensible own written others to from ok re j in
      let there = layout_row host extensible own others written from to there_ok (reordering_back re)
      (layout_to host extensible own written others to from ok re j) in
      let same = number_back (host_layouts host own) (reordering_map (own_layouts host own) re) j in
      ap (λ z. back (there_to z)) (sym is) ∙ (ap back here ∙ (there ∙ (ap (λ z. count + z) same ∙ is)))
]
  where
    count : ℕ
    count = (united host extensible (pieces_of written)).terminals

    there_to : ℕ → ℕ
    there_to = row_to host extensible own written others to from ok re

    back : ℕ → ℕ
    back = row_to host extensible own others written from to there_ok (reordering_back re)

module _ (host : GrammarView) (extensible : List ℕ) (own : LexiconView) (written others : List WrittenPiece) (to from : ℕ → ℕ)
    (ok : ArePieces host extensible (pieces_of written)) (re : IsReordering to from written others) (l : LanguageView)
    (is : IsUnitedLanguage host extensible own written l) where
  -- where numbers go, and back
  abbrev r : Renaming
  r = names_to host extensible written others to

  abbrev s : Renaming
  s = names_to host extensible others written from

  abbrev pub there_ok : ArePieces host extensible (pieces_of others)
  there_ok = pieces_there (pieces_reordered re) ok

  undone : IsUndoneBy r s
  undone = reordered_back host extensible (pieces_reordered re)

  redone : IsUndoneBy s r
  redone = reordered_back host extensible (pieces_reordered (reordering_back re))

  -- so do numbers of terminals and layout
  abbrev pub row : ℕ → ℕ
  row = row_to host extensible own written others to from ok re

  abbrev back : ℕ → ℕ
  back = row_to host extensible own others written from to there_ok (reordering_back re)

  row_undone : (number : ℕ) → back (row number) ≡ number
  row_undone = row_back host extensible own written others to from ok there_ok re

  row_redone : (number : ℕ) → row (back number) ≡ number
  row_redone = row_back host extensible own others written from to there_ok ok (reordering_back re)

  -- a preference with its new numbers
  abbrev pub pair_to : ℕ × ℕ → ℕ × ℕ
  pair_to p = (row p.0, row p.1)

  abbrev pub forms_there : List Form
  forms_there = map (renamed_form r) l.forms

  -- layout in the other order
  abbrev first : ℕ
  first = (united host extensible (pieces_of others)).terminals

  abbrev count : ℕ
  count = layout_count host extensible own others

  abbrev pub layouts_there : List ℕ
  layouts_there = range_with_len first count

  -- a form there and back
  form_back : (f : Form) → renamed_form s (renamed_form r f) ≡ f
  form_back f = λ z. record { terminal = undone.terminal f.terminal z; prefix = f.prefix }

  form_again : (f : Form) → renamed_form r (renamed_form s f) ≡ f
  form_again f = λ z. record { terminal = redone.terminal f.terminal z; prefix = f.prefix }

  abbrev moved : Form → Form
  moved = moved_form host extensible own written others to from ok re

  abbrev moved_back : Form → Form
  moved_back = moved_form host extensible own others written from to there_ok (reordering_back re)

  moved_undone : (f : Form) → moved_back (moved f) ≡ f
  moved_undone f = λ z. record { terminal = row_undone f.terminal z; prefix = f.prefix }

  -- which form is there, and where it is here
  record Comes (form : Form) : Type 0 where
    place : ℕ
    old : Form
    at : slice_get (forms_of l) place ≡ Some old
    new : form ≡ moved old

  before : (place : ℕ) (form : Form) → slice_get forms_there place ≡ Some form → Comes form
  before place form at =
      let (f, f_at, same) = map_at (renamed_form r) l.forms place form at in
      record {
        place = place;
        old = f;
        at = append_keeps l.forms (map bare l.layout) place f f_at;
        new = same ∙ form_is host extensible own written others to from ok re f (is.forms.each place f f_at);
      }

  behind : (j : ℕ) (form : Form) → slice_get (map bare layouts_there) j ≡ Some form → Comes form
  behind j form at =
      let (t, t_at, form_is_bare) = map_at bare layouts_there j form at in
      let (t_is, less) = range_at first count j t t_at in
      let k = layout_to host extensible own others written from to there_ok (reordering_back re) j in
      let below : k < layout_count host extensible own written =
      to_below (host_layouts host own) (reordering_map (own_layouts host own) (reordering_back re)) j less in
      let here = (united host extensible (pieces_of written)).terminals + k in
      let k_at : slice_get l.layout k ≡ Some here =
      ap (λ z. slice_get z k) is.layout ∙
      at_range (united host extensible (pieces_of written)).terminals (layout_count host extensible own written) k below in
      let number : t ≡ row here =
      t_is ∙ (sym (row_redone (first + j)) ∙ ap row (layout_row host extensible own others written from to there_ok (reordering_back re) j)) in
      record {
        place = length l.forms + k;
        old = bare here;
        at = append_after l.forms (map bare l.layout) k ∙ at_map bare l.layout k here k_at;
        new = form_is_bare ∙ ap bare number;
      }

  comes : (place : ℕ) (form : Form) → slice_get (forms_there ++ map bare layouts_there) place ≡ Some form → Comes form
  comes place form at = elim (at_append forms_there (map bare layouts_there) form place at) [
    | inl mine ↦ before place form mine
    | inr more ↦ behind more.0 form more.2
  ]

  -- the expression of a form matches its texts
  abbrev IsFormTree : Form → Tree → Type 0
  IsFormTree form tree = (text : List ℕ) → Matches tree text ↔ IsTextOf host extensible own others form text

  text_same : (form : Form) (c : Comes form) (text : List ℕ)
      → IsMatch l.expressions c.place text ↔ IsTextOf host extensible own others form text
  text_same form c text = (
    λ matches. subst (λ z. IsTextOf host extensible own others z text) (sym c.new)
        (text_there host extensible own written others to from ok re c.old text ((is.expressions c.place c.old c.at text).0 matches)),
    λ h. (is.expressions c.place c.old c.at text).1
        (subst (λ z. IsTextOf host extensible own written z text) (ap moved_back c.new ∙ moved_undone c.old)
        (text_there host extensible own others written from to there_ok (reordering_back re) form text h)),
  )

  tree_for : (form : Form) → Comes form → (tree : Tree) × IsFormTree form tree
  tree_for form c =
      let within = slice_get_within (forms_of l) c.place c.old c.at in
      let len = is.expressions_len in
      let all = forms_count l in
      let (tree, at) = at_within l.expressions c.place (omega (arith, within, len, all)) in (
        tree,
        λ text. (
          λ m. (text_same form c text).0 (record { tree = tree; at = at; matches = m }),
          λ h.
              let m = (text_same form c text).1 h in
              subst (λ z. Matches z text) (same_Some m.tree tree (sym m.at ∙ at)) m.matches,
        ),
      )

  -- the expressions in the other order
  abbrev IsExpression : ℕ → Tree → Type 0
  IsExpression place tree =
      (form : Form) → slice_get (forms_there ++ map bare layouts_there) place ≡ Some form → IsFormTree form tree

  pub expressions_there : Chosen (length (forms_there ++ map bare layouts_there)) (Set []) IsExpression
  expressions_there = listed (length (forms_there ++ map bare layouts_there)) (Set []) IsExpression (λ place less.
      let (form, at) = at_within (forms_there ++ map bare layouts_there) place less in
      let (tree, matches) = tree_for form (comes place form at) in
      (tree, λ other also. subst (λ z. IsFormTree z tree) (same_Some form other (sym at ∙ also)) matches))

  -- the language in the other order: its forms and preferences with their new numbers, and layout and expressions at their new places
  abbrev pub in_other_order : LanguageView
  in_other_order = record {
    grammar = united host extensible (pieces_of others);
    forms = forms_there;
    layout = layouts_there;
    spans = (spans_in host extensible own others there_ok).list;
    expressions = expressions_there.list;
    preferences = map pair_to l.preferences;
  }

  forms_are : AreForms host extensible own others forms_there
  forms_are = record {
    each = λ place form at.
        let (f, f_at, same) = map_at (renamed_form r) l.forms place form at in
        subst (IsForm host extensible own others) (sym same)
        (form_there host extensible own written others to from ok re f (is.forms.each place f f_at));
    every = λ form formed.
        let old = renamed_form s form in
        let has = is.forms.every old (form_there host extensible own others written from to there_ok (reordering_back re) form formed) in
        let (i, at) = place_of l.forms old has in
        contains_at forms_there form i (at_map (renamed_form r) l.forms i old at ∙ ap Some (form_again form));
    once = λ x i j one two.
        let (f, f_at, f_is) = map_at (renamed_form r) l.forms i x one in
        let (g, g_at, g_is) = map_at (renamed_form r) l.forms j x two in
        let same : g ≡ f = sym (form_back g) ∙ (ap (renamed_form s) (sym g_is ∙ f_is) ∙ form_back f) in
        is.forms.once f i j f_at (g_at ∙ ap Some same);
  }

  matches_as : (place : ℕ) (form : Form) → slice_get (forms_there ++ map bare layouts_there) place ≡ Some form → (text : List ℕ)
      → IsMatch expressions_there.list place text ↔ IsTextOf host extensible own others form text
  matches_as place form at text =
      let c = expressions_there in
      let within = slice_get_within (forms_there ++ map bare layouts_there) place form at in
      let each = c.each place within form at text in
      let len = c.len in (
        λ m. each.0 (subst (λ z. Matches z text) (sym (default_at c.list place (Set []) m.tree m.at)) m.matches),
        λ h. record {
          tree = slice_index_or c.list place (Set []);
          at = at_default c.list place (Set []) (omega (arith, len, within));
          matches = each.1 h;
        },
      )

  prefers_as : (one other : ℕ) → Contains (map pair_to l.preferences) (one, other) ↔ Prefers host extensible own others one other
  prefers_as one other = (
    λ has.
        let (i, at) = place_of (map pair_to l.preferences) (one, other) has in
        let (p, p_at, same) = map_at pair_to l.preferences i (one, other) at in
        let there : Prefers host extensible own others (row p.0) (row p.1) =
        prefers_there host extensible own written others to from ok re p.0 p.1
        ((is.preferences p.0 p.1).0 (contains_at l.preferences p i p_at)) in
        subst (λ (z : ℕ × ℕ). Prefers host extensible own others z.0 z.1) (sym same) there,
    λ prefers.
        let has = (is.preferences (back one) (back other)).1
        (prefers_there host extensible own others written from to there_ok (reordering_back re) one other prefers) in
        let (i, at) = place_of l.preferences (back one, back other) has in
        let same : pair_to (back one, back other) ≡ (one, other) = λ z. (row_redone one z, row_redone other z) in
        contains_at (map pair_to l.preferences) (one, other) i
        (at_map pair_to l.preferences i (back one, back other) at ∙ ap Some same),
  )

  -- it is a language of the union in that order
  pub is_in_other_order : IsUnitedLanguage host extensible own others in_other_order
  is_in_other_order = record {
    grammar = refl;
    forms = forms_are;
    layout = refl;
    spans = are_spans host extensible own others there_ok;
    expressions_len =
        let len = expressions_there.len in
        let all = length-append forms_there (map bare layouts_there) in
        let same = length-map layouts_there bare in
        omega (arith, len, all, same);
    expressions = matches_as;
    preferences = prefers_as;
  }
