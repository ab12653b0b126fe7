-- What is considered, matches and beats at a prefix of a language does so in one that extends it; and there only markers do besides.
use Rattle.std.proofs.Common.{◌≡◌, ◌⊎◌, ◌∙◌, ◌+◌, ◌-◌, ◌<◌, ◌≤◌, ℕ, Bool, List, Some, true, false, ap, inl, inr, length, map}
use Rattle.std.proofs.Common.{slice_get, refl, subst, sym}
use Rattle.std.proofs.Common.{arith}
use Rattle.std.specs.Prelude.{Contains, None, Option, option_map, slice_index_or}
use Rattle.std.proofs.lemmas.Bool.{cases_lt, cases_order}
use Rattle.std.proofs.lemmas.Option.{slice_get-map, slice_get_within}
use Rattle.wb_lemmas.proofs.Places.{append_after, append_keeps, at_once, at_within}
use Rattle.wb_base.specs.declared.symbol.Symbol.{Symbol}
use Rattle.wb_base.specs.Grammar.{GrammarView}
use Rattle.wb_termset.specs.Sets.{IsMember}
use Rattle.wb_grammar_theory.specs.Items.{IsViablePrefix}
use Rattle.wb_scan_theory.specs.declared.form.Form.{Form}
use Rattle.wb_scan_theory.specs.Facts.{HasWinner, IsLanguage}
use Rattle.wb_scan_theory.specs.Languages.{LanguageView, bare, forms_of}
use Rattle.wb_scan_theory.specs.Winners.{Beats, BeatsAt, HoldsOne, IsConsideredForm, MatchesAt, Wins, both_bare, both_prefixed, by_prefix}
use Rattle.wb_scan_theory.specs.Winners.{layout, valid}
use Rattle.wb_scan_theory.proofs.TokenLemmas.{wins_once}
use Rattle.wb_reading_theory.specs.Languages.{IsSameForm, of_terminal, of_layout, KeepsForms, ExtendsLanguage}

-- a number is a member or not
true_or : (b : Bool) → (b ≡ true) ⊎ (¬ (b ≡ true))
true_or true = inl refl
true_or false = inr (λ e. cc e)

pub member_or : (set : List Bool) (t : ℕ) → IsMember set t ⊎ (¬ IsMember set t)
member_or set t = true_or (slice_index_or set t false)

-- the form at a place of layout is bare
layout_form : (m : LanguageView) (k : ℕ) → k < length m.layout → (t : ℕ) × (slice_get (forms_of m) (length m.forms + k) ≡ Some (bare t))
layout_form m k less =
    let (t, at) = at_within m.layout k less in (
      t,
      append_after m.forms (map bare m.layout) k ∙ (slice_get-map bare m.layout k ∙ ap (option_map bare) at),
    )

-- the same form at both places, but for the number of layout
record FormsAt (h u : LanguageView) (p q : ℕ) : Type 0 where
  one : Form
  two : Form
  at : slice_get (forms_of h) p ≡ Some one
  to : slice_get (forms_of u) q ≡ Some two
  same : one.prefix ≡ two.prefix

module _ {h u : LanguageView} (keeps : KeepsForms h u) where
  forms_at : {p q : ℕ} → IsSameForm h u p q → FormsAt h u p q
  forms_at {p} {q} (of_terminal form at to) = record {
    one = form;
    two = form;
    at = append_keeps h.forms (map bare h.layout) p form at;
    to = append_keeps u.forms (map bare u.layout) q form to;
    same = refl;
  }
  forms_at {p} {q} (of_layout k less p_is q_is) =
      let (t, at) = layout_form h k less in
      let layout_len = keeps.layout in
      let (s, to) = layout_form u k (omega (arith, less, layout_len)) in
      record {
        one = bare t;
        two = bare s;
        at = ap (slice_get (forms_of h)) p_is ∙ at;
        to = ap (slice_get (forms_of u)) q_is ∙ to;
        same = refl;
      }

  -- no two forms become one
  pub form_once : {p r q : ℕ} → IsSameForm h u p q → IsSameForm h u r q → p ≡ r
  form_once {p} {r} {q} (of_terminal form at to) (of_terminal also at' to') =
      keeps.once form p r at (at' ∙ ap Some (sym (at_once u.forms q form also to to')))
  form_once {p} {r} {q} (of_terminal form at to) (of_layout k less p_is q_is) =
      let within = slice_get_within u.forms q form to in absurd (omega (arith, within, q_is))
  form_once {p} {r} {q} (of_layout k less p_is q_is) (of_terminal form at to) =
      let within = slice_get_within u.forms q form to in absurd (omega (arith, within, q_is))
  form_once {p} {r} {q} (of_layout k less p_is q_is) (of_layout l less' r_is q_is') = omega (arith, p_is, q_is, r_is, q_is')

  -- what beats another there beats it here
  pub beats_from : {p q r s : ℕ} → IsSameForm h u p q → IsSameForm h u r s → BeatsAt u q s → BeatsAt h p r
  beats_from {p} {q} {r} {s} first second b =
      let one = forms_at first in
      let two = forms_at second in
      let first_is = ap (λ (z : Form). z.prefix) (at_once (forms_of u) q b.one one.two b.at one.to) in
      let second_is = ap (λ (z : Form). z.prefix) (at_once (forms_of u) s b.two two.two b.to two.to) in
      record {
        one = one.one;
        two = two.one;
        at = one.at;
        to = two.at;
        beats =
            go one two (one.same ∙ sym first_is) (two.same ∙ sym second_is) b.beats;
      }
    where
      preferred : (one : FormsAt h u p q) (two : FormsAt h u r s) → Contains u.preferences (b.one.terminal, b.two.terminal) →
          Contains h.preferences (one.one.terminal, two.one.terminal)
      preferred one two listed =
          let f = (keeps.preferences p q r s first second).1 (record {
            one = b.one;
            two = b.two;
            at = b.at;
            to = b.to;
            preferred =
                listed;
          }) in
          let left = ap (λ (z : Form). z.terminal) (at_once (forms_of h) p f.one one.one f.at one.at) in
          let right = ap (λ (z : Form). z.terminal) (at_once (forms_of h) r f.two two.one f.to two.at) in
          subst (λ z. Contains h.preferences (z, two.one.terminal)) left
          (subst (λ z. Contains h.preferences (f.one.terminal, z)) right f.preferred)

      go : (one : FormsAt h u p q) (two : FormsAt h u r s) → one.one.prefix ≡ b.one.prefix → two.one.prefix ≡ b.two.prefix →
          Beats u b.one b.two → Beats h one.one two.one
      go one two e f (by_prefix some_before none_before) = by_prefix (λ g. some_before (sym e ∙ g)) (f ∙ none_before)
      go one two e f (both_bare left right listed) = both_bare (e ∙ left) (f ∙ right) (preferred one two listed)
      go one two e f (both_prefixed left right listed) =
          both_prefixed (λ g. left (sym e ∙ g)) (λ g. right (sym f ∙ g)) (preferred one two listed)

-- layout without a span is considered at each prefix
everywhere : (g : GrammarView) (prefix : List Symbol) (spans : List (Option (ℕ × ℕ))) (i k : ℕ) → i ≡ k →
    slice_index_or spans k None ≡ None → HoldsOne g prefix (slice_index_or spans i None)
everywhere g prefix spans i k same none =
    subst (HoldsOne g prefix) (sym (ap (λ (n : ℕ). slice_index_or spans n None) same ∙ none)) tt

-- a form of a marker
pub record IsMarkerForm (u : LanguageView) (markers : List Bool) (q : ℕ) : Type 0 where
  pub form : Form
  pub at : slice_get u.forms q ≡ Some form
  pub marks : IsMember markers form.terminal

module _ {h u : LanguageView} {markers : List Bool} (of_host : IsLanguage h) (of_union : IsLanguage u)
    (extends : ExtendsLanguage h u markers)
    (prefix : List Symbol) (viable : IsViablePrefix h.grammar prefix) (there : IsViablePrefix u.grammar prefix) where
  -- what is considered here is considered there
  considered_to : (p : ℕ) → IsConsideredForm h prefix p → (q : ℕ) × IsSameForm h u p q × IsConsideredForm u prefix q
  considered_to p (valid form at v) =
      let (q, to) = extends.forms.form_to p form at in
      let below = of_host.written.forms_below p form at in
      (q, of_terminal form at to, valid form to ((extends.valid.terminal prefix viable form.terminal below).1 v))
  considered_to p (layout (low, high) holds) =
      let len = extends.forms.layout in
      let less : p - length h.forms < length h.layout = omega (arith, low, high) in (
        length u.forms + (p - length h.forms),
        of_layout (p - length h.forms) less (omega (arith, low)) refl,
        layout (omega arith, omega (arith, low, high, len))
            (everywhere u.grammar prefix u.spans (length u.forms + (p - length h.forms) - length u.forms) (p - length h.forms) (omega arith)
            (extends.forms.everywhere (p - length h.forms) less).1),
      )

  -- what is considered there is considered here, or is a marker
  considered_from : (q : ℕ) → IsConsideredForm u prefix q →
      ((p : ℕ) × IsSameForm h u p q × IsConsideredForm h prefix p) ⊎ IsMarkerForm u markers q
  considered_from q (valid form to v) = elim (cases_order form.terminal h.grammar.terminals) [
    | inl e ↦ further (omega (arith, e))
    | inr (inl less) ↦ (let (p, at) = extends.forms.form_from q form to less in
        inl (p, of_terminal form at to, valid form at ((extends.valid.terminal prefix viable form.terminal less).0 v)))
    | inr (inr greater) ↦ further (omega (arith, greater))
  ]
    where
      further : h.grammar.terminals ≤ form.terminal →
          ((p : ℕ) × IsSameForm h u p q × IsConsideredForm h prefix p) ⊎ IsMarkerForm u markers q
      further low = elim (member_or markers form.terminal) [
        | inl marks ↦ inr (record { form = form; at = to; marks = marks })
        | inr not ↦ absurd (extends.valid.further prefix viable form.terminal low (of_union.written.forms_below q form to) not v)
      ]
  considered_from q (layout (low, high) holds) =
      elim (cases_lt (q - length u.forms) (length h.layout)) [
        | inl less ↦ inl (
          length h.forms + (q - length u.forms),
          of_layout (q - length u.forms) less refl (omega (arith, low)),
          layout (omega arith, omega (arith, less))
              (everywhere h.grammar prefix h.spans (length h.forms + (q - length u.forms) - length h.forms) (q - length u.forms)
              (omega arith) (extends.forms.everywhere (q - length u.forms) less).0),
        )
        | inr far ↦ absurd (extends.layout prefix viable (q - length u.forms) (omega (arith, far)) (omega (arith, low, high)) holds)
      ]

  module _ (text : List ℕ) (at : ℕ) where
    matches_to : (p : ℕ) (piece : List ℕ) → MatchesAt h prefix text at p piece →
        (q : ℕ) × IsSameForm h u p q × MatchesAt u prefix text at q piece
    matches_to p piece m =
        let (q, same, considered) = considered_to p m.considered in
        (q, same, record { considered = considered; is = (extends.forms.matches p q same piece).0 m.is; rest = m.rest; here = m.here })

    matches_from : (q : ℕ) (piece : List ℕ) → MatchesAt u prefix text at q piece →
        ((p : ℕ) × IsSameForm h u p q × MatchesAt h prefix text at p piece) ⊎ IsMarkerForm u markers q
    matches_from q piece m = elim (considered_from q m.considered) [
      | inl (p, same, considered) ↦
          inl (
            p,
            same,
            record {
              considered = considered;
              is = (extends.forms.matches p q same piece).1 m.is;
              rest = m.rest;
              here =
                  m.here;
            },
          )
      | inr marker ↦ inr marker
    ]

    -- what wins there wins here, or is a marker
    pub wins_from : (q : ℕ) (piece : List ℕ) → Wins u prefix text at q piece →
        ((p : ℕ) × IsSameForm h u p q × Wins h prefix text at p piece) ⊎ IsMarkerForm u markers q
    wins_from q piece w = elim (matches_from q piece w.matches) [
      | inl (p, same, matches) ↦ inl (
        p,
        same,
        record {
          matches = matches;
          longest = λ other longer m. let (o, also, there) = matches_to other longer m in w.longest o longer there;
          beats = λ other equal m len differ.
              let (o, also, there) = matches_to other equal m in
              beats_from extends.forms same also (w.beats o equal there len
              (λ e. differ (form_once extends.forms also (subst (IsSameForm h u p) (sym e) same))));
        },
      )
      | inr marker ↦ inr marker
    ]

    -- what wins here wins there, or a marker does
    pub wins_to : (p : ℕ) (piece : List ℕ) → Wins h prefix text at p piece →
        ((q : ℕ) × IsSameForm h u p q × Wins u prefix text at q piece)
        ⊎ ((q : ℕ) × (longer : List ℕ) × Wins u prefix text at q longer × IsMarkerForm u markers q)
    wins_to p piece w =
        let (q, same, matches) = matches_to p piece w.matches in
        go (of_union.winners.some prefix there text at q piece matches)
      where
        go : HasWinner u prefix text at → ((q : ℕ) × IsSameForm h u p q × Wins u prefix text at q piece)
            ⊎ ((q : ℕ) × (longer : List ℕ) × Wins u prefix text at q longer × IsMarkerForm u markers q)
        go (q, found, v) = elim (wins_from q found v) [
          | inl (r, same, here) ↦
              (let once = wins_once of_host.winners here w in
              inl (q, subst (λ z. IsSameForm h u z q) once.0 same, subst (Wins u prefix text at q) once.1 v))
          | inr marker ↦ inr (q, found, v, marker)
        ]
