-- What is considered, matches, beats and wins at a prefix does so in other numbers.
use Rattle.std.proofs.Common.{◌∙◌, ◌≡◌, ◌+◌, ◌-◌, ℕ, List, Option, Some, [], ap, inl, inr, length, map, slice_get, refl, subst, sym}
use Rattle.std.proofs.Common.{arith}
use Rattle.std.specs.Prelude.{Contains, option_map}
use Rattle.std.proofs.lemmas.List.{length-map}
use Rattle.std.proofs.lemmas.Option.{slice_get-map, slice_get_within}
use Rattle.wb_lemmas.proofs.Places.{append_after, append_keeps, at_append, at_once, at_within}
use Rattle.wb_base.specs.declared.symbol.Symbol.{Symbol}
use Rattle.wb_base.specs.Grammar.{GrammarView}
use Rattle.wb_scan_theory.specs.declared.form.Form.{Form}
use Rattle.wb_scan_theory.specs.Languages.{LanguageView, bare, forms_of, IsLayout}
use Rattle.wb_scan_theory.specs.Winners.{Beats, BeatsAt, HoldsOne, IsConsideredForm, MatchesAt, Wins, both_bare, both_prefixed, by_prefix}
use Rattle.wb_scan_theory.specs.Winners.{layout, valid}
use Rattle.wb_compose_theory.specs.Renamings.{Renaming, renamed, renamed_item}
use Rattle.wb_compose_theory_order.specs.Inner.SameGrammars.{IsSameGrammar}
use Rattle.wb_compose_theory_order.specs.Grammars.{GrammarLeadsTo}
use Rattle.wb_compose_theory_order.specs.Languages.{IsSameLanguage, LanguageLeadsTo, Renumbering, SpanLeadsTo, among, everywhere}
use Rattle.wb_compose_theory_order.specs.Languages.{renamed_form}
use Rattle.wb_compose_theory_order.proofs.GrammarLemmas.{kernel_there, list_back}
use Rattle.wb_compose_theory_order.proofs.TerminalLemmas.{terminal_there}

-- the other way round
pub same_language_back : {r s : Renumbering} {l m : LanguageView} → IsSameLanguage r s l m → IsSameLanguage s r m l
same_language_back same = record { there = same.back; back = same.there; undone = same.redone; redone = same.undone }

-- the grammars are one
pub grammar_of : {r s : Renumbering} {l m : LanguageView} → IsSameLanguage r s l m → IsSameGrammar r.names s.names l.grammar m.grammar
grammar_of same =
    record { there = same.there.grammar; back = same.back.grammar; undone = same.undone.names; redone = same.redone.names }

-- the form at a place of layout is bare
layout_form : (m : LanguageView) (place : ℕ) → IsLayout m place → (t : ℕ) × (slice_get (forms_of m) place ≡ Some (bare t))
layout_form m place (low, high) =
    let (t, at) = at_within m.layout (place - length m.forms) (omega (arith, low, high)) in
    let back : place ≡ length m.forms + (place - length m.forms) = omega (arith, low) in (
      t,
      ap (slice_get (forms_of m)) back ∙
          (append_after m.forms (map bare m.layout) (place - length m.forms) ∙
          (slice_get-map bare m.layout (place - length m.forms) ∙ ap (option_map bare) at)),
    )

-- the form at a place is one of a terminal, or that of layout, which is bare
data FormAt (l : LanguageView) (place : ℕ) (form : Form) : Type 0 where
  of_terminal : slice_get l.forms place ≡ Some form → FormAt l place form
  of_layout : IsLayout l place → form.prefix ≡ [] → FormAt l place form

form_at : (l : LanguageView) (place : ℕ) (form : Form) → slice_get (forms_of l) place ≡ Some form → FormAt l place form
form_at l place form at = elim (at_append l.forms (map bare l.layout) form place at) [
  | inl own ↦ of_terminal own
  | inr more ↦ after more.0 more.1 more.2
]
  where
    after : (j : ℕ) → place ≡ length l.forms + j → slice_get (map bare l.layout) j ≡ Some form → FormAt l place form
    after j is j_at =
        let less = slice_get_within (map bare l.layout) j form j_at in
        let len = length-map l.layout bare in
        let is_layout : IsLayout l place = (omega (arith, is), omega (arith, is, less, len)) in
        let (t, t_at) = layout_form l place is_layout in
        of_layout is_layout (ap (λ (z : Form). z.prefix) (at_once (forms_of l) place form (bare t) at t_at))

-- a form's form there has its prefix
record FormThere (m : LanguageView) (place : ℕ) (prefix : List ℕ) : Type 0 where
  form : Form
  at : slice_get (forms_of m) place ≡ Some form
  same : form.prefix ≡ prefix

form_there : {r : Renumbering} {l m : LanguageView} → LanguageLeadsTo r l m → (place : ℕ) (form : Form) →
    slice_get (forms_of l) place ≡ Some form → FormThere m (r.place place) form.prefix
form_there {r} {l} {m} leads place form at = go (form_at l place form at)
  where
    go : FormAt l place form → FormThere m (r.place place) form.prefix
    go (of_terminal own) = record {
      form = renamed_form r.names form;
      at = append_keeps m.forms (map bare m.layout) (r.place place) (renamed_form r.names form) (leads.forms place form own);
      same = refl;
    }
    go (of_layout is none_before) =
        let (t, t_at) = layout_form m (r.place place) (leads.layout place is) in
        record { form = bare t; at = t_at; same = sym none_before }

-- what beats another beats it there
beats_there : {r : Renumbering} {l m : LanguageView} → LanguageLeadsTo r l m → (place other : ℕ) → BeatsAt l place other →
    BeatsAt m (r.place place) (r.place other)
beats_there {r} {l} {m} leads place other b =
    let one = form_there leads place b.one b.at in
    let two = form_there leads other b.two b.to in
    record { one = one.form; two = two.form; at = one.at; to = two.at; beats = go one two b.beats }
  where
    preferred : (one : FormThere m (r.place place) b.one.prefix) (two : FormThere m (r.place other) b.two.prefix) →
        Contains l.preferences (b.one.terminal, b.two.terminal) → Contains m.preferences (one.form.terminal, two.form.terminal)
    preferred one two listed =
        let p = leads.preferences place other (record { one = b.one; two = b.two; at = b.at; to = b.to; preferred = listed }) in
        let first = ap (λ (z : Form). z.terminal) (at_once (forms_of m) (r.place place) p.one one.form p.at one.at) in
        let second = ap (λ (z : Form). z.terminal) (at_once (forms_of m) (r.place other) p.two two.form p.to two.at) in
        subst (λ z. Contains m.preferences (z, two.form.terminal)) first
        (subst (λ z. Contains m.preferences (p.one.terminal, z)) second p.preferred)

    go : (one : FormThere m (r.place place) b.one.prefix) (two : FormThere m (r.place other) b.two.prefix) → Beats l b.one b.two →
        Beats m one.form two.form
    go one two (by_prefix some_before none_before) = by_prefix (λ e. some_before (sym one.same ∙ e)) (two.same ∙ none_before)
    go one two (both_bare first second listed) =
        both_bare (one.same ∙ first) (two.same ∙ second) (preferred one two listed)
    go one two (both_prefixed first second listed) =
        both_prefixed (λ e. first (sym one.same ∙ e)) (λ e. second (sym two.same ∙ e)) (preferred one two listed)

-- where a kernel holds an item of one of the productions, it does so there
holds_there : {r : Renaming} {g k : GrammarView} → GrammarLeadsTo r g k → {span other : Option (ℕ × ℕ)} → SpanLeadsTo r span other →
    (prefix : List Symbol) → HoldsOne g prefix span → HoldsOne k (map (renamed r) prefix) other
holds_there leads everywhere prefix holds = tt
holds_there {r} leads (among span other inside) prefix (item, is, low, high) =
    let there = inside item.production low high in (renamed_item r item, kernel_there leads prefix item is, there.0, there.1)

module _ {r s : Renumbering} {l m : LanguageView} (same : IsSameLanguage r s l m) where
  pub considered_there : (prefix : List Symbol) (place : ℕ) → IsConsideredForm l prefix place →
      IsConsideredForm m (map (renamed r.names) prefix) (r.place place)
  considered_there prefix place (valid form at v) =
      valid (renamed_form r.names form) (same.there.forms place form at) (terminal_there (grammar_of same) prefix form.terminal v)
  considered_there prefix place (layout is holds) =
      layout (same.there.layout place is) (holds_there same.there.grammar (same.there.spans place is) prefix holds)

  pub matches_there : (prefix : List Symbol) (text : List ℕ) (at place : ℕ) (piece : List ℕ) → MatchesAt l prefix text at place piece →
      MatchesAt m (map (renamed r.names) prefix) text at (r.place place) piece
  matches_there prefix text at place piece h = record {
    considered = considered_there prefix place h.considered;
    is = same.there.expressions place piece h.is;
    rest = h.rest;
    here = h.here;
  }

-- what matches there matches here
pub matches_back : {r s : Renumbering} {l m : LanguageView} → IsSameLanguage r s l m → (prefix : List Symbol) (text : List ℕ)
    (at place : ℕ) (piece : List ℕ) → MatchesAt m (map (renamed r.names) prefix) text at place piece →
    MatchesAt l prefix text at (s.place place) piece
matches_back {r} {s} {l} same prefix text at place piece h =
    subst (λ z. MatchesAt l z text at (s.place place) piece) (list_back same.undone.names prefix)
    (matches_there (same_language_back same) (map (renamed r.names) prefix) text at place piece h)

-- what wins wins there
pub wins_there : {r s : Renumbering} {l m : LanguageView} → IsSameLanguage r s l m → (prefix : List Symbol) (text : List ℕ)
    (at place : ℕ) (piece : List ℕ) → Wins l prefix text at place piece →
    Wins m (map (renamed r.names) prefix) text at (r.place place) piece
wins_there {r} {s} {l} {m} same prefix text at place piece w = record {
  matches = matches_there same prefix text at place piece w.matches;
  longest = λ other longer h. w.longest (s.place other) longer (matches_back same prefix text at other longer h);
  beats = λ other equal h len other_is.
      subst (BeatsAt m (r.place place)) (same.redone.place other)
      (beats_there same.there place (s.place other)
      (w.beats (s.place other) equal (matches_back same prefix text at other equal h) len
      (λ e. other_is (sym (same.redone.place other) ∙ ap r.place e))));
}

-- what wins there wins here
pub wins_back : {r s : Renumbering} {l m : LanguageView} → IsSameLanguage r s l m → (prefix : List Symbol) (text : List ℕ)
    (at place : ℕ) (piece : List ℕ) → Wins m (map (renamed r.names) prefix) text at place piece →
    Wins l prefix text at (s.place place) piece
wins_back {r} {s} {l} same prefix text at place piece w =
    subst (λ z. Wins l z text at (s.place place) piece) (list_back same.undone.names prefix)
    (wins_there (same_language_back same) (map (renamed r.names) prefix) text at place piece w)
