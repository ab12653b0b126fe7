-- Where forms are bare and preferences without a cycle order what matches one text, one form beats the other.
use Rattle.std.proofs.Common.{◌≡◌, ◌≢◌, ◌<◌, ◌+◌, ◌⊎◌, ℕ, zero, suc, List, [], ◌∷◌, length, length-append, refl, sym, ◌∙◌, ap, subst, inl}
use Rattle.std.proofs.Common.{inr, arith}
use Rattle.std.specs.Prelude.{slice_get, Some, Contains, map}
use Rattle.std.proofs.lemmas.Option.{slice_get_within}
use Rattle.wb_lemmas.proofs.Places.{at_once, at_within, at_append}
use Rattle.wb_graph.specs.Orders.{IsCycle}
use Rattle.wb_base.specs.declared.symbol.Symbol.{Symbol}
use Rattle.wb_grammar_theory.specs.Items.{IsViablePrefix}
use Rattle.wb_scan_theory.specs.declared.form.Form.{Form}
use Rattle.wb_scan_theory.specs.Languages.{LanguageView, forms_of, bare}
use Rattle.wb_scan_theory.specs.Winners.{MatchesAt, Beats, by_prefix, both_bare, both_prefixed, BeatsAt}
use Rattle.wb_scan_theory.specs.Facts.{IsWritten, AreOrderedForms, AreDecided}

pub cycle_two : (edges : List (ℕ × ℕ)) (a b : ℕ) → Contains edges (a, b) → Contains edges (b, a) → IsCycle edges (a ∷ b ∷ [])
cycle_two edges a b ab ba = record { nonempty = omega arith; next = next; closes = closes }
  where
    next : (i u v : ℕ) → slice_get (a ∷ b ∷ []) i ≡ Some u → slice_get (a ∷ b ∷ []) (i + 1) ≡ Some v → Contains edges (u, v)
    next zero u v e f =
        let p : a ≡ u = cc in
        let q : b ≡ v = cc in subst (λ z. Contains edges (z, v)) p (subst (λ z. Contains edges (a, z)) q ab)
    next (suc zero) u v e f = cc
    next (suc (suc i)) u v e f = cc

    closes : (u v : ℕ) → slice_get (a ∷ b ∷ []) 1 ≡ Some u → slice_get (a ∷ b ∷ []) 0 ≡ Some v → Contains edges (u, v)
    closes u v e f =
        let p : b ≡ u = cc in
        let q : a ≡ v = cc in subst (λ z. Contains edges (z, v)) p (subst (λ z. Contains edges (b, z)) q ba)

pub cycle_three : (edges : List (ℕ × ℕ)) (a b c : ℕ) → Contains edges (a, b) → Contains edges (b, c) → Contains edges (c, a) →
    IsCycle edges (a ∷ b ∷ c ∷ [])
cycle_three edges a b c ab bc ca = record { nonempty = omega arith; next = next; closes = closes }
  where
    next : (i u v : ℕ) → slice_get (a ∷ b ∷ c ∷ []) i ≡ Some u → slice_get (a ∷ b ∷ c ∷ []) (i + 1) ≡ Some v → Contains edges (u, v)
    next zero u v e f =
        let p : a ≡ u = cc in
        let q : b ≡ v = cc in subst (λ z. Contains edges (z, v)) p (subst (λ z. Contains edges (a, z)) q ab)
    next (suc zero) u v e f =
        let p : b ≡ u = cc in
        let q : c ≡ v = cc in subst (λ z. Contains edges (z, v)) p (subst (λ z. Contains edges (b, z)) q bc)
    next (suc (suc zero)) u v e f = cc
    next (suc (suc (suc i))) u v e f = cc

    closes : (u v : ℕ) → slice_get (a ∷ b ∷ c ∷ []) 2 ≡ Some u → slice_get (a ∷ b ∷ c ∷ []) 0 ≡ Some v → Contains edges (u, v)
    closes u v e f =
        let p : c ≡ u = cc in
        let q : a ≡ v = cc in subst (λ z. Contains edges (z, v)) p (subst (λ z. Contains edges (c, z)) q ca)

pub layout_bare : (ts : List ℕ) (j : ℕ) (f : Form) → slice_get (map bare ts) j ≡ Some f → f.prefix ≡ []
layout_bare [] j f e = cc
layout_bare (t ∷ ts) zero f e = let p : bare t ≡ f = cc in sym (ap (λ (z : Form). z.prefix) p)
layout_bare (t ∷ ts) (suc j) f e = layout_bare ts j f e

length_map : (ts : List ℕ) → length (map bare ts) ≡ length ts
length_map [] = refl
length_map (t ∷ ts) = ap suc (length_map ts)

-- how many forms there are, layout's with them
pub forms_count : (l : LanguageView) → length (forms_of l) ≡ length l.forms + length l.layout
forms_count l = length-append l.forms (map bare l.layout) ∙ ap (λ n. length l.forms + n) (length_map l.layout)

module _ {l : LanguageView} (ok : AreOrderedForms l) where
  all_bare : (p : ℕ) (f : Form) → slice_get (forms_of l) p ≡ Some f → f.prefix ≡ []
  all_bare p f at = elim (at_append l.forms (map bare l.layout) f p at) [
    | inl here ↦ ok.bare p f here
    | inr (j, is, there) ↦ layout_bare l.layout j f there
  ]

  beaten : {f g : Form} → f.prefix ≡ [] → g.prefix ≡ [] → Beats l f g → Contains l.preferences (f.terminal, g.terminal)
  beaten f_bare g_bare (by_prefix ne e) = absurd (ne f_bare)
  beaten f_bare g_bare (both_bare e e' c) = c
  beaten f_bare g_bare (both_prefixed ne ne' c) = absurd (ne f_bare)

  beaten_at : {p q : ℕ} → (b : BeatsAt l p q) → Contains l.preferences (b.one.terminal, b.two.terminal)
  beaten_at {p} {q} b = beaten (all_bare p b.one b.at) (all_bare q b.two b.to) b.beats

  no_two : (p q : ℕ) → BeatsAt l p q → BeatsAt l q p → ⊥
  no_two p q b c =
      let e : b.two ≡ c.one = at_once (forms_of l) q b.two c.one b.to c.at in
      let f : c.two ≡ b.one = at_once (forms_of l) p c.two b.one c.to b.at in
      ok.acyclic (b.one.terminal ∷ b.two.terminal ∷ [])
      (cycle_two l.preferences b.one.terminal b.two.terminal (beaten_at b)
      (subst (λ (z : Form). Contains l.preferences (b.two.terminal, z.terminal)) f
      (subst (λ (z : Form). Contains l.preferences (z.terminal, c.two.terminal)) (sym e) (beaten_at c))))

  no_three : (p q r : ℕ) → BeatsAt l p q → BeatsAt l q r → BeatsAt l r p → ⊥
  no_three p q r b c d =
      let e : c.one ≡ b.two = at_once (forms_of l) q c.one b.two c.at b.to in
      let f : d.one ≡ c.two = at_once (forms_of l) r d.one c.two d.at c.to in
      let h : d.two ≡ b.one = at_once (forms_of l) p d.two b.one d.to b.at in
      ok.acyclic (b.one.terminal ∷ b.two.terminal ∷ c.two.terminal ∷ [])
      (cycle_three l.preferences b.one.terminal b.two.terminal c.two.terminal (beaten_at b)
      (subst (λ (z : Form). Contains l.preferences (z.terminal, c.two.terminal)) e (beaten_at c))
      (subst (λ (z : Form). Contains l.preferences (c.two.terminal, z.terminal)) h
      (subst (λ (z : Form). Contains l.preferences (z.terminal, d.two.terminal)) f (beaten_at d))))

  -- the form of a place that has an expression
  form_at : IsWritten l → (p : ℕ) → p < length l.expressions → (f : Form) × (slice_get (forms_of l) p ≡ Some f)
  form_at written p lt =
      let a : length l.expressions ≡ length l.forms + length l.layout = written.expressions_len in
      let b : length (forms_of l) ≡ length l.forms + length l.layout = forms_count l in
      at_within (forms_of l) p (omega arith)

  pairs : IsWritten l → (prefix : List Symbol) → IsViablePrefix l.grammar prefix → (text : List ℕ) (at place other : ℕ) (piece : List ℕ) →
      place ≢ other → MatchesAt l prefix text at place piece → MatchesAt l prefix text at other piece →
      BeatsAt l place other ⊎ BeatsAt l other place
  pairs written prefix viable text at p q piece ne m n =
      let (f, at_f) = form_at written p (slice_get_within l.expressions p m.is.tree m.is.at) in
      let (g, at_g) = form_at written q (slice_get_within l.expressions q n.is.tree n.is.at) in
      elim (ok.ordered prefix viable p q f g piece ne at_f at_g m.considered n.considered m.is n.is) [
        | inl c ↦ inl (record { one = f; two = g; at = at_f; to = at_g; beats = both_bare (all_bare p f at_f) (all_bare q g at_g) c })
        | inr c ↦ inr (record { one = g; two = f; at = at_g; to = at_f; beats = both_bare (all_bare q g at_g) (all_bare p f at_f) c })
      ]

  pub bare_decided : IsWritten l → AreDecided l
  bare_decided written = record { pairs = pairs written; no_two = no_two; no_three = no_three }
