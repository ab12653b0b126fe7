-- The language of the union is decided and written: what its laws say.
use Rattle.std.proofs.Common.{◌≡◌, ◌≢◌, ◌<◌, ◌+◌, ◌∙◌, ◌⊎◌, ◌++◌, [], ℕ, List, Some, map, slice_get, sym, ap, subst, inl, inr}
use Rattle.std.proofs.lemmas.Bool.{cases_eq}
use Rattle.std.proofs.lemmas.Option.{slice_get_within}
use Rattle.wb_automata.specs.Automata.{IsMatch}
use Rattle.wb_base.specs.declared.symbol.Symbol.{Symbol}
use Rattle.wb_base.specs.Grammar.{GrammarView}
use Rattle.wb_determinism_contexts.specs.Considered.{LexiconView}
use Rattle.wb_grammar_theory.specs.Items.{IsViablePrefix}
use Rattle.wb_lemmas.proofs.Places.{append_keeps, at_once}
use Rattle.wb_lexical.specs.Clash.{AreOrdered}
use Rattle.wb_scan_theory.specs.declared.form.Form.{Form}
use Rattle.wb_scan_theory.specs.Facts.{AreDecided, IsWritten}
use Rattle.wb_scan_theory.specs.Languages.{LanguageView, bare, forms_of}
use Rattle.wb_scan_theory.specs.Winners.{Beats, BeatsAt, MatchesAt, both_bare, both_prefixed, by_prefix}
use Rattle.wb_compose_theory_grammar.specs.Certificates.{AreCertified}
use Rattle.wb_compose_theory_grammar.specs.Laws.{in_union}
use Rattle.wb_compose_theory_grammar.proofs.FactLemmas.{at_map}
use Rattle.wb_compose_theory_language.specs.Written.{WrittenPiece, pieces_of}
use Rattle.wb_compose_theory_language.specs.Apart.{AreWrittenApart, IsMarkerRow}
use Rattle.wb_compose_theory_language.specs.Forms.{IsMarkerOf, prefix_of}
use Rattle.wb_compose_theory_language.specs.Languages.{IsUnitedLanguage}
use Rattle.wb_compose_theory_language.specs.Rows.{Reads}
use Rattle.wb_compose_theory_language.proofs.BareLemmas.{marker_marker, one_piece, two_bare}
use Rattle.wb_compose_theory_language.proofs.BeatsLemmas.{ring_of_three, ring_of_two}
use Rattle.wb_compose_theory_language.proofs.ClashLemmas.{Ordered}
use Rattle.wb_compose_theory_language.proofs.DecidedLemmas.{Kind, form_at, form_below, kind_at, layout_at, of_bare, of_prefixed, one_place}
use Rattle.wb_compose_theory_language.proofs.PairLemmas.{BareRow}
use Rattle.wb_compose_theory_language.proofs.PreferenceLemmas.{apart_at, no_ring_of_three, no_ring_of_two}
use Rattle.wb_compose_theory_language.proofs.TextLemmas.{ordered_stable, prefix_some, same_prefix}

module _ (host : GrammarView) (extensible : List ℕ) (own : LexiconView) (written : List WrittenPiece) (l : LanguageView)
    (certified : AreCertified host extensible (pieces_of written)) (apart : AreWrittenApart host extensible own written)
    (is : IsUnitedLanguage host extensible own written l) where
  -- what the union orders, its list of preferences does
  listed : (t u : ℕ) → Ordered host extensible own written certified.are_pieces apart t u → AreOrdered l.preferences t u
  listed t u (inl p) = inl ((is.preferences t u).1 p)
  listed t u (inr p) = inr ((is.preferences u t).1 p)

  -- forms are one by their terminal and their prefix
  same_form : (f g : Form) → f.terminal ≡ g.terminal → f.prefix ≡ g.prefix → f ≡ g
  same_form f g t p = λ j. record { terminal = t j; prefix = p j }

  module _ (prefix : List Symbol) (place other : ℕ) (f g : Form) (text : List ℕ) (differ : place ≢ other)
      (at_f : slice_get (forms_of l) place ≡ Some f) (at_g : slice_get (forms_of l) other ≡ Some g) where
    -- two forms at different places aren't one
    apart_forms : f.terminal ≡ g.terminal → f.prefix ≡ g.prefix → ⊥
    apart_forms t p = differ (one_place host extensible own written l certified apart is place other g
        (subst (λ z. slice_get (forms_of l) place ≡ Some z) (same_form f g t p) at_f) at_g)

    -- two bare ones
    bare_ordered : f.prefix ≡ [] → g.prefix ≡ [] → BareRow host extensible own written certified apart prefix f.terminal →
        BareRow host extensible own written certified apart prefix g.terminal → Reads host extensible own written f.terminal text →
        Reads host extensible own written g.terminal text → AreOrdered l.preferences f.terminal g.terminal
    bare_ordered f_bare g_bare f_row g_row f_reads g_reads = ordered_stable l.preferences f.terminal g.terminal
        (λ out. two_bare host extensible own written certified apart prefix f.terminal g.terminal text f_row g_row record {
          different = λ e. apart_forms e (f_bare ∙ sym g_bare);
          one_reads = f_reads;
          other_reads = g_reads;
          unordered = λ o. out (listed f.terminal g.terminal o);
        })

    -- two with a prefix
    prefixed_ordered : (k m : ℕ) (x y : WrittenPiece) (a b : List ℕ) → IsMarkerOf host extensible own written k x f.terminal →
        IsMarkerOf host extensible own written m y g.terminal → f.prefix ≡ prefix_of x → g.prefix ≡ prefix_of y →
        Reads host extensible own written f.terminal a → Reads host extensible own written g.terminal b → text ≡ prefix_of x ++ a →
        text ≡ prefix_of y ++ b → AreOrdered l.preferences f.terminal g.terminal
    prefixed_ordered k m x y a b one two f_is g_is f_reads g_reads x_is y_is = ordered_stable l.preferences f.terminal g.terminal
        (λ out. elim (cases_eq k m) [
          | inl same ↦ equal same out
          | inr unlike ↦ unlike (apart.names x.name k m (at_map (λ (z : WrittenPiece). z.name) written k x one.listed)
              (at_map (λ (z : WrittenPiece). z.name) written m y two.listed ∙ ap Some (sym parts.0)))
        ])
      where
        parts : (x.name ≡ y.name) × (a ≡ b)
        parts = same_prefix x y a b (apart_at host extensible own written certified.are_pieces apart k x one.listed).name
            (apart_at host extensible own written certified.are_pieces apart m y two.listed).name (sym x_is ∙ y_is)

        equal : k ≡ m → ¬ ¬ AreOrdered l.preferences f.terminal g.terminal
        equal same out =
            let y_is' = one_piece host extensible own written certified apart prefix k m x y one.listed two.listed same in
            marker_marker host extensible own written certified apart prefix k x one.listed one.terminal f.terminal two.terminal g.terminal a
            one.marker one.is (subst (λ z. IsMarkerRow host extensible own z two.terminal) y_is' two.marker)
            (two.is ∙ ap (λ z. in_union host extensible (pieces_of written) z two.terminal) (sym same)) record {
              different = λ e. apart_forms e (f_is ∙ (ap prefix_of (sym y_is') ∙ sym g_is));
              one_reads = f_reads;
              other_reads = subst (Reads host extensible own written g.terminal) (sym parts.1) g_reads;
              unordered = λ o. out (listed f.terminal g.terminal o);
            }

    -- one beats the other
    one_beats : Kind host extensible own written l certified apart is prefix f text →
        Kind host extensible own written l certified apart is prefix g text → Beats l f g ⊎ Beats l g f
    one_beats (of_bare f_bare f_row f_reads) (of_bare g_bare g_row g_reads) =
        elim (bare_ordered f_bare g_bare f_row g_row f_reads g_reads) [
          | inl c ↦ inl (both_bare f_bare g_bare c)
          | inr c ↦ inr (both_bare g_bare f_bare c)
        ]
    one_beats (of_bare f_bare f_row f_reads) (of_prefixed k x a marker g_is reads x_is) =
        inr (by_prefix (λ e. prefix_some x (sym g_is ∙ e)) f_bare)
    one_beats (of_prefixed k x a marker f_is reads x_is) (of_bare g_bare g_row g_reads) =
        inl (by_prefix (λ e. prefix_some x (sym f_is ∙ e)) g_bare)
    one_beats (of_prefixed k x a one f_is f_reads x_is) (of_prefixed m y b two g_is g_reads y_is) =
        elim (prefixed_ordered k m x y a b one two f_is g_is f_reads g_reads x_is y_is) [
          | inl c ↦ inl (both_prefixed (λ e. prefix_some x (sym f_is ∙ e)) (λ e. prefix_some y (sym g_is ∙ e)) c)
          | inr c ↦ inr (both_prefixed (λ e. prefix_some y (sym g_is ∙ e)) (λ e. prefix_some x (sym f_is ∙ e)) c)
        ]

  -- of two forms that match one text one beats the other
  pairs : (prefix : List Symbol) → IsViablePrefix l.grammar prefix → (text : List ℕ) (at place other : ℕ) (piece : List ℕ) →
      place ≢ other → MatchesAt l prefix text at place piece → MatchesAt l prefix text at other piece →
      BeatsAt l place other ⊎ BeatsAt l other place
  pairs prefix viable text at place other piece differ m n =
      let (f, at_f) = form_at host extensible own written l certified apart is place (slice_get_within l.expressions place m.is.tree m.is.at) in
      let (g, at_g) = form_at host extensible own written l certified apart is other (slice_get_within l.expressions other n.is.tree n.is.at) in
      elim (one_beats prefix place other f g piece differ at_f at_g
      (kind_at host extensible own written l certified apart is prefix place f piece at_f m.considered m.is)
      (kind_at host extensible own written l certified apart is prefix other g piece at_g n.considered n.is)) [
        | inl b ↦ inl (record { one = f; two = g; at = at_f; to = at_g; beats = b })
        | inr b ↦ inr (record { one = g; two = f; at = at_g; to = at_f; beats = b })
      ]

  -- the form that beats is that of its place
  beats_by : (p q : ℕ) (f g : Form) → slice_get (forms_of l) p ≡ Some f → slice_get (forms_of l) q ≡ Some g → BeatsAt l p q → Beats l f g
  beats_by p q f g at_f at_g b = subst (λ z. Beats l z g) (at_once (forms_of l) p b.one f b.at at_f)
      (subst (λ z. Beats l b.one z) (at_once (forms_of l) q b.two g b.to at_g) b.beats)

  no_two : (p q : ℕ) → BeatsAt l p q → ¬ BeatsAt l q p
  no_two p q b c =
      let (x, y) = ring_of_two l b.one b.two b.beats (beats_by q p b.two b.one b.to b.at c) in
      no_ring_of_two host extensible own written certified.are_pieces apart b.one.terminal b.two.terminal
      ((is.preferences b.one.terminal b.two.terminal).0 x) ((is.preferences b.two.terminal b.one.terminal).0 y)

  no_three : (p q r : ℕ) → BeatsAt l p q → BeatsAt l q r → ¬ BeatsAt l r p
  no_three p q r b c d =
      let (x, y, z) = ring_of_three l b.one b.two c.two b.beats (beats_by q r b.two c.two b.to c.to c) (beats_by r p c.two b.one c.to b.at d) in
      no_ring_of_three host extensible own written certified.are_pieces apart b.one.terminal b.two.terminal c.two.terminal
      ((is.preferences b.one.terminal b.two.terminal).0 x) ((is.preferences b.two.terminal c.two.terminal).0 y)
      ((is.preferences c.two.terminal b.one.terminal).0 z)

  pub decided : AreDecided l
  decided = record { pairs = pairs; no_two = no_two; no_three = no_three }

  -- each form has its expression
  pub is_written : ((place : ℕ) → ¬ IsMatch l.expressions place []) → IsWritten l
  is_written no_empty = record {
    forms_below = λ place f at. subst (λ (g : GrammarView). f.terminal < g.terminals) (sym is.grammar)
        (form_below host extensible own written l certified apart is f (is.forms.each place f at));
    layout_numbers = λ k t at. (layout_at host extensible own written l certified apart is k t at).0 ∙
        ap (λ (g : GrammarView). g.terminals + k) (sym is.grammar);
    expressions_len = is.expressions_len;
    prefixes = λ place f text at matches.
        (let t = (is.expressions place f (append_keeps l.forms (map bare l.layout) place f at) text).0 matches in (t.lexeme, t.is));
    no_empty = no_empty;
  }
