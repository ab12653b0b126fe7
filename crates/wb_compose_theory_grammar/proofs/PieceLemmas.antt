-- What is given by its grammar and its markers is an extension of the host.
use Rattle.std.proofs.Common.{◌≡◌, ◌+◌, ◌∙◌, ◌∷◌, [], ℕ, zero, suc, Bool, true, false, cond, Some, List, slice_get, refl, sym, ap}
use Rattle.std.proofs.Common.{subst, arith}
use Rattle.std.specs.Prelude.{Contains, IsTrue}
use Rattle.std.proofs.lemmas.Bool.{eq-eqb, eqb-true}
use Rattle.std.proofs.lemmas.Option.{same_Some}
use Rattle.wb_base.specs.declared.symbol.Symbol.{Symbol}
use Rattle.wb_base.specs.declared.symbol.Symbol.TheVariants.{Terminal, Nonterminal}
use Rattle.wb_base.specs.Grammar.{GrammarView, IsGrammar, Production}
use Rattle.wb_grammar_theory.specs.Productions.{IsProduction}
use Rattle.wb_grammar_theory.proofs.ProductionLemmas.{production_once}
use Rattle.wb_lemmas.proofs.Places.{nothing_at}
use Rattle.wb_compose_theory.specs.Marks.{Each}
use Rattle.wb_compose_theory.specs.Worlds.{bare, on}
use Rattle.wb_compose_theory_grammar.specs.Bridges.{AreMarkers, HasShape, IsNoMarker, begins, bridge_in_list, mark_by, marked, number_by}
use Rattle.wb_compose_theory_grammar.specs.Bridges.{piece_of}
use Rattle.wb_compose_theory_grammar.specs.Bridges.{unmarked}
use Rattle.wb_compose_theory_grammar.specs.Pieces as own
use Rattle.wb_compose_theory_grammar.specs.Pieces.{Extends, IsMarker, IsOwnProduction, IsPiece, IsUnmarked}

-- what begins with the terminal
begins_is : (t : ℕ) (right : List Symbol) → begins t right ≡ true → (rest : List Symbol) × (right ≡ Terminal t ∷ rest)
begins_is t [] e = cc
begins_is t (Terminal u ∷ rest) e = (rest, ap (λ z. Terminal z ∷ rest) (eqb-true u t e))
begins_is t (Nonterminal a ∷ rest) e = cc

-- the first production that the terminal begins
record Found (first t : ℕ) (rules : List Production) : Type 0 where
  place : ℕ
  left : ℕ
  rest : List Symbol
  is : bridge_in_list first t rules ≡ Some (first + place, left)
  at : slice_get rules place ≡ Some ((left, Terminal t ∷ rest))

-- there is one where the terminal begins any
found : (first t : ℕ) (rules : List Production) (p a : ℕ) (rest : List Symbol) → slice_get rules p ≡ Some ((a, Terminal t ∷ rest)) →
    Found first t rules
found first t [] p a rest at = absurd (nothing_at (a, Terminal t ∷ rest) p at)
found first t (rule ∷ rules) p a rest at = go (begins t rule.1) refl (λ q there. found (suc first) t rules q a rest there) p at
  where
    here : begins t rule.1 ≡ true → Found first t (rule ∷ rules)
    here e =
        let (more, right_is) = begins_is t rule.1 e in
        let zero_is : first ≡ first + 0 = omega arith in
        record {
          place = 0;
          left = rule.0;
          rest = more;
          is = ap (λ z. cond z (Some (first, rule.0)) (bridge_in_list (suc first) t rules)) e ∙ (λ z. Some (zero_is z, rule.0));
          at = λ z. Some ((rule.0, right_is z));
        }

    later : begins t rule.1 ≡ false → Found (suc first) t rules → Found first t (rule ∷ rules)
    later e k =
        let next : suc first + k.place ≡ first + suc k.place = omega arith in
        record {
          place = suc k.place;
          left = k.left;
          rest = k.rest;
          is = ap (λ z. cond z (Some (first, rule.0)) (bridge_in_list (suc first) t rules)) e ∙ (k.is ∙ (λ z. Some (next z, k.left)));
          at = k.at;
        }

    begins_itself : rule ≡ (a, Terminal t ∷ rest) → begins t rule.1 ≡ true
    begins_itself e = ap (λ (z : Production). begins t z.1) e ∙ eq-eqb t t refl

    go : (b : Bool) → begins t rule.1 ≡ b → ((q : ℕ) → slice_get rules q ≡ Some ((a, Terminal t ∷ rest)) → Found (suc first) t rules) →
        (p : ℕ) → slice_get (rule ∷ rules) p ≡ Some ((a, Terminal t ∷ rest)) → Found first t (rule ∷ rules)
    go true e more p at = here e
    go false e more zero at =
        let same : true ≡ false = sym (begins_itself (same_Some rule (a, Terminal t ∷ rest) at)) ∙ e in cc
    go false e more (suc q) at = later e (more q at)

module _ (host : GrammarView) (extensible : List ℕ) (g : GrammarView) (is_marker : ℕ → Bool)
    (ok : AreMarkers host extensible g is_marker) where
  -- a marker is what it begins
  record Bridged (t : ℕ) : Type 0 where
    number : ℕ
    left : ℕ
    rest : List Symbol
    mark : (piece_of g is_marker).mark t ≡ on left
    bridge : (piece_of g is_marker).bridge t ≡ number
    rule : IsProduction g number left (Terminal t ∷ rest)
    marker : IsMarker host extensible (piece_of g is_marker) t left

  -- each marker is
  bridged : (t : ℕ) → IsTrue (is_marker t) → Bridged t
  bridged t is_one =
      let b = ok.bridge t is_one in
      let k = found 0 t g.productions b.number b.left b.rest b.rule in
      let place_is : 0 + k.place ≡ k.place = omega arith in
      let bridge_is : number_by (bridge_in_list 0 t g.productions) ≡ k.place = ap number_by k.is ∙ place_is in
      let same : k.place ≡ b.number = ok.once t k.place b.number k.left b.left k.rest b.rest is_one k.at b.rule in
      let lefts = production_once g b.number k.left b.left (Terminal t ∷ k.rest) (Terminal t ∷ b.rest)
      (subst (λ z. IsProduction g z k.left (Terminal t ∷ k.rest)) same k.at) b.rule in
      let le = b.own in
      record {
        number = k.place;
        left = k.left;
        rest = k.rest;
        mark = ap (λ z. mark_by z (bridge_in_list 0 t g.productions)) is_one ∙ ap (mark_by true) k.is;
        bridge = bridge_is;
        rule = k.at;
        marker = record {
          own = ok.own t is_one;
          within = ok.within t is_one;
          extensible_left = subst (Contains extensible) (sym lefts.0) b.extensible_left;
          own_bridge = omega (arith, bridge_is, same, le);
          bridge_is = (k.rest, subst (λ z. IsProduction g z k.left (Terminal t ∷ k.rest)) (sym bridge_is) k.at);
        };
      }

  -- a terminal with a mark is a marker
  marker_of : (t a : ℕ) → (piece_of g is_marker).mark t ≡ on a → IsTrue (is_marker t)
  marker_of t a e = go (is_marker t) refl
    where
      go : (b : Bool) → is_marker t ≡ b → IsTrue (is_marker t)
      go true is = is
      go false is = let bad : bare ≡ on a = sym (ap (λ z. mark_by z (bridge_in_list 0 t g.productions)) is) ∙ e in cc

  -- and what is no marker has none
  bare_of : (t : ℕ) → ¬ IsTrue (is_marker t) → (piece_of g is_marker).mark t ≡ bare
  bare_of t no_marker = go (is_marker t) refl
    where
      go : (b : Bool) → is_marker t ≡ b → (piece_of g is_marker).mark t ≡ bare
      go true is = absurd (no_marker is)
      go false is = ap (λ z. mark_by z (bridge_in_list 0 t g.productions)) is

  -- the same of lists
  all_bare : (xs : List Symbol) → Each (IsNoMarker host extensible g is_marker) xs → Each (IsUnmarked (piece_of g is_marker)) xs
  all_bare [] each = tt
  all_bare (Terminal t ∷ xs) each = (bare_of t each.0, all_bare xs each.1)
  all_bare (Nonterminal a ∷ xs) each = (tt, all_bare xs each.1)

  -- each production of its own
  own_at : (p a : ℕ) (right : List Symbol) → IsProduction g p a right → HasShape host extensible g is_marker a right →
      IsOwnProduction host (piece_of g is_marker) p a right
  own_at p a right rule (unmarked le each) = own.unmarked le (all_bare right each)
  own_at p a right rule (marked t rest is_one right_is each) =
      let b = bridged t is_one in
      let same : p ≡ b.number =
      ok.once t p b.number a b.left rest b.rest is_one (subst (IsProduction g p a) right_is rule) b.rule in
      own.bridge t b.left rest b.mark (same ∙ sym b.bridge) right_is (all_bare rest each)

  -- so it is an extension
  pub piece_is : IsGrammar g → Extends host g → IsPiece host extensible (piece_of g is_marker)
  piece_is grammar extends = record {
    is_grammar = grammar;
    extends = extends;
    markers = λ t a e.
        (let b = bridged t (marker_of t a e) in
        let same : on b.left ≡ on a = sym b.mark ∙ e in
        let left_is : b.left ≡ a = cc in
        subst (IsMarker host extensible (piece_of g is_marker) t) left_is b.marker);
    own_productions = λ p a right le rule. own_at p a right rule (ok.shape p a right le rule);
  }
