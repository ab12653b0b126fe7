-- A piece beside its host is what finding new kernels and lookaheads asks for.
use Rattle.std.proofs.Common.{◌≡◌, ◌≢◌, ◌≤◌, ◌+◌, ◌-◌, ◌∷◌, ◌∙◌, [], ℕ, List, Option, Some, None, length, refl, sym, ap, subst, inl}
use Rattle.std.proofs.Common.{inr, arith}
use Rattle.std.specs.Prelude.{slice_get}
use Rattle.std.proofs.lemmas.Bool.{cases_lt}
use Rattle.std.proofs.lemmas.List.{length-append}
use Rattle.wb_lemmas.proofs.Places.{at_within}
use Rattle.wb_base.specs.Grammar.{GrammarView}
use Rattle.wb_compose_theory.specs.Blocks.{lift}
use Rattle.wb_compose_theory.specs.Renamings.{Renaming}
use Rattle.wb_compose_theory.specs.Worlds.{Mark, bare, on}
use Rattle.wb_compose_theory_grammar.proofs.PlaceLemmas.{lift_below, lift_past}
use Rattle.wb_compose_theory_grammar.specs.Numberings.{image_of, phi_of, up_of}
use Rattle.wb_compose_theory_grammar.specs.Pieces.{ArePieces, IsPiece, Piece}
use Rattle.wb_compose_theory_grammar.specs.UnitedWorlds.{index_of}
use Rattle.wb_compose_theory_grammar.proofs.BridgeLemmas.{piece_ok}
use Rattle.wb_determinism.specs.declared.numbers.Numbers.{Numbers}
use Rattle.wb_determinism.specs.Images.{stands_for, AreImages, IsDown}
use Rattle.wb_determinism.specs.Numbers.{terminal_up}
use Rattle.wb_determinism_kernels.specs.Numbers.{image_or, phi_by, up_by}
use Rattle.wb_determinism_theory.proofs.UnitedLemmas.{united_beside}
use Rattle.wb_grammar_theory.specs.Shape.{IsReduced}
use Rattle.wb_marking_holes.specs.Holes.{hole_productions, with_holes_of}
use Rattle.wb_marking_holes.proofs.UpLemmas.{holes_len}
use Rattle.wb_syntax_resolved.specs.declared.resolved.ResolvedParts.{ResolvedParts}
use Rattle.wb_determinism_beside.specs.Given.{IsPieceBeside, moved_beside, moved_by, numbers_beside}
use Rattle.wb_determinism_beside.specs.Pieces.{IsExtendedBy, piece_in}
use Rattle.wb_determinism_beside.proofs.HoleLemmas.{hole_once}
use Rattle.wb_determinism_beside.proofs.PieceLemmas.{images_same, pieces_are, same_extensible}

-- in the numbers of a piece
module _ (own : GrammarView) (extensible : List ℕ) (x : Piece) (ok : ArePieces own extensible (x ∷ [])) where
  is_piece : IsPiece own extensible x
  is_piece = piece_ok own extensible (x ∷ []) ok 0 x refl

  -- a terminal that is no marker stays
  stays : (t : ℕ) → ((a : ℕ) → x.mark t ≢ on a) → phi_of extensible x t ≡ t
  stays t none = by (x.mark t) refl
    where
      by : (z : Mark) → x.mark t ≡ z → phi_of extensible x t ≡ t
      by bare e = ap (λ z. image_of extensible x z t) e
      by (on a) e = absurd (none a e)

  -- the host's stand for themselves
  themselves : (u : ℕ) → phi_of extensible x ((up_of own x.grammar).terminal u) ≡ (up_of own x.grammar).terminal u
  themselves u = stays ((up_of own x.grammar).terminal u) (λ a e.
      let m = is_piece.markers ((up_of own x.grammar).terminal u) a e in
      let from = m.own in
      let to = m.within in
      elim (cases_lt u own.terminals) [
        | inl below ↦
            (let same = lift_below own.terminals (x.grammar.terminals - own.terminals) u below in omega (arith, from, same, below))
        | inr far ↦
            (let more = is_piece.extends.terminals in
            let same = lift_past own.terminals (x.grammar.terminals - own.terminals) u far in omega (arith, to, same, far, more))
      ])

  -- what a marker stands for comes past the host's own
  past_own : (m h : ℕ) → phi_of extensible x m ≢ m → (up_of own x.grammar).terminal h ≡ phi_of extensible x m → own.terminals ≤ h
  past_own m h ne is = elim (cases_lt h own.terminals) [
    | inl below ↦ absurd (ne (stays m (λ a e.
        let image : phi_of extensible x m ≡ x.grammar.terminals + index_of extensible a = ap (λ z. image_of extensible x z m) e in
        let more = is_piece.extends.terminals in
        let same = lift_below own.terminals (x.grammar.terminals - own.terminals) h below in
        omega (arith, image, is, same, below, more))))
    | inr far ↦ far
  ]

  pub piece_facts : IsReduced own → IsReduced x.grammar →
      IsPieceBeside (with_holes_of own extensible) (with_holes_of x.grammar extensible) (up_of own x.grammar) (phi_of extensible x)
  piece_facts host_reduced reduced = record {
    beside = united_beside own extensible x ok host_reduced reduced;
    themselves = themselves;
    alone = λ m h i j rest others ne is one other.
        hole_once own extensible ok.is_grammar h i j rest others (past_own m h ne is) one other;
  }

  -- by a table that says what each terminal stands for, it stands for its image
  module _ (m : Numbers) (a b : ℕ) (images : List (Option ℕ))
      (up_is : (u : ℕ) → terminal_up m u ≡ (up_of own x.grammar).terminal u)
      (are : AreImages m (phi_of extensible x) (x.grammar.terminals + length extensible + 1) images) where
    pub image_is : (t : ℕ) → phi_of extensible x t ≡ phi_by (moved_by m a b) images t
    image_is t = by (slice_get images t) refl
      where
        by : (o : Option (Option ℕ)) → slice_get images t ≡ o → phi_of extensible x t ≡ phi_by (moved_by m a b) images t
        by None at =
            sym (ap (λ o. image_or (moved_by m a b) o t) at ∙ sym (stays t (λ c e.
            let inside = (is_piece.markers t c e).within in
            let (o, there) = at_within images t (let len = are.len in omega (arith, inside, len)) in
            let bad : None ≡ Some o = sym at ∙ there in cc)))
        by (Some None) at =
            sym (ap (λ o. image_or (moved_by m a b) o t) at ∙ sym (stays t (λ c e.
            let image : phi_of extensible x t ≡ x.grammar.terminals + index_of extensible c = ap (λ z. image_of extensible x z t) e in
            let more = is_piece.extends.terminals in
            let moved = lift_past own.terminals (x.grammar.terminals - own.terminals) (own.terminals + index_of extensible c)
            (omega arith) in
            let up_there = up_is (own.terminals + index_of extensible c) in
            are.each t None at (own.terminals + index_of extensible c) (omega (arith, image, moved, up_there, more)))))
        by (Some (Some u)) at =
            are.each t (Some u) at ∙ sym (ap (λ o. image_or (moved_by m a b) o t) at)

-- the numbers are those of the piece
module _ (own g : GrammarView) (extensible : List ℕ) where
  abbrev holes : ℕ
  holes = length extensible

  pub own_rules : length (with_holes_of own extensible).productions ≡ length own.productions + holes
  own_rules =
      let a = length-append own.productions (hole_productions own.terminals extensible) in
      let b = holes_len own.terminals extensible in omega (arith, a, b)

  pub both_rules : length (with_holes_of g extensible).productions ≡ length g.productions + holes
  both_rules =
      let a = length-append g.productions (hole_productions g.terminals extensible) in
      let b = holes_len g.terminals extensible in omega (arith, a, b)

  abbrev numbers_here : Numbers
  numbers_here = numbers_beside extensible own g

  terminals_own : own.terminals ≡ numbers_here.own_terminals
  terminals_own = omega arith

  terminals_more : g.terminals - own.terminals ≡ numbers_here.both_terminals - numbers_here.host_terminals
  terminals_more = omega arith

  productions_own : length own.productions ≡ numbers_here.own_productions
  productions_own = let a = own_rules in omega (arith, a)

  productions_more : length g.productions - length own.productions ≡ numbers_here.both_productions - numbers_here.host_productions
  productions_more = let a = own_rules in let b = both_rules in omega (arith, a, b)

  pub numbers_are : up_of own g ≡ up_by (moved_beside extensible own g)
  numbers_are = λ z. record {
    terminal = lift (terminals_own z) (terminals_more z);
    nonterminal = lift own.nonterminals (g.nonterminals - own.nonterminals);
    production = lift (productions_own z) (productions_more z);
  }

module _ (host r : ResolvedParts) (h g : GrammarView) (is : IsExtendedBy host r h g) (images : List (Option ℕ))
    (are : AreImages (numbers_beside r.extensible h g) (stands_for r g) (g.terminals + length r.extensible + 1) images) where
  -- what is extensible stays so
  pub same : host.extensible ≡ r.extensible
  same = sym (same_extensible host r h g is)

  pub pieces : ArePieces h r.extensible (piece_in r g ∷ [])
  pieces = subst (λ (z : List ℕ). ArePieces h z (piece_in r g ∷ [])) same (pieces_are host r h g is)

  pub stands : (t : ℕ) → stands_for r g t ≡ phi_of r.extensible (piece_in r g) t
  stands = subst (λ (z : List ℕ). (t : ℕ) → stands_for r g t ≡ phi_of z (piece_in r g) t) same (images_same host r h g is)

  images_are : AreImages (numbers_beside r.extensible h g) (phi_of r.extensible (piece_in r g)) (g.terminals + length r.extensible + 1) images
  images_are = record {
    len = are.len;
    each = λ t o at. subst (λ z. IsDown (numbers_beside r.extensible h g) z o) (stands t) (are.each t o at);
  }

  terminal_is : (u : ℕ) → terminal_up (numbers_beside r.extensible h g) u ≡ (up_of h g).terminal u
  terminal_is u = sym (ap (λ (z : Renaming). z.terminal u) (numbers_are h g r.extensible))

  pub phi_is : phi_of r.extensible (piece_in r g) ≡ phi_by (moved_beside r.extensible h g) images
  phi_is = λ z t. image_is h r.extensible (piece_in r g) pieces (numbers_beside r.extensible h g) h.nonterminals
      (g.nonterminals - h.nonterminals) images terminal_is images_are t z

  -- in the numbers that are tested
  pub given_beside : IsReduced h → IsReduced g →
      IsPieceBeside (with_holes_of h r.extensible) (with_holes_of g r.extensible) (up_by (moved_beside r.extensible h g))
      (phi_by (moved_beside r.extensible h g) images)
  given_beside host_reduced reduced =
      subst (IsPieceBeside (with_holes_of h r.extensible) (with_holes_of g r.extensible) (up_by (moved_beside r.extensible h g))) phi_is
      (subst (λ z. IsPieceBeside (with_holes_of h r.extensible) (with_holes_of g r.extensible) z (phi_of r.extensible (piece_in r g)))
      (numbers_are h g r.extensible) (piece_facts h r.extensible (piece_in r g) pieces host_reduced reduced))
