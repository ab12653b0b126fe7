-- An extension that keeps the rules on bridges is a piece beside its host, and what its terminals stand for is what they stand for there.
use Rattle.std.proofs.Common.{◌≡◌, ◌<◌, ◌∷◌, inl, inr, [], ℕ, zero, suc, Bool, true, false, cond, List, Option, Some, None, Contains}
use Rattle.std.proofs.Common.{slice_get, ap, refl, sym, ◌∙◌}
use Rattle.std.specs.Prelude.{All, IsTrue}
use Rattle.std.proofs.lemmas.Bool.{eq-eqb}
use Rattle.std.proofs.lemmas.List.Elements.{All-nil, All-cons}
use Rattle.std.proofs.lemmas.Option.{same_Some}
use Rattle.wb_lemmas.proofs.Elements.{all_from_contained}
use Rattle.wb_lemmas.proofs.Places.{nothing_at}
use Rattle.wb_base.specs.declared.symbol.Symbol.{Symbol}
use Rattle.wb_base.specs.declared.symbol.Symbol.TheVariants.{Terminal}
use Rattle.wb_base.specs.Grammar.{GrammarView, IsGrammar, Production}
use Rattle.wb_determinism.specs.Images.{stands_for}
use Rattle.wb_syntax_resolved.specs.declared.resolved.ResolvedParts.{ResolvedParts}
use Rattle.wb_compose_theory_grammar.specs.Bridges.{AreMarkers, begins, bridge_in_list, mark_by}
use Rattle.wb_compose_theory_grammar.specs.Numberings.{phi_of}
use Rattle.wb_compose_theory_grammar.specs.Pieces as pieces
use Rattle.wb_compose_theory_grammar.specs.Pieces.{ArePieces, IsPiece}
use Rattle.wb_compose_theory_grammar.proofs.PieceLemmas.{piece_is}
use Rattle.wb_determinism_beside.specs.Pieces.{IsExtendedBy, is_marker_in, piece_in}
use Rattle.wb_determinism_beside.proofs.GrammarKept.{extends}
use Rattle.wb_determinism_beside.proofs.InRange.{grammar_of, in_range}
use Rattle.wb_determinism_beside.proofs.KeptLemmas.{extensible_same}
use Rattle.wb_determinism_beside.proofs.MarkerLemmas.{are_markers}
use Rattle.wb_determinism_beside.proofs.NumberLemmas.{images_agree}

-- where the terminal begins a production there is a first one
pub bridge_there : (p t : ℕ) (rules : List Production) (k a : ℕ) (rest : List Symbol) → slice_get rules k ≡ Some (a, Terminal t ∷ rest)
    → bridge_in_list p t rules ≡ None → ⊥
bridge_there p t [] k a rest at e = nothing_at (a, Terminal t ∷ rest) k at
bridge_there p t (rule ∷ rules) k a rest at e =
    by (begins t rule.1) refl k at (λ j there more. bridge_there (suc p) t rules j a rest there more) where
      by : (b : Bool) → begins t rule.1 ≡ b → (k : ℕ) → slice_get (rule ∷ rules) k ≡ Some (a, Terminal t ∷ rest)
          → ((j : ℕ) → slice_get rules j ≡ Some (a, Terminal t ∷ rest) → bridge_in_list (suc p) t rules ≡ None → ⊥) → ⊥
      by true is k at later =
          let found : Option (ℕ × ℕ) = Some (p, rule.0) in
          let bad : found ≡ None =
          sym (ap (λ b. cond b (Some (p, rule.0)) (bridge_in_list (suc p) t rules)) is) ∙ e in cc
      by false is zero at later =
          let first : rule ≡ (a, Terminal t ∷ rest) = same_Some rule (a, Terminal t ∷ rest) at in
          let bad : true ≡ false = sym (ap (λ (z : Production). begins t z.1) first ∙ eq-eqb t t refl) ∙ is in cc
      by false is (suc j) at later =
          later j at (sym (ap (λ b. cond b (Some (p, rule.0)) (bridge_in_list (suc p) t rules)) is) ∙ e)

module _ (host r : ResolvedParts) (h g : GrammarView) (is : IsExtendedBy host r h g) where
  -- what is extensible stays so, and nothing else is
  pub same_extensible : r.extensible ≡ host.extensible
  same_extensible = extensible_same host r is.spec is.names is.host_resolved is.resolved h g is.host_start is.start

  host_below : IsGrammar h
  host_below = in_range host h is.host_resolved is.host_start

  extensible_below : All (λ a. a < h.nonterminals) host.extensible
  extensible_below = all_from_contained (λ a. a < h.nonterminals) host.extensible (λ a has.
      ((grammar_of host h is.host_resolved is.host_start).nonterminals a).1 (inr (inl has)))

  pub markers : AreMarkers h host.extensible g (is_marker_in r)
  markers =
      are_markers host r is.spec is.names is.host_resolved is.resolved h g is.host_start is.start is.alone is.bridges

  pub piece : IsPiece h host.extensible (piece_in r g)
  piece =
      piece_is h host.extensible g (is_marker_in r) markers (in_range r g is.resolved is.start)
      (extends host r is.spec is.names is.host_resolved is.resolved h g is.host_start is.start)

  pub pieces_are : ArePieces h host.extensible (piece_in r g ∷ [])
  pieces_are = record {
    is_grammar = host_below;
    within = extensible_below;
    differ = is.host_resolved.once.extensible;
    each = All-cons (IsPiece h host.extensible) (piece_in r g) [] piece (All-nil (IsPiece h host.extensible));
  }

  -- the first production that a marker begins gives it its mark
  pub marked_on : (t p a : ℕ) → IsTrue (is_marker_in r t) → bridge_in_list 0 t g.productions ≡ Some (p, a)
      → pieces.IsMarker h host.extensible (piece_in r g) t a
  marked_on t p a is_one e =
      piece.markers t a (ap (λ z. mark_by z (bridge_in_list 0 t g.productions)) is_one ∙ ap (mark_by true) e)

  -- the first production that a marker begins is on an extensible nonterminal
  pub bridge_listed : (t : ℕ) → IsTrue (is_marker_in r t) → (p a : ℕ) × (bridge_in_list 0 t g.productions ≡ Some (p, a))
      × Contains host.extensible a
  bridge_listed t is_one = by (bridge_in_list 0 t g.productions) refl where
    by : (o : Option (ℕ × ℕ)) → bridge_in_list 0 t g.productions ≡ o
        → (p a : ℕ) × (bridge_in_list 0 t g.productions ≡ Some (p, a)) × Contains host.extensible a
    by None e =
        let b = markers.bridge t is_one in absurd (bridge_there 0 t g.productions b.number b.left b.rest b.rule e)
    by (Some (p, a)) e = (p, a, e, (marked_on t p a is_one e).extensible_left)

  -- what a terminal stands for is what it becomes beside the host
  pub images_same : (t : ℕ) → stands_for r g t ≡ phi_of host.extensible (piece_in r g) t
  images_same = images_agree host r h g same_extensible bridge_listed
