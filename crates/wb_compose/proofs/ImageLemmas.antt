-- What a terminal stands for is found by a search for the first production that it begins.
use Rattle.std.proofs.Common.{◌≡◌, ◌+◌, ◌∷◌, inl, inr, [], ℕ, zero, suc, Bool, true, false, cond, eqb, List, Option, Some, None, Contains}
use Rattle.std.proofs.Common.{slice_get, ap, refl, sym, subst, ◌∙◌, arith}
use Rattle.std.specs.Prelude.{◌↔◌, IsTrue, option_and_then, unwrap_or}
use Rattle.std.proofs.lemmas.Bool.{eq-eqb, eqb-true}
use Rattle.std.proofs.lemmas.Option.{same_Some}
use Rattle.wb_lemmas.proofs.Members.{place_of}
use Rattle.wb_lemmas.proofs.Places.{nothing_at}
use Rattle.wb_base.specs.Different.{Differ}
use Rattle.wb_base.specs.declared.symbol.Symbol.{Symbol}
use Rattle.wb_base.specs.declared.symbol.Symbol.TheVariants.{Terminal}
use Rattle.wb_base.specs.Grammar.{GrammarView, Production}
use Rattle.wb_certify.specs.DeterminismImages.{bridged, hole_among, hole_for, stands_for}
use Rattle.wb_grammar_theory.proofs.ProductionLemmas.{production_once}
use Rattle.wb_grammar_theory.specs.Productions.{IsProduction}
use Rattle.wb_marking.specs.Markers.{IsMarker}
use Rattle.wb_operations.specs.Operations.{OperationSignature}
use Rattle.wb_syntax_resolved.specs.declared.resolved.ResolvedParts.{ResolvedParts}
use Rattle.wb_compose_theory_grammar.specs.Bridges.{begins, bridge_in_list, mark_by}
use Rattle.wb_compose_theory_grammar.specs.Pieces as pieces
use Rattle.wb_compose.specs.Bridged.{AreBridged}
use Rattle.wb_compose.specs.Images.{IsImage}
use Rattle.wb_certify.specs.Pieces.{is_marker_in, piece_in}
use Rattle.wb_compose.proofs.BridgedLemmas.{bridged_markers, extended}
use Rattle.wb_certify.proofs.PieceLemmas as piece
use Rattle.wb_certify.proofs.MarkerLemmas.{marker_row, row_marker}
use Rattle.wb_certify.proofs.NumberLemmas.{bridged_same, left_of}

-- the hole of a nonterminal has its place
hole_at : (first a : ℕ) (xs : List ℕ) (j : ℕ) → Differ xs → slice_get xs j ≡ Some a → hole_among first a xs ≡ Some (first + j)
hole_at first a [] j differ at = absurd (nothing_at a j at)
hole_at first a (x ∷ xs) j differ at = by (eqb x a) refl j at (λ i there. hole_at (suc first) a xs i rest_differ there) where
  rest_differ : Differ xs
  rest_differ y i k one other = let e = differ y (suc i) (suc k) one other in omega (arith, e)

  by : (b : Bool) → eqb x a ≡ b → (j : ℕ) → slice_get (x ∷ xs) j ≡ Some a
      → ((i : ℕ) → slice_get xs i ≡ Some a → hole_among (suc first) a xs ≡ Some (suc first + i))
      → cond b (Some first) (hole_among (suc first) a xs) ≡ Some (first + j)
  by true same j at later =
      let zero_is : 0 ≡ j = differ a 0 j (ap Some (eqb-true x a same)) at in
      ap Some (let e : first ≡ first + j = omega (arith, zero_is) in e)
  by false other zero at later =
      let bad : true ≡ false = sym (eq-eqb x a (same_Some x a at)) ∙ other in absurd (cc bad)
  by false other (suc j) at later =
      later j at ∙ ap Some (let e : suc first + j ≡ first + suc j = omega arith in e)

module _ (host r : ResolvedParts) (h g : GrammarView) (operations : List OperationSignature)
    (is_bridged : AreBridged host r h g operations) where
  -- the first production that a marker begins gives it its mark
  marked_on : (t p a : ℕ) → IsTrue (is_marker_in r t) → bridge_in_list 0 t g.productions ≡ Some (p, a)
      → pieces.IsMarker h host.extensible (piece_in r g) t a
  marked_on = piece.marked_on host r h g (extended host r h g operations is_bridged)

  -- the first production that a marker begins is on an extensible nonterminal
  pub bridge_listed : (t : ℕ) → IsTrue (is_marker_in r t) → (p a : ℕ) × (bridge_in_list 0 t g.productions ≡ Some (p, a))
      × Contains host.extensible a
  bridge_listed = piece.bridge_listed host r h g (extended host r h g operations is_bridged)

  -- no two extensible nonterminals are one
  holes_differ : Differ r.extensible
  holes_differ = is_bridged.both.resolved.once.extensible

  -- a marker begins productions on one nonterminal
  one_nonterminal : (t a b : ℕ) → IsTrue (is_marker_in r t) → (p q : ℕ) (left right : List Symbol)
      → IsProduction g p a (Terminal t ∷ left) → IsProduction g q b (Terminal t ∷ right) → a ≡ b
  one_nonterminal t a b is_one p q left right one other =
      let same = (bridged_markers host r h g operations is_bridged).once t p q a b left right is_one one other in
      (production_once g q a b (Terminal t ∷ left) (Terminal t ∷ right)
      (subst (λ z. IsProduction g z a (Terminal t ∷ left)) same one) other).0

  -- a marker stands for the hole of the nonterminal that it begins a production on
  marker_stands : (t a : ℕ) → IsTrue (is_marker_in r t) → (p : ℕ) (rest : List Symbol) → IsProduction g p a (Terminal t ∷ rest)
      → (j : ℕ) → slice_get r.extensible j ≡ Some a → stands_for r g t ≡ g.terminals + j
  marker_stands t a is_one p rest rule j at =
      let (q, b, is, has) = bridge_listed t is_one in
      let (other, there) = (marked_on t q b is_one is).bridge_is in
      let same : b ≡ a = one_nonterminal t b a is_one ((piece_in r g).bridge t) p other rest there rule in
      let left : bridged t g.productions ≡ Some a = bridged_same t 0 g.productions ∙ (ap left_of is ∙ ap Some same) in
      ap (λ z. cond z (hole_for g r.extensible t) t) is_one
      ∙ (ap (λ o. unwrap_or (option_and_then (λ b. hole_among g.terminals b r.extensible) o) t) left
      ∙ ap (λ o. unwrap_or o t) (hole_at g.terminals a r.extensible j holes_differ at))

  -- what a terminal stands for
  pub images : (same : r.extensible ≡ host.extensible) (t image : ℕ) → (stands_for r g t ≡ image) ↔ IsImage r g t image
  images same t image = (there (is_marker_in r t) refl, back) where
    there : (b : Bool) → is_marker_in r t ≡ b → stands_for r g t ≡ image → IsImage r g t image
    there false e is = inr (
      λ m. (let bad : true ≡ false = sym (marker_row r t m) ∙ e in absurd (cc bad)),
      sym is ∙ ap (λ b. cond b (hole_for g r.extensible t) t) e,
    )
    there true e is =
        let (p, a, found, has) = bridge_listed t e in
        let (rest, rule) = (marked_on t p a e found).bridge_is in
        let (j, at) = place_of r.extensible a (subst (λ xs. Contains xs a) (sym same) has) in
        inl (
          a,
          record { is_marker = row_marker r t e; number = (piece_in r g).bridge t; rest = rest; production = rule },
          record { place = j; at = at; is = sym is ∙ marker_stands t a e ((piece_in r g).bridge t) rest rule j at },
        )

    back : IsImage r g t image → stands_for r g t ≡ image
    back (inl (a, begins_on, hole)) =
        marker_stands t a (marker_row r t begins_on.is_marker) begins_on.number begins_on.rest begins_on.production hole.place hole.at
        ∙ sym hole.is
    back (inr (none, is)) = by (is_marker_in r t) refl where
      by : (b : Bool) → is_marker_in r t ≡ b → stands_for r g t ≡ image
      by true e = absurd (none (row_marker r t e))
      by false e = ap (λ b. cond b (hole_for g r.extensible t) t) e ∙ sym is
