-- What is certified of extensions doesn't depend on their order, and lists of the same members are one in two orders.
use Rattle.std.proofs.Common.{◌∙◌, ℕ, List, Contains, refl, sym, ap}
use Rattle.std.specs.Prelude.{◌↔◌, All}
use Rattle.wb_base.specs.Different.{Differ}
use Rattle.wb_base.specs.Grammar.{GrammarView}
use Rattle.wb_determinism_contexts.specs.Considered.{LexiconView}
use Rattle.wb_lemmas.proofs.Elements.{all_at, all_from_places}
use Rattle.wb_lemmas.proofs.Members.{contains_at}
use Rattle.wb_compose_theory_grammar.specs.Certificates.{AreCertified, IsCertifiedPiece}
use Rattle.wb_compose_theory_language.specs.Apart.{AreWrittenApart, IsPieceApart}
use Rattle.wb_compose_theory_language.specs.Written.{WrittenPiece, pieces_of}
use Rattle.wb_compose_theory_order.specs.Orders.{IsReordering}
use Rattle.wb_compose_theory_order.proofs.UnionFormLemmas.{pieces_reordered, pieces_there}
use Rattle.wb_compose_theory_order.proofs.NumberLemmas.{reordering_map}
use Rattle.wb_compose_theory_order.proofs.PlaceLemmas.{Spot, spot, spot_back}

-- what holds of all holds of all in another order
all_there : {X : Type 0} (P : X → Type 0) {to from : ℕ → ℕ} {xs ys : List X} → IsReordering to from xs ys → All P xs → All P ys
all_there P {to} {from} {xs} {ys} re all = all_from_places P ys (λ k x at. all_at P xs (from k) x all (re.back k x at))

-- what is different is different in another order
differ_there : {X : Type 0} {to from : ℕ → ℕ} {xs ys : List X} → IsReordering to from xs ys → Differ xs → Differ ys
differ_there {to = to} {from = from} re differ x i j one two =
    sym (re.redone i) ∙ (ap to (differ x (from i) (from j) (re.back i x one) (re.back j x two)) ∙ re.redone j)

pub certified_there : {host : GrammarView} {extensible : List ℕ} {written others : List WrittenPiece} {to from : ℕ → ℕ} →
    IsReordering to from written others → AreCertified host extensible (pieces_of written) →
    AreCertified host extensible (pieces_of others)
certified_there {host} {extensible} re ok = record {
  are_pieces = pieces_there (pieces_reordered re) ok.are_pieces;
  host_certified = ok.host_certified;
  each_certified = all_there (IsCertifiedPiece host extensible) (pieces_reordered re) ok.each_certified;
}

pub apart_there : {host : GrammarView} {extensible : List ℕ} {own : LexiconView} {written others : List WrittenPiece}
    {to from : ℕ → ℕ} → IsReordering to from written others → AreWrittenApart host extensible own written →
    AreWrittenApart host extensible own others
apart_there {host} {extensible} {own} re ok = record {
  of_host = ok.of_host;
  of_extensions = all_there (IsPieceApart host extensible own) re ok.of_extensions;
  names = differ_there (reordering_map (λ (x : WrittenPiece). x.name) re) ok.names;
}

module _ {X : Type 0} (xs ys : List X) (one : Differ xs) (two : Differ ys) (same : (x : X) → Contains xs x ↔ Contains ys x) where
  -- where the members of the one list are in the other
  abbrev there : (p : ℕ) → Spot (λ x. x) (λ j. j) xs ys p
  there = spot (λ x. x) (λ j. j) xs ys (λ i x at. (same x).0 (contains_at xs x i at))

  abbrev back : (p : ℕ) → Spot (λ x. x) (λ j. j) ys xs p
  back = spot (λ x. x) (λ j. j) ys xs (λ i x at. (same x).1 (contains_at ys x i at))

  -- lists of the same members, each once
  pub same_members : (to from : ℕ → ℕ) × IsReordering to from xs ys
  same_members = (
    (λ p. (there p).place),
    (λ p. (back p).place),
    record {
      there = λ p x at. (there p).element x at;
      back = λ p x at. (back p).element x at;
      undone = spot_back (λ x. x) (λ x. x) (λ j. j) (λ j. j) xs ys there back (λ x. refl) (λ j. refl) one;
      redone = spot_back (λ x. x) (λ x. x) (λ j. j) (λ j. j) ys xs back there (λ x. refl) (λ j. refl) two;
    },
  )
