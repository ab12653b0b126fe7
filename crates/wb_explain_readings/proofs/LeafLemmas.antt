-- The terminals of what is written are those of the tree.
use Rattle.std.proofs.Common.{◌≡◌, ◌≢◌, ℕ, Bool, true, false, List, [], ◌∷◌, ◌++◌, take, drop, not, refl, sym, ◌∙◌, ap, subst, take-append-drop}
use Rattle.wb_base.specs.Grammar.{GrammarView}
use Rattle.wb_grammar_theory.specs.Trees.{DerivationTree, Forest, nothing, leaf, node}
use Rattle.wb_explain_readings.specs.declared.found.Found.{Found}
use Rattle.wb_explain_readings.specs.declared.piece.Piece.{Piece}
use Rattle.wb_explain_readings.specs.declared.piece.Piece.TheVariants.{Open, Leaf, Close}
use Rattle.wb_explain_readings.specs.Inner.Leaves.{leaves}
use Rattle.wb_explain_readings.specs.Readings.{AreReadings, Begins, HasText, IsReading}
use Rattle.wb_explain_readings.specs.Written.{terminals, written}

pub leaves_joined : (a b : List Piece) → leaves (a ++ b) ≡ leaves a ++ leaves b
leaves_joined [] b = refl
leaves_joined (Leaf t ∷ a) b = ap (λ z. t ∷ z) (leaves_joined a b)
leaves_joined (Open p ∷ a) b = leaves_joined a b
leaves_joined (Close ∷ a) b = leaves_joined a b

-- the leaves of a tree that is written
pub leaves_written : (f : Forest) → leaves (written f) ≡ terminals f
leaves_written nothing = refl
leaves_written (leaf t text rest) = ap (λ z. t ∷ z) (leaves_written rest)
leaves_written (node p a children rest) =
    leaves_joined (written children) (Close ∷ written rest)
    ∙ (ap (λ z. z ++ leaves (written rest)) (leaves_written children) ∙ ap (λ z. terminals children ++ z) (leaves_written rest))

-- what begins with a text
pub begin_of : (all text : List ℕ) (n : ℕ) → take n all ≡ text → Begins text all
begin_of all text n is = (drop n all, sym (take-append-drop n all) ∙ ap (λ z. z ++ drop n all) is)

-- what is tested isn't so and so
pub not_both : (b : Bool) → not b ≡ true → b ≡ true → ⊥
not_both true is same = absurd (cc)
not_both false is same = absurd (cc)

reading_of : (g : GrammarView) (whole : Bool) (text : List ℕ) (pieces : List Piece) (tree : Forest) → DerivationTree g tree →
    written tree ≡ pieces → HasText whole text (leaves pieces) → IsReading g whole text pieces tree
reading_of g whole text pieces tree derivation is has = record {
  derivation = derivation;
  is_written = is;
  has_text = subst (λ z. HasText whole text z) (ap leaves (sym is) ∙ leaves_written tree) has;
}

-- two trees that are written differently are readings
pub readings_are : (g : GrammarView) (found : Found) → ((tree : Forest) × DerivationTree g tree × (written tree ≡ found.first)) →
    ((tree : Forest) × DerivationTree g tree × (written tree ≡ found.second)) → found.first ≢ found.second →
    HasText found.is_whole found.text (leaves found.first) → HasText found.is_whole found.text (leaves found.second) → AreReadings g found
readings_are g found (one, derived, is) (other, derived', is') differ has has' = record {
  first = one;
  second = other;
  first_is = reading_of g found.is_whole found.text found.first one derived is has;
  second_is = reading_of g found.is_whole found.text found.second other derived' is' has';
  differ = λ same. differ (sym is ∙ (ap written same ∙ is'));
}
