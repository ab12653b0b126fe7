-- Which bytes a set of words and a leaf hold, and that texts are of bytes.
use Rattle.std.proofs.Common.{◌≡◌, ℕ, ◌/◌, ◌%◌, ◌<◌, true, List, [], ◌∷◌, ◌++◌, refl, sym, ap, subst, arith, Some, eq-eqb, length}
use Rattle.std.specs.Prelude.{slice_get, slice_index, All}
use Rattle.std.specs.Int.{bit_at}
use Rattle.std.proofs.lemmas.Bool.{eqb-true}
use Rattle.std.proofs.lemmas.Option.{get_or_from_slice_get}
use Rattle.std.proofs.lemmas.List.Elements.{All-append, All-contains, Contains-append_right, All-nil, All-cons}
use Rattle.wb_regex.specs.Tree.{Tree}
use Rattle.wb_regex.specs.Matches as w
use Rattle.wb_regex.specs.declared.node.RegexNode.{RegexNode}
use Rattle.wb_regex.specs.declared.node.RegexNode.TheVariants as n
use Rattle.wb_automata_positions.specs.Leaves.{has_byte, node_holds, holds_of}
use Rattle.wb_lemmas.proofs.Booleans.{and_both, and_left, and_right}

-- a set holds a byte where its bits say so
pub has_byte_holds : (words : List ℕ) (b : ℕ) → has_byte words b ≡ true → w.HoldsByte words b
has_byte_holds words b h =
    let e : b / 256 ≡ 0 = eqb-true (b / 256) 0 (and_left _ _ h) in
    (omega arith, eqb-true (bit_at (slice_index words (b / 64)) (b % 64)) 1 (and_right _ _ h))

pub holds_has_byte : (words : List ℕ) (b : ℕ) → w.HoldsByte words b → has_byte words b ≡ true
holds_has_byte words b (lt, h) = let e : b / 256 ≡ 0 = omega arith in and_both _ _ (eq-eqb (b / 256) 0 e) (eq-eqb _ 1 h)

pub leaf_holds : (nodes : List RegexNode) (p : ℕ) (words : List ℕ) (b : ℕ) → slice_get nodes p ≡ Some (n.Set words)
    → holds_of nodes p b ≡ has_byte words b
leaf_holds nodes p words b at = ap (λ z. node_holds z b) (get_or_from_slice_get nodes p (n.Set words) (n.Set []) at)

-- a text that matches is of bytes
pub of_bytes : {t : Tree} {x : List ℕ} → w.Matches t x → All (λ b. b < 256) x
of_bytes (w.byte {b = b} h e) = subst (All (λ c. c < 256)) (sym e) (All-cons (λ c. c < 256) b [] h.0 (All-nil (λ c. c < 256)))
of_bytes (w.both {x = x} {y = y} m k e) = subst (All (λ c. c < 256)) (sym e) (All-append (λ c. c < 256) x y (of_bytes m) (of_bytes k))
of_bytes (w.left m) = of_bytes m
of_bytes (w.right m) = of_bytes m
of_bytes (w.none e) = subst (All (λ c. c < 256)) (sym e) (All-nil (λ c. c < 256))
of_bytes (w.more {x = x} {y = y} m k e) = subst (All (λ c. c < 256)) (sym e) (All-append (λ c. c < 256) x y (of_bytes m) (of_bytes k))
of_bytes (w.once {x = x} {y = y} m k e) = subst (All (λ c. c < 256)) (sym e) (All-append (λ c. c < 256) x y (of_bytes m) (of_bytes k))
of_bytes (w.absent e) = subst (All (λ c. c < 256)) (sym e) (All-nil (λ c. c < 256))
of_bytes (w.present m) = of_bytes m

pub byte_within : {t : Tree} (u v : List ℕ) (b : ℕ) → w.Matches t (u ++ b ∷ v) → b < 256
byte_within u v b m = All-contains (λ c. c < 256) (u ++ b ∷ v) b (of_bytes m)
    (Contains-append_right u (b ∷ v) b (0, omega (arith, head_in b v), refl))
  where
    head_in : (b : ℕ) (v : List ℕ) → 0 < length (b ∷ v)
    head_in b v = omega arith
