-- The children of a node by its digits: their number, fewer digits, and what more nodes change.
use Rattle.std.proofs.Common.{◌≡◌, ℕ, zero, suc, ◌-◌, ◌/◌, ◌%◌, ◌≤◌, List, ◌∷◌, ◌++◌, take, drop, refl, sym, subst}
use Rattle.std.proofs.Common.{ap, ◌∙◌}
use Rattle.std.proofs.lemmas.List.{take-append-drop}
use Rattle.wb_values.specs.declared.value.Value.{Value}
use Rattle.wb_values.specs.declared.value.Value.TheVariants.{Tree as Stored}
use Rattle.wb_values.specs.declared.node.Node.{Node}
use Rattle.wb_values.specs.InPlace.{size_at, of_digit, AtDigit, children_back, LieInPlace}

-- one child fewer, which is one of the others
pub back_other : (count : ℕ) (nodes : List Node) (digits top : ℕ) (others : List Value) → digits % 2 ≡ 0
    → children_back (suc count) nodes digits top others ≡ take 1 others ++ children_back count nodes (digits / 2) top (drop 1 others)
unfolding children_back
back_other count nodes digits top others even =
    ap (λ (digit : ℕ). of_digit digit (take 1 others ++ children_back count nodes (digits / 2) top (drop 1 others))
    (Stored (record { 0 = top - 1 }) ∷ children_back count nodes (digits / 2) (top - size_at nodes (top - 1)) others)) even

-- one child fewer, which lies in place
pub back_inner : (count : ℕ) (nodes : List Node) (digits top : ℕ) (others : List Value) → digits % 2 ≡ 1
    → children_back (suc count) nodes digits top others
    ≡ Stored (record { 0 = top - 1 }) ∷ children_back count nodes (digits / 2) (top - size_at nodes (top - 1)) others
unfolding children_back
back_inner count nodes digits top others odd =
    ap (λ (digit : ℕ). of_digit digit (take 1 others ++ children_back count nodes (digits / 2) top (drop 1 others))
    (Stored (record { 0 = top - 1 }) ∷ children_back count nodes (digits / 2) (top - size_at nodes (top - 1)) others)) odd

-- where no child has a digit the others are the children
pub back_no_digit : (nodes : List Node) (digits top : ℕ) (others : List Value) → children_back zero nodes digits top others ≡ others
unfolding children_back
back_no_digit nodes digits top others = refl

-- with no digit left the others are the children
pub back_none : (count : ℕ) (nodes : List Node) (top : ℕ) (others : List Value) → children_back count nodes 0 top others ≡ others
unfolding children_back
back_none zero nodes top others = refl
back_none (suc count) nodes top others =
    ap (λ (xs : List Value). take 1 others ++ xs) (back_none count nodes top (drop 1 others)) ∙ take-append-drop 1 others

-- with no digit left no tree lies in place
pub lies_none : (count : ℕ) (nodes : List Node) (top : ℕ) → LieInPlace count nodes 0 top top
unfolding LieInPlace
lies_none zero nodes top = refl
lies_none (suc count) nodes top = lies_none count nodes top

-- one child fewer, which is one of the others
pub lies_other : (count : ℕ) (nodes : List Node) (digits top first : ℕ) → digits % 2 ≡ 0
    → (LieInPlace (suc count) nodes digits top first → LieInPlace count nodes (digits / 2) top first)
    × (LieInPlace count nodes (digits / 2) top first → LieInPlace (suc count) nodes digits top first)
unfolding LieInPlace
lies_other count nodes digits top first even =
    let P : ℕ → Type 0 = λ (digit : ℕ). AtDigit digit (LieInPlace count nodes (digits / 2) top first)
    ((1 ≤ top) × (size_at nodes (top - 1) ≤ top) × LieInPlace count nodes (digits / 2) (top - size_at nodes (top - 1)) first) in
    (λ h. subst P even h, λ h. subst P (sym even) h)

-- one child fewer, which lies in place
pub lies_inner : (count : ℕ) (nodes : List Node) (digits top first : ℕ) → digits % 2 ≡ 1
    → (LieInPlace (suc count) nodes digits top first
    → (1 ≤ top) × (size_at nodes (top - 1) ≤ top) × LieInPlace count nodes (digits / 2) (top - size_at nodes (top - 1)) first)
    × ((1 ≤ top) × (size_at nodes (top - 1) ≤ top) × LieInPlace count nodes (digits / 2) (top - size_at nodes (top - 1)) first
    → LieInPlace (suc count) nodes digits top first)
unfolding LieInPlace
lies_inner count nodes digits top first odd =
    let P : ℕ → Type 0 = λ (digit : ℕ). AtDigit digit (LieInPlace count nodes (digits / 2) top first)
    ((1 ≤ top) × (size_at nodes (top - 1) ≤ top) × LieInPlace count nodes (digits / 2) (top - size_at nodes (top - 1)) first) in
    (λ h. subst P odd h, λ h. subst P (sym odd) h)
