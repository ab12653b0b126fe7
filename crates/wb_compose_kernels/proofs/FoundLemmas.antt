-- Whether some item is of a production of a stretch.
use Rattle.std.proofs.Common.{◌≡◌, ◌<◌, ◌+◌, ◌∙◌, ◌∷◌, [], List, ap, inl, inr, length, arith, subst, suc, sym, refl, ℕ, Some}
use Rattle.std.specs.Prelude.{◌↔◌, IsTrue, false, true, slice_get}
use Rattle.std.proofs.lemmas.Bool.{cases_lt, true≢false}
use Rattle.std.proofs.lemmas.Option.{same_Some}
use Rattle.wb_lemmas.proofs.Members.{contains_at, place_in}
use Rattle.wb_lemmas.proofs.Places.{at_within}
use Rattle.wb_grammar_theory.specs.declared.item.Item.{Item}
use Rattle.wb_compose_kernels.specs.declared.blocks.Block.{Block}
use Rattle.wb_compose_kernels.specs.Inner.Blocks.{HasHoleItem, HasOwnBy, IsHoleBy, IsOwnBy}

-- the item at a place is
pub found_hole : (b : Block) (items : List Item) (place p : ℕ) → place < length items →
    ((item : Item) → slice_get items place ≡ Some item → p ≡ item.production) → IsHoleBy b p → IsTrue true ↔ HasHoleItem b items
found_hole b items place p lt is hole =
    let (item, at) = at_within items place lt in
    (λ _. (item, contains_at items item place at, subst (IsHoleBy b) (is item at) hole), λ _. refl)

pub found_own : (b : Block) (items : List Item) (place p : ℕ) → place < length items →
    ((item : Item) → slice_get items place ≡ Some item → p ≡ item.production) → IsOwnBy b p → IsTrue true ↔ HasOwnBy b items
found_own b items place p lt is own =
    let (item, at) = at_within items place lt in
    (λ _. (item, contains_at items item place at, subst (IsOwnBy b) (is item at) own), λ _. refl)

-- no item is
pub none_hole : (b : Block) (items : List Item) (n : ℕ) → n ≡ length items →
    ((j : ℕ) (item : Item) → j < n → slice_get items j ≡ Some item → ¬ IsHoleBy b item.production) → IsTrue false ↔ HasHoleItem b items
none_hole b items n done none = (
  λ e. absurd (true≢false (sym e)),
  λ (item, has, is). absurd (none has.0 item (subst (λ k. has.0 < k) (sym done) has.1) (place_in items item has) is),
)

pub none_own : (b : Block) (items : List Item) (n : ℕ) → n ≡ length items →
    ((j : ℕ) (item : Item) → j < n → slice_get items j ≡ Some item → ¬ IsOwnBy b item.production) → IsTrue false ↔ HasOwnBy b items
none_own b items n done none = (
  λ e. absurd (true≢false (sym e)),
  λ (item, has, is). absurd (none has.0 item (subst (λ k. has.0 < k) (sym done) has.1) (place_in items item has) is),
)

-- lists with the same at each place are the same
lists_same : (one other : List Item) → length one ≡ length other → ((j : ℕ) → j < length one → slice_get one j ≡ slice_get other j) →
    one ≡ other
lists_same [] [] len same = refl
lists_same [] (y ∷ ys) len same = absurd (omega (arith, len))
lists_same (x ∷ xs) [] len same = absurd (omega (arith, len))
lists_same (x ∷ xs) (y ∷ ys) len same =
    let first : x ≡ y = same_Some x y (same 0 (omega arith)) in
    let rest : xs ≡ ys = lists_same xs ys (omega (arith, len)) (λ j lt. same (suc j) (omega (arith, lt))) in
    λ i. first i ∷ rest i

pub same_next : (one other : List Item) (n : ℕ) (a b : Item) → slice_get one n ≡ Some a → slice_get other n ≡ Some b → a ≡ b →
    ((j : ℕ) → j < n → slice_get one j ≡ slice_get other j) → (j : ℕ) → j < n + 1 → slice_get one j ≡ slice_get other j
same_next one other n a b at there is h j lt = elim (cases_lt j n) [
  | inl before ↦ h j before
  | inr past ↦ subst (λ k. slice_get one k ≡ slice_get other k) (let e : n ≡ j = omega (arith, past, lt) in e)
      (at ∙ (ap Some is ∙ sym there))
]

pub differ_at : (one other : List Item) (n : ℕ) (a b : Item) → slice_get one n ≡ Some a → slice_get other n ≡ Some b → ¬ (a ≡ b) →
    IsTrue false ↔ (one ≡ other)
differ_at one other n a b at there ne = (
  λ e. absurd (true≢false (sym e)),
  λ same. absurd (ne (same_Some a b (sym at ∙ (ap (λ z. slice_get z n) same ∙ there)))),
)

pub same_lists : (one other : List Item) (n : ℕ) → n ≡ length one → length one ≡ length other →
    ((j : ℕ) → j < n → slice_get one j ≡ slice_get other j) → IsTrue true ↔ (one ≡ other)
same_lists one other n done len h =
    (λ _. lists_same one other len (λ j lt. h j (subst (λ k. j < k) (sym done) lt)), λ _. refl)
