-- For whoever builds trees: values among more trees, at a place, and at a push.
use Rattle.std.proofs.Common.{◌≡◌, ℕ, zero, suc, ◌+◌, ◌-◌, ◌<◌, ◌≤◌, List, [], ◌∷◌, ◌++◌, Some, length, take, drop, All, get_or}
use Rattle.std.proofs.Common.{refl, sym, ap, subst, ◌∙◌, arith, length-append, length-drop}
use Rattle.std.specs.Prelude.{slice_get}
use Rattle.std.specs.Option.{option_map}
use Rattle.std.proofs.lemmas.List.{drop-append-le, take_all}
use Rattle.std.proofs.Math.Seq.{get_or-append_seam}
use Rattle.std.proofs.Math.ListN.{get_or-append}
use Rattle.wb_values.specs.Tree.{Tree, node, empty}
use Rattle.wb_values.specs.Tree as v
use Rattle.wb_values.specs.Tree.{Values, value_at, count_of}
use Rattle.wb_values.specs.Signature.{Signature}
use Rattle.wb_values.specs.Fits.{FitsValue, FitAll}
use Rattle.wb_base.specs.declared.symbol.Kind.{Kind}
use Rattle.wb_values.specs.declared.value.Value.{Value}
use Rattle.wb_values.specs.declared.value.Value.TheVariants.{Int, Bool, Text, Tree as Stored}
use Rattle.wb_values.specs.ValuesIn.{tree_in, value_in, values_in, last, IsIn}

-- a value among the first trees is among more
pub is_in_more : (m n : ℕ) (x : Value) → m ≤ n → IsIn m x → IsIn n x
is_in_more m n (Int z) le is = tt
is_in_more m n (Bool b) le is = tt
is_in_more m n (Text s) le is = tt
is_in_more m n (Stored t) le is = omega (arith, le, is)

-- values among the first trees are among more
pub all_in_more : (m n : ℕ) (xs : List Value) → m ≤ n → All (IsIn m) xs → All (IsIn n) xs
all_in_more m n xs le all = λ k d within. is_in_more m n (get_or xs k d) le (all k d within)

-- a tree that is there is the same among more
pub tree_in_more : (trees more : List Tree) (place : ℕ) → place < length trees → tree_in (trees ++ more) place ≡ tree_in trees place
tree_in_more trees more place within = get_or-append trees more (node 0 empty) place within

-- the tree that was added is at the end
pub tree_in_push : (trees more : List Tree) (t : Tree) → tree_in (trees ++ t ∷ more) (length trees) ≡ t
tree_in_push trees more t = get_or-append_seam trees t more (node 0 empty)

-- what the value at a place stands for
pub value_at-values_in : (trees : List Tree) (xs : List Value) (k : ℕ) → value_at (values_in trees xs) k ≡ option_map (value_in trees)
    (slice_get xs k)
value_at-values_in trees [] k = refl
value_at-values_in trees (x ∷ xs) zero = refl
value_at-values_in trees (x ∷ xs) (suc k) = value_at-values_in trees xs k

-- as many as values
pub count_of-values_in : (trees : List Tree) (xs : List Value) → count_of (values_in trees xs) ≡ length xs
count_of-values_in trees [] = refl
count_of-values_in trees (x ∷ xs) = ap suc (count_of-values_in trees xs)

-- a place where there is a value is inside
pub value_at-within : (xs : Values) (k : ℕ) (x : v.Value) → value_at xs k ≡ Some x → k < count_of xs
value_at-within v.empty k x at = absurd cc
value_at-within (v.more y ys) zero x at = omega arith
value_at-within (v.more y ys) (suc k) x at = let h = value_at-within ys k x at in omega (arith, h)

-- the list of the one value at a place
pub one_at : (xs : List Value) (k : ℕ) (x : Value) → slice_get xs k ≡ Some x → take 1 (drop k xs) ≡ x ∷ []
one_at [] k x at = absurd cc
one_at (y ∷ ys) zero x at = let e : y ≡ x = cc in ap (λ (z : Value). z ∷ []) e
one_at (y ∷ ys) (suc k) x at = one_at ys k x at

-- and all values from that place on, where it is the last
pub one_left : (xs : List Value) (k : ℕ) (x : Value) → length xs - k ≡ 1 → slice_get xs k ≡ Some x → drop k xs ≡ x ∷ []
one_left xs k x last at =
    sym (take_all 1 (drop k xs) (omega (arith, last, length-drop k xs))) ∙ one_at xs k x at

-- the last values, one more of them, after one more was pushed
pub last-push : (count : ℕ) (xs : List Value) (x : Value) → count ≤ length xs → last (count + 1) (xs ++ x ∷ []) ≡ last count xs ++ x ∷ []
last-push count xs x le =
    let e : length (xs ++ x ∷ []) - (count + 1) ≡ length xs - count = omega (arith, length-append xs (x ∷ []), le) in
    ap (λ n. drop n (xs ++ x ∷ [])) e ∙ drop-append-le (length xs - count) xs (x ∷ []) (omega (arith, le))

-- a child that fits, at its place
pub fit_at : (signatures : List Signature) (xs : Values) (kinds : List Kind) (k : ℕ) (x : v.Value) (kind : Kind)
    → FitAll signatures xs kinds → value_at xs k ≡ Some x → slice_get kinds k ≡ Some kind → FitsValue signatures x kind
fit_at signatures v.empty kinds k x kind fit at there = absurd cc
fit_at signatures (v.more y ys) kinds zero x kind fit at there =
    let (first, rest, is, here, others) = fit in
    let head : Some first ≡ Some kind = sym (ap (λ (ks : List Kind). slice_get ks 0) is) ∙ there in
    let same : first ≡ kind = cc in
    let value : y ≡ x = cc in
    subst (FitsValue signatures x) same (subst (λ (z : v.Value). FitsValue signatures z first) value here)
fit_at signatures (v.more y ys) kinds (suc k) x kind fit at there =
    let (first, rest, is, here, others) = fit in
    fit_at signatures ys rest k x kind others at (sym (ap (λ (ks : List Kind). slice_get ks (suc k)) is) ∙ there)
