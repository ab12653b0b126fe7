-- The trees of a list of nodes: one more node is one more tree, fewer nodes are fewer trees, and each tree is that of its node.
use Rattle.std.proofs.Common.{◌≡◌, ℕ, zero, suc, ◌+◌, ◌<◌, List, [], ◌∷◌, ◌++◌, length, take, All, get_or, refl, sym, subst, ap, ◌∙◌, arith}
use Rattle.std.proofs.Common.{append_assoc, append-nil, length-append, add-zero}
use Rattle.wb_values.specs.Tree.{Tree, node, empty, tree}
use Rattle.wb_values.specs.declared.value.Value.{Value}
use Rattle.wb_values.specs.declared.value.Value.TheVariants.{Int, Bool, Text, Tree as Stored}
use Rattle.wb_values.specs.ValuesIn.{value_in, values_in, IsIn}
use Rattle.wb_values.specs.Trees.{Built, tree_of, grown, IsOrdered}
use Rattle.std.proofs.Math.Seq.{get_or-append_seam, take-append_seam}
use Rattle.std.proofs.Math.ListN.{get_or-append}
use Rattle.std.proofs.lemmas.List.{take_all}

-- one node more
pub grown-snoc : (ts : List Tree) (xs : List Built) (x : Built) → grown ts (xs ++ x ∷ []) ≡ grown ts xs ++ tree_of (grown ts xs) x ∷ []
unfolding grown
grown-snoc ts [] x = refl
grown-snoc ts (y ∷ ys) x = grown-snoc (ts ++ tree_of ts y ∷ []) ys x

-- one tree a node
pub length-grown : (ts : List Tree) (xs : List Built) → length (grown ts xs) ≡ length ts + length xs
unfolding grown
length-grown ts [] = omega arith
length-grown ts (y ∷ ys) = let h = length-grown (ts ++ tree_of ts y ∷ []) ys in omega (arith, h, length-append ts (tree_of ts y ∷ []))

-- the trees that were there stay first
pub grown-begins : (ts : List Tree) (xs : List Built) → (r : List Tree) × (grown ts xs ≡ ts ++ r)
unfolding grown
grown-begins ts [] = ([], sym (append-nil ts))
grown-begins ts (y ∷ ys) =
    let h = grown-begins (ts ++ tree_of ts y ∷ []) ys in (tree_of ts y ∷ h.0, h.1 ∙ append_assoc ts (tree_of ts y ∷ []) h.0)

-- a value stands for the same among more trees
pub value-stable : (ts r : List Tree) (v : Value) → IsIn (length ts) v → value_in (ts ++ r) v ≡ value_in ts v
value-stable ts r (Int z) h = refl
value-stable ts r (Bool b) h = refl
value-stable ts r (Text s) h = refl
value-stable ts r (Stored t) h = ap tree (get_or-append ts r (node 0 empty) t.0 h)

-- and so do values
pub values-stable : (ts r : List Tree) (vs : List Value) → All (IsIn (length ts)) vs → values_in (ts ++ r) vs ≡ values_in ts vs
values-stable ts r [] h = refl
values-stable ts r (v ∷ vs) h =
    let a = value-stable ts r v (h 0 v (omega arith)) in
    let b = values-stable ts r vs (λ k d lt. h (suc k) d (omega arith)) in
    cc

-- the tree at a place is that of the node there, among all the trees
pub grown-at : (ts : List Tree) (xs : List Built) (i : ℕ) (x : Built) (d : Tree) → i < length xs → IsOrdered (length ts) xs
    → get_or xs i x ≡ x → get_or (grown ts xs) (length ts + i) d ≡ tree_of (grown ts xs) x
unfolding grown
grown-at ts [] i x d lt ord is = absurd (omega arith)
grown-at ts (y ∷ ys) zero x d lt ord is =
    let ts' = ts ++ tree_of ts y ∷ [] in
    let b = grown-begins ts' ys in
    let whole = b.1 ∙ append_assoc ts (tree_of ts y ∷ []) b.0 in
    let same : y ≡ x = is in
    let ord' = subst (λ (z : Built). All (IsIn (length ts)) z.1) same ord.0 in
    let st = values-stable ts (tree_of ts y ∷ b.0) x.1 ord' in
    let here : get_or (ts ++ tree_of ts y ∷ b.0) (length ts + 0) d ≡ tree_of ts y = rw add-zero
    (get_or-append_seam ts (tree_of ts y) b.0 d) in
    let there = ap (tree_of ts) same ∙ sym (ap (node x.0) st) in
    subst (λ (l : List Tree). get_or l (length ts + 0) d ≡ tree_of l x) (sym whole) (here ∙ there)
grown-at ts (y ∷ ys) (suc i) x d lt ord is =
    let ts' = ts ++ tree_of ts y ∷ [] in
    let len : suc (length ts) ≡ length ts' = omega (arith, length-append ts (tree_of ts y ∷ [])) in
    let r = grown-at ts' ys i x d (omega arith) (subst (λ (n : ℕ). IsOrdered n ys) len ord.1) is in
    let at : length ts' + i ≡ length ts + suc i = omega (arith, len) in
    subst (λ (n : ℕ). get_or (grown ts' ys) n d ≡ tree_of (grown ts' ys) x) at r

-- the first nodes give the first trees
pub take-grown : (ts : List Tree) (xs : List Built) (n : ℕ) → take (length ts + n) (grown ts xs) ≡ grown ts (take n xs)
unfolding grown
take-grown ts [] zero = take_all (length ts + 0) ts (omega arith)
take-grown ts [] (suc n) = take_all (length ts + suc n) ts (omega arith)
take-grown ts (y ∷ ys) zero =
    let b = grown-begins (ts ++ tree_of ts y ∷ []) ys in
    let whole = b.1 ∙ append_assoc ts (tree_of ts y ∷ []) b.0 in
    rw (add-zero, whole) (take-append_seam ts (tree_of ts y ∷ b.0))
take-grown ts (y ∷ ys) (suc n) =
    let ts' = ts ++ tree_of ts y ∷ [] in
    let len : length ts' + n ≡ length ts + suc n = omega (arith, length-append ts (tree_of ts y ∷ [])) in
    subst (λ (m : ℕ). take m (grown ts' ys) ≡ grown ts' (take n ys)) len (take-grown ts' ys n)

-- one node more that names lower trees alone
pub ordered-snoc : (n : ℕ) (xs : List Built) (x : Built) → IsOrdered n xs → All (IsIn (n + length xs)) x.1 → IsOrdered n (xs ++ x ∷ [])
ordered-snoc n [] x o a = (subst (λ (m : ℕ). All (IsIn m) x.1) (omega arith) a, tt)
ordered-snoc n (y ∷ ys) x o a =
    let e : n + length (y ∷ ys) ≡ suc n + length ys = omega arith in
    (o.0, ordered-snoc (suc n) ys x o.1 (subst (λ (m : ℕ). All (IsIn m) x.1) e a))

-- the first nodes are ordered too
pub ordered-take : (n k : ℕ) (xs : List Built) → IsOrdered n xs → IsOrdered n (take k xs)
ordered-take n zero xs o = tt
ordered-take n (suc k) [] o = tt
ordered-take n (suc k) (y ∷ ys) o = (o.0, ordered-take (suc n) k ys o.1)

-- the node at a place names lower trees alone
pub ordered-at : (n : ℕ) (xs : List Built) (i : ℕ) (x : Built) → i < length xs → IsOrdered n xs → get_or xs i x ≡ x → All (IsIn (n + i)) x.1
ordered-at n [] i x lt o is = absurd (omega arith)
ordered-at n (y ∷ ys) zero x lt o is =
    let e : n ≡ n + 0 = omega arith in
    subst (λ (m : ℕ). All (IsIn m) x.1) e (subst (λ (z : Built). All (IsIn n) z.1) is o.0)
ordered-at n (y ∷ ys) (suc i) x lt o is =
    let e : suc n + i ≡ n + suc i = omega arith in
    subst (λ (m : ℕ). All (IsIn m) x.1) e (ordered-at (suc n) ys i x (omega arith) o.1 is)
