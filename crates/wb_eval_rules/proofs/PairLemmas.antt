-- Lists whose elements are related one by one.
use Rattle.std.proofs.Common.{◌≡◌, ◌++◌, ◌∷◌, [], inl, inr, ℕ, List, length, slice_get, refl, subst, arith}
use Rattle.std.proofs.lemmas.List.{length-append}
use Rattle.std.proofs.lemmas.Option.{slice_get_within}
use Rattle.wb_lemmas.proofs.Places.{at_push, nothing_at}
use Rattle.wb_eval_rules.specs.Codes.{ArePaired}

pub nothing_paired : {X Y : Type 0} (R : X → Y → Type 0) → ArePaired R [] []
nothing_paired R = record { count = refl; each = λ n x y at there. absurd (nothing_at x n at) }

pub one_paired : {X Y : Type 0} (R : X → Y → Type 0) (xs : List X) (x : X) (ys : List Y) (y : Y) → ArePaired R xs ys → R x y
    → ArePaired R (xs ++ x ∷ []) (ys ++ y ∷ [])
one_paired R xs x ys y was is = record {
  count = let l = length-append ys (y ∷ []) in let k = length-append xs (x ∷ []) in let c = was.count in omega (arith, l, k, c);
  each = λ n z w at there. elim (at_push xs x z n at) [
    | inl old ↦ elim (at_push ys y w n there) [
      | inl older ↦ was.each n z w old older
      | inr (here, same) ↦ absurd (let lt = slice_get_within xs n z old in let c = was.count in omega (arith, lt, here, c))
    ]
    | inr (last, same_x) ↦ elim (at_push ys y w n there) [
      | inl older ↦ absurd (let lt = slice_get_within ys n w older in let c = was.count in omega (arith, lt, last, c))
      | inr (here, same) ↦ subst (λ u. R u w) same_x (subst (R x) same is)
    ]
  ];
}
