-- What is added for each element that passes a test.
use Rattle.std.proofs.Common.{◌≡◌, ◌<◌, ◌≤◌, ◌+◌, ◌++◌, ◌∷◌, inl, inr, [], ℕ, Bool, List, length, take, get_or, cond, sym, subst, ◌∙◌, ap}
use Rattle.std.proofs.Common.{append_assoc}
use Rattle.std.specs.Prelude.{filter}
use Rattle.std.specs.List.{AllZip}
use Rattle.std.proofs.lemmas.List.{take_more, take_all, append-nil}
use Rattle.std.proofs.lemmas.List.Elements.{filter-append}
use Rattle.wb_names_rows.specs.Nodes.{AddsAll}
use Rattle.wb_names_rows.specs.Inner.Nodes.{Adds}
use Rattle.wb_names_rows.proofs.ZipLemmas.{zip_push}

module _ {A B : Type 0} (test : A → Bool) (R : A → B → Type 0) where
  -- nothing is added for nothing
  pub adds_nothing : (old : List B) → AddsAll test R [] old old
  adds_nothing old = ([], sym (append-nil old), tt)

  adds_push : (xs : List A) (x : A) (old mid new : List B) → AddsAll test R xs old mid → Adds test R x mid new
      → AddsAll test R (xs ++ x ∷ []) old new
  adds_push xs x old mid new (own, is, all) (inl (passes, y, added, found)) =
      let kept : filter test (xs ++ x ∷ []) ≡ filter test xs ++ x ∷ [] =
      filter-append test xs (x ∷ []) ∙ ap (λ b. filter test xs ++ cond b (x ∷ []) []) passes in (
        own ++ y ∷ [],
        added ∙ (ap (λ z. z ++ y ∷ []) is ∙ append_assoc old own (y ∷ [])),
        subst (λ z. AllZip R z (own ++ y ∷ [])) (sym kept) (zip_push R (filter test xs) own x y all found),
      )
  adds_push xs x old mid new (own, is, all) (inr (fails, same)) =
      let kept : filter test (xs ++ x ∷ []) ≡ filter test xs =
      filter-append test xs (x ∷ []) ∙ (ap (λ b. filter test xs ++ cond b (x ∷ []) []) fails ∙ append-nil (filter test xs)) in
      (own, same ∙ is, subst (λ z. AllZip R z own) (sym kept) all)

  -- the next element of a slice
  pub adds_more : (xs : List A) (i : ℕ) (x : A) (old mid new : List B) → AddsAll test R (take i xs) old mid → i < length xs
      → x ≡ get_or xs i x → Adds test R x mid new → AddsAll test R (take (i + 1) xs) old new
  adds_more xs i x old mid new so_far within is adds =
      subst (λ z. AddsAll test R z old new) (sym (take_more xs i x within ∙ ap (λ z. take i xs ++ z ∷ []) (sym is)))
      (adds_push (take i xs) x old mid new so_far adds)

  pub adds_all : (xs : List A) (i : ℕ) (old new : List B) → AddsAll test R (take i xs) old new → length xs ≤ i → AddsAll test R xs old new
  adds_all xs i old new so_far ended = subst (λ z. AddsAll test R z old new) (take_all i xs ended) so_far
