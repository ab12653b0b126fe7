-- One part more for one thing more.
use Rattle.std.proofs.Common.{◌≡◌, ◌<◌, ◌≤◌, ◌+◌, ◌++◌, ◌∷◌, [], ℕ, List, length, take, get_or, refl, sym, subst, ◌∙◌, ap, append_assoc, Result, Ok, Err, OnOk, Option, Some, None}
use Rattle.std.specs.Prelude.{IfNone, IfSome}
use Rattle.std.specs.List.{AllZip}
use Rattle.std.proofs.lemmas.List.{take_more, take_all}
use Rattle.wb_explain_drawing.specs.Pushed.{Pushes, PushesOne, all_of}

zip_push : {A B : Type 0} (R : A → B → Type 0) (xs : List A) (ys : List B) (x : A) (y : B) → AllZip R xs ys → R x y →
    AllZip R (xs ++ x ∷ []) (ys ++ y ∷ [])
zip_push R [] [] x y all is = (is, tt)
zip_push R [] (z ∷ ys) x y all is = absurd all
zip_push R (z ∷ xs) [] x y all is = absurd all
zip_push R (z ∷ xs) (w ∷ ys) x y all is = (all.0, zip_push R xs ys x y all.1 is)

no_more : (w : List ℕ) → w ++ [] ≡ w
no_more [] = refl
no_more (x ∷ w) = ap (λ z. x ∷ z) (no_more w)

all_push : (xs : List (List ℕ)) (y : List ℕ) → all_of (xs ++ y ∷ []) ≡ all_of xs ++ y
all_push [] y = no_more y
all_push (x ∷ xs) y = ap (λ z. x ++ z) (all_push xs y) ∙ sym (append_assoc x (all_of xs) y)

-- what follows where it went well
pub on_ok : {X E : Type 0} (r : Result X E) (P Q : Type 0) → (P → Q) → OnOk r P → OnOk r Q
on_ok (Ok x) P Q f h = f h
on_ok (Err e) P Q f h = tt

-- what holds of a value that is there
pub some_told : {X : Type 0} (o : Option X) (x : X) (P : X → Type 0) → o ≡ Some x → IfSome o P → P x
some_told o x P is h = subst (λ o. IfSome o P) is h

-- what holds where none is
pub none_told : {X : Type 0} (o : Option X) (P : Type 0) → o ≡ None → IfNone o P → P
none_told o P is h = subst (λ o. IfNone o P) is h

-- no parts yet
pub no_parts : {X : Type 0} (R : X → List ℕ → Type 0) (xs : List X) (old : List ℕ) → Pushes R (take 0 xs) old old
no_parts R [] old = ([], tt, sym (no_more old))
no_parts R (x ∷ xs) old = ([], tt, sym (no_more old))

-- one part more
pub one_part : {X : Type 0} (R : X → List ℕ → Type 0) (xs : List X) (old mid new : List ℕ) (i : ℕ) (x : X) → Pushes R (take i xs) old mid →
    i < length xs → get_or xs i x ≡ x → PushesOne R x mid new → Pushes R (take (i + 1) xs) old new
one_part R xs old mid new i x (parts, all, before) within is (part, has, after) = (
  parts ++ part ∷ [],
  subst (λ z. AllZip R z (parts ++ part ∷ [])) (sym (take_more xs i x within ∙ ap (λ z. take i xs ++ z ∷ []) is))
      (zip_push R (take i xs) parts x part all has),
  after ∙ (ap (λ z. z ++ part) before ∙ (append_assoc old (all_of parts) part ∙ ap (λ z. old ++ z) (sym (all_push parts part)))),
)

-- all of them
pub all_parts : {X : Type 0} (R : X → List ℕ → Type 0) (xs : List X) (old new : List ℕ) (i : ℕ) → Pushes R (take i xs) old new →
    length xs ≤ i → Pushes R xs old new
all_parts R xs old new i has ended = subst (λ z. Pushes R z old new) (take_all i xs ended) has
