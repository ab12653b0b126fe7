-- One text more for one of a list more, and what comes before and after the texts.
use Rattle.std.proofs.Common.{◌≡◌, ◌<◌, ◌≤◌, ◌+◌, ◌++◌, ◌∷◌, [], ℕ, List, length, take, get_or, refl, sym, subst, ◌∙◌, ap, append_assoc}
use Rattle.std.specs.List.{AllZip}
use Rattle.std.proofs.lemmas.List.{take_more, take_all}
use Rattle.wb_explain_flows_lists.specs.Lists.{HasText, HasTexts, Lists, all_of}

zip_push : {A B : Type 0} (R : A → B → Type 0) (xs : List A) (ys : List B) (x : A) (y : B) → AllZip R xs ys → R x y →
    AllZip R (xs ++ x ∷ []) (ys ++ y ∷ [])
zip_push R [] [] x y all is = (is, tt)
zip_push R [] (z ∷ ys) x y all is = absurd all
zip_push R (z ∷ xs) [] x y all is = absurd all
zip_push R (z ∷ xs) (w ∷ ys) x y all is = (all.0, zip_push R xs ys x y all.1 is)

pub no_more : (w : List ℕ) → w ++ [] ≡ w
no_more [] = refl
no_more (x ∷ w) = ap (λ z. x ∷ z) (no_more w)

all_push : (xs : List (List ℕ)) (y : List ℕ) → all_of (xs ++ y ∷ []) ≡ all_of xs ++ y
all_push [] y = no_more y
all_push (x ∷ xs) y = ap (λ z. x ++ z) (all_push xs y) ∙ sym (append_assoc x (all_of xs) y)

module _ {X : Type 0} (R : X → List ℕ → Type 0) where
  -- no texts yet
  pub no_texts : (xs : List X) (old : List ℕ) → HasTexts R (take 0 xs) old old
  no_texts [] old = ([], tt, sym (no_more old))
  no_texts (x ∷ xs) old = ([], tt, sym (no_more old))

  -- one text more
  pub one_text : (xs : List X) (old mid new : List ℕ) (i : ℕ) (d : X) → HasTexts R (take i xs) old mid → i < length xs
      → HasText (R (get_or xs i d)) mid new → HasTexts R (take (i + 1) xs) old new
  one_text xs old mid new i d (texts, all, before) within (text, is, after) = (
    texts ++ text ∷ [],
    subst (λ z. AllZip R z (texts ++ text ∷ [])) (sym (take_more xs i d within)) (zip_push R (take i xs) texts (get_or xs i d) text all is),
    after ∙ (ap (λ z. z ++ text) before ∙ (append_assoc old (all_of texts) text ∙ ap (λ z. old ++ z) (sym (all_push texts text)))),
  )

  -- all of them
  pub all_texts : (xs : List X) (old new : List ℕ) (i : ℕ) → HasTexts R (take i xs) old new → length xs ≤ i → HasTexts R xs old new
  all_texts xs old new i has ended = subst (λ z. HasTexts R z old new) (take_all i xs ended) has

  -- a heading, the texts and the rest
  pub lists_all : (xs shown : List X) (old heading headed mid new rest : List ℕ) → shown ≡ take 40 xs → headed ≡ old ++ heading
      → HasTexts R shown headed mid → new ≡ mid ++ rest → Lists R xs old new
  lists_all xs shown old heading headed mid new rest shown_is headed_is (texts, all, are) is = record {
    heading = heading;
    texts = texts;
    are = subst (λ z. AllZip R z texts) shown_is all;
    rest = rest;
    lines = is ∙ ap (λ z. z ++ rest) (are ∙ ap (λ z. z ++ all_of texts) headed_is);
  }
