-- One word more.
use Rattle.std.proofs.Common.{◌≡◌, ◌<◌, ◌≤◌, ◌+◌, ◌++◌, ◌∷◌, [], ℕ, List, map, length, take, get_or, refl, sym, subst, ◌∙◌, ap, append_assoc}
use Rattle.std.specs.List.{AllZip}
use Rattle.std.proofs.lemmas.List.{take_more, take_all, map-append}
use Rattle.wb_explain_conflicts.specs.Inner.Pieces.{HasWord}
use Rattle.wb_explain_conflicts.specs.Words.{HasWords, IsSpaced, all_of}

zip_push : {A B : Type 0} (R : A → B → Type 0) (xs : List A) (ys : List B) (x : A) (y : B) → AllZip R xs ys → R x y →
    AllZip R (xs ++ x ∷ []) (ys ++ y ∷ [])
zip_push R [] [] x y all is = (is, tt)
zip_push R [] (z ∷ ys) x y all is = absurd all
zip_push R (z ∷ xs) [] x y all is = absurd all
zip_push R (z ∷ xs) (w ∷ ys) x y all is = (all.0, zip_push R xs ys x y all.1 is)

no_more : (w : List ℕ) → w ++ [] ≡ w
no_more [] = refl
no_more (x ∷ w) = ap (λ z. x ∷ z) (no_more w)

all_push : (xs : List (List ℕ)) (y : List ℕ) → all_of (xs ++ y ∷ []) ≡ all_of xs ++ y
all_push [] y = no_more y
all_push (x ∷ xs) y = ap (λ z. x ++ z) (all_push xs y) ∙ sym (append_assoc x (all_of xs) y)

-- no words yet
pub no_words : {A : Type 0} (f : A → List ℕ) (xs : List A) (old : List ℕ) → HasWords (map f (take 0 xs)) old old
no_words f [] old = ([], tt, sym (no_more old))
no_words f (x ∷ xs) old = ([], tt, sym (no_more old))

-- one word more
pub word_pushed : (words : List (List ℕ)) (word old mid new : List ℕ) → HasWords words old mid → HasWord word mid new →
    HasWords (words ++ word ∷ []) old new
word_pushed words word old mid new (entries, all, before) (entry, has, after) = (
  entries ++ entry ∷ [],
  zip_push IsSpaced words entries word entry all has,
  after ∙ (ap (λ z. z ++ entry) before ∙ (append_assoc old (all_of entries) entry ∙ ap (λ z. old ++ z) (sym (all_push entries entry)))),
)

pub one_word : {A : Type 0} (f : A → List ℕ) (xs : List A) (old mid new : List ℕ) (i : ℕ) (x : A) → HasWords (map f (take i xs)) old mid →
    i < length xs → get_or xs i x ≡ x → HasWord (f x) mid new → HasWords (map f (take (i + 1) xs)) old new
one_word f xs old mid new i x was within is word =
    subst (λ z. HasWords z old new)
    (sym (ap (map f) (take_more xs i x within ∙ ap (λ z. take i xs ++ z ∷ []) is) ∙ map-append f (take i xs) (x ∷ [])))
    (word_pushed (map f (take i xs)) (f x) old mid new was word)

-- all of them
pub all_words : {A : Type 0} (f : A → List ℕ) (xs : List A) (old new : List ℕ) (i : ℕ) → HasWords (map f (take i xs)) old new →
    length xs ≤ i → HasWords (map f xs) old new
all_words f xs old new i has ended = subst (λ z. HasWords (map f z) old new) (take_all i xs ended) has
