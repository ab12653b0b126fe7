-- One line more for one key more, and the lines of many in two parts.
use Rattle.std.proofs.Common.{◌≡◌, ◌<◌, ◌≤◌, ◌+◌, ◌++◌, ◌∷◌, [], ℕ, List, length, take, get_or, refl, sym, subst, ◌∙◌, ap}
use Rattle.std.proofs.Common.{append_assoc}
use Rattle.std.specs.List.{AllZip}
use Rattle.std.proofs.lemmas.List.{take_more, take_all}
use Rattle.wb_eval.specs.declared.machine.Key.{Key}
use Rattle.wb_syntax_resolved.specs.declared.attribution.AttributionParts.{AttributionParts}
use Rattle.wb_explain_instances.specs.Inner.Lines.{HasLine}
use Rattle.wb_explain_instances.specs.Said.{HasLines, IsLine, all_of}

zip_push : {A B : Type 0} (R : A → B → Type 0) (xs : List A) (ys : List B) (x : A) (y : B) → AllZip R xs ys → R x y →
    AllZip R (xs ++ x ∷ []) (ys ++ y ∷ [])
zip_push R [] [] x y all is = (is, tt)
zip_push R [] (z ∷ ys) x y all is = absurd all
zip_push R (z ∷ xs) [] x y all is = absurd all
zip_push R (z ∷ xs) (w ∷ ys) x y all is = (all.0, zip_push R xs ys x y all.1 is)

no_more : (w : List ℕ) → w ++ [] ≡ w
no_more [] = refl
no_more (x ∷ w) = ap (λ z. x ∷ z) (no_more w)

all_push : (xs : List (List ℕ)) (y : List ℕ) → all_of (xs ++ y ∷ []) ≡ all_of xs ++ y
all_push [] y = no_more y
all_push (x ∷ xs) y = ap (λ z. x ++ z) (all_push xs y) ∙ sym (append_assoc x (all_of xs) y)

-- no lines yet
pub no_lines : (a : AttributionParts) (keys : List Key) (old : List ℕ) → HasLines a (take 0 keys) old old
no_lines a [] old = ([], tt, sym (no_more old))
no_lines a (k ∷ keys) old = ([], tt, sym (no_more old))

-- one line more
pub one_line : (a : AttributionParts) (keys : List Key) (old mid new : List ℕ) (i : ℕ) (k : Key) → HasLines a (take i keys) old mid →
    i < length keys → get_or keys i k ≡ k → HasLine a k mid new → HasLines a (take (i + 1) keys) old new
one_line a keys old mid new i k (lines, all, before) within is (line, has, after) = (
  lines ++ line ∷ [],
  subst (λ z. AllZip (IsLine a) z (lines ++ line ∷ [])) (sym (take_more keys i k within ∙ ap (λ z. take i keys ++ z ∷ []) is))
      (zip_push (IsLine a) (take i keys) lines k line all has),
  after ∙ (ap (λ z. z ++ line) before ∙ (append_assoc old (all_of lines) line ∙ ap (λ z. old ++ z) (sym (all_push lines line)))),
)

-- all of them
pub all_lines : (a : AttributionParts) (keys : List Key) (old new : List ℕ) (i : ℕ) → HasLines a (take i keys) old new →
    length keys ≤ i → HasLines a keys old new
all_lines a keys old new i has ended = subst (λ z. HasLines a z old new) (take_all i keys ended) has
