-- The texts of leaves, one leaf more at a time.
use Rattle.std.proofs.Common.{◌≡◌, ℕ, ◌+◌, zero, suc, ◌<◌, List, [], ◌∷◌, ◌++◌, length, get_or, take, refl, sym, ◌∙◌, ap, subst, arith}
use Rattle.std.proofs.Common.{append_assoc}
use Rattle.std.specs.List.{AllZip}
use Rattle.std.proofs.lemmas.Slice.Zip.{all_zipped_more}
use Rattle.wb_regex.specs.Tree.{Tree}
use Rattle.wb_automata.specs.Overlaps.{IsLeastMatch}
use Rattle.std.proofs.lemmas.List.{take_more, append-nil}
use Rattle.wb_generate.specs.Texts.{text_at, further, joined_texts}

further_append : (texts : List (List ℕ)) (between made more : List ℕ) →
    further texts between (made ++ more) ≡ further texts between made ++ further texts between more
further_append texts between [] more = refl
further_append texts between (t ∷ made) more =
    ap (λ z. between ++ text_at texts t ++ z) (further_append texts between made more)
    ∙ sym (append_assoc (between ++ text_at texts t) (further texts between made) (further texts between more))

-- one leaf more after others
joined_more : (texts : List (List ℕ)) (between made : List ℕ) (t : ℕ) → 0 < length made →
    joined_texts texts between (made ++ t ∷ []) ≡ joined_texts texts between made ++ between ++ text_at texts t
joined_more texts between [] t some = absurd (omega arith)
joined_more texts between (u ∷ made) t some =
    ap (λ z. text_at texts u ++ z) (further_append texts between made (t ∷ []))
    ∙ ap (λ z. text_at texts u ++ (further texts between made ++ z)) (append-nil (between ++ text_at texts t))
    ∙ sym (append_assoc (text_at texts u) (further texts between made) (between ++ text_at texts t))
    ∙ sym (append_assoc (text_at texts u ++ further texts between made) between (text_at texts t))

length_take : (w : List ℕ) (i : ℕ) → i < length w → length (take i w) ≡ i
length_take w zero lt = refl
length_take [] (suc i) lt = absurd (omega arith)
length_take (x ∷ w) (suc i) lt = ap suc (length_take w i (omega arith))

-- the leaf at a place, which isn't the first
pub place_later : (texts : List (List ℕ)) (between made : List ℕ) (i t : ℕ) (old mid new : List ℕ) → i < length made → 0 < i →
    t ≡ get_or made i 0 →
    old ≡ joined_texts texts between (take i made) → mid ≡ old ++ between → new ≡ mid ++ text_at texts t →
    new ≡ joined_texts texts between (take (i + 1) made)
place_later texts between made i t old mid new lt pos is start e f =
    let len : length (take i made) ≡ i = length_take made i lt in
    let h : take (i + 1) made ≡ take i made ++ t ∷ [] = take_more made i 0 lt ∙ ap (λ z. take i made ++ z ∷ []) (sym is) in
    f ∙ ap (λ z. z ++ text_at texts t) (e ∙ ap (λ z. z ++ between) start)
    ∙ sym (ap (joined_texts texts between) h ∙ joined_more texts between (take i made) t (omega arith))

-- the first leaf
pub place_first : (texts : List (List ℕ)) (between made : List ℕ) (i t : ℕ) (old new : List ℕ) → i < length made → i ≡ 0 →
    t ≡ get_or made i 0 →
    old ≡ joined_texts texts between (take i made) → new ≡ old ++ text_at texts t → new ≡ joined_texts texts between (take (i + 1) made)
place_first texts between made i t old new lt zero_is is start f =
    let e : take i made ≡ [] = ap (λ z. take z made) zero_is in
    let h : take (i + 1) made ≡ t ∷ [] =
    take_more made i 0 lt ∙ ap (λ z. take i made ++ z ∷ []) (sym is) ∙ ap (λ z. z ++ t ∷ []) e in
    f ∙ ap (λ z. z ++ text_at texts t) (start ∙ ap (joined_texts texts between) e)
    ∙ sym (ap (joined_texts texts between) h ∙ append-nil (text_at texts t))

-- the least text of one expression more
pub least_more : (xs : List Tree) (ys : List (List ℕ)) (i : ℕ) (x d : Tree) (y : List ℕ) → i < length xs → x ≡ get_or xs i d →
    AllZip IsLeastMatch (take i xs) ys → IsLeastMatch x y → AllZip IsLeastMatch (take (i + 1) xs) (ys ++ y ∷ [])
least_more xs ys i x d y lt is before m =
    subst (λ z. AllZip IsLeastMatch z (ys ++ y ∷ [])) (sym (take_more xs i d lt ∙ ap (λ z. take i xs ++ z ∷ []) (sym is)))
    (all_zipped_more IsLeastMatch (take i xs) ys x y before m)
