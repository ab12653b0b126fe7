-- One line more for one terminal more, and what comes before and after the lines.
use Rattle.std.proofs.Common.{◌≡◌, ◌<◌, ◌≤◌, ◌+◌, ◌++◌, ◌∷◌, [], ℕ, List, length, take, get_or, refl, sym, subst, ◌∙◌, ap, append_assoc}
use Rattle.std.specs.List.{AllZip}
use Rattle.std.proofs.lemmas.List.{take_more, take_all}
use lib.Chars.{codes}
use Rattle.wb_explain_stops.specs.Inner.Entries.{HasEntries, HasEntry}
use Rattle.wb_explain_stops.specs.Said.{IsEntry, Lists, all_of}

zip_push : {A B : Type 0} (R : A → B → Type 0) (xs : List A) (ys : List B) (x : A) (y : B) → AllZip R xs ys → R x y →
    AllZip R (xs ++ x ∷ []) (ys ++ y ∷ [])
zip_push R [] [] x y all is = (is, tt)
zip_push R [] (z ∷ ys) x y all is = absurd all
zip_push R (z ∷ xs) [] x y all is = absurd all
zip_push R (z ∷ xs) (w ∷ ys) x y all is = (all.0, zip_push R xs ys x y all.1 is)

no_more : (w : List ℕ) → w ++ [] ≡ w
no_more [] = refl
no_more (x ∷ w) = ap (λ z. x ∷ z) (no_more w)

all_push : (xs : List (List ℕ)) (y : List ℕ) → all_of (xs ++ y ∷ []) ≡ all_of xs ++ y
all_push [] y = no_more y
all_push (x ∷ xs) y = ap (λ z. x ++ z) (all_push xs y) ∙ sym (append_assoc x (all_of xs) y)

-- no lines yet
pub no_entries : (names : List (List ℕ)) (terminals : List ℕ) (old : List ℕ) → HasEntries names (take 0 terminals) old old
no_entries names [] old = ([], tt, sym (no_more old))
no_entries names (t ∷ terminals) old = ([], tt, sym (no_more old))

-- one line more
pub one_entry : (names : List (List ℕ)) (terminals : List ℕ) (old mid new : List ℕ) (i t : ℕ) → HasEntries names (take i terminals) old mid →
    i < length terminals → get_or terminals i t ≡ t → HasEntry names t mid new → HasEntries names (take (i + 1) terminals) old new
one_entry names terminals old mid new i t (entries, all, before) within is (entry, has, after) = (
  entries ++ entry ∷ [],
  subst (λ z. AllZip (IsEntry names) z (entries ++ entry ∷ [])) (sym (take_more terminals i t within ∙ ap (λ z. take i terminals ++ z ∷ []) is))
      (zip_push (IsEntry names) (take i terminals) entries t entry all has),
  after ∙ (ap (λ z. z ++ entry) before ∙ (append_assoc old (all_of entries) entry ∙ ap (λ z. old ++ z) (sym (all_push entries entry)))),
)

-- all of them
pub all_entries : (names : List (List ℕ)) (terminals : List ℕ) (old new : List ℕ) (i : ℕ) → HasEntries names (take i terminals) old new →
    length terminals ≤ i → HasEntries names terminals old new
all_entries names terminals old new i has ended = subst (λ z. HasEntries names z old new) (take_all i terminals ended) has

-- a heading, the lines and the rest
pub lists_all : (names : List (List ℕ)) (terminals shown old headed mid new rest : List ℕ) → shown ≡ take 40 terminals →
    headed ≡ old ++ codes "\nWhat could come here:\n\n" → HasEntries names shown headed mid → new ≡ mid ++ rest →
    Lists names terminals old new
lists_all names terminals shown old headed mid new rest shown_is headed_is (entries, all, are) is = record {
  entries = entries;
  are = subst (λ z. AllZip (IsEntry names) z entries) shown_is all;
  rest = rest;
  lines = is ∙ ap (λ z. z ++ rest) (are ∙ ap (λ z. z ++ all_of entries) headed_is);
}
