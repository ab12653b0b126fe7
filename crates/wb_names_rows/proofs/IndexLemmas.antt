-- An index with one more text.
use Rattle.std.proofs.Common.{◌≡◌, ◌++◌, ◌∷◌, inl, inr, [], ℕ, List, Some, Contains, length, slice_get, ap, sym, subst, ◌∙◌, arith}
use Rattle.std.proofs.Common.{length-append}
use Rattle.wb_lemmas.proofs.Members.{contains_at, contains_push, push_contains, push_contains_last}
use Rattle.wb_lemmas.proofs.Places.{at_push, push_keeps, push_last}
use Rattle.wb_names_rows.specs.Index.{IsPlaced, IsIndex}

-- a place that is kept stays one
kept : (names names2 : List (List ℕ)) (numbers more : List ℕ) (texts : List (List ℕ)) (text : List ℕ) (k : ℕ) (name : List ℕ)
    → ((n : ℕ) → slice_get numbers k ≡ Some n → slice_get more k ≡ Some n) → IsPlaced names numbers texts k name
    → IsPlaced names2 more (texts ++ text ∷ []) k name
kept names names2 numbers more texts text k name keeps p =
    record { number = p.number; at = keeps p.number p.at; is = push_keeps texts text p.number name p.is }

-- a text that is there
pub index_present : (names : List (List ℕ)) (numbers : List ℕ) (texts : List (List ℕ)) (text : List ℕ) (k : ℕ)
    → IsIndex names numbers texts → slice_get names k ≡ Some text → IsIndex names numbers (texts ++ text ∷ [])
index_present names numbers texts text k index at = record {
  count = index.count;
  placed = λ j name there. kept names names numbers numbers texts text j name (λ n e. e) (index.placed j name there);
  whole = λ name has. elim (contains_push texts text name has) [
    | inl old ↦ index.whole name old
    | inr same ↦ subst (Contains names) same (contains_at names text k at)
  ];
}

-- a new text
pub index_new : (names : List (List ℕ)) (numbers : List ℕ) (texts : List (List ℕ)) (text : List ℕ) → IsIndex names numbers texts
    → IsIndex (names ++ text ∷ []) (numbers ++ length texts ∷ []) (texts ++ text ∷ [])
index_new names numbers texts text index = record {
  count = let a = length-append names (text ∷ []) in let b = length-append numbers (length texts ∷ []) in omega (arith, a, b, index.count);
  placed = λ j name there. elim (at_push names text name j there) [
    | inl old ↦ kept names (names ++ text ∷ []) numbers (numbers ++ length texts ∷ []) texts text j name
        (λ n e. push_keeps numbers (length texts) j n e) (index.placed j name old)
    | inr last ↦ record {
      number = length texts;
      at = ap (slice_get (numbers ++ length texts ∷ [])) (last.0 ∙ sym index.count) ∙ push_last numbers (length texts);
      is = push_last texts text ∙ ap Some last.1;
    }
  ];
  whole = λ name has. elim (contains_push texts text name has) [
    | inl old ↦ push_contains names text name (index.whole name old)
    | inr same ↦ subst (Contains (names ++ text ∷ [])) same (push_contains_last names text)
  ];
}

-- what is found
pub found_at : (names : List (List ℕ)) (numbers : List ℕ) (texts : List (List ℕ)) → IsIndex names numbers texts → (k number : ℕ)
    (name : List ℕ) → slice_get names k ≡ Some name → slice_get numbers k ≡ Some number → slice_get texts number ≡ Some name
found_at names numbers texts index k number name at there =
    let p = index.placed k name at in
    let both : Some p.number ≡ Some number = sym p.at ∙ there in
    let same : p.number ≡ number = cc in
    subst (λ z. slice_get texts z ≡ Some name) same p.is
