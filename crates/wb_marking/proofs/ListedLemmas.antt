-- What is listed for each of the first terminals, with one more.
use Rattle.std.proofs.Common.{◌≡◌, ◌∙◌, ◌<◌, ◌+◌, ◌++◌, ◌∷◌, ℕ, List, [], Option, None, Some, length, take}
use Rattle.std.proofs.Common.{sym, ap, subst, inl, inr, get_or, slice_get, length-append, arith}
use Rattle.std.specs.Prelude.{IfSome}
use Rattle.std.proofs.lemmas.List.{take_more}
use Rattle.std.proofs.lemmas.Option.{slice_get_within}
use Rattle.wb_lemmas.proofs.Places.{at_once, at_push, push_before, push_last}
use Rattle.wb_automata.specs.Sharing.{IsOnlyMatch}
use Rattle.wb_syntax_resolved.specs.declared.terminal.Terminal.{Terminal}
use Rattle.wb_marking.specs.Inner.Compared.{AreOnlyTexts}

-- in two lists that grow by one element each, what holds of elements at one place
pushed_each : {X Y : Type 0} (R : X → Y → Type 0) (xs : List X) (ys : List Y) (x : X) (y : Y) → length ys ≡ length xs
    → ((k : ℕ) (u : X) (v : Y) → slice_get xs k ≡ Some u → slice_get ys k ≡ Some v → R u v) → R x y → (k : ℕ) (u : X) (v : Y)
    → slice_get (xs ++ x ∷ []) k ≡ Some u → slice_get (ys ++ y ∷ []) k ≡ Some v → R u v
pushed_each R xs ys x y len each here k u v at at_v = elim (at_push xs x u k at) [
  | inl old ↦
      let within = slice_get_within xs k u old in
      each k u v old (sym (push_before ys y k (omega (arith, within, len))) ∙ at_v)
  | inr (last, same) ↦
      let place : k ≡ length ys = last ∙ sym len in
      let new : y ≡ v = at_once (ys ++ y ∷ []) (length ys) y v (push_last ys y)
      (subst (λ z. slice_get (ys ++ y ∷ []) z ≡ Some v) place at_v) in
      subst (λ z. R u z) new (subst (λ z. R z y) same here)
]

pushed_len : {X Y : Type 0} (xs : List X) (ys : List Y) (x : X) (y : Y) → length ys ≡ length xs
    → length (ys ++ y ∷ []) ≡ length (xs ++ x ∷ [])
pushed_len xs ys x y len = length-append ys (y ∷ []) ∙ ap (λ k. k + 1) len ∙ sym (length-append xs (x ∷ []))

module _ (terminals : List Terminal) (i : ℕ) (d : Terminal) (within : i < length terminals) where
  -- the text of one terminal more, if it has one alone
  pub texts_more : (texts : List (Option (List ℕ))) (found : Option (List ℕ)) → AreOnlyTexts (take i terminals) texts
      → IfSome found (IsOnlyMatch (get_or terminals i d).pattern) → AreOnlyTexts (take (i + 1) terminals) (texts ++ found ∷ [])
  texts_more texts found are only = subst (λ z. AreOnlyTexts z (texts ++ found ∷ [])) (sym (take_more terminals i d within)) (record {
    len = pushed_len (take i terminals) texts (get_or terminals i d) found are.len;
    each = λ k t text at at_text.
        let R : Terminal → Option (List ℕ) → Type 0 = λ t o. IfSome o (IsOnlyMatch t.pattern) in
        pushed_each R (take i terminals) texts (get_or terminals i d) found are.len (before texts are) only k t (Some text) at at_text;
  })
    where
      before : (texts : List (Option (List ℕ))) → AreOnlyTexts (take i terminals) texts → (k : ℕ) (t : Terminal) (o : Option (List ℕ))
          → slice_get (take i terminals) k ≡ Some t → slice_get texts k ≡ Some o → IfSome o (IsOnlyMatch t.pattern)
      before texts are k t None at none = tt
      before texts are k t (Some text) at at_text = are.each k t text at at_text
