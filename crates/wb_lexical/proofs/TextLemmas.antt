-- Numbers of terminals that are one text alone.
use Rattle.std.proofs.Common.{◌≡◌, ℕ, ◌+◌, ◌⊎◌, List, [], ◌∷◌, ◌++◌, length, Option, Some, IfSome, refl, sym, ◌∙◌, ap, subst, inl, inr}
use Rattle.std.proofs.Common.{length-append}
use Rattle.std.specs.Prelude.{slice_get}
use Rattle.wb_base.specs.Different.{Differ}
use Rattle.wb_base.specs.Names.{AddsName}
use Rattle.wb_base.specs.declared.names.Added.{Added}
use Rattle.wb_base.specs.declared.names.Added.TheVariants.{New, Present}
use Rattle.wb_lemmas.proofs.Places.{at_once, at_push, push_keeps, push_last, nothing_at}
use Rattle.wb_regex.specs.Matches.{Matches}
use Rattle.wb_regex.specs.Tree.{Tree}
use Rattle.wb_lexical.specs.Inner.Candidates.{AreNumbered, AreTextNumbers, IsTextOf, KeepNames}

-- a name that is added loses no other
pub added_keeps : (old new : List (List ℕ)) (name : List ℕ) (added : Added) → AddsName old name added new → KeepNames old new
added_keeps old new name (New number) is k text at =
    subst (λ z. slice_get z k ≡ Some text) (sym is.2) (push_keeps old name k text at)
added_keeps old new name (Present number) is k text at = subst (λ z. slice_get z k ≡ Some text) (sym is.1) at

-- a name that is new has its number
pub text_new : (old new : List (List ℕ)) (name : List ℕ) (number : ℕ) (tree : Tree) → AddsName old name (New number) new
    → ((x : List ℕ) → Matches tree x → x ≡ name) → IsTextOf new tree number
text_new old new name number tree is only = record {
  text = name;
  at = subst (λ z. slice_get z number ≡ Some name) (sym is.2)
      (subst (λ (k : ℕ). slice_get (old ++ name ∷ []) k ≡ Some name) (sym is.1) (push_last old name));
  only = only;
}

-- and so has one that was there
pub text_present : (old new : List (List ℕ)) (name : List ℕ) (number : ℕ) (tree : Tree) → AddsName old name (Present number) new
    → ((x : List ℕ) → Matches tree x → x ≡ name) → IsTextOf new tree number
text_present old new name number tree is only = record {
  text = name;
  at = subst (λ z. slice_get z number ≡ Some name) (sym is.1) is.0;
  only = only;
}

-- no terminal
pub numbered_none : (terminals : List Tree) (names : List (List ℕ)) → AreNumbered terminals 0 names []
numbered_none terminals names = record {
  len = refl;
  each = λ t number tree at at'. absurd (nothing_at (Some number) t at);
}

-- one terminal more
pub numbered_more : (terminals : List Tree) (count : ℕ) (old new : List (List ℕ)) (texts : List (Option ℕ)) (number : Option ℕ)
    (tree : Tree) → slice_get terminals count ≡ Some tree → KeepNames old new → IfSome number (IsTextOf new tree) → AreNumbered terminals count old texts
    → AreNumbered terminals (count + 1) new (texts ++ number ∷ [])
numbered_more terminals count old new texts number tree here keeps is are = record {
  len = length-append texts (number ∷ []) ∙ ap (λ (n : ℕ). n + 1) are.len;
  each = λ t n other at at'. pick t n other at' (at_push texts number (Some n) t at);
}
  where
    kept : (other : Tree) (n : ℕ) → IsTextOf old other n → IsTextOf new other n
    kept other n x = record { text = x.text; at = keeps n x.text x.at; only = x.only }

    pick : (t n : ℕ) (other : Tree) → slice_get terminals t ≡ Some other
        → (slice_get texts t ≡ Some (Some n)) ⊎ ((t ≡ length texts) × (number ≡ Some n)) → IsTextOf new other n
    pick t n other at' (inl at) = kept other n (are.each t n other at at')
    pick t n other at' (inr (last, same)) =
        subst (λ (z : Tree). IsTextOf new z n)
        (at_once terminals count tree other here (subst (λ (k : ℕ). slice_get terminals k ≡ Some other) (last ∙ are.len) at'))
        (subst (λ (o : Option ℕ). IfSome o (IsTextOf new tree)) same is)

-- terminals with different numbers are different texts
pub numbers_apart : (terminals : List Tree) (count : ℕ) (names : List (List ℕ)) (texts : List (Option ℕ)) → length terminals ≡ count
    → Differ names → AreNumbered terminals count names texts → AreTextNumbers terminals texts
numbers_apart terminals count names texts all differ are = record {
  len = are.len ∙ sym all;
  apart = λ t u text others left right.
      let a = are.each t others.left left.tree others.left_at left.at in
      let b = are.each u others.right right.tree others.right_at right.at in
      others.other (differ text others.left others.right
      (a.at ∙ ap Some (sym (a.only text left.matches))) (b.at ∙ ap Some (sym (b.only text right.matches))));
}
