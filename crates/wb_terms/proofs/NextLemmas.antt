-- What is still to be printed, once the next child of a tree is printed or begun.
use Rattle.std.proofs.Common.{◌≡◌, ◌+◌, ◌≤◌, ℕ, List, [], ◌∷◌, ◌++◌, Some, Bool, true, false}
use Rattle.std.proofs.Common.{length, take, drop, reverse, refl, sym, ap, ◌∙◌, subst, arith, append_assoc}
use Rattle.std.specs.Prelude.{slice_get}
use Rattle.std.proofs.lemmas.List.{reverse-append, length-take-le}
use Rattle.std.proofs.lemmas.List.{take-append-drop, take-append-le, drop-append-le}
use Rattle.std.proofs.lemmas.List.Elements.{All-take}
use Rattle.wb_values.specs.Signature.{Signature}
use Rattle.wb_values.specs.Tree.{Tree, Value, Values, more}
use Rattle.wb_values.specs.ValuesIn.{tree_in, value_in, values_in, IsIn}
use Rattle.wb_values.specs.declared.value.Value.{Value as Stored}
use Rattle.wb_values.specs.declared.value.Value.TheVariants.{Tree as Subtree}
use Rattle.wb_values.proofs.CallerLemmas.{one_left}
use Rattle.wb_terms.specs.declared.print.Begun.{Begun}
use Rattle.wb_terms.specs.declared.print.Current.{Current}
use Rattle.wb_terms.specs.declared.print.Next.{Next}
use Rattle.wb_terms.specs.declared.refusal.PrintRefusal.{PrintRefusal}
use Rattle.wb_terms.specs.Lengths.{IsTooLong}
use Rattle.wb_terms.proofs.LongLemmas.{part_too_long}
use Rattle.wb_terms.specs.Printed.{printed_tree, printed_value}
use Rattle.wb_terms.specs.Inner.Pending.{before, closing, next_text, children_text, children_left, text_left, current_text, tree_weight}
use Rattle.wb_terms.specs.Inner.Pending.{value_weight, children_weight, weight_left, AreNested, ArePendingIn, Begins, Keeps, Steps}

-- the next child with its separator, and the children after it
child_text : (first : Bool) (ss : List Signature) (x : Value) (xs : Values)
    → children_text first ss (more x xs) ≡ before first ++ (printed_value ss x ++ children_text false ss xs)
child_text true ss x xs = refl
child_text false ss x xs = refl

-- the last of the values is the next child of the last tree
module _ (trees : List Tree) (o : Begun) (os : List Begun) (values : List Stored) (place : ℕ) (v : Stored)
    (last : place + 1 ≡ length values) (some : o.below ≤ place) (there : slice_get values place ≡ Some v) where
  split : values ≡ take place values ++ v ∷ []
  split = sym (ap (λ (xs : List Stored). take place values ++ xs) (sym (one_left values place v (omega (arith, last)) there))
      ∙ take-append-drop place values)

  pub inside : length (take place values) ≡ place
  inside = length-take-le place values (omega (arith, last))

  next_left : children_left trees o.below values ≡ more (value_in trees v) (children_left trees o.below (take place values))
  next_left =
      ap (children_left trees o.below) split
      ∙ ap (λ (xs : List Stored). values_in trees (reverse xs))
      (drop-append-le o.below (take place values) (v ∷ []) (omega (arith, some, inside)))
      ∙ ap (values_in trees) (reverse-append (drop o.below (take place values)) (v ∷ []))

  next_below : take o.below values ≡ take o.below (take place values)
  next_below = ap (take o.below) split ∙ take-append-le o.below (take place values) (v ∷ []) (omega (arith, some, inside))

  pub child_left : (first : Bool) (ss : List Signature) → text_left first ss trees values (o ∷ os)
      ≡ before first ++ (printed_value ss (value_in trees v) ++ text_left false ss trees (take place values) (o ∷ os))
  child_left first ss =
      let rest = text_left false ss trees (take o.below (take place values)) os in
      let behind = children_text false ss (children_left trees o.below (take place values)) in
      ap (λ (xs : Values). children_text first ss xs ++ (closing o.closes ++ text_left false ss trees (take o.below values) os)) next_left
      ∙ ap (λ (xs : List Stored). children_text first ss (more (value_in trees v) (children_left trees o.below (take place values)))
      ++ (closing o.closes ++ text_left false ss trees xs os)) next_below
      ∙ ap (λ (l : List ℕ). l ++ (closing o.closes ++ rest)) (child_text first ss (value_in trees v) (children_left trees o.below (take place values)))
      ∙ regroup (before first) (printed_value ss (value_in trees v)) behind (closing o.closes ++ rest)
    where
      regroup : (a b c d : List ℕ) → (a ++ (b ++ c)) ++ d ≡ a ++ (b ++ (c ++ d))
      regroup a b c d = simp append_assoc

  pub child_weight : weight_left trees values (o ∷ os)
      ≡ 1 + (value_weight (value_in trees v) + weight_left trees (take place values) (o ∷ os))
  child_weight =
      let e = ap children_weight next_left in
      let f = ap (λ (xs : List Stored). weight_left trees xs os) next_below in
      omega (arith, e, f)

  pub child_nested : AreNested (length values) (o ∷ os) → AreNested (length (take place values)) (o ∷ os)
  child_nested nested = (omega (arith, some, inside), nested.1)

-- a child is printed, or begun
abbrev current_of : Begun → Bool → Current
current_of o first = record { begun = o; first = first }

module _ (ss : List Signature) (trees : List Tree) (old mid : List ℕ) (c : Current) (os : List Begun) (values : List Stored) (place : ℕ) (v : Stored)
    (last : place + 1 ≡ length values) (some : c.begun.below ≤ place) (there : slice_get values place ≡ Some v)
    (pending : ArePendingIn (length trees) values (c.begun ∷ os)) (separated : mid ≡ old ++ before c.first) where
  behind : List ℕ → Type 0
  behind new = new ++ text_left false ss trees (take place values) (c.begun ∷ os) ≡ old ++ current_text ss trees values c os

  printed_behind : (rest : List ℕ) → rest ≡ printed_value ss (value_in trees v) ++ text_left false ss trees (take place values) (c.begun ∷ os)
      → mid ++ rest ≡ old ++ current_text ss trees values c os
  printed_behind rest e =
      ap (λ (l : List ℕ). mid ++ l) e
      ∙ ap (λ (l : List ℕ). l ++ (printed_value ss (value_in trees v) ++ text_left false ss trees (take place values) (c.begun ∷ os))) separated
      ∙ append_assoc old (before c.first) (printed_value ss (value_in trees v) ++ text_left false ss trees (take place values) (c.begun ∷ os))
      ∙ ap (λ (l : List ℕ). old ++ l) (sym (child_left trees c.begun os values place v last some there c.first ss))

  pub plain_steps : (new : List ℕ) (ws : List Stored) → new ≡ mid ++ printed_value ss (value_in trees v) → ws ≡ take place values
      → Steps ss trees old new c values ws os os (record { begun = c.begun; first = false })
  plain_steps new ws e same =
      let us = take place values in
      let steps : Steps ss trees old new c values us os os (current_of c.begun false) = record {
        text =
            ap (λ (l : List ℕ). l ++ text_left false ss trees us (c.begun ∷ os)) e
            ∙ append_assoc mid (printed_value ss (value_in trees v)) (text_left false ss trees us (c.begun ∷ os))
            ∙ printed_behind (printed_value ss (value_in trees v) ++ text_left false ss trees us (c.begun ∷ os)) refl;
        weight = omega (arith, child_weight trees c.begun os values place v last some there);
        pending = (All-take (IsIn (length trees)) place values pending.0, child_nested trees c.begun os values place v last some there pending.1);
      } in
      subst (λ (xs : List Stored). Steps ss trees old new c values xs os os (current_of c.begun false)) (sym same) steps

  pub tree_text : (us : List Stored) (next : Next) (qs : List Begun) → v ≡ Subtree next.tree → us ≡ take place values
      → Keeps place (c.begun ∷ os) qs next.closes
      → mid ++ (next_text ss trees next.tree.0 next.closes ++ text_left false ss trees us qs) ≡ old ++ current_text ss trees values c os
  tree_text us next qs is same keeps =
      let many : length us ≡ place = ap length same ∙ inside trees c.begun os values place v last some there in
      let print : printed_value ss (value_in trees v) ≡ printed_tree ss (tree_in trees next.tree.0) =
      ap (λ (x : Stored). printed_value ss (value_in trees x)) is in
      printed_behind (next_text ss trees next.tree.0 next.closes ++ text_left false ss trees us qs)
      (append_assoc (printed_tree ss (tree_in trees next.tree.0)) (closing next.closes) (text_left false ss trees us qs)
      ∙ ap (λ (l : List ℕ). printed_tree ss (tree_in trees next.tree.0) ++ l) (keeps.text ss trees us many)
      ∙ ap (λ (xs : List Stored). printed_tree ss (tree_in trees next.tree.0) ++ text_left false ss trees xs (c.begun ∷ os)) same
      ∙ ap (λ (l : List ℕ). l ++ text_left false ss trees (take place values) (c.begun ∷ os)) (sym print))

  pub tree_steps : (new : List ℕ) (us ws : List Stored) (next : Next) (qs : List Begun) (d : Current) → v ≡ Subtree next.tree → us ≡ take place values
      → Keeps place (c.begun ∷ os) qs next.closes → Begins ss trees mid new next us ws d → Steps ss trees old new c values ws os qs d
  tree_steps new us ws next qs d is same keeps begins =
      let many : length us ≡ place = ap length same ∙ inside trees c.begun os values place v last some there in
      let weigh : value_weight (value_in trees v) ≡ tree_weight (tree_in trees next.tree.0) = ap (λ (x : Stored). value_weight (value_in trees x)) is in
      let left : weight_left trees us (c.begun ∷ os) ≡ weight_left trees (take place values) (c.begun ∷ os) =
      ap (λ (xs : List Stored). weight_left trees xs (c.begun ∷ os)) same in
      let nested : AreNested (length us) qs =
      subst (λ (n : ℕ). AreNested n qs) (sym many)
      (keeps.nested (subst (λ (n : ℕ). AreNested n (c.begun ∷ os)) (inside trees c.begun os values place v last some there)
      (child_nested trees c.begun os values place v last some there pending.1))) in
      record {
        text = begins.text qs ∙ tree_text us next qs is same keeps;
        weight =
            omega (arith, begins.weight qs, keeps.weight trees us many, weigh, left, child_weight trees c.begun os values place v last some there);
        pending = begins.pending qs nested;
      }

  -- and what is left is too long where the child is, or the tree with what is before it
  pub child_too_long : (e : PrintRefusal) → IsTooLong (printed_value ss (value_in trees v)) e → IsTooLong (old ++ current_text ss trees values c os) e
  child_too_long e long =
      let rest = text_left false ss trees (take place values) (c.begun ∷ os) in
      part_too_long mid (printed_value ss (value_in trees v)) rest (old ++ current_text ss trees values c os) e
      (sym (printed_behind (printed_value ss (value_in trees v) ++ rest) refl)) long

  pub tree_too_long : (us : List Stored) (next : Next) (qs : List Begun) (e : PrintRefusal) → v ≡ Subtree next.tree → us ≡ take place values
      → Keeps place (c.begun ∷ os) qs next.closes → IsTooLong (mid ++ next_text ss trees next.tree.0 next.closes) e
      → IsTooLong (old ++ current_text ss trees values c os) e
  tree_too_long us next qs e is same keeps long =
      let part = mid ++ next_text ss trees next.tree.0 next.closes in
      let rest = text_left false ss trees us qs in
      part_too_long [] part rest (old ++ current_text ss trees values c os) e
      (sym (append_assoc mid (next_text ss trees next.tree.0 next.closes) rest ∙ tree_text us next qs is same keeps)) long
