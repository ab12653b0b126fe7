-- The answer for some bytes: what a builder that holds the whole term says of it, and that there is one answer.
use Rattle.std.proofs.Common.{◌≡◌, ◌<◌, ◌-◌, inl, ℕ, List, [], ◌∷◌, Option, Some, None, length, get_or, refl, sym, ap, ◌∙◌, subst, arith}
use Rattle.std.specs.List.{AllZip}
use Rattle.wb_values.specs.Signature.{Signature}
use Rattle.wb_values.specs.Tree.{Tree}
use Rattle.wb_values.specs.ValuesIn.{tree_in}
use Rattle.wb_values.specs.declared.value.Value.{Value}
use Rattle.wb_values.specs.declared.value.Value.TheVariants.{Int, Bool, Text, Tree as Stored}
use Rattle.wb_values.specs.declared.value.TreeId.{TreeId}
use Rattle.wb_terms.specs.declared.builder.Builder.{Builder}
use Rattle.wb_terms.specs.Term.{Term, Argument, term}
use Rattle.wb_terms.specs.TermText.{IsTermText}
use Rattle.wb_terms.specs.Nodes.{SomeNode, EachNode, IsLeast}
use Rattle.wb_terms.specs.Inner.Events.{term_onto}
use Rattle.wb_terms.specs.TreeOf.{HasFirst, FitsNode, IsTreeOf, IsUnknown, IsWrong}
use Rattle.wb_terms.specs.TermAnswer.{Answer, stands, bad, unknown, wrong, IsTermOf, HasUnknown, HasWrongChild, IsAnswer}
use Rattle.wb_terms.specs.Inner.Zipper.{all_met, SomeEnded}
use Rattle.wb_terms.specs.Inner.Built.{IsStored, IsKnown, FitsIfKnown, FindsUnknown, FindsWrong}
use Rattle.wb_terms.specs.Inner.Holding.{Holds}
use Rattle.wb_terms.proofs.LeastLemmas.{either, one_least}
use Rattle.wb_terms.proofs.OntoLemmas.{term_met, some_in, some_out, each_in, same_term}
use Rattle.wb_terms.proofs.ReadingLemmas.{one_onto, term_or_fault, one_first_fault}
use Rattle.wb_terms.proofs.TreeLemmas.{each_some, each_both, built_numbered, one_tree, known_fits, fits_no_wrong, known_not_unknown}

-- of the nodes that were ended the least is the least of the term
least_of_term : (P : ℕ → List ℕ → ℕ → List Argument → Type 0) (t : Term) (place : ℕ)
    → IsLeast (λ at. SomeEnded (P at) (term_onto t [])) place → IsLeast (λ at. SomeNode (P at) t) place
least_of_term P t place l = record {
  here = either (λ s. s) absurd (some_in (P place) t [] l.here);
  least = λ at s. l.least at (some_out (P at) t [] (inl s));
}

module _ (ss : List Signature) (ts : List Tree) (t : Term) (b : Builder) (h : Holds ss ts (term_onto t []) b) where
  -- an unknown name
  pub unknown_least : (place : ℕ) → b.faults.unknown ≡ Some place → IsLeast (λ at. SomeNode (IsUnknown ss at) t) place
  unknown_least place is = least_of_term (IsUnknown ss) t place (subst (λ o. FindsUnknown ss (term_onto t []) o) is h.unknown)

  -- all names are known
  pub all_known : b.faults.unknown ≡ None → EachNode (IsKnown ss) t
  all_known is = let f = subst (λ o. FindsUnknown ss (term_onto t []) o) is h.unknown in (each_in (IsKnown ss) t [] f.0).0

  -- a wrong number of children, or a child of a wrong kind
  pub wrong_least : (place : ℕ) → b.faults.wrong ≡ Some place → IsLeast (λ at. SomeNode (IsWrong ss at) t) place
  wrong_least place is = least_of_term (IsWrong ss) t place (subst (λ o. FindsWrong ss (term_onto t []) o) is h.wrong)

  -- each node fits
  all_fit : b.faults.unknown ≡ None → b.faults.wrong ≡ None → EachNode (FitsNode ss) t
  all_fit known fits =
      let f = subst (λ o. FindsWrong ss (term_onto t []) o) fits h.wrong in
      each_both (IsKnown ss) (FitsIfKnown ss) (FitsNode ss) (known_fits ss) t (all_known known) (each_in (FitsIfKnown ss) t [] f.0).0

  -- the one value that is held
  pub record Root : Type 0 where
    pub id : TreeId
    pub is : b.values.items ≡ Stored id ∷ []
    pub within : id.0 < length ts
    pub tree : b.faults.unknown ≡ None → b.faults.wrong ≡ None → IsTreeOf ss t (tree_in ts id.0)

  root_of : (values : List Value) → b.values.items ≡ values → AllZip (IsStored ss ts) (term t ∷ []) values → Root
  root_of [] is zipped = absurd zipped
  root_of (Int z ∷ xs) is zipped = absurd (zipped.0.built)
  root_of (Bool z ∷ xs) is zipped = absurd (zipped.0.built)
  root_of (Text s ∷ xs) is zipped = absurd (zipped.0.built)
  root_of (Stored id ∷ x ∷ xs) is zipped = absurd zipped.1
  root_of (Stored id ∷ []) is zipped = record {
    id = id;
    is = is;
    within = zipped.0.within;
    tree =
        λ known fits. record {
          numbered = built_numbered ss t (tree_in ts id.0) zipped.0.built
              (all_known known);
          fit = all_fit known fits;
        };
  }

  pub root : Root
  root = root_of b.values.items refl (subst (λ z. AllZip (IsStored ss ts) (all_met z) b.values.items) (term_met t []) h.values)

-- the value that is popped is the one that was held
pub root_popped : (items : List Value) (n : ℕ) (id : TreeId) (r : Option Value) → n ≡ length items → items ≡ Stored id ∷ []
    → ((d : Value) → 0 < n → r ≡ Some (get_or items (n - 1) d)) → r ≡ Some (Stored id)
root_popped items n id r long is popped =
    let one : n ≡ 1 = long ∙ ap length is in
    let first : n - 1 ≡ 0 = omega (arith, one) in
    popped (Stored id) (omega (arith, one)) ∙ ap Some (ap (λ k. get_or items k (Stored id)) first ∙ ap (λ l. get_or l 0 (Stored id)) is)

module _ (ss : List Signature) (bytes : List ℕ) where
  -- bytes are one term
  same_text : (s t : Term) → IsTermText bytes s → IsTermText bytes t → s ≡ t
  same_text s t a b = same_term s t (one_onto bytes s t a b)

  -- a tree excludes each fault
  tree_or_unknown : (u : Tree) (place : ℕ) → IsTermOf ss bytes u → HasUnknown ss bytes place → ⊥
  tree_or_unknown u place a b =
      let e = same_text b.term a.term b.text a.text in
      each_some (FitsNode ss) (IsUnknown ss place)
      (λ name at arguments f. known_not_unknown ss place name at arguments f.found) a.term a.its.fit
      (subst (λ t. SomeNode (IsUnknown ss place) t) e b.least.here)

  tree_or_wrong : (u : Tree) (place : ℕ) → IsTermOf ss bytes u → HasWrongChild ss bytes place → ⊥
  tree_or_wrong u place a b =
      let e = same_text b.term a.term b.text a.text in
      each_some (FitsNode ss) (IsWrong ss place) (fits_no_wrong ss place) a.term a.its.fit
      (subst (λ t. SomeNode (IsWrong ss place) t) e b.least.here)

  unknown_or_wrong : (i j : ℕ) → HasUnknown ss bytes i → HasWrongChild ss bytes j → ⊥
  unknown_or_wrong i j a b =
      let e = same_text a.term b.term a.text b.text in
      each_some (λ name at arguments. HasFirst ss name) (IsUnknown ss i) (known_not_unknown ss i) b.term b.known
      (subst (λ t. SomeNode (IsUnknown ss i) t) e a.least.here)

  -- there is one answer
  pub one_answer : (a b : Answer) → IsAnswer ss bytes a → IsAnswer ss bytes b → a ≡ b
  one_answer (stands u) (stands w) a b =
      ap stands (one_tree ss a.term u w a.its.numbered (subst (λ t. IsTreeOf ss t w)
      (same_text b.term a.term b.text a.text) b.its).numbered)
  one_answer (stands u) (bad j) a b = absurd (term_or_fault bytes a.term j a.text b)
  one_answer (stands u) (unknown j) a b = absurd (tree_or_unknown u j a b)
  one_answer (stands u) (wrong j) a b = absurd (tree_or_wrong u j a b)
  one_answer (bad i) (stands w) a b = absurd (term_or_fault bytes b.term i b.text a)
  one_answer (bad i) (bad j) a b = ap bad (one_first_fault bytes i j a b)
  one_answer (bad i) (unknown j) a b = absurd (term_or_fault bytes b.term i b.text a)
  one_answer (bad i) (wrong j) a b = absurd (term_or_fault bytes b.term i b.text a)
  one_answer (unknown i) (stands w) a b = absurd (tree_or_unknown w i b a)
  one_answer (unknown i) (bad j) a b = absurd (term_or_fault bytes a.term j a.text b)
  one_answer (unknown i) (unknown j) a b =
      ap unknown (one_least (λ at. SomeNode (IsUnknown ss at) b.term) i j
      (subst (λ t. IsLeast (λ at. SomeNode (IsUnknown ss at) t) i) (same_text a.term b.term a.text b.text) a.least) b.least)
  one_answer (unknown i) (wrong j) a b = absurd (unknown_or_wrong i j a b)
  one_answer (wrong i) (stands w) a b = absurd (tree_or_wrong w i b a)
  one_answer (wrong i) (bad j) a b = absurd (term_or_fault bytes a.term j a.text b)
  one_answer (wrong i) (unknown j) a b = absurd (unknown_or_wrong j i b a)
  one_answer (wrong i) (wrong j) a b =
      ap wrong (one_least (λ at. SomeNode (IsWrong ss at) b.term) i j
      (subst (λ t. IsLeast (λ at. SomeNode (IsWrong ss at) t) i) (same_text a.term b.term a.text b.text) a.least) b.least)

-- and so is its tree
pub root_id : (r : Option Value) (x : Value) (id other : TreeId) → r ≡ Some (Stored id) → r ≡ Some x → x ≡ Stored other → id ≡ other
root_id r x id other p q v =
    let e : Some (Stored id) ≡ Some (Stored other) = sym p ∙ (q ∙ ap Some v) in
    let f : Stored id ≡ Stored other = cc in
    cc
