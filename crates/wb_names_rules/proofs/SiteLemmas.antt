-- The only nonterminal of a tree, from that of a left side or a label.
use Rattle.std.proofs.Common.{◌≡◌, ℕ, List, Option, Some, None, Bool, refl, sym, ap, subst, inl, inr}
use Rattle.std.specs.Prelude.{◌↔◌, IsTrue}
use Rattle.wb_names_theory.specs.declared.declaration.Declaration.{Declaration}
use Rattle.wb_names_theory.specs.declared.declaration.Labelled.{Labelled}
use Rattle.wb_names_theory.specs.declared.declaration.Labelled.TheVariants as label
use Rattle.wb_names_theory.specs.declared.declaration.Sort.{Sort}
use Rattle.wb_names_theory.specs.declared.declaration.Sort.TheVariants.{Terminal, Marker}
use Rattle.wb_names_theory.specs.Meaning.{IsTree, HasLabel}
use Rattle.wb_names_rules.specs.Inner.Reads.{IsOnly, IsSortOf, IsLexicalName, IsLexicalSort, IsNonterminalNamed, IsTreeOf, IsLabelledAs}
use Rattle.wb_names_rules.specs.Inner.Reads.{IsLabelTreeOf}

-- a test of a sort is one of what the name is declared as
pub lexical_test : (declared : List Declaration) (name : List ℕ) (is : Sort) (b : Bool) → IsSortOf declared name (Some is)
    → (IsTrue b ↔ IsLexicalSort is) → IsTrue b ↔ IsLexicalName declared name
lexical_test declared name is b only test = (
  λ h. elim (test.0 h) [ inl t ↦ inl ((only Terminal).1 (sym t)) | inr m ↦ inr ((only Marker).1 (sym m)) ],
  λ has. test.1 (elim has [ inl t ↦ inl (sym ((only Terminal).0 t)) | inr m ↦ inr (sym ((only Marker).0 m)) ]),
)

module _ {X : Type 0} where
  -- the only one of an equal fact
  pub only_from : (P Q : X → Type 0) (found : Option X) → ((x : X) → P x ↔ Q x) → IsOnly P found → IsOnly Q found
  only_from P Q None same only = λ x q. only x ((same x).1 q)
  only_from P Q (Some y) same only = λ x. (λ q. (only x).0 ((same x).1 q), λ e. (same x).0 ((only x).1 e))

  -- the only one of two facts, of which only one has the first
  pub only_both : (P Q : X → Type 0) (y : X) (found : Option X) → IsOnly P (Some y) → IsOnly (λ (x : X). (x ≡ y) × Q x) found
      → IsOnly (λ (x : X). P x × Q x) found
  only_both P Q y found only both =
      only_from (λ (x : X). (x ≡ y) × Q x) (λ (x : X). P x × Q x) found
      (λ x. (λ z. ((only x).1 z.0, z.1), λ z. ((only x).0 z.0, z.1))) both

-- a child of a name is a tree where the name is a nonterminal's
pub child_tree : (declared : List Declaration) (name : List ℕ) (found : Option (List ℕ)) → IsNonterminalNamed declared name found
    → IsTreeOf declared (label.Child name) found
child_tree declared name found only =
    only_from _ (IsTree declared (label.Child name)) found (λ n. (
      λ z. (inl (ap (λ (m : List ℕ). label.Child m) (sym z.0)), z.1),
      λ z. (elim z.0 [ inl e ↦ cc | inr e ↦ absurd (cc) ], z.1),
    )) only

-- and so is a local
pub local_tree : (declared : List Declaration) (name : List ℕ) (found : Option (List ℕ)) → IsNonterminalNamed declared name found
    → IsTreeOf declared (label.Local name) found
local_tree declared name found only =
    only_from _ (IsTree declared (label.Local name)) found (λ n. (
      λ z. (inr (ap (λ (m : List ℕ). label.Local m) (sym z.0)), z.1),
      λ z. (elim z.0 [ inl e ↦ absurd (cc) | inr e ↦ cc ], z.1),
    )) only

-- the tree of a label is that of what has it
pub label_tree : (declared : List Declaration) (production l : List ℕ) (is : Labelled) (found : Option (List ℕ))
    → IsLabelledAs declared production l (Some is) → IsTreeOf declared is found → IsLabelTreeOf declared production l found
label_tree declared production l is found only tree =
    only_from (IsTree declared is) (λ (n : List ℕ). (other : Labelled) × HasLabel declared production l other × IsTree declared other n) found
    (λ n. (
      λ z. (is, (only is).1 refl, z),
      λ z. subst (λ (w : Labelled). IsTree declared w n) ((only z.0).0 z.1) z.2,
    )) tree
