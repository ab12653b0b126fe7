-- Names of a scope are those of some numbering, so what is found in each numbering has its labels.
use Rattle.std.proofs.Common.{◌≡◌, ◌∷◌, inr, [], ℕ, List, map, ap, sym, refl}
use Rattle.std.specs.List.{AllZip}
use Rattle.wb_lemmas.proofs.Zips.{zip_map}
use Rattle.wb_syntax_resolved.specs.declared.production.Child.{Child}
use Rattle.wb_syntax_resolved.specs.Once.{Entry}
use Rattle.wb_syntax.specs.declared.production.Child as named
use Rattle.wb_names_numbers_theory.specs.Numbering.{Numbering}
use Rattle.wb_names_numbers_theory.proofs.RowLemmas.{contains_map}
use Rattle.wb_names_rows.specs.declared.scope.Scope.{Scope}
use Rattle.wb_names_rows.specs.Scope.{AreNames, IsScope, IsFoundChild}

-- names, all of one owner
abbrev entries_of : ℕ → List (List ℕ) → List Entry
entries_of owner names = map (λ (name : List ℕ). (owner, name)) names

names_back : (owner : ℕ) (names : List (List ℕ)) → names ≡ map (λ (e : Entry). e.1) (entries_of owner names)
names_back owner [] = refl
names_back owner (name ∷ names) = ap (λ z. name ∷ z) (names_back owner names)

are_names : (owner : ℕ) (names : List (List ℕ)) → AreNames names (entries_of owner names) owner
are_names owner names = record {
  are = names_back owner names;
  seen = λ e has.
      let x = contains_map (λ (name : List ℕ). (owner, name)) names e has in
      inr (ap (λ (z : Entry). z.0) (sym x.2));
}

abbrev numbering_in : Scope → Numbering
numbering_in s = record {
  terminals = entries_of s.owner s.terminals;
  nonterminals = entries_of s.owner s.nonterminals;
  attributes = entries_of s.owner s.attributes;
  productions = entries_of s.owner s.productions;
}

is_scope : (s : Scope) → IsScope s (numbering_in s)
is_scope s = record {
  terminals = are_names s.owner s.terminals;
  nonterminals = are_names s.owner s.nonterminals;
  attributes = are_names s.owner s.attributes;
  productions = are_names s.owner s.productions;
}

-- the labels of children that are found
pub found_labels : (s : Scope) (children : List named.Child) (made : List Child)
    → ((n : Numbering) → AllZip (IsFoundChild s n) children made)
    → map (λ (c : Child). c.label) made ≡ map (λ (c : named.Child). c.label) children
found_labels s children made all =
    zip_map (IsFoundChild s (numbering_in s)) (λ (c : named.Child). c.label) (λ (c : Child). c.label) (λ x y e. (e (is_scope s)).label)
    children made (all (numbering_in s))
