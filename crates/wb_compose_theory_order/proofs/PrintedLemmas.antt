-- A tree is printed alike in other numbers.
use Rattle.std.proofs.Common.{◌++◌, ◌∙◌, ◌∷◌, ◌≡◌, List, [], ap, refl, sym}
use Rattle.std.proofs.lemmas.List.{append-nil}
use Rattle.wb_base.specs.Grammar.{GrammarView}
use Rattle.wb_grammar_theory.specs.Trees.{DerivationTree, Forest, IsDerived, leaf, node, nothing}
use Rattle.wb_scan_theory.specs.Shown.{Shows, values_of}
use Rattle.wb_terms.specs.Printed.{printed_children, printed_others, printed_tree}
use Rattle.wb_compose_theory.specs.Renamings.{Renaming}
use Rattle.wb_values.specs.Signature.{Signature}
use Rattle.wb_values.specs.Tree.{Tree}
use Rattle.wb_text_tokens.specs.Printing.{printed_text}
use Rattle.wb_compose_theory_order.specs.Answers.{renamed_forest}
use Rattle.wb_compose_theory_order.specs.Laws.{HasSameNames}

module _ (r : Renaming) (g : GrammarView) (signatures others : List Signature) (named : HasSameNames r g signatures others) where
  -- the roots as children are printed alike, the first and those after others
  record Alike (f : Forest) : Type 0 where
    first : printed_children others (values_of (renamed_forest r f)) ≡ printed_children signatures (values_of f)
    later : printed_others others (values_of (renamed_forest r f)) ≡ printed_others signatures (values_of f)

  alike : (f : Forest) → IsDerived g f → Alike f
  alike nothing d = record { first = refl; later = refl }
  alike (leaf t text rest) d =
      let after = alike rest d in
      record {
        first = ap (λ z. printed_text text ++ z) after.later;
        later = ap (λ z. 44 ∷ 32 ∷ (printed_text text ++ z)) after.later;
      }
  alike (node p a children rest) (rule, below, d) =
      let inner = alike children below in
      let after = alike rest d in
      let name = named p a _ rule in
      record {
        first = λ z. (name z ++ 40 ∷ (inner.first z ++ 41 ∷ [])) ++ after.later z;
        later = λ z. 44 ∷ 32 ∷ ((name z ++ 40 ∷ (inner.first z ++ 41 ∷ [])) ++ after.later z);
      }

  -- one root as the only child is printed as its tree
  shown : (names : List Signature) (value : Tree) (f : Forest) → Shows value f →
      printed_children names (values_of f) ≡ printed_tree names value ++ []
  shown names value f is = ap (printed_children names) is

  pub printed_alike : (f : Forest) → DerivationTree g f → (value other : Tree) → Shows value f → Shows other (renamed_forest r f) →
      printed_tree others other ≡ printed_tree signatures value
  printed_alike f is value other one two =
      sym (append-nil (printed_tree others other)) ∙
      (sym (shown others other (renamed_forest r f) two) ∙
      ((alike f is.derived).first ∙ (shown signatures value f one ∙ append-nil (printed_tree signatures value))))
