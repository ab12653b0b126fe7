-- What is beside a production is one, where no name and no label is there twice.
use Rattle.std.proofs.Common.{◌≡◌, ◌++◌, [], ◌⊎◌, inl, inr, ℕ, List, Option, Some, None, map, sym, refl, subst, ◌∙◌}
use Rattle.std.specs.Prelude.{option_to_list}
use Rattle.std.specs.List.{AllZip}
use Rattle.std.proofs.lemmas.Simd.{map-map}
use Rattle.wb_lemmas.proofs.Zips.{one_zip, zip_map}
use Rattle.wb_syntax_resolved.specs.declared.production.Child.{Child}
use Rattle.wb_syntax_resolved.specs.declared.production.Local.{Local}
use Rattle.wb_syntax_resolved.specs.declared.production.Production.{Production}
use Rattle.wb_syntax_resolved.specs.Once.{Entry, NamesDiffer, labels_of}
use Rattle.wb_syntax_resolved.specs.Owners.{Sees}
use Rattle.wb_syntax.specs.declared.expression.Equation as written
use Rattle.wb_syntax.specs.declared.expression.Target as is_for
use Rattle.wb_syntax.specs.declared.expression.Target.TheVariants as g
use Rattle.wb_names_theory.specs.Declarations.{Items, ProductionDeclaration}
use Rattle.wb_names_numbers_theory.specs.Files.{equations_on}
use Rattle.wb_names_numbers_theory.specs.Numbering.{Numbering, Labels, labels_in}
use Rattle.wb_names_numbers_theory.specs.Written.{IsWrittenChild, IsWrittenEquation, IsWrittenLocal, IsWrittenLocalTarget, IsWrittenForward}
use Rattle.wb_names_numbers_theory.specs.Written.{local_equations, forward_equations, attribute_equations}
use Rattle.wb_names_numbers_theory.specs.Moved.{Move, IsMovedChild, IsMovedLocal, IsMovedForward, IsMovedEquation}
use Rattle.wb_names_numbers_theory.specs.Rows.{IsProductionRow, IsExtendedProduction}
use Rattle.wb_names_numbers_theory.specs.Sources.{sources, IsFrom}
use Rattle.wb_names_numbers_theory.proofs.NumberLemmas.{differ_right}
use Rattle.wb_names_numbers_theory.proofs.OneRow.{AreDistinct, LabelsDiffer, one_written_child, one_written_equation, one_written_local}
use Rattle.wb_names_numbers_theory.proofs.OneRow.{one_written_forward, one_nonterminal_number}
use Rattle.wb_names_numbers_theory.proofs.OneMoved.{one_moved_child, one_moved_equation, one_moved_local, one_moved_forward}
use Rattle.wb_names_numbers_theory.proofs.OneMoved.{one_moved_nonterminal}

-- what comes from the one or the other is one
pub one_from : {A B C : Type 0} (R : A → C → Type 0) (S : B → C → Type 0) → ((x : A) (y z : C) → R x y → R x z → y ≡ z)
    → ((x : B) (y z : C) → S x y → S x z → y ≡ z) → (x : A ⊎ B) (y z : C) → IsFrom R S x y → IsFrom R S x z → y ≡ z
one_from R S one other (inl x) y z e f = one x y z e f
one_from R S one other (inr x) y z e f = other x y z e f

same_production : (y z : Production) → y.name ≡ z.name → y.owner ≡ z.owner → y.role ≡ z.role → y.left ≡ z.left → y.children ≡ z.children
    → y.locals ≡ z.locals → y.forward ≡ z.forward → y.equations ≡ z.equations → y ≡ z
same_production y z a b c d e f g h =
    λ j. record { name = a j; owner = b j; role = c j; left = d j; children = e j; locals = f j; forward = g j; equations = h j }

same_option : {X : Type 0} (x y : Option X) → option_to_list x ≡ option_to_list y → x ≡ y
same_option None None e = refl
same_option None (Some y) e = absurd (cc e)
same_option (Some x) None e = absurd (cc e)
same_option (Some x) (Some y) e = cc e

-- the labels of a production differ, so they do as its labels
pub labels_differ : (row : Production) (owner : ℕ) → NamesDiffer (labels_of row) → Sees owner row.owner
    → LabelsDiffer (labels_in row) row.owner owner
labels_differ row owner differ sees = record {
  differ = subst (λ k. NamesDiffer (k ++ map (λ (l : Local). (l.owner, l.label)) row.locals))
      (sym (map-map (λ (l : List ℕ). (row.owner, l)) (λ (c : Child). c.label) row.children)) differ;
  sees = sees;
}

-- the label of a local that an equation makes
abbrev pub local_label : is_for.Target → List ℕ
local_label (g.Local label nonterminal) = label
local_label (g.Top attribute) = []
local_label (g.Label label attribute) = []
local_label (g.Forward attribute) = []
local_label g.ForwardsTo = []

-- a local's label with whose it is, and that of one which an equation makes
abbrev pub local_name : Local → Entry
local_name l = (l.owner, l.label)

abbrev pub written_name : ℕ → written.Equation → Entry
written_name owner w = (owner, local_label w.target)

module _ (n : Numbering) (owner : ℕ) where
  pub target_label : (from : is_for.Target) (label : List ℕ) (number : ℕ) → IsWrittenLocalTarget n owner from label number
      → label ≡ local_label from
  target_label (g.Local written nonterminal) label number e = e.0
  target_label (g.Top attribute) label number e = absurd e
  target_label (g.Label other attribute) label number e = absurd e
  target_label (g.Forward attribute) label number e = absurd e
  target_label g.ForwardsTo label number e = absurd e

  pub written_entry : (labels : Labels) (w : written.Equation) (l : Local) → IsWrittenLocal n owner labels w l
      → local_name l ≡ written_name owner w
  written_entry labels w l e = λ j. (e.owner_is j, target_label w.target l.label l.nonterminal e.target j)

  module _ (distinct : AreDistinct n) (items : Items) where
    -- rows of one declaration
    pub one_production_row : (d : ProductionDeclaration) (y z : Production) → LabelsDiffer (labels_in y) y.owner owner
        → IsProductionRow n owner items d y → IsProductionRow n owner items d z → y ≡ z
    one_production_row d y z differ e f =
        let equations = equations_on d.production.name items in
        let children : y.children ≡ z.children = one_zip (IsWrittenChild n owner) (one_written_child n distinct owner) d.production.children
        y.children z.children e.children f.children in
        let entries : map local_name y.locals ≡ map local_name z.locals =
        zip_map (IsWrittenLocal n owner (labels_in y)) (written_name owner) local_name
        (written_entry (labels_in y)) (local_equations equations) y.locals e.locals
        ∙ sym (zip_map (IsWrittenLocal n owner (labels_in z)) (written_name owner) local_name
        (written_entry (labels_in z)) (local_equations equations) z.locals f.locals) in
        let same : labels_in z ≡ labels_in y =
        λ j. record { children = map (λ (c : Child). c.label) (sym children j); locals = sym entries j } in
        same_production y z (e.name ∙ sym f.name) (e.owner_is ∙ sym f.owner_is) (e.role ∙ sym f.role)
        (one_nonterminal_number n distinct owner d.production.left y.left z.left e.left f.left) children
        (one_zip (IsWrittenLocal n owner (labels_in y)) (one_written_local n distinct owner (labels_in y) y.owner differ)
        (local_equations equations) y.locals z.locals e.locals
        (subst (λ k. AllZip (IsWrittenLocal n owner k) (local_equations equations) z.locals) same f.locals))
        (same_option y.forward z.forward (one_zip (IsWrittenForward n owner (labels_in y))
        (one_written_forward n distinct owner (labels_in y) y.owner differ) (forward_equations equations) (option_to_list y.forward)
        (option_to_list z.forward) e.forward
        (subst (λ k. AllZip (IsWrittenForward n owner k) (forward_equations equations) (option_to_list z.forward)) same f.forward)))
        (one_zip (IsWrittenEquation n owner (labels_in y)) (one_written_equation n distinct owner (labels_in y) y.owner differ)
        (attribute_equations equations) y.equations z.equations e.equations
        (subst (λ k. AllZip (IsWrittenEquation n owner k) (attribute_equations equations) z.equations) same f.equations))

    module _ (m : Move) (to_distinct : AreDistinct m.to) where
      -- a local's label, moved or written
      from_entry : Local ⊎ written.Equation → Entry
      from_entry (inl l) = (m.owner_in l.owner, l.label)
      from_entry (inr w) = (owner, local_label w.target)

      local_entry : (labels others : Labels) (x : Local ⊎ written.Equation) (l : Local)
          → IsFrom (IsMovedLocal m labels others) (IsWrittenLocal n owner others) x l → local_name l ≡ from_entry x
      unfolding from_entry
      local_entry labels others (inl x) l e = λ j. (e.owner j, e.label j)
      local_entry labels others (inr w) l e = written_entry others w l e

      -- rows of one production of the base
      pub one_extended_production : (p : Production) (y z : Production) → LabelsDiffer (labels_in y) y.owner owner
          → IsExtendedProduction n owner items m p y → IsExtendedProduction n owner items m p z → y ≡ z
      one_extended_production p y z differ e f =
          let equations = equations_on p.name items in
          let there = sources p.locals (local_equations equations) in
          let moved = sources p.equations (attribute_equations equations) in
          let old = labels_in p in
          let new = labels_in y in
          let locals_differ : NamesDiffer new.locals =
          differ_right (map (λ (l : List ℕ). (y.owner, l)) new.children) new.locals differ.differ in
          let children : y.children ≡ z.children = one_zip (IsMovedChild m) (one_moved_child m to_distinct) p.children y.children z.children
          e.children f.children in
          let entries : map local_name y.locals ≡ map local_name z.locals =
          zip_map (IsFrom (IsMovedLocal m old new) (IsWrittenLocal n owner new)) from_entry local_name
          (local_entry old new) there y.locals e.locals
          ∙ sym (zip_map (IsFrom (IsMovedLocal m old (labels_in z)) (IsWrittenLocal n owner (labels_in z))) from_entry
          local_name (local_entry old (labels_in z)) there z.locals f.locals) in
          let same : labels_in z ≡ new =
          λ j. record { children = map (λ (c : Child). c.label) (sym children j); locals = sym entries j } in
          same_production y z (e.name ∙ sym f.name) (e.owner_is ∙ sym f.owner_is) (e.role ∙ sym f.role)
          (one_moved_nonterminal m to_distinct p.left y.left z.left e.left f.left) children
          (one_zip (IsFrom (IsMovedLocal m old new) (IsWrittenLocal n owner new))
          (one_from (IsMovedLocal m old new) (IsWrittenLocal n owner new) (one_moved_local m to_distinct old new locals_differ)
          (one_written_local n distinct owner new y.owner differ)) there y.locals z.locals e.locals
          (subst (λ k. AllZip (IsFrom (IsMovedLocal m old k) (IsWrittenLocal n owner k)) there z.locals) same f.locals))
          (same_option y.forward z.forward (one_zip (IsMovedForward m old new) (one_moved_forward m to_distinct old new locals_differ)
          (option_to_list p.forward) (option_to_list y.forward) (option_to_list z.forward) e.forward
          (subst (λ k. AllZip (IsMovedForward m old k) (option_to_list p.forward) (option_to_list z.forward)) same f.forward)))
          (one_zip (IsFrom (IsMovedEquation m old new) (IsWrittenEquation n owner new))
          (one_from (IsMovedEquation m old new) (IsWrittenEquation n owner new) (one_moved_equation m to_distinct old new locals_differ)
          (one_written_equation n distinct owner new y.owner differ)) moved y.equations z.equations e.equations
          (subst (λ k. AllZip (IsFrom (IsMovedEquation m old k) (IsWrittenEquation n owner k)) moved z.equations) same f.equations))
