-- A store with one node more.
use Rattle.std.proofs.Common.{◌≡◌, ℕ, suc, ◌+◌, ◌-◌, ◌^◌, ◌<◌, reverse, List, [], ◌∷◌, ◌++◌, length, All, sym, subst, ap, ◌∙◌, arith, length-append}
use Rattle.wb_values.specs.Tree.{Tree, node}
use Rattle.wb_values.specs.ValuesIn.{values_in, IsIn}
use Rattle.wb_values.specs.declared.value.Value.{Value}
use Rattle.wb_values.specs.declared.node.Node.{Node}
use Rattle.wb_values.specs.declared.layout.Layout.{Layout}
use Rattle.wb_values.specs.InPlace.{children_after, children_back, LieInPlace, IsSized}
use Rattle.wb_values.specs.Trees.{trees_of, IsStore}
use Rattle.wb_values.specs.Inner.Layouts.{IsWhole}
use Rattle.wb_values.proofs.Laid.{length-trees, trees-snoc, store-snoc}

-- the node of a production over children that were laid
pub record IsOver (ns : List Node) (listed : List Value) (production : ℕ) (layout : Layout) (n : Node) : Type 0 where
  pub production_is : n.production ≡ production
  pub size_is : n.size ≡ suc (length ns) - layout.top
  pub end_is : n.end ≡ length listed
  pub inner_is : n.inner ≡ layout.digits

module _ (trees : List Tree) (ns : List Node) (vs listed children : List Value) (production : ℕ) (layout : Layout) (n : Node)
    (s : IsStore ns vs) (shown : trees_of ns vs ≡ trees) (w : IsWhole ns vs listed children layout)
    (over : IsOver ns listed production layout n) where
  same_children : children_after ns n w.others ≡ children
  same_children =
      ap (λ (d : ℕ). reverse (children_back 32 ns d (length ns) w.others)) over.inner_is
      ∙ w.stands

  ends : n.end ≡ length vs + length w.others
  ends = over.end_is ∙ ap length w.listed_are ∙ length-append vs w.others

  -- is a store
  pub built_store : All (IsIn (length trees)) children → IsStore (ns ++ n ∷ []) listed
  built_store below =
      let counted : length trees ≡ length ns = sym (ap length shown) ∙ length-trees ns vs in
      let sized : IsSized ns n = record {
        digits = subst (λ (d : ℕ). d < 2 ^ 32) (sym over.inner_is) w.digits;
        first = layout.top;
        inside = w.top;
        size = omega (arith, over.size_is, w.top);
        in_place = subst (λ (d : ℕ). LieInPlace 32 ns d (length ns) layout.top) (sym over.inner_is) w.lies;
      } in
      let lower : All (IsIn (length ns)) (children_after ns n w.others) =
      subst (All (IsIn (length ns))) (sym same_children) (subst (λ (k : ℕ). All (IsIn k) children) counted below) in
      subst (IsStore (ns ++ n ∷ [])) (sym w.listed_are) (store-snoc ns vs w.others n s ends sized lower)

  -- of one tree more
  pub built_trees : trees_of (ns ++ n ∷ []) listed ≡ trees ++ node production (values_in trees children) ∷ []
  built_trees =
      ap (trees_of (ns ++ n ∷ [])) w.listed_are ∙ trees-snoc ns vs w.others n s ends
      ∙ ap (λ (ts : List Tree). ts ++ node n.production (values_in ts (children_after ns n w.others)) ∷ []) shown
      ∙ ap (λ (xs : List Value). trees ++ node n.production (values_in trees xs) ∷ []) same_children
      ∙ ap (λ (p : ℕ). trees ++ node p (values_in trees children) ∷ []) over.production_is
