-- The trees of a production, position by position.
use Rattle.std.proofs.Common.{◌≡◌, ◌∙◌, ◌⊎◌, [], inl, inr, ℕ, List, Option, None, Some, length, refl, sym}
use Rattle.std.proofs.Common.{ap, subst, get_or, slice_get, option_map, Contains, ◌<◌, ◌≤◌}
use Rattle.std.specs.Prelude.{◌↔◌}
use Rattle.std.proofs.lemmas.Option.{same_Some, slice_get_within, slice_get-get_or, slice_get_past}
use Rattle.wb_flow.specs.declared.positions.Position.{Position}
use Rattle.wb_flow.specs.declared.positions.Position.TheVariants as p
use Rattle.wb_flow.specs.declared.positions.TreeAt.{TreeAt}
use Rattle.wb_flow.specs.Inner.Adding.{SomeBelow}
use Rattle.wb_flow.specs.Adding.{Adds}
use Rattle.wb_flow.specs.Inner.Positions.{nonterminal_at, child_nonterminal, kind_nonterminal, HasTree, IsTreeOf}
use Rattle.wb_flow.proofs.AddingLemmas.{adds_both, adds_to_nothing}
use Rattle.wb_syntax_resolved.specs.declared.production.Child.{Child}
use Rattle.wb_syntax_resolved.specs.declared.production.Local.{Local}
use Rattle.wb_syntax_resolved.specs.declared.production.Production.{Production}

abbrev pub tree : Position → ℕ → TreeAt
tree position n = record { position = position; nonterminal = n }

-- the tree at a position is the one of its nonterminal
pub tree_one : (production : Production) (position : Position) (n : ℕ) → nonterminal_at production position ≡ Some n → (t : TreeAt)
    → (t ≡ tree position n) ↔ IsTreeOf production position t
tree_one production position n at t = (
  (λ same. subst (IsTreeOf production position) (sym same) (refl, at)),
  (λ (same, there).
      let left = ap (λ z. tree z t.nonterminal) same in
      let number = same_Some t.nonterminal n (sym there ∙ ap (nonterminal_at production) same ∙ at) in
      left ∙ ap (tree position) number),
)

-- what maps to something is there
some_mapped : {X Y : Type 0} (f : X → Y) (o : Option X) (y : Y) → option_map f o ≡ Some y → (x : X) × (o ≡ Some x)
some_mapped f None y is = absurd (cc is)
some_mapped f (Some x) y is = (x, refl)

some_child : (o : Option Child) (n : ℕ) → kind_nonterminal o ≡ Some n → (c : Child) × (o ≡ Some c)
some_child None n is = absurd (cc is)
some_child (Some c) n is = (c, refl)

module _ (production : Production) where
  -- a tree is at the top, at a child, at a local, or where the production forwards
  abbrev IsSomeTree : TreeAt → Type 0
  IsSomeTree t = ((IsTreeOf production p.Top t ⊎ SomeBelow (length production.children) (λ k. IsTreeOf production (p.Child k)) t)
      ⊎ SomeBelow (length production.locals) (λ k. IsTreeOf production (p.Local k)) t) ⊎ IsTreeOf production p.Forward t

  at_position : (position : Position) (n : ℕ) → nonterminal_at production position ≡ Some n → IsSomeTree (tree position n)
  at_position p.Top n at = inl (inl (inl (refl, at)))
  at_position (p.Child k) n at =
      let (c, there) = some_child (slice_get production.children k) n at in
      inl (inl (inr (k, slice_get_within production.children k c there, (refl, at))))
  at_position (p.Local k) n at =
      let (l, there) = some_mapped (λ (z : Local). z.nonterminal) (slice_get production.locals k) n at in
      inl (inr (k, slice_get_within production.locals k l there, (refl, at)))
  at_position p.Forward n at = inr (refl, at)

  has_tree : (t : TreeAt) → IsSomeTree t → HasTree production t
  has_tree t (inl (inl (inl is))) = is.1
  has_tree t (inl (inl (inr (k, lt, is)))) = is.1
  has_tree t (inl (inr (k, lt, is))) = is.1
  has_tree t (inr is) = is.1

  pub all_trees : (ts us vs ws : List TreeAt) → Adds [] ts (IsTreeOf production p.Top)
      → Adds ts us (SomeBelow (length production.children) (λ k. IsTreeOf production (p.Child k)))
      → Adds us vs (SomeBelow (length production.locals) (λ k. IsTreeOf production (p.Local k)))
      → Adds vs ws (IsTreeOf production p.Forward) → (t : TreeAt) → Contains ws t ↔ HasTree production t
  all_trees ts us vs ws top children locals forward t =
      let two = adds_both [] ts us (IsTreeOf production p.Top)
      (SomeBelow (length production.children) (λ k. IsTreeOf production (p.Child k))) top children in
      let three = adds_both [] us vs
      (λ z. IsTreeOf production p.Top z ⊎ SomeBelow (length production.children) (λ k. IsTreeOf production (p.Child k)) z)
      (SomeBelow (length production.locals) (λ k. IsTreeOf production (p.Local k))) two locals in
      let four = adds_both [] vs ws
      (λ z. (IsTreeOf production p.Top z ⊎ SomeBelow (length production.children) (λ k. IsTreeOf production (p.Child k)) z)
      ⊎ SomeBelow (length production.locals) (λ k. IsTreeOf production (p.Local k)) z) (IsTreeOf production p.Forward) three forward in
      let all = adds_to_nothing ws IsSomeTree four t in
      ((λ has. has_tree t (all.0 has)), (λ there. all.1 (at_position t.position t.nonterminal there)))

module _ (production : Production) (k : ℕ) where
  -- the nonterminal of a child that is read, and that there is none past the last
  module _ (slice : List Child) (same : slice ≡ production.children) where
    pub child_at : (d : Child) → k < length slice → child_nonterminal (get_or slice k d).kind ≡ nonterminal_at production (p.Child k)
    child_at d within =
        ap kind_nonterminal (sym (subst (λ (z : List Child). slice_get z k ≡ Some (get_or slice k d)) same (slice_get-get_or slice k d
        within)))

    pub no_child : length slice ≤ k → None ≡ nonterminal_at production (p.Child k)
    no_child past =
        ap kind_nonterminal (sym (subst (λ (z : List Child). slice_get z k ≡ None) same (slice_get_past slice k past)))

  -- the same of locals
  module _ (slice : List Local) (same : slice ≡ production.locals) where
    pub local_at : (d : Local) → k < length slice → Some (get_or slice k d).nonterminal ≡ nonterminal_at production (p.Local k)
    local_at d within =
        ap (option_map (λ (l : Local). l.nonterminal))
        (sym (subst (λ (z : List Local). slice_get z k ≡ Some (get_or slice k d)) same (slice_get-get_or slice k d within)))

    pub no_local : length slice ≤ k → None ≡ nonterminal_at production (p.Local k)
    no_local past =
        ap (option_map (λ (l : Local). l.nonterminal))
        (sym (subst (λ (z : List Local). slice_get z k ≡ None) same (slice_get_past slice k past)))
