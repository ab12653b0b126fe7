-- The kind of what is at a place of a production, and of an attribute.
use Rattle.std.proofs.Common.{◌≡◌, ◌<◌, ◌≤◌, ◌↔◌, ℕ, List, Option, Some, None, length, get_or, sym, ap, ◌∙◌, slice_get}
use Rattle.std.proofs.Common.{◌⊎◌, inl, inr, subst}
use Rattle.std.specs.Option.{option_map}
use Rattle.std.proofs.lemmas.Option.{slice_get-get_or, slice_get_past}
use Rattle.wb_base.specs.declared.symbol.Kind.{Kind}
use Rattle.wb_base.specs.declared.symbol.Kind.TheVariants as kind
use Rattle.wb_syntax_resolved.specs.declared.equation.Place.{Place}
use Rattle.wb_syntax_resolved.specs.declared.equation.Place.TheVariants as p
use Rattle.wb_syntax_resolved.specs.declared.production.Child.{Child}
use Rattle.wb_syntax_resolved.specs.declared.production.ChildKind.{ChildKind}
use Rattle.wb_syntax_resolved.specs.declared.production.ChildKind.TheVariants as child
use Rattle.wb_syntax_resolved.specs.declared.production.Local.{Local}
use Rattle.wb_syntax_resolved.specs.declared.production.Production.{Production}
use Rattle.wb_syntax_resolved.specs.declared.attribution.AttributionParts.{AttributionParts}
use Rattle.wb_syntax_resolved.specs.declared.equation.Target.{Target}
use Rattle.wb_syntax_resolved.specs.declared.equation.Target.TheVariants as t
use Rattle.wb_syntax_resolved.specs.Visible.{kind_at}
use Rattle.wb_types.specs.Expected.{attribute_of}
use Rattle.wb_types.specs.Kinds.{IsAttributeKind}

-- a field of what is in a list is that of what is read there
pub map_at : {X Y : Type 0} (f : X → Y) (xs ys : List X) (i : ℕ) (d : X) → ys ≡ xs → i < length ys
    → option_map f (slice_get xs i) ≡ Some (f (get_or ys i d))
map_at f xs ys i d same within =
    ap (λ (zs : List _). option_map f (slice_get zs i)) (sym same) ∙ ap (option_map f) (slice_get-get_or ys i d within)

-- past its end there is none
pub map_past : {X Y : Type 0} (f : X → Y) (xs ys : List X) (i : ℕ) → ys ≡ xs → length ys ≤ i → option_map f (slice_get xs i) ≡ None
map_past f xs ys i same past =
    ap (λ (zs : List _). option_map f (slice_get zs i)) (sym same) ∙ ap (option_map f) (slice_get_past ys i past)

-- where nothing is there, no kind is
pub nothing_exact : {X : Type 0} (there : Option X) (f : Kind → X) → there ≡ None → (is : Kind) → (None ≡ Some is) ↔ (there ≡ Some (f is))
nothing_exact there f none is = (λ e. absurd (cc e), λ e. absurd (let bad : None ≡ Some (f is) = sym none ∙ e in cc))

-- a terminal is of no kind
pub terminal_exact : (there : Option ChildKind) (terminal : ℕ) → there ≡ Some (child.Terminal terminal) → (is : Kind)
    → (None ≡ Some is) ↔ (there ≡ Some (child.Value is))
terminal_exact there terminal same is = (
  λ e. absurd (cc e),
  λ e. absurd (let bad : Some (child.Terminal terminal) ≡ Some (child.Value is) = sym same ∙ e in cc),
)

-- a value is of its kind alone
pub value_exact : (there : Option ChildKind) (found : Kind) → there ≡ Some (child.Value found) → (is : Kind)
    → (Some found ≡ Some is) ↔ (there ≡ Some (child.Value is))
value_exact there found same is = (
  λ e. let one : found ≡ is = cc e in same ∙ ap (λ z. Some (child.Value z)) one,
  λ e. let bad : Some (child.Value found) ≡ Some (child.Value is) = sym same ∙ e in let one : found ≡ is = cc in ap Some one,
)

-- a child of a production
pub child_is : (production : Production) (place : Place) (number : ℕ) → place ≡ p.Child number
    → kind_at production place ≡ option_map (λ (c : Child). c.kind) (slice_get production.children number)
child_is production place number is = ap (kind_at production) is

-- a local of a production
pub local_is : (production : Production) (place : Place) (number : ℕ) → place ≡ p.Local number
    → kind_at production place ≡ option_map (λ (l : Local). child.Value (kind.Tree l.nonterminal)) (slice_get production.locals number)
local_is production place number is = ap (kind_at production) is

-- what is the kind of the attribute of a target is so whatever the target
pub of_target : (a : AttributionParts) (target : Target) (attribute : ℕ) (r : Option Kind)
    → ((target ≡ t.Top attribute) ⊎ (((at : Place) × (target ≡ t.Place at attribute)) ⊎ (target ≡ t.Forward attribute)))
    → ((is : Kind) → (r ≡ Some is) ↔ IsAttributeKind a attribute is)
    → (is : Kind) → (r ≡ Some is) ↔ IsAttributeKind a (attribute_of target) is
of_target a target attribute r (inl e) exact is = subst (λ z. (r ≡ Some is) ↔ IsAttributeKind a (attribute_of z) is) (sym e) (exact is)
of_target a target attribute r (inr (inl (at, e))) exact is =
    subst (λ z. (r ≡ Some is) ↔ IsAttributeKind a (attribute_of z) is) (sym e) (exact is)
of_target a target attribute r (inr (inr e)) exact is =
    subst (λ z. (r ≡ Some is) ↔ IsAttributeKind a (attribute_of z) is) (sym e) (exact is)
