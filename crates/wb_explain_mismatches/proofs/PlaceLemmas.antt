-- The kind of what is at a place of a production, and of an attribute.
use Rattle.std.proofs.Common.{◌≡◌, ◌<◌, ℕ, List, Some, length, get_or, sym, ap, ◌∙◌, slice_get}
use Rattle.std.specs.Option.{option_map}
use Rattle.std.proofs.lemmas.Option.{slice_get-get_or}
use Rattle.wb_base.specs.declared.symbol.Kind.TheVariants as kind
use Rattle.wb_syntax_resolved.specs.declared.equation.Place.{Place}
use Rattle.wb_syntax_resolved.specs.declared.equation.Place.TheVariants as p
use Rattle.wb_syntax_resolved.specs.declared.production.Child.{Child}
use Rattle.wb_syntax_resolved.specs.declared.production.ChildKind.TheVariants as child
use Rattle.wb_syntax_resolved.specs.declared.production.Local.{Local}
use Rattle.wb_syntax_resolved.specs.declared.production.Production.{Production}
use Rattle.wb_syntax_resolved.specs.Visible.{kind_at}

-- a field of what is in a list is that of what is read there
pub map_at : {X Y : Type 0} (f : X → Y) (xs ys : List X) (i : ℕ) (d : X) → ys ≡ xs → i < length ys
    → option_map f (slice_get xs i) ≡ Some (f (get_or ys i d))
map_at f xs ys i d same within =
    ap (λ (zs : List _). option_map f (slice_get zs i)) (sym same) ∙ ap (option_map f) (slice_get-get_or ys i d within)

-- a child of a production
pub child_is : (production : Production) (place : Place) (number : ℕ) → place ≡ p.Child number
    → kind_at production place ≡ option_map (λ (c : Child). c.kind) (slice_get production.children number)
child_is production place number is = ap (kind_at production) is

-- a local of a production
pub local_is : (production : Production) (place : Place) (number : ℕ) → place ≡ p.Local number
    → kind_at production place ≡ option_map (λ (l : Local). child.Value (kind.Tree l.nonterminal)) (slice_get production.locals number)
local_is production place number is = ap (kind_at production) is
