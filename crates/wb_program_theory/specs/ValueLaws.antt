-- What the law says of a host with extensions in two orders.
use Rattle.std.specs.Prelude.{ℕ, List, map}
use Rattle.wb_base.specs.Different.{Differ}
use Rattle.wb_compose_texts.specs.Written.{name_in}
use Rattle.wb_operations.specs.Operations.{OperationSignature, Operations}
use Rattle.wb_compose_theory_order.specs.Orders.{IsReordering}
use Rattle.wb_syntax_resolved.specs.declared.resolved.ResolvedParts.{ResolvedParts}
use Rattle.wb_compose_texts.specs.Roots.{HasNoRootAttribute, IsRootAttribute}
use Rattle.wb_compose_texts.specs.Values.{IsTextValue}
use Rattle.wb_compose_texts.specs.declared.value.TextValue.{TextValue}

-- the others are the extensions in another order, and the names of extensions differ
pub record AreInTwoOrders (extensions others : List ResolvedParts) (to from : ℕ → ℕ) : Type 0 where
  pub reordering : IsReordering to from extensions others
  pub names : Differ (map name_in extensions)

-- what comes of a text with the extensions comes of it with the others
abbrev pub HasSameValues : ResolvedParts → Operations → (extensions others : List ResolvedParts) → Type 0
HasSameValues host operations extensions others =
    (text name : List ℕ) (steps : ℕ) (value : TextValue) → IsTextValue host operations extensions text name steps value →
    IsTextValue host operations others text name steps value

-- where an attribute may be asked at the start by a name, one may be asked so with the others; where none may be, none may be there
pub record HasSameRoots (host : ResolvedParts) (operations : List OperationSignature) (extensions others : List ResolvedParts) : Type 0
  where
    pub some : (name : List ℕ) (attribute : ℕ) → IsRootAttribute host operations extensions name attribute →
        (other : ℕ) × IsRootAttribute host operations others name other
    pub none : (name : List ℕ) → HasNoRootAttribute host operations extensions name → HasNoRootAttribute host operations others name
