-- Items of the host with an extension as the host's, and what a search of the host finds.
use Rattle.std.proofs.Common.{◌≡◌, ◌≢◌, ◌<◌, ◌∙◌, ◌∷◌, [], List, ℕ, Some, map, refl, sym, ap, subst}
use Rattle.std.specs.Prelude.{◌↔◌, Contains, IfSome, IsNone, MatchOption, None, Option, slice_get}
use Rattle.wb_lemmas.proofs.Members.{contains_at}
use Rattle.wb_base.specs.declared.symbol.Symbol.{Symbol}
use Rattle.wb_grammar_theory.specs.declared.item.Item.{Item}
use Rattle.wb_grammar_theory.specs.Items.{IsViablePrefix}
use Rattle.wb_items.specs.Kernels.{KernelsView, ListsKernel, count_of, prefix_of}
use Rattle.wb_compose_theory.specs.Renamings.{renamed_item}
use Rattle.wb_determinism_kernels.specs.declared.numbers.Numbers.{Numbers}
use Rattle.wb_determinism_kernels.specs.Numbers.{up_by}
use Rattle.wb_determinism_kernels.specs.Inner.Growing.{IsHostNumber, IsNoHostKernel}
use Rattle.wb_determinism_kernels.proofs.NumberLemmas.{contains_map, lift_once}

-- no two items become one
pub renamed_once : (m : Numbers) (a b : Item) → renamed_item (up_by m) a ≡ renamed_item (up_by m) b → a ≡ b
renamed_once m a b same =
    let production = lift_once m.productions.own m.productions.more a.production b.production (ap (λ (i : Item). i.production) same) in
    let dot = ap (λ (i : Item). i.dot) same in
    (λ j. record { production = production j; dot = dot j })

first_same : (a b : Item) (more others : List Item) → a ∷ more ≡ b ∷ others → a ≡ b
first_same a b more others e = cc

rest_same : (a b : Item) (more others : List Item) → a ∷ more ≡ b ∷ others → more ≡ others
rest_same a b more others e = cc

-- no two lists
pub map_once : (m : Numbers) (one other : List Item) → map (renamed_item (up_by m)) one ≡ map (renamed_item (up_by m)) other → one ≡ other
map_once m [] [] e = refl
map_once m [] (b ∷ others) e = cc
map_once m (a ∷ more) [] e = cc
map_once m (a ∷ more) (b ∷ others) e =
    let f = renamed_once m a b (first_same (renamed_item (up_by m) a) (renamed_item (up_by m) b) (map (renamed_item (up_by m)) more)
    (map (renamed_item (up_by m)) others) e) in
    let r = map_once m more others (rest_same (renamed_item (up_by m) a) (renamed_item (up_by m) b) (map (renamed_item (up_by m)) more)
    (map (renamed_item (up_by m)) others) e) in
    (λ i. f i ∷ r i)

-- one item that isn't the host's
pub not_down : (m : Numbers) (items : List Item) (n : ℕ) (item : Item) → slice_get items n ≡ Some item →
    ((own : Item) → item ≢ renamed_item (up_by m) own) → (own : List Item) → ¬ (map (renamed_item (up_by m)) own ≡ items)
not_down m items n item at foreign own is =
    let (i, i_is, there) = contains_map (renamed_item (up_by m)) own item
    (subst (λ c. Contains c item) (sym is) (contains_at items item n at)) in
    foreign i i_is

-- what a search of the host finds
pub found_host : (host : KernelsView) (m : Numbers) (items own : List Item) → map (renamed_item (up_by m)) own ≡ items → (r : Option ℕ) →
    IfSome r (λ n. (n < count_of host) × ListsKernel host.grammar (prefix_of host n) own) →
    IsNone r ↔ ((prefix : List Symbol) → IsViablePrefix host.grammar prefix → ¬ ListsKernel host.grammar prefix own) →
    MatchOption r (IsNoHostKernel host (up_by m) items) (IsHostNumber host (up_by m) items)
found_host host m items own is None some none = λ own' prefix is' viable lists. none.0 refl prefix viable
    (subst (ListsKernel host.grammar prefix) (map_once m own' own (is' ∙ sym is)) lists)
found_host host m items own is (Some n) some none = record { own = own; are = is; below = some.0; lists = some.1 }
