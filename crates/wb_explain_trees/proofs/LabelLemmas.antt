-- What is shown of a node or a leaf, from its parts.
use Rattle.std.proofs.Common.{◌≡◌, ◌≤◌, ◌<◌, ◌∙◌, ◌⊎◌, inl, inr, ℕ, List, Some, None, ap, sym, arith, length, get_or, slice_get}
use Rattle.std.proofs.lemmas.Option.{slice_get_cases}
use Rattle.wb_session.specs.declared.place.LeafPlace.{LeafPlace}
use Rattle.wb_explain_drawing.specs.Reached.{IsReached}
use Rattle.wb_explain_drawing.specs.declared.cursor.Cursor.{Cursor}
use Rattle.wb_explain_drawing.specs.declared.items.Item.{Item}
use Rattle.wb_explain_trees.specs.Labels.{IsLabel, IsNameOf, View, begin_at, begin_or}

-- where a leaf begins that is there
pub begins_there : (places : List LeafPlace) (end leaf : ℕ) (place : LeafPlace) → slice_get places leaf ≡ Some place
    → place.begin ≡ begin_or end (slice_get places leaf)
begins_there places end leaf place is = sym (ap (begin_or end) is)

-- the end of the text, where there are not so many leaves
pub begins_nowhere : (places : List LeafPlace) (end leaf : ℕ) → length places ≤ leaf → end ≡ begin_or end (slice_get places leaf)
begins_nowhere places end leaf past = sym (ap (begin_or end) (none_there (slice_get_cases places leaf).1))
  where
    none_there : (((x : LeafPlace) × (leaf < length places) × (slice_get places leaf ≡ Some x) × (get_or places leaf x ≡ x))
        ⊎ ((length places ≤ leaf) × (slice_get places leaf ≡ None))) → slice_get places leaf ≡ None
    none_there (inl (x, within, is, same)) = absurd (omega (arith, within, past))
    none_there (inr (out, is)) = is

-- a label, from the name and from where it begins
pub is_label : (view : View) (item : Item) (name : List ℕ) (before cursor : Cursor) (to : ℕ) → IsNameOf view item.part item.leaf name
    → to ≡ begin_at view item.leaf → before.at ≤ to → (before.at ≤ to → cursor.at ≡ to) → IsReached view.text cursor
    → IsLabel view item name cursor
is_label view item name before cursor to named is low at reached = record { named = named; at = at low ∙ is; reached = reached }
