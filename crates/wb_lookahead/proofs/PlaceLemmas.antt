-- The set at a place of a kernel.
use Rattle.std.proofs.Common.{◌≡◌, ℕ, ◌+◌, ◌<◌, Bool, List, length, Some, sym, ◌∙◌, subst}
use Rattle.std.specs.Prelude.{slice_get}
use Rattle.wb_lemmas.proofs.Members.{contains_at}
use Rattle.wb_base.specs.Grammar.{GrammarView}
use Rattle.wb_termset.specs.Sets.{IsMember}
use Rattle.wb_grammar_theory.specs.declared.item.Item.{Item}
use Rattle.wb_grammar_theory.specs.Items.{HasItem}
use Rattle.wb_items.specs.declared.item_lookahead.ItemLookahead.{ItemLookahead}
use Rattle.wb_items.specs.Kernels.{KernelsView, AreKernels, closure_of, count_of, prefix_of}
use Rattle.wb_items.specs.Lookaheads.{AreLookaheadsOf, IsSetOf, Lists, LookaheadsView, row_of}
use Rattle.wb_items.specs.Table.{AreProductions, AreProductionsOf}
use Rattle.wb_lookahead.specs.declared.worklist.Place.{Place}
use Rattle.wb_lookahead.specs.Inner.Spreading.{IsPlace}
use Rattle.wb_lookahead.proofs.PassLemmas.{set_at}
use Rattle.wb_items.proofs.CallerLemmas.{set_once, set_wide}

-- the item of a place is one of its prefix
pub place_has : {kernels : KernelsView} → AreKernels kernels → (place : Place) → IsPlace kernels place →
    HasItem kernels.grammar (prefix_of kernels place.state) place.item
place_has {kernels} h place p = (h.closures place.state p.state place.item).0
    (contains_at (closure_of kernels place.state) place.item place.at p.here)

-- what was read at a place is the set of its item
pub held : {kernels : KernelsView} → AreKernels kernels → (lookaheads : LookaheadsView) → AreLookaheadsOf kernels lookaheads →
    (place : Place) → IsPlace kernels place →
    (r set : List Bool) → (looks : ItemLookahead) × (slice_get (row_of lookaheads place.state) place.at ≡ Some looks) × (r ≡ looks.set) →
    set ≡ r →
    IsSetOf lookaheads place.state place.item set
held h lookaheads shape place p r set (looks, there, is) set_is =
    subst (IsSetOf lookaheads place.state place.item) (sym (set_is ∙ is))
    (set_at h lookaheads shape place.state p.state place.item place.at p.here looks there)

-- a set of an item has room for the terminals and the end
pub held_len : {kernels : KernelsView} → AreKernels kernels → (lookaheads : LookaheadsView) →
    AreLookaheadsOf kernels lookaheads → (s : ℕ) → s < count_of kernels → (item : Item)
    (set : List Bool) → IsSetOf lookaheads s item set → length set ≡ kernels.grammar.terminals + 1
held_len h lookaheads shape s lt item set is = set_wide h lookaheads shape s item set is

-- what is listed at an item is in its set
pub listed_held : {kernels : KernelsView} → AreKernels kernels → (lookaheads : LookaheadsView) →
    AreLookaheadsOf kernels lookaheads → (s : ℕ) → s < count_of kernels → (item : Item)
    (set : List Bool) → IsSetOf lookaheads s item set → (t : ℕ) → Lists lookaheads s item t → IsMember set t
listed_held h lookaheads shape s lt item set is t (other, there, has) = subst (λ z. IsMember z t)
    (set_once h lookaheads shape s item other set there is) has

-- the productions of a nonterminal, by the grammar of the kernels
pub productions_here : (kernels : KernelsView) {g : GrammarView} → kernels.grammar ≡ g → (rows : List (List ℕ)) → AreProductions g rows →
    (b : ℕ) (numbers : List ℕ) →
    slice_get rows b ≡ Some numbers → AreProductionsOf kernels.grammar b numbers
productions_here kernels same rows are b numbers at = subst (λ z. AreProductionsOf z b numbers) (sym same) (are.each b numbers at)
