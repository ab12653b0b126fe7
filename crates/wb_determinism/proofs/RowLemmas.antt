-- Lookaheads of the items of a closure against the envelope.
use Rattle.std.proofs.Common.{◌≡◌, ◌<◌, ◌≤◌, ◌∙◌, ℕ, Bool, List, Option, Some, None, length, refl, sym, subst, ap}
use Rattle.std.specs.Prelude.{Contains, slice_get}
use Rattle.std.specs.Option.{option_map}
use Rattle.std.proofs.lemmas.Option.{slice_get-map, same_Some, none-some}
use Rattle.wb_lemmas.proofs.Members.{contains_at, place_of}
use Rattle.wb_grammar_theory.specs.declared.item.Item.{Item}
use Rattle.wb_grammar_theory.specs.Closure.{InClosure}
use Rattle.wb_grammar_theory.specs.Lookaheads.{IsLookahead}
use Rattle.wb_grammar_theory.proofs.FlowLemmas.{same_back}
use Rattle.wb_grammar_theory.proofs.KernelLemmas.{kernel_decides}
use Rattle.wb_items.specs.declared.item_lookahead.ItemLookahead.{ItemLookahead}
use Rattle.wb_items.specs.Kernels.{KernelsView, AreKernels, count_of, prefix_of}
use Rattle.wb_items.specs.LookaheadSets.{AreLookaheads}
use Rattle.wb_items.specs.Lookaheads.{IsSetOf, LookaheadsView, items_in, row_of}
use Rattle.wb_lookahead.proofs.PassLemmas.{set_at}
use Rattle.wb_items.proofs.CallerLemmas.{row_has}
use Rattle.wb_lookahead.proofs.StepLemmas.{closure_at}
use Rattle.wb_termset.specs.Sets.{IsMember}
use Rattle.wb_determinism.specs.declared.context.Context.{Context}
use Rattle.wb_determinism.specs.Numbers.{item_up}
use Rattle.wb_determinism.specs.Inner.Contexts.{Allows, IsContext, both_of, host_of}
use Rattle.wb_determinism.specs.Inner.Envelopes.{IsEnvelopeRow, IsEnvelopeSet, IsRowFault, KeepsLooks, KeepsRow}
use Rattle.wb_determinism.proofs.ListLemmas.{EachBefore, before_all}

-- an item that a row has, has a set there
pub row_entry : (row : List ItemLookahead) (item : Item) → Contains (items_in row) item
    → (looks : ItemLookahead) × (n : ℕ) × (slice_get row n ≡ Some looks) × (looks.item ≡ item)
row_entry row item has =
    let (n, at) = place_of (items_in row) item has in by n at (slice_get row n) refl
  where
    by : (n : ℕ) → slice_get (items_in row) n ≡ Some item → (o : Option ItemLookahead) → slice_get row n ≡ o
        → (looks : ItemLookahead) × (n : ℕ) × (slice_get row n ≡ Some looks) × (looks.item ≡ item)
    by n at None is =
        absurd (none-some item (sym (ap (option_map (λ (l : ItemLookahead). l.item)) is)
        ∙ sym (slice_get-map (λ (l : ItemLookahead). l.item) row n) ∙ at))
    by n at (Some looks) is = (
      looks,
      n,
      is,
      same_Some looks.item item (sym (ap (option_map (λ (l : ItemLookahead). l.item)) is)
          ∙ sym (slice_get-map (λ (l : ItemLookahead). l.item) row n) ∙ at),
    )

-- an item with a lookahead is in the row of the kernel
pub lookahead_listed : (kernels : KernelsView) → AreKernels kernels → (lookaheads : LookaheadsView)
    → AreLookaheads kernels lookaheads
    → (s : ℕ) → s < count_of kernels → (item : Item) (t : ℕ) → IsLookahead kernels.grammar (prefix_of kernels s) item t
    → Contains (items_in (row_of lookaheads s)) item
lookahead_listed kernels exact lookaheads are s below item t (other, same, valid) =
    row_has exact lookaheads are.shape s item below (kernel_decides exact.live valid (prefix_of kernels s) (same_back same))

module _ (c : Context) (h : IsContext c) (s : ℕ) (below : s < count_of c.both.now) (own : List Item) (looks : ItemLookahead) where
  -- an item that the extended host doesn't have there has no lookahead
  pub keeps_absent : (shown : Item) → shown ≡ item_up c.numbers.now looks.item
      → ¬ Contains (items_in (row_of c.both_lookaheads.now s)) shown
      → KeepsLooks c own s looks.item
  keeps_absent shown is none t look =
      absurd (none (subst (Contains (items_in (row_of c.both_lookaheads.now s))) (sym is)
      (lookahead_listed c.both.now h.both c.both_lookaheads.now h.both_lookaheads s below (item_up c.numbers.now looks.item) t look)))

  -- the set of an item that it has
  pub keeps_set : (shown : Item) (set : List Bool) → shown ≡ item_up c.numbers.now looks.item → IsSetOf c.both_lookaheads.now s shown set
      → IsEnvelopeSet (host_of c) own looks → ((t : ℕ) → IsMember set t → Allows c.images.now looks.set t) → KeepsLooks c own s looks.item
  keeps_set shown set is set_is allowed all t look =
      let member = (h.both_lookaheads.exact s shown set t below set_is).1
      (subst (λ (i : Item). IsLookahead (both_of c) (prefix_of c.both.now s) i t) (sym is) look) in
      let (u, image, has) = all t member in
      (u, image, (allowed.each u).0 has)

  pub fault_set : (shown : Item) (set : List Bool) (t : ℕ) → shown ≡ item_up c.numbers.now looks.item
      → IsSetOf c.both_lookaheads.now s shown set
      → IsEnvelopeSet (host_of c) own looks → InClosure (host_of c) (Contains own) looks.item
      → IsMember set t × (¬ Allows c.images.now looks.set t) → IsRowFault c own s shown t
  fault_set shown set t is set_is allowed within (member, none) = record {
    item = looks.item;
    is = is;
    within = within;
    lookahead = (h.both_lookaheads.exact s shown set t below set_is).0 member;
    beyond = λ u image look. none (u, image, (allowed.each u).1 look);
  }

-- the set that was read at the place of an item is the item's
pub place_set : (kernels : KernelsView) → AreKernels kernels → (lookaheads : LookaheadsView) → AreLookaheads kernels lookaheads
    → (s : ℕ) → s < count_of kernels → (row : List ItemLookahead) → row ≡ row_of lookaheads s → (item : Item) (place : ℕ)
    → slice_get (items_in row) place ≡ Some item → (set : List Bool)
    → (looks : ItemLookahead) × (slice_get (row_of lookaheads s) place ≡ Some looks) × (set ≡ looks.set) → IsSetOf lookaheads s item set
place_set kernels exact lookaheads are s below row row_is item place here set (looks, at, is) =
    let there = subst (λ (r : List ItemLookahead). slice_get (items_in r) place ≡ Some item) row_is here in
    subst (IsSetOf lookaheads s item) (sym is)
    (set_at exact lookaheads are.shape s below item place (closure_at exact lookaheads are.shape s item place there) looks at)

-- what is kept of each entry of a row is kept of each item
pub keeps_row : (c : Context) (own : List Item) (s : ℕ) (row : List ItemLookahead) (n : ℕ) → IsEnvelopeRow (host_of c) own row
    → length row ≤ n
    → EachBefore (λ (looks : ItemLookahead). KeepsLooks c own s looks.item) row n → KeepsRow c own s
keeps_row c own s row n is past each item within =
    let (looks, j, at, same) = row_entry row item ((is.items item).1 within) in
    subst (KeepsLooks c own s) same
    (before_all (λ (l : ItemLookahead). KeepsLooks c own s l.item) row n past each looks (contains_at row looks j at))
