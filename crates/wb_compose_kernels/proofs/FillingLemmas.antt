-- What loops and calls keep while the sets of a union are filled.
use Rattle.std.proofs.Common.{◌+◌, ◌<◌, ◌∙◌, ◌≡◌, Bool, List, inl, inr, length, map, subst, sym, ℕ, Some}
use Rattle.std.specs.Prelude.{◌↔◌, Contains, slice_get}
use Rattle.wb_lemmas.proofs.Places.{at_once}
use Rattle.wb_base.specs.declared.symbol.Symbol.{Symbol}
use Rattle.wb_base.specs.Grammar.{GrammarView}
use Rattle.wb_termset.specs.Sets.{IsMember}
use Rattle.wb_grammar_theory.specs.declared.item.Item.{Item}
use Rattle.wb_grammar_theory.specs.Items.{HasItem, IsKernelItem}
use Rattle.wb_grammar_theory.specs.Lookaheads.{IsLookahead}
use Rattle.wb_items.proofs.CallerLemmas.{empty_lists, has_number, lists_together, number_of, set_once}
use Rattle.wb_items.proofs.RowLemmas.{set_number}
use Rattle.wb_items.specs.Kernels.{KernelsView, ListsKernel, count_of, prefix_of}
use Rattle.wb_items.specs.Lookaheads.{AreEmpty, IsSetOf, Lists, LookaheadsView}
use Rattle.wb_items.specs.LookaheadSets.{AreLookaheads}
use Rattle.wb_compose_theory.specs.Homes.{Home, IsListed, of, of_host}
use Rattle.wb_compose_theory.specs.Renamings.{renamed_item}
use Rattle.wb_compose_theory_grammar.specs.UnitedWorlds.{united}
use Rattle.wb_compose_theory_kernels.proofs.NumberLemmas.{taken_no_hole}
use Rattle.wb_compose_theory_kernels.specs.Kernels.{HasNoHole}
use Rattle.wb_compose_theory_kernels.specs.Parts.{grammar_at}
use Rattle.wb_compose_kernels.proofs.GainLemmas.{gains_as, gains_both}
use Rattle.wb_compose_kernels.proofs.ListLemmas.{list_exact}
use Rattle.wb_compose_kernels.proofs.LookLemmas.{IsGain, gain_complete, gain_sound}
use Rattle.wb_compose_kernels.proofs.OpenedLemmas.{has_together, looks_together, together_back}
use Rattle.wb_compose_kernels.proofs.PartLemmas.{has_part, kernel_numbers, new_kernel, new_taken, part_less}
use Rattle.wb_compose_kernels.specs.declared.blocks.Blocks.{Blocks}
use Rattle.wb_compose_kernels.specs.declared.filling.Filling.{Filling}
use Rattle.wb_compose_kernels.specs.declared.splice.Part.{Part}
use Rattle.wb_compose_kernels.specs.Lent.{AreSpliceable}
use Rattle.wb_compose_kernels.specs.Inner.Counts.{new_count_at, numbers_in, prefix_at}
use Rattle.wb_compose_kernels.specs.Inner.Blocks.{HasHoleItem, IsHoleBy, blocks_at, names_by}
use Rattle.wb_compose_kernels.specs.Inner.Filling.{Gains, IsFilling, IsHostGain, IsMaking, IsNumberBy}
use Rattle.wb_compose_kernels.specs.Inner.Filling.{IsNumberOf, IsOfList, IsOfNoList, IsPartGain}

module _ (f : Filling) (h : IsFilling f) where
  abbrev ok : AreSpliceable f.splice.now
  ok = h.given.spliceable

  abbrev kernels : KernelsView
  kernels = f.kernels.now

  abbrev all : GrammarView
  all = united f.splice.now.host.now ok.extensible ok.pieces

  -- kernels of the union, in either words
  there : (prefix : List Symbol) (item : Item) → IsKernelItem all prefix item → IsKernelItem kernels.grammar prefix item
  there prefix item = subst (λ (z : GrammarView). IsKernelItem z prefix item → IsKernelItem kernels.grammar prefix item)
      (h.of_union ∙ ok.union_is) (λ x. x)

  back : (prefix : List Symbol) (item : Item) → IsKernelItem kernels.grammar prefix item → IsKernelItem all prefix item
  back prefix item = subst (λ (z : GrammarView). IsKernelItem kernels.grammar prefix item → IsKernelItem z prefix item)
      (h.of_union ∙ ok.union_is) (λ x. x)

  -- a kernel of the union with the items of a list in its numbers is that of the certified grammar
  list_number : (home : Home) → IsListed (length ok.pieces) home → (k u : ℕ) (names : Blocks) (kernel : List Item) →
      names ≡ blocks_at f.splice.now ok home →
      ((item : Item) → Contains kernel item ↔ IsKernelItem (grammar_at f.splice.now.host.now ok.extensible ok.pieces home)
      (prefix_at f.splice.now home k) item) →
      HasNoHole f.splice.now.host.now ok.extensible ok.pieces home (prefix_at f.splice.now home k) →
      IsOfList kernels (map (renamed_item (names_by names)) kernel) u → IsNumberOf f h home k u
  list_number home listed k u names kernel names_are exact free (lt, lists) = (
    lt,
    record {
      listed = listed;
      no_hole = free;
      items = λ item. (
        λ has. (list_exact f.splice.now ok home k kernel exact item).0 ((here item).1 (there (prefix_of kernels u) item has)),
        λ from. back (prefix_of kernels u) item ((here item).0 ((list_exact f.splice.now ok home k kernel exact item).1 from)),
      );
    },
  )
    where
      here : (item : Item) → Contains (map (renamed_item (names_by (blocks_at f.splice.now ok home))) kernel) item ↔
          IsKernelItem kernels.grammar (prefix_of kernels u) item
      here = subst (λ (z : Blocks). ListsKernel kernels.grammar (prefix_of kernels u) (map (renamed_item (names_by z)) kernel)) names_are
          lists

  -- where the union has no kernel with these items, it has no number for it
  list_no_number : (home : Home) (k : ℕ) (names : Blocks) (kernel : List Item) → names ≡ blocks_at f.splice.now ok home →
      ((item : Item) → Contains kernel item ↔ IsKernelItem (grammar_at f.splice.now.host.now ok.extensible ok.pieces home)
      (prefix_at f.splice.now home k) item) →
      IsOfNoList kernels (map (renamed_item (names_by names)) kernel) → (u : ℕ) → ¬ IsNumberOf f h home k u
  list_no_number home k names kernel names_are exact none u (lt, kernel_of) =
      none (prefix_of kernels u) (h.kernels.states.prefixes u lt)
      (subst (λ (z : Blocks). ListsKernel kernels.grammar (prefix_of kernels u) (map (renamed_item (names_by z)) kernel)) (sym names_are)
      (λ item. (
        λ has. there (prefix_of kernels u) item ((kernel_of.items item).1 ((list_exact f.splice.now ok home k kernel exact item).0 has)),
        λ has. (list_exact f.splice.now ok home k kernel exact item).1 ((kernel_of.items item).0 (back (prefix_of kernels u) item has)),
      )))

  host_exact : (k : ℕ) (kernel : List Item) → ListsKernel f.splice.now.kernels.now.grammar (prefix_of f.splice.now.kernels.now k) kernel →
      (item : Item) → Contains kernel item ↔ IsKernelItem (grammar_at f.splice.now.host.now ok.extensible ok.pieces of_host)
      (prefix_of f.splice.now.kernels.now k) item
  host_exact k kernel lists =
      subst (λ (z : GrammarView). ListsKernel z (prefix_of f.splice.now.kernels.now k) kernel) ok.of_host lists

  host_free : (k : ℕ) (kernel : List Item) → ListsKernel f.splice.now.kernels.now.grammar (prefix_of f.splice.now.kernels.now k) kernel →
      ¬ HasHoleItem f.host.productions kernel →
      HasNoHole f.splice.now.host.now ok.extensible ok.pieces of_host (prefix_of f.splice.now.kernels.now k)
  host_free k kernel lists free item at hole = free (
    item,
    (host_exact k kernel lists item).1 at,
    subst (λ (z : Blocks). IsHoleBy z.productions item.production) (sym (h.host ok)) hole,
  )

  -- the number of a kernel of the host
  pub host_of_list : (k u : ℕ) (kernel : List Item) → k < count_of f.splice.now.kernels.now →
      ListsKernel f.splice.now.kernels.now.grammar (prefix_of f.splice.now.kernels.now k) kernel →
      ¬ HasHoleItem f.host.productions kernel → IsOfList kernels (map (renamed_item (names_by f.host)) kernel) u →
      IsNumberOf f h of_host k u
  host_of_list k u kernel lt lists free =
      list_number of_host tt k u f.host kernel (h.host ok) (host_exact k kernel lists) (host_free k kernel lists free)

  pub host_of_none : (k : ℕ) (kernel : List Item) →
      ListsKernel f.splice.now.kernels.now.grammar (prefix_of f.splice.now.kernels.now k) kernel →
      IsOfNoList kernels (map (renamed_item (names_by f.host)) kernel) → (u : ℕ) → ¬ IsNumberOf f h of_host k u
  host_of_none k kernel lists none = list_no_number of_host k f.host kernel (h.host ok) (host_exact k kernel lists) none

  -- one after a hole has none
  pub host_of_hole : (k : ℕ) (kernel : List Item) →
      ListsKernel f.splice.now.kernels.now.grammar (prefix_of f.splice.now.kernels.now k) kernel →
      HasHoleItem f.host.productions kernel → (u : ℕ) → ¬ IsNumberOf f h of_host k u
  host_of_hole k kernel lists (item, has, hole) u (lt, kernel_of) =
      kernel_of.no_hole item ((host_exact k kernel lists item).0 has)
      (subst (λ (z : Blocks). IsHoleBy z.productions item.production) (h.host ok) hole)

  -- that of a new kernel
  module _ (e i : ℕ) (e_lt : e < length f.splice.now.parts.now) (i_lt : i < new_count_at f.splice.now e) (names : Blocks)
      (names_at : slice_get f.blocks.now e ≡ Some names) (part : Part) (part_at : slice_get f.splice.now.parts.now e ≡ Some part)
      (kernel : List Item) (kernel_at : slice_get part.new.now.index.kernels i ≡ Some kernel)
    where
      less : e < length ok.pieces
      less = part_less f.splice.now ok e e_lt

      names_are : names ≡ blocks_at f.splice.now ok (of e)
      names_are = (h.blocks ok).each e names names_at

      exact : (item : Item) → Contains kernel item ↔ IsKernelItem (grammar_at f.splice.now.host.now ok.extensible ok.pieces (of e))
          (prefix_at f.splice.now (of e) (count_of f.splice.now.kernels.now + i)) item
      exact =
          let p = has_part f.splice.now ok e less in
          (new_kernel f.splice.now ok h.given.kernels e i p kernel
          (subst (λ (z : Part). slice_get z.new.now.index.kernels i ≡ Some kernel)
          (at_once f.splice.now.parts.now e part p.part part_at p.part_at) kernel_at)).0

      pub new_of_list : (u : ℕ) → IsOfList kernels (map (renamed_item (names_by names)) kernel) u →
          IsNumberOf f h (of e) (count_of f.splice.now.kernels.now + i) u
      new_of_list u =
          list_number (of e) less (count_of f.splice.now.kernels.now + i) u names kernel names_are exact
          (taken_no_hole f.splice.now.host.now ok.extensible ok.pieces ok.certified (numbers_in f.splice.now)
          (kernel_numbers f.splice.now ok h.given.kernels) (of e) (count_of f.splice.now.kernels.now + i)
          (new_taken f.splice.now ok h.given.kernels e i less i_lt))

      pub new_of_none : IsOfNoList kernels (map (renamed_item (names_by names)) kernel) → (u : ℕ) →
          ¬ IsNumberOf f h (of e) (count_of f.splice.now.kernels.now + i) u
      new_of_none none = list_no_number (of e) (count_of f.splice.now.kernels.now + i) names kernel names_are exact none

  -- a kernel has one number
  number_once : (home : Home) (k u v : ℕ) → IsNumberOf f h home k u → IsNumberOf f h home k v → u ≡ v
  number_once home k u v (u_lt, one) (v_lt, other) = h.kernels.states.each_once u v u_lt v_lt (λ item. (
    λ has. there (prefix_of kernels v) item ((other.items item).1 ((one.items item).0 (back (prefix_of kernels u) item has))),
    λ has. there (prefix_of kernels u) item ((one.items item).1 ((other.items item).0 (back (prefix_of kernels v) item has))),
  ))

  -- what is gained at a number is what is gained at the kernel
  pub row_gains : (home : Home) (k number : ℕ) (Q : ℕ → ℕ → Item → ℕ → Type 0) (old new : LookaheadsView) → IsNumberBy f home k number →
      Gains kernels (Q number) old new →
      Gains kernels (λ s one t. (u : ℕ) × IsNumberOf f h home k u × Q u s one t) old new
  row_gains home k number Q old new is gains =
      gains_as kernels (Q number) (λ s one t. (u : ℕ) × IsNumberOf f h home k u × Q u s one t) old new
      (λ s one t q. (number, is h, q))
      (λ s one t (u, is_u, q). subst (λ z. Q z s one t) (number_once home k u number is_u (is h)) q) gains

  -- all that is gained from nothing are the lookaheads
  pub all_gained : (empty middle made : LookaheadsView) → IsMaking kernels empty → AreEmpty empty →
      Gains kernels (λ s one t. (k : ℕ) × (k < count_of f.splice.now.kernels.now) × IsHostGain f h k s one t) empty middle →
      Gains kernels (λ s one t. (e : ℕ) × (e < length f.splice.now.parts.now) × IsPartGain f h e s one t) middle made →
      AreLookaheads kernels made
  all_gained empty middle made making none one other = record { shape = gains.making.shape; exact = exact }
    where
      gains : Gains kernels (IsGain f h) empty made
      gains = gains_both kernels (λ s item t. (k : ℕ) × (k < count_of f.splice.now.kernels.now) × IsHostGain f h k s item t)
          (λ s item t. (e : ℕ) × (e < length f.splice.now.parts.now) × IsPartGain f h e s item t) empty middle made one other

      sound : (u : ℕ) → u < count_of kernels → (item : Item) (t : ℕ) → Lists made u item t →
          IsLookahead kernels.grammar (prefix_of kernels u) item t
      sound u lt item t lists = elim (gains.sound u item t lists) [
        | inl before ↦ absurd (empty_lists empty none u item t before)
        | inr (i, gain, has, belong) ↦ looks_together kernels.grammar (prefix_of kernels u) i item t belong (gain_sound f h u i t gain has)
      ]

      complete : (u : ℕ) → u < count_of kernels → (item : Item) (t : ℕ) → HasItem kernels.grammar (prefix_of kernels u) item →
          IsLookahead kernels.grammar (prefix_of kernels u) item t → Lists made u item t
      complete u lt item t has looks =
          let k = gain_complete f h u lt item has t looks in
          let has_one = has_together kernels.grammar (prefix_of kernels u) item k.one
          (together_back kernels.grammar k.one item k.belong) has in
          let (n, there) = number_of h.kernels made gains.making.shape u item lt has in
          lists_together kernels.grammar made k.one item gains.making.apart k.belong u n there t
          (gains.complete u k.one t k.gain ((h.kernels.closures u lt k.one).1 has_one))

      exact : (u : ℕ) (item : Item) (set : List Bool) (t : ℕ) → u < count_of kernels → IsSetOf made u item set →
          IsMember set t ↔ IsLookahead kernels.grammar (prefix_of kernels u) item t
      exact u item set t lt is = (
        λ member. sound u lt item t (set, is, member),
        λ looks. (let (n, at, set_is) = set_number made u item set is in
            let has = has_number h.kernels made gains.making.shape u item n lt at in
            let (other, there, member) = complete u lt item t has looks in
            subst (λ z. IsMember z t) (set_once h.kernels made gains.making.shape u item other set there is) member),
      )
