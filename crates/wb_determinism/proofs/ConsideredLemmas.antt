-- What rows of items show of a new kernel of host's items.
use Rattle.std.proofs.Common.{◌≡◌, ◌<◌, ◌≤◌, ◌+◌, ◌++◌, ◌∷◌, ◌∙◌, ◌⊎◌, ℕ, Bool, List, [], Option, Some, None, length}
use Rattle.std.proofs.Common.{refl, sym, subst, ap, inl, inr, arith, length-append}
use Rattle.std.specs.Prelude.{◌↔◌, Contains, slice_get}
use Rattle.std.specs.Option.{option_map}
use Rattle.std.proofs.lemmas.Bool.{cases_eq, cases_lt}
use Rattle.std.proofs.lemmas.Option.{slice_get-map, slice_get_within, same_Some}
use Rattle.wb_lemmas.proofs.Members.{contains_at, place_of}
use Rattle.wb_lemmas.proofs.Elements.{all_at, all_contained}
use Rattle.wb_lemmas.proofs.Places.{at_once, at_push, nothing_at}
use Rattle.wb_grammar_theory.specs.declared.item.Item.{Item}
use Rattle.wb_grammar_theory.specs.Closure.{InClosure, kernel}
use Rattle.wb_grammar_theory.specs.Items.{after_dot, IsKernelItem}
use Rattle.wb_grammar_theory.specs.Lookaheads.{IsLookahead}
use Rattle.wb_items.specs.declared.item_lookahead.ItemLookahead.{ItemLookahead}
use Rattle.wb_items.specs.Kernels.{count_of, prefix_of}
use Rattle.wb_items.specs.Lookaheads.{items_in}
use Rattle.wb_termset.specs.Sets.{IsMember}
use Rattle.wb_termset.proofs.CallerLemmas.{has_below}
use Rattle.wb_compose_theory.specs.Numbered.{IsEnvelopeLookahead, CanShiftInEnvelope, CanReduceInEnvelope, IsValidInEnvelope}
use Rattle.wb_compose_theory.specs.Numbered.{HasEnvelopeConflict}
use Rattle.wb_determinism.specs.declared.conflict.ActionPair.{ActionPair}
use Rattle.wb_determinism.specs.declared.context.Context.{Context}
use Rattle.wb_determinism.specs.declared.context.ItemFault.{ItemFault}
use Rattle.wb_determinism.specs.declared.regions.Region.{Region}
use Rattle.wb_determinism.specs.Numbers.{item_up}
use Rattle.wb_determinism.specs.Inner.Contexts.{HasImage, IsContext, both_of, host_of}
use Rattle.wb_determinism.specs.Inner.Envelopes.{AreInKernel, IsEnvelopeRow, IsEnvelopeSet, IsRowFault, KeepsRow}
use Rattle.wb_determinism.specs.Inner.Index.{IsIndexable}
use Rattle.wb_determinism.specs.Inner.Conflicts.{IsFoundBy}
use Rattle.wb_determinism.specs.Conflicts.{HasNoConflictIn}
use Rattle.wb_determinism.specs.Inner.Considered.{AreConsidered, CanBoth, IsClearSet, IsConsideredFor, IsLookaheadAt, IsOwnList, IsPairAt}
use Rattle.wb_determinism.specs.Inner.Considered.{KernelAt}
use Rattle.wb_determinism.specs.Valid.{IsReduced, IsShifted}
use Rattle.wb_determinism.proofs.BoundLemmas.{own_bound}
use Rattle.wb_determinism.proofs.EnvelopeLemmas.{closure_kept}
use Rattle.wb_determinism.proofs.RegionLemmas.{kernel_item}
use Rattle.wb_determinism.proofs.RowLemmas.{row_entry}

-- no sets
pub considered_none : (c : Context) (layout : List Bool) (regions : List Region) → AreConsidered c layout regions 0 []
considered_none c layout regions = record { len = refl; each = λ s region set at at_set. absurd (nothing_at set s at_set) }

-- the set of one kernel more
pub considered_more : (c : Context) (layout : List Bool) (regions : List Region) (n : ℕ) (sets : List (List Bool)) (region : Region)
    (set : List Bool) → slice_get regions n ≡ Some region → AreConsidered c layout regions n sets → IsConsideredFor c layout n region set
    → AreConsidered c layout regions (n + 1) (sets ++ set ∷ [])
considered_more c layout regions n sets region set at are is = record {
  len = length-append sets (set ∷ []) ∙ ap (λ k. k + 1) are.len;
  each = λ s other found at_region at_set. elim (at_push sets set found s at_set) [
    | inl old ↦ are.each s other found at_region old
    | inr (here, same) ↦
        let place : s ≡ n = here ∙ are.len in
        let one : region ≡ other = at_once regions n region other at (subst (λ k. slice_get regions k ≡ Some other) place at_region) in
        subst (λ k. IsConsideredFor c layout k other found) (sym place)
        (subst (λ z. IsConsideredFor c layout n z found) one (subst (IsConsideredFor c layout n region) same is))
  ];
}

-- an entry's item is listed
pub entry_listed : (row : List ItemLookahead) (n : ℕ) (looks : ItemLookahead) → slice_get row n ≡ Some looks
    → Contains (items_in row) looks.item
entry_listed row n looks at =
    contains_at (items_in row) looks.item n
    (slice_get-map (λ (l : ItemLookahead). l.item) row n ∙ ap (option_map (λ (l : ItemLookahead). l.item)) at)

module _ (c : Context) (h : IsContext c) (s : ℕ) (own : List Item) (list : IsOwnList c s own) where
  pub in_kernel : AreInKernel c s own
  in_kernel i has = (list.lists i).0 has

  -- it has an item, and each is of a production of the host
  pub own_indexable : s < count_of c.both.now → IsIndexable (host_of c) own
  own_indexable below =
      let (item, t, valid) = h.both.states.prefixes s below in
      let (one, has) = kernel_item valid in
      let (mine, is) = list.new.within one has in
      let (n, at) = place_of own mine ((list.lists mine).1 (subst (IsKernelItem (both_of c) (prefix_of c.both.now s)) is has)) in
      let within = slice_get_within own n mine at in (
        omega (arith, within),
        λ i listed. subst (λ (n : ℕ). i.production ≤ n) h.host_productions (own_bound c h s own in_kernel (kernel listed)),
      )

  closure_out : {item : Item} → InClosure (host_of c) (Contains own) item → InClosure (host_of c) (KernelAt c s) item
  closure_out within = closure_kept (λ i has. (list.lists i).0 has) within

  closure_in : {item : Item} → InClosure (host_of c) (KernelAt c s) item → InClosure (host_of c) (Contains own) item
  closure_in within = closure_kept (λ i has. (list.lists i).1 has) within

  envelope_out : (item : Item) (t : ℕ) → IsEnvelopeLookahead (host_of c) (Contains own) item t
      → IsEnvelopeLookahead (host_of c) (KernelAt c s) item t
  envelope_out item t (prefix, has, look) = (prefix, (λ i k. has i ((list.lists i).1 k)), look)

  envelope_in : (item : Item) (t : ℕ) → IsEnvelopeLookahead (host_of c) (KernelAt c s) item t
      → IsEnvelopeLookahead (host_of c) (Contains own) item t
  envelope_in item t (prefix, has, look) = (prefix, (λ i k. has i ((list.lists i).0 k)), look)

  -- a lookahead beyond the envelope
  pub fault_out : (fault : ItemFault) → IsRowFault c own s fault.item fault.terminal → IsLookaheadAt c s fault
  fault_out fault is = record {
    new = list.new;
    own = is.item;
    is = is.is;
    within = closure_out is.within;
    lookahead = is.lookahead;
    beyond = λ u image look. is.beyond u image (envelope_in is.item u look);
  }

  -- none
  pub keeps_out : KeepsRow c own s → (item : Item) (t : ℕ) → InClosure (host_of c) (KernelAt c s) item
      → IsLookahead (both_of c) (prefix_of c.both.now s) (item_up c.numbers.now item) t
      → (u : ℕ) × HasImage c.images.now t u × IsEnvelopeLookahead (host_of c) (KernelAt c s) item u
  keeps_out keeps item t within look =
      let (u, image, there) = keeps item (closure_in within) t look in (u, image, envelope_out item u there)

  module _ (row : List ItemLookahead) (is : IsEnvelopeRow (host_of c) own row) where
    -- an item of the closure has an entry
    entry_of : (item : Item) → InClosure (host_of c) (KernelAt c s) item
        → (looks : ItemLookahead) × (n : ℕ) × (slice_get row n ≡ Some looks) × (looks.item ≡ item)
    entry_of item within = row_entry row item ((is.items item).1 (closure_in within))

    -- an entry's item is of the closure
    entry_within : (n : ℕ) (looks : ItemLookahead) → slice_get row n ≡ Some looks → InClosure (host_of c) (Contains own) looks.item
    entry_within n looks at = (is.items looks.item).0 (entry_listed row n looks at)

    set_of : (n : ℕ) (looks : ItemLookahead) → slice_get row n ≡ Some looks → IsEnvelopeSet (host_of c) own looks
    set_of n looks at = all_at (IsEnvelopeSet (host_of c) own) row n looks is.sets at

    -- a lookahead of an entry is one in the envelope
    looks_in : (n : ℕ) (looks : ItemLookahead) → slice_get row n ≡ Some looks → (item : Item) → looks.item ≡ item → (t : ℕ)
        → IsEnvelopeLookahead (host_of c) (KernelAt c s) item t → IsMember looks.set t
    looks_in n looks at item same t look =
        ((set_of n looks at).each t).1 (subst (λ (i : Item). IsEnvelopeLookahead (host_of c) (Contains own) i t) (sym same)
        (envelope_in item t look))

    pub shifted_out : (t : ℕ) → IsShifted (host_of c) row (length row) t → CanShiftInEnvelope (host_of c) (KernelAt c s) t
    shifted_out t x = record {
      item = x.looks.item;
      rest = x.before.0;
      within = closure_out (entry_within x.place x.looks x.at);
      before_dot = x.before.1;
    }

    pub shifted_in : (t : ℕ) → CanShiftInEnvelope (host_of c) (KernelAt c s) t → IsShifted (host_of c) row (length row) t
    shifted_in t can =
        let (looks, n, at, same) = entry_of can.item can.within in
        record {
          place = n;
          looks = looks;
          below = slice_get_within row n looks at;
          at = at;
          before = (can.rest, ap (after_dot (host_of c)) same ∙ can.before_dot);
        }

    -- a complete entry can be reduced before its lookaheads
    entry_reduces : (n : ℕ) (looks : ItemLookahead) → slice_get row n ≡ Some looks → after_dot (host_of c) looks.item ≡ [] → (t : ℕ)
        → IsMember looks.set t → CanReduceInEnvelope (host_of c) (KernelAt c s) looks.item.production t
    entry_reduces n looks at complete t has = record {
      item = looks.item;
      production = refl;
      complete = complete;
      within = closure_out (entry_within n looks at);
      lookahead = envelope_out looks.item t (((set_of n looks at).each t).0 has);
    }

    pub reduced_out : (t : ℕ) → IsReduced (host_of c) row (length row) t → (p : ℕ) × CanReduceInEnvelope (host_of c) (KernelAt c s) p t
    reduced_out t x = (x.looks.item.production, entry_reduces x.place x.looks x.at x.complete t x.has)

    pub reduced_in : (p t : ℕ) → CanReduceInEnvelope (host_of c) (KernelAt c s) p t → IsReduced (host_of c) row (length row) t
    reduced_in p t can =
        let (looks, n, at, same) = entry_of can.item can.within in
        record {
          place = n;
          looks = looks;
          below = slice_get_within row n looks at;
          at = at;
          complete = ap (after_dot (host_of c)) same ∙ can.complete;
          has = looks_in n looks at can.item same t can.lookahead;
        }

    -- where no two entries have a conflict, and none has one with a shift, the envelope has none
    pub no_conflict_out : (shifts : List Bool) → ((t : ℕ) → IsMember shifts t ↔ IsShifted (host_of c) row (length row) t)
        → HasNoConflictIn (host_of c) shifts row → (t : ℕ) → ¬ HasEnvelopeConflict (host_of c) (KernelAt c s) t
    no_conflict_out shifts each apart t (inl (p, can, red)) =
        let (looks, n, at, same) = entry_of red.item red.within in
        (apart n (slice_get_within row n looks at)).shift looks at t (record {
          complete = ap (after_dot (host_of c)) same ∙ red.complete;
          shift = (each t).1 (shifted_in t can);
          reduce = looks_in n looks at red.item same t red.lookahead;
        })
    no_conflict_out shifts each apart t (inr (p, q, differ, one, two)) =
        let (looks, n, at, same) = entry_of one.item one.within in
        let (others, o, at', same') = entry_of two.item two.within in
        let first : looks.item.production ≡ p = ap (λ (i : Item). i.production) same ∙ one.production in
        let second : others.item.production ≡ q = ap (λ (i : Item). i.production) same' ∙ two.production in
        let complete : after_dot (host_of c) looks.item ≡ [] = ap (after_dot (host_of c)) same ∙ one.complete in
        let complete' : after_dot (host_of c) others.item ≡ [] = ap (after_dot (host_of c)) same' ∙ two.complete in
        let has = looks_in n looks at one.item same t one.lookahead in
        let has' = looks_in o others at' two.item same' t two.lookahead in
        elim (cases_lt n o) [
          | inl before ↦
              (apart o (slice_get_within row o others at')).pairs others at' n looks before at t (record {
                differ = λ e. differ (sym first ∙ e ∙ second);
                complete = complete;
                conflict = record { complete = complete'; shift = has; reduce = has' };
              })
          | inr after ↦ elim (cases_eq o n) [
            | inl equal ↦
                let one_entry : others ≡ looks = same_Some others looks
                (sym (subst (λ (i : ℕ). slice_get row i ≡ Some others) equal at') ∙ at) in
                differ (sym first ∙ sym (ap (λ (l : ItemLookahead). l.item.production) one_entry) ∙ second)
            | inr other ↦
                (apart n (slice_get_within row n looks at)).pairs looks at o others (omega (arith, after, other)) at' t (record {
                  differ = λ e. differ (sym first ∙ sym e ∙ second);
                  complete = complete';
                  conflict = record { complete = complete; shift = has'; reduce = has };
                })
          ]
        ]

    -- a lookahead of an entry is a terminal of the host, or the end
    terminal_bound : (looks : ItemLookahead) → Contains row looks → (t : ℕ) → IsMember looks.set t → t ≤ c.numbers.now.host_terminals
    terminal_bound looks listed t has =
        let below = has_below looks.set t has in
        let set = all_contained (IsEnvelopeSet (host_of c) own) row looks is.sets listed in
        omega (arith, below, set.len, h.host_terminals)

    -- an entry's production is one of the host
    production_bound : (looks : ItemLookahead) → Contains row looks → looks.item.production ≤ c.numbers.now.host_productions
    production_bound looks listed =
        let (n, at) = place_of row looks listed in own_bound c h s own in_kernel (entry_within n looks at)

    reduces : (looks : ItemLookahead) → Contains row looks → after_dot (host_of c) looks.item ≡ [] → (t p : ℕ) → IsMember looks.set t
        → p ≡ looks.item.production → CanReduceInEnvelope (host_of c) (KernelAt c s) p t
    reduces looks listed complete t p has same =
        let (n, at) = place_of row looks listed in
        subst (λ (q : ℕ). CanReduceInEnvelope (host_of c) (KernelAt c s) q t) (sym same) (entry_reduces n looks at complete t has)

    -- a conflict of entries is one with the envelope
    pub pair_out : (shifts : List Bool) → ((t : ℕ) → IsMember shifts t ↔ IsShifted (host_of c) row (length row) t) → (pair : ActionPair)
        → IsFoundBy (host_of c) shifts row pair.terminal pair.first pair.second → IsPairAt c s pair
    pair_out shifts each pair found = by pair.first refl found
      where
        by : (first : Option ℕ) → first ≡ pair.first → IsFoundBy (host_of c) shifts row pair.terminal first pair.second → IsPairAt c s pair
        by None same x = record {
          new = list.new;
          terminal = terminal_bound x.looks x.listed pair.terminal x.conflict.reduce;
          second = subst (λ (p : ℕ). p ≤ c.numbers.now.host_productions) (sym x.second_is) (production_bound x.looks x.listed);
          can = subst (λ (o : Option ℕ). CanBoth c s pair.terminal o pair.second) same (
            shifted_out pair.terminal ((each pair.terminal).0 x.conflict.shift),
            reduces x.looks x.listed x.conflict.complete pair.terminal pair.second x.conflict.reduce x.second_is,
          );
        }
        by (Some p) same x = record {
          new = list.new;
          terminal = terminal_bound x.other x.other_listed pair.terminal x.conflict.conflict.reduce;
          second = subst (λ (q : ℕ). q ≤ c.numbers.now.host_productions) (sym x.second_is) (production_bound x.other x.other_listed);
          can = subst (λ (o : Option ℕ). CanBoth c s pair.terminal o pair.second) same (
            (λ e. x.conflict.differ (sym x.first_is ∙ e ∙ x.second_is)),
            subst (λ (q : ℕ). q ≤ c.numbers.now.host_productions) (sym x.first_is) (production_bound x.one x.one_listed),
            reduces x.one x.one_listed x.conflict.complete pair.terminal p x.conflict.conflict.shift x.first_is,
            reduces x.other x.other_listed x.conflict.conflict.complete pair.terminal pair.second x.conflict.conflict.reduce x.second_is,
          );
        }

    -- the set of what is considered
    pub clear_out : (layout set shifts : List Bool) → KeepsRow c own s
        → ((t : ℕ) → IsMember shifts t ↔ IsShifted (host_of c) row (length row) t)
        → HasNoConflictIn (host_of c) shifts row
        → ((t : ℕ) → IsMember set t ↔ (((t < c.numbers.now.own_terminals) × (IsMember shifts t ⊎ IsReduced (host_of c) row (length row) t))
        ⊎ IsMember layout t))
        → IsClearSet c layout s set
    clear_out layout set shifts keeps each apart members = record {
      keeps = keeps_out keeps;
      no_conflict = no_conflict_out shifts each apart;
      each = λ t. (λ has. there t ((members t).0 has), λ is. (members t).1 (back t is));
    }
      where
        valid_out : (t : ℕ) → IsMember shifts t ⊎ IsReduced (host_of c) row (length row) t → IsValidInEnvelope (host_of c) (KernelAt c s) t
        valid_out t (inl has) = inl (shifted_out t ((each t).0 has))
        valid_out t (inr x) = inr (reduced_out t x)

        valid_in : (t : ℕ) → IsValidInEnvelope (host_of c) (KernelAt c s) t → IsMember shifts t ⊎ IsReduced (host_of c) row (length row) t
        valid_in t (inl can) = inl ((each t).1 (shifted_in t can))
        valid_in t (inr (p, can)) = inr (reduced_in p t can)

        there : (t : ℕ) → ((t < c.numbers.now.own_terminals) × (IsMember shifts t ⊎ IsReduced (host_of c) row (length row) t))
            ⊎ IsMember layout t
            → ((t < c.numbers.now.own_terminals) × IsValidInEnvelope (host_of c) (KernelAt c s) t) ⊎ IsMember layout t
        there t (inl (below, x)) = inl (below, valid_out t x)
        there t (inr has) = inr has

        back : (t : ℕ) → ((t < c.numbers.now.own_terminals) × IsValidInEnvelope (host_of c) (KernelAt c s) t) ⊎ IsMember layout t
            → ((t < c.numbers.now.own_terminals) × (IsMember shifts t ⊎ IsReduced (host_of c) row (length row) t)) ⊎ IsMember layout t
        back t (inl (below, x)) = inl (below, valid_in t x)
        back t (inr has) = inr has
