-- Lookaheads of items at kernels that are the host's.
use Rattle.std.proofs.Common.{◌≡◌, ◌<◌, ◌+◌, ◌∙◌, ℕ, Bool, List, Option, Some, None, length, get_or, sym, subst, inl, inr, arith}
use Rattle.std.specs.Prelude.{◌↔◌, IsTrue, Contains, MatchOption, slice_get}
use Rattle.std.proofs.lemmas.Bool.{cases_eq}
use Rattle.std.proofs.lemmas.Option.{same_Some, none-some, slice_get-get_or}
use Rattle.wb_base.specs.declared.symbol.Symbol.{Symbol}
use Rattle.wb_base.specs.Grammar.{GrammarView}
use Rattle.wb_grammar_theory.specs.declared.item.Item.{Item}
use Rattle.wb_grammar_theory.specs.Items.{IsKernelItem, SameKernel}
use Rattle.wb_grammar_theory.specs.Lookaheads.{IsLookahead}
use Rattle.wb_grammar_theory.proofs.FlowLemmas.{same_back, same_then}
use Rattle.wb_items.specs.Kernels.{count_of, prefix_of}
use Rattle.wb_items.specs.Lookaheads.{IsSetOf}
use Rattle.wb_termset.specs.Sets.{IsMember}
use Rattle.wb_compose_theory.specs.Numbered.{IsHostKernel, IsNewHostKernel}
use Rattle.wb_determinism.specs.declared.context.Context.{Context}
use Rattle.wb_determinism.specs.declared.numbers.Numbers.{Numbers}
use Rattle.wb_determinism.specs.Inner.Keeps.{KeepsHostLookaheads}
use Rattle.wb_determinism.specs.Numbers.{item_up, up_by}
use Rattle.wb_determinism.specs.Regions.{IsExtensionKernel}
use Rattle.wb_determinism.specs.Inner.Contexts.{Allows, HasImage, IsContext, IsFaultAt, KeepsItem, KeepsKernel, both_of, host_of}
use Rattle.wb_determinism.proofs.NumberLemmas.{item_up_once}

-- a terminal that stands for this one stands for a member where this is one
pub allows_some : (images : List (Option ℕ)) (allowed : List Bool) (t own : ℕ) (r : Bool) → slice_get images t ≡ Some (Some own)
    → IsTrue r ↔ IsMember allowed own → IsTrue r ↔ Allows images allowed t
allows_some images allowed t own r at is = (
  λ yes. (own, at, is.0 yes),
  λ (u, image, member).
      let same : u ≡ own = same_Some u own (same_Some (Some u) (Some own) (sym image ∙ at)) in
      is.1 (subst (IsMember allowed) same member),
)

-- one that stands for none
pub allows_none : (images : List (Option ℕ)) (allowed : List Bool) (t : ℕ) → slice_get images t ≡ Some None → Allows images allowed t → ⊥
allows_none images allowed t at (u, image, member) = none-some u (same_Some None (Some u) (sym at ∙ image))

-- a lookahead is one at each prefix with the same kernel
pub lookahead_kept : {g : GrammarView} {prefix other : List Symbol} {item : Item} {t : ℕ} → SameKernel g prefix other
    → IsLookahead g prefix item t → IsLookahead g other item t
lookahead_kept same (third, is, valid) = (third, same_then (same_back same) is, valid)

module _ (g k : GrammarView) (m : Numbers) (host both : List Symbol) where
  -- a kernel with an item of the extension isn't the host's
  pub not_of_extension : IsExtensionKernel g k m both → IsHostKernel g k (up_by m) both host → ⊥
  not_of_extension found is = let (own, same) = is.within found.item found.has in found.foreign own same

  -- nor is a new one
  pub not_new : IsNewHostKernel g k (up_by m) both → IsHostKernel g k (up_by m) both host → ⊥
  not_new new is = new.is_new host is.same

  -- two prefixes of the host that have one kernel of the extended host have the same kernel
  pub one_host : (other : List Symbol) → IsHostKernel g k (up_by m) both host → IsHostKernel g k (up_by m) both other
      → SameKernel g host other
  one_host other is also item = (
    λ has. (also.same item).1 ((is.same item).0 has),
    λ has. (is.same item).1 ((also.same item).0 has),
  )

  -- a host's kernel is that of each prefix with the same kernel
  pub host_kernel_kept : (other : List Symbol) → SameKernel k both other → IsHostKernel g k (up_by m) both host
      → IsHostKernel g k (up_by m) other host
  host_kernel_kept other same is = record {
    within = λ item has. is.within item ((same item).1 has);
    same = λ own. (λ has. (same (item_up m own)).0 ((is.same own).0 has), λ has. (is.same own).1 ((same (item_up m own)).1 has));
  }

module _ (c : Context) (h : IsContext c) (s : ℕ) where
  -- where no host's prefix has the kernel, there is nothing to keep
  pub keeps_none : ((host : List Symbol) → ¬ IsHostKernel (host_of c) (both_of c) (up_by c.numbers.now) (prefix_of c.both.now s) host)
      → KeepsKernel c s
  keeps_none none item host own t is = absurd (none host is)

  -- the items of the kernel are all that a host's kernel has
  pub keeps_listed : (items : List Item) → ((item : Item) → IsKernelItem (both_of c) (prefix_of c.both.now s) item → Contains items item)
      → ((item : Item) → Contains items item → KeepsItem c s item) → KeepsKernel c s
  keeps_listed items lists each item host own t is has same look =
      each item (lists item (subst (IsKernelItem (both_of c) (prefix_of c.both.now s)) (sym same) ((is.same own).0 has)))
      host own t is has same look

  -- the answer for one item
  pub item_answer : (other : ℕ) (item own : Item) (set allowed : List Bool) → s < count_of c.both.now → other < count_of c.host.now
      → IsHostKernel (host_of c) (both_of c) (up_by c.numbers.now) (prefix_of c.both.now s) (prefix_of c.host.now other)
      → IsKernelItem (both_of c) (prefix_of c.both.now s) item → item ≡ item_up c.numbers.now own
      → IsSetOf c.both_lookaheads.now s item set → IsSetOf c.host_lookaheads.now other own allowed → (r : Option ℕ)
      → MatchOption r ((t : ℕ) → IsMember set t → Allows c.images.now allowed t)
      (λ t. IsMember set t × (¬ Allows c.images.now allowed t))
      → MatchOption r (KeepsItem c s item) (IsFaultAt c s item)
  item_answer other item own set allowed below within region has is set_is allowed_is None all = λ host mine t kernel held same look.
      let (u, image, member) = all t ((h.both_lookaheads.exact s item set t below set_is).1 look) in
      let one : mine ≡ own = item_up_once c.numbers.now mine own (sym same ∙ is) in
      let there = (h.host_lookaheads.exact other own allowed u within allowed_is).0 member in (
        u,
        image,
        subst (λ (z : Item). IsLookahead (host_of c) host z u) (sym one)
            (lookahead_kept (one_host (host_of c) (both_of c) c.numbers.now (prefix_of c.host.now other)
            (prefix_of c.both.now s) host region kernel) there),
      )
  item_answer other item own set allowed below within region has is set_is allowed_is (Some t) (member, none) = record {
    host = prefix_of c.host.now other;
    own = own;
    kernel = region;
    has = (region.same own).1 (subst (IsKernelItem (both_of c) (prefix_of c.both.now s)) is has);
    is = is;
    lookahead = (h.both_lookaheads.exact s item set t below set_is).0 member;
    beyond = λ u image look. none (u, image, (h.host_lookaheads.exact other own allowed u within allowed_is).1 look);
  }

-- one item more
pub keeps_more : (c : Context) (s : ℕ) (items : List Item) (n : ℕ) (d : Item) → n < length items
    → ((i : ℕ) (item : Item) → i < n → slice_get items i ≡ Some item → KeepsItem c s item) → KeepsItem c s (get_or items n d)
    → (i : ℕ) (item : Item) → i < n + 1 → slice_get items i ≡ Some item → KeepsItem c s item
keeps_more c s items n d within before here i item below at = elim (cases_eq i n) [
  | inl same ↦
      let is : get_or items n d ≡ item = same_Some (get_or items n d) item
      (sym (slice_get-get_or items n d within) ∙ subst (λ (j : ℕ). slice_get items j ≡ Some item) same at) in
      subst (KeepsItem c s) is here
  | inr other ↦ before i item (omega (arith, below, other)) at
]

-- what holds at each numbered kernel holds at all
pub keeps_all : (c : Context) → IsContext c → ((s : ℕ) → s < count_of c.both.now → KeepsKernel c s)
    → KeepsHostLookaheads (host_of c) (both_of c) c.numbers.now (HasImage c.images.now)
keeps_all c h each host both own t is has look =
    let there = (is.same own).0 has in
    let (s, below, same) = h.both.states.all both (item_up c.numbers.now own, there.0.0, there.0.1) in
    each s below (item_up c.numbers.now own) host own t
    (host_kernel_kept (host_of c) (both_of c) c.numbers.now host both (prefix_of c.both.now s) (same_back same) is) has
    (λ _. item_up c.numbers.now own)
    (lookahead_kept (same_back same) look)
