-- Numbered kernels of an extended host stand for all its prefixes.
use Rattle.std.proofs.Common.{◌≡◌, ◌<◌, ◌⊎◌, ℕ, Bool, List, Some, sym, subst, inl, inr, arith}
use Rattle.std.specs.Prelude.{◌↔◌, slice_get}
use Rattle.std.proofs.lemmas.Option.{slice_get_within}
use Rattle.wb_lemmas.proofs.Places.{at_within}
use Rattle.wb_base.specs.declared.symbol.Symbol.{Symbol}
use Rattle.wb_determinism_contexts.specs.Considered.{LexiconView}
use Rattle.wb_grammar_theory.specs.declared.item.Item.{Item}
use Rattle.wb_grammar_theory.specs.Items.{IsViablePrefix, SameKernel}
use Rattle.wb_grammar_theory.proofs.FlowLemmas.{same_back}
use Rattle.wb_items.specs.Kernels.{count_of, prefix_of}
use Rattle.wb_lexical.specs.Clash.{IsClash, HasNoClash}
use Rattle.wb_termset.specs.Sets.{IsMember}
use Rattle.wb_compose_theory.specs.Numbered.{HostKernel, IsNewHostKernel, IsValidInEnvelope, HasEnvelopeConflict}
use Rattle.wb_determinism.specs.declared.context.Context.{Context}
use Rattle.wb_determinism.specs.declared.regions.Region.{Region}
use Rattle.wb_determinism.specs.declared.regions.Region.TheVariants.{Host, Extension, NewHost}
use Rattle.wb_determinism.specs.EnvelopeClash.{IsConsideredInEnvelope, IsEnvelopeClashFault, HasNoEnvelopeClash}
use Rattle.wb_determinism.specs.Inner.Keeps.{KeepsInEnvelope, HasNoEnvelopeConflict}
use Rattle.wb_determinism.specs.Numbers.{item_up, up_by}
use Rattle.wb_determinism.specs.Regions.{IsRegion}
use Rattle.wb_determinism.specs.Inner.Clashes.{HasSets}
use Rattle.wb_determinism.specs.Inner.Considered.{IsClearSet, IsConsideredFor, KernelAt}
use Rattle.wb_determinism.specs.Inner.Contexts.{HasImage, IsContext, both_of, host_of}
use Rattle.wb_determinism.proofs.KeepLemmas.{lookahead_kept}
use Rattle.wb_determinism.proofs.EnvelopeLemmas.{closure_kept}
use Rattle.wb_determinism.proofs.SameKernelLemmas.{same_envelope, same_valid_in, same_conflict_in, same_host_items, closure_item}

module _ (c : Context) (h : IsContext c) (layout : List Bool) (sets : List (List Bool)) (has : HasSets c layout sets) where
  -- a prefix with a new kernel has the kernel of a number whose set is clear
  pub record IsClearAt (prefix : List Symbol) : Type 0 where
    pub s : ℕ
    pub set : List Bool
    pub below : s < count_of c.both.now
    pub same : SameKernel (both_of c) (prefix_of c.both.now s) prefix
    pub at : slice_get sets s ≡ Some set
    pub clear : IsClearSet c layout s set

  pub clear_at : (prefix : List Symbol) → IsViablePrefix (both_of c) prefix
      → IsNewHostKernel (host_of c) (both_of c) (up_by c.numbers.now) prefix
      → IsClearAt prefix
  clear_at prefix viable new =
      let (s, below, same) = h.both.states.all prefix viable in
      let (region, at) = at_within has.regions s (omega (arith, below, has.are_regions.len)) in
      let (set, there) = at_within sets s (omega (arith, below, has.considered.len)) in
      by s below same set there region at (has.are_regions.each s region at) (has.considered.each s region set at there)
    where
      by : (s : ℕ) → s < count_of c.both.now → SameKernel (both_of c) (prefix_of c.both.now s) prefix → (set : List Bool)
          → slice_get sets s ≡ Some set → (region : Region) → slice_get has.regions s ≡ Some region
          → IsRegion c.host.now c.both.now c.numbers.now s region → IsConsideredFor c layout s region set → IsClearAt prefix
      by s below same set there (Host other) at (within, is) empty =
          absurd (new.is_new (prefix_of c.host.now other) (λ i. (
            λ k. (same (item_up c.numbers.now i)).0 ((is.same i).0 k),
            λ k. (is.same i).1 ((same (item_up c.numbers.now i)).1 k),
          )))
      by s below same set there Extension at is empty =
          (let (own, same_item) = new.within is.item ((same is.item).0 is.has) in absurd (is.foreign own same_item))
      by s below same set there NewHost at is clear = record { s = s; set = set; below = below; same = same; at = there; clear = clear }

  -- the items of a new kernel are those of the numbered one
  items_same : (prefix : List Symbol) → (x : IsClearAt prefix) → (i : Item)
      → HostKernel (both_of c) (up_by c.numbers.now) prefix i ↔ KernelAt c x.s i
  items_same prefix x = same_host_items (both_of c) (up_by c.numbers.now) prefix (prefix_of c.both.now x.s) (same_back x.same)

  items_back : (prefix : List Symbol) → (x : IsClearAt prefix) → (i : Item)
      → KernelAt c x.s i ↔ HostKernel (both_of c) (up_by c.numbers.now) prefix i
  items_back prefix x = same_host_items (both_of c) (up_by c.numbers.now) (prefix_of c.both.now x.s) prefix x.same

  -- a prefix with an item of the host's is viable
  item_viable : (prefix : List Symbol) (i : Item) → HostKernel (both_of c) (up_by c.numbers.now) prefix i
      → IsViablePrefix (both_of c) prefix
  item_viable prefix i k = (item_up c.numbers.now i, k.0.0, k.0.1)

  -- lookaheads stay in the envelope
  pub keeps_in_envelope : KeepsInEnvelope (host_of c) (both_of c) c.numbers.now (HasImage c.images.now)
  keeps_in_envelope prefix own t new within look =
      let (i, k) = closure_item within in
      let x = clear_at prefix (item_viable prefix i k) new in
      let (u, image, there) = x.clear.keeps own t (closure_kept (λ j l. (items_same prefix x j).0 l) within)
      (lookahead_kept (same_back x.same) look) in (
        u,
        image,
        same_envelope (host_of c) (KernelAt c x.s) (HostKernel (both_of c) (up_by c.numbers.now) prefix)
            (items_back prefix x) own u there,
      )

  -- and envelopes have no conflict
  pub no_envelope_conflict : HasNoEnvelopeConflict (host_of c) (both_of c) c.numbers.now (HasImage c.images.now)
  no_envelope_conflict prefix t new conflict =
      let (i, k) = item_of conflict in
      let x = clear_at prefix (item_viable prefix i k) new in
      x.clear.no_conflict t
      (same_conflict_in (host_of c) (HostKernel (both_of c) (up_by c.numbers.now) prefix) (KernelAt c x.s) (items_same prefix x) t conflict)
    where
      item_of : HasEnvelopeConflict (host_of c) (HostKernel (both_of c) (up_by c.numbers.now) prefix) t
          → (i : Item) × HostKernel (both_of c) (up_by c.numbers.now) prefix i
      item_of (inl (p, can, red)) = closure_item can.within
      item_of (inr (p, q, differ, one, two)) = closure_item one.within

  module _ (lexicon : LexiconView) (scanned : lexicon.scanned ≡ c.numbers.now.own_terminals) (layout_is : lexicon.layout ≡ layout) where
    -- what is in a set is considered there
    considered_out : (s : ℕ) (set : List Bool) → IsClearSet c layout s set → (t : ℕ) → IsMember set t
        → IsConsideredInEnvelope (host_of c) (KernelAt c s) lexicon t
    considered_out s set clear t member = by ((clear.each t).0 member)
      where
        by : ((t < c.numbers.now.own_terminals) × IsValidInEnvelope (host_of c) (KernelAt c s) t) ⊎ IsMember layout t
            → IsConsideredInEnvelope (host_of c) (KernelAt c s) lexicon t
        by (inl (below, valid)) = inl (subst (λ (n : ℕ). t < n) (sym scanned) below, valid)
        by (inr member) = inr (subst (λ (z : List Bool). IsMember z t) (sym layout_is) member)

    considered_in : (s : ℕ) (set : List Bool) → IsClearSet c layout s set → (t : ℕ)
        → IsConsideredInEnvelope (host_of c) (KernelAt c s) lexicon t
        → IsMember set t
    considered_in s set clear t (inl (below, valid)) = (clear.each t).1 (inl (subst (λ (n : ℕ). t < n) scanned below, valid))
    considered_in s set clear t (inr member) = (clear.each t).1 (inr (subst (λ (z : List Bool). IsMember z t) layout_is member))

    -- the number of a set with a member is that of a kernel
    pub clash_below : (s left right : ℕ) (text : List ℕ) → IsClash lexicon.expressions sets lexicon.preferences s left right text
        → s < count_of c.both.now
    clash_below s left right text clash =
        let within = slice_get_within sets s clash.left_in.flags clash.left_in.at in omega (arith, within, has.considered.len)

    -- a clash of sets is one at a new kernel
    pub clash_fault : (s left right : ℕ) (text : List ℕ) → IsClash lexicon.expressions sets lexicon.preferences s left right text
        → IsEnvelopeClashFault (host_of c) (both_of c) c.numbers.now lexicon (prefix_of c.both.now s) left right text
    clash_fault s left right text clash =
        let below = clash_below s left right text clash in
        let (region, at) = at_within has.regions s (omega (arith, below, has.are_regions.len)) in
        by region at (has.are_regions.each s region at) (λ flags there. has.considered.each s region flags at there)
      where
        by : (region : Region) → slice_get has.regions s ≡ Some region → IsRegion c.host.now c.both.now c.numbers.now s region
            → ((flags : List Bool) → slice_get sets s ≡ Some flags → IsConsideredFor c layout s region flags)
            → IsEnvelopeClashFault (host_of c) (both_of c) c.numbers.now lexicon (prefix_of c.both.now s) left right text
        by (Host other) at is each = absurd (each clash.left_in.flags clash.left_in.at left clash.left_in.has)
        by Extension at is each = absurd (each clash.left_in.flags clash.left_in.at left clash.left_in.has)
        by NewHost at is each = record {
          viable = h.both.states.prefixes s (clash_below s left right text clash);
          new = is;
          clash = record {
            different = clash.different;
            left_considered =
                considered_out s clash.left_in.flags (each clash.left_in.flags clash.left_in.at) left clash.left_in.has;
            right_considered =
                considered_out s clash.right_in.flags (each clash.right_in.flags clash.right_in.at) right clash.right_in.has;
            left_matches = clash.left_matches;
            right_matches = clash.right_matches;
            unordered = clash.unordered;
          };
        }

    -- sets without a clash are those of an extension without one
    pub no_clash_fault : HasNoClash lexicon.expressions sets lexicon.preferences
        → HasNoEnvelopeClash (host_of c) (both_of c) c.numbers.now lexicon
    no_clash_fault none prefix left right text fault =
        let x = clear_at prefix fault.viable fault.new in
        none x.s left right text (record {
          different = fault.clash.different;
          left_in = record { flags = x.set; at = x.at; has = member x left fault.clash.left_considered };
          right_in = record { flags = x.set; at = x.at; has = member x right fault.clash.right_considered };
          left_matches = fault.clash.left_matches;
          right_matches = fault.clash.right_matches;
          unordered = fault.clash.unordered;
        })
      where
        moved : (x : IsClearAt prefix) (t : ℕ)
            → IsConsideredInEnvelope (host_of c) (HostKernel (both_of c) (up_by c.numbers.now) prefix) lexicon t
            → IsConsideredInEnvelope (host_of c) (KernelAt c x.s) lexicon t
        moved x t (inl (below, valid)) =
            inl (
              below,
              same_valid_in (host_of c) (HostKernel (both_of c) (up_by c.numbers.now) prefix) (KernelAt c x.s)
                  (items_same prefix x) t valid,
            )
        moved x t (inr is) = inr is

        member : (x : IsClearAt prefix) (t : ℕ)
            → IsConsideredInEnvelope (host_of c) (HostKernel (both_of c) (up_by c.numbers.now) prefix) lexicon t → IsMember x.set t
        member x t is = considered_in x.s x.set x.clear t (moved x t is)
