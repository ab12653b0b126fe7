-- The sets that are lent are the lookaheads at the kernels of the certified grammars.
use Rattle.std.proofs.Common.{◌+◌, ◌<◌, ◌≡◌, ap, arith, subst, sym, ℕ, Some}
use Rattle.std.specs.Prelude.{◌↔◌, slice_get}
use Rattle.std.proofs.lemmas.List.{length-map}
use Rattle.std.proofs.lemmas.Option.{slice_get_within}
use Rattle.wb_lemmas.proofs.Members.{contains_at, place_of}
use Rattle.wb_lemmas.proofs.Places.{at_within}
use Rattle.wb_termset.specs.Sets.{IsMember}
use Rattle.wb_grammar_theory.proofs.FlowLemmas.{same_back}
use Rattle.wb_grammar_theory.proofs.KernelLemmas.{kernel_decides}
use Rattle.wb_grammar_theory.specs.declared.item.Item.{Item}
use Rattle.wb_grammar_theory.specs.Lookaheads.{IsLookahead}
use Rattle.wb_items.proofs.CallerLemmas.{item_there, row_has}
use Rattle.wb_items.specs.declared.item_lookahead.ItemLookahead.{ItemLookahead}
use Rattle.wb_items.specs.Kernels.{AreKernels, KernelsView, count_of, prefix_of}
use Rattle.wb_items.specs.Lookaheads.{LookaheadsView, items_in, row_of}
use Rattle.wb_items.specs.LookaheadSets.{AreLookaheads}
use Rattle.wb_compose_theory.specs.Homes.{of}
use Rattle.wb_compose_theory_kernels.specs.Parts.{grammar_at}
use Rattle.wb_determinism_lookaheads.specs.NewLookaheads.{Lists, NewLookaheadsView}
use Rattle.wb_compose_kernels.proofs.PartLemmas.{HasPart, at_part}
use Rattle.wb_compose_kernels.specs.declared.sets.Sets.{Sets}
use Rattle.wb_compose_kernels.specs.declared.splice.Splice.{Splice}
use Rattle.wb_compose_kernels.specs.Lent.{AreSetsOf, AreSpliceable}
use Rattle.wb_compose_kernels.specs.Inner.Counts.{new_count_at, new_count_in, prefix_at, prefix_in}
use Rattle.wb_compose_kernels.specs.Inner.Filling.{found_in}

module _ (kernels : KernelsView) (are : AreKernels kernels) (known : LookaheadsView) (exact : AreLookaheads kernels known) where
  -- an item of a row, with a member of its set
  pub record IsEntry (k : ℕ) (own : Item) (t : ℕ) : Type 0 where
    pub place : ℕ
    pub looks : ItemLookahead
    pub at : slice_get (row_of known k) place ≡ Some looks
    pub item_is : looks.item ≡ own
    pub member : IsMember looks.set t

  -- what is listed is a lookahead
  pub entry_sound : (k place : ℕ) (looks : ItemLookahead) (t : ℕ) → k < count_of kernels →
      slice_get (row_of known k) place ≡ Some looks → IsMember looks.set t →
      IsLookahead kernels.grammar (prefix_of kernels k) looks.item t
  entry_sound k place looks t lt at member =
      (exact.exact k looks.item looks.set t lt (contains_at (row_of known k) looks place at)).0 member

  -- and each lookahead is listed
  pub entry_complete : (k : ℕ) (own : Item) (t : ℕ) → k < count_of kernels → IsLookahead kernels.grammar (prefix_of kernels k) own t →
      IsEntry k own t
  entry_complete k own t lt (other, same, v) =
      let has = kernel_decides are.live v (prefix_of kernels k) (same_back same) in
      let (j, there) = place_of (items_in (row_of known k)) own (row_has are known exact.shape k own lt has) in
      let (looks, at) = at_within (row_of known k) j (let w = slice_get_within (items_in (row_of known k)) j own there in
      let len = length-map (row_of known k) (λ (l : ItemLookahead). l.item) in omega (arith, w, len)) in
      let item_is = item_there (row_of known k) j looks own at there in
      record {
        place = j;
        looks = looks;
        at = at;
        item_is = item_is;
        member = (exact.exact k looks.item looks.set t lt (contains_at (row_of known k) looks j at)).1
            (subst (λ z. IsLookahead kernels.grammar (prefix_of kernels k) z t) (sym item_is) (other, same, v));
      }

-- the sets at new kernels
module _ (s : Splice) (ok : AreSpliceable s) (sets : Sets) (are : AreSetsOf s sets) where
  pub new_looks : (e i : ℕ) (h : HasPart s ok e) → i < new_count_at s e → (item : Item) (t : ℕ) →
      Lists (grammar_at s.host.now ok.extensible ok.pieces (of e)) (found_in (slice_get sets.new.now e)) i item t ↔
      IsLookahead (grammar_at s.host.now ok.extensible ok.pieces (of e)) (prefix_at s (of e) (count_of s.kernels.now + i)) item t
  new_looks e i h =
      let (found, at) = at_within sets.new.now e (let w = slice_get_within s.parts.now e h.part h.part_at in let l = are.len in
      omega (arith, w, l)) in
      let exact = are.each e h.part found h.part_at at in
      at_part s ok (λ g k o. i < new_count_in o → (item : Item) (t : ℕ) →
      Lists g (found_in (slice_get sets.new.now e)) i item t ↔ IsLookahead g (prefix_in o (count_of k + i)) item t) e h
      (λ lt item t. subst (λ (z : NewLookaheadsView). Lists h.part.beside.now.grammar.now z i item t ↔
      IsLookahead h.part.beside.now.grammar.now (prefix_in (Some h.part) (count_of h.part.beside.now.host.now + i)) item t)
      (sym (ap found_in at)) (exact.exact i (let len = h.is.new.kernels_len in omega (arith, lt, len)) item t))
