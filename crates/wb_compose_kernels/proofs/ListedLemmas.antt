-- Markers as they are listed, and what becomes of terminals by them.
use Rattle.std.proofs.Common.{◌+◌, ◌<◌, ◌∙◌, ◌≡◌, Bool, List, [], ap, arith, inl, inr, length}
use Rattle.std.proofs.Common.{replicate, subst, sym, ℕ, Some, false}
use Rattle.std.specs.Prelude.{◌↔◌, Contains, slice_get}
use Rattle.std.proofs.lemmas.List.{length-replicate}
use Rattle.wb_lemmas.proofs.Members.{contains_at, place_in}
use Rattle.wb_lemmas.proofs.Places.{at_once}
use Rattle.wb_base.specs.declared.symbol.Symbol.TheVariants.{Terminal}
use Rattle.wb_termset.specs.Sets.{IsMember}
use Rattle.wb_termset.proofs.CallerLemmas.{IsEmpty-replicate, has_below}
use Rattle.wb_determinism_kernels.specs.declared.starts.Start.{Start}
use Rattle.wb_compose_kernels.proofs.AddLemmas.{adds_as, adds_next}
use Rattle.wb_compose_kernels.proofs.MemberLemmas.{members_as}
use Rattle.wb_compose_kernels.specs.declared.blocks.Block.{Block}
use Rattle.wb_compose_kernels.specs.declared.blocks.Blocks.{Blocks}
use Rattle.wb_compose_kernels.specs.declared.markers.Marker.{Marker}
use Rattle.wb_compose_kernels.specs.declared.splice.Part.{Part}
use Rattle.wb_compose_kernels.specs.declared.splice.Splice.{Splice}
use Rattle.wb_compose_kernels.specs.Inner.Blocks.{IsHoleSymbol, number_by}
use Rattle.wb_compose_kernels.specs.Inner.Images.{AddsMembers, AreMarkersUpTo, BecomesBy, IsImage, IsMarkerAt, IsMarkerOf, marked, plain}
use Rattle.wb_compose_kernels.specs.Inner.Moves.{Adds}

-- one start has one marker
pub marker_once : (b : Block) (start : Start) (one other : Marker) → IsMarkerOf b start one → IsMarkerOf b start other → other ≡ one
marker_once b start one other p q = λ i. record { hole = (q.0 ∙ sym p.0) i; terminal = (q.1 ∙ sym p.1) i }

-- the markers of one extension more
pub markers_more : (s : Splice) (blocks : List Blocks) (n : ℕ) (markers more : List Marker) (part : Part) (names : Blocks)
    (starts : List Start) → slice_get s.parts.now n ≡ Some part → starts ≡ part.new.now.starts → slice_get blocks n ≡ Some names →
    Adds (λ marker. (start : Start) × Contains starts start × IsMarkerOf names.terminals start marker) markers more →
    AreMarkersUpTo s blocks n markers → AreMarkersUpTo s blocks (n + 1) more
markers_more s blocks n markers more part names starts part_at starts_are names_at h all =
    adds_next (IsMarkerAt s blocks) n [] markers more all
    (adds_as (λ marker. (start : Start) × Contains starts start × IsMarkerOf names.terminals start marker) (IsMarkerAt s blocks n) markers
    more
    (λ marker (start, has, is). record {
      part = part;
      at = part_at;
      names = names;
      names_at = names_at;
      start = start;
      listed = subst (λ z. Contains z start) starts_are has;
      is = is;
    })
    (λ marker k. (
      k.start,
      subst (λ z. Contains z k.start) (sym starts_are)
          (subst (λ (p : Part). Contains p.new.now.starts k.start) (at_once s.parts.now n k.part part k.at part_at) k.listed),
      subst (λ (z : Blocks). IsMarkerOf z.terminals k.start marker) (at_once blocks n k.names names k.names_at names_at) k.is,
    )) h)

-- the number of a hole, as a symbol
same_terminal : (t u : ℕ) → Terminal t ≡ Terminal u → t ≡ u
same_terminal t u e = cc

-- a hole becomes the markers that stand for it
pub hole_becomes : (b : Block) (markers : List Marker) (own hole : ℕ) (old new : List Bool) → IsHoleSymbol b (Terminal own) →
    Terminal own ≡ Terminal (hole + b.size) →
    AddsMembers (λ t. (marker : Marker) × Contains markers marker × (marker.hole ≡ hole) × (t ≡ marker.terminal)) old new →
    AddsMembers (BecomesBy b markers own) old new
hole_becomes b markers own hole old new is_hole is h =
    members_as (λ t. (marker : Marker) × Contains markers marker × (marker.hole ≡ hole) × (t ≡ marker.terminal)) (BecomesBy b markers own)
    old new there back h
  where
    own_is : own ≡ hole + b.size
    own_is = same_terminal own (hole + b.size) is

    there : (t : ℕ) → (marker : Marker) × Contains markers marker × (marker.hole ≡ hole) × (t ≡ marker.terminal) → BecomesBy b markers own t
    there t (m, has, same, t_is) = marked m is_hole has (omega (arith, own_is, same)) t_is

    back : (t : ℕ) → BecomesBy b markers own t → (marker : Marker) × Contains markers marker × (marker.hole ≡ hole) × (t ≡ marker.terminal)
    back t (plain free t_is) = absurd (free is_hole)
    back t (marked m hole_is has m_is t_is) = (m, has, omega (arith, own_is, m_is), t_is)

-- any other terminal becomes itself
pub plain_becomes : (b : Block) (markers : List Marker) (own n : ℕ) (old new : List Bool) → ¬ IsHoleSymbol b (Terminal own) →
    n ≡ number_by b own → AddsMembers (λ t. t ≡ n) old new → AddsMembers (BecomesBy b markers own) old new
plain_becomes b markers own n old new free is h =
    members_as (λ t. t ≡ n) (BecomesBy b markers own) old new (λ t same. plain free (same ∙ is)) back h
  where
    back : (t : ℕ) → BecomesBy b markers own t → t ≡ n
    back t (plain free' t_is) = t_is ∙ sym is
    back t (marked m hole has m_is t_is) = absurd (free hole)

-- markers by places
pub marker_places : (markers : List Marker) (hole : ℕ) (old new : List Bool) →
    AddsMembers (λ t. (j : ℕ) × (j < length markers) × ((marker : Marker) × (slice_get markers j ≡ Some marker) × (marker.hole ≡ hole) ×
    (t ≡ marker.terminal))) old new →
    AddsMembers (λ t. (marker : Marker) × Contains markers marker × (marker.hole ≡ hole) × (t ≡ marker.terminal)) old new
marker_places markers hole old new h =
    members_as (λ t. (j : ℕ) × (j < length markers) × ((marker : Marker) × (slice_get markers j ≡ Some marker) × (marker.hole ≡ hole) ×
    (t ≡ marker.terminal)))
    (λ t. (marker : Marker) × Contains markers marker × (marker.hole ≡ hole) × (t ≡ marker.terminal)) old new
    (λ t (j, lt, (marker, at, is, t_is)). (marker, contains_at markers marker j at, is, t_is))
    (λ t (marker, has, is, t_is). (has.0, has.1, (marker, place_in markers marker has, is, t_is))) h

-- the set that was made
pub image_made : (b : Block) (markers : List Marker) (count : ℕ) (set empty made : List Bool) → empty ≡ replicate count false →
    AddsMembers (λ t. (own : ℕ) × IsMember set own × BecomesBy b markers own t) empty made →
    (length made ≡ count) × ((t : ℕ) → IsMember made t ↔ IsImage b markers count set t)
image_made b markers count set empty made is h = (len, λ t. (there t, back t))
  where
    len : length made ≡ count
    len = h.len ∙ (ap length is ∙ length-replicate count false)

    there : (t : ℕ) → IsMember made t → IsImage b markers count set t
    there t has = elim (h.sound t has) [
      | inl before ↦ absurd (IsEmpty-replicate count t (subst (λ z. IsMember z t) is before))
      | inr (own, member, becomes) ↦ record {
        own = own;
        member = member;
        becomes = becomes;
        below = (let w = has_below made t has in omega (arith, w, len));
      }
    ]

    back : (t : ℕ) → IsImage b markers count set t → IsMember made t
    back t k = h.complete t (k.own, k.member, k.becomes) (let w = k.below in let e = h.len in omega (arith, w, len, e))
