-- What terminals become by the markers that were listed is what they become in the union.
use Rattle.std.proofs.Common.{◌+◌, ◌<◌, ◌∙◌, ◌≡◌, ◌⊎◌, ap, arith, inl, inr, length, refl, subst, sym, ℕ, List, [], Some}
use Rattle.std.specs.Prelude.{Contains, slice_get}
use Rattle.std.proofs.lemmas.Option.{slice_get_within}
use Rattle.wb_lemmas.proofs.Members.{nothing_in, place_of}
use Rattle.wb_lemmas.proofs.Places.{at_once, at_within}
use Rattle.wb_base.specs.Grammar.{GrammarView}
use Rattle.wb_items.specs.Kernels.{AreKernels}
use Rattle.wb_compose_theory.specs.Homes.{Home, of}
use Rattle.wb_compose_theory.specs.Worlds.{on}
use Rattle.wb_compose_theory_grammar.proofs.BridgeLemmas.{piece_ok}
use Rattle.wb_compose_theory_grammar.specs.Pieces.{Piece}
use Rattle.wb_compose_theory_grammar.specs.UnitedWorlds.{index_of}
use Rattle.wb_compose_theory_kernels.proofs.HoleNames.{hole_at_is}
use Rattle.wb_compose_theory_kernels.specs.Lookaheads as local
use Rattle.wb_compose_theory_kernels.specs.Parts.{cut_at, into_union}
use Rattle.wb_compose_kernels.proofs.PartLemmas.{HasPart, has_part, part_less}
use Rattle.wb_compose_kernels.proofs.StartLemmas.{HasStart, StartFacts, marker_start, start_facts}
use Rattle.wb_compose_kernels.specs.declared.blocks.Blocks.{Blocks}
use Rattle.wb_compose_kernels.specs.declared.markers.Marker.{Marker}
use Rattle.wb_compose_kernels.specs.declared.splice.Part.{Part}
use Rattle.wb_compose_kernels.specs.declared.splice.Splice.{Splice}
use Rattle.wb_compose_kernels.specs.Lent.{AreSpliceable}
use Rattle.wb_compose_kernels.specs.Inner.Blocks.{BlocksUpTo, IsHoleBy, blocks_at, number_by}
use Rattle.wb_compose_kernels.specs.Inner.Images.{AreMarkersUpTo, BecomesBy, IsMarkerAt, marked, plain}

-- nonterminals of marks
same_on : (a c : ℕ) → on a ≡ on c → a ≡ c
same_on a c e = cc

module _ (s : Splice) (ok : AreSpliceable s) (are : AreKernels s.kernels.now) (blocks : List Blocks)
    (blocks_are : BlocksUpTo s ok (length s.parts.now) blocks) (markers : List Marker)
    (listed : AreMarkersUpTo s blocks (length s.parts.now) markers) where
  abbrev g : GrammarView
  g = s.host.now

  -- the listed marker is that of a piece
  record IsOf (m : Marker) (e : ℕ) (piece : Piece) (number a : ℕ) : Type 0 where
    at : slice_get ok.pieces e ≡ Some piece
    on_a : piece.mark number ≡ on a
    hole : m.hole ≡ g.terminals + index_of ok.extensible a
    terminal : m.terminal ≡ (into_union g ok.extensible ok.pieces (of e)).terminal number

  record MarkerFacts (m : Marker) : Type 0 where
    e : ℕ
    piece : Piece
    number : ℕ
    a : ℕ
    is : IsOf m e piece number a

  marker_sound : (m : Marker) → Contains markers m → MarkerFacts m
  marker_sound m has = go (listed.sound m has)
    where
      made_of : (e : ℕ) → e < length s.parts.now → IsMarkerAt s blocks e m → MarkerFacts m
      made_of e lt k =
          let h = has_part s ok e (part_less s ok e lt) in
          let f = start_facts s ok e h k.start (subst (λ (p : Part). Contains p.new.now.starts k.start)
          (at_once s.parts.now e k.part h.part k.at h.part_at) k.listed) in
          record {
            e = e;
            piece = f.piece;
            number = k.start.marker;
            a = f.nonterminal;
            is = record {
              at = f.at;
              on_a = f.on_a;
              hole = k.is.0 ∙ f.hole;
              terminal = k.is.1 ∙ ap (λ (z : Blocks). number_by z.terminals k.start.marker) (blocks_are.each e k.names k.names_at);
            };
          }

      go : Contains [] m ⊎ ((e : ℕ) × (e < length s.parts.now) × IsMarkerAt s blocks e m) → MarkerFacts m
      go (inl none) = absurd (nothing_in m none)
      go (inr (e, lt, k)) = made_of e lt k

  -- each marker of a piece is listed
  record IsListedMarker (e number a : ℕ) (piece : Piece) : Type 0 where
    m : Marker
    has : Contains markers m
    is : IsOf m e piece number a

  marker_complete : (e number a : ℕ) (piece : Piece) → slice_get ok.pieces e ≡ Some piece → piece.mark number ≡ on a →
      IsListedMarker e number a piece
  marker_complete e number a piece at on_a = go (marker_start s ok are e number a piece at on_a h)
    where
      less : e < length ok.pieces
      less = slice_get_within ok.pieces e piece at

      h : HasPart s ok e
      h = has_part s ok e less

      finish : (k : HasStart s ok e number h) (f : StartFacts s ok e k.start) (names : Blocks) → slice_get blocks e ≡ Some names →
          IsListedMarker e number a piece
      finish k f names names_at =
          let f_is : f.piece ≡ piece = at_once ok.pieces e f.piece piece f.at at in
          let on_is : piece.mark k.start.marker ≡ on f.nonterminal =
          subst (λ (z : Piece). z.mark k.start.marker ≡ on f.nonterminal) f_is f.on_a in
          let a_is : f.nonterminal ≡ a = same_on f.nonterminal a (sym on_is ∙ (ap piece.mark k.is ∙ on_a)) in
          let m : Marker = record { hole = k.start.hole; terminal = number_by names.terminals k.start.marker } in
          record {
            m = m;
            has = listed.complete m (
              e,
              (let l = ok.len in omega (arith, l, less)),
              record {
                part = h.part;
                at = h.part_at;
                names = names;
                names_at = names_at;
                start = k.start;
                listed = k.has;
                is = (refl, refl);
              },
            );
            is = record {
              at = at;
              on_a = on_a;
              hole = f.hole ∙ ap (λ z. g.terminals + index_of ok.extensible z) a_is;
              terminal = ap (λ (z : Blocks). number_by z.terminals k.start.marker) (blocks_are.each e names names_at) ∙
                  ap (into_union g ok.extensible ok.pieces (of e)).terminal k.is;
            };
          }

      go : HasStart s ok e number h → IsListedMarker e number a piece
      go k =
          let (names, names_at) = at_within blocks e (let l = ok.len in let l' = blocks_are.len in omega (arith, l, l', less)) in
          finish k (start_facts s ok e h k.start k.has) names names_at

  -- what a terminal becomes by the list is what it becomes
  pub becomes_there : (home : Home) (own t : ℕ) → BecomesBy (blocks_at s ok home).terminals markers own t →
      local.Becomes g ok.extensible ok.pieces home own t
  becomes_there home own t (plain free is) = local.itself free is
  becomes_there home own t (marked m hole has own_is is) =
      let f = marker_sound m has in
      let size : ℕ = (cut_at g ok.extensible ok.pieces home).terminals.size in
      let o : own ≡ m.hole + size = own_is in
      let e : m.hole ≡ g.terminals + index_of ok.extensible f.a = f.is.hole in
      local.marker f.a f.e f.number f.piece f.is.at f.is.on_a (omega (arith, e, o)) (is ∙ f.is.terminal)

  -- and back
  pub becomes_back : (home : Home) (own t : ℕ) → local.Becomes g ok.extensible ok.pieces home own t →
      BecomesBy (blocks_at s ok home).terminals markers own t
  becomes_back home own t (local.itself free is) = plain free is
  becomes_back home own t (local.marker a e number piece at on_a own_is is) =
      let k = marker_complete e number a piece at on_a in
      let (j, a_at) = place_of ok.extensible a
      ((piece_ok g ok.extensible ok.pieces ok.certified.are_pieces e piece at).markers number a on_a).extensible_left in
      let (far, less) = hole_at_is g ok.extensible ok.pieces ok.certified.are_pieces home j a a_at in
      let size : ℕ = (cut_at g ok.extensible ok.pieces home).terminals.size in
      let o : own ≡ (g.terminals + size) + index_of ok.extensible a = own_is in
      let e' : k.m.hole ≡ g.terminals + index_of ok.extensible a = k.is.hole in
      marked k.m (subst (IsHoleBy (blocks_at s ok home).terminals) (sym own_is) (far, less)) k.has (omega (arith, e', o))
      (is ∙ sym k.is.terminal)
