-- The moves that are listed are those of the union.
use Rattle.std.proofs.Common.{◌+◌, ◌<◌, ◌∙◌, ◌∷◌, ◌++◌, ◌≡◌, ◌⊎◌, List}
use Rattle.std.proofs.Common.{[], ap, arith, inl, inr, length, refl, subst, sym, ℕ, Some, suc}
use Rattle.std.proofs.Common.{length-append}
use Rattle.std.specs.Prelude.{Contains, slice_get}
use Rattle.std.proofs.lemmas.Option.{slice_get_within}
use Rattle.wb_lemmas.proofs.Members.{nothing_in}
use Rattle.wb_lemmas.proofs.Places.{at_append, at_once, at_within}
use Rattle.wb_base.specs.declared.symbol.Symbol.{Symbol}
use Rattle.wb_base.specs.declared.symbol.Symbol.TheVariants.{Nonterminal, Terminal}
use Rattle.wb_base.specs.Grammar.{GrammarView}
use Rattle.wb_grammar_theory.proofs.LiveLemmas.{reduced_live}
use Rattle.wb_grammar_theory.specs.declared.item.Item.{Item}
use Rattle.wb_grammar_theory.specs.Shape.{IsLive}
use Rattle.wb_grammar_theory.specs.States.{IsNext}
use Rattle.wb_items.specs.declared.transitions.Move.{Move}
use Rattle.wb_items.specs.Kernels.{LeadsTo, count_of, prefix_of}
use Rattle.wb_items.specs.Parts.{IsReached}
use Rattle.wb_recheck_theory.specs.KernelLists.{AreKernelsAndMoves}
use Rattle.wb_compose_theory.specs.Homes.{Home, IsListed, of, of_host}
use Rattle.wb_compose_theory.specs.Renamings.{renamed}
use Rattle.wb_compose_theory.specs.Worlds.{on}
use Rattle.wb_compose_theory_grammar.proofs.UnitedLemmas.{is_united}
use Rattle.wb_compose_theory_grammar.specs.Pieces.{Piece}
use Rattle.wb_compose_theory_grammar.specs.UnitedWorlds.{index_of, united}
use Rattle.wb_compose_theory_kernels.proofs.HoleNames.{hole_at_is, marker_names}
use Rattle.wb_compose_theory_kernels.proofs.MoveLemmas.{move_there}
use Rattle.wb_compose_theory_kernels.proofs.SplicedLemmas.{move_back, spliced}
use Rattle.wb_compose_theory_kernels.proofs.TakenLemmas.{lead_to_bridges}
use Rattle.wb_compose_theory_kernels.specs.Kernels.{AreKernelNumbers, AreSplicedKernels, AreSplicedMoves, IsAfterMarker}
use Rattle.wb_compose_theory_kernels.specs.Kernels.{IsSplicedMove, LeadsAt, by_marker, by_symbol}
use Rattle.wb_compose_theory_kernels.specs.Parts.{IsHole, cut_at, hole_at, into_union}
use Rattle.wb_determinism_kernels.specs.declared.starts.Start.{Start}
use Rattle.wb_compose_kernels.proofs.LeadLemmas.{from_host, host_no_hole, no_hole_after, no_hole_before}
use Rattle.wb_compose_kernels.proofs.ListLemmas.{one_list}
use Rattle.wb_compose_kernels.proofs.StartLemmas.{StartFacts, marker_start, start_facts}
use Rattle.wb_compose_kernels.proofs.PartLemmas.{HasPart, at_part, has_part, in_part, kernel_numbers}
use Rattle.wb_compose_kernels.proofs.PartLemmas.{new_moves, new_past, new_taken, part_less}
use Rattle.wb_compose_kernels.proofs.PartLemmas.{zero_taken}
use Rattle.wb_compose_kernels.specs.declared.blocks.Blocks.{Blocks}
use Rattle.wb_compose_kernels.specs.declared.marks.Mark.{Mark}
use Rattle.wb_compose_kernels.specs.declared.splice.Part.{Part}
use Rattle.wb_compose_kernels.specs.declared.splice.Splice.{Splice}
use Rattle.wb_compose_kernels.specs.Lent.{AreSpliceable}
use Rattle.wb_compose_kernels.specs.Inner.Counts.{count_at, count_in, new_count_at, new_count_in, numbers_in}
use Rattle.wb_compose_kernels.specs.Inner.Blocks.{BlocksUpTo, IsHoleSymbol, blocks_at, number_by}
use Rattle.wb_compose_kernels.specs.Inner.Given.{IsGiven}
use Rattle.wb_compose_kernels.specs.Inner.Lists.{AreListed, HasNoHoleAt, IsDone, IsFromAt, IsTakenAt}
use Rattle.wb_compose_kernels.specs.Inner.Moves.{AreMovesOf, IsAnyMove}
use Rattle.wb_compose_kernels.specs.Inner.Moves.{IsHostMove, IsMarkAt, IsMoveOf}
use Rattle.wb_compose_kernels.specs.Inner.Moves.{IsPartMove, marked, plain}

-- nothing comes after
append_none : (xs : List ℕ) → xs ++ [] ≡ xs
append_none [] = refl
append_none (x ∷ xs) = ap (λ z. x ∷ z) (append_none xs)

-- nonterminals of marks
same_on : (a c : ℕ) → on a ≡ on c → a ≡ c
same_on a c e = cc

module _ (s : Splice) (ok : AreSpliceable s) (given : IsGiven s) (b : Blocks) (blocks : List Blocks) (kernels : List (List Item))
    (host : List ℕ) (new : List (List ℕ)) (moves : List (ℕ × Symbol × ℕ)) (b_is : b ≡ blocks_at s ok of_host)
    (blocks_are : BlocksUpTo s ok (length s.parts.now) blocks) (listed : AreListed s ok kernels host new)
    (made : AreMovesOf s b blocks host new moves) where
  abbrev g : GrammarView
  g = s.host.now

  abbrev numbered : AreKernelNumbers g ok.extensible ok.pieces (numbers_in s)
  numbered = kernel_numbers s ok given.kernels

  -- numbers of the lists of a certified grammar's kernels
  record AreNumbersAt (home : Home) (numbers : List ℕ) : Type 0 where
    is_listed : IsListed (length ok.pieces) home
    len : length numbers ≡ count_at s home
    each : (k u : ℕ) → HasNoHoleAt s ok home k → slice_get numbers k ≡ Some u → IsFromAt s ok kernels u home k

  of_host_numbers : AreNumbersAt of_host (host ++ [])
  of_host_numbers = record {
    is_listed = tt;
    len = ap length (append_none host) ∙ listed.of_host.len;
    each = λ k u free at. listed.of_host.each k u free (subst (λ z. slice_get z k ≡ Some u) (append_none host) at);
  }

  of_new_numbers : (e : ℕ) (numbers : List ℕ) → slice_get new e ≡ Some numbers → AreNumbersAt (of e) (host ++ numbers)
  of_new_numbers e numbers at = record {
    is_listed = less;
    len = length-append host numbers ∙ total;
    each = λ k u free there. elim (at_append host numbers u k there) [
      | inl near ↦ (let lt = slice_get_within host k u near in
          let below : k < count_of s.kernels.now = (let l = listed.of_host.len in omega (arith, lt, l)) in
          from_host g ok.extensible ok.pieces ok.certified (numbers_in s) numbered kernels u e k less below free
          (listed.of_host.each k u (host_no_hole g ok.extensible ok.pieces ok.certified (numbers_in s) numbered e k less below free) near))
      | inr (i, k_is, far) ↦ (let is : count_of s.kernels.now + i ≡ k = (let l = listed.of_host.len in omega (arith, k_is, l)) in
          subst (IsFromAt s ok kernels u (of e)) is ((listed.of_parts.each e numbers at).each i u far))
    ];
  }
    where
      less : e < length ok.pieces
      less = part_less s ok e (let w = slice_get_within new e numbers at in let l = listed.of_parts.len in omega (arith, w, l))

      total : length host + length numbers ≡ count_at s (of e)
      total =
          let h = has_part s ok e less in
          let l = (listed.of_parts.each e numbers at).len in
          let l' = listed.of_host.len in
          let m : count_of s.kernels.now + new_count_at s e ≡ count_at s (of e) =
          at_part s ok (λ gr k o. count_of k + new_count_in o ≡ count_in o) e h
          (let len = h.is.new.kernels_len in omega (arith, len)) in
          omega (arith, l, l', m)

  -- a mark is that of a marker
  record IsMarkerMark (mark : Mark) (e : ℕ) (piece : Piece) (m a : ℕ) : Type 0 where
    at : slice_get ok.pieces e ≡ Some piece
    on_a : piece.mark m ≡ on a
    hole : mark.hole ≡ g.terminals + index_of ok.extensible a
    terminal : mark.terminal ≡ (into_union g ok.extensible ok.pieces (of e)).terminal m
    after : IsAfterMarker g ok.extensible ok.pieces (numbers_in s) kernels mark.number e (piece.bridge m)

  -- a hole of a certified grammar, in either words
  hole_there : (home : Home) (x : Symbol) → IsHoleSymbol (blocks_at s ok home).terminals x → IsHole g ok.extensible ok.pieces home x
  hole_there home (Terminal t) h = h
  hole_there home (Nonterminal a) h = h

  hole_back : (home : Home) (x : Symbol) → IsHole g ok.extensible ok.pieces home x → IsHoleSymbol (blocks_at s ok home).terminals x
  hole_back home (Terminal t) h = h
  hole_back home (Nonterminal a) h = h

  -- a mark that is listed
  record MarkFacts (mark : Mark) : Type 0 where
    e : ℕ
    piece : Piece
    m : ℕ
    a : ℕ
    is : IsMarkerMark mark e piece m a

  mark_sound : (mark : Mark) → Contains made.marks mark → MarkFacts mark
  mark_sound mark has = go (made.are_marks.sound mark has)
    where
      made_of : (e : ℕ) → e < length s.parts.now → IsMarkAt s blocks host new e mark → MarkFacts mark
      made_of e lt k =
          let less = part_less s ok e lt in
          let h = has_part s ok e less in
          let f = start_facts s ok e h k.start (subst (λ (p : Part). Contains p.new.now.starts k.start)
          (at_once s.parts.now e k.part h.part k.at h.part_at) k.listed) in
          let told = marker_names g ok.extensible ok.pieces ok.certified.are_pieces e f.piece k.start.marker f.nonterminal f.at f.on_a in
          let nums = of_new_numbers e k.numbers k.numbers_at in
          let from = nums.each k.start.number mark.number
          (no_hole_after g ok.extensible ok.pieces ok.certified (numbers_in s) numbered (of e) k.start.before (Terminal k.start.marker)
          k.start.number less f.leads told.no_hole) k.is.number in
          let bridge = lead_to_bridges g ok.extensible ok.pieces ok.certified (numbers_in s) numbered e k.start.marker f.nonterminal
          k.start.before k.start.number f.piece f.at f.on_a less f.leads in
          record {
            e = e;
            piece = f.piece;
            m = k.start.marker;
            a = f.nonterminal;
            is = record {
              at = f.at;
              on_a = f.on_a;
              hole = k.is.hole ∙ f.hole;
              terminal = k.is.terminal ∙ ap (λ (z : Blocks). number_by z.terminals k.start.marker) (blocks_are.each e k.names k.names_at);
              after = record {
                kernel = from.kernel;
                at = from.at;
                exact = λ item. ((λ c. (bridge item).0 ((from.exact item).0 c)), (λ q. (from.exact item).1 ((bridge item).1 q)));
              };
            };
          }

      go : Contains [] mark ⊎ ((e : ℕ) × (e < length s.parts.now) × IsMarkAt s blocks host new e mark) → MarkFacts mark
      go (inl none) = absurd (nothing_in mark none)
      go (inr (e, lt, k)) = made_of e lt k

  -- each marker is listed
  record ListedMark (e m a : ℕ) (piece : Piece) : Type 0 where
    mark : Mark
    has : Contains made.marks mark
    is : IsMarkerMark mark e piece m a

  mark_complete : (e m a : ℕ) (piece : Piece) → slice_get ok.pieces e ≡ Some piece → piece.mark m ≡ on a → ListedMark e m a piece
  mark_complete e m a piece at on_a = (let k = marker_start s ok given.kernels e m a piece at on_a h in finish k.start k.has k.is)
    where
      less : e < length ok.pieces
      less = slice_get_within ok.pieces e piece at

      h : HasPart s ok e
      h = has_part s ok e less

      finish : (start : Start) → Contains h.part.new.now.starts start → start.marker ≡ m → ListedMark e m a piece
      finish start has m_is =
          let f = start_facts s ok e h start has in
          let lt : e < length s.parts.now = (let l = ok.len in omega (arith, l, less)) in
          let (names, names_at) = at_within blocks e (let l = blocks_are.len in omega (arith, l, lt)) in
          let (numbers, numbers_at) = at_within new e (let l = listed.of_parts.len in omega (arith, l, lt)) in
          let nums = of_new_numbers e numbers numbers_at in
          let (u, u_at) = at_within (host ++ numbers) start.number (let l = nums.len in let b' = f.leads.1 in omega (arith, l, b')) in
          let mark : Mark = record { hole = start.hole; terminal = number_by names.terminals start.marker; number = u } in
          let has_mark : Contains made.marks mark = made.are_marks.complete mark (
            e,
            lt,
            record {
              part = h.part;
              at = h.part_at;
              names = names;
              names_at = names_at;
              numbers = numbers;
              numbers_at = numbers_at;
              start = start;
              listed = has;
              is = record { hole = refl; terminal = refl; number = u_at };
            },
          ) in
          same_mark start mark f has_mark refl (ap (λ (z : Blocks). number_by z.terminals start.marker) (blocks_are.each e names names_at))
          m_is numbers nums u_at
        where
          same_mark : (start : Start) (mark : Mark) (f : StartFacts s ok e start) → Contains made.marks mark → mark.hole ≡ start.hole →
              mark.terminal ≡ (into_union g ok.extensible ok.pieces (of e)).terminal start.marker → start.marker ≡ m → (numbers : List ℕ) →
              AreNumbersAt (of e) (host ++ numbers) → slice_get (host ++ numbers) start.number ≡ Some mark.number → ListedMark e m a piece
          same_mark start mark f has_mark hole_is terminal_is m_is numbers nums u_at =
              let f_is : f.piece ≡ piece = at_once ok.pieces e f.piece piece f.at at in
              let on_is : piece.mark start.marker ≡ on f.nonterminal = subst (λ (z : Piece). z.mark start.marker ≡ on f.nonterminal) f_is
              f.on_a
              in
              let told = marker_names g ok.extensible ok.pieces ok.certified.are_pieces e piece start.marker f.nonterminal at on_is in
              let from = nums.each start.number mark.number
              (no_hole_after g ok.extensible ok.pieces ok.certified (numbers_in s) numbered (of e) start.before (Terminal start.marker)
              start.number less f.leads told.no_hole) u_at in
              let bridge = lead_to_bridges g ok.extensible ok.pieces ok.certified (numbers_in s) numbered e start.marker f.nonterminal
              start.before start.number piece at on_is less f.leads in
              let a_is : f.nonterminal ≡ a = same_on f.nonterminal a (sym on_is ∙ (ap piece.mark m_is ∙ on_a)) in
              record {
                mark = mark;
                has = has_mark;
                is = record {
                  at = at;
                  on_a = on_a;
                  hole = hole_is ∙ (f.hole ∙ ap (λ z. g.terminals + index_of ok.extensible z) a_is);
                  terminal = terminal_is ∙ ap (into_union g ok.extensible ok.pieces (of e)).terminal m_is;
                  after = subst (λ z. IsAfterMarker g ok.extensible ok.pieces (numbers_in s) kernels mark.number e (piece.bridge z)) m_is
                      (record {
                        kernel = from.kernel;
                        at = from.at;
                        exact = λ item. ((λ c. (bridge item).0 ((from.exact item).0 c)), (λ q. (from.exact item).1 ((bridge item).1 q)));
                      });
                };
              }

  -- a move that is made is one of the union
  move_sound : (home : Home) (numbers : List ℕ) (nums : AreNumbersAt home numbers) (k u u' v : ℕ) (move : Move) (y : Symbol) →
      LeadsAt g ok.extensible ok.pieces (numbers_in s) home k move.symbol move.state →
      IsMoveOf (blocks_at s ok home) numbers made.marks u move (u', y, v) →
      (u' ≡ u) × IsSplicedMove g ok.extensible ok.pieces (numbers_in s) kernels home k y v
  move_sound home numbers nums k u u' v move y leads (plain w free at is) =
      let y_is : y ≡ renamed (into_union g ok.extensible ok.pieces home) move.symbol = ap (λ (z : ℕ × Symbol × ℕ). z.1) is in
      let v_is : v ≡ w = ap (λ (z : ℕ × Symbol × ℕ). z.2) is in
      let not : ¬ IsHole g ok.extensible ok.pieces home move.symbol = λ h. free (hole_back home move.symbol h) in
      let from = nums.each move.state w (no_hole_after g ok.extensible ok.pieces ok.certified (numbers_in s) numbered home k move.symbol
      move.state nums.is_listed leads not) at in (
        ap (λ (z : ℕ × Symbol × ℕ). z.0) is,
        by_symbol move.symbol move.state leads not y_is (subst (λ z. IsFromAt s ok kernels z home
            move.state) (sym v_is) from),
      )
  move_sound home numbers nums k u u' v move y leads (marked mark hole has symbol_is is) =
      let f = mark_sound mark has in
      let y_is : y ≡ Terminal mark.terminal = ap (λ (z : ℕ × Symbol × ℕ). z.1) is in
      let v_is : v ≡ mark.number = ap (λ (z : ℕ × Symbol × ℕ). z.2) is in
      let hole_is : mark.hole + (cut_at g ok.extensible ok.pieces home).terminals.size ≡ hole_at g ok.extensible ok.pieces home f.a =
      (let e = f.is.hole in omega (arith, e)) in (
        ap (λ (z : ℕ × Symbol × ℕ). z.0) is,
        by_marker f.a move.state f.e f.m f.piece
            (subst (λ z. LeadsAt g ok.extensible ok.pieces (numbers_in s) home k z move.state) (symbol_is ∙ ap Terminal hole_is) leads)
            f.is.at
            f.is.on_a (y_is ∙ ap Terminal f.is.terminal)
            (subst (λ z. IsAfterMarker g ok.extensible ok.pieces (numbers_in s) kernels z f.e (f.piece.bridge f.m)) (sym v_is) f.is.after),
      )

  -- lists after one marker are one
  one_after : (u v e q : ℕ) → IsAfterMarker g ok.extensible ok.pieces (numbers_in s) kernels u e q →
      IsAfterMarker g ok.extensible ok.pieces (numbers_in s) kernels v e q → u ≡ v
  one_after u v e q one other = listed.so_far.apart u v one.kernel other.kernel one.at other.at
      (λ item. ((λ c. (other.exact item).1 ((one.exact item).0 c)), (λ c. (one.exact item).1 ((other.exact item).0 c))))

  -- a move of the union is made
  record MadeMove (home : Home) (numbers : List ℕ) (k u : ℕ) (y : Symbol) (v : ℕ) : Type 0 where
    move : Move
    leads : LeadsAt g ok.extensible ok.pieces (numbers_in s) home k move.symbol move.state
    is : IsMoveOf (blocks_at s ok home) numbers made.marks u move (u, y, v)

  move_complete : (home : Home) (numbers : List ℕ) (nums : AreNumbersAt home numbers) (k u v : ℕ) (y : Symbol) →
      IsSplicedMove g ok.extensible ok.pieces (numbers_in s) kernels home k y v → MadeMove home numbers k u y v
  move_complete home numbers nums k u v y (by_symbol x next leads free y_is to) =
      let (w, at) = at_within numbers next (let l = nums.len in let b' = leads.1 in omega (arith, l, b')) in
      let from = nums.each next w (no_hole_after g ok.extensible ok.pieces ok.certified (numbers_in s) numbered home k x next
      nums.is_listed leads free) at in
      let v_is : v ≡ w = one_list s ok listed.so_far v w home next to from in
      record {
        move = record { symbol = x; state = next };
        leads = leads;
        is = plain w (λ h. free (hole_there home x h)) at (λ i. (u, y_is i, v_is i));
      }
  move_complete home numbers nums k u v y (by_marker a next e m piece leads at on_a y_is after) =
      let l = mark_complete e m a piece at on_a in
      let told = marker_names g ok.extensible ok.pieces ok.certified.are_pieces e piece m a at on_a in
      let v_is : v ≡ l.mark.number = one_after v l.mark.number e (piece.bridge m) after l.is.after in
      let hole_is : hole_at g ok.extensible ok.pieces home a ≡ l.mark.hole + (cut_at g ok.extensible ok.pieces home).terminals.size =
      (let h = l.is.hole in omega (arith, h)) in
      record {
        move = record { symbol = Terminal (hole_at g ok.extensible ok.pieces home a); state = next };
        leads = leads;
        is = marked l.mark (hole_at_is g ok.extensible ok.pieces ok.certified.are_pieces home told.place a told.at) l.has
            (ap Terminal hole_is) (λ i. (u, (y_is ∙ ap Terminal (sym l.is.terminal)) i, v_is i));
      }

  -- where a listed move is from
  record MoveFrom (u : ℕ) (y : Symbol) (v : ℕ) : Type 0 where
    home : Home
    k : ℕ
    taken : IsTakenAt s ok home k
    from : IsFromAt s ok kernels u home k
    is : IsSplicedMove g ok.extensible ok.pieces (numbers_in s) kernels home k y v

  host_leads : (k : ℕ) (x : Symbol) (next : ℕ) → LeadsTo s.kernels.now k x next →
      LeadsAt g ok.extensible ok.pieces (numbers_in s) of_host k x next
  host_leads k x next l =
      subst (λ (gr : GrammarView). IsNext gr (count_of s.kernels.now) (prefix_of s.kernels.now) k x next) ok.of_host l

  moves_sound : (u : ℕ) (y : Symbol) (v : ℕ) → Contains moves (u, y, v) → MoveFrom u y v
  moves_sound u y v has = go (made.added.sound (u, y, v) has)
    where
      of_host_move : (k : ℕ) → IsHostMove s b host made.marks k (u, y, v) → MoveFrom u y v
      of_host_move k z =
          let leads = host_leads k z.move.symbol z.move.state z.leads in
          let free = no_hole_before g ok.extensible ok.pieces ok.certified (numbers_in s) numbered of_host k z.move.symbol z.move.state tt
          leads in
          let (u_is, is) = move_sound of_host (host ++ []) of_host_numbers k z.number u v z.move y leads
          (subst (λ (n : Blocks). IsMoveOf n (host ++ []) made.marks z.number z.move (u, y, v)) b_is z.is) in
          record {
            home = of_host;
            k = k;
            taken = (leads.0, free);
            from = subst (λ n. IsFromAt s ok kernels n of_host k) (sym u_is) (listed.of_host.each k z.number free z.at);
            is = is;
          }

      of_part_move : (e : ℕ) → IsPartMove s blocks host new made.marks e (u, y, v) → MoveFrom u y v
      of_part_move e z =
          let lt : e < length s.parts.now = (let w = slice_get_within new e z.numbers z.numbers_at in let l = listed.of_parts.len in
          omega (arith, w, l)) in
          let less = part_less s ok e lt in
          let h = has_part s ok e less in
          let part_is : z.is.part ≡ h.part = at_once s.parts.now e z.is.part h.part z.is.part_at h.part_at in
          let row_at = subst (λ (p : Part). slice_get p.new.now.moves z.place ≡ Some z.is.row) part_is z.is.row_at in
          let row = z.is.is in
          let leads = (new_moves s ok given.kernels e z.place h z.is.row row_at row.move.symbol row.move.state).0 row.listed in
          let below : z.place < new_count_at s e =
          (let w = slice_get_within z.numbers z.place z.is.number z.is.at in let l = (listed.of_parts.each e z.numbers z.numbers_at).len in
          omega (arith, w, l)) in
          let (u_is, is) = move_sound (of e) (host ++ z.numbers) (of_new_numbers e z.numbers z.numbers_at)
          (count_of s.kernels.now + z.place) z.is.number u v row.move y leads
          (subst (λ (n : Blocks). IsMoveOf n (host ++ z.numbers) made.marks z.is.number row.move (u, y, v))
          (blocks_are.each e z.names z.names_at) row.is) in
          record {
            home = of e;
            k = count_of s.kernels.now + z.place;
            taken = new_taken s ok given.kernels e z.place less below;
            from = subst (λ n. IsFromAt s ok kernels n (of e) (count_of s.kernels.now + z.place)) (sym u_is)
                ((listed.of_parts.each e z.numbers z.numbers_at).each z.place z.is.number z.is.at);
            is = is;
          }

      go : Contains {X = ℕ × Symbol × ℕ} [] (u, y, v) ⊎ IsAnyMove s b blocks host new made.marks (u, y, v) → MoveFrom u y v
      go (inl none) = absurd (nothing_in {X = ℕ × Symbol × ℕ} (u, y, v) none)
      go (inr (inl (k, z))) = of_host_move k z
      go (inr (inr (e, z))) = of_part_move e z

  moves_complete : (home : Home) (k u : ℕ) (y : Symbol) (v : ℕ) → IsTakenAt s ok home k → IsFromAt s ok kernels u home k →
      IsSplicedMove g ok.extensible ok.pieces (numbers_in s) kernels home k y v → Contains moves (u, y, v)
  moves_complete of_host k u y v taken from is =
      let (n, at) = at_within host k (let l = listed.of_host.len in let b' = taken.0 in omega (arith, l, b')) in
      let u_is : n ≡ u = one_list s ok listed.so_far n u of_host k (listed.of_host.each k n taken.1 at) from in
      let z = move_complete of_host (host ++ []) of_host_numbers k u v y is in
      made.added.complete (u, y, v) (inl (
        k,
        record {
          number = n;
          at = at;
          move = z.move;
          leads = subst (λ (gr : GrammarView). IsNext gr (count_of s.kernels.now) (prefix_of s.kernels.now) k z.move.symbol z.move.state)
              (sym ok.of_host) z.leads;
          is = subst (λ (m : Blocks). IsMoveOf m (host ++ []) made.marks n z.move (u, y, v)) (sym b_is)
              (subst (λ m. IsMoveOf (blocks_at s ok of_host) (host ++ []) made.marks m z.move (u, y, v)) (sym u_is) z.is);
        },
      ))
  moves_complete (of e) k u y v (less, far, below) from is =
      let (i, lt, k_is) = new_past s ok given.kernels e k less below far in
      let h = has_part s ok e less in
      let e_lt : e < length s.parts.now = (let l = ok.len in omega (arith, l, less)) in
      let (names, names_at) = at_within blocks e (let l = blocks_are.len in omega (arith, l, e_lt)) in
      let (numbers, numbers_at) = at_within new e (let l = listed.of_parts.len in omega (arith, l, e_lt)) in
      let each = listed.of_parts.each e numbers numbers_at in
      let (n, at) = at_within numbers i (let l = each.len in omega (arith, l, lt)) in
      let u_is : n ≡ u = one_list s ok listed.so_far n u (of e) k (subst (IsFromAt s ok kernels n (of e)) (sym k_is) (each.each i n at))
      from in
      let z = move_complete (of e) (host ++ numbers) (of_new_numbers e numbers numbers_at) k u v y is in
      let rows_len : i < length h.part.new.now.moves = (let w = in_part s ok (λ gr c o. i < new_count_in o) e h lt in
      let l = h.is.new.kernels_len in let l' = h.is.new.moves_len in omega (arith, w, l, l')) in
      let (row, row_at) = at_within h.part.new.now.moves i rows_len in
      made.added.complete (u, y, v) (inr (
        e,
        record {
          names = names;
          names_at = names_at;
          numbers = numbers;
          numbers_at = numbers_at;
          place = i;
          is = record {
            part = h.part;
            part_at = h.part_at;
            row = row;
            row_at = row_at;
            number = n;
            at = at;
            is = record {
              move = z.move;
              listed = (new_moves s ok given.kernels e i h row row_at z.move.symbol z.move.state).1
                  (subst (λ c. LeadsAt g ok.extensible ok.pieces (numbers_in s) (of e) c z.move.symbol z.move.state) k_is z.leads);
              is = subst (λ (m : Blocks). IsMoveOf m (host ++ numbers) made.marks n z.move (u, y, v)) (sym (blocks_are.each e names
                  names_at))
                  (subst (λ m. IsMoveOf (blocks_at s ok (of e)) (host ++ numbers) made.marks m z.move (u, y, v)) (sym u_is) z.is);
            };
          };
        },
      ))

  -- all kernels that are taken are listed, each once
  are_spliced : AreSplicedKernels g ok.extensible ok.pieces (numbers_in s) kernels
  are_spliced = record {
    first = listed.so_far.first (let (u, from) = listed.so_far.all of_host 0 (zero_taken s ok given.kernels) tt in
        let w = slice_get_within kernels u from.kernel from.at in omega (arith, w));
    sound = λ u lt. (let (home, k, taken, done, from) = listed.so_far.sound u lt in (home, k, taken, from));
    all = λ home k taken. listed.so_far.all home k taken (done home k taken);
    once = λ u v home k one other. one_list s ok listed.so_far u v home k one other;
  }
    where
      done : (home : Home) (k : ℕ) → IsTakenAt s ok home k → IsDone s ok (length s.parts.now) 0 home k
      done of_host k taken = tt
      done (of e) k (less, far, below) = inl (let l = ok.len in omega (arith, l, less))

  -- and the moves are those between them
  are_moves : AreSplicedMoves g ok.extensible ok.pieces (numbers_in s) kernels moves
  are_moves = record {
    within = λ u y v has. (let f = (moves_sound u y v has).from in slice_get_within kernels u f.kernel f.at);
    each = λ u lt. (let (home, k, taken, from) = are_spliced.sound u lt in record {
      home = home;
      number = k;
      taken = taken;
      source = from;
      exact = λ y v. (
        (λ has. (let f = moves_sound u y v has in
            move_back g ok.extensible ok.pieces ok.certified (numbers_in s) numbered kernels u home k y v taken from
            (move_there g ok.extensible ok.pieces ok.certified (numbers_in s) numbered kernels u f.home f.k y v f.taken f.from f.is))),
        (λ is. moves_complete home k u y v taken from is),
      );
    });
  }

  pub kernels_and_moves : AreKernelsAndMoves (united g ok.extensible ok.pieces) kernels moves
  kernels_and_moves = spliced g ok.extensible ok.pieces ok.certified (numbers_in s) numbered kernels are_spliced moves are_moves

  pub all_reached : (v : ℕ) → suc v < length kernels → IsReached moves (suc v)
  all_reached v lt = (let r = listed.so_far.reached v lt in record {
    from = r.from;
    symbol = r.symbol;
    before = r.before;
    listed = (kernels_and_moves.between r.from r.symbol (suc v)).1 r.between;
  })

-- the union is live
pub union_live : (s : Splice) (ok : AreSpliceable s) → IsLive (united s.host.now ok.extensible ok.pieces)
union_live s ok =
    let u = is_united s.host.now ok.extensible ok.pieces ok.certified in
    reduced_live (united s.host.now ok.extensible ok.pieces) u.is_grammar u.fit.reduced
