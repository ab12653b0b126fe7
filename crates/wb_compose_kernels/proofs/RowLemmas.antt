-- Rows of moves and starts, in numbers that are there, and what loops over them add.
use Rattle.std.proofs.Common.{◌+◌, ◌<◌, ◌∙◌, ◌∷◌, ◌++◌, ◌≡◌, ◌⊎◌, List, [], ap, arith, inl, inr, length, refl, subst, sym, ℕ, Some}
use Rattle.std.specs.Prelude.{◌↔◌, Contains, slice_get}
use Rattle.std.proofs.lemmas.Option.{slice_get_within}
use Rattle.wb_lemmas.proofs.Members.{contains_at, place_in}
use Rattle.wb_lemmas.proofs.Places.{at_once}
use Rattle.wb_base.specs.declared.symbol.Symbol.{Symbol}
use Rattle.wb_base.specs.declared.symbol.Symbol.TheVariants.{Terminal}
use Rattle.wb_grammar_theory.specs.declared.item.Item.{Item}
use Rattle.wb_items.specs.declared.transitions.Move.{Move}
use Rattle.wb_items.specs.Kernels.{LeadsTo, count_of}
use Rattle.wb_compose_theory.specs.Renamings.{renamed}
use Rattle.wb_determinism_kernels.proofs.PrefixLemmas.{beside_below}
use Rattle.wb_determinism_kernels.specs.declared.starts.Start.{Start}
use Rattle.wb_determinism_kernels.specs.Numbers.{up_by}
use Rattle.wb_compose_kernels.proofs.AddLemmas.{adds_as, adds_both, adds_next, adds_push}
use Rattle.wb_compose_kernels.proofs.PartLemmas.{HasPart, at_part, has_part, new_moves, part_less}
use Rattle.wb_compose_kernels.specs.declared.blocks.Blocks.{Blocks}
use Rattle.wb_compose_kernels.specs.declared.marks.Mark.{Mark}
use Rattle.wb_compose_kernels.specs.declared.splice.Part.{Part}
use Rattle.wb_compose_kernels.specs.declared.splice.Splice.{Splice}
use Rattle.wb_compose_kernels.specs.Lent.{AreSpliceable, IsPartOf}
use Rattle.wb_compose_kernels.specs.Inner.Counts.{count_in, new_count_at, new_count_in}
use Rattle.wb_compose_kernels.specs.Inner.Blocks.{IsHoleSymbol, names_by}
use Rattle.wb_compose_kernels.specs.Inner.Given.{IsGiven}
use Rattle.wb_compose_kernels.specs.Inner.Lists.{AreListed}
use Rattle.wb_compose_kernels.specs.Inner.Moves.{Adds, AreMarksUpTo, IsAnyMove, IsHostMove, IsMarkAt, IsMarkOf, IsMoveOf, IsNewMove}
use Rattle.wb_compose_kernels.specs.Inner.Moves.{IsPartMove, IsRowMove, marked, plain}
use Rattle.wb_compose_kernels.specs.Inner.Taken.{AreNumbersOf, IsMarkedBy}

-- nothing comes after
pub append_none : (xs : List ℕ) → xs ++ [] ≡ xs
append_none [] = refl
append_none (x ∷ xs) = ap (λ z. x ∷ z) (append_none xs)

-- one start has one mark
pub mark_once : (b : Blocks) (numbers : List ℕ) (start : Start) (one other : Mark) → IsMarkOf b numbers start one →
    IsMarkOf b numbers start other → other ≡ one
mark_once b numbers start one other p q =
    let n : other.number ≡ one.number = at_once numbers start.number other.number one.number q.number p.number in
    λ i. record { hole = (q.hole ∙ sym p.hole) i; terminal = (q.terminal ∙ sym p.terminal) i; number = n i }

-- moves over markers that stand for a hole are those that are made of one over the hole
pub marked_moves : (b : Blocks) (numbers : List ℕ) (marks : List Mark) (u hole : ℕ) (found : Move) (old new : List (ℕ × Symbol × ℕ)) →
    IsHoleSymbol b.terminals found.symbol → found.symbol ≡ Terminal (hole + b.terminals.size) → Adds (IsMarkedBy marks hole u) old new →
    Adds (IsMoveOf b numbers marks u found) old new
marked_moves b numbers marks u hole found old new is_hole is h =
    adds_as (IsMarkedBy marks hole u) (IsMoveOf b numbers marks u found) old new there back h
  where
    there : (m : ℕ × Symbol × ℕ) → IsMarkedBy marks hole u m → IsMoveOf b numbers marks u found m
    there m (mark, has, same, m_is) = marked mark is_hole has (is ∙ ap (λ z. Terminal (z + b.terminals.size)) (sym same)) m_is

    back : (m : ℕ × Symbol × ℕ) → IsMoveOf b numbers marks u found m → IsMarkedBy marks hole u m
    back m (plain v free at m_is) = absurd (free is_hole)
    back m (marked mark hole_is has symbol_is m_is) =
        let e : Terminal (hole + b.terminals.size) ≡ Terminal (mark.hole + b.terminals.size) = sym is ∙ symbol_is in
        let f : hole + b.terminals.size ≡ mark.hole + b.terminals.size = cc in
        (mark, has, omega (arith, f), m_is)

-- the move over a symbol that is no hole
pub plain_move : (b : Blocks) (numbers : List ℕ) (marks : List Mark) (u v : ℕ) (found : Move) (old new : List (ℕ × Symbol × ℕ)) →
    ¬ IsHoleSymbol b.terminals found.symbol → slice_get numbers found.state ≡ Some v →
    new ≡ old ++ (u, renamed (names_by b) found.symbol, v) ∷ [] → Adds (IsMoveOf b numbers marks u found) old new
plain_move b numbers marks u v found old new free at is =
    adds_push (IsMoveOf b numbers marks u found) old new (u, renamed (names_by b) found.symbol, v) is (plain v free at refl) only
  where
    only : (m : ℕ × Symbol × ℕ) → IsMoveOf b numbers marks u found m → m ≡ (u, renamed (names_by b) found.symbol, v)
    only m (plain w free' at' m_is) =
        m_is ∙ ap (λ z. (u, renamed (names_by b) found.symbol, z)) (at_once numbers found.state w v at' at)
    only m (marked mark hole has symbol_is m_is) = absurd (free hole)

-- rows of one kernel, and of its number
pub host_moves : (s : Splice) (b : Blocks) (host : List ℕ) (marks : List Mark) (k u : ℕ) (row : List Move)
    (old new : List (ℕ × Symbol × ℕ)) → slice_get (host ++ []) k ≡ Some u →
    ((x : Symbol) (next : ℕ) → Contains row (record { symbol = x; state = next }) ↔ LeadsTo s.kernels.now k x next) →
    Adds (IsRowMove b (host ++ []) marks u row) old new → Adds (IsHostMove s b host marks k) old new
host_moves s b host marks k u row old new at exact h =
    adds_as (IsRowMove b (host ++ []) marks u row) (IsHostMove s b host marks k) old new
    (λ m r. record {
      number = u;
      at = here;
      move = r.move;
      leads = (exact r.move.symbol r.move.state).0 r.listed;
      is = r.is;
    })
    (λ m z. record {
      move = z.move;
      listed = (exact z.move.symbol z.move.state).1 z.leads;
      is = subst (λ n. IsMoveOf b (host ++ []) marks n z.move m) (at_once host k z.number u z.at here) z.is;
    }) h
  where
    here : slice_get host k ≡ Some u
    here = subst (λ z. slice_get z k ≡ Some u) (append_none host) at

pub part_moves : (s : Splice) (b : Blocks) (host numbers : List ℕ) (marks : List Mark) (e i u : ℕ) (part : Part) (row : List Move)
    (old new : List (ℕ × Symbol × ℕ)) → slice_get s.parts.now e ≡ Some part → slice_get part.new.now.moves i ≡ Some row →
    slice_get numbers i ≡ Some u → Adds (IsRowMove b (host ++ numbers) marks u row) old new →
    Adds (IsNewMove s b host numbers marks e i) old new
part_moves s b host numbers marks e i u part row old new part_at row_at at h =
    adds_as (IsRowMove b (host ++ numbers) marks u row) (IsNewMove s b host numbers marks e i) old new
    (λ m r. record { part = part; part_at = part_at; row = row; row_at = row_at; number = u; at = at; is = r })
    (λ m z. (let p = at_once s.parts.now e z.part part z.part_at part_at in
    let r = at_once part.new.now.moves i z.row row
    (subst (λ (q : Part). slice_get q.new.now.moves i ≡ Some z.row) p z.row_at) row_at in
    subst (λ n. IsRowMove b (host ++ numbers) marks n row m) (at_once numbers i z.number u z.at at)
    (subst (λ n. IsRowMove b (host ++ numbers) marks z.number n m) r z.is))) h

module _ (s : Splice) (ok : AreSpliceable s) (given : IsGiven s) where
  -- all that moves lead to has a number
  pub starts_below : (e : ℕ) (h : HasPart s ok e) (start : Start) → Contains h.part.new.now.starts start →
      start.number < count_of s.kernels.now + new_count_at s e
  starts_below e h start has =
      at_part s ok (λ g k o. start.number < count_of k + new_count_in o) e h
      (let l = (h.is.new.starts has.0 start (place_in h.part.new.now.starts start has)).leads in
      let b = beside_below (up_by h.part.beside.now.numbers.now) h.part.beside.now.host.now h.part.new.now.index.steps start.number l.other
      l.to in let len = h.is.new.kernels_len in omega (arith, b, len))

  pub rows_below : (e i : ℕ) (h : HasPart s ok e) (row : List Move) → slice_get h.part.new.now.moves i ≡ Some row → (move : Move) →
      Contains row move → move.state < count_of s.kernels.now + new_count_at s e
  rows_below e i h row at move has =
      let b = ((new_moves s ok given.kernels e i h row at move.symbol move.state).0 has).1 in
      let c : count_of s.kernels.now + new_count_at s e ≡ count_in (slice_get s.parts.now e) =
      at_part s ok (λ g k o. count_of k + new_count_in o ≡ count_in o) e h (let len = h.is.new.kernels_len in omega (arith, len)) in
      omega (arith, b, c)

  -- all lists have numbers
  pub numbers_are : {kernels : List (List Item)} {host : List ℕ} {new : List (List ℕ)} → AreListed s ok kernels host new →
      AreNumbersOf s host new
  numbers_are h = record {
    of_host = h.of_host.len;
    len = h.of_parts.len;
    each = λ e numbers at. (h.of_parts.each e numbers at).len;
  }

-- the markers of one extension more
pub marks_more : (s : Splice) (blocks : List Blocks) (host : List ℕ) (new : List (List ℕ)) (n : ℕ) (marks more : List Mark) (part : Part)
    (names : Blocks) (numbers : List ℕ) (starts : List Start) → slice_get s.parts.now n ≡ Some part → starts ≡ part.new.now.starts →
    slice_get blocks n ≡ Some names → slice_get new n ≡ Some numbers →
    Adds (λ mark. (start : Start) × Contains starts start × IsMarkOf names (host ++ numbers) start mark) marks more →
    AreMarksUpTo s blocks host new n marks → AreMarksUpTo s blocks host new (n + 1) more
marks_more s blocks host new n marks more part names numbers starts part_at starts_are names_at numbers_at h all =
    adds_next (IsMarkAt s blocks host new) n [] marks more all
    (adds_as (λ mark. (start : Start) × Contains starts start × IsMarkOf names (host ++ numbers) start mark)
    (IsMarkAt s blocks host new n) marks more
    (λ mark (start, has, is). record {
      part = part;
      at = part_at;
      names = names;
      names_at = names_at;
      numbers = numbers;
      numbers_at = numbers_at;
      start = start;
      listed = subst (λ z. Contains z start) starts_are has;
      is = is;
    })
    (λ mark k. (
      k.start,
      subst (λ z. Contains z k.start) (sym starts_are)
          (subst (λ (p : Part). Contains p.new.now.starts k.start) (at_once s.parts.now n k.part part k.at part_at) k.listed),
      subst (λ (z : Blocks). IsMarkOf z (host ++ numbers) k.start mark) (at_once blocks n k.names names k.names_at names_at)
          (subst (λ z. IsMarkOf k.names (host ++ z) k.start mark) (at_once new n k.numbers numbers k.numbers_at numbers_at) k.is),
    )) h)

-- all moves of one extension
pub part_all : (s : Splice) (blocks : List Blocks) (host : List ℕ) (new : List (List ℕ)) (marks : List Mark) (e count : ℕ) (names : Blocks)
    (numbers : List ℕ) (old more : List (ℕ × Symbol × ℕ)) → slice_get blocks e ≡ Some names → slice_get new e ≡ Some numbers →
    length numbers ≡ count → Adds (λ m. (i : ℕ) × (i < count) × IsNewMove s names host numbers marks e i m) old more →
    Adds (IsPartMove s blocks host new marks e) old more
part_all s blocks host new marks e count names numbers old more names_at numbers_at len h =
    adds_as (λ m. (i : ℕ) × (i < count) × IsNewMove s names host numbers marks e i m) (IsPartMove s blocks host new marks e) old more
    (λ m (i, lt, is). record {
      names = names;
      names_at = names_at;
      numbers = numbers;
      numbers_at = numbers_at;
      place = i;
      is = is;
    })
    (λ m k. (
      k.place,
      (let w = slice_get_within k.numbers k.place k.is.number k.is.at in
          let n = ap length (at_once new e k.numbers numbers k.numbers_at numbers_at) in omega (arith, w, n, len)),
      subst (λ (z : Blocks). IsNewMove s z host numbers marks e k.place m) (at_once blocks e k.names names k.names_at names_at)
          (subst (λ z. IsNewMove s k.names host z marks e k.place m) (at_once new e k.numbers numbers k.numbers_at numbers_at) k.is),
    )) h

-- rows, starts and marks by places
pub by_places : {X Y : Type 0} (xs : List X) (P : X → Y → Type 0) (old new : List Y) →
    Adds (λ y. (j : ℕ) × (j < length xs) × ((x : X) × (slice_get xs j ≡ Some x) × P x y)) old new →
    Adds (λ y. (x : X) × Contains xs x × P x y) old new
by_places {X} {Y} xs P old new h =
    adds_as (λ y. (j : ℕ) × (j < length xs) × ((x : X) × (slice_get xs j ≡ Some x) × P x y)) (λ y. (x : X) × Contains xs x × P x y) old new
    (λ y (j, lt, (x, at, p)). (x, contains_at xs x j at, p))
    (λ y (x, has, p). (has.0, has.1, (x, place_in xs x has, p))) h

-- one at a place
pub at_place : {X Y : Type 0} (xs : List X) (P : X → Y → Type 0) (n : ℕ) (x : X) (old new : List Y) → slice_get xs n ≡ Some x →
    Adds (P x) old new → Adds (λ y. (z : X) × (slice_get xs n ≡ Some z) × P z y) old new
at_place {X} {Y} xs P n x old new at h =
    adds_as (P x) (λ y. (z : X) × (slice_get xs n ≡ Some z) × P z y) old new (λ y p. (x, at, p))
    (λ y (z, there, p). subst (λ w. P w y) (at_once xs n z x there at) p) h

-- rows in other words
pub as_row : (b : Blocks) (numbers : List ℕ) (marks : List Mark) (u : ℕ) (row : List Move) (old new : List (ℕ × Symbol × ℕ)) →
    Adds (λ m. (move : Move) × Contains row move × IsMoveOf b numbers marks u move m) old new →
    Adds (IsRowMove b numbers marks u row) old new
as_row b numbers marks u row old new h =
    adds_as (λ m. (move : Move) × Contains row move × IsMoveOf b numbers marks u move m) (IsRowMove b numbers marks u row) old new
    (λ m (move, has, is). record { move = move; listed = has; is = is }) (λ m r. (r.move, r.listed, r.is)) h

-- all moves
pub any_moves : (s : Splice) (b : Blocks) (blocks : List Blocks) (host : List ℕ) (new : List (List ℕ)) (marks : List Mark) (count : ℕ)
    (middle moves : List (ℕ × Symbol × ℕ)) → length host ≡ count → length new ≡ length s.parts.now →
    Adds (λ m. (k : ℕ) × (k < count) × IsHostMove s b host marks k m) [] middle →
    Adds (λ m. (e : ℕ) × (e < length s.parts.now) × IsPartMove s blocks host new marks e m) middle moves →
    Adds (IsAnyMove s b blocks host new marks) [] moves
any_moves s b blocks host new marks count middle moves host_len new_len h k =
    adds_as (λ m. ((i : ℕ) × (i < count) × IsHostMove s b host marks i m) ⊎
    ((e : ℕ) × (e < length s.parts.now) × IsPartMove s blocks host new marks e m)) (IsAnyMove s b blocks host new marks) [] moves there back
    (adds_both (λ m. (i : ℕ) × (i < count) × IsHostMove s b host marks i m)
    (λ m. (e : ℕ) × (e < length s.parts.now) × IsPartMove s blocks host new marks e m) [] middle moves h k)
  where
    there : (m : ℕ × Symbol × ℕ) → ((i : ℕ) × (i < count) × IsHostMove s b host marks i m) ⊎
        ((e : ℕ) × (e < length s.parts.now) × IsPartMove s blocks host new marks e m) → IsAnyMove s b blocks host new marks m
    there m (inl (i, lt, is)) = inl (i, is)
    there m (inr (e, lt, is)) = inr (e, is)

    back : (m : ℕ × Symbol × ℕ) → IsAnyMove s b blocks host new marks m → ((i : ℕ) × (i < count) × IsHostMove s b host marks i m) ⊎
        ((e : ℕ) × (e < length s.parts.now) × IsPartMove s blocks host new marks e m)
    back m (inl (i, is)) = inl (i, (let w = slice_get_within host i is.number is.at in omega (arith, w, host_len)), is)
    back m (inr (e, is)) = inr (e, (let w = slice_get_within new e is.numbers is.numbers_at in omega (arith, w, new_len)), is)

-- starts lead to numbers that are there
pub starts_within : (s : Splice) (given : IsGiven s) (host : List ℕ) (new : List (List ℕ)) → AreNumbersOf s host new → (e : ℕ) (part : Part)
    (starts : List Start) (numbers : List ℕ) → slice_get s.parts.now e ≡ Some part → starts ≡ part.new.now.starts →
    slice_get new e ≡ Some numbers → (start : Start) → Contains starts start → start.number < length host + length numbers
starts_within s given host new are e part starts numbers part_at starts_are at start has =
    let less = part_less s given.spliceable e (slice_get_within s.parts.now e part part_at) in
    let h = has_part s given.spliceable e less in
    let there = subst (λ (p : Part). Contains p.new.now.starts start) (at_once s.parts.now e part h.part part_at h.part_at)
    (subst (λ z. Contains z start) starts_are has) in
    let b = starts_below s given.spliceable given e h start there in
    let l = are.of_host in
    let m = are.each e numbers at in
    omega (arith, b, l, m)

-- rows too
pub rows_within : (s : Splice) (given : IsGiven s) (host numbers : List ℕ) (e i : ℕ) (part : Part) (row : List Move) →
    length host ≡ count_of s.kernels.now → length numbers ≡ new_count_at s e → slice_get s.parts.now e ≡ Some part →
    slice_get part.new.now.moves i ≡ Some row → (move : Move) → Contains row move → move.state < length host + length numbers
rows_within s given host numbers e i part row host_len len part_at row_at move has =
    let less = part_less s given.spliceable e (slice_get_within s.parts.now e part part_at) in
    let h = has_part s given.spliceable e less in
    let there = subst (λ (p : Part). slice_get p.new.now.moves i ≡ Some row) (at_once s.parts.now e part h.part part_at h.part_at) row_at in
    let b = rows_below s given.spliceable given e i h row there move has in
    omega (arith, b, host_len, len)

-- a row of moves is there for each new kernel
pub row_there : (s : Splice) (given : IsGiven s) (e i : ℕ) (part : Part) → slice_get s.parts.now e ≡ Some part → i < new_count_at s e →
    i < length part.new.now.moves
row_there s given e i part part_at lt =
    let less = part_less s given.spliceable e (slice_get_within s.parts.now e part part_at) in
    let is = ok_part s given e part part_at less in
    let n : i < length part.new.now.index.kernels = subst (λ o. i < new_count_in o) part_at lt in
    let a = is.new.kernels_len in
    let b = is.new.moves_len in
    omega (arith, n, a, b)
  where
    ok_part : (s : Splice) (given : IsGiven s) (e : ℕ) (part : Part) (part_at : slice_get s.parts.now e ≡ Some part)
        (less : e < length given.spliceable.pieces) →
        IsPartOf s.host.now given.spliceable.extensible s.kernels.now (has_part s given.spliceable e less).piece part
    ok_part s given e part part_at less =
        let h = has_part s given.spliceable e less in given.spliceable.parts e h.piece part h.piece_at part_at

-- markers that stand for a hole, by places
pub marked_places : (marks : List Mark) (hole u : ℕ) (old new : List (ℕ × Symbol × ℕ)) → Adds (λ m. (j : ℕ) × (j < length marks) ×
    ((mark : Mark) × (slice_get marks j ≡ Some mark) × (mark.hole ≡ hole) × (m ≡ (u, Terminal mark.terminal, mark.number)))) old new →
    Adds (IsMarkedBy marks hole u) old new
marked_places marks hole u old new h =
    adds_as (λ m. (j : ℕ) × (j < length marks) ×
    ((mark : Mark) × (slice_get marks j ≡ Some mark) × (mark.hole ≡ hole) × (m ≡ (u, Terminal mark.terminal, mark.number))))
    (IsMarkedBy marks hole u) old new (λ m (j, lt, (mark, at, is, m_is)). (mark, contains_at marks mark j at, is, m_is))
    (λ m (mark, has, is, m_is). (has.0, has.1, (mark, place_in marks mark has, is, m_is))) h
