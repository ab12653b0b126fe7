-- What a united world says of each symbol: its owner, and the mark and the bridge of a terminal.
use Rattle.std.proofs.Common.{◌≡◌, ◌<◌, ◌≤◌, ◌+◌, ◌-◌, ◌∙◌, ◌∷◌, [], ℕ, zero, suc, List, Some, length, slice_get, refl, sym, ap, inl}
use Rattle.std.proofs.Common.{inr, arith}
use Rattle.std.proofs.lemmas.Bool.{cases_lt}
use Rattle.wb_base.specs.declared.symbol.Symbol.TheVariants.{Terminal, Nonterminal}
use Rattle.wb_base.specs.Grammar.{GrammarView}
use Rattle.wb_lemmas.proofs.Places.{at_within, nothing_at}
use Rattle.wb_compose_theory.specs.Blocks.{lift}
use Rattle.wb_compose_theory.specs.Marks.{Uses}
use Rattle.wb_compose_theory.specs.Worlds.{Owner, host, hole, extension, top, Mark, bare, on}
use Rattle.wb_compose_theory_grammar.specs.Places.{count_before, total_of}
use Rattle.wb_compose_theory_grammar.specs.Pieces.{Piece, IsPiece}
use Rattle.wb_compose_theory_grammar.specs.Unions.{added_terminals, added_nonterminals}
use Rattle.wb_compose_theory_grammar.specs.UnitedWorlds.{bridge_in, mark_at, mark_in, nonterminal_sizes, production_at, production_sizes}
use Rattle.wb_compose_theory_grammar.specs.UnitedWorlds.{terminal_sizes, united}
use Rattle.wb_compose_theory_grammar.specs.Owners.{owner_at, past_mark, past_terminal_owner}
use Rattle.wb_compose_theory_grammar.proofs.FactLemmas.{W, into_by, piece_at, size_at}
use Rattle.wb_compose_theory_grammar.proofs.PlaceLemmas.{Located, after_all, in_extension, in_host, lift_below, lift_past, located}
use Rattle.wb_compose_theory_grammar.proofs.PlaceLemmas.{place_extension}
use Rattle.wb_compose_theory_grammar.proofs.PlaceLemmas.{place_host, place_past}

-- holes, the end of a text, and what is after it
hole_owner : (xs : List ℕ) (j a : ℕ) → slice_get xs j ≡ Some a → past_terminal_owner xs j ≡ hole
hole_owner [] j a at = absurd (nothing_at a j at)
hole_owner (x ∷ xs) zero a at = refl
hole_owner (x ∷ xs) (suc j) a at = hole_owner xs j a at

-- a hole is on its nonterminal
hole_on : (xs : List ℕ) (j a : ℕ) → slice_get xs j ≡ Some a → past_mark xs j ≡ on a
hole_on [] j a at = absurd (nothing_at a j at)
hole_on (x ∷ xs) zero a at = let same : x ≡ a = cc in ap on same
hole_on (x ∷ xs) (suc j) a at = hole_on xs j a at

-- the end is the host's
end_owner : (xs : List ℕ) → past_terminal_owner xs (length xs) ≡ host
end_owner [] = refl
end_owner (x ∷ xs) = end_owner xs

-- nothing owns what is after it
rest_owner : (xs : List ℕ) (j i : ℕ) → i ≡ length xs + suc j → past_terminal_owner xs i ≡ top
rest_owner [] j zero is = absurd (omega (arith, is))
rest_owner [] j (suc i) is = refl
rest_owner (x ∷ xs) j zero is = absurd (omega (arith, is))
rest_owner (x ∷ xs) j (suc i) is = rest_owner xs j i (omega (arith, is))

-- there are no marks past the holes
rest_mark : (xs : List ℕ) (i : ℕ) → length xs ≤ i → past_mark xs i ≡ bare
rest_mark [] i over = refl
rest_mark (x ∷ xs) zero over = absurd (omega (arith, over))
rest_mark (x ∷ xs) (suc i) over = rest_mark xs i (omega (arith, over))

module _ (g : GrammarView) (extensible : List ℕ) (pieces : List Piece) where
  -- what the world says of a terminal
  pub record TerminalFacts (t : ℕ) (o : Owner) (m : Mark) (p : ℕ) : Type 0 where
    pub owner : (W g extensible pieces).symbol_owner (Terminal t) ≡ o
    pub mark : (W g extensible pieces).mark t ≡ m
    pub production : (W g extensible pieces).production_of t ≡ p

  -- a terminal of the host
  pub host_terminal : (t : ℕ) → t < g.terminals → TerminalFacts t host bare 0
  host_terminal t below =
      let place = place_host g.terminals (terminal_sizes g extensible pieces) t below in
      record {
        owner = ap (owner_at (past_terminal_owner extensible)) place;
        mark = ap (mark_at g extensible pieces) place;
        production = ap (production_at g extensible pieces) place;
      }

  -- a terminal of an extension
  pub piece_terminal : (k : ℕ) (x : Piece) (i t : ℕ) → slice_get pieces k ≡ Some x → i < added_terminals g x.grammar →
      t ≡ g.terminals + (count_before (terminal_sizes g extensible pieces) k + i) →
      TerminalFacts t (extension k) (x.mark (g.terminals + i))
      (lift (length g.productions) (count_before (production_sizes g extensible pieces) k) (x.bridge (g.terminals + i)))
  piece_terminal k x i t at within is =
      let place = place_extension g.terminals (terminal_sizes g extensible pieces) k (added_terminals g x.grammar) i t
      (size_at g extensible pieces (added_terminals g) k x at) within is in
      record {
        owner = ap (owner_at (past_terminal_owner extensible)) place;
        mark = ap (mark_at g extensible pieces) place ∙ ap (λ o. mark_in o (g.terminals + i)) at;
        production = ap (production_at g extensible pieces) place ∙
            ap (λ o. lift (length g.productions) (count_before (production_sizes g extensible pieces) k) (bridge_in o (g.terminals + i)))
            at;
      }

  -- a number past all terminals of the union
  past_place : (j t : ℕ) → t ≡ (united g extensible pieces).terminals + j →
      t ≡ g.terminals + (total_of (terminal_sizes g extensible pieces) + j)
  past_place j t is = omega (arith, is)

  -- a hole
  pub hole_terminal : (j a t : ℕ) → slice_get extensible j ≡ Some a → t ≡ (united g extensible pieces).terminals + j →
      TerminalFacts t hole (on a) (length (united g extensible pieces).productions + j)
  hole_terminal j a t at is =
      let place = place_past g.terminals (terminal_sizes g extensible pieces) j t (past_place j t is) in
      record {
        owner = ap (owner_at (past_terminal_owner extensible)) place ∙ hole_owner extensible j a at;
        mark = ap (mark_at g extensible pieces) place ∙ hole_on extensible j a at;
        production = ap (production_at g extensible pieces) place;
      }

  -- the end of a text
  pub end_facts : (t : ℕ) → t ≡ (united g extensible pieces).terminals + length extensible →
      TerminalFacts t host bare (length (united g extensible pieces).productions + length extensible)
  end_facts t is =
      let place = place_past g.terminals (terminal_sizes g extensible pieces) (length extensible) t
      (past_place (length extensible) t is) in
      let over : length extensible ≤ length extensible = omega arith in
      record {
        owner = ap (owner_at (past_terminal_owner extensible)) place ∙ end_owner extensible;
        mark = ap (mark_at g extensible pieces) place ∙ rest_mark extensible (length extensible) over;
        production = ap (production_at g extensible pieces) place;
      }

  -- what is after it
  pub rest_facts : (j t : ℕ) → t ≡ (united g extensible pieces).terminals + (length extensible + suc j) →
      TerminalFacts t top bare (length (united g extensible pieces).productions + (length extensible + suc j))
  rest_facts j t is =
      let place = place_past g.terminals (terminal_sizes g extensible pieces) (length extensible + suc j) t
      (past_place (length extensible + suc j) t is) in
      let over : length extensible ≤ length extensible + suc j = omega arith in
      record {
        owner = ap (owner_at (past_terminal_owner extensible)) place ∙ rest_owner extensible j (length extensible + suc j) refl;
        mark = ap (mark_at g extensible pieces) place ∙ rest_mark extensible (length extensible + suc j) over;
        production = ap (production_at g extensible pieces) place;
      }

  -- each number is one of these
  pub data TerminalOf (t : ℕ) : Type 0 where
    of_grammar : t < g.terminals → TerminalOf t
    of_piece : (k : ℕ) (x : Piece) (i : ℕ) → slice_get pieces k ≡ Some x → i < added_terminals g x.grammar →
        t ≡ g.terminals + (count_before (terminal_sizes g extensible pieces) k + i) → TerminalOf t
    of_hole : (j a : ℕ) → slice_get extensible j ≡ Some a → t ≡ (united g extensible pieces).terminals + j → TerminalOf t
    of_end : t ≡ (united g extensible pieces).terminals + length extensible → TerminalOf t
    of_rest : (j : ℕ) → t ≡ (united g extensible pieces).terminals + (length extensible + suc j) → TerminalOf t

  -- which of them a number is
  pub terminal_view : (t : ℕ) → TerminalOf t
  terminal_view t = go (located g.terminals (terminal_sizes g extensible pieces) t)
    where
      beyond : (j : ℕ) → t ≡ (united g extensible pieces).terminals + j → length extensible ≤ j → TerminalOf t
      beyond j is over = elim (cases_lt (length extensible) j) [
        | inl far ↦
            (let place : t ≡ (united g extensible pieces).terminals + (length extensible + suc (j - suc (length extensible))) =
            omega (arith, is, far) in of_rest (j - suc (length extensible)) place)
        | inr near ↦ (let place : t ≡ (united g extensible pieces).terminals + length extensible = omega (arith, is, over, near) in
            of_end place)
      ]

      past_all : (j : ℕ) → t ≡ (united g extensible pieces).terminals + j → TerminalOf t
      past_all j is = elim (cases_lt j (length extensible)) [
        | inl below ↦ (let (a, at) = at_within extensible j below in of_hole j a at is)
        | inr over ↦ beyond j is over
      ]

      go : Located g.terminals (terminal_sizes g extensible pieces) t → TerminalOf t
      go (in_host below) = of_grammar below
      go (in_extension k size i at within is) =
          let (x, x_at, size_is) = piece_at g extensible pieces (added_terminals g) k size at in
          of_piece k x i x_at (omega (arith, within, size_is)) is
      go (after_all j is) = past_all j (omega (arith, is))

  -- nonterminals
  pub host_nonterminal : (a : ℕ) → a < g.nonterminals → (W g extensible pieces).symbol_owner (Nonterminal a) ≡ host
  host_nonterminal a below = ap (owner_at (λ j. top)) (place_host g.nonterminals (nonterminal_sizes g extensible pieces) a below)

  -- an extension's nonterminal
  pub piece_nonterminal : (k : ℕ) (x : Piece) (i a : ℕ) → slice_get pieces k ≡ Some x → i < added_nonterminals g x.grammar →
      a ≡ g.nonterminals + (count_before (nonterminal_sizes g extensible pieces) k + i) →
      (W g extensible pieces).symbol_owner (Nonterminal a) ≡ extension k
  piece_nonterminal k x i a at within is = ap (owner_at (λ j. top))
      (place_extension g.nonterminals (nonterminal_sizes g extensible pieces) k (added_nonterminals g x.grammar) i a
      (size_at g extensible pieces (added_nonterminals g) k x at) within is)

  -- what is past all nonterminals
  pub rest_nonterminal : (j a : ℕ) → a ≡ g.nonterminals + (total_of (nonterminal_sizes g extensible pieces) + j) →
      (W g extensible pieces).symbol_owner (Nonterminal a) ≡ top
  rest_nonterminal j a is = ap (owner_at (λ i. top)) (place_past g.nonterminals (nonterminal_sizes g extensible pieces) j a is)

  -- what the union makes of a terminal of an extension's grammar
  pub record Moved (k : ℕ) (x : Piece) (u : ℕ) : Type 0 where
    pub owner : Uses (extension k) ((W g extensible pieces).symbol_owner (Terminal ((into_by g extensible pieces k).terminal u)))
    pub mark : (W g extensible pieces).mark ((into_by g extensible pieces k).terminal u) ≡ x.mark u
    pub production : g.terminals ≤ u → (W g extensible pieces).production_of ((into_by g extensible pieces k).terminal u)
        ≡ lift (length g.productions) (count_before (production_sizes g extensible pieces) k) (x.bridge u)
    pub own : g.terminals ≤ u → (W g extensible pieces).symbol_owner (Terminal ((into_by g extensible pieces k).terminal u)) ≡ extension k

  -- each terminal of the grammar moves so
  pub moved : (k : ℕ) (x : Piece) (u : ℕ) → IsPiece g extensible x → slice_get pieces k ≡ Some x → u < x.grammar.terminals → Moved k x u
  moved k x u ok at within = elim (cases_lt u g.terminals) [ inl below ↦ of_host below | inr far ↦ of_own far ]
    where
      of_host : u < g.terminals → Moved k x u
      of_host below =
          let same : (into_by g extensible pieces k).terminal u ≡ u =
          lift_below g.terminals (0 + count_before (terminal_sizes g extensible pieces) k) u below in
          let facts = host_terminal u below in
          record {
            owner = inl (ap (λ z. (W g extensible pieces).symbol_owner (Terminal z)) same ∙ facts.owner);
            mark = ap (W g extensible pieces).mark same ∙ (facts.mark ∙ sym (unmarked (x.mark u) refl));
            production = λ far. absurd (omega (arith, far, below));
            own = λ far. absurd (omega (arith, far, below));
          }
        where
          unmarked : (m : Mark) → x.mark u ≡ m → x.mark u ≡ bare
          unmarked bare is = is
          unmarked (on a) is = let own = (ok.markers u a is).own in absurd (omega (arith, own, below))

      of_own : g.terminals ≤ u → Moved k x u
      of_own far =
          let i : ℕ = u - g.terminals in
          let u_is : g.terminals + i ≡ u = omega (arith, far) in
          let less : i < added_terminals g x.grammar = omega (arith, far, within) in
          let place : (into_by g extensible pieces k).terminal u
          ≡ g.terminals + (count_before (terminal_sizes g extensible pieces) k + i) =
          lift_past g.terminals (0 + count_before (terminal_sizes g extensible pieces) k) u far ∙ (omega (arith, far)) in
          let facts = piece_terminal k x i ((into_by g extensible pieces k).terminal u) at less place in
          record {
            owner = inr facts.owner;
            mark = facts.mark ∙ ap x.mark u_is;
            production = λ _. facts.production ∙
                ap (λ z. lift (length g.productions) (count_before (production_sizes g extensible pieces) k) (x.bridge z)) u_is;
            own = λ _. facts.owner;
          }

  -- what it makes of a nonterminal of the extension's own
  pub moved_own_nonterminal : (k : ℕ) (x : Piece) (b : ℕ) → slice_get pieces k ≡ Some x → b < x.grammar.nonterminals → g.nonterminals ≤ b →
      (W g extensible pieces).symbol_owner (Nonterminal ((into_by g extensible pieces k).nonterminal b)) ≡ extension k
  moved_own_nonterminal k x b at within far =
      let less : b - g.nonterminals < added_nonterminals g x.grammar = omega (arith, far, within) in
      let place : (into_by g extensible pieces k).nonterminal b
      ≡ g.nonterminals + (count_before (nonterminal_sizes g extensible pieces) k + (b - g.nonterminals)) =
      lift_past g.nonterminals (0 + count_before (nonterminal_sizes g extensible pieces) k) b far ∙ (omega (arith, far)) in
      piece_nonterminal k x (b - g.nonterminals) ((into_by g extensible pieces k).nonterminal b) at less place

  -- and of each nonterminal
  pub moved_nonterminal : (k : ℕ) (x : Piece) (b : ℕ) → slice_get pieces k ≡ Some x → b < x.grammar.nonterminals →
      Uses (extension k) ((W g extensible pieces).symbol_owner (Nonterminal ((into_by g extensible pieces k).nonterminal b)))
  moved_nonterminal k x b at within =
      elim (cases_lt b g.nonterminals) [ inl below ↦ of_host below | inr far ↦ inr (moved_own_nonterminal k x b at within far) ]
    where
      of_host : b < g.nonterminals →
          Uses (extension k) ((W g extensible pieces).symbol_owner (Nonterminal ((into_by g extensible pieces k).nonterminal b)))
      of_host below =
          let same : (into_by g extensible pieces k).nonterminal b ≡ b =
          lift_below g.nonterminals (0 + count_before (nonterminal_sizes g extensible pieces) k) b below in
          inl (ap (λ z. (W g extensible pieces).symbol_owner (Nonterminal z)) same ∙ host_nonterminal b below)
