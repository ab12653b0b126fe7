-- What holds of the union of a host and certified extensions, in numbers.
use Rattle.std.proofs.Common.{◌≡◌, ◌<◌, ◌+◌, ◌∙◌, ◌∷◌, [], ℕ, List, Some, length, map, slice_get, refl, sym, ap, subst}
use Rattle.std.specs.Prelude.{◌↔◌, All}
use Rattle.wb_base.specs.declared.symbol.Symbol.{Symbol}
use Rattle.wb_base.specs.Grammar.{GrammarView, IsSymbolBelow}
use Rattle.wb_grammar_theory.specs.Items.{IsViablePrefix}
use Rattle.wb_grammar_theory.specs.Lookaheads.{IsValidTerminal}
use Rattle.wb_grammar_theory.specs.Shape.{IsReduced}
use Rattle.wb_marking_holes.specs.Holes.{with_holes_of}
use Rattle.wb_compose_theory.proofs.ComposedLemmas.{composable_apart, composed_fit, composed_host_terminals, composed_no_conflict}
use Rattle.wb_compose_theory.proofs.FitLemmas.{reduced_there}
use Rattle.wb_compose_theory.proofs.HostTerminalLemmas.{host_terminals}
use Rattle.wb_compose_theory.proofs.NumberLemmas.{terminal_there}
use Rattle.wb_compose_theory.proofs.PartLemmas.{both_productive, plus_productive}
use Rattle.wb_compose_theory.proofs.RenamingLemmas.{valid_there}
use Rattle.wb_compose_theory.proofs.SeamLemmas.{by_kernels, host_kernel}
use Rattle.wb_compose_theory.proofs.TerminalLemmas.{valid_named}
use Rattle.wb_compose_theory.specs.Composed.{IsComposition}
use Rattle.wb_compose_theory.specs.Derives.{AreProductiveIn}
use Rattle.wb_compose_theory.specs.Lookaheads.{IsValidTerminalIn}
use Rattle.wb_compose_theory.specs.Marks.{IsMarked}
use Rattle.wb_compose_theory.specs.Renamings.{renamed, renamed_item}
use Rattle.wb_compose_theory.specs.Seams.{AreNumberings}
use Rattle.wb_compose_theory.specs.Worlds.{Has, alone, bare, both, plain, plus, union}
use Rattle.wb_compose_theory_grammar.specs.Certificates.{AreCertified}
use Rattle.wb_compose_theory_grammar.specs.Laws.{HasSameKernels, IsOwn, IsUnited, KeepsHost, in_union}
use Rattle.wb_compose_theory_grammar.specs.Numberings.{composition_of, cut_of, names_in, phi_of, up_of, whole_cut}
use Rattle.wb_compose_theory_grammar.specs.Cuts.{no_cut}
use Rattle.wb_compose_theory_grammar.specs.Pieces.{ArePieces, Piece}
use Rattle.wb_compose_theory_grammar.specs.Places.{total_of}
use Rattle.wb_compose_theory_grammar.specs.UnitedWorlds.{nonterminal_sizes, terminal_sizes, united}
use Rattle.wb_compose_theory_grammar.proofs.ApartLemmas.{into_is}
use Rattle.wb_compose_theory_grammar.proofs.BridgeLemmas.{piece_ok}
use Rattle.wb_compose_theory_grammar.proofs.CompositionLemmas.{numberings, united_composition}
use Rattle.wb_compose_theory_grammar.proofs.CoverLemmas.{host_covers, piece_covers}
use Rattle.wb_compose_theory_grammar.proofs.CutLemmas.{plain_numbering}
use Rattle.wb_compose_theory_grammar.proofs.FactLemmas.{W, into_by}
use Rattle.wb_compose_theory_grammar.proofs.MarkedLemmas.{united_marked}
use Rattle.wb_compose_theory_grammar.proofs.PlaceLemmas.{spread_below}
use Rattle.wb_compose_theory_grammar.proofs.RangeLemmas.{agree, spread_same}
use Rattle.wb_compose_theory_grammar.proofs.SymbolLemmas.{Moved, host_terminal, moved}
use Rattle.wb_compose_theory_grammar.proofs.UnionCoverLemmas.{terminal_stays}
use Rattle.wb_compose_theory_grammar.proofs.UnionGrammarLemmas.{terminal_below, united_grammar}

module _ (g : GrammarView) (extensible : List ℕ) (pieces : List Piece) (is : AreCertified g extensible pieces) where
  -- the union is reduced, and has no unit cycle, no hidden left recursion and no conflict
  pub is_united : IsUnited g extensible pieces
  is_united = record {
    is_grammar = united_grammar g extensible pieces is.are_pieces;
    fit = composed_fit (W g extensible pieces) (length pieces) (composition_of g extensible pieces)
        (united_composition g extensible pieces is);
    no_conflict = composed_no_conflict (W g extensible pieces) (length pieces) (composition_of g extensible pieces)
        (united_composition g extensible pieces is);
  }

  -- a terminal of the host has one name, as the host's and as the union's
  terminal_name : (t : ℕ) → t < g.terminals →
      (names_in g extensible pieces (whole_cut g extensible pieces) (length extensible)).terminal t ≡
      (names_in g extensible pieces no_cut (length extensible)).terminal t
  terminal_name t less =
      spread_below g.terminals 0 (total_of (terminal_sizes g extensible pieces))
      (total_of (terminal_sizes g extensible pieces) + length extensible) t less ∙
      sym (spread_below g.terminals 0 0 (total_of (terminal_sizes g extensible pieces) + length extensible) t less)

  -- so has each prefix of the host
  prefix_name : (prefix : List Symbol) → All (IsSymbolBelow g.terminals g.nonterminals) prefix →
      map (renamed (names_in g extensible pieces (whole_cut g extensible pieces) (length extensible))) prefix ≡
      map (renamed (names_in g extensible pieces no_cut (length extensible))) prefix
  prefix_name prefix below = agree (names_in g extensible pieces (whole_cut g extensible pieces) (length extensible))
      (names_in g extensible pieces no_cut (length extensible)) g.terminals g.nonterminals terminal_name
      (λ a less. spread_below g.nonterminals 0 (total_of (nonterminal_sizes g extensible pieces))
      (total_of (nonterminal_sizes g extensible pieces)) a less ∙
      sym (spread_below g.nonterminals 0 0 (total_of (nonterminal_sizes g extensible pieces)) a less)) prefix below

  -- an extension's own terminal isn't valid at a prefix of the host
  own_is_out : (k : ℕ) (x : Piece) → slice_get pieces k ≡ Some x → (prefix : List Symbol) →
      All (IsSymbolBelow g.terminals g.nonterminals) prefix → IsViablePrefix g prefix → (t : ℕ) → IsOwn g extensible pieces x t →
      ¬ IsValidTerminal (united g extensible pieces) prefix (in_union g extensible pieces k t)
  own_is_out k x at prefix below (item, u, viable) t own valid = not_plain (there.0 in_world)
    where
      c : IsComposition (W g extensible pieces) (length pieces) (composition_of g extensible pieces)
      c = united_composition g extensible pieces is

      here : ℕ
      here = (into_by g extensible pieces k).terminal t

      kept : Moved g extensible pieces k x t
      kept = moved g extensible pieces k x t (piece_ok g extensible pieces is.are_pieces k x at) at own.within

      name_is : (names_in g extensible pieces (whole_cut g extensible pieces) (length extensible)).terminal
          (in_union g extensible pieces k t) ≡ here
      name_is =
          ap (names_in g extensible pieces (whole_cut g extensible pieces) (length extensible)).terminal
          (into_is g extensible pieces is k t) ∙
          (spread_same g.terminals 0 (total_of (terminal_sizes g extensible pieces))
          (total_of (terminal_sizes g extensible pieces) + length extensible) (total_of (terminal_sizes g extensible pieces) + 0) here
          (terminal_below g extensible pieces is.are_pieces k x t at own.within) ∙
          terminal_stays g extensible pieces is.are_pieces here (terminal_below g extensible pieces is.are_pieces k x t at own.within))

      there : IsValidTerminalIn (W g extensible pieces) (union (length pieces))
          (map (renamed (names_in g extensible pieces no_cut (length extensible))) prefix) here ↔
          IsValidTerminalIn (W g extensible pieces) plain
          (map (renamed (names_in g extensible pieces no_cut (length extensible))) prefix) here
      there = host_terminals (W g extensible pieces) (length pieces) c.is_marked
          (composable_apart (W g extensible pieces) (length pieces) (composition_of g extensible pieces) c)
          (map (renamed (names_in g extensible pieces no_cut (length extensible))) prefix) (
            renamed_item (names_in g extensible pieces no_cut (length extensible)) item,
            (names_in g extensible pieces no_cut (length extensible)).terminal u,
            valid_there c.of_plain viable,
          ) here
          (kept.mark ∙ own.unmarked)

      in_world : IsValidTerminalIn (W g extensible pieces) (union (length pieces))
          (map (renamed (names_in g extensible pieces no_cut (length extensible))) prefix) here
      in_world = subst (λ z. IsValidTerminalIn (W g extensible pieces) (union (length pieces)) z here) (prefix_name prefix below)
          (subst (IsValidTerminalIn (W g extensible pieces) (union (length pieces))
          (map (renamed (names_in g extensible pieces (whole_cut g extensible pieces) (length extensible))) prefix)) name_is
          (terminal_there c.of_union prefix (in_union g extensible pieces k t) valid))

      not_plain : IsValidTerminalIn (W g extensible pieces) plain
          (map (renamed (names_in g extensible pieces no_cut (length extensible))) prefix) here → ⊥
      not_plain x' = subst (Has plain) (kept.own own.own)
          (valid_named c.is_marked (map (renamed (names_in g extensible pieces no_cut (length extensible))) prefix) here x')

  -- the valid terminals of the host
  pub keeps_host : KeepsHost g extensible pieces
  keeps_host = record {
    terminal = λ prefix below viable t less. composed_host_terminals (W g extensible pieces) (length pieces)
        (composition_of g extensible pieces) (united_composition g extensible pieces is) prefix prefix t t viable (prefix_name prefix below)
        (terminal_name t less) (mark_is t less);
    end_of_text = λ prefix below viable. composed_host_terminals (W g extensible pieces) (length pieces)
        (composition_of g extensible pieces) (united_composition g extensible pieces is) prefix prefix g.terminals
        (united g extensible pieces).terminals viable (prefix_name prefix below)
        ((united_composition g extensible pieces is).of_union.ends.end_is ∙
        sym (united_composition g extensible pieces is).of_plain.ends.end_is)
        (ap (W g extensible pieces).mark (united_composition g extensible pieces is).of_plain.ends.end_is ∙
        (united_marked g extensible pieces is.are_pieces).start.end_bare);
    own = λ k x at prefix below viable t own valid. own_is_out k x at prefix below viable t own valid;
  }
    where
      mark_is : (t : ℕ) → t < g.terminals →
          (W g extensible pieces).mark ((names_in g extensible pieces no_cut (length extensible)).terminal t) ≡ bare
      mark_is t less =
          ap (W g extensible pieces).mark
          (spread_below g.terminals 0 0 (total_of (terminal_sizes g extensible pieces) + length extensible) t less) ∙
          (host_terminal g extensible pieces t less).mark

-- an extension alone: kernels of the host are kernels with it
pub same_kernels : (g : GrammarView) (extensible : List ℕ) (x : Piece) → ArePieces g extensible (x ∷ []) → IsReduced g →
    IsReduced x.grammar → HasSameKernels g extensible x
same_kernels g extensible x ok host_reduced reduced = record {
  same = host_kernel seam marked live more;
  lookaheads = by_kernels seam marked live more;
}
  where
    seam : AreNumberings (with_holes_of g extensible) (with_holes_of x.grammar extensible) (up_of g x.grammar) (phi_of extensible x)
        (W g extensible (x ∷ [])) 0 (names_in g extensible (x ∷ []) no_cut 0)
        (names_in g extensible (x ∷ []) (cut_of g extensible (x ∷ []) 0 x) 0)
    seam = numberings g extensible (x ∷ []) ok 0 x refl

    marked : IsMarked (W g extensible (x ∷ []))
    marked = united_marked g extensible (x ∷ []) ok

    live : AreProductiveIn (W g extensible (x ∷ [])) plus
    live = plus_productive marked (reduced_there (plain_numbering g extensible (x ∷ []) ok g plain no_cut
        (host_covers g extensible (x ∷ []) ok)) host_reduced).productive

    more : AreProductiveIn (W g extensible (x ∷ [])) (both 0)
    more = both_productive marked 0 (reduced_there (plain_numbering g extensible (x ∷ []) ok x.grammar (alone 0)
        (cut_of g extensible (x ∷ []) 0 x) (piece_covers g extensible (x ∷ []) ok 0 x refl)) reduced).productive
