-- The host of chains and its extension are certified; after m and c the extension has a new kernel, and m is a lookahead of `A -> c`.
use Rattle.std.proofs.Common.{◌≡◌, ◌≢◌, ◌<◌, ◌≤◌, ◌∙◌, ◌⊎◌, ◌∷◌, ◌++◌, [], ℕ, zero, suc, List, length, take, refl, sym, ap, inl, inr, arith}
use Rattle.std.proofs.Common.{reverse}
use Rattle.std.specs.Prelude.{◌↔◌}
use Rattle.std.proofs.lemmas.List.Elements.{All-cons, All-nil}
use Rattle.wb_lemmas.proofs.Places.{at_one}
use Rattle.wb_base.specs.declared.symbol.Symbol.{Symbol}
use Rattle.wb_base.specs.declared.symbol.Symbol.TheVariants.{Terminal, Nonterminal}
use Rattle.wb_grammar_theory.specs.declared.item.Item.{Item}
use Rattle.wb_grammar_theory.proofs.DerivesLemmas.{Derives-same}
use Rattle.wb_grammar_theory.specs.Derives.{expand}
use Rattle.wb_grammar_theory.specs.Items.{IsKernelItem, IsValidItem, close, move, start}
use Rattle.wb_compose_theory.specs.Numbered.{HostKernel}
use Rattle.wb_compose_theory_grammar.specs.Certificates.{AreCertified, IsCertifiedPiece}
use Rattle.wb_compose_theory_grammar.specs.ChainExample.{HasMarkerAhead, HasNewKernel, chain_both, chain_both_holes, chain_holes}
use Rattle.wb_compose_theory_grammar.specs.ChainExample.{chain_host, chain_piece, chain_up}
use Rattle.wb_compose_theory_grammar.specs.Pieces.{ArePieces, IsPiece}
use Rattle.wb_compose_theory_grammar.proofs.ChainConflicts.{back_of, both_conflict, opens_back}
use Rattle.wb_compose_theory_grammar.proofs.ChainHosts.{both_hidden, both_unit, chain_is_piece, chain_reduced, host_conflict}
use Rattle.wb_compose_theory_grammar.proofs.ChainHosts.{host_grammar, host_hidden, host_unit}
use Rattle.wb_compose_theory_grammar.proofs.ChainKernels.{beside, item_of, one_one}
use Rattle.wb_compose_theory_grammar.proofs.ChainLemmas.{Rule, Starts, chain, holed, last, marked, number, one, placed, right, top}
use Rattle.wb_compose_theory_grammar.proofs.ChainRules.{chain_keeps, chain_stays}
use Rattle.wb_compose_theory_grammar.proofs.UnitedLemmas.{same_kernels}

-- two extensions of the host, and one
two_pieces : ArePieces chain_host (0 ∷ []) (chain_piece ∷ chain_piece ∷ [])
two_pieces = record {
  is_grammar = host_grammar;
  within = All-cons (λ a. a < 2) 0 [] (omega arith) (All-nil (λ a. a < 2));
  differ = λ x i j at there. (at_one 0 x i at).0 ∙ sym (at_one 0 x j there).0;
  each = All-cons (IsPiece chain_host (0 ∷ [])) chain_piece (chain_piece ∷ []) chain_is_piece
      (All-cons (IsPiece chain_host (0 ∷ [])) chain_piece [] chain_is_piece (All-nil (IsPiece chain_host (0 ∷ []))));
}

one_piece : ArePieces chain_host (0 ∷ []) (chain_piece ∷ [])
one_piece = record {
  is_grammar = two_pieces.is_grammar;
  within = two_pieces.within;
  differ = two_pieces.differ;
  each = All-cons (IsPiece chain_host (0 ∷ [])) chain_piece [] chain_is_piece (All-nil (IsPiece chain_host (0 ∷ [])));
}

-- the extension is certified
certified_piece : IsCertifiedPiece chain_host (0 ∷ []) chain_piece
certified_piece = record {
  fit = record {
    reduced = chain_reduced chain_both refl refl refl refl refl;
    no_unit_cycle = both_unit;
    no_hidden_left_recursion = both_hidden;
  };
  composable = record { no_conflict = both_conflict; keeps_lookaheads = chain_keeps; stays_in_envelope = chain_stays };
}

-- the host and two extensions are certified
pub certified_chains : AreCertified chain_host (0 ∷ []) (chain_piece ∷ chain_piece ∷ [])
certified_chains = record {
  are_pieces = two_pieces;
  host_certified = record {
    fit = record {
      reduced = chain_reduced chain_host refl refl refl refl refl;
      no_unit_cycle = host_unit;
      no_hidden_left_recursion = host_hidden;
    };
    no_conflict = host_conflict;
  };
  each_certified = All-cons (IsCertifiedPiece chain_host (0 ∷ [])) chain_piece (chain_piece ∷ []) certified_piece
      (All-cons (IsCertifiedPiece chain_host (0 ∷ [])) chain_piece [] certified_piece (All-nil (IsCertifiedPiece chain_host (0 ∷ []))));
}

-- the bridge after its marker
marked_one : IsValidItem chain_both_holes (Terminal 2 ∷ []) (item_of 3 1) 4
marked_one =
    move (item_of 3 0) (Terminal 2) (Nonterminal 1 ∷ Nonterminal 0 ∷ []) []
    (close (item_of 5 0) 4 0 [] 3 4 (Terminal 2 ∷ Nonterminal 1 ∷ Nonterminal 0 ∷ []) start refl refl
    ([], Derives-same chain_both_holes (Terminal 4 ∷ []))) refl refl refl

-- so `A -> c .` is valid after m and c
new_item : IsValidItem chain_both_holes (Terminal 2 ∷ Terminal 0 ∷ []) (item_of 2 1) 0
new_item =
    move (item_of 2 0) (Terminal 0) [] (Terminal 2 ∷ [])
    (close (item_of 3 1) 4 1 (Nonterminal 0 ∷ []) 2 0 (Terminal 0 ∷ []) marked_one refl refl (
      Terminal 1 ∷ Terminal 4 ∷ [],
      expand 1 0 (Terminal 0 ∷ Terminal 1 ∷ []) (Terminal 0 ∷ Terminal 1 ∷ []) (Terminal 4 ∷ []) refl
          (Derives-same chain_both_holes (Terminal 0 ∷ Terminal 1 ∷ [])) (Derives-same chain_both_holes (Terminal 4 ∷ [])) refl,
    )) refl refl refl

-- it is alone there
new_alone : (k : Rule) (d : ℕ) (s : List Symbol) → d ≤ length (right k) → d ≢ 0 → Starts k s →
    Terminal 0 ∷ Terminal 2 ∷ [] ≡ reverse (take d (right k)) ++ reverse s → (number k ≡ 2) × (d ≡ 1)
new_alone k zero s le some starts e = absurd (some refl)
new_alone chain (suc zero) s le some starts e = absurd (cc e)
new_alone chain (suc (suc zero)) s le some starts e = absurd (cc e)
new_alone chain (suc (suc (suc d))) s le some starts e = absurd (omega (arith, le))
new_alone last (suc zero) s le some starts e = absurd (opens (opens_back s starts))
  where
    opens : (reverse s ≡ []) ⊎ ((r : List Symbol) × (reverse s ≡ Nonterminal 1 ∷ r)) → ⊥
    opens (inl f) = let g : Terminal 2 ∷ [] ≡ reverse s = cc in let bad : Terminal 2 ∷ [] ≡ [] = g ∙ f in cc
    opens (inr (r, f)) = let g : Terminal 2 ∷ [] ≡ reverse s = cc in let bad : Terminal 2 ∷ [] ≡ Nonterminal 1 ∷ r = g ∙ f in cc
new_alone last (suc (suc zero)) s le some starts e = absurd (cc e)
new_alone last (suc (suc (suc d))) s le some starts e = absurd (omega (arith, le))
new_alone one (suc zero) s le some starts e = (refl, refl)
new_alone one (suc (suc d)) s le some starts e = absurd (omega (arith, le))
new_alone marked (suc zero) s le some starts e = absurd (cc e)
new_alone marked (suc (suc zero)) s le some starts e = absurd (cc e)
new_alone marked (suc (suc (suc zero))) s le some starts e = absurd (cc e)
new_alone marked (suc (suc (suc (suc d)))) s le some starts e = absurd (omega (arith, le))
new_alone holed (suc zero) s le some starts e = absurd (cc e)
new_alone holed (suc (suc d)) s le some starts e = absurd (omega (arith, le))
new_alone top (suc zero) s le some starts e = absurd (cc e)
new_alone top (suc (suc d)) s le some starts e = absurd (omega (arith, le))

new_is : (item : Item) → IsKernelItem chain_both_holes (Terminal 2 ∷ Terminal 0 ∷ []) item → item ≡ item_of 2 1
new_is item ((t, v), inr (is, nothing)) = absurd (cc nothing)
new_is item ((t, v), inl some) =
    let p = placed v in
    let (n, d) = new_alone p.rule item.dot p.begins p.within some p.starts (back_of p) in
    let production : item.production ≡ 2 = p.number_is ∙ n in
    λ z. record { production = production z; dot = d z }

-- so the kernel is new: in the host's, `S -> c . y` is beside it
pub new_kernel : HasNewKernel
new_kernel = record {
  prefix = Terminal 2 ∷ Terminal 0 ∷ [];
  viable = (item_of 2 1, 0, new_item);
  new = record { within = λ item x. (item_of 2 1, new_is item x); is_new = is_new };
}
  where
    is_new : (other : List Symbol) →
        ((i : Item) → IsKernelItem chain_holes other i ↔ HostKernel chain_both_holes chain_up (Terminal 2 ∷ Terminal 0 ∷ []) i) → ⊥
    is_new other same =
        let ((t, v), why) = (same (item_of 2 1)).1 ((0, new_item), inl (λ f. omega (arith, f))) in
        let there = (same (item_of 1 1)).0 (beside v, inl (λ f. omega (arith, f))) in
        let bad : 1 ≡ 2 = ap (λ (i : Item). i.production) (new_is (item_of 1 1) there) in omega (arith, bad)

-- m is a lookahead of `A -> c .` at the host's kernel after c
pub marker_ahead : HasMarkerAhead
marker_ahead = record {
  prefix = Terminal 0 ∷ [];
  other = Terminal 0 ∷ [];
  kernel = (same_kernels chain_host (0 ∷ []) chain_piece one_piece (chain_reduced chain_host refl refl refl refl refl)
      (chain_reduced chain_both refl refl refl refl refl)).same (Terminal 0 ∷ []) (item_of 2 1, 0, one_one 0 (inl refl));
  item = item_of 2 1;
  lookahead = (Terminal 0 ∷ [], (λ i. (λ x. x, λ x. x)), ahead);
}
  where
    ahead : IsValidItem chain_both_holes (Terminal 0 ∷ []) (item_of 2 1) 2
    ahead =
        move (item_of 2 0) (Terminal 0) [] []
        (close (item_of 0 0) 4 1 (Nonterminal 0 ∷ []) 2 2 (Terminal 0 ∷ [])
        (close (item_of 5 0) 4 0 [] 0 4 (Nonterminal 1 ∷ Nonterminal 0 ∷ []) start refl refl
        ([], Derives-same chain_both_holes (Terminal 4 ∷ []))) refl refl (
          Nonterminal 1 ∷ Nonterminal 0 ∷ Terminal 4 ∷ [],
          expand 3 0 (Terminal 2 ∷ Nonterminal 1 ∷ Nonterminal 0 ∷ []) (Terminal 2 ∷ Nonterminal 1 ∷ Nonterminal 0 ∷ [])
              (Terminal 4 ∷ []) refl (Derives-same chain_both_holes (Terminal 2 ∷ Nonterminal 1 ∷ Nonterminal 0 ∷ []))
              (Derives-same chain_both_holes (Terminal 4 ∷ [])) refl,
        )) refl refl refl
