-- A small host and two small extensions are certified.
use Rattle.std.proofs.Common.{◌≡◌, ◌<◌, ◌≤◌, ◌∙◌, ◌∷◌, [], ℕ, zero, suc, List, refl, sym, ap, subst, inl, inr, arith}
use Rattle.std.proofs.lemmas.Bool.{cases_lt}
use Rattle.std.proofs.lemmas.List.Elements.{All-cons, All-nil}
use Rattle.std.proofs.lemmas.Option.{slice_get_within}
use Rattle.wb_base.specs.declared.symbol.Symbol.{Symbol}
use Rattle.wb_base.specs.declared.symbol.Symbol.TheVariants.{Terminal}
use Rattle.wb_base.specs.Grammar.{GrammarView}
use Rattle.wb_grammar_theory.specs.declared.item.Item.{Item}
use Rattle.wb_grammar_theory.specs.Items.{IsKernelItem, start_item}
use Rattle.wb_grammar_theory.specs.Productions.{IsProduction}
use Rattle.wb_grammar_theory.proofs.ClosureLemmas.{first_kernel}
use Rattle.wb_grammar_theory.specs.Closure.{InClosure, kernel, opened}
use Rattle.wb_lemmas.proofs.Members.{contains_first}
use Rattle.wb_lemmas.proofs.Places.{at_one}
use Rattle.wb_compose_theory.proofs.RenamingLemmas.{InGrammar, at_rule, at_top, in_grammar}
use Rattle.wb_compose_theory.specs.Blocks.{lift}
use Rattle.wb_compose_theory.specs.Numbered.{HasEnvelopeConflict, HostKernel, IsNewHostKernel, KeepsLookaheads, StaysInEnvelope}
use Rattle.wb_compose_theory.specs.Renamings.{Renaming, renamed_item}
use Rattle.wb_compose_theory.specs.Worlds.{on}
use Rattle.wb_compose_theory_grammar.specs.Certificates.{AreCertified, IsCertifiedPiece}
use Rattle.wb_compose_theory_grammar.specs.Example.{example_host, example_mark, example_piece, single_grammar, single_productions}
use Rattle.wb_compose_theory_grammar.specs.Numberings.{phi_of, up_of}
use Rattle.wb_compose_theory_grammar.specs.Pieces.{IsMarker, IsOwnProduction, IsPiece, bridge}
use Rattle.wb_compose_theory_grammar.proofs.PlaceLemmas.{lift_below, lift_past}
use Rattle.wb_compose_theory_grammar.proofs.SingleLemmas.{Single, Where, after_one, at_start, ends, is_grammar, kernel_back, kernel_there}
use Rattle.wb_compose_theory_grammar.proofs.SingleLemmas.{no_conflict}
use Rattle.wb_compose_theory_grammar.proofs.SingleLemmas.{no_hidden, no_unit, reduced, rule_is, single_of, where_is}

-- the host with the hole, and that with the extension
abbrev H : GrammarView
H = single_grammar 2

-- the host with the hole and the extension
abbrev K : GrammarView
K = single_grammar 3

-- where the host's numbers go
abbrev up : Renaming
up = up_of example_host (single_grammar 2)

-- numbers that move up stay apart
pub lift_once : (own more p q : ℕ) → lift own more p ≡ lift own more q → p ≡ q
lift_once own more p q e = elim (cases_lt p own) [ inl low ↦ from_low low | inr high ↦ from_high high ]
  where
    from_low : p < own → p ≡ q
    from_low low = elim (cases_lt q own) [
      | inl near ↦ sym (lift_below own more p low) ∙ (e ∙ lift_below own more q near)
      | inr far ↦
          (let a = lift_below own more p low in let b = lift_past own more q far in absurd (omega (arith, a, b, e, low, far)))
    ]

    from_high : own ≤ p → p ≡ q
    from_high high = elim (cases_lt q own) [
      | inl near ↦
          (let a = lift_past own more p high in let b = lift_below own more q near in absurd (omega (arith, a, b, e, high, near)))
      | inr far ↦ (let a = lift_past own more p high in let b = lift_past own more q far in omega (arith, a, b, e))
    ]

-- a production of the host with the extension that moved up
small : (p : ℕ) → InGrammar K (up.production p) → p ≤ 2
small p within = elim (cases_lt p 1) [ inl low ↦ omega (arith, low) | inr high ↦ from_high high (bound within) ]
  where
    bound : InGrammar K (up.production p) → up.production p ≤ 3
    bound (at_top is) = omega (arith, is)
    bound (at_rule a right rule) =
        let less = slice_get_within K.productions (up.production p) (a, right) rule in omega (arith, less)

    from_high : 1 ≤ p → up.production p ≤ 3 → p ≤ 2
    from_high high le = let is = lift_past 1 1 p high in omega (arith, is, le)

-- a number of the host
in_host : (p : ℕ) → p ≤ 2 → InGrammar H p
in_host zero le = at_rule 0 (Terminal 0 ∷ []) refl
in_host (suc zero) le = at_rule 0 (Terminal 1 ∷ []) refl
in_host (suc (suc zero)) le = at_top refl
in_host (suc (suc (suc p))) le = absurd (omega (arith, le))

-- there is no new host kernel
no_new : (prefix : List Symbol) → IsNewHostKernel H K up prefix → (i : Item) → HostKernel K up prefix i → ⊥
no_new prefix new i k = go (where_is 2 ((k.0).1))
  where
    within : InGrammar K (up.production i.production)
    within = in_grammar ((k.0).1)

    s : Single 1 i.production
    s = single_of 1 (in_host i.production (small i.production within))

    go : Where 2 prefix (renamed_item up i) ((k.0).0) → ⊥
    go (at_start a b c) = new.is_new [] (λ j. (there j, back j))
      where
        there : (j : Item) → IsKernelItem H [] j → HostKernel K up prefix j
        there j x =
            let is : j ≡ start_item H = (first_kernel H j).0 x in
            subst (λ z. IsKernelItem K z (renamed_item up j)) (sym b)
            ((first_kernel K (renamed_item up j)).1 (ap (renamed_item up) is))

        back : (j : Item) → HostKernel K up prefix j → IsKernelItem H [] j
        back j x =
            let is : renamed_item up j ≡ start_item K =
            (first_kernel K (renamed_item up j)).0 (subst (λ z. IsKernelItem K z (renamed_item up j)) b x) in
            let p : up.production j.production ≡ up.production 2 = ap (λ z. z.production) is in
            let p_is : j.production ≡ 2 = lift_once 1 1 j.production 2 p in
            let d : j.dot ≡ 0 = ap (λ z. z.dot) is in
            (first_kernel H j).1 (λ z. record { production = p_is z; dot = d z })
    go (after_one x a b c d r) = new.is_new (s.x ∷ []) (λ j. (there j, back j))
      where
        there : (j : Item) → IsKernelItem H (s.x ∷ []) j → HostKernel K up prefix j
        there j y =
            let (p, dot) = kernel_there 1 s.x j y in
            subst (λ z. IsKernelItem K z (renamed_item up j)) (sym b)
            (kernel_back 2 within x r (renamed_item up j) (ap up.production (p ∙ sym s.is)) dot)

        back : (j : Item) → HostKernel K up prefix j → IsKernelItem H (s.x ∷ []) j
        back j y =
            let (p, dot) = kernel_there 2 x (renamed_item up j) (subst (λ z. IsKernelItem K z (renamed_item up j)) b y) in
            kernel_back 1 (in_host i.production (small i.production within)) s.x s.right j
            (lift_once 1 1 j.production i.production (p ∙ sym c)) dot

-- a closure with an item has a member
pub member : {g : GrammarView} {P : Item → Type 0} {item : Item} → InClosure g P item → (i : Item) × P i
member (kernel {item} y) = (item, y)
member (opened item b rest q right c is rule) = member c

-- the lookahead rule
keeps : KeepsLookaheads H K up (phi_of (0 ∷ []) example_piece)
keeps prefix item t ((s, v), why) (other, same, v') =
    let end : t ≡ 3 = ends 2 v' in
    let mine : s ≡ 2 = ends 1 v in
    let image : 3 ≡ phi_of (0 ∷ []) example_piece t = ap (phi_of (0 ∷ []) example_piece) (sym end) in
    (s, ap up.terminal mine ∙ image, (prefix, (λ i. (λ x. x, λ x. x)), v))

-- the envelope rule
stays_in : StaysInEnvelope H K up (phi_of (0 ∷ []) example_piece)
stays_in = record {
  lookaheads = λ prefix new item t c looks. (let (i, x) = member c in absurd (no_new prefix new i x));
  no_conflict = λ prefix new t x. free prefix new t x;
}
  where
    free : (prefix : List Symbol) → IsNewHostKernel H K up prefix → (t : ℕ) → HasEnvelopeConflict H (HostKernel K up prefix) t → ⊥
    free prefix new t (inl (p, can, red)) = let (i, x) = member can.within in no_new prefix new i x
    free prefix new t (inr (p, q, ne, one, two)) = let (i, x) = member one.within in no_new prefix new i x

-- the extension is one of the host
marker_at : (m a : ℕ) → example_mark m ≡ on a → IsMarker example_host (0 ∷ []) example_piece m a
marker_at zero a e = cc
marker_at (suc zero) a e =
    let is : 0 ≡ a = cc in
    subst (IsMarker example_host (0 ∷ []) example_piece 1) is (record {
      own = omega arith;
      within = omega arith;
      extensible_left = contains_first 0 [];
      own_bridge = omega arith;
      bridge_is = ([], refl);
    })
marker_at (suc (suc m)) a e = cc

-- the extension's own production is the bridge of its marker
own_at : (p a : ℕ) (right : List Symbol) → 1 ≤ p → IsProduction (single_grammar 2) p a right →
    IsOwnProduction example_host example_piece p a right
own_at p a right le rule =
    let less = slice_get_within (single_productions 0 2) p (a, right) rule in
    let is : p ≡ 1 = omega (arith, le, less) in
    bridge 1 0 [] refl is ((rule_is 1 p a right rule).1 ∙ ap (λ z. Terminal z ∷ []) is) tt

-- so it is an extension
piece_is : IsPiece example_host (0 ∷ []) example_piece
piece_is = record {
  is_grammar = is_grammar 1;
  extends = record { terminals = omega arith; nonterminals = omega arith; start = refl; productions = ((0, Terminal 1 ∷ []) ∷ [], refl) };
  markers = marker_at;
  own_productions = own_at;
}

-- and certified
certified_piece : IsCertifiedPiece example_host (0 ∷ []) example_piece
certified_piece = record {
  fit = record { reduced = reduced 1; no_unit_cycle = no_unit 2; no_hidden_left_recursion = no_hidden 2 };
  composable = record { no_conflict = no_conflict 2; keeps_lookaheads = keeps; stays_in_envelope = stays_in };
}

-- the host and two extensions are certified
pub certified_example : AreCertified example_host (0 ∷ []) (example_piece ∷ example_piece ∷ [])
certified_example = record {
  are_pieces = record {
    is_grammar = is_grammar 0;
    within = All-cons (λ a. a < 1) 0 [] (omega arith) (All-nil (λ a. a < 1));
    differ = λ x i j at there. (at_one 0 x i at).0 ∙ sym (at_one 0 x j there).0;
    each = All-cons (IsPiece example_host (0 ∷ [])) example_piece (example_piece ∷ []) piece_is
        (All-cons (IsPiece example_host (0 ∷ [])) example_piece [] piece_is (All-nil (IsPiece example_host (0 ∷ []))));
  };
  host_certified = record {
    fit = record { reduced = reduced 0; no_unit_cycle = no_unit 1; no_hidden_left_recursion = no_hidden 1 };
    no_conflict = no_conflict 1;
  };
  each_certified = All-cons (IsCertifiedPiece example_host (0 ∷ [])) example_piece (example_piece ∷ []) certified_piece
      (All-cons (IsCertifiedPiece example_host (0 ∷ [])) example_piece [] certified_piece
      (All-nil (IsCertifiedPiece example_host (0 ∷ []))));
}
