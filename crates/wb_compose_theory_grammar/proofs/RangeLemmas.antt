-- Renamings on the numbers in a range, and the productions of a grammar with holes.
use Rattle.std.proofs.Common.{◌≡◌, ◌<◌, ◌+◌, ◌∙◌, ◌∷◌, [], ℕ, List, Some, length, map, slice_get, refl, sym, ap, inl, inr, arith}
use Rattle.std.specs.Prelude.{All}
use Rattle.std.proofs.lemmas.Bool.{cases_lt}
use Rattle.std.proofs.lemmas.List.Elements.{All-head, All-tail}
use Rattle.std.proofs.lemmas.Option.{same_Some, slice_get_within}
use Rattle.wb_base.specs.declared.symbol.Symbol.{Symbol}
use Rattle.wb_base.specs.declared.symbol.Symbol.TheVariants.{Terminal, Nonterminal}
use Rattle.wb_base.specs.Grammar.{GrammarView, IsSymbolBelow, Production}
use Rattle.wb_grammar_theory.specs.Productions.{IsProduction}
use Rattle.wb_lemmas.proofs.Places.{at_append, at_within}
use Rattle.wb_marking_holes.specs.Holes.{hole_productions, with_holes_of}
use Rattle.wb_marking_holes.proofs.UpLemmas.{holes_len}
use Rattle.wb_compose_theory.specs.Blocks.{spread}
use Rattle.wb_compose_theory.specs.Renamings.{Renaming, renamed}
use Rattle.wb_compose_theory_grammar.proofs.PlaceLemmas.{spread_below, spread_middle}
use Rattle.wb_compose_theory_grammar.proofs.ProductionLemmas.{hole_production}

-- renamings that agree on the numbers in range
pub agree : (r s : Renaming) (terminals nonterminals : ℕ) → ((t : ℕ) → t < terminals → r.terminal t ≡ s.terminal t) →
    ((a : ℕ) → a < nonterminals → r.nonterminal a ≡ s.nonterminal a) → (xs : List Symbol) →
    All (IsSymbolBelow terminals nonterminals) xs → map (renamed r) xs ≡ map (renamed s) xs
agree r s terminals nonterminals f h [] all = refl
agree r s terminals nonterminals f h (Terminal t ∷ xs) all =
    let head = f t (All-head (IsSymbolBelow terminals nonterminals) (Terminal t) xs all) in
    let tail = agree r s terminals nonterminals f h xs (All-tail (IsSymbolBelow terminals nonterminals) (Terminal t) xs all) in
    λ z. Terminal (head z) ∷ tail z
agree r s terminals nonterminals f h (Nonterminal a ∷ xs) all =
    let head = h a (All-head (IsSymbolBelow terminals nonterminals) (Nonterminal a) xs all) in
    let tail = agree r s terminals nonterminals f h xs (All-tail (IsSymbolBelow terminals nonterminals) (Nonterminal a) xs all) in
    λ z. Nonterminal (head z) ∷ tail z

-- a renaming that stays on the numbers in range
pub stays : (r : Renaming) (terminals nonterminals : ℕ) → ((t : ℕ) → t < terminals → r.terminal t ≡ t) →
    ((a : ℕ) → a < nonterminals → r.nonterminal a ≡ a) → (xs : List Symbol) →
    All (IsSymbolBelow terminals nonterminals) xs → map (renamed r) xs ≡ xs
stays r terminals nonterminals f h [] all = refl
stays r terminals nonterminals f h (Terminal t ∷ xs) all =
    let head = f t (All-head (IsSymbolBelow terminals nonterminals) (Terminal t) xs all) in
    let tail = stays r terminals nonterminals f h xs (All-tail (IsSymbolBelow terminals nonterminals) (Terminal t) xs all) in
    λ z. Terminal (head z) ∷ tail z
stays r terminals nonterminals f h (Nonterminal a ∷ xs) all =
    let head = h a (All-head (IsSymbolBelow terminals nonterminals) (Nonterminal a) xs all) in
    let tail = stays r terminals nonterminals f h xs (All-tail (IsSymbolBelow terminals nonterminals) (Nonterminal a) xs all) in
    λ z. Nonterminal (head z) ∷ tail z

-- what isn't after all doesn't depend on how many more there are
pub spread_same : (own before size total other t : ℕ) → t < own + size →
    spread own before size total t ≡ spread own before size other t
spread_same own before size total other t below = elim (cases_lt t own) [
  | inl near ↦ spread_below own before size total t near ∙ sym (spread_below own before size other t near)
  | inr far ↦ spread_middle own before size total t far below ∙ sym (spread_middle own before size other t far below)
]

-- the productions of a grammar with holes
pub data WithHoles (base : GrammarView) (extensible : List ℕ) (p a : ℕ) (right : List Symbol) : Type 0 where
  without : IsProduction base p a right → WithHoles base extensible p a right
  of_hole : (j : ℕ) → slice_get extensible j ≡ Some a → p ≡ length base.productions + j → right ≡ Terminal (base.terminals + j) ∷ [] →
      WithHoles base extensible p a right

-- which of them a production is
pub with_holes_view : (base : GrammarView) (extensible : List ℕ) (p a : ℕ) (right : List Symbol) →
    IsProduction (with_holes_of base extensible) p a right → WithHoles base extensible p a right
with_holes_view base extensible p a right rule =
    elim (at_append base.productions (hole_productions base.terminals extensible) (a, right) p rule) [
      | inl own ↦ without own
      | inr more ↦ holes more.0 more.1 more.2
    ]
  where
    holes : (j : ℕ) → p ≡ length base.productions + j → slice_get (hole_productions base.terminals extensible) j ≡ Some ((a, right)) →
        WithHoles base extensible p a right
    holes j is at =
        let less = slice_get_within (hole_productions base.terminals extensible) j (a, right) at in
        let len = holes_len base.terminals extensible in
        let (b, b_at) = at_within extensible j (omega (arith, less, len)) in
        let same : (a, right) ≡ (b, Terminal (base.terminals + j) ∷ []) =
        same_Some (a, right) (b, Terminal (base.terminals + j) ∷ []) (sym at ∙ hole_production base.terminals extensible j b b_at) in
        of_hole j (b_at ∙ ap Some (sym (ap (λ (z : Production). z.0) same))) is (ap (λ (z : Production). z.1) same)
