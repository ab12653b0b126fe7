-- What a united world says of each production: its owner, its left side and its right side.
use Rattle.std.proofs.Common.{◌≡◌, ◌<◌, ◌≤◌, ◌+◌, ◌-◌, ◌∙◌, ◌∷◌, [], ℕ, zero, suc, List, Option, Some, None, length, map, slice_get}
use Rattle.std.proofs.Common.{refl, sym, ap, inl, inr, arith}
use Rattle.std.specs.Prelude.{option_map}
use Rattle.std.proofs.lemmas.Bool.{cases_lt}
use Rattle.std.proofs.lemmas.List.{length-append}
use Rattle.std.proofs.lemmas.Option.{same_Some, slice_get-map, slice_get_within}
use Rattle.wb_base.specs.declared.symbol.Symbol.{Symbol}
use Rattle.wb_base.specs.declared.symbol.Symbol.TheVariants.{Terminal}
use Rattle.wb_base.specs.Grammar.{GrammarView, Production}
use Rattle.wb_grammar_theory.specs.Productions.{IsProduction, right_in}
use Rattle.wb_grammar_theory.proofs.DotLemmas.{after_initial}
use Rattle.wb_lemmas.proofs.Places.{append_after, append_keeps, at_within, nothing_at}
use Rattle.wb_marking_holes.specs.Holes.{hole_productions, with_holes_of}
use Rattle.wb_marking_holes.proofs.UpLemmas.{holes_len}
use Rattle.wb_compose_theory.specs.Renamings.{Renaming, renamed}
use Rattle.wb_compose_theory.specs.Worlds.{Owner, host, hole, extension, top, World}
use Rattle.wb_compose_theory_grammar.specs.Places.{count_before, total_of}
use Rattle.wb_compose_theory_grammar.specs.Pieces.{Piece}
use Rattle.wb_compose_theory_grammar.specs.Unions.{added_productions, lifted_by, own_productions, productions_after}
use Rattle.wb_compose_theory_grammar.specs.UnitedWorlds.{grammars_of, united, terminal_sizes, nonterminal_sizes, production_sizes, left_in}
use Rattle.wb_compose_theory_grammar.specs.UnitedWorlds.{world_of}
use Rattle.wb_compose_theory_grammar.specs.Owners.{owner_at, past_production_owner}
use Rattle.wb_compose_theory_grammar.proofs.PlaceLemmas.{Located, in_host, in_extension, after_all, located, place_host, place_extension}
use Rattle.wb_compose_theory_grammar.proofs.PlaceLemmas.{place_past}
use Rattle.wb_compose_theory_grammar.proofs.ProductionLemmas.{drop_at, own_len, extension_production, productions_len, hole_production}

-- what a mapped list has at a place
pub map_at : {X Y : Type 0} (f : X → Y) (xs : List X) (k : ℕ) (y : Y) → slice_get (map f xs) k ≡ Some y →
    (x : X) × (slice_get xs k ≡ Some x) × (y ≡ f x)
map_at {X} {Y} f xs k y at = go (slice_get xs k) refl
  where
    go : (o : Option X) → slice_get xs k ≡ o → (x : X) × (slice_get xs k ≡ Some x) × (y ≡ f x)
    go None is =
        let bad : Some y ≡ option_map f None = sym at ∙ (slice_get-map f xs k ∙ ap (option_map f) is) in
        let worse : Some y ≡ None = bad in cc
    go (Some x) is =
        let good : Some y ≡ option_map f (Some x) = sym at ∙ (slice_get-map f xs k ∙ ap (option_map f) is) in
        (x, is, same_Some y (f x) good)

-- a mapped list at a place
pub at_map : {X Y : Type 0} (f : X → Y) (xs : List X) (k : ℕ) (x : X) → slice_get xs k ≡ Some x → slice_get (map f xs) k ≡ Some (f x)
at_map f xs k x at = slice_get-map f xs k ∙ ap (option_map f) at

-- who owns a hole's production, and what is after them
pub past_hole_owner : (xs : List ℕ) (j a : ℕ) → slice_get xs j ≡ Some a → past_production_owner xs j ≡ hole
past_hole_owner [] j a at = absurd (nothing_at a j at)
past_hole_owner (x ∷ xs) zero a at = refl
past_hole_owner (x ∷ xs) (suc j) a at = past_hole_owner xs j a at

-- after them is the added production
pub past_all_owner : (xs : List ℕ) (j i : ℕ) → i ≡ length xs + j → past_production_owner xs i ≡ top
past_all_owner [] j i is = refl
past_all_owner (x ∷ xs) j zero is = absurd (omega (arith, is))
past_all_owner (x ∷ xs) j (suc i) is = past_all_owner xs j i (omega (arith, is))

-- the right side past all productions of a list
right_past : (rules : List Production) (s j i : ℕ) → i ≡ length rules + j → right_in rules s i ≡ right_in [] s j
right_past [] s j i is = let same : i ≡ j = omega (arith, is) in ap (right_in [] s) same
right_past (r ∷ rules) s j zero is = absurd (omega (arith, is))
right_past (r ∷ rules) s j (suc i) is = right_past rules s j i (omega (arith, is))

module _ (g : GrammarView) (extensible : List ℕ) (pieces : List Piece) where
  -- the world
  abbrev pub W : World
  W = world_of g extensible pieces

  -- the union with holes
  abbrev pub V : GrammarView
  V = with_holes_of (united g extensible pieces) extensible

  -- where the extension's numbers go in the union
  abbrev pub into : ℕ → Renaming
  into k = lifted_by g (count_before (terminal_sizes g extensible pieces) k) (count_before (nonterminal_sizes g extensible pieces) k)
      (count_before (production_sizes g extensible pieces) k)

  -- the same, as the union's productions have it
  abbrev pub into_by : ℕ → Renaming
  into_by k = lifted_by g (0 + count_before (terminal_sizes g extensible pieces) k)
      (0 + count_before (nonterminal_sizes g extensible pieces) k) 0

  -- the sizes of an extension
  pub size_at : (f : GrammarView → ℕ) (k : ℕ) (x : Piece) → slice_get pieces k ≡ Some x →
      slice_get (map f (grammars_of g extensible pieces)) k ≡ Some (f x.grammar)
  size_at f k x at = at_map f (grammars_of g extensible pieces) k x.grammar (at_map (λ z. z.grammar) pieces k x at)

  -- an extension of a size that is there
  pub piece_at : (f : GrammarView → ℕ) (k size : ℕ) → slice_get (map f (grammars_of g extensible pieces)) k ≡ Some size →
      (x : Piece) × (slice_get pieces k ≡ Some x) × (size ≡ f x.grammar)
  piece_at f k size at =
      let (h, h_at, is) = map_at f (grammars_of g extensible pieces) k size at in
      let (x, x_at, h_is) = map_at (λ (z : Piece). z.grammar) pieces k h h_at in
      (x, x_at, is ∙ ap f h_is)

  -- the union has so many productions
  pub united_len : length (united g extensible pieces).productions ≡ length g.productions + total_of (production_sizes g extensible pieces)
  united_len = length-append g.productions (productions_after g 0 0 (grammars_of g extensible pieces)) ∙
      ap (λ z. length g.productions + z) (productions_len g 0 0 (grammars_of g extensible pieces))

  -- and so many with holes
  pub with_holes_len : length V.productions ≡ length g.productions + (total_of (production_sizes g extensible pieces) + length extensible)
  with_holes_len =
      let a = length-append (united g extensible pieces).productions (hole_productions (united g extensible pieces).terminals extensible) in
      let b = holes_len (united g extensible pieces).terminals extensible in
      let c = united_len in
      omega (arith, a, b, c)

  -- what the world says of a production
  pub record Facts (p : ℕ) (o : Owner) (a : ℕ) (right : List Symbol) : Type 0 where
    pub owner : W.production_owner p ≡ o
    pub left : W.left p ≡ a
    pub right_is : W.right p ≡ right

  -- from the production in the list
  facts_of : (p a : ℕ) (right : List Symbol) (o : Owner) → IsProduction V p a right → W.production_owner p ≡ o → Facts p o a right
  facts_of p a right o rule owner = record { owner = owner; left = ap left_in rule; right_is = after_initial V p a right rule }

  -- a production of the host
  pub host_rule : (p a : ℕ) (right : List Symbol) → IsProduction g p a right → IsProduction V p a right
  host_rule p a right rule = append_keeps (united g extensible pieces).productions
      (hole_productions (united g extensible pieces).terminals extensible) p (a, right)
      (append_keeps g.productions (productions_after g 0 0 (grammars_of g extensible pieces)) p (a, right) rule)

  -- what the world says of it
  pub host_facts : (p a : ℕ) (right : List Symbol) → IsProduction g p a right → Facts p host a right
  host_facts p a right rule = facts_of p a right host (host_rule p a right rule)
      (ap (owner_at (past_production_owner extensible)) (place_host (length g.productions) (production_sizes g extensible pieces) p
      (slice_get_within g.productions p (a, right) rule)))

  -- a production of an extension
  pub extension_facts : (k : ℕ) (x : Piece) (i a : ℕ) (right : List Symbol) (p : ℕ) → slice_get pieces k ≡ Some x →
      IsProduction x.grammar (length g.productions + i) a right →
      p ≡ length g.productions + (count_before (production_sizes g extensible pieces) k + i) →
      Facts p (extension k) ((into_by k).nonterminal a) (map (renamed (into_by k)) right)
  extension_facts k x i a right p at rule is =
      facts_of p ((into_by k).nonterminal a) (map (renamed (into_by k)) right) (extension k) there owner
    where
      own : slice_get (own_productions g x.grammar) i ≡ Some ((a, right))
      own = drop_at (length g.productions) i x.grammar.productions ∙ rule

      there : IsProduction V p ((into_by k).nonterminal a) (map (renamed (into_by k)) right)
      there = append_keeps (united g extensible pieces).productions (hole_productions (united g extensible pieces).terminals extensible) p
          ((into_by k).nonterminal a, map (renamed (into_by k)) right)
          (ap (slice_get (united g extensible pieces).productions) is ∙
          (append_after g.productions (productions_after g 0 0 (grammars_of g extensible pieces))
          (count_before (production_sizes g extensible pieces) k + i) ∙
          extension_production g 0 0 (grammars_of g extensible pieces) k x.grammar i (a, right)
          (count_before (production_sizes g extensible pieces) k + i) (at_map (λ z. z.grammar) pieces k x at) own refl))

      within : i < added_productions g x.grammar
      within = let less = slice_get_within (own_productions g x.grammar) i (a, right) own in let len = own_len g x.grammar in
          omega (arith, less, len)

      owner : W.production_owner p ≡ extension k
      owner = ap (owner_at (past_production_owner extensible))
          (place_extension (length g.productions) (production_sizes g extensible pieces) k (added_productions g x.grammar) i p
          (size_at (added_productions g) k x at) within is)

  -- a production of a hole
  pub hole_facts : (j a p : ℕ) → slice_get extensible j ≡ Some a → p ≡ length (united g extensible pieces).productions + j →
      Facts p hole a (Terminal ((united g extensible pieces).terminals + j) ∷ [])
  hole_facts j a p at is = facts_of p a (Terminal ((united g extensible pieces).terminals + j) ∷ []) hole there owner
    where
      there : IsProduction V p a (Terminal ((united g extensible pieces).terminals + j) ∷ [])
      there = ap (slice_get V.productions) is ∙ (append_after (united g extensible pieces).productions
          (hole_productions (united g extensible pieces).terminals extensible) j ∙
          hole_production (united g extensible pieces).terminals extensible j a at)

      owner : W.production_owner p ≡ hole
      owner =
          let len = united_len in
          let place : p ≡ length g.productions + (total_of (production_sizes g extensible pieces) + j) = omega (arith, len, is) in
          ap (owner_at (past_production_owner extensible))
          (place_past (length g.productions) (production_sizes g extensible pieces) j p place) ∙
          past_hole_owner extensible j a at

  -- what is past all productions
  pub top_facts : (j p : ℕ) → p ≡ length V.productions + j → (W.production_owner p ≡ top) × (W.right p ≡ right_in [] g.start j)
  top_facts j p is = (owner, right_past V.productions g.start j p is)
    where
      owner : W.production_owner p ≡ top
      owner =
          let len = with_holes_len in
          let place : p ≡ length g.productions + (total_of (production_sizes g extensible pieces) + (length extensible + j)) =
          omega (arith, len, is) in
          ap (owner_at (past_production_owner extensible))
          (place_past (length g.productions) (production_sizes g extensible pieces) (length extensible + j) p place) ∙
          past_all_owner extensible j (length extensible + j) refl

  -- each number is one of these
  pub data ProductionOf (p : ℕ) : Type 0 where
    of_grammar : (a : ℕ) (right : List Symbol) → IsProduction g p a right → ProductionOf p
    of_piece : (k : ℕ) (x : Piece) (i a : ℕ) (right : List Symbol) → slice_get pieces k ≡ Some x →
        IsProduction x.grammar (length g.productions + i) a right →
        p ≡ length g.productions + (count_before (production_sizes g extensible pieces) k + i) → ProductionOf p
    of_hole : (j a : ℕ) → slice_get extensible j ≡ Some a → p ≡ length (united g extensible pieces).productions + j → ProductionOf p
    of_rest : (j : ℕ) → p ≡ length V.productions + j → ProductionOf p

  -- which of them a number is
  pub production_view : (p : ℕ) → ProductionOf p
  production_view p = go (located (length g.productions) (production_sizes g extensible pieces) p)
    where
      rest : (j : ℕ) → p ≡ length g.productions + (total_of (production_sizes g extensible pieces) + j) → ProductionOf p
      rest j is = elim (cases_lt j (length extensible)) [ inl below ↦ some below | inr over ↦ none_left over ]
        where
          some : j < length extensible → ProductionOf p
          some below =
              let (a, at) = at_within extensible j below in
              let len = united_len in
              let place : p ≡ length (united g extensible pieces).productions + j = omega (arith, len, is) in of_hole j a at place

          none_left : length extensible ≤ j → ProductionOf p
          none_left over =
              let len = with_holes_len in
              let place : p ≡ length V.productions + (j - length extensible) = omega (arith, len, is, over) in
              of_rest (j - length extensible) place

      go : Located (length g.productions) (production_sizes g extensible pieces) p → ProductionOf p
      go (in_host below) = let (rule, at) = at_within g.productions p below in of_grammar rule.0 rule.1 at
      go (in_extension k size i at within is) =
          let (x, x_at, size_is) = piece_at (added_productions g) k size at in
          let len = own_len g x.grammar in
          let less : i < length (own_productions g x.grammar) = omega (arith, within, size_is, len) in
          let (rule, rule_at) = at_within (own_productions g x.grammar) i less in
          of_piece k x i rule.0 rule.1 x_at (sym (drop_at (length g.productions) i x.grammar.productions) ∙ rule_at) is
      go (after_all j is) = rest j is
