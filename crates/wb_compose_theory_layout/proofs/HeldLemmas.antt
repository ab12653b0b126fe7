-- Kernels of the union that hold items of an extension, in numbers.
use Rattle.std.proofs.Common.{◌≡◌, ◌≢◌, ◌<◌, ◌≤◌, ◌+◌, ◌-◌, ◌∙◌, ℕ, zero, suc, List, [], ◌∷◌, Option, Some, length, slice_get, refl, sym, ap, subst}
use Rattle.std.proofs.Common.{inl, inr, arith}
use Rattle.std.proofs.lemmas.Bool.{cases_lt}
use Rattle.wb_base.specs.declared.symbol.Symbol.{Symbol}
use Rattle.wb_base.specs.Grammar.{GrammarView}
use Rattle.wb_grammar_theory.specs.declared.item.Item.{Item}
use Rattle.wb_grammar_theory.specs.Items.{IsKernelItem}
use Rattle.wb_grammar_theory.specs.Lookaheads.{IsValidTerminal}
use Rattle.wb_marking_holes.specs.Holes.{with_holes_of}
use Rattle.wb_compose_theory_layout.proofs.HolderNumbers.{composed_holders}
use Rattle.wb_compose_theory_layout.proofs.TwinLemmas.{image_of, not_valid_beside, twin_valid}
use Rattle.wb_compose_theory.specs.Blocks.{spread}
use Rattle.wb_compose_theory.specs.Composed.{Composition}
use Rattle.wb_compose_theory.specs.Marks.{phi}
use Rattle.wb_compose_theory_layout.specs.Numbers.{HasHoldersIn, HoldsItemIn}
use Rattle.wb_compose_theory.specs.Worlds.{Owner, World, extension, hole, host, top}
use Rattle.wb_compose_theory_grammar.specs.Certificates.{AreCertified}
use Rattle.wb_compose_theory_grammar.specs.Laws.{IsOwn, in_union}
use Rattle.wb_compose_theory_layout.specs.Extensions.{HasHeld, HoldsExtension, HoldsOwn, first_of}
use Rattle.wb_compose_theory_grammar.specs.Numberings.{composition_of, cut_of, extended_in, names_in, whole_cut}
use Rattle.wb_compose_theory_grammar.specs.Owners.{owner_at, past_production_owner}
use Rattle.wb_compose_theory_grammar.specs.Pieces.{Piece}
use Rattle.wb_compose_theory_grammar.specs.Places.{count_before, of_extension, of_host, past, place_of, total_of}
use Rattle.wb_compose_theory_grammar.specs.Unions.{added_productions}
use Rattle.wb_compose_theory_grammar.specs.UnitedWorlds.{production_sizes, united}
use Rattle.wb_compose_theory_grammar.proofs.ApartLemmas.{into_is}
use Rattle.wb_compose_theory_grammar.proofs.CompositionLemmas.{united_composition}
use Rattle.wb_compose_theory_grammar.proofs.FactLemmas.{W, into_by, size_at}
use Rattle.wb_compose_theory_grammar.proofs.PlaceLemmas.{place_extension, place_host, place_past, spread_below, spread_middle, spread_past, within_total}
use Rattle.wb_compose_theory_grammar.proofs.UnionGrammarLemmas.{terminal_below}

-- what is past all productions is no extension's
past_no_extension : (xs : List ℕ) (j k : ℕ) → past_production_owner xs j ≡ extension k → ⊥
past_no_extension [] j k is = absurd (cc is)
past_no_extension (a ∷ xs) zero k is = absurd (cc is)
past_no_extension (a ∷ xs) (suc j) k is = past_no_extension xs j k is

module _ (g : GrammarView) (extensible : List ℕ) (pieces : List Piece) (is : AreCertified g extensible pieces) where
  abbrev w : World
  w = W g extensible pieces

  abbrev c : Composition
  c = composition_of g extensible pieces

  holders : HasHoldersIn w (length pieces) c
  holders = composed_holders w (length pieces) c (united_composition g extensible pieces is)

  abbrev sizes : List ℕ
  sizes = production_sizes g extensible pieces

  -- the owner in the world of a production of the union
  owner_of_place : (p k i : ℕ) → place_of (length g.productions) sizes p ≡ of_extension k i → w.production_owner p ≡ extension k
  owner_of_place p k i here = ap (owner_at (past_production_owner extensible)) here

  owner_there : (k : ℕ) (x : Piece) → slice_get pieces k ≡ Some x → (p : ℕ) → first_of g extensible pieces k ≤ p
      → p < first_of g extensible pieces k + added_productions g x.grammar
      → w.production_owner (c.union_names.production p) ≡ extension k
  owner_there k x at p low high =
      let size = size_at g extensible pieces (added_productions g) k x at in
      let total = within_total sizes k (added_productions g x.grammar) size in
      let more = total_of sizes + length extensible in
      let stays : spread (length g.productions) 0 (total_of sizes) more p ≡ p + 0 =
      spread_middle (length g.productions) 0 (total_of sizes) more p (omega (arith, low)) (omega (arith, high, total)) in
      let same : p + 0 ≡ p = omega arith in
      let i = p - first_of g extensible pieces k in
      let within : i < added_productions g x.grammar = omega (arith, low, high) in
      let number : p ≡ length g.productions + (count_before sizes k + i) = omega (arith, low) in
      ap w.production_owner (stays ∙ same)
      ∙ owner_of_place p k i (place_extension (length g.productions) sizes k (added_productions g x.grammar) i p size within number)

  -- a production of the grammar with the extension whose owner is the extension
  owner_back : (k : ℕ) (x : Piece) → slice_get pieces k ≡ Some x → (j : ℕ)
      → w.production_owner ((names_in g extensible pieces (cut_of g extensible pieces k x) 0).production j) ≡ extension k
      → (length g.productions ≤ j) × (j < length g.productions + added_productions g x.grammar)
  owner_back k x at j mine = elim (cases_lt j (length g.productions)) [
    | inl near ↦ low near
    | inr far ↦ elim (cases_lt j (length g.productions + added_productions g x.grammar)) [
      | inl within ↦ (far, within)
      | inr over ↦ high over
    ]
  ]
    where
      low : j < length g.productions → (length g.productions ≤ j) × (j < length g.productions + added_productions g x.grammar)
      low near =
          let stays = spread_below (length g.productions) (count_before sizes k) (added_productions g x.grammar) (total_of sizes + 0) j near in
          let owner : w.production_owner j ≡ host =
          ap (owner_at (past_production_owner extensible)) (place_host (length g.productions) sizes j near) in
          let both : host ≡ extension k = sym owner ∙ (sym (ap w.production_owner stays) ∙ mine) in
          absurd (cc both)

      high : length g.productions + added_productions g x.grammar ≤ j
          → (length g.productions ≤ j) × (j < length g.productions + added_productions g x.grammar)
      high over =
          let sized = size_at g extensible pieces (added_productions g) k x at in
          let total = within_total sizes k (added_productions g x.grammar) sized in
          let moves = spread_past (length g.productions) (count_before sizes k) (added_productions g x.grammar) (total_of sizes + 0) j over in
          let rest = j - (length g.productions + added_productions g x.grammar) in
          let number : j + (total_of sizes + 0 - added_productions g x.grammar) ≡ length g.productions + (total_of sizes + rest) =
          omega (arith, over, total) in
          let owner = ap (owner_at (past_production_owner extensible))
          (place_past (length g.productions) sizes rest (j + (total_of sizes + 0 - added_productions g x.grammar)) number) in
          absurd (past_no_extension extensible rest k (sym owner ∙ (sym (ap w.production_owner moves) ∙ mine)))

  -- the kernel of the union, by owners in the world
  holds_there : (k : ℕ) (x : Piece) → slice_get pieces k ≡ Some x → (prefix : List Symbol) → HoldsExtension g extensible pieces k x prefix
      → HoldsItemIn w c prefix k
  holds_there k x at prefix (i, kernel, low, high) = (i, kernel, owner_there k x at i.production low high)

  -- an item of what may be an extension, and a valid terminal beside one
  abbrev HoldsBy : ℕ → Option Piece → List Symbol → Type 0
  HoldsBy k o prefix = (i : Item) × IsKernelItem (extended_in g extensible pieces k o).grammar prefix i
      × (w.production_owner ((extended_in g extensible pieces k o).names.production i.production) ≡ extension k)

  abbrev IsValidBy : ℕ → Option Piece → List Symbol → ℕ → ℕ → Type 0
  IsValidBy k o prefix number t =
      ((extended_in g extensible pieces k o).names.terminal number ≡ phi w (c.union_names.terminal t))
      × IsValidTerminal (extended_in g extensible pieces k o).grammar prefix number

  own_back : (k : ℕ) (x : Piece) → slice_get pieces k ≡ Some x → (prefix : List Symbol) → HoldsBy k (slice_get pieces k) prefix
      → HoldsOwn g extensible pieces x prefix
  own_back k x at prefix item =
      let (i, kernel, mine) = subst (λ o. HoldsBy k o prefix) at item in
      let (low, high) = owner_back k x at i.production mine in
      (i, kernel, low, high)

  valid : (k : ℕ) (x : Piece) → slice_get pieces k ≡ Some x → (prefix : List Symbol) → HoldsExtension g extensible pieces k x prefix
      → (t : ℕ) → t < x.grammar.terminals → IsValidTerminal (united g extensible pieces) prefix (in_union g extensible pieces k t)
      → (other : List Symbol) × IsValidTerminal (with_holes_of x.grammar extensible) other t × HoldsOwn g extensible pieces x other
  valid k x at prefix held t less here =
      let v = holders.valid prefix k (holds_there k x at prefix held) (in_union g extensible pieces k t) here in
      let (named, there) =
      subst (λ o. IsValidBy k o v.prefix v.number (in_union g extensible pieces k t)) at (v.is, v.valid) in
      let into = into_is g extensible pieces is k t in
      let below = terminal_below g extensible pieces is.are_pieces k x t at less in
      let image = image_of g extensible pieces is (in_union g extensible pieces k t)
      (subst (λ z. z < (united g extensible pieces).terminals) (sym into) below) in (
        v.prefix,
        twin_valid g extensible pieces is k x at t v.number v.prefix less (named ∙ (image ∙ ap (phi w) into)) there,
        own_back k x at v.prefix v.holds,
      )

  -- no own terminal of another extension is valid there but a marker
  apart : (k l : ℕ) (x y : Piece) → slice_get pieces k ≡ Some x → slice_get pieces l ≡ Some y → k ≢ l → (prefix : List Symbol)
      → HoldsExtension g extensible pieces k x prefix → (u : ℕ) → IsOwn g extensible pieces y u
      → IsValidTerminal (united g extensible pieces) prefix (in_union g extensible pieces l u) → ⊥
  apart k l x y at there differ prefix held u own here =
      let v = holders.valid prefix k (holds_there k x at prefix held) (in_union g extensible pieces l u) here in
      let (named, is_there) =
      subst (λ o. IsValidBy k o v.prefix v.number (in_union g extensible pieces l u)) at (v.is, v.valid) in
      not_valid_beside g extensible pieces is k l x y at there differ u v.number own named

  pub has_held : HasHeld g extensible pieces
  has_held = record {
    one = λ k l x y at there prefix first second.
        holders.one prefix k l (holds_there k x at prefix first) (holds_there l y there prefix second);
    held = λ k x at prefix item.
        (let (other, own) = holders.held prefix k (holds_there k x at prefix item) in
        (other, own_back k x at other own));
    valid = valid;
    apart = apart;
  }
