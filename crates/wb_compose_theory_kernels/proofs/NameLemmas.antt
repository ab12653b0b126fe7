-- The names that numbers of the certified grammars and of the union have in their world.
use Rattle.std.proofs.Common.{◌+◌, ◌-◌, ◌<◌, ◌≤◌, ◌∙◌, ◌≡◌, ◌⊎◌, List, None, Option, Some, ap, arith, cond, inl, inr, length, ltb}
use Rattle.std.proofs.Common.{refl, slice_get, sym, ℕ}
use Rattle.std.proofs.lemmas.Bool.{cases_lt, le-ltb, lt-ltb}
use Rattle.wb_base.specs.declared.symbol.Symbol.{Symbol}
use Rattle.wb_base.specs.declared.symbol.Symbol.TheVariants.{Nonterminal, Terminal}
use Rattle.wb_base.specs.Grammar.{GrammarView}
use Rattle.wb_grammar_theory.specs.declared.item.Item.{Item}
use Rattle.wb_lemmas.proofs.Places.{at_within}
use Rattle.wb_compose_theory.specs.Blocks.{spread}
use Rattle.wb_compose_theory.specs.Homes.{Home, IsListed, of, of_host, part_of}
use Rattle.wb_compose_theory.specs.Renamings.{Renaming, renamed, renamed_item}
use Rattle.wb_compose_theory.specs.Seams.{IsNumbering}
use Rattle.wb_compose_theory.specs.Worlds.{both}
use Rattle.wb_compose_theory_grammar.proofs.CompositionLemmas.{both_numbering, host_numbering}
use Rattle.wb_compose_theory_grammar.proofs.CoverLemmas.{piece_sizes}
use Rattle.wb_compose_theory_grammar.proofs.FactLemmas as fact
use Rattle.wb_compose_theory_grammar.proofs.FactLemmas.{W}
use Rattle.wb_compose_theory_grammar.proofs.PlaceLemmas.{spread_below, spread_middle, spread_past}
use Rattle.wb_compose_theory_grammar.specs.Cuts.{Cut, no_cut}
use Rattle.wb_compose_theory_grammar.specs.Numberings.{names_in, whole_cut}
use Rattle.wb_compose_theory_grammar.specs.Pieces.{ArePieces, Piece}
use Rattle.wb_compose_theory_grammar.specs.Places.{total_of}
use Rattle.wb_compose_theory_grammar.specs.UnitedWorlds.{nonterminal_sizes, production_sizes, terminal_sizes}
use Rattle.wb_compose_theory_kernels.specs.Parts.{IsAmong, IsHole, IsHoleProduction, cut_at, cut_in, grammar_at, grammar_in}
use Rattle.wb_compose_theory_kernels.specs.Parts.{into_union, without_holes}

-- a number is before the holes or after them, if it isn't one of them
abbrev pub IsBeside : (first many : ℕ) → ℕ → Type 0
IsBeside first many t = (t < first) ⊎ (first + many ≤ t)

pub beside : (first many t : ℕ) → ¬ IsAmong first many t → IsBeside first many t
beside first many t not = elim (cases_lt t first) [
  | inl below ↦ inl below
  | inr far ↦ elim (cases_lt t (first + many)) [ inl less ↦ absurd (not (far, less)) | inr over ↦ inr over ]
]

-- without holes, and then among the names of the union with holes, is the name at once
pub without_spread : (own before size total holes wide narrow t : ℕ) → before + size ≤ total → wide ≡ total + holes → narrow ≡ total →
    IsBeside (own + size) holes t →
    spread own 0 total wide (without_holes own before size total holes t) ≡ spread own before size narrow t
without_spread own before size total holes wide narrow t fits wide_is narrow_is aside =
    elim (cases_lt t own) [ inl below ↦ in_host below | inr far ↦ elim aside [ inl less ↦ in_stretch far less | inr over ↦ after over ] ]
  where
    in_host : t < own → spread own 0 total wide (without_holes own before size total holes t) ≡ spread own before size narrow t
    in_host below =
        ap (λ c. spread own 0 total wide (cond c t (cond (ltb t (own + size)) (t + before) ((t - (size + holes)) + total))))
        (lt-ltb t own below) ∙
        (spread_below own 0 total wide t below ∙ sym (spread_below own before size narrow t below))

    in_stretch : own ≤ t → t < own + size →
        spread own 0 total wide (without_holes own before size total holes t) ≡ spread own before size narrow t
    in_stretch far less =
        ap (λ c. spread own 0 total wide (cond c t (cond (ltb t (own + size)) (t + before) ((t - (size + holes)) + total))))
        (le-ltb t own far) ∙
        (ap (λ c. spread own 0 total wide (cond c (t + before) ((t - (size + holes)) + total))) (lt-ltb t (own + size) less) ∙
        (spread_middle own 0 total wide (t + before) (omega (arith, far)) (omega (arith, less, fits)) ∙
        ((omega arith) ∙ sym (spread_middle own before size narrow t far less))))

    after : (own + size) + holes ≤ t →
        spread own 0 total wide (without_holes own before size total holes t) ≡ spread own before size narrow t
    after over =
        let far : own ≤ t = omega (arith, over) in
        let more : own + size ≤ t = omega (arith, over) in
        ap (λ c. spread own 0 total wide (cond c t (cond (ltb t (own + size)) (t + before) ((t - (size + holes)) + total))))
        (le-ltb t own far) ∙
        (ap (λ c. spread own 0 total wide (cond c (t + before) ((t - (size + holes)) + total))) (le-ltb t (own + size) more) ∙
        (spread_past own 0 total wide ((t - (size + holes)) + total) (omega (arith, over)) ∙
        ((omega (arith, over, wide_is, narrow_is, fits)) ∙ sym (spread_past own before size narrow t more))))

module _ (g : GrammarView) (extensible : List ℕ) (pieces : List Piece) (ok : ArePieces g extensible pieces) where
  -- the names of a certified grammar's numbers, and of the union's
  abbrev pub names_at : Home → Renaming
  names_at home = names_in g extensible pieces (cut_at g extensible pieces home) 0

  abbrev pub union_names : Renaming
  union_names = names_in g extensible pieces (whole_cut g extensible pieces) (length extensible)

  -- a stretch is within all
  pub record Fits (c : Cut) : Type 0 where
    pub terminals : c.terminals.before + c.terminals.size ≤ total_of (terminal_sizes g extensible pieces)
    pub nonterminals : c.nonterminals.before + c.nonterminals.size ≤ total_of (nonterminal_sizes g extensible pieces)
    pub productions : c.productions.before + c.productions.size ≤ total_of (production_sizes g extensible pieces)

  no_cut_fits : Fits no_cut
  no_cut_fits = record { terminals = omega arith; nonterminals = omega arith; productions = omega arith }

  fits_in : (e : ℕ) (o : Option Piece) → slice_get pieces e ≡ o → Fits (cut_in g extensible pieces e o)
  fits_in e None at = no_cut_fits
  fits_in e (Some x) at =
      let s = piece_sizes g extensible pieces ok e x at in
      record { terminals = s.terminals_fit; nonterminals = s.nonterminals_fit; productions = s.productions_fit }

  pub fits : (home : Home) → Fits (cut_at g extensible pieces home)
  fits of_host = no_cut_fits
  fits (of e) = fits_in e (slice_get pieces e) refl

  -- a certified grammar is a part of the world
  numbering_in : (e : ℕ) (o : Option Piece) → slice_get pieces e ≡ o → e < length pieces →
      IsNumbering (grammar_in g extensible pieces o) (W g extensible pieces) (both e)
      (names_in g extensible pieces (cut_in g extensible pieces e o) 0)
  numbering_in e None at less = let (x, is) = at_within pieces e less in let f : None ≡ Some x = sym at ∙ is in cc
  numbering_in e (Some x) at less = both_numbering g extensible pieces ok e x at

  pub numbering : (home : Home) → IsListed (length pieces) home →
      IsNumbering (grammar_at g extensible pieces home) (W g extensible pieces) (part_of home) (names_at home)
  numbering of_host listed = host_numbering g extensible pieces ok
  numbering (of e) listed = numbering_in e (slice_get pieces e) refl listed

  -- into the union, and then to its names
  pub terminal_into_union : (home : Home) (t : ℕ) → ¬ IsHole g extensible pieces home (Terminal t) →
      union_names.terminal ((into_union g extensible pieces home).terminal t) ≡ (names_at home).terminal t
  terminal_into_union home t not =
      without_spread g.terminals (cut_at g extensible pieces home).terminals.before (cut_at g extensible pieces home).terminals.size
      (total_of (terminal_sizes g extensible pieces)) (length extensible)
      (total_of (terminal_sizes g extensible pieces) + length extensible)
      (total_of (terminal_sizes g extensible pieces) + 0) t (fits home).terminals refl (omega arith)
      (beside (g.terminals + (cut_at g extensible pieces home).terminals.size) (length extensible) t not)

  nonterminal_into_union : (home : Home) (a : ℕ) →
      union_names.nonterminal ((into_union g extensible pieces home).nonterminal a) ≡ (names_at home).nonterminal a
  nonterminal_into_union home a =
      without_spread g.nonterminals (cut_at g extensible pieces home).nonterminals.before
      (cut_at g extensible pieces home).nonterminals.size
      (total_of (nonterminal_sizes g extensible pieces)) 0 (total_of (nonterminal_sizes g extensible pieces))
      (total_of (nonterminal_sizes g extensible pieces)) a (fits home).nonterminals (omega arith) refl
      (beside (g.nonterminals + (cut_at g extensible pieces home).nonterminals.size) 0 a
      (λ k. (let far = k.0 in let less = k.1 in omega (arith, far, less))))

  pub production_into_union : (home : Home) (p : ℕ) → ¬ IsHoleProduction g extensible pieces home p →
      union_names.production ((into_union g extensible pieces home).production p) ≡ (names_at home).production p
  production_into_union home p not =
      without_spread (length g.productions) (cut_at g extensible pieces home).productions.before
      (cut_at g extensible pieces home).productions.size
      (total_of (production_sizes g extensible pieces)) (length extensible)
      (total_of (production_sizes g extensible pieces) + length extensible)
      (total_of (production_sizes g extensible pieces) + 0) p (fits home).productions refl (omega arith)
      (beside (length g.productions + (cut_at g extensible pieces home).productions.size) (length extensible) p not)

  pub symbol_into_union : (home : Home) (x : Symbol) → ¬ IsHole g extensible pieces home x →
      renamed union_names (renamed (into_union g extensible pieces home) x) ≡ renamed (names_at home) x
  symbol_into_union home (Terminal t) not = ap Terminal (terminal_into_union home t not)
  symbol_into_union home (Nonterminal a) not = ap Nonterminal (nonterminal_into_union home a)

  pub item_into_union : (home : Home) (i : Item) → ¬ IsHoleProduction g extensible pieces home i.production →
      renamed_item union_names (renamed_item (into_union g extensible pieces home) i) ≡ renamed_item (names_at home) i
  item_into_union home i not =
      let p = production_into_union home i.production not in λ j. record { production = p j; dot = i.dot }
