-- Layout is what comes past the terminals of the grammar.
use Rattle.std.proofs.Common.{◌≡◌, ◌≤◌, ◌<◌, ◌∷◌, [], inl, inr, ℕ, zero, suc, Bool, true, false, List, Some, map, length, slice_get}
use Rattle.std.proofs.Common.{refl, sym, ◌∙◌, arith}
use Rattle.std.proofs.lemmas.Bool.{cases_lt}
use Rattle.std.proofs.lemmas.List.{length-map}
use Rattle.std.proofs.lemmas.Option.{same_Some, slice_get_within}
use Rattle.wb_lemmas.proofs.Places.{at_within, default_at}
use Rattle.wb_base.specs.Grammar.{GrammarView}
use Rattle.wb_determinism_host.specs.Lexicons.{is_layout}
use Rattle.wb_syntax_resolved.specs.declared.resolved.ResolvedParts.{ResolvedParts}
use Rattle.wb_syntax_resolved.specs.declared.terminal.Terminal.{Terminal}
use Rattle.wb_syntax_resolved.specs.declared.terminal.TerminalKind.{TerminalKind}
use Rattle.wb_syntax_resolved.specs.declared.terminal.TerminalKind.TheVariants.{Plain, Ignore, Marking}
use Rattle.wb_syntax_resolved.specs.Grammar.{IsGrammarOf}
use Rattle.wb_syntax_resolved.specs.Resolved.{IsResolved}
use Rattle.wb_termset.specs.Sets.{IsMember}
use Rattle.wb_termset.proofs.CallerLemmas.{has_below}
use Rattle.wb_determinism_beside.proofs.InRange.{grammar_of}
use Rattle.wb_determinism_beside.proofs.RowLemmas.{map_at}

-- what a mapped list has at a place comes from there
pub from_map : {X Y : Type 0} (f : X → Y) (xs : List X) (k : ℕ) (y : Y) → slice_get (map f xs) k ≡ Some y →
    (x : X) × (slice_get xs k ≡ Some x) × (f x ≡ y)
from_map {X} {Y} f xs k y at =
    let less : k < length xs = let a = slice_get_within (map f xs) k y at in let b = length-map xs f in omega (arith, a, b) in
    let (x, there) = at_within xs k less in
    (x, there, same_Some (f x) y (sym (map_at f xs k x there) ∙ at))

-- nothing is a member past the end
past_end : (set : List Bool) (t : ℕ) → length set ≤ t → ¬ IsMember set t
past_end [] t far is = absurd (cc is)
past_end (b ∷ set) zero far is = absurd (omega (arith, far))
past_end (b ∷ set) (suc t) far is = past_end set t (omega (arith, far)) is

-- whether a row is layout
abbrev layout_of : Terminal → Bool
layout_of t = is_layout t.kind

-- layout alone is layout
pub kind_layout : (kind : TerminalKind) → is_layout kind ≡ true → kind ≡ Ignore
kind_layout Plain e = absurd (cc e)
kind_layout Ignore e = refl
kind_layout Marking e = absurd (cc e)

-- a row that is layout, past the terminals of the grammar
pub record Layout (r : ResolvedParts) (g : GrammarView) (t : ℕ) : Type 0 where
  pub row : Terminal
  pub at : slice_get r.terminals t ≡ Some row
  pub kind : row.kind ≡ Ignore
  pub past : g.terminals ≤ t

module _ (r : ResolvedParts) (g : GrammarView) (whole : IsResolved r) (start : r.grammar ≡ Some g) where
  of_grammar : IsGrammarOf r g
  of_grammar = grammar_of r g whole start

  -- a row past the terminals of the grammar is layout, and no other row is
  pub layout_past : (t : ℕ) (row : Terminal) → slice_get r.terminals t ≡ Some row → (kind : TerminalKind) → row.kind ≡ kind →
      g.terminals ≤ t → is_layout kind ≡ true
  layout_past t row at Plain e far = let less = (of_grammar.terminals t row at).1 (λ f. let bad : Plain ≡ Ignore = sym e ∙ f in cc) in
      absurd (omega (arith, less, far))
  layout_past t row at Ignore e far = refl
  layout_past t row at Marking e far = let less = (of_grammar.terminals t row at).1 (λ f. let bad : Marking ≡ Ignore = sym e ∙ f in cc) in
      absurd (omega (arith, less, far))

  pub past_layout : (t : ℕ) (row : Terminal) → slice_get r.terminals t ≡ Some row → (kind : TerminalKind) → row.kind ≡ kind →
      is_layout kind ≡ true → g.terminals ≤ t
  past_layout t row at Plain e is = absurd (cc is)
  past_layout t row at Ignore e is = elim (cases_lt t g.terminals) [
    | inl low ↦ absurd ((of_grammar.terminals t row at).0 low e)
    | inr far ↦ far
  ]
  past_layout t row at Marking e is = absurd (cc is)

  -- a member of layout is such a row
  pub layout_at : (t : ℕ) → IsMember (map layout_of r.terminals) t → Layout r g t
  layout_at t is =
      let less : t < length r.terminals =
      (let a = has_below (map layout_of r.terminals) t is in let b = length-map r.terminals layout_of in omega (arith, a, b)) in
      let (row, at) = at_within r.terminals t less in
      let flag = default_at (map layout_of r.terminals) t false (layout_of row) (map_at layout_of r.terminals t row at) in
      record {
        row = row;
        at = at;
        kind = kind_layout row.kind (sym flag ∙ is);
        past = past_layout t row at row.kind refl (sym flag ∙ is);
      }

  -- and the other way round
  pub row_layout : (t : ℕ) (row : Terminal) → slice_get r.terminals t ≡ Some row → g.terminals ≤ t
      → IsMember (map layout_of r.terminals) t
  row_layout t row at far =
      default_at (map layout_of r.terminals) t false (layout_of row) (map_at layout_of r.terminals t row at)
      ∙ layout_past t row at row.kind refl far
