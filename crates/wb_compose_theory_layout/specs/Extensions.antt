-- The same of a host and its extensions, whose productions are blocks of the union's.
use Rattle.std.specs.Prelude.{◌≡◌, ◌≢◌, ◌<◌, ◌+◌, ℕ, List, Some, length, slice_get}
use Rattle.wb_base.specs.Grammar.{GrammarView}
use Rattle.wb_base.specs.declared.symbol.Symbol.{Symbol}
use Rattle.wb_compose_theory_grammar.specs.Laws.{IsOwn, in_union}
use Rattle.wb_compose_theory_grammar.specs.Pieces.{Piece}
use Rattle.wb_compose_theory_grammar.specs.Places.{count_before}
use Rattle.wb_compose_theory_grammar.specs.Unions.{added_productions}
use Rattle.wb_compose_theory_grammar.specs.UnitedWorlds.{production_sizes, united}
use Rattle.wb_grammar_theory.specs.Items.{HoldsFrom}
use Rattle.wb_grammar_theory.specs.Lookaheads.{IsValidTerminal}
use Rattle.wb_marking_holes.specs.Holes.{with_holes_of}

module _ (host : GrammarView) (extensible : List ℕ) (pieces : List Piece) where
  -- the first production of an extension in the union
  abbrev pub first_of : ℕ → ℕ
  first_of k = length host.productions + count_before (production_sizes host extensible pieces) k

  -- the kernel of the union at the prefix holds an item of the extension
  abbrev pub HoldsExtension : ℕ → Piece → List Symbol → Type 0
  HoldsExtension k x prefix =
      HoldsFrom (united host extensible pieces) prefix (first_of k) (first_of k + added_productions host x.grammar)

  -- the kernel of the host with holes and the extension does, at a prefix there
  abbrev pub HoldsOwn : Piece → List Symbol → Type 0
  HoldsOwn x prefix =
      HoldsFrom (with_holes_of x.grammar extensible) prefix (length host.productions)
      (length host.productions + added_productions host x.grammar)

  -- a kernel of the union that holds an item of an extension holds none of another; the grammar with the extension has such a kernel; a
  -- terminal of this grammar that is valid in the union there is valid in the grammar where it has one; and no other extension's own
  -- terminal is valid there but a marker
  pub record HasHeld : Type 0 where
    pub one : (k l : ℕ) (x y : Piece) → slice_get pieces k ≡ Some x → slice_get pieces l ≡ Some y → (prefix : List Symbol) →
        HoldsExtension k x prefix → HoldsExtension l y prefix → k ≡ l
    pub held : (k : ℕ) (x : Piece) → slice_get pieces k ≡ Some x → (prefix : List Symbol) → HoldsExtension k x prefix →
        (other : List Symbol) × HoldsOwn x other
    pub valid : (k : ℕ) (x : Piece) → slice_get pieces k ≡ Some x → (prefix : List Symbol) → HoldsExtension k x prefix → (t : ℕ) →
        t < x.grammar.terminals → IsValidTerminal (united host extensible pieces) prefix (in_union host extensible pieces k t) →
        (other : List Symbol) × IsValidTerminal (with_holes_of x.grammar extensible) other t × HoldsOwn x other
    pub apart : (k l : ℕ) (x y : Piece) → slice_get pieces k ≡ Some x → slice_get pieces l ≡ Some y → k ≢ l → (prefix : List Symbol) →
        HoldsExtension k x prefix → (u : ℕ) → IsOwn host extensible pieces y u →
        ¬ IsValidTerminal (united host extensible pieces) prefix (in_union host extensible pieces l u)
