-- What the laws say of a host and its extensions.
use Rattle.std.specs.Prelude.{◌≡◌, ◌≢◌, ◌↔◌, ◌<◌, ◌≤◌, ℕ, List, Some, All, slice_get}
use Rattle.wb_base.specs.declared.symbol.Symbol.{Symbol}
use Rattle.wb_base.specs.Grammar.{GrammarView, IsGrammar, IsSymbolBelow}
use Rattle.wb_grammar_theory.specs.declared.item.Item.{Item}
use Rattle.wb_grammar_theory.specs.Items.{IsViablePrefix}
use Rattle.wb_grammar_theory.specs.Lookaheads.{HasNoConflict, IsValidTerminal}
use Rattle.wb_marking_holes.specs.Holes.{with_holes_of}
use Rattle.wb_compose_theory.specs.Blocks.{lift}
use Rattle.wb_compose_theory.specs.NumberLaws.{HasHostKernels}
use Rattle.wb_compose_theory.specs.Numbered.{HostKernel, IsFit, IsNewHostKernel, IsValidInEnvelope, KeepsKernelLookaheads, KeepsLookaheads}
use Rattle.wb_compose_theory.specs.Worlds.{bare}
use Rattle.wb_compose_theory_grammar.specs.Numberings.{phi_of, up_of}
use Rattle.wb_compose_theory_grammar.specs.Pieces.{Piece}
use Rattle.wb_compose_theory_grammar.specs.Places.{count_before}
use Rattle.wb_compose_theory_grammar.specs.UnitedWorlds.{terminal_sizes, united}

module _ (host : GrammarView) (extensible : List ℕ) (pieces : List Piece) where
  -- the union is a grammar, is reduced, and has no unit cycle, no hidden left recursion and no conflict
  pub record IsUnited : Type 0 where
    pub is_grammar : IsGrammar (united host extensible pieces)
    pub fit : IsFit (united host extensible pieces) (united host extensible pieces)
    pub no_conflict : HasNoConflict (united host extensible pieces)

  -- the terminal is an extension's own and no marker
  pub record IsOwn (x : Piece) (t : ℕ) : Type 0 where
    pub own : host.terminals ≤ t
    pub within : t < x.grammar.terminals
    pub unmarked : x.mark t ≡ bare

  -- where the terminal of an extension's grammar is in the union
  abbrev pub in_union : ℕ → ℕ → ℕ
  in_union k t = lift host.terminals (count_before (terminal_sizes host extensible pieces) k) t

  -- at each prefix of the host, a terminal of the host is valid in the union exactly if it is in the host, so is the end of a text, and no
  -- extension's own terminal is that is no marker
  pub record KeepsHost : Type 0 where
    pub terminal : (prefix : List Symbol) → All (IsSymbolBelow host.terminals host.nonterminals) prefix → IsViablePrefix host prefix →
        (t : ℕ) → t < host.terminals → IsValidTerminal (united host extensible pieces) prefix t ↔ IsValidTerminal host prefix t
    pub end_of_text : (prefix : List Symbol) → All (IsSymbolBelow host.terminals host.nonterminals) prefix → IsViablePrefix host prefix →
        IsValidTerminal (united host extensible pieces) prefix (united host extensible pieces).terminals ↔
        IsValidTerminal host prefix host.terminals
    pub own : (k : ℕ) (x : Piece) → slice_get pieces k ≡ Some x → (prefix : List Symbol) →
        All (IsSymbolBelow host.terminals host.nonterminals) prefix → IsViablePrefix host prefix → (t : ℕ) → IsOwn x t →
        ¬ IsValidTerminal (united host extensible pieces) prefix (in_union k t)

  -- the items of the host that are in the kernel of a prefix of the host with an extension
  abbrev pub host_kernel_of : Piece → List Symbol → Item → Type 0
  host_kernel_of x prefix = HostKernel (with_holes_of x.grammar extensible) (up_of host x.grammar) prefix

  -- two terminals of the host are nowhere valid together: not in the host with holes, not in this with an extension, and not in the
  -- envelope of a new kernel of host items
  pub record AreHostApart (t u : ℕ) : Type 0 where
    pub in_host : (prefix : List Symbol) → IsValidTerminal (with_holes_of host extensible) prefix t →
        ¬ IsValidTerminal (with_holes_of host extensible) prefix u
    pub in_extension : (k : ℕ) (x : Piece) → slice_get pieces k ≡ Some x → (prefix : List Symbol) →
        IsValidTerminal (with_holes_of x.grammar extensible) prefix t → ¬ IsValidTerminal (with_holes_of x.grammar extensible) prefix u
    pub in_envelope : (k : ℕ) (x : Piece) → slice_get pieces k ≡ Some x → (prefix : List Symbol) →
        IsNewHostKernel (with_holes_of host extensible) (with_holes_of x.grammar extensible) (up_of host x.grammar) prefix →
        IsValidInEnvelope (with_holes_of host extensible) (host_kernel_of x prefix) t →
        ¬ IsValidInEnvelope (with_holes_of host extensible) (host_kernel_of x prefix) u

  -- two terminals of an extension's grammar are nowhere valid together there
  abbrev pub AreApartFor : Piece → ℕ → ℕ → Type 0
  AreApartFor x t u =
      (prefix : List Symbol) → IsValidTerminal (with_holes_of x.grammar extensible) prefix t →
      ¬ IsValidTerminal (with_holes_of x.grammar extensible) prefix u

  -- both terminals are valid at a prefix of the union
  pub record IsTogether (t u : ℕ) : Type 0 where
    pub prefix : List Symbol
    pub left : IsValidTerminal (united host extensible pieces) prefix t
    pub right : IsValidTerminal (united host extensible pieces) prefix u

  -- terminals that are valid together in the union are so in what was certified: two of the host; one of an extension that is no marker
  -- with one of the host, or with another of its own, which may be a marker; and those of two extensions, no markers, never are
  pub record HasTogether : Type 0 where
    pub of_host : (t u : ℕ) → t < host.terminals → u < host.terminals → IsTogether t u → ¬ AreHostApart t u
    pub of_extension : (k : ℕ) (x : Piece) → slice_get pieces k ≡ Some x → (t u : ℕ) → IsOwn x t → u < x.grammar.terminals →
        IsTogether (in_union k t) (in_union k u) → ¬ AreApartFor x t u
    pub of_two : (k l : ℕ) (x y : Piece) → slice_get pieces k ≡ Some x → slice_get pieces l ≡ Some y → k ≢ l → (t u : ℕ) → IsOwn x t →
        IsOwn y u → ¬ IsTogether (in_union k t) (in_union l u)

-- each prefix of the host has the same kernel with the extension, so the lookahead rule by kernels is the lookahead rule
pub record HasSameKernels (host : GrammarView) (extensible : List ℕ) (x : Piece) : Type 0 where
  pub same : HasHostKernels (with_holes_of host extensible) (with_holes_of x.grammar extensible) (up_of host x.grammar)
  pub lookaheads :
      KeepsKernelLookaheads (with_holes_of host extensible) (with_holes_of x.grammar extensible) (up_of host x.grammar)
      (phi_of extensible x) →
      KeepsLookaheads (with_holes_of host extensible) (with_holes_of x.grammar extensible) (up_of host x.grammar) (phi_of extensible x)
