-- What the laws say of a host with holes and one extension.
use Rattle.std.specs.Prelude.{◌≡◌, ◌⊎◌, ◌↔◌, ◌++◌, ◌∷◌, [], ℕ, Bool, IsTrue, List}
use Rattle.wb_base.specs.declared.symbol.Symbol.{Symbol}
use Rattle.wb_base.specs.declared.symbol.Symbol.TheVariants.{Terminal, Nonterminal}
use Rattle.wb_grammar_theory.specs.declared.item.Item.{Item}
use Rattle.wb_grammar_theory.specs.Items.{advance, initial_item}
use Rattle.wb_compose_theory.specs.Worlds.{World, Part, bare, plus, both, extension, IsProductionIn, IsSymbolIn}
use Rattle.wb_compose_theory.specs.Marks.{IsMarked, phi}
use Rattle.wb_compose_theory.specs.Derives.{AreProductiveIn, IsFirstIn}
use Rattle.wb_compose_theory.specs.Items.{HasItemIn, IsKernelItemIn, SameKernelIn, after_dot_in}
use Rattle.wb_compose_theory.specs.Lookaheads.{HasConflictIn, HasNoConflictIn, IsLookaheadIn, IsValidTerminalIn}
use Rattle.wb_determinism_theory.specs.Known.{IsKnownItem, IsKnownLookahead, IsMarkerOf}

-- names are where they may be, and each nonterminal derives some text
pub record IsPrepared (w : World) (e : ℕ) : Type 0 where
  pub is_marked : IsMarked w
  pub host : AreProductiveIn w plus
  pub both_parts : AreProductiveIn w (both e)

-- what is known at a kernel of the host with holes, which with the extension is that of this prefix: items exactly; lookaheads are true;
-- and they are closed within the kernel and over each symbol that is no marker, which leads to a kernel of the host with holes
pub record IsKnownAt (w : World) (e : ℕ) (other prefix : List Symbol) : Type 0 where
  pub items : (i : Item) → HasItemIn w (both e) prefix i ↔ IsKnownItem w e other i
  pub true : (i : Item) (t : ℕ) → IsKnownLookahead w e other i t → IsLookaheadIn w (both e) prefix i t
  pub closed : (i : Item) (t b : ℕ) (rest : List Symbol) (q u : ℕ) → IsKnownLookahead w e other i t →
      after_dot_in w i ≡ Nonterminal b ∷ rest → IsProductionIn w (both e) q → w.left q ≡ b →
      IsFirstIn w (both e) (rest ++ Terminal t ∷ []) u → IsKnownLookahead w e other (initial_item q) u
  pub moved : (i : Item) (t : ℕ) (x : Symbol) (rest : List Symbol) → IsKnownLookahead w e other i t → after_dot_in w i ≡ x ∷ rest →
      IsMarkerOf w e x ⊎ IsKnownLookahead w e (other ++ x ∷ []) (advance i) t
  pub stays : (i : Item) (x : Symbol) (rest : List Symbol) → HasItemIn w (both e) prefix i → after_dot_in w i ≡ x ∷ rest →
      IsMarkerOf w e x ⊎ SameKernelIn w plus (other ++ x ∷ []) (both e) (prefix ++ x ∷ [])

-- with the lookahead rule at this kernel: lookaheads are what is known; there is no conflict; valid terminals are those of the host with
-- holes, each hole with the markers beside it; and one that is no mark is the host's, and valid there
pub record IsKept (w : World) (e : ℕ) (other prefix : List Symbol) : Type 0 where
  pub lookaheads : (i : Item) (t : ℕ) → IsLookaheadIn w (both e) prefix i t ↔ IsKnownLookahead w e other i t
  pub no_conflict : HasNoConflictIn w plus → (t : ℕ) → ¬ HasConflictIn w (both e) prefix t
  pub valid : (t : ℕ) →
      IsValidTerminalIn w (both e) prefix t ↔ (IsSymbolIn w (both e) (Terminal t) × IsValidTerminalIn w plus other (phi w t))
  pub unmarked : (t : ℕ) → w.mark t ≡ bare → IsValidTerminalIn w (both e) prefix t →
      IsSymbolIn w plus (Terminal t) × IsValidTerminalIn w plus other t

-- what is scanned, what is layout, what is layout of the extension, and which two terminals match one text with no preference between them
pub record Lexicon : Type 0 where
  pub scanned : ℕ → Bool
  pub layout : ℕ → Bool
  pub own_layout : ℕ → Bool
  pub clash : ℕ → ℕ → Bool

-- the kernel of the prefix holds an item of the extension
abbrev pub HoldsItemIn : World → ℕ → Part → List Symbol → Type 0
HoldsItemIn w e part prefix = (i : Item) × IsKernelItemIn w part prefix i × (w.production_owner i.production ≡ extension e)

-- the terminal is considered at the prefix: it is scanned and valid there, or layout, or layout of the extension of which the kernel holds
-- an item
abbrev pub IsConsideredIn : World → ℕ → Part → Lexicon → List Symbol → ℕ → Type 0
IsConsideredIn w e part l prefix t =
    (IsTrue (l.scanned t) × IsValidTerminalIn w part prefix t) ⊎ (IsTrue (l.layout t) ⊎ (IsTrue (l.own_layout t) × HoldsItemIn w e part prefix))

-- no two terminals that are considered at the prefix clash
abbrev pub HasNoClashIn : World → ℕ → Part → Lexicon → List Symbol → Type 0
HasNoClashIn w e part l prefix =
    (t u : ℕ) → IsConsideredIn w e part l prefix t → IsConsideredIn w e part l prefix u → ¬ IsTrue (l.clash t u)

-- no marker of the extension clashes with a terminal of the host, layout or another marker of it; and no hole is scanned
pub record AreMarkersClear (w : World) (e : ℕ) (l : Lexicon) : Type 0 where
  pub left : (m u : ℕ) → IsMarkerOf w e (Terminal m) → IsSymbolIn w plus (Terminal u) ⊎ (IsTrue (l.layout u) ⊎ IsMarkerOf w e
      (Terminal u)) →
      ¬ IsTrue (l.clash m u)
  pub right : (m u : ℕ) → IsMarkerOf w e (Terminal m) → IsSymbolIn w plus (Terminal u) ⊎ (IsTrue (l.layout u) ⊎ IsMarkerOf w e
      (Terminal u)) →
      ¬ IsTrue (l.clash u m)
  pub no_holes : (t : ℕ) → IsTrue (l.scanned t) → IsSymbolIn w plus (Terminal t) → w.mark t ≡ bare
