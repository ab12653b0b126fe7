-- The same of a composition, in the numbers of its grammars.
use Rattle.std.specs.Prelude.{◌≡◌, ◌<◌, ℕ, List}
use Rattle.wb_base.specs.declared.symbol.Symbol.{Symbol}
use Rattle.wb_compose_theory.specs.Composed.{Composition, IsImage}
use Rattle.wb_compose_theory.specs.Worlds.{World, extension}
use Rattle.wb_grammar_theory.specs.Items.{IsKernelItem}
use Rattle.wb_grammar_theory.specs.Lookaheads.{IsValidTerminal}
use Rattle.wb_grammar_theory.specs.declared.item.Item.{Item}

-- the kernel of the union at the prefix holds an item of the extension
abbrev pub HoldsItemIn : World → Composition → List Symbol → ℕ → Type 0
HoldsItemIn w c prefix e = (i : Item) × IsKernelItem c.union_grammar prefix i
    × (w.production_owner (c.union_names.production i.production) ≡ extension e)

-- so does that of the grammar with the extension, at a prefix of this grammar
abbrev pub HoldsOwnItem : World → Composition → ℕ → List Symbol → Type 0
HoldsOwnItem w c e prefix = (i : Item) × IsKernelItem (c.extended e).grammar prefix i
    × (w.production_owner ((c.extended e).names.production i.production) ≡ extension e)

-- what a terminal of the union is up to markers is valid in the grammar with the extension where the kernel holds an item of the extension
pub record IsValidBeside (w : World) (c : Composition) (e t : ℕ) : Type 0 where
  pub prefix : List Symbol
  pub number : ℕ
  pub is : IsImage w c (c.extended e).names t number
  pub valid : IsValidTerminal (c.extended e).grammar prefix number
  pub holds : HoldsOwnItem w c e prefix

-- a kernel of the union that holds an item of an extension holds none of another; the grammar with the extension has such a kernel too; and
-- what is valid in the union there is valid in this grammar where it has one
pub record HasHoldersIn (w : World) (n : ℕ) (c : Composition) : Type 0 where
  pub listed : (prefix : List Symbol) (e : ℕ) → HoldsItemIn w c prefix e → e < n
  pub one : (prefix : List Symbol) (e f : ℕ) → HoldsItemIn w c prefix e → HoldsItemIn w c prefix f → e ≡ f
  pub held : (prefix : List Symbol) (e : ℕ) → HoldsItemIn w c prefix e → (other : List Symbol) × HoldsOwnItem w c e other
  pub valid : (prefix : List Symbol) (e : ℕ) → HoldsItemIn w c prefix e → (t : ℕ) → IsValidTerminal c.union_grammar prefix t →
      IsValidBeside w c e t
