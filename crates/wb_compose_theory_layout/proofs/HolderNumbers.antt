-- Where a kernel of the union holds an item of an extension, in numbers.
use Rattle.std.proofs.Common.{◌≡◌, ◌<◌, ◌∙◌, ℕ, List, map, sym, ap, subst, inl, inr}
use Rattle.wb_base.specs.declared.symbol.Symbol.{Symbol}
use Rattle.wb_grammar_theory.specs.declared.item.Item.{Item}
use Rattle.wb_grammar_theory.specs.Items.{IsKernelItem}
use Rattle.wb_grammar_theory.specs.Lookaheads.{IsValidTerminal}
use Rattle.wb_compose_theory.proofs.ComposedLemmas.{composable_apart}
use Rattle.wb_compose_theory.proofs.EnvelopeLemmas.{kernel_prefix}
use Rattle.wb_compose_theory_layout.proofs.HolderLemmas.{has_holders}
use Rattle.wb_compose_theory.proofs.NumberLemmas.{item_named, kernel_back, kernel_there, terminal_back, terminal_there}
use Rattle.wb_compose_theory.proofs.StepLemmas.{item_source}
use Rattle.wb_compose_theory.specs.Composed.{Composition, IsComposition}
use Rattle.wb_compose_theory.specs.Homes.{Home, of, part_of}
use Rattle.wb_compose_theory.specs.Items.{IsKernelItemIn, SameKernelIn}
use Rattle.wb_compose_theory_layout.specs.Worlds.{HasHolders, HoldsItemOf}
use Rattle.wb_compose_theory.specs.Lookaheads.{IsValidTerminalIn}
use Rattle.wb_compose_theory.specs.Marks.{phi}
use Rattle.wb_compose_theory_layout.specs.Numbers.{HasHoldersIn, HoldsItemIn, HoldsOwnItem, IsValidBeside}
use Rattle.wb_compose_theory.specs.Renamings.{renamed, renamed_item}
use Rattle.wb_compose_theory.specs.Seams.{AreNumberings}
use Rattle.wb_compose_theory.specs.Worlds.{World, Has, both, extension, top, union}
use Rattle.wb_compose_theory.proofs.LookaheadLemmas.{home_of}

module _ (w : World) (n : ℕ) (c : Composition) (is : IsComposition w n c) where
  holders : HasHolders w n
  holders = has_holders w n is.is_marked (composable_apart w n c is)

  -- the prefix with the names of the world
  abbrev there : List Symbol → List Symbol
  there prefix = map (renamed c.union_names) prefix

  holds_there : (prefix : List Symbol) (e : ℕ) → HoldsItemIn w c prefix e → HoldsItemOf w n (there prefix) e
  holds_there prefix e (i, k, mine) = (renamed_item c.union_names i, kernel_there is.of_union prefix i k, mine)

  -- the extension is one of the first n
  listed : (prefix : List Symbol) (e : ℕ) → HoldsItemIn w c prefix e → e < n
  listed prefix e held =
      let (i, k, mine) = holds_there prefix e held in
      elim (item_source ((k.0).1)) [
        | inl is_top ↦
            (let same : top ≡ extension e = sym is.is_marked.start.top_owner ∙ (ap w.production_owner (sym is_top) ∙ mine) in cc)
        | inr rule ↦ subst (Has (union n)) mine rule
      ]

  module _ (e : ℕ) (below : e < n) where
    seam : AreNumberings c.host_grammar (c.extended e).grammar (c.extended e).up (c.extended e).phi_of w e c.host_names (c.extended e).names
    seam = (is.of_extension e below).numberings

    -- an item of the extension in a kernel of its grammar, in numbers
    own_back : (b : List Symbol) (i : Item) → IsKernelItemIn w (both e) (map (renamed (c.extended e).names) b) i
        → w.production_owner i.production ≡ extension e → HoldsOwnItem w c e b
    own_back b i k mine =
        let (j, i_is) = item_named seam.of_both ((k.0).1) in (
          j,
          kernel_back seam.of_both b j (subst (IsKernelItemIn w (both e) (map (renamed (c.extended e).names) b)) i_is k),
          ap (λ (z : Item). w.production_owner z.production) (sym i_is) ∙ mine,
        )

    -- a kernel of the union that is one of the grammar with the extension
    own_at : (prefix other : List Symbol) → HoldsItemOf w n prefix e → SameKernelIn w (union n) prefix (both e) other
        → (b : List Symbol) × (other ≡ map (renamed (c.extended e).names) b) × HoldsOwnItem w c e b
    own_at prefix other (i, k, mine) same =
        let k' = (same i).0 k in
        let (b, b_is) = kernel_prefix seam other i k' in
        (b, b_is, own_back b i (subst (λ z. IsKernelItemIn w (both e) z i) b_is k') mine)

  held : (prefix : List Symbol) (e : ℕ) → HoldsItemIn w c prefix e → (other : List Symbol) × HoldsOwnItem w c e other
  held prefix e item =
      let below = listed prefix e item in
      let (i, k, mine) = holds_there prefix e item in
      let h = holders.homes (there prefix) (i, (k.0).0, (k.0).1) in
      let home_is = home_of is.is_marked (there prefix) e i k mine h.home h.other h.same in
      let same = subst (λ (z : Home). SameKernelIn w (union n) (there prefix) (part_of z) h.other) home_is h.same in
      let (b, b_is, own) = own_at e below (there prefix) h.other (i, k, mine) same in
      (b, own)

  valid : (prefix : List Symbol) (e : ℕ) → HoldsItemIn w c prefix e → (t : ℕ) → IsValidTerminal c.union_grammar prefix t
      → IsValidBeside w c e t
  valid prefix e item t there_valid =
      let below = listed prefix e item in
      let here = holds_there prefix e item in
      let (other, same, v) = holders.valid (there prefix) e here (c.union_names.terminal t) (terminal_there is.of_union prefix t there_valid) in
      let (b, b_is, own) = own_at e below (there prefix) other here same in
      let (number, mine, number_is) = terminal_back (seam e below).of_both b (phi w (c.union_names.terminal t))
      (subst (λ z. IsValidTerminalIn w (both e) z (phi w (c.union_names.terminal t))) b_is v) in
      record { prefix = b; number = number; is = sym number_is; valid = mine; holds = own }

  pub composed_holders : HasHoldersIn w n c
  composed_holders = record {
    listed = listed;
    one = λ prefix e f one two. holders.one (there prefix) e f (holds_there prefix e one) (holds_there prefix f two);
    held = held;
    valid = valid;
  }
