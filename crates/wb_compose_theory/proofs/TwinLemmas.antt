-- Where a marker or a hole is valid, so is each other one of the part on the same nonterminal.
use Rattle.std.proofs.Common.{◌∙◌, ◌∷◌, ◌≡◌, List, [], ap, inl, inr, refl, subst, sym, ℕ}
use Rattle.wb_base.specs.declared.symbol.Symbol.{Symbol}
use Rattle.wb_base.specs.declared.symbol.Symbol.TheVariants.{Nonterminal, Terminal}
use Rattle.wb_grammar_theory.specs.declared.item.Item.{Item}
use Rattle.wb_grammar_theory.specs.Items.{initial_item}
use Rattle.wb_compose_theory.proofs.KernelLemmas.{advanced}
use Rattle.wb_compose_theory.proofs.LookaheadLemmas.{phi_from_bare, phi_from_on}
use Rattle.wb_compose_theory.proofs.MarkLemmas.{mark_opens}
use Rattle.wb_compose_theory.proofs.TerminalLemmas.{twins}
use Rattle.wb_compose_theory.specs.Derives.{AreProductiveIn}
use Rattle.wb_compose_theory.specs.Items.{IsValidItemIn, close, move, start}
use Rattle.wb_compose_theory.specs.Lookaheads.{CanReduceIn, CanShiftIn, IsValidTerminalIn}
use Rattle.wb_compose_theory.specs.Marks.{IsMarked, phi}
use Rattle.wb_compose_theory.specs.Worlds.{Has, IsProductionIn, IsSymbolIn, Mark, Part, World, bare, on}

-- the initial item of a mark's production is valid where that of another mark on the same nonterminal is
other_opens : {w : World} {part : Part} {prefix : List Symbol} {i : Item} {v : ℕ} → IsMarked w → (t u a : ℕ) → w.mark t ≡ on a →
    w.mark u ≡ on a → IsProductionIn w part (w.production_of u) → IsValidItemIn w part prefix i v → i ≡ initial_item (w.production_of t)
    → IsValidItemIn w part prefix (initial_item (w.production_of u)) v
other_opens {w} ok t u a t_mark u_mark rule start i_is =
    let e : w.top_production ≡ w.production_of t = ap (λ z. z.production) i_is in
    let (rest, right) = ok.bridges.bridge_right t a t_mark in
    let f : Nonterminal w.start_symbol ∷ [] ≡ Terminal t ∷ rest = sym ok.start.top_right ∙ (ap w.right e ∙ right) in cc
other_opens {w} ok t u a t_mark u_mark rule (close item s b rest q v {prefix} valid is rule' left first) i_is =
    let e : q ≡ w.production_of t = ap (λ z. z.production) i_is in
    let same : a ≡ b = sym (ok.bridges.bridge_left t a t_mark) ∙ (ap w.left (sym e) ∙ left) in
    close item s b rest (w.production_of u) v valid is rule (ok.bridges.bridge_left u a u_mark ∙ same) first
other_opens ok t u a t_mark u_mark rule (move item x rest prefix {moved = moved} valid is longer_is moved_is) i_is =
    absurd (advanced item moved moved_is (ap (λ z. z.dot) i_is))

-- what can be shifted
shift_twin : {w : World} {part : Part} → IsMarked w → (prefix : List Symbol) (t u : ℕ) → Has part (w.symbol_owner (Terminal u))
    → phi w u ≡ phi w t → CanShiftIn w part prefix t → CanShiftIn w part prefix u
shift_twin {w} {part} ok prefix t u has same can = go (w.mark t) refl
  where
    go : (m : Mark) → w.mark t ≡ m → CanShiftIn w part prefix u
    go bare mark = subst (CanShiftIn w part prefix) (sym (phi_from_bare w ok u t same mark)) can
    go (on a) mark =
        let u_mark = phi_from_on w ok u t a same mark in
        let (rest, right) = ok.bridges.bridge_right u a u_mark in
        let opens = mark_opens ok can.item t a can.rest can.before_dot mark in
        let rule = subst (Has part) (sym (ok.bridges.bridge_owner u a u_mark)) has in
        let (v, valid) = can.has in
        record {
          item = initial_item (w.production_of u);
          rest = rest;
          has = (v, other_opens ok t u a mark u_mark rule valid opens);
          before_dot = right;
        }

-- what a production can be reduced before
reduce_twin : {w : World} {part : Part} → IsMarked w → AreProductiveIn w part → (prefix : List Symbol) (t u p : ℕ)
    → Has part (w.symbol_owner (Terminal u)) → phi w u ≡ phi w t → CanReduceIn w part prefix p t → CanReduceIn w part prefix p u
reduce_twin ok live prefix t u p has same can =
    let (other, kernel, valid) = can.lookahead in
    record {
      item = can.item;
      production = can.production;
      complete = can.complete;
      has = can.has;
      lookahead = (other, kernel, twins ok live valid u has same);
    }

-- what is valid
pub valid_twin : {w : World} {part : Part} → IsMarked w → AreProductiveIn w part → (prefix : List Symbol) (t u : ℕ)
    → IsValidTerminalIn w part prefix t → IsSymbolIn w part (Terminal u) → phi w u ≡ phi w t → IsValidTerminalIn w part prefix u
valid_twin ok live prefix t u (inl can) has same = inl (shift_twin ok prefix t u has same can)
valid_twin ok live prefix t u (inr (p, can)) has same = inr (p, reduce_twin ok live prefix t u p has same can)
