-- Where a kernel of the union holds an item of an extension, it is one of the grammar with that extension.
use Rattle.std.proofs.Common.{◌≡◌, ◌∙◌, ℕ, List, sym, subst}
use Rattle.wb_base.specs.declared.symbol.Symbol.{Symbol}
use Rattle.wb_compose_theory.proofs.HomeLemmas.{main}
use Rattle.wb_compose_theory.proofs.LookaheadLemmas.{home_of}
use Rattle.wb_compose_theory.proofs.TerminalLemmas.{valid_at}
use Rattle.wb_compose_theory.specs.Homes.{AreComposableApart, Home, of, part_of}
use Rattle.wb_compose_theory.specs.Items.{IsViablePrefixIn, SameKernelIn}
use Rattle.wb_compose_theory_layout.specs.Worlds.{HasHolders, HasHome}
use Rattle.wb_compose_theory.specs.Lookaheads.{IsValidTerminalIn}
use Rattle.wb_compose_theory.specs.Marks.{IsMarked, phi}
use Rattle.wb_compose_theory.specs.Worlds.{World, union}

home_at : {w : World} {n : ℕ} → IsMarked w → AreComposableApart w n → (prefix : List Symbol) → IsViablePrefixIn w (union n) prefix →
    HasHome w n prefix
home_at ok c prefix (i, t, v) =
    let k = main ok c v in record { home = k.home; listed = k.listed; other = k.other; same = k.same }

-- extensions by their homes
same_of : (e f : ℕ) → of e ≡ of f → e ≡ f
same_of e f is = cc is

pub has_holders : (w : World) (n : ℕ) → IsMarked w → AreComposableApart w n → HasHolders w n
has_holders w n ok c = record {
  homes = home_at ok c;
  one = λ prefix e f one two.
      (let (i, k, mine) = one in
      let (j, l, yours) = two in
      let h = home_at ok c prefix (i, (k.0).0, (k.0).1) in
      same_of e f (sym (home_of ok prefix e i k mine h.home h.other h.same) ∙ home_of ok prefix f j l yours h.home h.other h.same));
  valid = λ prefix e held t there.
      (let (i, k, mine) = held in
      let v = valid_at ok c prefix t there in
      let is = home_of ok prefix e i k mine v.home v.other v.same in (
        v.other,
        subst (λ (z : Home). SameKernelIn w (union n) prefix (part_of z) v.other) is v.same,
        subst (λ (z : Home). IsValidTerminalIn w (part_of z) v.other (phi w t)) is v.valid,
      ));
}
