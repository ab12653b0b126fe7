-- Actions, conflicts and valid terminals at a kernel of the host with holes.
use Rattle.std.proofs.Common.{◌≡◌, ◌≢◌, List, inl, inr, subst, sym, ℕ}
use Rattle.std.specs.Prelude.{◌↔◌}
use Rattle.wb_base.specs.declared.symbol.Symbol.{Symbol}
use Rattle.wb_base.specs.declared.symbol.Symbol.TheVariants.{Terminal}
use Rattle.wb_compose_theory.proofs.ActionLemmas.{Act, Acts, InPlus, conflict_of, reduce, reducing, same_has, shift, shows_stand}
use Rattle.wb_compose_theory.proofs.DerivesLemmas.{valid_more}
use Rattle.wb_compose_theory.proofs.KernelLemmas.{chain, flip, same_itself}
use Rattle.wb_compose_theory.proofs.MarkLemmas.{phi_bare, phi_phi}
use Rattle.wb_compose_theory.proofs.PartLemmas.{plus_in}
use Rattle.wb_compose_theory.proofs.TerminalLemmas.{valid_named}
use Rattle.wb_compose_theory.proofs.TwinLemmas.{valid_twin}
use Rattle.wb_compose_theory.specs.Derives.{AreProductiveIn}
use Rattle.wb_compose_theory.specs.Homes.{of}
use Rattle.wb_compose_theory.specs.Items.{SameKernelIn}
use Rattle.wb_compose_theory.specs.Lookaheads.{CanReduceIn, CanShiftIn, HasConflictIn, HasNoConflictIn, IsValidTerminalIn}
use Rattle.wb_compose_theory.specs.Marks.{IsMarked, phi}
use Rattle.wb_compose_theory.specs.Worlds.{IsSymbolIn, World, bare, both, plus}
use Rattle.wb_determinism_theory.specs.Known.{KeepsAt}
use Rattle.wb_determinism_theory.proofs.KnownLemmas.{host_same, item_known, known_looks}

module _ {w : World} {e : ℕ} (ok : IsMarked w) (p : AreProductiveIn w plus) (q : AreProductiveIn w (both e)) (other prefix : List Symbol)
    (same : SameKernelIn w plus other (both e) prefix) where
  -- a terminal that can be shifted
  shift_known : (t : ℕ) → CanShiftIn w (both e) prefix t → InPlus w other shift (phi w t)
  shift_known t can =
      let (u, v) = can.has in
      let k = item_known ok p same v in
      record {
        other = other;
        same = same_itself w plus other;
        acts = (k.item, shows_stand ok shift t can.item k.item k.stands (can.rest, can.before_dot), k.has);
      }

  -- a production that can be reduced
  reduce_known : KeepsAt w e other prefix → (r t : ℕ) → CanReduceIn w (both e) prefix r t → InPlus w other (reduce r) (phi w t)
  reduce_known keeps r t red =
      let (b, to, v) = red.lookahead in
      let k = known_looks ok other prefix same keeps to v in
      let (o, same', v') = k.lookahead in
      record {
        other = o;
        same = same';
        acts = (k.item, shows_stand ok (reduce r) t red.item k.item k.stands (red.production, red.complete), v');
      }

  -- two actions of the host with holes
  conflict_known : (a b : Act) (t : ℕ) → a ≢ b → InPlus w other a t → InPlus w other b t →
      (prefix : List Symbol) × HasConflictIn w plus prefix t
  conflict_known a b t ne x y = conflict_of ok p a b t ne (chain (flip x.same) y.same) x.acts y.acts

  -- so there is no conflict that the host with holes hasn't
  pub no_conflict_known : KeepsAt w e other prefix → HasNoConflictIn w plus → (t : ℕ) → ¬ HasConflictIn w (both e) prefix t
  no_conflict_known keeps none t (inl (r, can, red)) =
      let (a, c) = conflict_known shift (reduce r) (phi w t) (λ z. cc) (shift_known t can) (reduce_known keeps r t red) in
      none a (phi w t) c
  no_conflict_known keeps none t (inr (r, s, ne, one, two)) =
      let (a, c) = conflict_known (reduce r) (reduce s) (phi w t) (λ z. ne (reduce_same r s z)) (reduce_known keeps r t one)
      (reduce_known keeps s t two) in
      none a (phi w t) c
    where
      reduce_same : (r s : ℕ) → reduce r ≡ reduce s → r ≡ s
      reduce_same r s z = cc

  -- a valid terminal of the host with holes
  valid_up : (t : ℕ) → IsValidTerminalIn w plus other t → IsValidTerminalIn w (both e) prefix t
  valid_up t (inl can) =
      let (u, v) = can.has in
      inl (record {
        item = can.item;
        rest = can.rest;
        has = same_has ok q other prefix (chain (flip (host_same ok p q v)) same) (valid_more (plus_in (of e)) v);
        before_dot = can.before_dot;
      })
  valid_up t (inr (r, red)) =
      let (o, same', v) = red.lookahead in
      let to : SameKernelIn w (both e) o (both e) prefix = chain (flip (host_same ok p q v)) (chain (flip same') same) in
      inr (r, reducing ok q to red.item r t red.production red.complete (valid_more (plus_in (of e)) v))

  -- an action makes its terminal valid
  valid_down : (act : Act) (t : ℕ) → InPlus w other act t → IsValidTerminalIn w plus other t
  valid_down shift t x = by_shift x.other x.same x.acts
    where
      by_shift : (o : List Symbol) → SameKernelIn w plus other plus o → Acts w plus o shift t → IsValidTerminalIn w plus other t
      by_shift o s (i, (rest, is), (u, v)) =
          inl (record { item = i; rest = rest; has = same_has ok p o other (flip s) v; before_dot = is })
  valid_down (reduce r) t x = by_reduce x.other x.same x.acts
    where
      by_reduce : (o : List Symbol) → SameKernelIn w plus other plus o → Acts w plus o (reduce r) t → IsValidTerminalIn w plus other t
      by_reduce o s (i, (r_is, over), v) = inr (r, reducing ok p (flip s) i r t r_is over v)

  -- the valid terminals are those of the host with holes, each hole with the markers beside it
  pub valid_known : KeepsAt w e other prefix → (t : ℕ) →
      IsValidTerminalIn w (both e) prefix t ↔ (IsSymbolIn w (both e) (Terminal t) × IsValidTerminalIn w plus other (phi w t))
  valid_known keeps t = (λ x. (valid_named ok prefix t x, there x), back)
    where
      there : IsValidTerminalIn w (both e) prefix t → IsValidTerminalIn w plus other (phi w t)
      there (inl can) = valid_down shift (phi w t) (shift_known t can)
      there (inr (r, red)) = valid_down (reduce r) (phi w t) (reduce_known keeps r t red)

      back : IsSymbolIn w (both e) (Terminal t) × IsValidTerminalIn w plus other (phi w t) → IsValidTerminalIn w (both e) prefix t
      back (named, x) = valid_twin ok q prefix (phi w t) t (valid_up (phi w t) x) named (sym (phi_phi w ok t))

  -- one that is no mark is the host's, and valid there
  pub bare_known : KeepsAt w e other prefix → (t : ℕ) → w.mark t ≡ bare → IsValidTerminalIn w (both e) prefix t →
      IsSymbolIn w plus (Terminal t) × IsValidTerminalIn w plus other t
  bare_known keeps t mark x =
      let v : IsValidTerminalIn w plus other t =
      subst (IsValidTerminalIn w plus other) (phi_bare w t mark) (((valid_known keeps t).0 x).1) in
      (valid_named ok other t v, v)
