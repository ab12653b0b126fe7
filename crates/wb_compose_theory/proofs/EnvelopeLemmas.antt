-- A certificate in numbers gives one of the world.
use Rattle.std.proofs.Common.{◌∙◌, ◌≡◌, List, ap, inl, inr, map, refl, subst, sym, ℕ}
use Rattle.wb_base.specs.declared.symbol.Symbol.{Symbol}
use Rattle.wb_base.specs.Grammar.{GrammarView}
use Rattle.wb_grammar_theory.specs.declared.item.Item.{Item}
use Rattle.wb_compose_theory.proofs.KernelLemmas.{closure_kernel}
use Rattle.wb_compose_theory.proofs.NumberLemmas.{conflict_back, kernel_back, kernel_there, looks_back, over_back, prefix_named, shift_back}
use Rattle.wb_compose_theory.proofs.RenamingLemmas.{valid_back}
use Rattle.wb_compose_theory.proofs.SeamLemmas.{closure_back, envelope_seam, item_up, lookaheads_seam, new_back}
use Rattle.wb_compose_theory.specs.Composable.{CanReduceInEnvelopeIn, CanShiftInEnvelopeIn, HasEnvelopeConflictIn, IsComposableExtensionIn}
use Rattle.wb_compose_theory.specs.Composable.{IsEnvelopeLookaheadIn, IsFitForParsingIn, IsNewHostKernelIn, IsValidInEnvelopeIn}
use Rattle.wb_compose_theory.specs.Items.{IsKernelItemIn, after_dot_in}
use Rattle.wb_compose_theory.specs.Lookaheads.{IsLookaheadIn}
use Rattle.wb_compose_theory.specs.Marks.{IsMarked}
use Rattle.wb_compose_theory.specs.Numbered.{CanReduceInEnvelope, CanShiftInEnvelope, HostKernel, IsComposable, IsEnvelopeLookahead}
use Rattle.wb_compose_theory.specs.Numbered.{IsValidInEnvelope}
use Rattle.wb_compose_theory.specs.Renamings.{Renaming, renamed, renamed_item}
use Rattle.wb_compose_theory.specs.Seams.{AreNumberings}
use Rattle.wb_compose_theory.specs.Worlds.{World, alone, both, plus}

module _ {g k : GrammarView} {up : Renaming} {phi_of : ℕ → ℕ} {w : World} {e : ℕ} {r s : Renaming}
    (seam : AreNumberings g k up phi_of w e r s) where
  -- a lookahead in the envelope, in numbers
  envelope_back : IsMarked w → (prefix : List Symbol) → (i : Item) (t' : ℕ) →
      IsEnvelopeLookaheadIn w (IsKernelItemIn w (both e) (map (renamed s) prefix)) (renamed_item r i) t' →
      (t : ℕ) × IsEnvelopeLookahead g (HostKernel k up prefix) i t × (t' ≡ r.terminal t)
  envelope_back ok prefix i t' (other', within, looks) =
      let (other, other_is) = prefix_named seam.of_host other' (renamed_item r i) t' looks in
      let (t, l, t_is) = looks_back seam.of_host other i t'
      (subst (λ z. IsLookaheadIn w plus z (renamed_item r i) t') other_is looks) in (
        t,
        (
          other,
          (λ j y. kernel_back seam.of_host other j (subst (λ z. IsKernelItemIn w plus z (renamed_item r j)) other_is
              (within (renamed_item r j)
              (subst (IsKernelItemIn w (both e) (map (renamed s) prefix)) (sym (item_up seam j))
              (kernel_there seam.of_both prefix (renamed_item up j) y))))),
          l,
        ),
        t_is,
      )

  -- a shift in the envelope, in numbers
  pub envelope_shift_back : IsMarked w → (prefix : List Symbol) → IsNewHostKernelIn w e (map (renamed s) prefix) → (t' : ℕ) →
      CanShiftInEnvelopeIn w (IsKernelItemIn w (both e) (map (renamed s) prefix)) t' →
      (t : ℕ) × CanShiftInEnvelope g (HostKernel k up prefix) t × (t' ≡ r.terminal t)
  envelope_shift_back ok prefix new t' can =
      let h = closure_back seam ok prefix new can.within in
      let (t, rest, dot_is, t_is) =
      shift_back seam.of_host h.i h.kind t' can.rest (ap (after_dot_in w) (sym h.is) ∙ can.before_dot) in
      (t, record { item = h.i; rest = rest; within = h.closure; before_dot = dot_is }, sym t_is)

  -- a reduction in the envelope, in numbers
  pub envelope_reduce_back : IsMarked w → (prefix : List Symbol) → IsNewHostKernelIn w e (map (renamed s) prefix) → (p' t' : ℕ) →
      CanReduceInEnvelopeIn w (IsKernelItemIn w (both e) (map (renamed s) prefix)) p' t' →
      (p t : ℕ) × CanReduceInEnvelope g (HostKernel k up prefix) p t × (p' ≡ r.production p) × (t' ≡ r.terminal t)
  envelope_reduce_back ok prefix new p' t' red =
      let h = closure_back seam ok prefix new red.within in
      let (t, x, t_is) = envelope_back ok prefix h.i t'
      (subst (λ z. IsEnvelopeLookaheadIn w (IsKernelItemIn w (both e) (map (renamed s) prefix)) z t') h.is red.lookahead) in (
        h.i.production,
        t,
        record {
          item = h.i;
          production = refl;
          complete = over_back seam.of_host h.i h.kind (ap (after_dot_in w) (sym h.is) ∙ red.complete);
          within = h.closure;
          lookahead = x;
        },
        sym red.production ∙ ap (λ z. z.production) h.is,
        t_is,
      )

  -- a terminal that is valid in the envelope
  pub envelope_terminal_back : IsMarked w → (prefix : List Symbol) → IsNewHostKernelIn w e (map (renamed s) prefix) → (t' : ℕ) →
      IsValidInEnvelopeIn w (IsKernelItemIn w (both e) (map (renamed s) prefix)) t' →
      (t : ℕ) × IsValidInEnvelope g (HostKernel k up prefix) t × (t' ≡ r.terminal t)
  envelope_terminal_back ok prefix new t' (inl can) = let (t, mine, is) = envelope_shift_back ok prefix new t' can in (t, inl mine, is)
  envelope_terminal_back ok prefix new t' (inr (p', red)) =
      let (p, t, mine, p_is, is) = envelope_reduce_back ok prefix new p' t' red in (t, inr (p, mine), is)

  -- the envelope of a prefix that has numbers has no conflict
  free_at : IsMarked w → IsComposable g k up phi_of → (prefix : List Symbol) → IsNewHostKernelIn w e (map (renamed s) prefix) → (t' : ℕ) →
      HasEnvelopeConflictIn w (IsKernelItemIn w (both e) (map (renamed s) prefix)) t' → ⊥
  free_at ok x prefix new t' (inl (p', shift, red)) =
      let (t, a, t_is) = envelope_shift_back ok prefix new t' shift in
      let (p, u, b, p_is, u_is) = envelope_reduce_back ok prefix new p' t' red in
      let same : u ≡ t = seam.of_host.once.terminal u t (sym u_is ∙ t_is) in
      x.stays_in_envelope.no_conflict prefix (new_back seam ok prefix new) t
      (inl (p, a, subst (λ z. CanReduceInEnvelope g (HostKernel k up prefix) p z) same b))
  free_at ok x prefix new t' (inr (p', q', ne, first, second)) =
      let (p, t, a, p_is, t_is) = envelope_reduce_back ok prefix new p' t' first in
      let (q, u, b, q_is, u_is) = envelope_reduce_back ok prefix new q' t' second in
      let same : u ≡ t = seam.of_host.once.terminal u t (sym u_is ∙ t_is) in
      x.stays_in_envelope.no_conflict prefix (new_back seam ok prefix new) t
      (inr (
        p,
        q,
        (λ z. ne (p_is ∙ (ap r.production z ∙ sym q_is))),
        a,
        subst (λ z. CanReduceInEnvelope g (HostKernel k up prefix) q z) same b,
      ))

  -- a prefix with a kernel item has numbers
  pub kernel_prefix : (prefix' : List Symbol) (i : Item) → IsKernelItemIn w (both e) prefix' i →
      (prefix : List Symbol) × (prefix' ≡ map (renamed s) prefix)
  kernel_prefix prefix' i y = let b = valid_back seam.of_both ((y.0).1) in (b.prefix, b.prefix_is)

  -- no envelope has a conflict
  free_seam : IsMarked w → IsComposable g k up phi_of → (prefix' : List Symbol) → IsNewHostKernelIn w e prefix' → (t' : ℕ) →
      HasEnvelopeConflictIn w (IsKernelItemIn w (both e) prefix') t' → ⊥
  free_seam ok x prefix' new t' conflict = go (named conflict)
    where
      named : HasEnvelopeConflictIn w (IsKernelItemIn w (both e) prefix') t' → (prefix : List Symbol) × (prefix' ≡ map (renamed s) prefix)
      named (inl (p', can, red)) = let (i, y) = closure_kernel can.within in kernel_prefix prefix' i y
      named (inr (p', q', ne, one, two)) = let (i, y) = closure_kernel one.within in kernel_prefix prefix' i y

      go : (prefix : List Symbol) × (prefix' ≡ map (renamed s) prefix) → ⊥
      go (prefix, is) =
          (subst (λ p. IsNewHostKernelIn w e p → HasEnvelopeConflictIn w (IsKernelItemIn w (both e) p) t' → ⊥) (sym is)
          (λ n y. free_at ok x prefix n t' y)) new conflict

  -- an extension that is certified in numbers is certified in the world
  pub certificate_seam : IsMarked w → IsComposable g k up phi_of → IsFitForParsingIn w (alone e) (both e) → IsComposableExtensionIn w e
  certificate_seam ok x fit = record {
    fit = fit;
    no_conflict = λ prefix t conflict. (let (a, b, y) = conflict_back seam.of_both prefix t conflict in x.no_conflict a b y);
    keeps_lookaheads = lookaheads_seam seam x;
    stays_in_envelope = record { lookaheads = envelope_seam seam ok x; no_conflict = free_seam ok x };
  }
