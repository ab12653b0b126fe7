-- What the union of certified grammars is, in its own numbers.
use Rattle.std.proofs.Common.{◌≡◌, List, inl, inr, map, subst, sym, ℕ}
use Rattle.std.specs.Prelude.{◌↔◌}
use Rattle.wb_base.specs.declared.symbol.Symbol.{Symbol}
use Rattle.wb_grammar_theory.specs.declared.item.Item.{Item}
use Rattle.wb_grammar_theory.specs.Items.{IsViablePrefix}
use Rattle.wb_grammar_theory.specs.Lookaheads.{HasNoConflict, IsValidTerminal}
use Rattle.wb_compose_theory.proofs.ConflictLemmas.{no_conflict}
use Rattle.wb_compose_theory.proofs.CycleLemmas.{fit}
use Rattle.wb_compose_theory.proofs.EnvelopeLemmas.{certificate_seam, envelope_terminal_back, kernel_prefix}
use Rattle.wb_compose_theory.proofs.FitLemmas.{fit_back, fit_there}
use Rattle.wb_compose_theory.proofs.HostTerminalLemmas.{host_terminals}
use Rattle.wb_compose_theory.proofs.KernelLemmas.{closure_kernel}
use Rattle.wb_compose_theory.proofs.NumberLemmas.{conflict_back, conflict_there, terminal_back, terminal_prefix, terminal_renamed}
use Rattle.wb_compose_theory.proofs.NumberLemmas.{terminal_there}
use Rattle.wb_compose_theory.proofs.RenamingLemmas.{valid_there}
use Rattle.wb_compose_theory.proofs.SeamLemmas.{new_back}
use Rattle.wb_compose_theory.proofs.TerminalLemmas.{valid_together}
use Rattle.wb_compose_theory.specs.Composable.{IsNewHostKernelIn, IsValidInEnvelopeIn}
use Rattle.wb_compose_theory.specs.Composed.{AreApartIn, Composition, IsComposition}
use Rattle.wb_compose_theory.specs.Homes.{AreComposableApart, Home, IsListed, of, of_host, part_of}
use Rattle.wb_compose_theory.specs.Items.{IsKernelItemIn, SameKernelIn}
use Rattle.wb_compose_theory.specs.Lookaheads.{IsValidTerminalIn}
use Rattle.wb_compose_theory.specs.Marks.{phi}
use Rattle.wb_compose_theory.specs.Numbered.{IsFit}
use Rattle.wb_compose_theory.specs.Renamings.{renamed, renamed_item}
use Rattle.wb_compose_theory.specs.Stands.{AreApart}
use Rattle.wb_compose_theory.specs.Worlds.{World, bare, both, plain, plus, union}

-- what is certified in numbers is certified in the world
pub composable_apart : (w : World) (n : ℕ) (c : Composition) → IsComposition w n c → AreComposableApart w n
composable_apart w n c is = record {
  of_host = record {
    fit = fit_there is.of_plain is.of_host is.host_certified.fit;
    no_conflict = λ prefix t x. (let (a, b, y) = conflict_back is.of_host prefix t x in is.host_certified.no_conflict a b y);
  };
  of_extension = λ e below. (let x = is.of_extension e below in let certified = is.extension_certified e below in
      certificate_seam x.numberings is.is_marked certified.composable
      (fit_there x.plain_numbering x.numberings.of_both certified.fit));
}

-- the union's grammar has no conflict
pub composed_no_conflict : (w : World) (n : ℕ) (c : Composition) → IsComposition w n c → HasNoConflict c.union_grammar
composed_no_conflict w n c is prefix t x = no_conflict w n is.is_marked (composable_apart w n c is) (map (renamed c.union_names) prefix)
    (c.union_names.terminal t) (conflict_there is.of_union prefix t x)

-- it is reduced, and has no unit cycle and no hidden left recursion
pub composed_fit : (w : World) (n : ℕ) (c : Composition) → IsComposition w n c → IsFit c.union_grammar c.union_grammar
composed_fit w n c is = fit_back is.of_union is.of_union (fit w n is.is_marked (composable_apart w n c is))

-- the kernel of a terminal that is valid in an envelope isn't empty
enveloped_kernel : {w : World} {K : Item → Type 0} {t : ℕ} → IsValidInEnvelopeIn w K t → (i : Item) × K i
enveloped_kernel (inl can) = closure_kernel can.within
enveloped_kernel (inr (p, red)) = closure_kernel red.within

module _ (w : World) (n : ℕ) (c : Composition) (is : IsComposition w n c) where
  -- two terminals of the world that are apart in numbers are apart
  apart_there : (prefix : List Symbol) (t u : ℕ) → AreApartIn w n c t u →
      AreApart w n prefix (c.union_names.terminal t) (c.union_names.terminal u)
  apart_there prefix t u apart = record {
    in_homes = homes;
    in_envelopes = λ e listed other same new xt xu. envelopes e listed other new xt xu;
  }
    where
      homes : (home : Home) → IsListed n home → (other : List Symbol) →
          SameKernelIn w (union n) prefix (part_of home) other →
          IsValidTerminalIn w (part_of home) other (phi w (c.union_names.terminal t)) →
          ¬ IsValidTerminalIn w (part_of home) other (phi w (c.union_names.terminal u))
      homes of_host listed other same xt xu =
          let (b, b_is) = terminal_prefix is.of_host other (phi w (c.union_names.terminal t)) xt in
          let (v, mine, v_is) = terminal_back is.of_host b (phi w (c.union_names.terminal t))
          (subst (λ z. IsValidTerminalIn w plus z (phi w (c.union_names.terminal t))) b_is xt) in
          let (x, yours, x_is) = terminal_back is.of_host b (phi w (c.union_names.terminal u))
          (subst (λ z. IsValidTerminalIn w plus z (phi w (c.union_names.terminal u))) b_is xu) in
          apart.in_host b v x (sym v_is) (sym x_is) mine yours
      homes (of e) listed other same xt xu =
          let both_is = (is.of_extension e listed).numberings.of_both in
          let (b, b_is) = terminal_prefix both_is other (phi w (c.union_names.terminal t)) xt in
          let (v, mine, v_is) = terminal_back both_is b (phi w (c.union_names.terminal t))
          (subst (λ z. IsValidTerminalIn w (both e) z (phi w (c.union_names.terminal t))) b_is xt) in
          let (x, yours, x_is) = terminal_back both_is b (phi w (c.union_names.terminal u))
          (subst (λ z. IsValidTerminalIn w (both e) z (phi w (c.union_names.terminal u))) b_is xu) in
          apart.in_extension e listed b v x (sym v_is) (sym x_is) mine yours

      at_prefix : (e : ℕ) → IsListed n (of e) → (b : List Symbol) →
          IsNewHostKernelIn w e (map (renamed (c.extended e).names) b) →
          IsValidInEnvelopeIn w (IsKernelItemIn w (both e) (map (renamed (c.extended e).names) b)) (phi w (c.union_names.terminal t)) →
          ¬ IsValidInEnvelopeIn w (IsKernelItemIn w (both e) (map (renamed (c.extended e).names) b)) (phi w (c.union_names.terminal u))
      at_prefix e listed b new xt xu =
          let seam = (is.of_extension e listed).numberings in
          let (v, mine, v_is) = envelope_terminal_back seam is.is_marked b new (phi w (c.union_names.terminal t)) xt in
          let (x, yours, x_is) = envelope_terminal_back seam is.is_marked b new (phi w (c.union_names.terminal u)) xu in
          apart.in_envelope e listed b v x (new_back seam is.is_marked b new) (sym v_is) (sym x_is) mine yours

      envelopes : (e : ℕ) → IsListed n (of e) → (other : List Symbol) → IsNewHostKernelIn w e other →
          IsValidInEnvelopeIn w (IsKernelItemIn w (both e) other) (phi w (c.union_names.terminal t)) →
          ¬ IsValidInEnvelopeIn w (IsKernelItemIn w (both e) other) (phi w (c.union_names.terminal u))
      envelopes e listed other new xt xu =
          let (i, at) = enveloped_kernel xt in
          let (b, b_is) = kernel_prefix (is.of_extension e listed).numberings other i at in
          subst (λ z. IsNewHostKernelIn w e z → IsValidInEnvelopeIn w (IsKernelItemIn w (both e) z) (phi w (c.union_names.terminal t)) →
          ¬ IsValidInEnvelopeIn w (IsKernelItemIn w (both e) z) (phi w (c.union_names.terminal u))) (sym b_is)
          (at_prefix e listed b) new xt xu

  -- two terminals that are valid at a prefix of the union's grammar aren't apart
  pub composed_together : (prefix : List Symbol) (t u : ℕ) → IsValidTerminal c.union_grammar prefix t →
      IsValidTerminal c.union_grammar prefix u → ¬ AreApartIn w n c t u
  composed_together prefix t u xt xu apart =
      valid_together is.is_marked (composable_apart w n c is) (map (renamed c.union_names) prefix) (c.union_names.terminal t)
      (c.union_names.terminal u) (terminal_there is.of_union prefix t xt) (terminal_there is.of_union prefix u xu)
      (apart_there (map (renamed c.union_names) prefix) t u apart)

  -- at a prefix of the host, which the union has in its own numbers, a terminal of the host that no mark is, is valid in both or in none
  pub composed_host_terminals : (prefix other : List Symbol) (t u : ℕ) → IsViablePrefix c.plain_grammar prefix →
      map (renamed c.union_names) other ≡ map (renamed c.plain_names) prefix → c.union_names.terminal u ≡ c.plain_names.terminal t →
      w.mark (c.plain_names.terminal t) ≡ bare → IsValidTerminal c.union_grammar other u ↔ IsValidTerminal c.plain_grammar prefix t
  composed_host_terminals prefix other t u (item, v, valid) prefix_is t_is mark = (there, back)
    where
      same : IsValidTerminalIn w (union n) (map (renamed c.plain_names) prefix) (c.plain_names.terminal t) ↔
          IsValidTerminalIn w plain (map (renamed c.plain_names) prefix) (c.plain_names.terminal t)
      same = host_terminals w n is.is_marked (composable_apart w n c is) (map (renamed c.plain_names) prefix)
          (renamed_item c.plain_names item, c.plain_names.terminal v, valid_there is.of_plain valid) (c.plain_names.terminal t) mark

      there : IsValidTerminal c.union_grammar other u → IsValidTerminal c.plain_grammar prefix t
      there x = (terminal_renamed is.of_plain prefix t).1 (same.0
          (subst (λ z. IsValidTerminalIn w (union n) z (c.plain_names.terminal t)) prefix_is
          (subst (λ z. IsValidTerminalIn w (union n) (map (renamed c.union_names) other) z) t_is (terminal_there is.of_union other u x))))

      back : IsValidTerminal c.plain_grammar prefix t → IsValidTerminal c.union_grammar other u
      back x = (terminal_renamed is.of_union other u).1
          (subst (λ z. IsValidTerminalIn w (union n) z (c.union_names.terminal u)) (sym prefix_is)
          (subst (λ z. IsValidTerminalIn w (union n) (map (renamed c.plain_names) prefix) z) (sym t_is)
          (same.1 (terminal_there is.of_plain prefix t x))))
