-- What the lookahead rule gives, in numbers.
use Rattle.std.proofs.Common.{◌∙◌, ◌≡◌, ◌≤◌, List, ap, map, subst, sym, ℕ}
use Rattle.std.specs.Prelude.{◌↔◌}
use Rattle.wb_base.specs.declared.symbol.Symbol.{Symbol}
use Rattle.wb_base.specs.Grammar.{GrammarView}
use Rattle.wb_grammar_theory.specs.Lookaheads.{HasNoConflict, IsValidTerminal}
use Rattle.wb_grammar_theory.specs.Productions.{end_of}
use Rattle.wb_compose_theory.proofs.NumberLemmas.{conflict_back, conflict_there, item_named, kernel_back}
use Rattle.wb_compose_theory.proofs.NumberLemmas.{looks_back, looks_there, terminal_back}
use Rattle.wb_compose_theory.proofs.NumberLemmas.{terminal_renamed, terminal_there}
use Rattle.wb_compose_theory.proofs.SeamLemmas.{item_up}
use Rattle.wb_compose_theory.specs.Items.{IsKernelItemIn}
use Rattle.wb_compose_theory.specs.Lookaheads.{HasNoConflictIn, IsLookaheadIn, IsValidTerminalIn}
use Rattle.wb_compose_theory.specs.Marks.{phi}
use Rattle.wb_compose_theory.specs.Numbered.{IsHostKernel, KeepsKernelLookaheads}
use Rattle.wb_compose_theory.specs.Renamings.{Renaming, renamed, renamed_item}
use Rattle.wb_compose_theory.specs.Seams.{AreNumberings}
use Rattle.wb_compose_theory.specs.Worlds.{World, both, plus}
use Rattle.wb_determinism_theory.specs.Beside.{IsKeptBeside}
use Rattle.wb_determinism_theory.specs.Known.{KeepsAt}
use Rattle.wb_determinism_theory.specs.Laws.{IsPrepared}
use Rattle.wb_determinism_theory.specs.Inner.Terminals.{AreTerminals}
use Rattle.wb_determinism_theory.proofs.ActionLemmas.{no_conflict_known, valid_known}
use Rattle.wb_determinism_theory.proofs.KnownLemmas.{known_exact}
use Rattle.wb_determinism_theory.proofs.SeamLemmas.{beside, host_there, known_back, phi_back, phi_there}

module _ {g k : GrammarView} {up : Renaming} {phi_of : ℕ → ℕ} {w : World} {e : ℕ} {r s : Renaming}
    (seam : AreNumberings g k up phi_of w e r s) (ready : IsPrepared w e) (terminals : AreTerminals k w (both e) s)
    (rule : KeepsKernelLookaheads g k up phi_of) where
  -- the lookahead rule at a kernel of the world
  keeps_there : (prefix other : List Symbol) → IsHostKernel g k up prefix other →
      KeepsAt w e (map (renamed r) other) (map (renamed s) prefix)
  keeps_there prefix other is item' t' in_kernel looks =
      let (i, i_is) = item_named seam.of_host ((in_kernel.0).1) in
      let own = kernel_back seam.of_host other i (subst (IsKernelItemIn w plus (map (renamed r) other)) i_is in_kernel) in
      let (t, l, t_is) = looks_back seam.of_both prefix (renamed_item up i) t'
      (subst (λ z. IsLookaheadIn w (both e) (map (renamed s) prefix) z t') (i_is ∙ item_up seam i) looks) in
      let (u, u_is, m) = rule prefix other i t is own l in
      subst (IsLookaheadIn w plus (map (renamed r) other) item') (phi_there seam ready terminals u t u_is ∙ ap (phi w) (sym t_is))
      (subst (λ z. IsLookaheadIn w plus (map (renamed r) other) z (r.terminal u)) (sym i_is) (looks_there seam.of_host other i u m))

  pub kept_beside : IsKeptBeside g k up phi_of
  kept_beside = record {
    lookaheads = λ prefix other is i t. (
      λ l. known_back seam ready terminals other i t
          (known_exact ready.is_marked (map (renamed r) other) (map (renamed s) prefix) (host_there seam ready terminals prefix other is)
          (keeps_there prefix other is) (renamed_item s i) (s.terminal t) (looks_there seam.of_both prefix i t l)),
      (beside seam ready terminals).true prefix other is i t,
    );
    no_conflict = λ none prefix other is t x. no_conflict_known ready.is_marked ready.host ready.both_parts (map (renamed r) other)
        (map (renamed s) prefix) (host_there seam ready terminals prefix other is) (keeps_there prefix other is)
        (in_world none) (s.terminal t) (conflict_there seam.of_both prefix t x);
    valid = valid_at;
  }
    where
      in_world : HasNoConflict g → HasNoConflictIn w plus
      in_world none prefix t x = let (a, b, y) = conflict_back seam.of_host prefix t x in none a b y

      valid_at : (prefix other : List Symbol) → IsHostKernel g k up prefix other → (t : ℕ) →
          IsValidTerminal k prefix t ↔ ((t ≤ end_of k) × ((u : ℕ) × (up.terminal u ≡ phi_of t) × IsValidTerminal g other u))
      valid_at prefix other is t = (there, back)
        where
          there : IsValidTerminal k prefix t → (t ≤ end_of k) × ((u : ℕ) × (up.terminal u ≡ phi_of t) × IsValidTerminal g other u)
          there x =
              let (named, v) = (valid_known ready.is_marked ready.host ready.both_parts (map (renamed r) other) (map (renamed s) prefix)
              (host_there seam ready terminals prefix other is) (keeps_there prefix other is) (s.terminal t)).0
              (terminal_there seam.of_both prefix t x) in
              let (u, y, u_is) = terminal_back seam.of_host other (phi w (s.terminal t)) v in
              ((terminals t).1 named, (u, phi_back seam ready terminals u t u_is, y))

          back : (t ≤ end_of k) × ((u : ℕ) × (up.terminal u ≡ phi_of t) × IsValidTerminal g other u) → IsValidTerminal k prefix t
          back (named, (u, u_is, y)) =
              (terminal_renamed seam.of_both prefix t).1
              ((valid_known ready.is_marked ready.host ready.both_parts (map (renamed r) other) (map (renamed s) prefix)
              (host_there seam ready terminals prefix other is) (keeps_there prefix other is) (s.terminal t)).1 (
                (terminals t).0 named,
                subst (IsValidTerminalIn w plus (map (renamed r) other)) (phi_there seam ready terminals u t u_is)
                    (terminal_there seam.of_host other u y),
              ))
