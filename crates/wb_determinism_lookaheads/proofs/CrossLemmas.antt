-- What comes over markers is listed where that was tested.
use Rattle.std.proofs.Common.{◌≡◌, ◌≢◌, ◌+◌, ◌<◌, ◌∙◌, ◌∷◌, ◌++◌, [], Bool, List, ℕ, refl, sym, ap, subst, inl, arith}
use Rattle.std.specs.Prelude.{Contains}
use Rattle.wb_base.specs.declared.symbol.Symbol.{Symbol}
use Rattle.wb_base.specs.declared.symbol.Symbol.TheVariants.{Terminal}
use Rattle.wb_base.specs.Grammar.{GrammarView}
use Rattle.wb_grammar_theory.specs.declared.item.Item.{Item}
use Rattle.wb_grammar_theory.specs.Items.{HasItem, IsKernelItem, IsValidItem, SameKernel, advance, after_dot}
use Rattle.wb_grammar_theory.specs.Items as valid
use Rattle.wb_grammar_theory.proofs.FlowLemmas.{same_back, same_then}
use Rattle.wb_grammar_theory.proofs.KernelLemmas.{kernel_decides}
use Rattle.wb_items.specs.Kernels.{prefix_of}
use Rattle.wb_determinism_theory.specs.Beside.{IsKnown}
use Rattle.wb_determinism_kernels.specs.declared.starts.Start.{Start}
use Rattle.wb_determinism_kernels.proofs.CrossingLemmas.{crossed_kernel, crossing_there}
use Rattle.wb_determinism_lookaheads.specs.declared.context.Context.{Context}
use Rattle.wb_determinism_lookaheads.specs.Inner.Spreading.{IsAllPassed, IsContext, LeadsIn, both_of, host_of, image_of}
use Rattle.wb_determinism_lookaheads.specs.Inner.Spreading.{own_of, prefix_in, up_of, with_sets}
use Rattle.wb_determinism_lookaheads.specs.NewLookaheads.{Lists}
use Rattle.wb_determinism_lookaheads.proofs.StartLemmas.{IsStartOf, host_kernel, known_comes, leads_in, start_is}

module _ {c : Context} (ok : IsContext c) where
  abbrev g : GrammarView
  g = (host_of c).grammar

  abbrev k : GrammarView
  k = both_of c

  -- where a marker leads from a kernel of the host
  record Crossed (m s' : ℕ) : Type 0 where
    start : Start
    listed : Contains c.new.now.starts start
    marker : start.marker ≡ m
    number : s' ≡ start.number

  crossed : (s s' m : ℕ) → s < own_of c → image_of c m ≢ m → LeadsIn c s (Terminal m) s' → Crossed m s'
  crossed s s' m lt ne leads =
      let (start, listed, is) = ok.new.started m s lt ne (leads.2) in
      record { start = start; listed = listed; marker = is; number = at start is (start_is ok start listed) }
    where
      at : (start : Start) → start.marker ≡ m → IsStartOf c start → s' ≡ start.number
      at start is z =
          let (item, x) = crossing_there ok.given (prefix_in c s) (prefix_of (host_of c) s) (host_kernel ok s lt) m ne (leads.2) in
          let one = crossed_kernel ok.given (prefix_in c start.before) (prefix_of (host_of c) start.before)
          (host_kernel ok start.before z.before) m ne start.hole start.production (z.hole ∙ ap (image_of c) is) z.has z.begins in
          let two = crossed_kernel ok.given (prefix_in c s) (prefix_of (host_of c) s) (host_kernel ok s lt) m ne x.hole x.p x.up_is x.has
          x.begins in
          let y = leads_in ok z.leads in
          let there : SameKernel k (prefix_in c start.number) (prefix_in c start.before ++ Terminal m ∷ []) =
          subst (λ t. SameKernel k (prefix_in c start.number) (prefix_in c start.before ++ Terminal t ∷ [])) is y.3 in
          ok.new.states.each_once s' start.number (leads.1) (y.1)
          (same_then (same_then leads.3 (λ i. (λ h. (one i).1 ((two i).0 h), λ h. (two i).1 ((one i).0 h)))) (same_back there))

  module _ {sets : List (List (List Bool))} (passed : IsAllPassed c sets) (s s' m : ℕ) (lt : s < own_of c) (ne : image_of c m ≢ m)
      (leads : LeadsIn c s (Terminal m) s') where
    -- to a new number
    pub crosses_new : (i : ℕ) × (s' ≡ own_of c + i)
    crosses_new =
        let x = crossed s s' m lt ne leads in
        let y = passed.starts x.start x.listed in
        (y.i, x.number ∙ y.is)

    -- where what is known before the marker is listed
    pub crosses_listed : (item : Item) (t : ℕ) (rest : List Symbol) → after_dot k item ≡ Terminal m ∷ rest →
        IsKnown g k (up_of c) (image_of c) (prefix_of (host_of c) s) item t →
        (i : ℕ) × (s' ≡ own_of c + i) × Lists k (with_sets c sets) i (advance item) t
    crosses_listed item t rest is z =
        let x = crossed s s' m lt ne leads in
        let y = passed.starts x.start x.listed in
        let (o, same, v) = ok.given.beside.true (prefix_in c s) (prefix_of (host_of c) s) (host_kernel ok s lt) item t z in
        let (u, w) = kernel_decides ok.given.live v (prefix_in c s) (same_back same) in
        let has : HasItem k (prefix_in c s') (advance item) =
        kernel_decides ok.given.live (valid.move item (Terminal m) rest (prefix_in c s) w is refl refl) (prefix_in c s')
        (same_back leads.3) in
        let number : s' ≡ own_of c + y.i = x.number ∙ y.is in
        let in_kernel : IsKernelItem k (prefix_in c (own_of c + y.i)) (advance item) =
        subst (λ n. IsKernelItem k (prefix_in c n) (advance item)) number
        (has, inl (λ e. (let d : item.dot + 1 ≡ 0 = e in omega (arith, d)))) in
        let comes = known_comes ok x.start (start_is ok x.start x.listed) (prefix_of (host_of c) s) item t rest
        (is ∙ ap (λ n. Terminal n ∷ rest) (sym x.marker)) z in
        (y.i, number, y.brought (advance item) t ((ok.new.kernels y.i y.kernel y.there (advance item)).1 in_kernel) z.named comes)
