-- Where a symbol leads, by the lines.
use Rattle.std.proofs.Common.{◌≡◌, ℕ, ◌<◌, Some, Contains, refl, sym, subst}
use Rattle.std.specs.Prelude.{slice_get}
use Rattle.std.proofs.lemmas.Option.{slice_get_within}
use Rattle.wb_base.specs.declared.symbol.Symbol.{Symbol}
use Rattle.wb_base.specs.Grammar.{GrammarView}
use Rattle.wb_grammar_theory.proofs.ValidLemmas.{before_last}
use Rattle.wb_items.specs.Kernels.{HasNoneBefore, LeadsTo, prefix_of}
use Rattle.wb_recheck_theory.specs.Lines.{kernel_count, HasMove, IsMoveOf}
use Rattle.wb_recheck_writer.specs.declared.context.Context.{Context}
use Rattle.wb_recheck_writer.specs.Inner.Reached.{IsContext, grammar_of, lines_of}
use Rattle.wb_recheck_writer.proofs.LineLemmas.{leads_by_number, moved_by_number, place_within}

module _ (c : Context) (is : IsContext c) where
  -- the lines are good in the grammar of the kernels
  in_kernels : (k : ℕ) (x : Symbol) → HasMove (grammar_of c) (lines_of c) k x → HasMove c.kernels.now.grammar (lines_of c) k x
  in_kernels k x moves = subst (λ (g : GrammarView). HasMove g (lines_of c) k x) (sym is.of_grammar) moves

  -- a kernel with a move has one by the number
  pub leads_on : (k s : ℕ) → slice_get c.numbered.now.states.states k ≡ Some s → (x : Symbol) →
      HasMove (grammar_of c) (lines_of c) k x → (next : ℕ) × LeadsTo c.kernels.now s x next
  leads_on k s at x moves =
      leads_by_number c.kernels.now is.kernels (lines_of c) c.numbered.now.states.states is.lines.good is.lines.numbers k s at x
      (in_kernels k x moves)

  -- so there is an item before the symbol
  pub moved_some : (k s : ℕ) → slice_get c.numbered.now.states.states k ≡ Some s → (x : Symbol) →
      HasMove (grammar_of c) (lines_of c) k x → HasNoneBefore c.kernels.now.grammar (prefix_of c.kernels.now s) x → ⊥
  moved_some k s at x moves none =
      let (next, (lt, lt', (item, t, v), same)) = leads_on k s at x moves in
      let (one, rest, has, before) = before_last v (prefix_of c.kernels.now s) x refl in
      none one rest has before

  -- and the number to which it leads is listed
  pub moved_listed : (k s : ℕ) → slice_get c.numbered.now.states.states k ≡ Some s → (x : Symbol) (next : ℕ) → LeadsTo c.kernels.now s x
      next →
      Contains c.numbered.now.states.states next
  moved_listed k s at x next leads = is.lines.closed k s x next (slice_get_within c.numbered.now.states.states k s at) at leads

  -- at a place of a line
  pub moved_within : (m next : ℕ) → slice_get c.numbered.now.states.states m ≡ Some next → m < kernel_count (lines_of c)
  moved_within m next there = place_within c.kernels.now is.kernels (lines_of c) c.numbered.now.states.states is.lines.good
      is.lines.numbers m next there

  -- which is the move
  pub moved_here : (k s : ℕ) → slice_get c.numbered.now.states.states k ≡ Some s → (x : Symbol) (next : ℕ) → LeadsTo c.kernels.now s x
      next →
      (m : ℕ) → slice_get c.numbered.now.states.states m ≡ Some next → IsMoveOf (grammar_of c) (lines_of c) k x m
  moved_here k s at x next leads m there =
      subst (λ (g : GrammarView). IsMoveOf g (lines_of c) k x m) is.of_grammar
      (moved_by_number c.kernels.now is.kernels (lines_of c) c.numbered.now.states.states is.lines.good is.lines.numbers k s at x next
      leads m
      there)
