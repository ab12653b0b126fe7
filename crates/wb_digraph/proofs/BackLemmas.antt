-- Symbols of right sides, and where they lead.
use Rattle.std.proofs.Common.{◌≡◌, ℕ, ◌+◌, ◌<◌, suc, zero, List, [], ◌∷◌, length, drop, get_or, sym, ◌∙◌, ap, subst, refl, arith}
use Rattle.std.proofs.lemmas.List.Elements.{All-head, All-same}
use Rattle.wb_base.specs.declared.symbol.Symbol.{Symbol}
use Rattle.wb_base.specs.Grammar.{IsGrammar, IsSymbolBelow}
use Rattle.wb_grammar_theory.specs.Items.{after_dot}
use Rattle.wb_grammar_theory.proofs.FlowLemmas.{same_back, same_then}
use Rattle.wb_grammar_theory.proofs.LiveLemmas.{after_below}
use Rattle.wb_items.specs.Kernels.{KernelsView, AreKernels, LeadsTo, count_of, prefix_of}
use Rattle.wb_digraph.proofs.RelationSound.{came_from, Came}

-- the symbol at a place and those behind it
pub drop_at : (w : List Symbol) (d : ℕ) (default : Symbol) → d < length w → drop d w ≡ get_or w d default ∷ drop (d + 1) w
drop_at [] d default lt = absurd (omega arith)
drop_at (x ∷ w) zero default lt = refl
drop_at (x ∷ w) (suc d) default lt =
    let e : suc d + 1 ≡ suc (d + 1) = omega arith in
    drop_at w d default (omega (arith, lt)) ∙ ap (λ z. get_or w d default ∷ drop z (x ∷ w)) (sym e)

module _ {kernels : KernelsView} (h : AreKernels kernels) where
  -- a symbol leads to one kernel alone
  pub next_once : (s : ℕ) (x : Symbol) (a b : ℕ) → LeadsTo kernels s x a → LeadsTo kernels s x b → a ≡ b
  next_once s x a b p q = h.states.each_once a b p.1 q.1 (same_then p.3 (same_back q.3))

  -- where a symbol leads, an item has its dot before it
  pub came : (s : ℕ) (x : Symbol) (next : ℕ) → LeadsTo kernels s x next → Came kernels.grammar (prefix_of kernels s) x
  came s x next n = let (item, t, v) = n.2 in came_from v (prefix_of kernels s) x refl

  -- and the symbol is one of the grammar
  pub leads_below : IsGrammar kernels.grammar → (s : ℕ) (x : Symbol) (next : ℕ) → LeadsTo kernels s x next →
      IsSymbolBelow kernels.grammar.terminals kernels.grammar.nonterminals x
  leads_below ok s x next n =
      let c = came s x next n in
      All-head (IsSymbolBelow kernels.grammar.terminals kernels.grammar.nonterminals) x c.rest
      (All-same (IsSymbolBelow kernels.grammar.terminals kernels.grammar.nonterminals) (x ∷ c.rest) (after_dot kernels.grammar c.item)
      (sym c.before_dot) (after_below kernels.grammar ok c.item))
