-- Kernels that were found apart are numbered as the laws ask.
use Rattle.std.proofs.Common.{◌<◌, ◌≤◌, ◌∙◌, ◌≡◌, List, None, Option, Some, length, refl, slice_get, subst, sym, ℕ}
use Rattle.wb_base.specs.Grammar.{GrammarView}
use Rattle.wb_grammar_theory.specs.declared.item.Item.{Item}
use Rattle.wb_grammar_theory.specs.Items.{IsKernelItem}
use Rattle.wb_grammar_theory.specs.States.{AreStates, IsNext}
use Rattle.wb_lemmas.proofs.Places.{at_within}
use Rattle.wb_marking_holes.specs.Holes.{with_holes_of}
use Rattle.wb_compose_theory.specs.Homes.{Home, IsListed, of, of_host}
use Rattle.wb_compose_theory.specs.Numbered.{IsHostKernel}
use Rattle.wb_compose_theory.specs.Renamings.{renamed_item}
use Rattle.wb_compose_theory_grammar.specs.Numberings.{up_of}
use Rattle.wb_compose_theory_grammar.specs.Pieces.{Piece}
use Rattle.wb_compose_theory_kernels.specs.Kernels.{AreKernelNumbers, KernelNumbers}
use Rattle.wb_compose_theory_kernels.specs.Numbered.{AreNumberedBeside, IsNumberedBeside}
use Rattle.wb_compose_theory_kernels.specs.Parts.{grammar_at, grammar_in}

module _ (host : GrammarView) (extensible : List ℕ) (pieces : List Piece) (n : KernelNumbers)
    (are : AreNumberedBeside host extensible pieces n) where
  -- a grammar's kernels have the numbers
  abbrev HasNumbers : GrammarView → Home → Type 0
  HasNumbers g home = AreStates g (n.count home) (n.prefix_of home) (IsNext g (n.count home) (n.prefix_of home))

  -- those of what may be an extension
  states_in : (e : ℕ) (o : Option Piece) → slice_get pieces e ≡ o → e < length pieces →
      HasNumbers (grammar_in host extensible pieces o) (of e)
  states_in e None at less = let (x, is) = at_within pieces e less in let f : None ≡ Some x = sym at ∙ is in cc
  states_in e (Some x) at less = (are.each e x at).states

  states : (home : Home) → IsListed (length pieces) home → HasNumbers (grammar_at host extensible pieces home) home
  states of_host listed = are.host_states
  states (of e) listed = states_in e (slice_get pieces e) refl listed

  -- no extension has fewer than the host
  no_fewer : (e : ℕ) → e < length pieces → n.count of_host ≤ n.count (of e)
  no_fewer e less = let (x, at) = at_within pieces e less in (are.each e x at).first.within

  -- an item moves alike by both words
  item_is : (e : ℕ) (x : Piece) (k : IsNumberedBeside host extensible pieces n e x) (i : Item) →
      renamed_item k.up i ≡ renamed_item (up_of host x.grammar) i
  item_is e x k i = let p = k.production_is i.production in λ j. record { production = p j; dot = i.dot }

  -- the first kernels are the host's
  host_first : (e : ℕ) (x : Piece) (s : ℕ) → slice_get pieces e ≡ Some x → s < n.count of_host →
      IsHostKernel (with_holes_of host extensible) (with_holes_of x.grammar extensible) (up_of host x.grammar) (n.prefix_of (of e) s)
      (n.prefix_of of_host s)
  host_first e x s at below = go (are.each e x at)
    where
      go : IsNumberedBeside host extensible pieces n e x →
          IsHostKernel (with_holes_of host extensible) (with_holes_of x.grammar extensible) (up_of host x.grammar) (n.prefix_of (of e) s)
          (n.prefix_of of_host s)
      go k = record {
        within = λ item has. (let (i, is) = there.within item has in (i, is ∙ item_is e x k i));
        same = λ i. (
          (λ z. subst (IsKernelItem (with_holes_of x.grammar extensible) (n.prefix_of (of e) s)) (item_is e x k i) ((there.same i).0 z)),
          (λ z. (there.same i).1 (subst (IsKernelItem (with_holes_of x.grammar extensible) (n.prefix_of (of e) s))
              (sym (item_is e x k i)) z)),
        );
      }
        where
          there : IsHostKernel (with_holes_of host extensible) (with_holes_of x.grammar extensible) k.up (n.prefix_of (of e) s)
              (n.prefix_of of_host s)
          there = subst (λ z. IsHostKernel (with_holes_of host extensible) (with_holes_of x.grammar extensible) k.up z
              (n.prefix_of of_host s)) (sym (k.first.lifted s below)) (k.kernels (n.prefix_of of_host s) (k.first.host s below))

  -- so they are numbered
  pub numbered : AreKernelNumbers host extensible pieces n
  numbered = record { states = states; no_fewer = no_fewer; host_first = host_first }
