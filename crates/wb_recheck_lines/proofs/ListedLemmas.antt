-- The kernels of a grammar, listed in their order with the moves between them, are exactly its kernels and its moves.
use Rattle.std.proofs.Common.{◌++◌, ◌<◌, ◌∷◌, List, [], arith, subst, sym, ℕ}
use Rattle.std.specs.Prelude.{◌↔◌, Contains}
use Rattle.wb_base.specs.declared.symbol.Symbol.{Symbol}
use Rattle.wb_grammar_theory.specs.declared.item.Item.{Item}
use Rattle.wb_grammar_theory.specs.Items.{IsViablePrefix, SameKernel, start, start_item}
use Rattle.wb_grammar_theory.specs.Productions.{end_of}
use Rattle.wb_grammar_theory.proofs.KernelLemmas.{same_move}
use Rattle.wb_lemmas.proofs.Places.{at_within}
use Rattle.wb_items.specs.Kernels.{AreKernels, KernelsView, LeadsTo, count_of, prefix_of}
use Rattle.wb_items.specs.Parts.{AreListed}
use Rattle.wb_recheck_theory.specs.KernelLists.{AreKernelsAndMoves, IsKernelOf, IsMoveBetween}
use Rattle.wb_recheck_theory.proofs.KernelListLemmas.{kernel_carried, kernel_within, one_kernel, viable_carried}

module _ (k : KernelsView) (lists : List (List Item)) (are : AreKernels k) (listed : AreListed k lists) where
  -- the list of a number is that of its prefix
  list_of : (s : ℕ) → s < count_of k → IsKernelOf k.grammar lists s (prefix_of k s)
  list_of s below =
      let (list, at) = at_within lists s (subst (λ z. s < z) listed.len below) in
      record { kernel = list; at = at; exact = listed.each s list at }

  -- a list has a number
  numbered : (s : ℕ) (prefix : List Symbol) → IsKernelOf k.grammar lists s prefix → s < count_of k
  numbered s prefix one = subst (λ z. s < z) (sym listed.len) (kernel_within one)

  -- a list of the prefix says that the kernels are the same
  same_at : (s : ℕ) (prefix : List Symbol) → IsKernelOf k.grammar lists s prefix → SameKernel k.grammar (prefix_of k s) prefix
  same_at s prefix one = one_kernel (list_of s (numbered s prefix one)) one

  -- the other way round, and one after another
  back : {a b : List Symbol} → SameKernel k.grammar a b → SameKernel k.grammar b a
  back same item = ((same item).1, (same item).0)

  then : {a b c : List Symbol} → SameKernel k.grammar a b → SameKernel k.grammar b c → SameKernel k.grammar a c
  then one two item = ((λ z. (two item).0 ((one item).0 z)), (λ z. (one item).1 ((two item).1 z)))

  -- each kernel has a list
  all : (prefix : List Symbol) → IsViablePrefix k.grammar prefix → (s : ℕ) × IsKernelOf k.grammar lists s prefix
  all prefix viable =
      let (s, below, same) = are.states.all prefix viable in (s, kernel_carried (list_of s below) same)

  -- that of the empty prefix is the first
  first : IsKernelOf k.grammar lists 0 []
  first =
      let (s, below, same) = are.states.all [] (start_item k.grammar, end_of k.grammar, start) in
      subst (IsKernelOf k.grammar lists 0) are.states.first (list_of 0 (above s (count_of k) below))
    where
      above : (s count : ℕ) → s < count → 0 < count
      above s count below = omega (arith, below)

  -- a move leads between lists
  there : (s : ℕ) (x : Symbol) (next : ℕ) → LeadsTo k s x next → IsMoveBetween k.grammar lists s x next
  there s x next (below, more, viable, same) = record {
    prefix = prefix_of k s;
    viable = viable;
    before = list_of s below;
    after = kernel_carried (list_of next more) same;
  }

  -- and what leads between lists is a move
  here : (s : ℕ) (x : Symbol) (next : ℕ) → IsMoveBetween k.grammar lists s x next → LeadsTo k s x next
  here s x next m =
      let same = same_at s m.prefix m.before in (
        numbered s m.prefix m.before,
        numbered next (m.prefix ++ x ∷ []) m.after,
        viable_carried are.live m.prefix (prefix_of k s) x (back same) m.viable,
        then (same_at next (m.prefix ++ x ∷ []) m.after) (same_move are.live m.prefix (prefix_of k s) x (back same)),
      )

  -- the lists with the moves
  pub kernels_and_moves : (moves : List (ℕ × Symbol × ℕ)) →
      ((s : ℕ) (x : Symbol) (next : ℕ) → Contains moves (s, x, next) ↔ LeadsTo k s x next) → AreKernelsAndMoves k.grammar lists moves
  kernels_and_moves moves exact = record {
    first = first;
    sound = λ s below. (let fits = subst (λ z. s < z) (sym listed.len) below in
        (prefix_of k s, are.states.prefixes s fits, list_of s fits));
    all = all;
    once = λ s other prefix one two. are.states.each_once s other (numbered s prefix one) (numbered other prefix two)
        (then (same_at s prefix one) (back (same_at other prefix two)));
    between = λ s x next. (
      (λ c. there s x next ((exact s x next).0 c)),
      (λ m. (exact s x next).1 (here s x next m)),
    );
  }
