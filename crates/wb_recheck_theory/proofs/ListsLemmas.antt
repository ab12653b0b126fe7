-- The lists of items of good lines, and the moves between them, are the kernels of prefixes and the moves between these.
use Rattle.std.proofs.Common.{ℕ, ◌<◌, suc, List, [], ◌∷◌, ◌++◌, Contains, refl, subst, arith}
use Rattle.std.proofs.lemmas.Option.{slice_get_within}
use Rattle.wb_lemmas.proofs.Places.{at_within}
use Rattle.std.specs.Prelude.{◌↔◌}
use Rattle.wb_base.specs.declared.symbol.Symbol.{Symbol}
use Rattle.wb_base.specs.Grammar.{GrammarView}
use Rattle.wb_grammar_theory.specs.declared.item.Item.{Item}
use Rattle.wb_grammar_theory.specs.Items.{move, IsViablePrefix, SameKernel, advance}
use Rattle.wb_grammar_theory.specs.Shape.{IsLive}
use Rattle.wb_grammar_theory.specs.States.{IsNext}
use Rattle.wb_grammar_theory.proofs.KernelLemmas.{same_move}
use Rattle.wb_grammar_theory.proofs.FlowLemmas.{same_then, same_back}
use Rattle.wb_grammar_theory.proofs.ValidLemmas.{before_last}
use Rattle.wb_recheck_theory.specs.declared.line.Line.{Line}
use Rattle.wb_recheck_theory.specs.Lines.{kernel_count, IsMoveOf, HasMove, AreGoodLines, AreMovesListed, prefix_at}
use Rattle.wb_recheck_theory.specs.KernelLists.{IsKernelOf, IsMoveBetween, AreKernelsAndMoves, AreListsOfLines, AreMovesOfLines}
use Rattle.wb_recheck_theory.proofs.ClosureLemmas.{kernel_moved}
use Rattle.wb_recheck_theory.proofs.PrefixLemmas.{prefix_first}
use Rattle.wb_recheck_theory.proofs.CertificateLemmas.{item_sound, item_complete, kernel_there, kernel_back, move_there, move_back}
use Rattle.wb_recheck_theory.proofs.CertificateLemmas.{at_prefix, all_listed, once}
use Rattle.wb_recheck_theory.proofs.KernelListLemmas.{one_kernel, kernel_carried, kernel_within, viable_carried}

module _ {g : GrammarView} (live : IsLive g) (lines : List Line) (good : AreGoodLines g lines) where
  -- a listed kernel has a move by each symbol that goes on from its prefix
  pub move_viable : (k : ℕ) (x : Symbol) → HasMove g lines k x → IsViablePrefix g (prefix_at lines k ++ x ∷ [])
  move_viable k x (item, rest, i, is) =
      let (t, v) = item_sound live lines good i in (advance item, t, move item x rest (prefix_at lines k) v is refl refl)

  -- and no other moves
  pub viable_move : (k : ℕ) (x : Symbol) → k < kernel_count lines → IsViablePrefix g (prefix_at lines k ++ x ∷ []) → HasMove g lines k x
  viable_move k x lt (item, t, v) =
      let (one, rest, (u, w), is) = before_last v (prefix_at lines k) x refl in
      (one, rest, item_complete live lines good w k lt refl, is)

  -- so a symbol leads from one listed kernel to another exactly where the other is the move by it
  pub next_exact : (k : ℕ) (x : Symbol) (m : ℕ) → IsNext g (kernel_count lines) (prefix_at lines) k x m ↔
      ((k < kernel_count lines) × (m < kernel_count lines) × HasMove g lines k x × IsMoveOf g lines k x m)
  next_exact k x m = (
    λ (lt, lt', viable, same). (lt, lt', viable_move k x lt viable, move_back live lines good k x m lt lt' same),
    λ (lt, lt', moves, is_move). (lt, lt', move_viable k x moves, move_there live lines good k x m lt lt' is_move),
  )

  module _ (listed : AreMovesListed g lines) (kernels : List (List Item)) (moves : List (ℕ × Symbol × ℕ))
      (lists : AreListsOfLines g lines kernels moves) where
    -- each list is the kernel of the prefix to which the lines lead
    kernel_of : (k : ℕ) → k < kernel_count lines → IsKernelOf g kernels k (prefix_at lines k)
    kernel_of k lt =
        let (kernel, at) = at_within kernels k (let long = lists.kernels_exact.len in omega (arith, long, lt)) in
        record {
          kernel = kernel;
          at = at;
          exact = λ item. (
            λ i. kernel_there live lines good k item ((lists.kernels_exact.exact k kernel at item).0 i),
            λ i. (lists.kernels_exact.exact k kernel at item).1 (kernel_back live lines good k lt item i),
          );
        }

    listed_within : {k : ℕ} {prefix : List Symbol} → IsKernelOf g kernels k prefix → k < kernel_count lines
    listed_within kernel = let long = lists.kernels_exact.len in let lt = kernel_within kernel in omega (arith, long, lt)

    same_as : {k : ℕ} {prefix : List Symbol} → IsKernelOf g kernels k prefix → SameKernel g (prefix_at lines k) prefix
    same_as {k} kernel = one_kernel (kernel_of k (listed_within kernel)) kernel

    between_there : (k : ℕ) (x : Symbol) (m : ℕ) → Contains moves (k, x, m) → IsMoveBetween g kernels k x m
    between_there k x m has =
        let (lt, lt', moves, is_move) = (lists.between k x m).0 has in
        record {
          prefix = prefix_at lines k;
          viable = move_viable k x moves;
          before = kernel_of k lt;
          after = kernel_carried (kernel_of m lt') (move_there live lines good k x m lt lt' is_move);
        }

    between_back : (k : ℕ) (x : Symbol) (m : ℕ) → IsMoveBetween g kernels k x m → Contains moves (k, x, m)
    between_back k x m b =
        let lt = listed_within b.before in
        let lt' = listed_within b.after in
        let same = same_back (same_as b.before) in
        let viable = viable_carried live b.prefix (prefix_at lines k) x same b.viable in
        let stepped = same_then (same_as b.after) (same_move live b.prefix (prefix_at lines k) x same) in
        (lists.between k x m).1 (lt, lt', viable_move k x lt viable, move_back live lines good k x m lt lt' stepped)

    -- the lists are exactly the kernels, and the moves exactly those between them
    pub lists_of_lines : AreKernelsAndMoves g kernels moves
    lists_of_lines = record {
      first = subst (λ p. IsKernelOf g kernels 0 p) (prefix_first lines) (kernel_of 0 (omega arith));
      sound = λ s lt.
          let within : s < kernel_count lines = (let long = lists.kernels_exact.len in omega (arith, long, lt)) in
          (prefix_at lines s, at_prefix live lines good s within, kernel_of s within);
      all = λ prefix (item, t, v).
          let (s, lt, same) = all_listed live lines good listed v in (s, kernel_carried (kernel_of s lt) same);
      once = λ s other prefix one two.
          once live lines good s other (listed_within one) (listed_within two) (same_then (same_as one) (same_back (same_as two)));
      between = λ k x m. (between_there k x m, between_back k x m);
    }

-- each line is one of the moves
pub lines_are_moves : (g : GrammarView) (lines : List Line) → AreGoodLines g lines → (kernels : List (List Item))
    (moves : List (ℕ × Symbol × ℕ)) → AreListsOfLines g lines kernels moves → AreMovesOfLines moves lines
lines_are_moves g lines good kernels moves lists n line at =
    let h = good n line at in
    let from = h.from in
    let within = slice_get_within lines n line at in (
      from,
      (lists.between line.from line.symbol (suc n)).1
          (omega (arith, from, within), omega (arith, within), h.moves, kernel_moved g lines n line at),
    )
