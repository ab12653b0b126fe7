-- Kernels that are listed with the moves between them: prefixes are found along the moves, and the kernels are theirs.
use Rattle.std.proofs.Common.{◌≡◌, ℕ, ◌<◌, zero, suc, List, [], ◌∷◌, ◌++◌, length, Contains, refl, sym, subst, inl, inr, arith}
use Rattle.std.proofs.lemmas.Option.{slice_get_within}
use Rattle.wb_lemmas.proofs.Places.{at_once}
use Rattle.wb_base.specs.declared.symbol.Symbol.{Symbol}
use Rattle.wb_base.specs.Grammar.{GrammarView}
use Rattle.wb_grammar_theory.specs.declared.item.Item.{Item}
use Rattle.wb_grammar_theory.specs.Productions.{end_of}
use Rattle.wb_grammar_theory.specs.Items.{IsValidItem, start, close, move, IsViablePrefix, IsKernelItem, SameKernel, start_item, advance}
use Rattle.wb_grammar_theory.specs.Shape.{IsLive}
use Rattle.wb_grammar_theory.specs.States.{AreStates, IsNext}
use Rattle.wb_grammar_theory.proofs.KernelLemmas.{kernel_decides, same_move}
use Rattle.wb_grammar_theory.proofs.FlowLemmas.{same_then}
use Rattle.wb_grammar_theory.proofs.ValidLemmas.{before_last}
use Rattle.wb_recheck_theory.specs.declared.line.Line.{Line}
use Rattle.wb_recheck_theory.specs.Lines.{kernel_count, prefix_at}
use Rattle.wb_recheck_theory.specs.KernelLists.{IsKernelOf, IsMoveBetween, AreKernelsAndMoves, IsFoundAt, at_start, onward, AreMovesOfLines}
use Rattle.wb_recheck_theory.proofs.PrefixLemmas.{prefix_first, prefix_step}
use Rattle.wb_recheck_theory.proofs.ClosureLemmas.{line_of}

-- prefixes of one number have the same kernel
pub one_kernel : {g : GrammarView} {kernels : List (List Item)} {s : ℕ} {prefix other : List Symbol} → IsKernelOf g kernels s prefix →
    IsKernelOf g kernels s other → SameKernel g prefix other
one_kernel {g} {kernels} {s} {prefix} {other} one two item = (
  λ i. (two.exact item).0 (subst (λ z. Contains z item) same ((one.exact item).1 i)),
  λ i. (one.exact item).0 (subst (λ z. Contains z item) (sym same) ((two.exact item).1 i)),
)
  where
    same : one.kernel ≡ two.kernel
    same = at_once kernels s one.kernel two.kernel one.at two.at

-- and a prefix with that kernel has the number
pub kernel_carried : {g : GrammarView} {kernels : List (List Item)} {s : ℕ} {prefix other : List Symbol} → IsKernelOf g kernels s prefix →
    SameKernel g prefix other → IsKernelOf g kernels s other
kernel_carried one same = record {
  kernel = one.kernel;
  at = one.at;
  exact = λ item. (λ i. (same item).0 ((one.exact item).0 i), λ i. (one.exact item).1 ((same item).1 i));
}

-- a number that has a kernel is one of the list
pub kernel_within : {g : GrammarView} {kernels : List (List Item)} {s : ℕ} {prefix : List Symbol} → IsKernelOf g kernels s prefix →
    s < length kernels
kernel_within {kernels = kernels} {s = s} one = slice_get_within kernels s one.kernel one.at

-- a symbol that goes on from a prefix goes on from each with its kernel
pub viable_carried : {g : GrammarView} → IsLive g → (prefix other : List Symbol) (x : Symbol) → SameKernel g prefix other →
    IsViablePrefix g (prefix ++ x ∷ []) → IsViablePrefix g (other ++ x ∷ [])
viable_carried live prefix other x same (item, t, v) =
    let (one, rest, (u, w), is) = before_last v prefix x refl in
    let (u', w') = kernel_decides live w other same in
    (advance one, u', move one x rest other w' is refl refl)

-- the kernel of the empty prefix has the start item, and no other has it
start_alone : {g : GrammarView} {prefix : List Symbol} → SameKernel g [] prefix → prefix ≡ []
start_alone {g} {prefix} same = by_item ((same (start_item g)).0 ((end_of g, start), inr (refl, refl)))
  where
    by_item : IsKernelItem g prefix (start_item g) → prefix ≡ []
    by_item (has, inl ne) = absurd (ne refl)
    by_item (has, inr (is, empty)) = empty

module _ {g : GrammarView} (live : IsLive g) {kernels : List (List Item)} {moves : List (ℕ × Symbol × ℕ)}
    (lists : AreKernelsAndMoves g kernels moves) where
  -- a prefix that is found has the kernel where it is found
  pub exact : {prefix : List Symbol} {s : ℕ} → IsFoundAt moves prefix s → IsKernelOf g kernels s prefix
  exact {prefix} {s} (at_start empty zero_is) =
      subst (λ p. IsKernelOf g kernels s p) (sym empty) (subst (λ n. IsKernelOf g kernels n []) (sym zero_is) lists.first)
  exact {prefix} {s} (onward shorter from x found has is) =
      let between = (lists.between from x s).0 has in
      let same = one_kernel between.before (exact found) in
      subst (λ p. IsKernelOf g kernels s p) (sym is) (kernel_carried between.after (same_move live between.prefix shorter x same))

  -- and is viable
  pub found_viable : {prefix : List Symbol} {s : ℕ} → IsFoundAt moves prefix s → IsViablePrefix g prefix
  found_viable {prefix} (at_start empty zero_is) =
      (start_item g, end_of g, subst (λ p. IsValidItem g p (start_item g) (end_of g)) (sym empty) start)
  found_viable {prefix} {s} (onward shorter from x found has is) =
      let between = (lists.between from x s).0 has in
      subst (IsViablePrefix g) (sym is)
      (viable_carried live between.prefix shorter x (one_kernel between.before (exact found)) between.viable)

  -- each viable prefix is found
  pub prefix_found : {prefix : List Symbol} {item : Item} {t : ℕ} → IsValidItem g prefix item t → (s : ℕ) × IsFoundAt moves prefix s
  prefix_found start = (0, at_start refl refl)
  prefix_found (close item t b rest q u right v is rule first) = prefix_found v
  prefix_found (move item x rest shorter {t} {longer} {moved} v is longer_is moved_is) =
      let (from, found) = prefix_found v in
      let viable : IsViablePrefix g (shorter ++ x ∷ []) = (advance item, t, move item x rest shorter v is refl refl) in
      let (s, kernel) = lists.all (shorter ++ x ∷ []) viable in
      let between : IsMoveBetween g kernels from x s =
      record { prefix = shorter; viable = viable; before = exact found; after = kernel } in
      (s, onward shorter from x found ((lists.between from x s).1 between) longer_is)

  -- so each kernel is found
  pub found : (s : ℕ) → s < length kernels → (prefix : List Symbol) × IsFoundAt moves prefix s
  found s lt =
      let (prefix, (item, t, v), kernel) = lists.sound s lt in
      let (other, found) = prefix_found v in
      let same : other ≡ s = lists.once other s prefix (exact found) kernel in
      (prefix, subst (λ n. IsFoundAt moves prefix n) same found)

  module _ (prefix_of : ℕ → List Symbol) (founds : (s : ℕ) → s < length kernels → IsFoundAt moves (prefix_of s) s) where
    of : (s : ℕ) → s < length kernels → IsKernelOf g kernels s (prefix_of s)
    of s lt = exact (founds s lt)

    next_there : (s : ℕ) (x : Symbol) (next : ℕ) → Contains moves (s, x, next) → IsNext g (length kernels) prefix_of s x next
    next_there s x next has =
        let between = (lists.between s x next).0 has in
        let lt = kernel_within between.before in
        let lt' = kernel_within between.after in
        let same = one_kernel between.before (of s lt) in (
          lt,
          lt',
          viable_carried live between.prefix (prefix_of s) x same between.viable,
          same_then (one_kernel (of next lt') between.after) (same_move live between.prefix (prefix_of s) x same),
        )

    next_back : (s : ℕ) (x : Symbol) (next : ℕ) → IsNext g (length kernels) prefix_of s x next → Contains moves (s, x, next)
    next_back s x next (lt, lt', viable, same) =
        (lists.between s x next).1
        (record { prefix = prefix_of s; viable = viable; before = of s lt; after = kernel_carried (of next lt') same })

    -- the kernels are those by numbers, whatever prefixes are found
    pub states : AreStates g (length kernels) prefix_of (λ s x next. Contains moves (s, x, next))
    states = record {
      first = start_alone (one_kernel lists.first (of 0 (kernel_within lists.first)));
      prefixes = λ s lt. found_viable (founds s lt);
      each_once = λ s other lt lt' same. lists.once s other (prefix_of other) (kernel_carried (of s lt) same) (of other lt');
      all = λ prefix viable.
          let (s, kernel) = lists.all prefix viable in
          let lt = kernel_within kernel in
          (s, lt, one_kernel (of s lt) kernel);
      next = λ s x next. (next_there s x next, next_back s x next);
    }

-- lines that are moves, each from an earlier kernel, lead to prefixes that are found
found_below : (moves : List (ℕ × Symbol × ℕ)) (lines : List Line) → AreMovesOfLines moves lines → (bound k : ℕ) → k < bound →
    k < kernel_count lines → IsFoundAt moves (prefix_at lines k) k
found_below moves lines along zero k lt within = absurd (omega (arith, lt))
found_below moves lines along (suc bound) zero lt within = at_start (prefix_first lines) refl
found_below moves lines along (suc bound) (suc n) lt within =
    let (line, at) = line_of lines n within in
    let (from, has) = along n line at in
    onward (prefix_at lines line.from) line.from line.symbol
    (found_below moves lines along bound line.from (omega (arith, from, lt)) (omega (arith, from, within))) has
    (prefix_step lines n line at from)

-- so they do at each kernel
pub lines_found : (moves : List (ℕ × Symbol × ℕ)) (lines : List Line) → AreMovesOfLines moves lines → (k : ℕ) → k < kernel_count lines →
    IsFoundAt moves (prefix_at lines k) k
lines_found moves lines along k within = found_below moves lines along (suc k) k (omega arith) within
