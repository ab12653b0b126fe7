-- Clashes of sets of what is considered, and clashes at prefixes.
use Rattle.std.proofs.Common.{◌≡◌, ◌<◌, ℕ, Bool, List, Some, slice_get, arith, inl, inr}
use Rattle.std.proofs.lemmas.Option.{slice_get_within}
use Rattle.wb_lemmas.proofs.Places.{at_within}
use Rattle.wb_base.specs.declared.symbol.Symbol.{Symbol}
use Rattle.wb_automata.specs.Automata.{IsConsidered}
use Rattle.wb_grammar_theory.specs.Items.{SameKernel}
use Rattle.wb_grammar_theory.proofs.ValidLemmas.{same_valid}
use Rattle.wb_items.specs.Kernels.{KernelsView, AreKernels, count_of, prefix_of}
use Rattle.wb_lexical.specs.Clash.{IsClash, HasNoClash}
use Rattle.wb_determinism_contexts.specs.Considered.{LexiconView, IsConsideredAt, IsClashAt, HasNoClashAt}
use Rattle.wb_determinism_contexts.specs.Sets.{AreConsideredSets}

-- the number of a set is that of a kernel
set_within : (kernels : KernelsView) (lexicon : LexiconView) (sets : List (List Bool)) (s : ℕ) (flags : List Bool)
    → AreConsideredSets kernels lexicon (count_of kernels) sets → slice_get sets s ≡ Some flags → s < count_of kernels
set_within kernels lexicon sets s flags are at = let below = slice_get_within sets s flags at in omega (arith, below, are.len)

-- the prefix of a set's kernel
pub clash_within : (kernels : KernelsView) (lexicon : LexiconView) (sets : List (List Bool)) (s left right : ℕ) (text : List ℕ)
    → AreConsideredSets kernels lexicon (count_of kernels) sets → IsClash lexicon.expressions sets lexicon.preferences s left right text
    → s < count_of kernels
clash_within kernels lexicon sets s left right text are clash =
    set_within kernels lexicon sets s clash.left_in.flags are clash.left_in.at

-- a clash of the sets is one at the prefix of its kernel
pub clash_shown : (kernels : KernelsView) (lexicon : LexiconView) (sets : List (List Bool)) (s left right : ℕ) (text : List ℕ)
    → AreKernels kernels → AreConsideredSets kernels lexicon (count_of kernels) sets
    → IsClash lexicon.expressions sets lexicon.preferences s left right text
    → IsClashAt kernels.grammar lexicon (prefix_of kernels s) left right text
clash_shown kernels lexicon sets s left right text exact are clash = record {
  viable = exact.states.prefixes s (clash_within kernels lexicon sets s left right text are clash);
  different = clash.different;
  left_considered = considered left clash.left_in;
  right_considered = considered right clash.right_in;
  left_matches = clash.left_matches;
  right_matches = clash.right_matches;
  unordered = clash.unordered;
}
  where
    considered : (t : ℕ) → IsConsidered sets s t → IsConsideredAt kernels.grammar lexicon (prefix_of kernels s) t
    considered t is = ((are.each s is.flags is.at).each t).0 is.has

-- what is considered at a prefix is considered at each prefix with the same kernel
pub same_considered : (kernels : KernelsView) (lexicon : LexiconView) (prefix other : List Symbol) → AreKernels kernels
    → SameKernel kernels.grammar prefix other → (t : ℕ) → IsConsideredAt kernels.grammar lexicon prefix t
    → IsConsideredAt kernels.grammar lexicon other t
same_considered kernels lexicon prefix other exact same t (inl (below, valid)) =
    inl (below, (same_valid kernels.grammar exact.live prefix other same t).0 valid)
same_considered kernels lexicon prefix other exact same t (inr (inl has)) = inr (inl has)
same_considered kernels lexicon prefix other exact same t (inr (inr (has, (i, holds, from, to)))) =
    inr (inr (has, (i, (same i).0 holds, from, to)))

-- sets without a clash are those of a grammar without one
pub no_clash_shown : (kernels : KernelsView) (lexicon : LexiconView) (sets : List (List Bool)) → AreKernels kernels
    → AreConsideredSets kernels lexicon (count_of kernels) sets → HasNoClash lexicon.expressions sets lexicon.preferences
    → HasNoClashAt kernels.grammar lexicon
no_clash_shown kernels lexicon sets exact are never prefix left right text clash =
    let (s, below, same) = exact.states.all prefix clash.viable in
    let (flags, at) = at_within sets s (omega (arith, below, are.len)) in
    never s left right text (record {
      different = clash.different;
      left_in = set_of s flags at left (back s same left clash.left_considered);
      right_in = set_of s flags at right (back s same right clash.right_considered);
      left_matches = clash.left_matches;
      right_matches = clash.right_matches;
      unordered = clash.unordered;
    })
  where
    back : (s : ℕ) → SameKernel kernels.grammar (prefix_of kernels s) prefix → (t : ℕ)
        → IsConsideredAt kernels.grammar lexicon prefix t → IsConsideredAt kernels.grammar lexicon (prefix_of kernels s) t
    back s same t is =
        same_considered kernels lexicon prefix (prefix_of kernels s) exact (λ item. ((same item).1, (same item).0)) t is

    set_of : (s : ℕ) (flags : List Bool) → slice_get sets s ≡ Some flags → (t : ℕ)
        → IsConsideredAt kernels.grammar lexicon (prefix_of kernels s) t → IsConsidered sets s t
    set_of s flags at t is = record { flags = flags; at = at; has = ((are.each s flags at).each t).1 is }
