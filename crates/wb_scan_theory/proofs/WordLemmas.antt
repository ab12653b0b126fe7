-- Trees of a grammar without conflict are equal where the words of their leaves are.
use Rattle.std.proofs.Common.{List, [], ap, refl, ℕ, ◌∷◌, ◌≡◌}
use Rattle.wb_base.specs.Grammar.{GrammarView}
use Rattle.wb_grammar_theory.specs.Lookaheads.{HasNoConflict}
use Rattle.wb_grammar_theory.specs.Productions.{end_of}
use Rattle.wb_grammar_theory.specs.Trees.{DerivationTree, Forest, Leaf, leaves}
use Rattle.wb_scan_theory.proofs.AgreeLemmas.{SameContexts}
use Rattle.wb_scan_theory.proofs.UniqueLemmas.{tree_contexts, unambiguous}
use Rattle.wb_scan_theory.specs.Machine.{ahead}
use Rattle.wb_scan_theory.specs.Words.{words_of}

-- lists of words that are equal begin with one word
same_word : (v w : ℕ × List ℕ) (vs ws : List (ℕ × List ℕ)) → v ∷ vs ≡ w ∷ ws → v ≡ w
same_word v w vs ws e = cc

-- equal words begin with one terminal
same_ahead : (u : ℕ) (xs ys : List Leaf) → words_of xs ≡ words_of ys → ahead u xs ≡ ahead u ys
same_ahead u [] [] e = refl
same_ahead u [] (y ∷ ys) e = cc
same_ahead u (x ∷ xs) [] e = cc
same_ahead u (x ∷ xs) (y ∷ ys) e =
    ap (λ (z : ℕ × List ℕ). z.0) (same_word (x.terminal, x.text) (y.terminal, y.text) (words_of xs) (words_of ys) e)

-- leaves with equal words whose contexts agree as long as their terminals do are equal
same_leaves : (u : ℕ) (xs ys : List Leaf) → words_of xs ≡ words_of ys → SameContexts u xs ys → xs ≡ ys
same_leaves u [] [] e contexts = refl
same_leaves u [] (y ∷ ys) e contexts = cc
same_leaves u (x ∷ xs) [] e contexts = cc
same_leaves u (x ∷ xs) (y ∷ ys) e (context, further) =
    let rest : words_of xs ≡ words_of ys = cc in
    let word = same_word (x.terminal, x.text) (y.terminal, y.text) (words_of xs) (words_of ys) e in
    let terminals : x.terminal ≡ y.terminal = ap (λ (z : ℕ × List ℕ). z.0) word in
    let texts : x.text ≡ y.text = ap (λ (z : ℕ × List ℕ). z.1) word in
    let leaf : x ≡ y = λ k. record { context = context k; terminal = terminals k; text = texts k } in
    let later : xs ≡ ys = same_leaves u xs ys rest (further (same_ahead u xs ys rest)) in
    λ k. leaf k ∷ later k

-- the words of its leaves give one tree at most
pub one_tree_of_words : (g : GrammarView) → HasNoConflict g → (tree other : Forest) → DerivationTree g tree → DerivationTree g other →
    words_of (leaves [] tree) ≡ words_of (leaves [] other) → tree ≡ other
one_tree_of_words g free tree other is is' e =
    unambiguous g free tree other is is'
    (same_leaves (end_of g) (leaves [] tree) (leaves [] other) e
    (tree_contexts g free tree other is is' (same_ahead (end_of g) (leaves [] tree) (leaves [] other) e)))
