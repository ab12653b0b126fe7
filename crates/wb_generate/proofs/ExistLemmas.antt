-- A number has an outcome: that it has none can't be.
use Rattle.std.proofs.Common.{◌≡◌, ◌⊎◌, ◌≤◌, ◌<◌, ◌+◌, ◌-◌, ℕ, zero, suc, List, [], ◌∷◌, length, refl, sym, subst, inl, inr, arith}
use Rattle.std.specs.List.{AllZip}
use Rattle.std.specs.Prelude.{All, Option, slice_index}
use Rattle.std.proofs.lemmas.Bool.{cases_lt}
use Rattle.std.proofs.lemmas.List.Elements.{All-head, All-tail}
use Rattle.wb_automata.specs.Overlaps.{IsLeastMatch}
use Rattle.wb_base.specs.Grammar.{GrammarView, IsGrammar}
use Rattle.wb_base.specs.declared.symbol.Symbol.TheVariants.{Nonterminal}
use Rattle.wb_grammar_theory.specs.Trees.{Forest, IsTree}
use Rattle.wb_lemmas.proofs.NotNot.{Chosen, bind, certain, choose, follows}
use Rattle.wb_regex.specs.Tree.{Tree}
use Rattle.wb_scan_theory.specs.Bounds.{HasNoCycle, count}
use Rattle.wb_generate.specs.Counts.{AreLeast, HasTree, IsLeast}
use Rattle.wb_generate.specs.Laws.{HasSomeOutcome, MatchesSome}
use Rattle.wb_generate.specs.Making.{Makes}
use Rattle.wb_generate.specs.Outcomes.{IsOutcome}
use Rattle.wb_generate.specs.Texts.{IsWritten, between_of, joined_texts}
use Rattle.wb_generate.specs.declared.generated.Generated.{Generated}
use Rattle.wb_generate.specs.declared.generated.Generated.TheVariants.{Text, NoSentence}
use Rattle.wb_generate.specs.Inner.Runs.{IsUnderWay, after, bound, next, start_of}
use Rattle.wb_generate.specs.Inner.States.{State}
use Rattle.wb_generate.proofs.BoundLemmas.{way_start}
use Rattle.wb_generate.proofs.LeastLemmas.{IsFirst, some_first, some_least_match}
use Rattle.wb_generate.proofs.MakeLemmas.{no_sentence_of, sentence_of}
use Rattle.wb_generate.proofs.RunLemmas.{after_next, under_way_next, way_over}

-- a nonterminal has a least count
least_of_first : (g : GrammarView) (limit a n : ℕ) → IsFirst (HasTree g a) limit n → IsLeast g limit a n
least_of_first g limit a n first = record {
  most = first.most;
  lower = λ tree is. first.lower (count tree) (record { tree = tree; is = is; many = refl });
  reached = first.reached;
}

some_counts : (g : GrammarView) (limit : ℕ) → ¬ ¬ ((counts : List ℕ) × AreLeast g limit counts)
some_counts g limit =
    follows (choose g.nonterminals 0 (λ a n. IsLeast g limit a n) (λ a lt.
    follows (some_first (HasTree g a) limit) (λ (n, first). (n, least_of_first g limit a n first))))
    (λ (c : Chosen g.nonterminals 0 (λ a n. IsLeast g limit a n)). (c.list, record { len = c.len; each = c.each }))

-- expressions have least texts
some_texts : (expressions : List Tree) → All MatchesSome expressions → ¬ ¬ ((texts : List (List ℕ)) × AllZip IsLeastMatch expressions texts)
some_texts [] each = certain ([], tt)
some_texts (tree ∷ expressions) each =
    let (text, matches) = All-head MatchesSome tree expressions each in
    bind (some_least_match tree text matches) (λ (x, least).
    follows (some_texts expressions (All-tail MatchesSome tree expressions each)) (λ (texts, are). (x ∷ texts, (least, are))))

module _ (g : GrammarView) (counts : List ℕ) (least : AreLeast g 100001 counts) (is : IsGrammar g) where
  -- on the way after so many steps
  way_after : (n many : ℕ) (start s : State) → IsUnderWay g counts 100000 many start s →
      IsUnderWay g counts 100000 many start (after g counts n s)
  way_after zero many start s way = way
  way_after (suc n) many start s way =
      way_after n many start (next g counts s)
      (under_way_next g 100001 counts 100000 least (omega arith) is many start s way)

  -- the start becomes leaves
  some_made : HasNoCycle g → (spare number : ℕ) → spare + slice_index counts g.start ≤ 100000 →
      (made : List ℕ) × Makes g counts (Nonterminal g.start ∷ []) spare number made
  some_made acyclic spare number few =
      let start : State = start_of g spare number in
      let many : ℕ = bound g (spare + (slice_index counts g.start + 0)) in
      let way = way_start g 100001 100000 counts least (omega arith) is acyclic spare number few start refl in
      let end : State = after g counts many start in
      (end.made, way_over g 100001 counts 100000 least (omega arith) is many start end way.ends (way_after many many start start way) refl)

-- by the least count of the start
pub some_outcome : (g : GrammarView) (expressions : List Tree) (layout : Option ℕ) (number size : ℕ) →
    HasSomeOutcome g expressions layout number size
some_outcome g expressions layout number size is acyclic each small =
    bind (some_counts g 100001) (λ (counts, least).
    follows (some_texts expressions each) (λ (texts, are).
    by_size counts least texts are (cases_lt size (slice_index counts g.start))))
  where
    by_size : (counts : List ℕ) → AreLeast g 100001 counts → (texts : List (List ℕ)) → AllZip IsLeastMatch expressions texts →
        (size < slice_index counts g.start) ⊎ (slice_index counts g.start ≤ size) →
        (answer : Generated) × IsOutcome g expressions layout number size answer
    by_size counts least texts are (inl above) =
        (NoSentence (slice_index counts g.start), no_sentence_of g size counts is least above)
    by_size counts least texts are (inr enough) =
        let (made, makes) = some_made g counts least is acyclic (size - slice_index counts g.start) number (omega (arith, enough, small)) in
        let text : List ℕ = joined_texts texts (between_of texts layout) made in
        let written : IsWritten expressions layout made text = record { texts = texts; least = are; is = refl } in (
          Text text (length made),
          sentence_of g expressions layout number size text made counts (length made) is least enough makes written refl,
        )
