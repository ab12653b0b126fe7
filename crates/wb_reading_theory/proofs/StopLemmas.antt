-- A text stops alike in a language and in one that extends it, where no marker is next.
use Rattle.std.proofs.Common.{◌≡◌, ◌⊎◌, ◌∙◌, ◌++◌, ◌∷◌, ◌<◌, ◌≤◌, ◌-◌, ◌+◌, ℕ, Bool, List, [], ap, cond, inl, inr, refl, subst, sym, arith}
use Rattle.std.proofs.lemmas.Bool.{cases_order, le-ltb, lt-ltb}
use Rattle.wb_base.specs.Grammar.{GrammarView}
use Rattle.wb_base.specs.declared.symbol.Symbol.{Symbol}
use Rattle.wb_termset.specs.Sets.{IsMember}
use Rattle.wb_grammar_theory.specs.Productions.{end_of}
use Rattle.wb_grammar_theory.specs.Trees.{DerivationTree, Forest, Leaf, leaves}
use Rattle.wb_scan_theory.specs.declared.stop_kind.StopKind.{StopKind}
use Rattle.wb_scan_theory.specs.declared.stop_kind.StopKind.TheVariants.{NoToken, Unexpected}
use Rattle.wb_scan_theory.specs.Facts.{IsLanguage}
use Rattle.wb_scan_theory.specs.Languages.{LanguageView}
use Rattle.wb_scan_theory.specs.Readings.{Begins, Gives, StopsFor, terminals_of}
use Rattle.wb_scan_theory.specs.Texts.{StopsAt}
use Rattle.wb_scan_theory.specs.Tokens.{Next, NextToken, token, over, missing}
use Rattle.wb_scan_theory.proofs.ForestLemmas.{terminals_joined}
use Rattle.wb_scan_theory.proofs.TokenLemmas.{taken}
use Rattle.wb_compose_theory.specs.Blocks.{lift}
use Rattle.wb_reading_theory.specs.Languages.{ExtendsLanguage}
use Rattle.wb_reading_theory.specs.Laws.{ReadsAlike, further_kind}
use Rattle.wb_reading_theory.specs.Markers.{HasNoMarker, IsPlain}
use Rattle.wb_reading_theory.proofs.BeginLemmas.{begins_whole, begins_with, begun, begun_whole, plain_named}
use Rattle.wb_reading_theory.proofs.NextLemmas.{IsUnmarked}
use Rattle.wb_reading_theory.proofs.TreeLemmas.{plain_joined, plain_tree, tree_begins, tree_to}
use Rattle.wb_reading_theory.proofs.WalkLemmas.{Stands, first, found_from, found_to, parses_from, parses_to, unmarked, walk_from, walk_to}

-- numbers below stay, others move up
lift_below : (own more t : ℕ) → t < own → lift own more t ≡ t
lift_below own more t below = ap (λ c. cond c t (t + more)) (lt-ltb t own below)

lift_past : (own more t : ℕ) → own ≤ t → lift own more t ≡ t + more
lift_past own more t far = ap (λ c. cond c t (t + more)) (le-ltb t own far)

lift_once : (own more t u : ℕ) → lift own more t ≡ lift own more u → t ≡ u
lift_once own more t u e = go (cases_order t own) (cases_order u own)
  where
    both_past : own ≤ t → own ≤ u → t ≡ u
    both_past far far' = let a = lift_past own more t far in let b = lift_past own more u far' in omega (arith, a, b, e)

    first_below : t < own → own ≤ u → t ≡ u
    first_below below far = let a = lift_below own more t below in let b = lift_past own more u far in
        absurd (omega (arith, a, b, e, below, far))

    second_below : own ≤ t → u < own → t ≡ u
    second_below far below = let a = lift_past own more t far in let b = lift_below own more u below in
        absurd (omega (arith, a, b, e, below, far))

    go : (t ≡ own) ⊎ ((t < own) ⊎ (own < t)) → (u ≡ own) ⊎ ((u < own) ⊎ (own < u)) → t ≡ u
    go (inr (inl below)) (inr (inl below')) = sym (lift_below own more t below) ∙ (e ∙ lift_below own more u below')
    go (inr (inl below)) (inl is) = first_below below (omega (arith, is))
    go (inr (inl below)) (inr (inr far)) = first_below below (omega (arith, far))
    go (inl is) (inr (inl below)) = second_below (omega (arith, is)) below
    go (inr (inr far)) (inr (inl below)) = second_below (omega (arith, far)) below
    go (inl is) (inl is') = is ∙ sym is'
    go (inl is) (inr (inr far)) = both_past (omega (arith, is)) (omega (arith, far))
    go (inr (inr far)) (inl is) = both_past (omega (arith, far)) (omega (arith, is))
    go (inr (inr far)) (inr (inr far')) = both_past (omega (arith, far)) (omega (arith, far'))

kind_once : (g k : GrammarView) (one other : StopKind) → further_kind g k one ≡ further_kind g k other → one ≡ other
kind_once g k NoToken NoToken e = refl
kind_once g k NoToken (Unexpected t) e = cc
kind_once g k (Unexpected t) NoToken e = cc
kind_once g k (Unexpected t) (Unexpected u) e =
    ap Unexpected (lift_once g.terminals (k.terminals - g.terminals) t u
    (named (Unexpected (lift g.terminals (k.terminals - g.terminals) t))
    (Unexpected (lift g.terminals (k.terminals - g.terminals) u)) e))
  where
    number : StopKind → ℕ
    number NoToken = 0
    number (Unexpected n) = n

    named : (a b : StopKind) → a ≡ b → number a ≡ number b
    named a b same = ap number same

module _ {h u : LanguageView} {markers : List Bool} (of_host : IsLanguage h) (of_union : IsLanguage u)
    (extends : ExtendsLanguage h u markers) where
  abbrev raised : ℕ → ℕ
  raised t = lift h.grammar.terminals (u.grammar.terminals - h.grammar.terminals) t

  raised_end : raised (end_of h.grammar) ≡ end_of u.grammar
  raised_end =
      let le = extends.grammar.terminals in
      lift_past h.grammar.terminals (u.grammar.terminals - h.grammar.terminals) h.grammar.terminals (omega arith) ∙ omega (arith, le)

  raised_below : (t : ℕ) → t < h.grammar.terminals → raised t ≡ t
  raised_below t less = lift_below h.grammar.terminals (u.grammar.terminals - h.grammar.terminals) t less

  below_end : (t : ℕ) → t < end_of h.grammar → t < end_of u.grammar
  below_end t less = let le = extends.grammar.terminals in omega (arith, less, le)

  -- what a tree begins with, `end` or not, in the one grammar and in the other
  begins_to : (read : List Leaf) (t : ℕ) → t < end_of h.grammar → Begins h.grammar (terminals_of read ++ t ∷ []) →
      Begins u.grammar (terminals_of read ++ t ∷ [])
  begins_to read t less b =
      let (tree, is, (xs, rest, e, named)) = begun h.grammar (terminals_of read) t less b in
      begins_with u.grammar tree (tree_to extends.grammar of_host.deterministic.in_range tree is) xs rest e
      (terminals_of read ++ t ∷ []) named

  begins_from : (read : List Leaf) (t : ℕ) → t < end_of h.grammar → HasNoMarker markers read →
      Begins u.grammar (terminals_of read ++ t ∷ []) →
      Begins h.grammar (terminals_of read ++ t ∷ [])
  begins_from read t less before b =
      let (tree, is, (xs, rest, e, named)) = begun u.grammar (terminals_of read) t (below_end t less) b in
      let last : Leaf = record { context = []; terminal = t; text = [] } in
      let not : ¬ IsMember markers t = λ marks. let low = (extends.grammar.marking t marks).0 in omega (arith, low, less) in
      let plain = plain_named markers (read ++ last ∷ []) xs
      (terminals_joined read (last ∷ []) ∙ sym named)
      (plain_joined markers read (last ∷ []) before (not, tt)) in
      let (other, other_is, (more, begins)) = tree_begins extends.grammar of_host.deterministic.in_range of_host.deterministic.reduced
      tree xs rest
      is e plain in
      begins_with h.grammar other other_is xs more begins (terminals_of read ++ t ∷ []) named

  ends_to : (read : List Leaf) → Begins h.grammar (terminals_of read ++ end_of h.grammar ∷ []) →
      Begins u.grammar (terminals_of read ++ end_of u.grammar ∷ [])
  ends_to read b =
      let (tree, is, named) = begun_whole h.grammar of_host.deterministic (terminals_of read) b in
      begins_whole u.grammar tree (tree_to extends.grammar of_host.deterministic.in_range tree is) (terminals_of read) named

  ends_from : (read : List Leaf) → HasNoMarker markers read → Begins u.grammar (terminals_of read ++ end_of u.grammar ∷ []) →
      Begins h.grammar (terminals_of read ++ end_of h.grammar ∷ [])
  ends_from read before b =
      let (tree, is, named) = begun_whole u.grammar of_union.deterministic (terminals_of read) b in
      let plain = plain_named markers read (leaves [] tree) (sym named) before in
      begins_whole h.grammar tree (plain_tree extends.grammar of_host.deterministic.in_range tree is plain) (terminals_of read) named

  module _ (text : List ℕ) where
    -- what stops a text in the one language, after leaves without markers, stops it in the other
    stops_to : (read : List Leaf) → HasNoMarker markers read → (prefix : List Symbol) (at : ℕ) (found : Next) →
        NextToken h text prefix at found →
        (place : ℕ) (kind : StopKind) → StopsFor h.grammar found (terminals_of read) place kind →
        StopsFor u.grammar found (terminals_of read) place (further_kind h.grammar u.grammar kind)
    stops_to read before prefix at found n place NoToken is = is
    stops_to read before prefix at (token begin v lexeme after) n place (Unexpected t) ((same, begin_is), never) =
        let less : v < end_of h.grammar = (taken of_host.written n begin v lexeme after refl).0 in
        let less' : t < end_of h.grammar = subst (λ z. z < end_of h.grammar) same less in
        let up = raised_below t less' in (
          (same ∙ sym up, begin_is),
          λ b. never (begins_from read t less' before (subst (λ z. Begins u.grammar (terminals_of read ++ z ∷ [])) up b)),
        )
    stops_to read before prefix at (over reached) n place (Unexpected t) ((same, at_is), never) =
        let up : raised t ≡ end_of u.grammar = ap raised (sym same) ∙ raised_end in (
          (sym up, at_is),
          λ b. never (subst (λ z. Begins h.grammar (terminals_of read ++ z ∷ [])) same
              (ends_from read before (subst (λ z. Begins u.grammar (terminals_of read ++ z ∷ [])) up b))),
        )
    stops_to read before prefix at (missing reached) n place (Unexpected t) (gives, never) = absurd gives

    abbrev Found : Next → List ℕ → ℕ → StopKind → Type 0
    Found found ts place kind =
        (same : StopKind) × (kind ≡ further_kind h.grammar u.grammar same) × StopsFor h.grammar found ts place same

    stops_from : (read : List Leaf) (prefix : List Symbol) (at : ℕ) (found : Next) → NextToken h text prefix at found →
        (place : ℕ) (kind : StopKind) → StopsFor u.grammar found (terminals_of read) place kind → Found found (terminals_of read) place kind
    stops_from read prefix at found n place NoToken is = (NoToken, refl, is)
    stops_from read prefix at (token begin v lexeme after) n place (Unexpected t) ((same, begin_is), never) =
        let less : v < end_of h.grammar = (taken of_host.written n begin v lexeme after refl).0 in
        let less' : t < end_of h.grammar = subst (λ z. z < end_of h.grammar) same less in (
          Unexpected t,
          ap Unexpected (sym (raised_below t less')),
          ((same, begin_is), λ b. never (begins_to read t less' b)),
        )
    stops_from read prefix at (over reached) n place (Unexpected t) ((same, at_is), never) = (
      Unexpected (end_of h.grammar),
      ap Unexpected (sym same ∙ sym raised_end),
      ((refl, at_is), λ b. never (subst (λ z. Begins u.grammar (terminals_of read ++ z ∷ [])) same (ends_to read b))),
    )
    stops_from read prefix at (missing reached) n place (Unexpected t) (gives, never) = absurd gives

  module _ (text : List ℕ) (plain : IsPlain u markers text) where
    stop_to : (place : ℕ) (kind : StopKind) → StopsAt h text place kind → StopsAt u text place (further_kind h.grammar u.grammar kind)
    stop_to place kind is =
        let there = tree_to extends.grammar of_host.deterministic.in_range is.tree is.is_tree in
        let s = walk_to of_host of_union extends text plain is.tree there [] is.read is.rest [] 0 is.is
        (first of_host of_union extends text plain) is.prefix is.at is.on_text in
        record {
          tree = is.tree;
          is_tree = there;
          read = is.read;
          rest = is.rest;
          is = is.is;
          prefix = is.prefix;
          at = is.at;
          on_text = s.on_union;
          found = is.found;
          is_next = found_to of_host of_union extends text plain s is.tree is.rest there is.is is.is_next;
          stops = stops_to text is.read s.before is.prefix is.at is.found is.is_next place kind is.stops;
        }

    stop_from : (place : ℕ) (kind : StopKind) → StopsAt u text place kind →
        (same : StopKind) × (kind ≡ further_kind h.grammar u.grammar same) × StopsAt h text place same
    stop_from place kind is =
        let s = walk_from of_host of_union extends text plain is.tree is.is_tree [] is.read is.rest [] 0 is.is
        (first of_host of_union extends text plain) is.prefix is.at is.on_text in
        let here = found_from of_host of_union extends text plain s is.tree is.rest is.is_tree is.is is.is_next in
        let (other, other_is, (more, begins)) = tree_begins extends.grammar of_host.deterministic.in_range of_host.deterministic.reduced
        is.tree
        is.read is.rest is.is_tree is.is s.before in
        let (same, kind_is, stops) = stops_from text is.read is.prefix is.at is.found here place kind is.stops in (
          same,
          kind_is,
          record {
            tree = other;
            is_tree = other_is;
            read = is.read;
            rest = more;
            is = begins;
            prefix = is.prefix;
            at = is.at;
            on_text = s.on_host;
            found = is.found;
            is_next = here;
            stops = stops;
          },
        )

    -- the text is read alike
    pub reads_alike : ReadsAlike h u text
    reads_alike = record {
      trees = λ tree. (parses_to of_host of_union extends text plain tree, parses_from of_host of_union extends text plain tree);
      stops = λ place kind. (
        stop_to place kind,
        λ is.
            let (same, kind_is, here) = stop_from place (further_kind h.grammar u.grammar kind) is in
            subst (StopsAt h text place) (sym (kind_once h.grammar u.grammar kind same kind_is)) here,
      );
      no_others = stop_from;
    }
