-- What is gathered by new numbers is the union.
use Rattle.std.proofs.Common.{◌≡◌, ◌∙◌, ◌+◌, ◌++◌, ℕ, suc, List, [], ◌∷◌, length, map, take, refl, sym, ap}
use Rattle.std.specs.List.{flat_map}
use Rattle.wb_compose_theory_lists.specs.Additions as union
use Rattle.wb_compose_theory_lists.specs.Joined as joined
use Rattle.wb_compose_theory_lists.specs.Joined.{numbered}
use Rattle.wb_compose_theory_lists.specs.Numbers.{block_of, numbers_of}
use Rattle.wb_compose_theory_lists.specs.United.{host_numbers, united_attributes, united_nonterminals, united_occurrences}
use Rattle.wb_compose_attributes.specs.declared.numbers.Block.{Block}
use Rattle.wb_compose_attributes.specs.declared.numbers.Numbers.{Numbers}
use Rattle.wb_compose_attributes.specs.NewNumbers.{map_of, place_in}
use Rattle.wb_compose_theory.specs.Blocks.{spread}
use Rattle.wb_compose_theory_grammar.specs.Places.{count_before, total_of}
use Rattle.wb_compose_theory_attributes.specs.Numbers.{NumberMap}
use Rattle.wb_compose_theory_attributes.specs.Rows.{new_attribute, new_nonterminal, new_occurrence}
use Rattle.wb_compose_attributes.specs.declared.addition.Addition.{Addition}
use Rattle.wb_compose_attributes.specs.declared.addition.Rows.{Rows}
use Rattle.wb_compose_attributes.specs.declared.placed.Counts.{Counts}
use Rattle.wb_compose_attributes.specs.declared.placed.Placed.{Placed}
use Rattle.wb_compose_attributes.specs.Inner.Counted as s
use Rattle.wb_compose_attributes.specs.Inner.Counted.{counts_in, no_counts, numbers_at, numbers_by, pick_in, placed_at, placed_by, size_by}
use Rattle.wb_compose_attributes.specs.Inner.Counted.{Sort, total_by, totals_in}
use Rattle.wb_compose_attributes.specs.Inner.Gathered.{abstract_nonterminals_in, attributes_in, gathered_attributes, gathered_nonterminals}
use Rattle.wb_compose_attributes.specs.Inner.Gathered.{gathered_occurrences, nonterminals_in, occurrences_in}
use Rattle.wb_compose_attributes.specs.Lent.{addition_in, all_in, rows_in}
use Rattle.wb_compose_attributes.proofs.NumberedLemmas.{count_take, flat_numbered, map_take, numbered_map, numbered_same}

-- the block of a sort, where the host has so many, these extensions come before, and these are there
abbrev block_at : ℕ → (size : Counts) → (before all : List Addition) → Sort → Block
block_at own size before all sort = record {
  own = own;
  before = total_by sort before;
  size = pick_in size sort;
  total = total_by sort all;
}

-- where no locals move
abbrev pub unmoved : NumberMap → NumberMap
unmoved t = record {
  terminal = t.terminal;
  nonterminal = t.nonterminal;
  attribute = t.attribute;
  production = t.production;
  local_in = λ p. spread 0 0 0 0;
}

module _ (host : Rows) (adds : List Addition) where
  abbrev pub all : List union.Addition
  all = all_in host adds

  -- sums of sizes
  total_is : (size : union.Addition → ℕ) (mine : Addition → ℕ) → ((x : Addition) → mine x ≡ size (addition_in host x)) →
      map mine adds ≡ map size all
  total_is size mine same = go adds
    where
      go : (xs : List Addition) → map mine xs ≡ map size (map (addition_in host) xs)
      go [] = refl
      go (x ∷ xs) = λ j. same x j ∷ go xs j

  before_is : (size : union.Addition → ℕ) (mine : Addition → ℕ) → ((x : Addition) → mine x ≡ size (addition_in host x)) → (k : ℕ) →
      total_of (map mine (take k adds)) ≡ count_before (map size all) k
  before_is size mine same k = ap total_of (map_take mine adds k ∙ ap (take k) (total_is size mine same)) ∙ count_take (map size all) k

  -- the new numbers of an extension
  module _ (k : ℕ) (x : Addition) where
    abbrev X : union.Addition
    X = addition_in host x

    -- a block of one sort
    place_is : (own : ℕ) (sort : Sort) (size : union.Addition → ℕ) → ((y : Addition) → size_by sort y ≡ size (addition_in host y)) →
        place_in (block_at own (counts_in x.rows) (take k adds) adds sort) ≡ joined.place_after own (block_of (rows_in host) all size k X)
    place_is own sort size same = λ j. λ n. spread own (before_is size (size_by sort) same k j) (same x j)
        (total_of (total_is size (size_by sort) same j)) n

    pub numbers_are : map_of (numbers_at (counts_in host) (suc k) (counts_in x.rows) (take k adds) adds)
        ≡ unmoved (numbers_of (rows_in host) all k X)
    numbers_are = λ j. record {
      terminal = place_is host.terminals s.Terminals (λ y. y.rows.terminals) (λ y. refl) j;
      nonterminal = grouped_is s.Nonterminals s.AbstractNonterminals (λ y. length y.rows.nonterminals)
          (λ y. length y.rows.abstract_nonterminals) (λ y. refl) (λ y. refl) j;
      attribute = place_is (length host.attributes.now) s.Attributes (λ y. length y.rows.attributes) (λ y. refl) j;
      production = grouped_is s.Productions s.AbstractProductions (λ y. length y.rows.productions)
          (λ y. length y.rows.abstract_productions) (λ y. refl) (λ y. refl) j;
      local_in = λ p. spread 0 0 0 0;
    }
      where
        grouped_is : (lead follow : Sort) (size more : union.Addition → ℕ) → ((y : Addition) → size_by lead y ≡ size (addition_in host y)) →
            ((y : Addition) → size_by follow y ≡ more (addition_in host y)) →
            (λ n. place_in (block_at (pick_in (counts_in host) lead + total_of (map (size_by lead) adds) + pick_in (counts_in host) follow)
            (counts_in x.rows) (take k adds) adds follow)
            (place_in (block_at (pick_in (counts_in host) lead) (counts_in x.rows) (take k adds) adds lead) n))
            ≡ joined.place_grouped (pick_in (counts_in host) lead) (pick_in (counts_in host) follow) (block_of (rows_in host) all size k X)
            (block_of (rows_in host) all more k X)
        grouped_is lead follow size more same also = λ j. λ n. spread
            (pick_in (counts_in host) lead + total_of (total_is size (size_by lead) same j) + pick_in (counts_in host) follow)
            (before_is more (size_by follow) also k j) (also x j) (total_of (total_is more (size_by follow) also j))
            (spread (pick_in (counts_in host) lead) (before_is size (size_by lead) same k j) (same x j)
            (total_of (total_is size (size_by lead) same j)) n)

  -- the new numbers of the host
  pub nothing_before : (sizes : List ℕ) → 0 ≡ count_before sizes 0
  nothing_before [] = refl
  nothing_before (size ∷ sizes) = refl

  host_place : (own : ℕ) (sort : Sort) (size : union.Addition → ℕ) → ((y : Addition) → size_by sort y ≡ size (addition_in host y)) →
      pick_in no_counts sort ≡ size union.nothing →
      place_in (block_at own no_counts [] adds sort) ≡ joined.place_after own (block_of (rows_in host) all size 0 union.nothing)
  host_place own sort size same none = λ j. λ n. spread own (nothing_before (map size all) j) (none j)
      (total_of (total_is size (size_by sort) same j)) n

  pub host_numbers_are : map_of (numbers_at (counts_in host) 0 no_counts [] adds) ≡ unmoved (host_numbers (rows_in host) all)
  host_numbers_are = λ j. record {
    terminal = host_place host.terminals s.Terminals (λ y. y.rows.terminals) (λ y. refl) refl j;
    nonterminal = grouped_is s.Nonterminals s.AbstractNonterminals (λ y. length y.rows.nonterminals)
        (λ y. length y.rows.abstract_nonterminals) (λ y. refl) (λ y. refl) refl refl j;
    attribute = host_place (length host.attributes.now) s.Attributes (λ y. length y.rows.attributes) (λ y. refl) refl j;
    production = grouped_is s.Productions s.AbstractProductions (λ y. length y.rows.productions)
        (λ y. length y.rows.abstract_productions) (λ y. refl) (λ y. refl) refl refl j;
    local_in = λ p. spread 0 0 0 0;
  }
    where
      grouped_is : (lead follow : Sort) (size more : union.Addition → ℕ) → ((y : Addition) → size_by lead y ≡ size (addition_in host y)) →
          ((y : Addition) → size_by follow y ≡ more (addition_in host y)) → pick_in no_counts lead ≡ size union.nothing →
          pick_in no_counts follow ≡ more union.nothing →
          (λ n. place_in (block_at (pick_in (counts_in host) lead + total_of (map (size_by lead) adds) + pick_in (counts_in host) follow)
          no_counts [] adds follow) (place_in (block_at (pick_in (counts_in host) lead) no_counts [] adds lead) n))
          ≡ joined.place_grouped (pick_in (counts_in host) lead) (pick_in (counts_in host) follow)
          (block_of (rows_in host) all size 0 union.nothing) (block_of (rows_in host) all more 0 union.nothing)
      grouped_is lead follow size more same also none nor = λ j. λ n. spread
          (pick_in (counts_in host) lead + total_of (total_is size (size_by lead) same j) + pick_in (counts_in host) follow)
          (nothing_before (map more all) j) (nor j) (total_of (total_is more (size_by follow) also j))
          (spread (pick_in (counts_in host) lead) (nothing_before (map size all) j) (none j)
          (total_of (total_is size (size_by lead) same j)) n)

  -- the extensions with their new numbers
  abbrev pub placed : List Placed
  placed = numbered (placed_at (counts_in host) adds) 0 adds

  abbrev pub own_numbers : Numbers
  own_numbers = numbers_at (counts_in host) 0 no_counts [] adds

  pub gather : {Y : Type 0} (mine : Placed → List Y) (theirs : ℕ → union.Addition → List Y) →
      ((k : ℕ) (x : Addition) → mine (placed_at (counts_in host) adds k x) ≡ theirs k (addition_in host x)) →
      flat_map mine placed ≡ joined.joined (numbered theirs 0 all)
  gather mine theirs same =
      flat_numbered mine (placed_at (counts_in host) adds) 0 adds ∙
      (ap joined.joined
      (numbered_same (λ k x. mine (placed_at (counts_in host) adds k x)) (λ k x. theirs k (addition_in host x)) same 0 adds) ∙
      ap joined.joined (sym (numbered_map theirs (addition_in host) 0 adds)))

  pub nonterminals_are : gathered_nonterminals own_numbers host placed ≡ united_nonterminals (rows_in host) all
  nonterminals_are = λ j. (leading j ++ leads j) ++ following j ++ follows j
    where
      leading : map (new_nonterminal (map_of own_numbers) 0) host.nonterminals.now
          ≡ map (new_nonterminal (host_numbers (rows_in host) all) 0) host.nonterminals.now
      leading = ap (λ t. map (new_nonterminal t 0) host.nonterminals.now) host_numbers_are

      following : map (new_nonterminal (map_of own_numbers) 0) host.abstract_nonterminals.now
          ≡ map (new_nonterminal (host_numbers (rows_in host) all) 0) host.abstract_nonterminals.now
      following = ap (λ t. map (new_nonterminal t 0) host.abstract_nonterminals.now) host_numbers_are

      leads : flat_map nonterminals_in placed ≡ joined.joined
          (numbered (λ k y. map (new_nonterminal (numbers_of (rows_in host) all k y) (suc k)) y.rows.nonterminals) 0 all)
      leads = gather nonterminals_in (λ k y. map (new_nonterminal (numbers_of (rows_in host) all k y) (suc k)) y.rows.nonterminals)
          (λ k x. ap (λ t. map (new_nonterminal t (suc k)) x.rows.nonterminals.now) (numbers_are k x))

      follows : flat_map abstract_nonterminals_in placed ≡ joined.joined
          (numbered (λ k y. map (new_nonterminal (numbers_of (rows_in host) all k y) (suc k)) y.rows.abstract_nonterminals) 0 all)
      follows = gather abstract_nonterminals_in
          (λ k y. map (new_nonterminal (numbers_of (rows_in host) all k y) (suc k)) y.rows.abstract_nonterminals)
          (λ k x. ap (λ t. map (new_nonterminal t (suc k)) x.rows.abstract_nonterminals.now) (numbers_are k x))

  pub attributes_are : gathered_attributes own_numbers host placed ≡ united_attributes (rows_in host) all
  attributes_are = λ j. leading j ++ leads j
    where
      leading : map (new_attribute (map_of own_numbers) 0) host.attributes.now
          ≡ map (new_attribute (host_numbers (rows_in host) all) 0) host.attributes.now
      leading = ap (λ t. map (new_attribute t 0) host.attributes.now) host_numbers_are

      leads : flat_map attributes_in placed ≡ joined.joined
          (numbered (λ k y. map (new_attribute (numbers_of (rows_in host) all k y) (suc k)) y.rows.attributes) 0 all)
      leads = gather attributes_in (λ k y. map (new_attribute (numbers_of (rows_in host) all k y) (suc k)) y.rows.attributes)
          (λ k x. ap (λ t. map (new_attribute t (suc k)) x.rows.attributes.now) (numbers_are k x))

  pub occurrences_are : gathered_occurrences own_numbers host placed ≡ united_occurrences (rows_in host) all
  occurrences_are = λ j. leading j ++ leads j
    where
      leading : map (new_occurrence (map_of own_numbers) 0) host.occurrences.now
          ≡ map (new_occurrence (host_numbers (rows_in host) all) 0) host.occurrences.now
      leading = ap (λ t. map (new_occurrence t 0) host.occurrences.now) host_numbers_are

      leads : flat_map occurrences_in placed ≡ joined.joined
          (numbered (λ k y. map (new_occurrence (numbers_of (rows_in host) all k y) (suc k)) y.rows.occurrences) 0 all)
      leads = gather occurrences_in (λ k y. map (new_occurrence (numbers_of (rows_in host) all k y) (suc k)) y.rows.occurrences)
          (λ k x. ap (λ t. map (new_occurrence t (suc k)) x.rows.occurrences.now) (numbers_are k x))

  -- what is gathered by equal numbers
  pub same_gathered : {Y : Type 0} (G : Numbers → Rows → List Placed → Y) (counts all_counts : Counts) (n : Numbers)
      (mine items : List Placed) →
      counts ≡ counts_in host → all_counts ≡ totals_in adds → n ≡ numbers_by counts 0 no_counts no_counts all_counts →
      mine ≡ items → items ≡ numbered (placed_by n adds) 0 adds →
      G n host mine ≡ G own_numbers host placed
  same_gathered G counts all_counts n mine items counted totals numbers same are =
      let n_is : n ≡ own_numbers = numbers ∙ (λ j. numbers_by (counted j) 0 no_counts no_counts (totals j)) in
      let placed_is : mine ≡ placed = same ∙ (are ∙ ap (λ z. numbered (placed_by z adds) 0 adds) n_is) in
      λ j. G (n_is j) host (placed_is j)
