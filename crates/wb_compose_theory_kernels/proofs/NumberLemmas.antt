-- Which kernels of the certified grammars the union takes, and that these are all it has.
use Rattle.std.proofs.Common.{◌<◌, ◌∙◌, ◌≡◌, ◌≢◌, List, Some, ap, arith, inl, inr, length, map, refl, slice_get, subst}
use Rattle.std.proofs.Common.{sym, ℕ}
use Rattle.std.specs.Prelude.{◌↔◌}
use Rattle.std.proofs.lemmas.Bool.{cases_lt}
use Rattle.wb_base.specs.declared.symbol.Symbol.{Symbol}
use Rattle.wb_base.specs.declared.symbol.Symbol.TheVariants.{Nonterminal, Terminal}
use Rattle.wb_base.specs.Grammar.{GrammarView}
use Rattle.wb_grammar_theory.specs.declared.item.Item.{Item}
use Rattle.wb_grammar_theory.specs.Items.{IsKernelItem, IsViablePrefix}
use Rattle.wb_lemmas.proofs.Places.{at_within}
use Rattle.wb_marking_holes.specs.Holes.{with_holes_of}
use Rattle.wb_compose_theory.proofs.ComposedLemmas.{composable_apart}
use Rattle.wb_compose_theory.proofs.HostTerminalLemmas.{union_not_hole}
use Rattle.wb_compose_theory.proofs.KernelLemmas.{chain, flip}
use Rattle.wb_compose_theory.proofs.NumberLemmas.{item_named, kernel_back, kernel_there, same_back, same_there}
use Rattle.wb_compose_theory.proofs.RenamingLemmas.{item_once, valid_there}
use Rattle.wb_compose_theory.proofs.SeamLemmas.{item_up}
use Rattle.wb_compose_theory.specs.Composed.{IsComposition}
use Rattle.wb_compose_theory.specs.Homes.{AreComposableApart, Home, IsListed, of, of_host, part_of}
use Rattle.wb_compose_theory.specs.Items.{IsKernelItemIn, IsValidItemIn, IsViablePrefixIn, SameKernelIn}
use Rattle.wb_compose_theory.specs.Marks.{IsMarked}
use Rattle.wb_compose_theory.specs.Numbered.{IsHostKernel}
use Rattle.wb_compose_theory.specs.Renamings.{Renaming, renamed, renamed_item}
use Rattle.wb_compose_theory.specs.Seams.{AreNumberings, IsNumbering}
use Rattle.wb_compose_theory.specs.Worlds.{World, both, hole, plus, union}
use Rattle.wb_compose_theory_grammar.proofs.CompositionLemmas.{numberings, united_composition}
use Rattle.wb_compose_theory_grammar.proofs.FactLemmas.{W}
use Rattle.wb_compose_theory_grammar.specs.Certificates.{AreCertified}
use Rattle.wb_compose_theory_grammar.specs.Cuts.{no_cut}
use Rattle.wb_compose_theory_grammar.specs.Numberings.{composition_of, cut_of, names_in, phi_of, up_of}
use Rattle.wb_compose_theory_grammar.specs.Pieces.{Piece}
use Rattle.wb_compose_theory_grammar.specs.UnitedWorlds.{united}
use Rattle.wb_compose_theory_kernels.proofs.NameLemmas.{item_into_union}
use Rattle.wb_compose_theory_kernels.proofs.HoleNames.{cut_is, hole_number, hole_production_number, hole_production_owned}
use Rattle.wb_compose_theory_kernels.proofs.NameLemmas.{names_at, numbering, union_names}
use Rattle.wb_compose_theory_kernels.proofs.WorldMoves.{Housed, housed, kept_same, some_kernel}
use Rattle.wb_compose_theory_kernels.proofs.HoleKernels.{hole_kernel}
use Rattle.wb_compose_theory_kernels.specs.Kernels.{AreKernelNumbers, HasNoHole, IsItemFrom, IsTaken, KernelNumbers}
use Rattle.wb_compose_theory_kernels.specs.Parts.{IsHole, grammar_at, into_union}
use Rattle.wb_compose_theory_kernels.proofs.PrefixNumbers.{prefix_number, viable_back, viable_there}

module _ (g : GrammarView) (extensible : List ℕ) (pieces : List Piece) (is : AreCertified g extensible pieces) where
  -- the world, the union's grammar, and how many extensions there are
  abbrev pub world : World
  world = W g extensible pieces

  abbrev pub whole : GrammarView
  whole = united g extensible pieces

  abbrev pub many : ℕ
  many = length pieces

  abbrev pub whole_names : Renaming
  whole_names = union_names g extensible pieces is.are_pieces

  abbrev pub home_names : Home → Renaming
  home_names home = names_at g extensible pieces is.are_pieces home

  composition : IsComposition world many (composition_of g extensible pieces)
  composition = united_composition g extensible pieces is

  pub marked : IsMarked world
  marked = composition.is_marked

  pub apart : AreComposableApart world many
  apart = composable_apart world many (composition_of g extensible pieces) composition

  pub of_whole : IsNumbering whole world (union many) whole_names
  of_whole = composition.of_union

  pub of_home : (home : Home) → IsListed many home →
      IsNumbering (grammar_at g extensible pieces home) world (part_of home) (home_names home)
  of_home home listed = numbering g extensible pieces is.are_pieces home listed

  -- prefixes with their names
  abbrev pub prefix_in : Home → List Symbol → List Symbol
  prefix_in home b = map (renamed (home_names home)) b

  abbrev pub whole_prefix : List Symbol → List Symbol
  whole_prefix p = map (renamed whole_names) p

  -- a kernel that the union has too has no item of a hole's production
  pub union_no_hole : (home : Home) → IsListed many home → (p b : List Symbol) →
      SameKernelIn world (union many) p (part_of home) (prefix_in home b) → HasNoHole g extensible pieces home b
  union_no_hole home listed p b same i at hole_is =
      let k = (same (renamed_item (home_names home) i)).1 (kernel_there (of_home home listed) b i at) in
      union_not_hole marked ((k.0).1) (hole_production_owned g extensible pieces is.are_pieces home i.production hole_is)

  -- one kernel in the world is one in the union's numbers
  pub items_there : (home : Home) → IsListed many home → (p b : List Symbol) →
      SameKernelIn world (union many) (whole_prefix p) (part_of home) (prefix_in home b) → (item : Item) →
      IsKernelItem whole p item ↔ IsItemFrom g extensible pieces home b item
  items_there home listed p b same item = (there, back)
    where
      there : IsKernelItem whole p item → IsItemFrom g extensible pieces home b item
      there k =
          let k' = (same (renamed_item whole_names item)).0 (kernel_there of_whole p item k) in
          let (i, i_is) = item_named (of_home home listed) ((k'.0).1) in
          let at = kernel_back (of_home home listed) b i (subst (IsKernelItemIn world (part_of home) (prefix_in home b)) i_is k') in
          let free = union_no_hole home listed (whole_prefix p) b same i at in (
            i,
            at,
            item_once of_whole item (renamed_item (into_union g extensible pieces home) i)
                (i_is ∙ sym (item_into_union g extensible pieces is.are_pieces home i free)),
          )

      back : IsItemFrom g extensible pieces home b item → IsKernelItem whole p item
      back (i, at, e) =
          let free = union_no_hole home listed (whole_prefix p) b same i at in
          let k = (same (renamed_item (home_names home) i)).1 (kernel_there (of_home home listed) b i at) in
          subst (IsKernelItem whole p) (sym e)
          (kernel_back of_whole p (renamed_item (into_union g extensible pieces home) i)
          (subst (IsKernelItemIn world (union many) (whole_prefix p))
          (sym (item_into_union g extensible pieces is.are_pieces home i free)) k))

  -- and back
  pub items_back : (home : Home) → IsListed many home → (p b : List Symbol) → HasNoHole g extensible pieces home b →
      ((item : Item) → IsKernelItem whole p item ↔ IsItemFrom g extensible pieces home b item) →
      SameKernelIn world (union many) (whole_prefix p) (part_of home) (prefix_in home b)
  items_back home listed p b free exact item' = (there, back)
    where
      there : IsKernelItemIn world (union many) (whole_prefix p) item' → IsKernelItemIn world (part_of home) (prefix_in home b) item'
      there k =
          let (item, item_is) = item_named of_whole ((k.0).1) in
          let at = kernel_back of_whole p item (subst (IsKernelItemIn world (union many) (whole_prefix p)) item_is k) in
          let (i, own, e) = (exact item).0 at in
          subst (IsKernelItemIn world (part_of home) (prefix_in home b))
          (sym (item_is ∙ (ap (renamed_item whole_names) e ∙ item_into_union g extensible pieces is.are_pieces home i (free i own))))
          (kernel_there (of_home home listed) b i own)

      back : IsKernelItemIn world (part_of home) (prefix_in home b) item' → IsKernelItemIn world (union many) (whole_prefix p) item'
      back k =
          let (i, i_is) = item_named (of_home home listed) ((k.0).1) in
          let at = kernel_back (of_home home listed) b i (subst (IsKernelItemIn world (part_of home) (prefix_in home b)) i_is k) in
          let mine = (exact (renamed_item (into_union g extensible pieces home) i)).1 (i, at, refl) in
          subst (IsKernelItemIn world (union many) (whole_prefix p))
          (sym (i_is ∙ sym (item_into_union g extensible pieces is.are_pieces home i (free i at))))
          (kernel_there of_whole p (renamed_item (into_union g extensible pieces home) i) mine)

  -- a symbol that is no hole isn't owned by the holes
  pub symbol_no_hole : (home : Home) (y : Symbol) → ¬ IsHole g extensible pieces home y →
      world.symbol_owner (renamed (home_names home) y) ≢ hole
  symbol_no_hole home (Terminal t) free owner = free (hole_number g extensible pieces is.are_pieces home t owner)
  symbol_no_hole home (Nonterminal a) free owner = marked.named.no_hole ((home_names home).nonterminal a) owner

  -- a kernel of the host with holes, and of it with an extension, is one in the world
  host_there : (e : ℕ) (x : Piece) → slice_get pieces e ≡ Some x → (b c : List Symbol) →
      IsHostKernel (with_holes_of g extensible) (with_holes_of x.grammar extensible) (up_of g x.grammar) b c →
      SameKernelIn world plus (prefix_in of_host c) (both e)
      (map (renamed (names_in g extensible pieces (cut_of g extensible pieces e x) 0)) b)
  host_there e x at b c h item' = (there, back)
    where
      seam : AreNumberings (with_holes_of g extensible) (with_holes_of x.grammar extensible) (up_of g x.grammar) (phi_of extensible x)
          world e (names_in g extensible pieces no_cut 0) (names_in g extensible pieces (cut_of g extensible pieces e x) 0)
      seam = numberings g extensible pieces is.are_pieces e x at

      there : IsKernelItemIn world plus (prefix_in of_host c) item' →
          IsKernelItemIn world (both e) (map (renamed (names_in g extensible pieces (cut_of g extensible pieces e x) 0)) b) item'
      there k =
          let (i, i_is) = item_named seam.of_host ((k.0).1) in
          let mine = kernel_back seam.of_host c i (subst (IsKernelItemIn world plus (prefix_in of_host c)) i_is k) in
          subst (IsKernelItemIn world (both e) (map (renamed (names_in g extensible pieces (cut_of g extensible pieces e x) 0)) b))
          (sym (i_is ∙ item_up seam i)) (kernel_there seam.of_both b (renamed_item (up_of g x.grammar) i) ((h.same i).0 mine))

      back : IsKernelItemIn world (both e) (map (renamed (names_in g extensible pieces (cut_of g extensible pieces e x) 0)) b) item' →
          IsKernelItemIn world plus (prefix_in of_host c) item'
      back k =
          let (item, item_is) = item_named seam.of_both ((k.0).1) in
          let mine = kernel_back seam.of_both b item
          (subst (IsKernelItemIn world (both e) (map (renamed (names_in g extensible pieces (cut_of g extensible pieces e x) 0)) b))
          item_is k) in
          let (i, i_is) = h.within item mine in
          subst (IsKernelItemIn world plus (prefix_in of_host c))
          (sym (item_is ∙
          (ap (renamed_item (names_in g extensible pieces (cut_of g extensible pieces e x) 0)) i_is ∙ sym (item_up seam i))))
          (kernel_there seam.of_host c i ((h.same i).1 (subst (IsKernelItem (with_holes_of x.grammar extensible) b) i_is mine)))

  module _ (numbers : KernelNumbers) (ok : AreKernelNumbers g extensible pieces numbers) where
    -- the prefix of a number, with its names
    abbrev pub prefix_at : Home → ℕ → List Symbol
    prefix_at home s = prefix_in home (numbers.prefix_of home s)

    -- the first numbers of an extension are the host's
    pub first_there : (e : ℕ) → e < many → (s : ℕ) → s < numbers.count of_host →
        SameKernelIn world plus (prefix_at of_host s) (both e) (prefix_at (of e) s)
    first_there e less s below =
        let (x, at) = at_within pieces e less in
        subst (λ (r : Renaming). SameKernelIn world plus (prefix_at of_host s) (both e) (map (renamed r) (numbers.prefix_of (of e) s)))
        (sym (ap (λ c. names_in g extensible pieces c 0) (cut_is g extensible pieces is.are_pieces e x at)))
        (host_there e x at (numbers.prefix_of (of e) s) (numbers.prefix_of of_host s) (ok.host_first e x s at below))

    -- what is taken is there
    pub taken_listed : (home : Home) (s : ℕ) → IsTaken g extensible pieces numbers home s → IsListed many home
    taken_listed of_host s k = tt
    taken_listed (of e) s k = k.0

    pub taken_below : (home : Home) (s : ℕ) → IsTaken g extensible pieces numbers home s → s < numbers.count home
    taken_below of_host s k = k.0
    taken_below (of e) s k = k.2

    -- a new kernel of an extension is none of the host with holes
    pub new_is_new : (e s : ℕ) → IsTaken g extensible pieces numbers (of e) s → (o : List Symbol) → IsViablePrefixIn world plus o →
        SameKernelIn world plus o (both e) (prefix_at (of e) s) → ⊥
    new_is_new e s (less, far, below) o viable same =
        let (b, b_is) = prefix_number (of_home of_host tt) o viable in
        let (s0, near, same0) = (ok.states of_host tt).all b
        (viable_back (of_home of_host tt) b (subst (IsViablePrefixIn world plus) b_is viable)) in
        let there : SameKernelIn world (both e) (prefix_at (of e) s0) (both e) (prefix_at (of e) s) =
        chain (flip (first_there e less s0 near))
        (chain (same_there (of_home of_host tt) (numbers.prefix_of of_host s0) b same0)
        (subst (λ z. SameKernelIn world plus z (both e) (prefix_at (of e) s)) b_is same)) in
        let more = ok.no_fewer e less in
        let one = (ok.states (of e) less).each_once s0 s (omega (arith, near, more)) below
        (same_back (of_home (of e) less) (numbers.prefix_of (of e) s0) (numbers.prefix_of (of e) s) there) in
        omega (arith, one, near, far)

    -- what is taken has no hole
    pub taken_no_hole : (home : Home) (s : ℕ) → IsTaken g extensible pieces numbers home s →
        HasNoHole g extensible pieces home (numbers.prefix_of home s)
    taken_no_hole of_host s k i at hole_is = k.1 i at hole_is
    taken_no_hole (of e) s k i at hole_is =
        let (o, viable, same) = hole_kernel marked apart (of e) k.0 (prefix_at (of e) s) (renamed_item (home_names (of e)) i)
        (kernel_there (of_home (of e) k.0) (numbers.prefix_of (of e) s) i at)
        (hole_production_owned g extensible pieces is.are_pieces (of e) i.production hole_is) in
        absurd (new_is_new e s k o viable same)

    -- a prefix of the union with the kernel of the number
    pub record TakenPrefix (home : Home) (s : ℕ) : Type 0 where
      pub prefix : List Symbol
      pub viable : IsViablePrefix whole prefix
      pub same : SameKernelIn world (union many) (whole_prefix prefix) (part_of home) (prefix_at home s)

    -- what is taken is of the union
    pub taken_prefix : (home : Home) (s : ℕ) → IsTaken g extensible pieces numbers home s → TakenPrefix home s
    taken_prefix home s k = go (some_kernel v)
      where
        listed : IsListed many home
        listed = taken_listed home s k

        own : IsViablePrefix (grammar_at g extensible pieces home) (numbers.prefix_of home s)
        own = (ok.states home listed).prefixes s (taken_below home s k)

        v : IsValidItemIn world (part_of home) (prefix_at home s) (renamed_item (home_names home) own.0)
            ((home_names home).terminal own.1)
        v = valid_there (of_home home listed) own.2

        go : (j : Item) × IsKernelItemIn world (part_of home) (prefix_at home s) j → TakenPrefix home s
        go (j, at) =
            let (i, i_is) = item_named (of_home home listed) ((at.0).1) in
            let mine = kernel_back (of_home home listed) (numbers.prefix_of home s) i
            (subst (IsKernelItemIn world (part_of home) (prefix_at home s)) i_is at) in
            let kept = kept_same marked apart home listed at
            (λ owner. taken_no_hole home s k i mine (hole_production_number g extensible pieces is.are_pieces home i.production
            (ap (λ z. world.production_owner z.production) (sym i_is) ∙ owner))) in
            let (p, p_is) = prefix_number of_whole (prefix_at home s) kept.0 in
            record {
              prefix = p;
              viable = viable_back of_whole p (subst (IsViablePrefixIn world (union many)) p_is kept.0);
              same = subst (λ z. SameKernelIn world (union many) z (part_of home) (prefix_at home s)) p_is kept.1;
            }

    -- a number that is taken, with the kernel of a prefix of the union
    pub record Chosen (p : List Symbol) : Type 0 where
      pub home : Home
      pub number : ℕ
      pub taken : IsTaken g extensible pieces numbers home number
      pub same : SameKernelIn world (union many) (whole_prefix p) (part_of home) (prefix_at home number)

    -- where a number of a certified grammar has the kernel, one that is taken has it
    chosen_host : (s : ℕ) → s < numbers.count of_host → (p : List Symbol) →
        SameKernelIn world (union many) (whole_prefix p) plus (prefix_at of_host s) → Chosen p
    chosen_host s below p same = record {
      home = of_host;
      number = s;
      taken = (below, union_no_hole of_host tt (whole_prefix p) (numbers.prefix_of of_host s) same);
      same = same;
    }

    pub chosen_at : (home : Home) → IsListed many home → (s : ℕ) → s < numbers.count home → (p : List Symbol) →
        SameKernelIn world (union many) (whole_prefix p) (part_of home) (prefix_at home s) → Chosen p
    chosen_at of_host listed s below p same = chosen_host s below p same
    chosen_at (of e) listed s below p same = elim (cases_lt s (numbers.count of_host)) [
      | inl near ↦ chosen_host s near p (chain same (flip (first_there e listed s near)))
      | inr far ↦ record { home = of e; number = s; taken = (listed, far, below); same = same }
    ]

    -- each prefix of the union has one
    pub chosen : (p : List Symbol) → IsViablePrefix whole p → Chosen p
    chosen p viable = go (housed marked apart (whole_prefix p) (viable_there of_whole p viable))
      where
        go : Housed world many (whole_prefix p) → Chosen p
        go h =
            let (b, b_is) = prefix_number (of_home h.home h.listed) h.other h.viable in
            let (s, below, same) = (ok.states h.home h.listed).all b
            (viable_back (of_home h.home h.listed) b (subst (IsViablePrefixIn world (part_of h.home)) b_is h.viable)) in
            chosen_at h.home h.listed s below p
            (chain (subst (λ z. SameKernelIn world (union many) (whole_prefix p) (part_of h.home) z) b_is h.same)
            (flip (same_there (of_home h.home h.listed) (numbers.prefix_of h.home s) b same)))
