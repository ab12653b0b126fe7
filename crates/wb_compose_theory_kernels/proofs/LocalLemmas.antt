-- The lookaheads of a union are those of the certified grammars with the kernel.
use Rattle.std.proofs.Common.{◌+◌, ◌-◌, ◌<◌, ◌∙◌, ◌≡◌, List, Some, ap, arith, inl, inr, length, slice_get, subst, ℕ}
use Rattle.std.proofs.lemmas.Bool.{cases_lt}
use Rattle.wb_base.specs.declared.symbol.Symbol.{Symbol}
use Rattle.wb_base.specs.Grammar.{GrammarView}
use Rattle.wb_grammar_theory.specs.declared.item.Item.{Item}
use Rattle.wb_grammar_theory.specs.Items.{HasItem, IsViablePrefix}
use Rattle.wb_grammar_theory.specs.Lookaheads.{IsLookahead}
use Rattle.wb_lemmas.proofs.Places.{at_within}
use Rattle.wb_compose_theory.proofs.KernelLemmas.{chain, flip}
use Rattle.wb_compose_theory.proofs.LookaheadLemmas.{home_of, host_lookaheads, lookaheads}
use Rattle.wb_compose_theory.proofs.NumberLemmas.{kernel_there, lookahead_renamed, same_there}
use Rattle.wb_compose_theory.proofs.RenamingLemmas.{valid_there}
use Rattle.wb_compose_theory.specs.Homes.{Home, IsListed, of, of_host, part_of}
use Rattle.wb_compose_theory.specs.Items.{IsValidItemIn, SameKernelIn}
use Rattle.wb_compose_theory.specs.Lookaheads.{IsLookaheadIn}
use Rattle.wb_compose_theory.specs.Marks.{phi}
use Rattle.wb_compose_theory.specs.Renamings.{renamed_item}
use Rattle.wb_compose_theory.specs.Worlds.{Part, World, extension, union}
use Rattle.wb_compose_theory_grammar.proofs.FactLemmas.{size_at}
use Rattle.wb_compose_theory_grammar.proofs.PlaceLemmas.{place_extension, spread_middle}
use Rattle.wb_compose_theory_grammar.specs.Certificates.{AreCertified}
use Rattle.wb_compose_theory_grammar.specs.Cuts.{Cut}
use Rattle.wb_compose_theory_grammar.specs.Owners.{owner_at, past_production_owner}
use Rattle.wb_compose_theory_grammar.specs.Pieces.{Piece}
use Rattle.wb_compose_theory_grammar.specs.Places.{total_of}
use Rattle.wb_compose_theory_grammar.specs.Unions.{added_productions}
use Rattle.wb_compose_theory_grammar.specs.UnitedWorlds.{production_sizes}
use Rattle.wb_compose_theory_kernels.proofs.HoleNames.{cut_is}
use Rattle.wb_compose_theory_kernels.proofs.NumberLemmas.{apart, first_there, home_names, items_back, items_there, many, marked, of_home}
use Rattle.wb_compose_theory_kernels.proofs.NumberLemmas.{of_whole, whole_names}
use Rattle.wb_compose_theory_kernels.proofs.NumberLemmas.{prefix_in, union_no_hole}
use Rattle.wb_compose_theory_kernels.proofs.PrefixNumbers.{prefix_number}
use Rattle.wb_compose_theory_kernels.proofs.NumberLemmas.{whole, whole_prefix, world}
use Rattle.wb_compose_theory_kernels.proofs.PrefixNumbers.{viable_back}
use Rattle.wb_compose_theory_kernels.proofs.WorldMoves.{some_kernel}
use Rattle.wb_compose_theory_kernels.specs.Kernels.{AreKernelNumbers, HasOwnItem, IsTaken, KernelNumbers}
use Rattle.wb_compose_theory_kernels.specs.Lookaheads.{AreLookaheadsLocal, AreLookaheadsTaken, HasKernelOf, HasLocalLookaheads}
use Rattle.wb_compose_theory_kernels.specs.Lookaheads.{IsLookaheadFrom}
use Rattle.wb_compose_theory_kernels.specs.Parts.{IsOwnProduction, cut_at, grammar_at}
use Rattle.wb_compose_theory_kernels.proofs.LookaheadLemmas.{FromPart, IsSameAt, from_part, to_part}
use Rattle.wb_compose_theory_kernels.proofs.LookaheadLemmas.{FromPart, IsSameAt, from_part, to_part}

module _ (g : GrammarView) (extensible : List ℕ) (pieces : List Piece) (is : AreCertified g extensible pieces) where
  abbrev wo : World
  wo = world g extensible pieces is

  abbrev all : Part
  all = union (many g extensible pieces is)

  -- the names of an item and of a terminal of the union
  abbrev item_name : Item → Item
  item_name i = renamed_item (whole_names g extensible pieces is) i

  abbrev terminal_name : ℕ → ℕ
  terminal_name t = (whole_names g extensible pieces is).terminal t

  -- a lookahead of the union, from one of a certified grammar
  from_there : (p : List Symbol) (i : Item) (t : ℕ) → HasItem (whole g extensible pieces is) p i → FromPart g extensible pieces is p i t →
      IsLookahead (whole g extensible pieces is) p i t
  from_there p i t (v, valid) k =
      (lookahead_renamed (of_whole g extensible pieces is) p i t).1
      ((lookaheads wo (many g extensible pieces is) (marked g extensible pieces is) (apart g extensible pieces is)
      (whole_prefix g extensible pieces is p) (item_name i)
      (terminal_name v, valid_there (of_whole g extensible pieces is) valid) (terminal_name t)).1 (k.named, k.part))

  -- and back
  there_from : (p : List Symbol) (i : Item) (t : ℕ) → HasItem (whole g extensible pieces is) p i →
      IsLookahead (whole g extensible pieces is) p i t → FromPart g extensible pieces is p i t
  there_from p i t (v, valid) looks =
      let (named, part) = (lookaheads wo (many g extensible pieces is) (marked g extensible pieces is) (apart g extensible pieces is)
      (whole_prefix g extensible pieces is p) (item_name i)
      (terminal_name v, valid_there (of_whole g extensible pieces is) valid) (terminal_name t)).0
      ((lookahead_renamed (of_whole g extensible pieces is) p i t).0 looks) in
      record { named = named; part = part }

  -- at a kernel of the host
  at_host : (p : List Symbol) (i : Item) (b : List Symbol) (t : ℕ) → HasItem (whole g extensible pieces is) p i →
      IsSameAt g extensible pieces is p of_host b →
      FromPart g extensible pieces is p i t → IsLookaheadFrom g extensible pieces of_host b i t
  at_host p i b t has same k =
      let h = (host_lookaheads wo (many g extensible pieces is) (marked g extensible pieces is) (apart g extensible pieces is)
      (whole_prefix g extensible pieces is p) (prefix_in g extensible pieces is of_host b) (flip same) (item_name i)
      (terminal_name t)).0 k.part in
      from_part g extensible pieces is of_host tt b p i t has k.named h.item h.stands h.lookahead

  -- an own production of an extension is owned so
  own_owner : (e : ℕ) → e < many g extensible pieces is → (p : ℕ) → IsOwnProduction g extensible pieces (of e) p →
      wo.production_owner ((home_names g extensible pieces is (of e)).production p) ≡ extension e
  own_owner e less p (far, below) = go (at_within pieces e less)
    where
      go : (x : Piece) × (slice_get pieces e ≡ Some x) →
          wo.production_owner ((home_names g extensible pieces is (of e)).production p) ≡ extension e
      go (x, at) =
          let size = ap (λ (c : Cut). c.productions.size) (cut_is g extensible pieces is.are_pieces e x at) in
          let start = ap (λ (c : Cut). c.productions.before) (cut_is g extensible pieces is.are_pieces e x at) in
          let inside : p - length g.productions < added_productions g x.grammar = omega (arith, far, below, size) in
          let name_is = spread_middle (length g.productions) (cut_at g extensible pieces (of e)).productions.before
          (cut_at g extensible pieces (of e)).productions.size (total_of (production_sizes g extensible pieces) + 0) p far below in
          ap (owner_at (past_production_owner extensible))
          (place_extension (length g.productions) (production_sizes g extensible pieces) e (added_productions g x.grammar)
          (p - length g.productions) ((home_names g extensible pieces is (of e)).production p)
          (size_at g extensible pieces (added_productions g) e x at) inside (name_is ∙ (omega (arith, far, start))))

  -- a kernel with an item of an extension's own is of that extension alone
  pub one_home : (p : List Symbol) (e : ℕ) (b : List Symbol) → e < many g extensible pieces is →
      IsSameAt g extensible pieces is p (of e) b →
      HasOwnItem g extensible pieces (of e) b → (home : Home) (other : List Symbol) →
      SameKernelIn wo all (whole_prefix g extensible pieces is p) (part_of home) other → home ≡ of e
  one_home p e b less same (item, at, own) home other there =
      home_of (marked g extensible pieces is) (whole_prefix g extensible pieces is p) e
      (renamed_item (home_names g extensible pieces is (of e)) item)
      ((same (renamed_item (home_names g extensible pieces is (of e)) item)).1
      (kernel_there (of_home g extensible pieces is (of e) less) b item at))
      (own_owner e less item.production own) home other there

  -- at such a kernel
  at_extension : (p : List Symbol) (i : Item) (e : ℕ) (b : List Symbol) (t : ℕ) → e < many g extensible pieces is →
      HasItem (whole g extensible pieces is) p i → IsSameAt g extensible pieces is p (of e) b → HasOwnItem g extensible pieces (of e) b →
      FromPart g extensible pieces is p i t → IsLookaheadFrom g extensible pieces (of e) b i t
  at_extension p i e b t less has same own k = go k.part.home
      (one_home p e b less same own k.part.home k.part.other k.part.same) k.part.other k.part.same k.part.lookahead
    where
      go : (home : Home) → home ≡ of e → (other : List Symbol) →
          SameKernelIn wo all (whole_prefix g extensible pieces is p) (part_of home) other →
          IsLookaheadIn wo (part_of home) other k.part.item (phi wo (terminal_name t)) → IsLookaheadFrom g extensible pieces (of e) b i t
      go home home_is other there (o, same_o, v) =
          from_part g extensible pieces is (of e) less b p i t has k.named k.part.item k.part.stands (
            o,
            chain (flip same)
                (chain (subst (λ z. SameKernelIn wo all (whole_prefix g extensible pieces is p) (part_of z) other) home_is there)
                (subst (λ z. SameKernelIn wo (part_of z) other (part_of z) o) home_is same_o)),
            subst (λ z. IsValidItemIn wo (part_of z) o k.part.item (phi wo (terminal_name t))) home_is v,
          )

  -- a kernel in the union's numbers is one in the world
  same_at : (p : List Symbol) (home : Home) (b : List Symbol) → HasKernelOf g extensible pieces p home b →
      IsSameAt g extensible pieces is p home b
  same_at p home b k = items_back g extensible pieces is home k.listed p b k.no_hole k.items

  -- and back
  kernel_at : (p : List Symbol) (home : Home) (b : List Symbol) → IsListed (many g extensible pieces is) home →
      IsSameAt g extensible pieces is p home b →
      HasKernelOf g extensible pieces p home b
  kernel_at p home b listed same = record {
    listed = listed;
    no_hole = union_no_hole g extensible pieces is home listed (whole_prefix g extensible pieces is p) b same;
    items = items_there g extensible pieces is home listed p b same;
  }

  -- each lookahead comes from some certified grammar
  anywhere : (p : List Symbol) (i : Item) (t : ℕ) → HasItem (whole g extensible pieces is) p i → FromPart g extensible pieces is p i t →
      (home : Home) × (b : List Symbol) × IsListed (many g extensible pieces is) home × IsSameAt g extensible pieces is p home b ×
      IsLookaheadFrom g extensible pieces home b i t
  anywhere p i t has k = go k.part.lookahead
    where
      home : Home
      home = k.part.home

      go : IsLookaheadIn wo (part_of home) k.part.other k.part.item (phi wo (terminal_name t)) →
          (home : Home) × (b : List Symbol) × IsListed (many g extensible pieces is) home × IsSameAt g extensible pieces is p home b ×
          IsLookaheadFrom g extensible pieces home b i t
      go (o, same, v) =
          let (j, at) = some_kernel v in
          let ((u, v'), kind) = (same j).1 at in
          let (b, b_is) = prefix_number (of_home g extensible pieces is home k.part.listed) k.part.other (j, u, v') in (
            home,
            b,
            k.part.listed,
            subst (λ z. SameKernelIn wo all (whole_prefix g extensible pieces is p) (part_of home) z) b_is k.part.same,
            from_part g extensible pieces is home k.part.listed b p i t has k.named k.part.item k.part.stands
                (o, subst (λ z. SameKernelIn wo (part_of home) z (part_of home) o) b_is same, v),
          )

  -- the lookaheads of an item of the union
  local : (p : List Symbol) (i : Item) → HasItem (whole g extensible pieces is) p i → HasLocalLookaheads g extensible pieces p i
  local p i has = record {
    at_host = λ b k t. (
      (λ looks. at_host p i b t has (same_at p of_host b k) (there_from p i t has looks)),
      (λ from. from_there p i t has (to_part g extensible pieces is of_host tt b p i t (same_at p of_host b k) from)),
    );
    at_extension = λ e b k own t. (
      (λ looks. at_extension p i e b t k.listed has (same_at p (of e) b k) own (there_from p i t has looks)),
      (λ from. from_there p i t has (to_part g extensible pieces is (of e) k.listed b p i t (same_at p (of e) b k) from)),
    );
    anywhere = λ t. (
      (λ looks. (let (home, b, listed, same, from) = anywhere p i t has (there_from p i t has looks) in
          (home, b, kernel_at p home b listed same, from))),
      (λ x. (let (home, b, k, from) =
          x in from_there p i t has (to_part g extensible pieces is home k.listed b p i t (same_at p home b k) from))),
    );
  }

  module _ (n : KernelNumbers) (ok : AreKernelNumbers g extensible pieces n) where
    -- a number that is taken, from which a lookahead comes
    abbrev IsFromTaken : List Symbol → Item → ℕ → Type 0
    IsFromTaken p i t = (home : Home) × (s : ℕ) × IsTaken g extensible pieces n home s ×
        HasKernelOf g extensible pieces p home (n.prefix_of home s) × IsLookaheadFrom g extensible pieces home (n.prefix_of home s) i t

    -- each lookahead comes from one
    from_taken : (p : List Symbol) (i : Item) (t : ℕ) → HasItem (whole g extensible pieces is) p i →
        FromPart g extensible pieces is p i t → IsFromTaken p i t
    from_taken p i t has k = go (anywhere p i t has k)
      where
        host_one : (s : ℕ) → s < n.count of_host → IsSameAt g extensible pieces is p of_host (n.prefix_of of_host s) → IsFromTaken p i t
        host_one s below same = (
          of_host,
          s,
          (below, union_no_hole g extensible pieces is of_host tt (whole_prefix g extensible pieces is p) (n.prefix_of of_host s) same),
          kernel_at p of_host (n.prefix_of of_host s) tt same,
          at_host p i (n.prefix_of of_host s) t has same k,
        )

        numbered : (home : Home) → IsListed (many g extensible pieces is) home → (s : ℕ) → s < n.count home →
            IsSameAt g extensible pieces is p home (n.prefix_of home s) →
            IsLookaheadFrom g extensible pieces home (n.prefix_of home s) i t → IsFromTaken p i t
        numbered of_host listed s below same from = host_one s below same
        numbered (of e) listed s below same from = elim (cases_lt s (n.count of_host)) [
          | inl near ↦ host_one s near (chain same (flip (first_there g extensible pieces is n ok e listed s near)))
          | inr far ↦ (of e, s, (listed, far, below), kernel_at p (of e) (n.prefix_of (of e) s) listed same, from)
        ]

        go : (home : Home) × (b : List Symbol) × IsListed (many g extensible pieces is) home × IsSameAt g extensible pieces is p home b ×
            IsLookaheadFrom g extensible pieces home b i t → IsFromTaken p i t
        go (home, b, listed, same, from) =
            let (j, u, v) = own_viable home b listed same in
            let (s, below, to) = (ok.states home listed).all b (j, u, v) in
            let (o, same_o, looks) = from.lookahead in
            numbered home listed s below
            (chain same (flip (same_there (of_home g extensible pieces is home listed) (n.prefix_of home s) b to)))
            (record {
              own = from.own;
              terminal = from.terminal;
              stands = from.stands;
              becomes = from.becomes;
              lookahead = (o, (λ item. ((λ z. (same_o item).0 ((to item).0 z)), (λ z. (to item).1 ((same_o item).1 z)))), looks);
            })
          where
            own_viable : (home : Home) (b : List Symbol) → IsListed (many g extensible pieces is) home →
                IsSameAt g extensible pieces is p home b →
                IsViablePrefix (grammar_at g extensible pieces home) b
            own_viable home b listed same =
                let (v, valid) = has in
                let (j, at) = some_kernel (valid_there (of_whole g extensible pieces is) valid) in
                let ((u, v'), kind) = (same j).0 at in
                viable_back (of_home g extensible pieces is home listed) b (j, u, v')

    -- by numbers
    taken : AreLookaheadsTaken g extensible pieces n
    taken p i has t = ((λ looks. from_taken p i t has (there_from p i t has looks)), back)
      where
        back : IsFromTaken p i t → IsLookahead (whole g extensible pieces is) p i t
        back (home, s, picked, k, from) =
            from_there p i t has
            (to_part g extensible pieces is home k.listed (n.prefix_of home s) p i t (same_at p home (n.prefix_of home s) k) from)

-- lookaheads are local
pub are_local : (g : GrammarView) (extensible : List ℕ) (pieces : List Piece) → AreCertified g extensible pieces →
    AreLookaheadsLocal g extensible pieces
are_local g extensible pieces is p i has = local g extensible pieces is p i has

-- by numbers of kernels
pub are_taken : (g : GrammarView) (extensible : List ℕ) (pieces : List Piece) (n : KernelNumbers) → AreCertified g extensible pieces →
    AreKernelNumbers g extensible pieces n → AreLookaheadsTaken g extensible pieces n
are_taken g extensible pieces n is ok p i has t = taken g extensible pieces is n ok p i has t
