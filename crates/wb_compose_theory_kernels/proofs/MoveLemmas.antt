-- A move of a certified grammar, from a kernel that the union takes, is one of the union.
use Rattle.std.proofs.Common.{◌++◌, ◌∙◌, ◌∷◌, ◌≡◌, List, Some, [], ap, slice_get, subst, sym, ℕ}
use Rattle.std.specs.Prelude.{◌↔◌, Contains}
use Rattle.std.proofs.lemmas.Option.{slice_get_within}
use Rattle.wb_base.specs.declared.symbol.Symbol.{Symbol}
use Rattle.wb_base.specs.declared.symbol.Symbol.TheVariants.{Terminal}
use Rattle.wb_base.specs.Grammar.{GrammarView}
use Rattle.wb_grammar_theory.specs.declared.item.Item.{Item}
use Rattle.wb_grammar_theory.specs.Items.{IsKernelItem, IsViablePrefix, advance, initial_item}
use Rattle.wb_lemmas.proofs.Places.{at_once}
use Rattle.wb_recheck_theory.specs.KernelLists.{IsKernelOf, IsMoveBetween}
use Rattle.wb_compose_theory.proofs.KernelLemmas.{chain, flip}
use Rattle.wb_compose_theory.proofs.NumberLemmas.{kernel_renamed, same_there}
use Rattle.wb_compose_theory.proofs.RenamingLemmas.{item_once, map_join}
use Rattle.wb_compose_theory.specs.Homes.{Home, IsListed, of, part_of}
use Rattle.wb_compose_theory.specs.Items.{IsKernelItemIn, IsViablePrefixIn, SameKernelIn}
use Rattle.wb_compose_theory.specs.Renamings.{renamed, renamed_item}
use Rattle.wb_compose_theory.specs.Worlds.{Has, union}
use Rattle.wb_compose_theory_grammar.specs.Certificates.{AreCertified}
use Rattle.wb_compose_theory_grammar.specs.Pieces.{Piece}
use Rattle.wb_compose_theory_kernels.proofs.NameLemmas.{item_into_union}
use Rattle.wb_compose_theory_kernels.proofs.HoleNames.{MarkerNames, hole_at_name, marker_names}
use Rattle.wb_compose_theory_kernels.proofs.NameLemmas.{symbol_into_union, terminal_into_union}
use Rattle.wb_compose_theory_kernels.proofs.NumberLemmas.{apart, home_names, items_back, items_there, many, marked}
use Rattle.wb_compose_theory_kernels.proofs.NumberLemmas.{of_home}
use Rattle.wb_compose_theory_kernels.proofs.NumberLemmas.{of_whole, prefix_at, prefix_in, symbol_no_hole, taken_listed}
use Rattle.wb_compose_theory_kernels.proofs.NumberLemmas.{taken_no_hole, taken_prefix, whole}
use Rattle.wb_compose_theory_kernels.proofs.PrefixNumbers.{viable_back, viable_there}
use Rattle.wb_compose_theory_kernels.proofs.NumberLemmas.{whole_names, whole_prefix, world}
use Rattle.wb_compose_theory_kernels.proofs.NumberLemmas.{TakenPrefix}
use Rattle.wb_compose_theory_kernels.proofs.WorldMoves.{over_across, over_along}
use Rattle.wb_compose_theory_kernels.proofs.HoleKernels.{marked_kernel}
use Rattle.wb_compose_theory_kernels.specs.Kernels.{AreKernelNumbers, IsFrom}
use Rattle.wb_compose_theory_kernels.specs.Kernels.{IsItemFrom, IsSplicedMove, IsTaken, KernelNumbers, LeadsAt, by_marker, by_symbol}
use Rattle.wb_compose_theory_kernels.specs.Parts.{IsHole, hole_at, into_union}

module _ (g : GrammarView) (extensible : List ℕ) (pieces : List Piece) (is : AreCertified g extensible pieces) where
  -- the names of a longer prefix
  pub whole_longer : (p : List Symbol) (x : Symbol) → whole_prefix g extensible pieces is (p ++ x ∷ [])
      ≡ whole_prefix g extensible pieces is p ++ renamed (whole_names g extensible pieces is) x ∷ []
  whole_longer p x = map_join (whole_names g extensible pieces is) p (x ∷ [])

  pub home_longer : (home : Home) (b : List Symbol) (y : Symbol) → prefix_in g extensible pieces is home (b ++ y ∷ [])
      ≡ prefix_in g extensible pieces is home b ++ renamed (home_names g extensible pieces is home) y ∷ []
  home_longer home b y = map_join (home_names g extensible pieces is home) b (y ∷ [])

  -- the item of a bridge with its dot after its marker, in the union's numbers
  abbrev bridge_item : ℕ → ℕ → Item
  bridge_item e q = renamed_item (into_union g extensible pieces (of e)) (advance (initial_item q))

  -- the kernel of the union after a marker
  pub after_marker : (e : ℕ) (x : Piece) (m a : ℕ) → MarkerNames g extensible pieces (is.are_pieces) e x m a →
      (p : List Symbol) (y : Symbol) →
      renamed (whole_names g extensible pieces is) y ≡ Terminal ((home_names g extensible pieces is (of e)).terminal m) →
      IsViablePrefixIn (world g extensible pieces is) (union (many g extensible pieces is))
      (whole_prefix g extensible pieces is p ++ Terminal ((home_names g extensible pieces is (of e)).terminal m) ∷ []) →
      (item : Item) → IsKernelItem (whole g extensible pieces is) (p ++ y ∷ []) item ↔ (item ≡ bridge_item e (x.bridge m))
  after_marker e x m a k p y y_is viable item = (there, back)
    where
      t : ℕ
      t = (home_names g extensible pieces is (of e)).terminal m

      long_is : whole_prefix g extensible pieces is (p ++ y ∷ []) ≡ whole_prefix g extensible pieces is p ++ Terminal t ∷ []
      long_is = whole_longer p y ∙ ap (λ z. whole_prefix g extensible pieces is p ++ z ∷ []) y_is

      name_is : renamed_item (whole_names g extensible pieces is) (bridge_item e (x.bridge m))
          ≡ advance (initial_item ((world g extensible pieces is).production_of t))
      name_is = item_into_union g extensible pieces is.are_pieces (of e) (advance (initial_item (x.bridge m))) k.no_hole_production ∙
          sym (ap (λ z. advance (initial_item z)) k.production)

      in_world : (j : Item) → IsKernelItemIn (world g extensible pieces is) (union (many g extensible pieces is))
          (whole_prefix g extensible pieces is p ++ Terminal t ∷ []) j
          ↔ (j ≡ advance (initial_item ((world g extensible pieces is).production_of t)))
      in_world j = marked_kernel (marked g extensible pieces is) (whole_prefix g extensible pieces is p) t a k.mark viable j

      numbers : IsKernelItem (whole g extensible pieces is) (p ++ y ∷ []) item ↔
          IsKernelItemIn (world g extensible pieces is) (union (many g extensible pieces is))
          (whole_prefix g extensible pieces is (p ++ y ∷ [])) (renamed_item (whole_names g extensible pieces is) item)
      numbers = kernel_renamed (of_whole g extensible pieces is) (p ++ y ∷ []) item

      there : IsKernelItem (whole g extensible pieces is) (p ++ y ∷ []) item → item ≡ bridge_item e (x.bridge m)
      there at = item_once (of_whole g extensible pieces is) item (bridge_item e (x.bridge m))
          ((in_world (renamed_item (whole_names g extensible pieces is) item)).0
          (subst (λ z. IsKernelItemIn (world g extensible pieces is) (union (many g extensible pieces is)) z
          (renamed_item (whole_names g extensible pieces is) item)) long_is (numbers.0 at)) ∙ sym name_is)

      back : item ≡ bridge_item e (x.bridge m) → IsKernelItem (whole g extensible pieces is) (p ++ y ∷ []) item
      back item_is = numbers.1
          (subst (λ z. IsKernelItemIn (world g extensible pieces is) (union (many g extensible pieces is)) z
          (renamed_item (whole_names g extensible pieces is) item)) (sym long_is)
          ((in_world (renamed_item (whole_names g extensible pieces is) item)).1
          (ap (renamed_item (whole_names g extensible pieces is)) item_is ∙ name_is)))

  module _ (n : KernelNumbers) (ok : AreKernelNumbers g extensible pieces n) (kernels : List (List Item)) where
    -- a prefix of the union, and a number with its kernel
    abbrev pub IsSameAt : List Symbol → Home → ℕ → Type 0
    IsSameAt p home s = SameKernelIn (world g extensible pieces is) (union (many g extensible pieces is))
        (whole_prefix g extensible pieces is p) (part_of home) (prefix_at g extensible pieces is n ok home s)

    -- a list of the number is one of the prefix
    pub kernel_of : (u : ℕ) (home : Home) (s : ℕ) (p : List Symbol) → IsListed (many g extensible pieces is) home →
        IsFrom g extensible pieces n kernels u home s → IsSameAt p home s → IsKernelOf (whole g extensible pieces is) kernels u p
    kernel_of u home s p listed from same =
        let items = items_there g extensible pieces is home listed p (n.prefix_of home s) same in
        record {
          kernel = from.kernel;
          at = from.at;
          exact = λ item. ((λ c. (items item).1 ((from.exact item).0 c)), (λ k. (from.exact item).1 ((items item).0 k)));
        }

    -- a list of the prefix is one of the number
    pub from_of : (u : ℕ) (home : Home) (s : ℕ) (p : List Symbol) → IsListed (many g extensible pieces is) home →
        IsKernelOf (whole g extensible pieces is) kernels u p → IsSameAt p home s → IsFrom g extensible pieces n kernels u home s
    from_of u home s p listed of_prefix same =
        let items = items_there g extensible pieces is home listed p (n.prefix_of home s) same in
        record {
          kernel = of_prefix.kernel;
          at = of_prefix.at;
          exact = λ item. ((λ c. (items item).0 ((of_prefix.exact item).0 c)), (λ k. (of_prefix.exact item).1 ((items item).1 k)));
        }

    -- a list that is of both says that the kernels are the same
    pub same_of : (u : ℕ) (home : Home) (s : ℕ) (p : List Symbol) → IsTaken g extensible pieces n home s →
        IsFrom g extensible pieces n kernels u home s → IsKernelOf (whole g extensible pieces is) kernels u p → IsSameAt p home s
    same_of u home s p taken from of_prefix =
        items_back g extensible pieces is home (taken_listed g extensible pieces is n ok home s taken) p (n.prefix_of home s)
        (taken_no_hole g extensible pieces is n ok home s taken) (λ item. (there item, back item))
      where
        one : of_prefix.kernel ≡ from.kernel
        one = at_once kernels u of_prefix.kernel from.kernel of_prefix.at from.at

        there : (item : Item) → IsKernelItem (whole g extensible pieces is) p item →
            IsItemFrom g extensible pieces home (n.prefix_of home s) item
        there item k = (from.exact item).0 (subst (λ z. Contains z item) one ((of_prefix.exact item).1 k))

        back : (item : Item) → IsItemFrom g extensible pieces home (n.prefix_of home s) item →
            IsKernelItem (whole g extensible pieces is) p item
        back item k = (of_prefix.exact item).0 (subst (λ z. Contains z item) (sym one) ((from.exact item).1 k))

    -- where a symbol that is no hole leads from a number, its name leads in the union
    pub record Further (p : List Symbol) (x : Symbol) (home : Home) (next : ℕ) : Type 0 where
      pub viable : IsViablePrefix (whole g extensible pieces is) (p ++ x ∷ [])
      pub same : IsSameAt (p ++ x ∷ []) home next

    pub further : (p : List Symbol) (x : Symbol) (home : Home) (s : ℕ) (y : Symbol) (next : ℕ) →
        IsListed (many g extensible pieces is) home →
        IsSameAt p home s → LeadsAt g extensible pieces n home s y next → ¬ IsHole g extensible pieces home y →
        x ≡ renamed (into_union g extensible pieces home) y → Further p x home next
    further p x home s y next listed same (below, more, viable, to) free x_is =
        go (over_along (marked g extensible pieces is) (apart g extensible pieces is) home listed (whole_prefix g extensible pieces is p)
        (prefix_at g extensible pieces is n ok home s) (renamed (home_names g extensible pieces is home) y) same
        (subst (IsViablePrefixIn (world g extensible pieces is) (part_of home)) (home_longer home (n.prefix_of home s) y)
        (viable_there (of_home g extensible pieces is home listed) (n.prefix_of home s ++ y ∷ []) viable))
        (symbol_no_hole g extensible pieces is home y free))
      where
        long_is : whole_prefix g extensible pieces is (p ++ x ∷ [])
            ≡ whole_prefix g extensible pieces is p ++ renamed (home_names g extensible pieces is home) y ∷ []
        long_is = whole_longer p x ∙ ap (λ z. whole_prefix g extensible pieces is p ++ z ∷ [])
            (ap (renamed (whole_names g extensible pieces is)) x_is ∙ symbol_into_union g extensible pieces is.are_pieces home y free)

        go : IsViablePrefixIn (world g extensible pieces is) (union (many g extensible pieces is))
            (whole_prefix g extensible pieces is p ++ renamed (home_names g extensible pieces is home) y ∷ []) ×
            SameKernelIn (world g extensible pieces is) (union (many g extensible pieces is))
            (whole_prefix g extensible pieces is p ++ renamed (home_names g extensible pieces is home) y ∷ []) (part_of home)
            (prefix_at g extensible pieces is n ok home s ++ renamed (home_names g extensible pieces is home) y ∷ []) →
            Further p x home next
        go (v, k) = record {
          viable = viable_back (of_whole g extensible pieces is) (p ++ x ∷ [])
              (subst (IsViablePrefixIn (world g extensible pieces is) (union (many g extensible pieces is))) (sym long_is) v);
          same = chain
              (subst (λ z. SameKernelIn (world g extensible pieces is) (union (many g extensible pieces is)) z (part_of home)
              (prefix_in g extensible pieces is home (n.prefix_of home s ++ y ∷ []))) (sym long_is)
              (subst (λ z. SameKernelIn (world g extensible pieces is) (union (many g extensible pieces is))
              (whole_prefix g extensible pieces is p ++ renamed (home_names g extensible pieces is home) y ∷ []) (part_of home) z)
              (sym (home_longer home (n.prefix_of home s) y)) k))
              (flip (same_there (of_home g extensible pieces is home listed) (n.prefix_of home next) (n.prefix_of home s ++ y ∷ []) to));
        }

    -- where a hole leads from a number, each marker leads in the union
    marker_viable : (p : List Symbol) (home : Home) (s next a e m : ℕ) (x : Piece) → IsListed (many g extensible pieces is) home →
        IsSameAt p home s → LeadsAt g extensible pieces n home s (Terminal (hole_at g extensible pieces home a)) next →
        slice_get pieces e ≡ Some x → MarkerNames g extensible pieces is.are_pieces e x m a →
        IsViablePrefixIn (world g extensible pieces is) (union (many g extensible pieces is))
        (whole_prefix g extensible pieces is p ++ Terminal ((home_names g extensible pieces is (of e)).terminal m) ∷ [])
    marker_viable p home s next a e m x listed same (below, more, viable, to) at k =
        over_across (marked g extensible pieces is) (apart g extensible pieces is) home listed (whole_prefix g extensible pieces is p)
        (prefix_at g extensible pieces is n ok home s) ((home_names g extensible pieces is (of e)).terminal m) a same k.mark
        (subst (Has (union (many g extensible pieces is))) (sym k.owner) (slice_get_within pieces e x at))
        (subst (IsViablePrefixIn (world g extensible pieces is) (part_of home))
        (home_longer home (n.prefix_of home s) (Terminal (hole_at g extensible pieces home a)) ∙
        ap (λ z. prefix_at g extensible pieces is n ok home s ++ Terminal z ∷ []) (hole_at_name g extensible pieces is.are_pieces home a))
        (viable_there (of_home g extensible pieces is home listed)
        (n.prefix_of home s ++ Terminal (hole_at g extensible pieces home a) ∷ []) viable))

    -- the name of a marker in the union
    marker_symbol : (e m a : ℕ) (x : Piece) (y : Symbol) → MarkerNames g extensible pieces is.are_pieces e x m a →
        y ≡ Terminal ((into_union g extensible pieces (of e)).terminal m) →
        renamed (whole_names g extensible pieces is) y ≡ Terminal ((home_names g extensible pieces is (of e)).terminal m)
    marker_symbol e m a x y k y_is = ap (renamed (whole_names g extensible pieces is)) y_is ∙
        ap Terminal (terminal_into_union g extensible pieces is.are_pieces (of e) m k.no_hole)

    -- a move of a number that is taken is one of the union
    pub move_there : (u : ℕ) (home : Home) (s : ℕ) (x : Symbol) (v : ℕ) → IsTaken g extensible pieces n home s →
        IsFrom g extensible pieces n kernels u home s → IsSplicedMove g extensible pieces n kernels home s x v →
        IsMoveBetween (whole g extensible pieces is) kernels u x v
    move_there u home s x v taken from move = go (taken_prefix g extensible pieces is n ok home s taken) move
      where
        listed : IsListed (many g extensible pieces is) home
        listed = taken_listed g extensible pieces is n ok home s taken

        go : TakenPrefix g extensible pieces is n ok home s →
            IsSplicedMove g extensible pieces n kernels home s x v → IsMoveBetween (whole g extensible pieces is) kernels u x v
        go t (by_symbol y next leads free x_is to) =
            let f = further t.prefix x home s y next listed t.same leads free x_is in
            record {
              prefix = t.prefix;
              viable = f.viable;
              before = kernel_of u home s t.prefix listed from t.same;
              after = kernel_of v home next (t.prefix ++ x ∷ []) listed to f.same;
            }
        go t (by_marker a next e m piece leads at mark x_is to) =
            let k = marker_names g extensible pieces is.are_pieces e piece m a at mark in
            let viable = marker_viable t.prefix home s next a e m piece listed t.same leads at k in
            let y_is = marker_symbol e m a piece x k x_is in
            let items = after_marker e piece m a k t.prefix x y_is viable in
            record {
              prefix = t.prefix;
              viable = viable_back (of_whole g extensible pieces is) (t.prefix ++ x ∷ [])
                  (subst (IsViablePrefixIn (world g extensible pieces is) (union (many g extensible pieces is)))
                  (sym (whole_longer t.prefix x ∙ ap (λ z. whole_prefix g extensible pieces is t.prefix ++ z ∷ []) y_is)) viable);
              before = kernel_of u home s t.prefix listed from t.same;
              after = record {
                kernel = to.kernel;
                at = to.at;
                exact = λ item. ((λ c. (items item).1 ((to.exact item).0 c)), (λ i. (to.exact item).1 ((items item).0 i)));
              };
            }
