-- Where the kernels of certified grammars lead, in the union, in an order or not.
use Rattle.std.proofs.Common.{◌++◌, ◌+◌, ◌-◌, ◌<◌, ◌∙◌, ◌∷◌, ◌≡◌, List, [], ap}
use Rattle.std.proofs.Common.{arith, drop, inl, inr, refl, subst, sym, ℕ}
use Rattle.wb_lemmas.proofs.Places.{at_within}
use Rattle.wb_base.specs.declared.symbol.Symbol.{Symbol}
use Rattle.wb_base.specs.declared.symbol.Symbol.TheVariants.{Nonterminal, Terminal}
use Rattle.wb_base.specs.Grammar.{GrammarView}
use Rattle.wb_grammar_theory.specs.declared.item.Item.{Item}
use Rattle.wb_grammar_theory.specs.Items.{advance}
use Rattle.wb_recheck_theory.specs.KernelLists.{IsMoveBetween}
use Rattle.wb_compose_theory.proofs.KernelLemmas.{Moved, advanced, chain, flip, moved_from}
use Rattle.wb_compose_theory.proofs.MarkLemmas.{mark_opens}
use Rattle.wb_compose_theory.proofs.NumberLemmas.{item_named, kernel_back, kernel_there}
use Rattle.wb_compose_theory.proofs.RenamingLemmas.{valid_there}
use Rattle.wb_compose_theory.specs.Homes.{Home, IsListed, of, of_host, part_of}
use Rattle.wb_compose_theory.specs.Items.{IsKernelItemIn, IsValidItemIn, IsViablePrefixIn, SameKernelIn, after_dot_in, close, move, start}
use Rattle.wb_compose_theory.specs.Items.{start_item_in}
use Rattle.wb_compose_theory.specs.Marks.{IsMarked}
use Rattle.wb_compose_theory.specs.Renamings.{renamed, renamed_item}
use Rattle.wb_compose_theory.specs.Worlds.{Part, World, hole, on, plus, top, union}
use Rattle.wb_compose_theory_grammar.proofs.SymbolLemmas.{hole_terminal}
use Rattle.wb_compose_theory_grammar.specs.Certificates.{AreCertified}
use Rattle.wb_compose_theory_grammar.specs.Pieces.{Piece}
use Rattle.wb_compose_theory_kernels.proofs.HoleKernels.{marked_kernel}
use Rattle.wb_compose_theory_kernels.proofs.HoleNames.{hole_name, hole_owned, hole_production_number, hole_production_owned}
use Rattle.wb_compose_theory_kernels.proofs.MoveLemmas.{Further, from_of, further, home_longer, kernel_of}
use Rattle.wb_compose_theory_kernels.proofs.NumberLemmas.{TakenPrefix, apart, first_there, home_names, many, marked, of_home, of_whole}
use Rattle.wb_compose_theory_kernels.proofs.NumberLemmas.{prefix_at, prefix_in, union_no_hole, whole, whole_prefix, world}
use Rattle.wb_compose_theory_kernels.proofs.PrefixNumbers.{prefix_number, viable_back, viable_there}
use Rattle.wb_compose_theory_kernels.proofs.WorldMoves.{AtHole, at_hole, before, kept_same, some_kernel}
use Rattle.wb_compose_theory_kernels.specs.Kernels.{AreKernelNumbers, HasNoHole, IsFrom, KernelNumbers, LeadsAt}
use Rattle.wb_compose_theory_kernels.specs.Parts.{IsHole, cut_at, into_union}

-- where no kernel item has a symbol after its dot, no item has
dead_end : {w : World} {part : Part} {prefix : List Symbol} →
    ((j : Item) → IsKernelItemIn w part prefix j → after_dot_in w j ≡ []) → {i : Item} {t : ℕ} → IsValidItemIn w part prefix i t →
    (x : Symbol) (rest : List Symbol) → after_dot_in w i ≡ x ∷ rest → ⊥
dead_end {w} ends start x rest is =
    let f : [] ≡ x ∷ rest = sym (ends (start_item_in w) ((w.end_terminal, start), inr (refl, refl))) ∙ is in cc
dead_end ends (close item t b more q u v opening rule left f) x rest is = dead_end ends v (Nonterminal b) more opening
dead_end ends (move item y more shorter {t} {longer} {moved} v opening longer_is moved_is) x rest is =
    let f : [] ≡ x ∷ rest = sym (ends moved (
      (t, move item y more shorter v opening longer_is moved_is),
      inl (advanced item moved moved_is),
    )) ∙ is in cc

-- after a hole no symbol comes
after_hole : {w : World} {part : Part} {prefix : List Symbol} → IsMarked w → (j : Item) → IsKernelItemIn w part prefix j →
    w.production_owner j.production ≡ hole → {i : Item} {t : ℕ} → IsValidItemIn w part prefix i t → (x : Symbol) (rest : List Symbol) →
    after_dot_in w i ≡ x ∷ rest → ⊥
after_hole {w} ok j ((u, v), inr (is, empty)) owner vi x rest opening =
    let f : top ≡ hole = sym ok.start.top_owner ∙ (ap (λ z. w.production_owner z.production) (sym is) ∙ owner) in cc
after_hole {w} {part} {prefix} ok j ((u, v), inl ne) owner {i} {t} vi x rest opening = go (moved_from v ne)
  where
    go : Moved w part prefix j u → ⊥
    go k = at (at_hole ok k.item k.x k.rest k.before_dot (ap (λ z. w.production_owner z.production) (sym k.is) ∙ owner))
      where
        at : AtHole w k.item k.x → ⊥
        at e =
            let m : ℕ = w.hole_on e.nonterminal in
            let longer_is = k.longer_is ∙ ap (λ z. k.prefix ++ z ∷ []) e.symbol in
            let there = subst (λ z. IsValidItemIn w part z i t) longer_is vi in
            let kernel = marked_kernel ok k.prefix m e.nonterminal e.mark (i, t, there) in
            dead_end (λ item has. ap (after_dot_in w) ((kernel item).0 has) ∙
            ap (drop 1) (ok.holes.hole_right m e.nonterminal e.mark)) there x rest opening

module _ (g : GrammarView) (extensible : List ℕ) (pieces : List Piece) (is : AreCertified g extensible pieces) (n : KernelNumbers)
    (ok : AreKernelNumbers g extensible pieces n) where
  abbrev wo : World
  wo = world g extensible pieces is

  -- where a symbol leads from, no hole was before
  pub no_hole_before : (home : Home) (s : ℕ) (x : Symbol) (next : ℕ) → IsListed (many g extensible pieces is) home →
      LeadsAt g extensible pieces n home s x next → HasNoHole g extensible pieces home (n.prefix_of home s)
  no_hole_before home s x next listed (below, more, viable, same) i at hole_is =
      let (j, t, v) = subst (IsViablePrefixIn wo (part_of home)) (home_longer g extensible pieces is home (n.prefix_of home s) x)
      (viable_there (of_home g extensible pieces is home listed) (n.prefix_of home s ++ x ∷ []) viable) in
      let b = before v (prefix_at g extensible pieces is n ok home s) (renamed (home_names g extensible pieces is home) x) refl in
      after_hole (marked g extensible pieces is) (renamed_item (home_names g extensible pieces is home) i)
      (kernel_there (of_home g extensible pieces is home listed) (n.prefix_of home s) i at)
      (hole_production_owned g extensible pieces is.are_pieces home i.production hole_is) b.valid
      (renamed (home_names g extensible pieces is home) x) b.rest b.is

  -- the mark of a hole
  hole_mark_at : (home : Home) (t : ℕ) → IsHole g extensible pieces home (Terminal t) →
      (a : ℕ) × (wo.mark ((home_names g extensible pieces is home).terminal t) ≡ on a)
  hole_mark_at home t (far, less) =
      let j : ℕ = t - (g.terminals + (cut_at g extensible pieces home).terminals.size) in
      let t_is : t ≡ (g.terminals + (cut_at g extensible pieces home).terminals.size) + j = omega (arith, far) in
      let (a, at) = at_within extensible j (omega (arith, far, less)) in (
        a,
        (hole_terminal g extensible pieces j a ((home_names g extensible pieces is home).terminal t) at
            (hole_name g extensible pieces is.are_pieces home j t t_is)).mark,
      )

  -- where a kernel has no item of a hole's production, no hole leads to it
  pub free_before : (home : Home) (s : ℕ) (x : Symbol) (next : ℕ) → IsListed (many g extensible pieces is) home →
      LeadsAt g extensible pieces n home s x next → HasNoHole g extensible pieces home (n.prefix_of home next) →
      ¬ IsHole g extensible pieces home x
  free_before home s (Nonterminal a) next listed leads free h = h
  free_before home s (Terminal t) next listed (below, more, viable, same) free h =
      let m : ℕ = (home_names g extensible pieces is home).terminal t in
      let (a, mark) = hole_mark_at home t h in
      let there = viable_there (of_home g extensible pieces is home listed) (n.prefix_of home s ++ Terminal t ∷ []) viable in
      let long_is = home_longer g extensible pieces is home (n.prefix_of home s) (Terminal t) in
      let (j, u, v) = subst (IsViablePrefixIn wo (part_of home)) long_is there in
      let b = before v (prefix_at g extensible pieces is n ok home s) (Terminal m) refl in
      let item_is = mark_opens (marked g extensible pieces is) b.item m a b.rest b.is mark in
      let owner : wo.production_owner b.item.production ≡ hole = ap (λ z. wo.production_owner z.production) item_is ∙
      ((marked g extensible pieces is).bridges.bridge_owner m a mark ∙ hole_owned g extensible pieces is.are_pieces home t h) in
      let has : IsKernelItemIn wo (part_of home) (prefix_at g extensible pieces is n ok home s ++ Terminal m ∷ []) (advance b.item) = (
        (b.t, move b.item (Terminal m) b.rest (prefix_at g extensible pieces is n ok home s) b.valid b.is refl refl),
        inl (advanced b.item (advance b.item) refl),
      ) in
      let has_there = subst (λ z. IsKernelItemIn wo (part_of home) z (advance b.item)) (sym long_is) has in
      let (i, i_is) = item_named (of_home g extensible pieces is home listed) ((has_there.0).1) in
      let mine = kernel_back (of_home g extensible pieces is home listed) (n.prefix_of home s ++ Terminal t ∷ []) i
      (subst (IsKernelItemIn wo (part_of home) (prefix_in g extensible pieces is home (n.prefix_of home s ++ Terminal t ∷ []))) i_is
      has_there) in
      free i ((same i).1 mine) (hole_production_number g extensible pieces is.are_pieces home i.production
      (ap (λ z. wo.production_owner z.production) (sym i_is) ∙ owner))

  -- a kernel without an item of a hole's production is one of the union
  pub prefix_for : (home : Home) (s : ℕ) → IsListed (many g extensible pieces is) home → s < n.count home →
      HasNoHole g extensible pieces home (n.prefix_of home s) → TakenPrefix g extensible pieces is n ok home s
  prefix_for home s listed below free =
      let own = (ok.states home listed).prefixes s below in
      go (some_kernel (valid_there (of_home g extensible pieces is home listed) own.2))
    where
      go : (j : Item) × IsKernelItemIn wo (part_of home) (prefix_at g extensible pieces is n ok home s) j →
          TakenPrefix g extensible pieces is n ok home s
      go (j, at) =
          let (i, i_is) = item_named (of_home g extensible pieces is home listed) ((at.0).1) in
          let mine = kernel_back (of_home g extensible pieces is home listed) (n.prefix_of home s) i
          (subst (IsKernelItemIn wo (part_of home) (prefix_at g extensible pieces is n ok home s)) i_is at) in
          let kept = kept_same (marked g extensible pieces is) (apart g extensible pieces is) home listed at
          (λ owner. free i mine (hole_production_number g extensible pieces is.are_pieces home i.production
          (ap (λ z. wo.production_owner z.production) (sym i_is) ∙ owner))) in
          let (p, p_is) = prefix_number (of_whole g extensible pieces is) (prefix_at g extensible pieces is n ok home s) kept.0 in
          record {
            prefix = p;
            viable = viable_back (of_whole g extensible pieces is) p
                (subst (IsViablePrefixIn wo (union (many g extensible pieces is))) p_is kept.0);
            same = subst (λ z. SameKernelIn wo (union (many g extensible pieces is)) z (part_of home)
                (prefix_at g extensible pieces is n ok home s)) p_is kept.1;
          }

  -- the first numbers of an extension are the host's, also here
  same_with_host : (e s : ℕ) → e < many g extensible pieces is → s < n.count of_host →
      (t : TakenPrefix g extensible pieces is n ok (of e) s) →
      SameKernelIn wo (union (many g extensible pieces is)) (whole_prefix g extensible pieces is t.prefix) plus
      (prefix_at g extensible pieces is n ok of_host s)
  same_with_host e s less below t = chain t.same (flip (first_there g extensible pieces is n ok e less s below))

  within : (e s : ℕ) → e < many g extensible pieces is → s < n.count of_host → s < n.count (of e)
  within e s less below = (let more = ok.no_fewer e less in omega (arith, more, below))

  pub host_no_hole : (e s : ℕ) → e < many g extensible pieces is → s < n.count of_host →
      HasNoHole g extensible pieces (of e) (n.prefix_of (of e) s) → HasNoHole g extensible pieces of_host (n.prefix_of of_host s)
  host_no_hole e s less below free =
      let t = prefix_for (of e) s less (within e s less below) free in
      union_no_hole g extensible pieces is of_host tt (whole_prefix g extensible pieces is t.prefix) (n.prefix_of of_host s)
      (same_with_host e s less below t)

  -- what is a list of the host's kernel is one of the extension's
  pub from_host : (kernels : List (List Item)) (u e s : ℕ) → e < many g extensible pieces is → s < n.count of_host →
      HasNoHole g extensible pieces (of e) (n.prefix_of (of e) s) → IsFrom g extensible pieces n kernels u of_host s →
      IsFrom g extensible pieces n kernels u (of e) s
  from_host kernels u e s less below free from =
      let t = prefix_for (of e) s less (within e s less below) free in
      from_of g extensible pieces is n ok kernels u (of e) s t.prefix less
      (kernel_of g extensible pieces is n ok kernels u of_host s t.prefix tt from (same_with_host e s less below t)) t.same

  -- where a symbol that is no hole leads, in the union
  goes_on : (home : Home) (s : ℕ) (x : Symbol) (next : ℕ) → (listed : IsListed (many g extensible pieces is) home) →
      LeadsAt g extensible pieces n home s x next → ¬ IsHole g extensible pieces home x →
      (t : TakenPrefix g extensible pieces is n ok home s) →
      Further g extensible pieces is n ok [] t.prefix (renamed (into_union g extensible pieces home) x) home next
  goes_on home s x next listed leads free t =
      further g extensible pieces is n ok [] t.prefix (renamed (into_union g extensible pieces home) x) home s x next listed t.same leads
      free refl

  -- there is no hole there
  pub no_hole_after : (home : Home) (s : ℕ) (x : Symbol) (next : ℕ) → IsListed (many g extensible pieces is) home →
      LeadsAt g extensible pieces n home s x next → ¬ IsHole g extensible pieces home x →
      HasNoHole g extensible pieces home (n.prefix_of home next)
  no_hole_after home s x next listed leads free =
      let t = prefix_for home s listed leads.0 (no_hole_before home s x next listed leads) in
      union_no_hole g extensible pieces is home listed
      (whole_prefix g extensible pieces is (t.prefix ++ renamed (into_union g extensible pieces home) x ∷ [])) (n.prefix_of home next)
      (goes_on home s x next listed leads free t).same

  -- and lists of both have the move
  pub move_between : (kernels : List (List Item)) (u v : ℕ) (home : Home) (s : ℕ) (x : Symbol) (next : ℕ) →
      IsListed (many g extensible pieces is) home → LeadsAt g extensible pieces n home s x next → ¬ IsHole g extensible pieces home x →
      IsFrom g extensible pieces n kernels u home s → IsFrom g extensible pieces n kernels v home next →
      IsMoveBetween (whole g extensible pieces is) kernels u (renamed (into_union g extensible pieces home) x) v
  move_between kernels u v home s x next listed leads free from to =
      let t = prefix_for home s listed leads.0 (no_hole_before home s x next listed leads) in
      let f = goes_on home s x next listed leads free t in
      record {
        prefix = t.prefix;
        viable = f.viable;
        before = kernel_of g extensible pieces is n ok kernels u home s t.prefix listed from t.same;
        after = kernel_of g extensible pieces is n ok kernels v home next
            (t.prefix ++ renamed (into_union g extensible pieces home) x ∷ []) listed to f.same;
      }
