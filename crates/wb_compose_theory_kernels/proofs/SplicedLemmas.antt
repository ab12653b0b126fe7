-- A move of a union is one of the certified grammars; and so listed kernels and moves are those of the union.
use Rattle.std.proofs.Common.{◌++◌, ◌<◌, ◌∙◌, ◌∷◌, ◌≡◌, List, [], ap, length, subst, sym, ℕ}
use Rattle.std.specs.Prelude.{Contains}
use Rattle.std.proofs.lemmas.Option.{slice_get_within}
use Rattle.wb_base.specs.declared.symbol.Symbol.{Symbol}
use Rattle.wb_base.specs.declared.symbol.Symbol.TheVariants.{Terminal}
use Rattle.wb_base.specs.Grammar.{GrammarView}
use Rattle.wb_grammar_theory.specs.declared.item.Item.{Item}
use Rattle.wb_recheck_theory.specs.KernelLists.{AreKernelsAndMoves, IsKernelOf, IsMoveBetween}
use Rattle.wb_compose_theory.proofs.KernelLemmas.{chain, first_kernels, flip}
use Rattle.wb_compose_theory.proofs.NumberLemmas.{same_there}
use Rattle.wb_compose_theory.proofs.RenamingLemmas.{symbol_once}
use Rattle.wb_compose_theory.specs.Homes.{Home, IsListed, of, of_host, part_of}
use Rattle.wb_compose_theory.specs.Items.{IsViablePrefixIn, SameKernelIn}
use Rattle.wb_compose_theory.specs.Renamings.{renamed}
use Rattle.wb_compose_theory.specs.Worlds.{Has, on, union}
use Rattle.wb_compose_theory_grammar.specs.Certificates.{AreCertified}
use Rattle.wb_compose_theory_grammar.specs.Pieces.{Piece}
use Rattle.wb_compose_theory_kernels.proofs.HoleNames.{IsMarkerName, hole_at_name, marker_name, marker_names}
use Rattle.wb_compose_theory_kernels.proofs.NameLemmas.{symbol_into_union, terminal_into_union}
use Rattle.wb_compose_theory_kernels.proofs.HoleNames.{symbol_hole}
use Rattle.wb_compose_theory_kernels.proofs.NumberLemmas.{apart, chosen, home_names, many, marked}
use Rattle.wb_compose_theory_kernels.proofs.PrefixNumbers.{last_number}
use Rattle.wb_compose_theory_kernels.proofs.NumberLemmas.{of_home}
use Rattle.wb_compose_theory_kernels.proofs.NumberLemmas.{of_whole, prefix_at, prefix_in, taken_below, taken_listed}
use Rattle.wb_compose_theory_kernels.proofs.NumberLemmas.{taken_prefix, whole}
use Rattle.wb_compose_theory_kernels.proofs.PrefixNumbers.{viable_back, viable_there}
use Rattle.wb_compose_theory_kernels.proofs.NumberLemmas.{whole_names, whole_prefix, world}
use Rattle.wb_compose_theory_kernels.proofs.PrefixNumbers.{prefix_number}
use Rattle.wb_compose_theory_kernels.proofs.WorldMoves.{Over, across, along, named_after, over}
use Rattle.wb_compose_theory_kernels.specs.Kernels.{AreKernelNumbers, AreSplicedKernels, AreSplicedMoves, IsFrom}
use Rattle.wb_compose_theory_kernels.specs.Kernels.{IsSplicedMove, IsTaken, KernelNumbers, LeadsAt, by_marker, by_symbol}
use Rattle.wb_compose_theory_kernels.specs.Parts.{IsHole, hole_at, into_union}
use Rattle.wb_compose_theory_kernels.proofs.MoveLemmas.{whole_longer, home_longer, after_marker, kernel_of, from_of, same_of, move_there}

-- a list of the kernel of a prefix
listed_kernel : {g : GrammarView} {kernels : List (List Item)} {u : ℕ} {prefix : List Symbol} → IsKernelOf g kernels u prefix →
    u < length kernels
listed_kernel {kernels = kernels} {u} k = slice_get_within kernels u k.kernel k.at

module _ (g : GrammarView) (extensible : List ℕ) (pieces : List Piece) (is : AreCertified g extensible pieces) (n : KernelNumbers)
    (ok : AreKernelNumbers g extensible pieces n) (kernels : List (List Item)) where
  -- a prefix of the union, and a number with its kernel
  abbrev IsSameAt : List Symbol → Home → ℕ → Type 0
  IsSameAt p home s = SameKernelIn (world g extensible pieces is) (union (many g extensible pieces is))
      (whole_prefix g extensible pieces is p) (part_of home) (prefix_at g extensible pieces is n ok home s)

  -- a symbol that goes on from a number's prefix, in numbers
  record Onward (home : Home) (s : ℕ) (x : Symbol) : Type 0 where
    symbol : Symbol
    next : ℕ
    leads : LeadsAt g extensible pieces n home s symbol next
    is_name : renamed (home_names g extensible pieces is home) symbol ≡ x

  onward : (home : Home) (s : ℕ) (x : Symbol) → IsTaken g extensible pieces n home s →
      IsViablePrefixIn (world g extensible pieces is) (part_of home) (prefix_at g extensible pieces is n ok home s ++ x ∷ []) →
      Onward home s x
  onward home s x taken viable =
      let listed = taken_listed g extensible pieces is n ok home s taken in
      let (b, b_is) = prefix_number (of_home g extensible pieces is home listed)
      (prefix_at g extensible pieces is n ok home s ++ x ∷ []) viable in
      let (y, y_long, y_is) = last_number (of_home g extensible pieces is home listed) b (n.prefix_of home s) x (sym b_is) in
      let there = viable_back (of_home g extensible pieces is home listed) (n.prefix_of home s ++ y ∷ [])
      (subst (IsViablePrefixIn (world g extensible pieces is) (part_of home))
      (b_is ∙ ap (λ z. prefix_in g extensible pieces is home z) y_long) viable) in
      let (next, below, same) = (ok.states home listed).all (n.prefix_of home s ++ y ∷ []) there in
      record {
        symbol = y;
        next = next;
        leads = (taken_below g extensible pieces is n ok home s taken, below, there, same);
        is_name = y_is;
      }

  -- and a move of the union is one of the number
  pub move_back : (u : ℕ) (home : Home) (s : ℕ) (x : Symbol) (v : ℕ) → IsTaken g extensible pieces n home s →
      IsFrom g extensible pieces n kernels u home s → IsMoveBetween (whole g extensible pieces is) kernels u x v →
      IsSplicedMove g extensible pieces n kernels home s x v
  move_back u home s x v taken from move =
      go (over (marked g extensible pieces is) (apart g extensible pieces is) home listed
      (whole_prefix g extensible pieces is move.prefix) (prefix_at g extensible pieces is n ok home s) name same viable)
    where
      listed : IsListed (many g extensible pieces is) home
      listed = taken_listed g extensible pieces is n ok home s taken

      same : IsSameAt move.prefix home s
      same = same_of g extensible pieces is n ok kernels u home s move.prefix taken from move.before

      name : Symbol
      name = renamed (whole_names g extensible pieces is) x

      viable : IsViablePrefixIn (world g extensible pieces is) (union (many g extensible pieces is))
          (whole_prefix g extensible pieces is move.prefix ++ name ∷ [])
      viable = subst (IsViablePrefixIn (world g extensible pieces is) (union (many g extensible pieces is)))
          (whole_longer g extensible pieces is move.prefix x)
          (viable_there (of_whole g extensible pieces is) (move.prefix ++ x ∷ []) move.viable)

      named : Has (union (many g extensible pieces is)) ((world g extensible pieces is).symbol_owner name)
      named = named_after (marked g extensible pieces is) (whole_prefix g extensible pieces is move.prefix) name viable

      by_its_symbol : SameKernelIn (world g extensible pieces is) (union (many g extensible pieces is))
          (whole_prefix g extensible pieces is move.prefix ++ name ∷ []) (part_of home)
          (prefix_at g extensible pieces is n ok home s ++ name ∷ []) → Onward home s name →
          IsSplicedMove g extensible pieces n kernels home s x v
      by_its_symbol long o =
          let (below, more, there, to) = o.leads in
          let free : ¬ IsHole g extensible pieces home o.symbol =
          λ h. subst (Has (union (many g extensible pieces is)))
          (ap (world g extensible pieces is).symbol_owner (sym o.is_name) ∙ symbol_hole g extensible pieces is.are_pieces home o.symbol h)
          named in
          let long_is : prefix_at g extensible pieces is n ok home s ++ name ∷ []
          ≡ prefix_in g extensible pieces is home (n.prefix_of home s ++ o.symbol ∷ []) =
          ap (λ z. prefix_at g extensible pieces is n ok home s ++ z ∷ []) (sym o.is_name) ∙
          sym (home_longer g extensible pieces is home (n.prefix_of home s) o.symbol) in
          by_symbol o.symbol o.next o.leads free
          (symbol_once (of_whole g extensible pieces is) x (renamed (into_union g extensible pieces home) o.symbol)
          (sym o.is_name ∙ sym (symbol_into_union g extensible pieces is.are_pieces home o.symbol free)))
          (from_of g extensible pieces is n ok kernels v home o.next (move.prefix ++ x ∷ []) listed move.after
          (chain (subst (λ z. SameKernelIn (world g extensible pieces is) (union (many g extensible pieces is)) z (part_of home)
          (prefix_in g extensible pieces is home (n.prefix_of home s ++ o.symbol ∷ [])))
          (sym (whole_longer g extensible pieces is move.prefix x))
          (subst (λ z. SameKernelIn (world g extensible pieces is) (union (many g extensible pieces is))
          (whole_prefix g extensible pieces is move.prefix ++ name ∷ []) (part_of home) z) long_is long))
          (flip (same_there (of_home g extensible pieces is home listed) (n.prefix_of home o.next)
          (n.prefix_of home s ++ o.symbol ∷ []) to))))

      by_its_marker : (m h : ℕ) → name ≡ Terminal m → (world g extensible pieces is).mark m ≡ on h →
          Onward home s (Terminal ((world g extensible pieces is).hole_on h)) → IsMarkerName g extensible pieces is.are_pieces m h →
          IsSplicedMove g extensible pieces n kernels home s x v
      by_its_marker m h name_is mark o k =
          let told = marker_names g extensible pieces is.are_pieces k.extension_number k.piece k.marker h k.at k.mark in
          let hole_is : o.symbol ≡ Terminal (hole_at g extensible pieces home h) =
          symbol_once (of_home g extensible pieces is home listed) o.symbol (Terminal (hole_at g extensible pieces home h))
          (o.is_name ∙ sym (ap Terminal (hole_at_name g extensible pieces is.are_pieces home h))) in
          let y_is : renamed (whole_names g extensible pieces is) x
          ≡ Terminal ((home_names g extensible pieces is (of k.extension_number)).terminal k.marker) = name_is ∙ ap Terminal k.is in
          let leads = subst (λ z. LeadsAt g extensible pieces n home s z o.next) hole_is o.leads in
          let items = after_marker g extensible pieces is k.extension_number k.piece k.marker h told move.prefix x y_is
          (subst (λ z. IsViablePrefixIn (world g extensible pieces is) (union (many g extensible pieces is))
          (whole_prefix g extensible pieces is move.prefix ++ z ∷ [])) y_is viable) in
          by_marker h o.next k.extension_number k.marker k.piece leads k.at k.mark
          (symbol_once (of_whole g extensible pieces is) x (Terminal ((into_union g extensible pieces (of k.extension_number)).terminal
          k.marker))
          (y_is ∙ sym (ap Terminal (terminal_into_union g extensible pieces is.are_pieces (of k.extension_number) k.marker told.no_hole))))
          (record {
            kernel = move.after.kernel;
            at = move.after.at;
            exact = λ item. ((λ c. (items item).0 ((move.after.exact item).0 c)), (λ i. (move.after.exact item).1 ((items item).1 i)));
          })

      go : Over (world g extensible pieces is) (many g extensible pieces is) home (whole_prefix g extensible pieces is move.prefix)
          (prefix_at g extensible pieces is n ok home s) name → IsSplicedMove g extensible pieces n kernels home s x v
      go (along v_home long) = by_its_symbol long (onward home s name taken v_home)
      go (across m h name_is mark v_home) =
          by_its_marker m h name_is mark (onward home s (Terminal ((world g extensible pieces is).hole_on h)) taken v_home)
          (marker_name g extensible pieces is.are_pieces m h mark
          (subst (λ z. Has (union (many g extensible pieces is)) ((world g extensible pieces is).symbol_owner z)) name_is named))

  -- the lists and moves are those of the union
  pub spliced : AreSplicedKernels g extensible pieces n kernels → (moves : List (ℕ × Symbol × ℕ)) →
      AreSplicedMoves g extensible pieces n kernels moves → AreKernelsAndMoves (whole g extensible pieces is) kernels moves
  spliced taken moves led = record {
    first = kernel_of g extensible pieces is n ok kernels 0 of_host 0 [] tt taken.first
        (subst (λ z. SameKernelIn (world g extensible pieces is) (union (many g extensible pieces is)) [] (part_of of_host)
        (prefix_in g extensible pieces is of_host z)) (sym (ok.states of_host tt).first)
        (first_kernels (union (many g extensible pieces is)) (part_of of_host)));
    sound = λ u below. (let (home, s, k, from) = taken.sound u below in
        let t = taken_prefix g extensible pieces is n ok home s k in (
          t.prefix,
          t.viable,
          kernel_of g extensible pieces is n ok kernels u home s t.prefix
              (taken_listed g extensible pieces is n ok home s k) from t.same,
        ));
    all = λ prefix viable. (let c = chosen g extensible pieces is n ok prefix viable in
        let (u, from) = taken.all c.home c.number c.taken in (
          u,
          kernel_of g extensible pieces is n ok kernels u c.home c.number prefix
              (taken_listed g extensible pieces is n ok c.home c.number c.taken) from c.same,
        ));
    once = λ u v prefix one other. (let (home, s, k, from) = taken.sound u (listed_kernel one) in
        taken.once u v home s from
        (from_of g extensible pieces is n ok kernels v home s prefix (taken_listed g extensible pieces is n ok home s k) other
        (same_of g extensible pieces is n ok kernels u home s prefix k from one)));
    between = λ u x v. (there u x v, back u x v);
  }
    where
      there : (u : ℕ) (x : Symbol) (v : ℕ) → Contains moves (u, x, v) → IsMoveBetween (whole g extensible pieces is) kernels u x v
      there u x v c =
          let m = led.each u (led.within u x v c) in
          move_there g extensible pieces is n ok kernels u m.home m.number x v m.taken m.source ((m.exact x v).0 c)

      back : (u : ℕ) (x : Symbol) (v : ℕ) → IsMoveBetween (whole g extensible pieces is) kernels u x v → Contains moves (u, x, v)
      back u x v b =
          let m = led.each u (listed_kernel b.before) in
          (m.exact x v).1 (move_back u m.home m.number x v m.taken m.source b)
