-- Lists of kernels, and numbers, as loops go on.
use Rattle.std.proofs.Common.{◌+◌, ◌-◌, ◌<◌, ◌∙◌, ◌∷◌, ◌++◌, ◌≡◌, ◌⊎◌, List, []}
use Rattle.std.proofs.Common.{ap, arith, inl, inr, length, length-append, map, refl, subst, sym, ℕ}
use Rattle.std.proofs.Common.{zero, suc, Some}
use Rattle.std.specs.Prelude.{slice_get}
use Rattle.std.proofs.lemmas.Option.{same_Some, slice_get-map}
use Rattle.std.specs.Option.{option_map}
use Rattle.wb_lemmas.proofs.Places.{at_push, nothing_at}
use Rattle.wb_base.specs.Grammar.{GrammarView}
use Rattle.wb_grammar_theory.specs.declared.item.Item.{Item}
use Rattle.wb_items.specs.Kernels.{count_of}
use Rattle.wb_compose_theory.specs.Homes.{Home, of, of_host}
use Rattle.wb_compose_theory_grammar.proofs.FactLemmas.{united_len}
use Rattle.wb_compose_theory_grammar.specs.Pieces.{Piece}
use Rattle.wb_compose_theory_grammar.specs.Places.{count_before, total_of}
use Rattle.wb_compose_theory_grammar.specs.Unions.{added_nonterminals, added_productions, added_terminals}
use Rattle.wb_compose_theory_grammar.specs.UnitedWorlds.{nonterminal_sizes, production_sizes, terminal_sizes}
use Rattle.wb_compose_theory_kernels.proofs.HoleNames.{cut_is}
use Rattle.wb_compose_kernels.proofs.ListLemmas.{from_keeps, keeps_none, keeps_then, so_far_stays}
use Rattle.wb_compose_kernels.specs.declared.blocks.Blocks.{Blocks}
use Rattle.wb_compose_kernels.specs.declared.part_blocks.Before.{Before}
use Rattle.wb_compose_kernels.specs.declared.splice.Splice.{Splice}
use Rattle.wb_compose_kernels.specs.Lent.{AreSpliceable}
use Rattle.wb_compose_kernels.specs.Inner.Counts.{new_count_at}
use Rattle.wb_compose_kernels.specs.Inner.Blocks.{AreBefore, BlocksUpTo, IsSizeOf, IsSum, IsWith, block_of, blocks_at, with_counts}
use Rattle.wb_compose_kernels.specs.Inner.Lists.{AreListed, AreSoFar, HasNoHoleAt, HostListed, HostNext}
use Rattle.wb_compose_kernels.specs.Inner.Lists.{HostUpTo, IsDone, IsFromAt, IsHostDone, IsTakenAt}
use Rattle.wb_compose_kernels.specs.Inner.Lists.{Keeps, NewListed, NewNext, NewUpTo, PartsUpTo}

-- the number before the next
count_next : (sizes : List ℕ) (k size : ℕ) → slice_get sizes k ≡ Some size → count_before sizes (k + 1) ≡ count_before sizes k + size
count_next [] k size at = absurd (nothing_at size k at)
count_next (x ∷ sizes) zero size at = let e : x ≡ size = same_Some x size at in go sizes e
  where
    go : (sizes : List ℕ) → x ≡ size → x + count_before sizes 0 ≡ 0 + size
    go [] e = omega (arith, e)
    go (y ∷ ys) e = omega (arith, e)
count_next (x ∷ sizes) (suc k) size at =
    let e = count_next sizes k size at in
    let n : suc k + 1 ≡ suc (k + 1) = omega arith in
    ap (count_before (x ∷ sizes)) n ∙ (omega (arith, e))

none_before : (sizes : List ℕ) → count_before sizes 0 ≡ 0
none_before [] = refl
none_before (x ∷ sizes) = refl

module _ (s : Splice) (ok : AreSpliceable s) where
  host_keeps : {old new : List (List Item)} {numbers : List ℕ} {n : ℕ} → Keeps old new → HostListed s ok old numbers n →
      HostListed s ok new numbers n
  host_keeps keeps h = record { len = h.len; each = λ k u free at. from_keeps s ok keeps (h.each k u free at) }

  new_keeps : {old new : List (List Item)} {e n : ℕ} {numbers : List ℕ} → Keeps old new → NewListed s ok old e n numbers →
      NewListed s ok new e n numbers
  new_keeps keeps h = record { len = h.len; each = λ i u at. from_keeps s ok keeps (h.each i u at) }

  -- nothing is listed yet
  pub host_start : HostUpTo s ok [] [] 0
  host_start = record {
    so_far = record {
      first = λ some. absurd (omega (arith, some));
      sound = λ u lt. absurd (omega (arith, lt));
      all = none;
      apart = λ u v one other at there same. absurd (nothing_at one u at);
      in_order = λ u list at. absurd (nothing_at list u at);
      reached = λ v lt. absurd (omega (arith, lt));
    };
    listed = record { len = refl; each = λ k u free at. absurd (nothing_at u k at) };
  }
    where
      none : (home : Home) (k : ℕ) → IsTakenAt s ok home k → IsHostDone s ok 0 home k → (u : ℕ) × IsFromAt s ok [] u home k
      none of_host k taken lt = absurd (omega (arith, lt))
      none (of e) k taken done = absurd done

  pub host_more : (old new : List (List Item)) (numbers more : List ℕ) (n u : ℕ) → more ≡ numbers ++ u ∷ [] → HostUpTo s ok old numbers n →
      HostNext s ok old new n u → HostUpTo s ok new more (n + 1)
  host_more old new numbers more n u is h next = subst (λ z. HostUpTo s ok new z (n + 1)) (sym is) (record {
    so_far = next.so_far;
    listed = record {
      len = (let l = h.listed.len in omega (arith, l, length-append numbers (u ∷ [])));
      each = λ k v free at. elim (at_push numbers u v k at) [
        | inl before ↦ from_keeps s ok next.keeps (h.listed.each k v free before)
        | inr (k_is, v_is) ↦ (let e : k ≡ n = k_is ∙ h.listed.len in
            subst (λ z. IsFromAt s ok new z of_host k) v_is (subst (IsFromAt s ok new u of_host) (sym e)
            (next.from (subst (λ z. HasNoHoleAt s ok of_host z) e free))))
      ];
    };
  })

  -- nothing of an extension is listed yet
  pub new_start : (kernels : List (List Item)) (e : ℕ) → AreSoFar s ok (IsDone s ok e 0) kernels → NewUpTo s ok kernels kernels e 0 []
  new_start kernels e h = record {
    keeps = keeps_none kernels;
    so_far = h;
    listed = record { len = refl; each = λ i u at. absurd (nothing_at u i at) };
  }

  pub new_more : (first old new : List (List Item)) (e n u : ℕ) (numbers more : List ℕ) → more ≡ numbers ++ u ∷ [] →
      NewUpTo s ok first old e n numbers → NewNext s ok old new e n u → NewUpTo s ok first new e (n + 1) more
  new_more first old new e n u numbers more is h next = subst (NewUpTo s ok first new e (n + 1)) (sym is) (record {
    keeps = keeps_then first old new h.keeps next.keeps;
    so_far = next.so_far;
    listed = record {
      len = (let l = h.listed.len in omega (arith, l, length-append numbers (u ∷ [])));
      each = λ i v at. elim (at_push numbers u v i at) [
        | inl before ↦ from_keeps s ok next.keeps (h.listed.each i v before)
        | inr (i_is, v_is) ↦ (let e' : i ≡ n = i_is ∙ h.listed.len in
            subst (λ z. IsFromAt s ok new z (of e) (count_of s.kernels.now + i)) v_is
            (subst (λ z. IsFromAt s ok new u (of e) (count_of s.kernels.now + z)) (sym e') next.from))
      ];
    };
  })

  -- the host is listed
  pub host_all : (kernels : List (List Item)) (numbers : List ℕ) → HostUpTo s ok kernels numbers (count_of s.kernels.now) →
      AreSoFar s ok (IsDone s ok 0 0) kernels
  host_all kernels numbers h =
      so_far_stays s ok (IsHostDone s ok (count_of s.kernels.now)) (IsDone s ok 0 0) kernels h.so_far weaken split
    where
      weaken : (home : Home) (k : ℕ) → IsHostDone s ok (count_of s.kernels.now) home k → IsDone s ok 0 0 home k
      weaken of_host k done = tt
      weaken (of e) k done = absurd done

      split : (home : Home) (k : ℕ) → IsTakenAt s ok home k → IsDone s ok 0 0 home k →
          IsHostDone s ok (count_of s.kernels.now) home k ⊎ ((u : ℕ) × IsFromAt s ok kernels u home k)
      split of_host k taken done = inl taken.0
      split (of e) k taken (inl before) = absurd (omega (arith, before))
      split (of e) k taken (inr (same, lt)) = (let far = taken.1 in absurd (omega (arith, far, lt)))

  pub parts_start : (kernels : List (List Item)) → AreSoFar s ok (IsDone s ok 0 0) kernels → PartsUpTo s ok kernels kernels [] 0
  parts_start kernels h = record {
    keeps = keeps_none kernels;
    so_far = h;
    listed = record { len = refl; each = λ f numbers at. absurd (nothing_at numbers f at) };
  }

  pub parts_more : (first old new : List (List Item)) (lists more : List (List ℕ)) (e : ℕ) (numbers : List ℕ) → e < length ok.pieces →
      more ≡ lists ++ numbers ∷ [] → PartsUpTo s ok first old lists e → NewUpTo s ok old new e (new_count_at s e) numbers →
      ((home : Home) (k : ℕ) → IsTakenAt s ok home k → IsDone s ok (e + 1) 0 home k → IsDone s ok e (new_count_at s e) home k) →
      PartsUpTo s ok first new more (e + 1)
  parts_more first old new lists more e numbers less is h part all = subst (λ z. PartsUpTo s ok first new z (e + 1)) (sym is) (record {
    keeps = keeps_then first old new h.keeps part.keeps;
    so_far = so_far_stays s ok (IsDone s ok e (new_count_at s e)) (IsDone s ok (e + 1) 0) new part.so_far weaken
        (λ home k taken done. inl (all home k taken done));
    listed = record {
      len = (let l = h.listed.len in omega (arith, l, length-append {A = List ℕ} lists (numbers ∷ [])));
      each = λ f z at. elim (at_push lists numbers z f at) [
        | inl before ↦ new_keeps part.keeps (h.listed.each f z before)
        | inr (f_is, z_is) ↦ (let e' : e ≡ f = sym (f_is ∙ h.listed.len) in
            subst (NewListed s ok new f (new_count_at s f)) z_is (subst (λ j. NewListed s ok new j (new_count_at s j) numbers) e'
            part.listed))
      ];
    };
  })
    where
      weaken : (home : Home) (k : ℕ) → IsDone s ok e (new_count_at s e) home k → IsDone s ok (e + 1) 0 home k
      weaken of_host k done = tt
      weaken (of f) k (inl before) = inl (omega (arith, before))
      weaken (of f) k (inr (same, lt)) = inl (omega (arith, same))

  -- all is listed
  pub all_listed : (middle kernels : List (List Item)) (host : List ℕ) (new : List (List ℕ)) →
      HostUpTo s ok middle host (count_of s.kernels.now) → PartsUpTo s ok middle kernels new (length s.parts.now) →
      AreListed s ok kernels host new
  all_listed middle kernels host new h parts = record {
    so_far = parts.so_far;
    of_host = host_keeps parts.keeps h.listed;
    of_parts = parts.listed;
  }

  -- numbers of no extension come before the first
  pub before_start : AreBefore s ok 0 (record { terminals = 0; nonterminals = 0; productions = 0 })
  before_start = record {
    terminals_are = sym (none_before (terminal_sizes s.host.now ok.extensible ok.pieces));
    nonterminals_are = sym (none_before (nonterminal_sizes s.host.now ok.extensible ok.pieces));
    productions_are = sym (none_before (production_sizes s.host.now ok.extensible ok.pieces));
  }

  pub before_more : (e : ℕ) (x : Piece) (before size sums : Before) → slice_get ok.pieces e ≡ Some x → AreBefore s ok e before →
      IsSizeOf s e size → IsSum before size sums → AreBefore s ok (e + 1) sums
  before_more e x before size sums at h size_is sums_are =
      let (t, n, p) = size_is ok x at in
      let (a, b, c) = sums_are in
      record {
        terminals_are = (let z = count_next (terminal_sizes s.host.now ok.extensible ok.pieces) e (added_terminals s.host.now x.grammar)
            (sized (added_terminals s.host.now)) in let y = h.terminals_are in omega (arith, z, y, t, a));
        nonterminals_are = (let z = count_next (nonterminal_sizes s.host.now ok.extensible ok.pieces) e
            (added_nonterminals s.host.now x.grammar) (sized (added_nonterminals s.host.now)) in let y = h.nonterminals_are in
            omega (arith, z, y, n, b));
        productions_are = (let z = count_next (production_sizes s.host.now ok.extensible ok.pieces) e
            (added_productions s.host.now x.grammar) (sized (added_productions s.host.now)) in let y = h.productions_are in
            omega (arith, z, y, p, c));
      }
    where
      sized : (f : GrammarView → ℕ) → slice_get (map f (map (λ (z : Piece). z.grammar) ok.pieces)) e ≡ Some (f x.grammar)
      sized f = slice_get-map f (map (λ (z : Piece). z.grammar) ok.pieces) e ∙
          ap (option_map f) (slice_get-map (λ (z : Piece). z.grammar) ok.pieces e ∙ ap (option_map (λ (z : Piece). z.grammar)) at)

  -- the numbers of the extension with what it has and what comes before
  blocks_are : (e : ℕ) (x : Piece) (before size : Before) → slice_get ok.pieces e ≡ Some x → AreBefore s ok e before → IsSizeOf s e size →
      with_counts s ok before size ≡ blocks_at s ok (of e)
  blocks_are e x before size at h size_is =
      let (t, n, p) = size_is ok x at in
      (λ i. with_counts s ok
      (record { terminals = h.terminals_are i; nonterminals = h.nonterminals_are i; productions = h.productions_are i })
      (record { terminals = t i; nonterminals = n i; productions = p i })) ∙
      ap (λ c. record {
        terminals = block_of s.host.now.terminals c.terminals (total_of (terminal_sizes s.host.now ok.extensible ok.pieces))
            (length ok.extensible);
        nonterminals = block_of s.host.now.nonterminals c.nonterminals
            (total_of (nonterminal_sizes s.host.now ok.extensible ok.pieces)) 0;
        productions = block_of (length s.host.now.productions) c.productions
            (total_of (production_sizes s.host.now ok.extensible ok.pieces)) (length ok.extensible);
      }) (sym (cut_is s.host.now ok.extensible ok.pieces ok.certified.are_pieces e x at))

  pub blocks_start : BlocksUpTo s ok 0 []
  blocks_start = record { len = refl; each = λ e b at. absurd (nothing_at b e at) }

  pub blocks_more : (e : ℕ) (x : Piece) (before size : Before) (b : Blocks) (list more : List Blocks) → slice_get ok.pieces e ≡ Some x →
      AreBefore s ok e before → IsSizeOf s e size → IsWith s before size b → more ≡ list ++ b ∷ [] → BlocksUpTo s ok e list →
      BlocksUpTo s ok (e + 1) more
  blocks_more e x before size b list more at counted size_is b_is is h = subst (BlocksUpTo s ok (e + 1)) (sym is) (record {
    len = (let l = h.len in omega (arith, l, length-append {A = Blocks} list (b ∷ [])));
    each = λ f z there. elim (at_push list b z f there) [
      | inl old ↦ h.each f z old
      | inr (f_is, z_is) ↦ (let e' : e ≡ f = sym (f_is ∙ h.len) in
          sym z_is ∙ (b_is ok ∙ (blocks_are e x before size at counted size_is ∙ ap (λ j. blocks_at s ok (of j)) e')))
    ];
  })

  -- what the union has beyond the host
  pub totals_are : (s.union.now.terminals - s.host.now.terminals ≡ total_of (terminal_sizes s.host.now ok.extensible ok.pieces)) ×
      (s.union.now.nonterminals - s.host.now.nonterminals ≡ total_of (nonterminal_sizes s.host.now ok.extensible ok.pieces)) ×
      (length s.union.now.productions - length s.host.now.productions ≡ total_of (production_sizes s.host.now ok.extensible ok.pieces))
  totals_are =
      let t = ap (λ (z : GrammarView). z.terminals) ok.union_is in
      let n = ap (λ (z : GrammarView). z.nonterminals) ok.union_is in
      let p = ap (λ (z : GrammarView). length z.productions) ok.union_is in
      let len = united_len s.host.now ok.extensible ok.pieces in
      (omega (arith, t), omega (arith, n), omega (arith, p, len))

  -- so the numbers are these
  pub with_is : (before size : Before) (b : Blocks) → b ≡ record {
    terminals = record {
      own = s.host.now.terminals;
      before = before.terminals;
      size = size.terminals;
      total = s.union.now.terminals - s.host.now.terminals;
      holes = s.holes;
    };
    nonterminals = record {
      own = s.host.now.nonterminals;
      before = before.nonterminals;
      size = size.nonterminals;
      total = s.union.now.nonterminals - s.host.now.nonterminals;
      holes = 0;
    };
    productions = record {
      own = length s.host.now.productions;
      before = before.productions;
      size = size.productions;
      total = length s.union.now.productions - length s.host.now.productions;
      holes = s.holes;
    };
  } → b ≡ with_counts s ok before size
  with_is before size b is = is ∙ (λ i. record {
    terminals = record {
      own = s.host.now.terminals;
      before = before.terminals;
      size = size.terminals;
      total = totals_are.0 i;
      holes = ok.holes i;
    };
    nonterminals = record {
      own = s.host.now.nonterminals;
      before = before.nonterminals;
      size = size.nonterminals;
      total = totals_are.1 i;
      holes = 0;
    };
    productions = record {
      own = length s.host.now.productions;
      before = before.productions;
      size = size.productions;
      total = totals_are.2 i;
      holes = ok.holes i;
    };
  })
