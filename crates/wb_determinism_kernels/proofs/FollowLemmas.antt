-- The moves of a new kernel, and new kernels that are followed one after another.
use Rattle.std.proofs.Common.{◌≡◌, ◌+◌, ◌<◌, ◌∙◌, ◌∷◌, ◌++◌, [], List, ℕ, Some, length, refl, sym, ap, subst, inl, inr, arith}
use Rattle.std.proofs.Common.{length-append}
use Rattle.std.specs.Prelude.{◌↔◌, Contains, slice_get}
use Rattle.std.proofs.lemmas.Option.{slice_get_within}
use Rattle.wb_lemmas.proofs.Members.{contains_at, place_of}
use Rattle.wb_lemmas.proofs.Places.{at_once, at_push, at_within}
use Rattle.wb_base.specs.declared.symbol.Symbol.{Symbol}
use Rattle.wb_base.specs.Grammar.{GrammarView}
use Rattle.wb_grammar_theory.specs.declared.item.Item.{Item}
use Rattle.wb_grammar_theory.specs.Closure.{InClosure, kernel, opened}
use Rattle.wb_grammar_theory.specs.Items.{IsKernelItem}
use Rattle.wb_grammar_theory.specs.Shape.{IsLive}
use Rattle.wb_grammar_theory.proofs.ClosureLemmas.{closure_complete, closure_sound}
use Rattle.wb_items.specs.declared.transitions.Move.{Move}
use Rattle.wb_items.specs.Moved.{IsKernelFor}
use Rattle.wb_items.specs.Kernels.{KernelsView, ListsItems, ListsKernel, count_of}
use Rattle.wb_items.specs.Order.{SymbolPrecedes}
use Rattle.wb_items.specs.Table.{IsRow, Leads}
use Rattle.wb_items.proofs.TableLemmas.{moved_kernel}
use Rattle.wb_compose_theory.specs.Renamings.{Renaming}
use Rattle.wb_determinism_kernels.specs.declared.moved.MovedKernel.{MovedKernel}
use Rattle.wb_determinism_kernels.specs.NewKernels.{IndexView, prefix_beside, prefixes_beside}
use Rattle.wb_determinism_kernels.specs.Inner.Following.{AreFollowed, AreKernelsAfter, IsRowAdded, RowUpTo}
use Rattle.wb_determinism_kernels.specs.Inner.Growing.{AreFoundSoFar, Grows, IsAdded}
use Rattle.wb_determinism_kernels.specs.Inner.MovedKernels.{AreMovedKernels}
use Rattle.wb_determinism_kernels.proofs.GrowLemmas.{grows_none, grows_then, leads_grows}
use Rattle.wb_determinism_kernels.proofs.PrefixLemmas.{beside_at}

-- the items that move over a symbol are the kernel after it
pub after_kernels : (host : KernelsView) (k : GrammarView) (up : Renaming) (found : IndexView) (place : ℕ) (closure : List Item)
    (moved : List MovedKernel) → IsLive k →
    ((prefix : List Symbol) → slice_get (prefixes_beside up host found.steps) (count_of host + place) ≡ Some prefix → ListsItems k prefix
    closure) → AreMovedKernels k closure moved → AreKernelsAfter host k up found moved place
after_kernels host k up found place closure moved live lists h prefix at i m at_m =
    let one = h.each i m at_m in
    moved_kernel k live prefix m.symbol m.kernel one.some.0 (λ item. (
      λ c.
          let f = (one.exact item).0 c in
          record {
            item = f.item;
            rest = f.rest;
            within = closure_complete ((lists prefix at f.item).0 f.listed).1;
            before_dot = f.before_dot;
            is = f.is;
          },
      λ f. (one.exact item).1 (record {
        item = f.item;
        rest = f.rest;
        listed = (lists prefix at f.item).1 (closure_sound prefix live f.within);
        before_dot = f.before_dot;
        is = f.is;
      }),
    )) one.in_order one.some.1

closure_by : {k : GrammarView} (prefix : List Symbol) (items : List Item) → ((item : Item) → Contains items item → IsKernelItem k prefix
    item) →
    {item : Item} → InClosure k (Contains items) item → InClosure k (IsKernelItem k prefix) item
closure_by prefix items f (kernel c) = kernel (f _ c)
closure_by prefix items f (opened item b rest q right c is rule) = opened item b rest q right (closure_by prefix items f c) is rule

closure_from : {k : GrammarView} (prefix : List Symbol) (items : List Item) → ((item : Item) → IsKernelItem k prefix item → Contains
    items item) →
    {item : Item} → InClosure k (IsKernelItem k prefix) item → InClosure k (Contains items) item
closure_from prefix items f (kernel c) = kernel (f _ c)
closure_from prefix items f (opened item b rest q right c is rule) = opened item b rest q right (closure_from prefix items f c) is rule

-- the closure of the listed kernel has the items of its prefix
pub closure_lists : (k : GrammarView) → IsLive k → (prefix : List Symbol) (items closure : List Item) → ListsKernel k prefix items →
    ((item : Item) → Contains closure item ↔ InClosure k (Contains items) item) → ListsItems k prefix closure
closure_lists k live prefix items closure lists exact item = (
  λ there. closure_sound prefix live (closure_by prefix items (λ i c. (lists i).0 c) ((exact item).0 there)),
  λ (t, v). (exact item).1 (closure_from prefix items (λ i c. (lists i).1 c) (closure_complete v)),
)

-- the move over a kernel's symbol
abbrev move_to : MovedKernel → ℕ → Move
move_to m next = record { symbol = m.symbol; state = next }

module _ {host : KernelsView} {k : GrammarView} {up : Renaming} where
  pub row_start : (found : IndexView) (moved : List MovedKernel) (place : ℕ) → AreFoundSoFar host k up found → place < length
      found.kernels →
      RowUpTo host k up found found moved place [] 0
  row_start found moved place so_far lt = record {
    so_far = so_far;
    grows = grows_none host k up found;
    within = lt;
    len = refl;
    over = λ i m move at there. cc;
    sound = λ i move at. cc;
  }

  -- at a number that was there before are the same kernels after symbols
  pub after_grows : (old new : IndexView) (moved : List MovedKernel) (place : ℕ) → AreFoundSoFar host k up old → place < length
      old.kernels →
      Grows host k up old new → AreKernelsAfter host k up old moved place → AreKernelsAfter host k up new moved place
  after_grows old new moved place so_far lt grows h prefix at i m at_m =
      let p = prefix_beside up host old.steps (count_of host + place) in
      let there : slice_get (prefixes_beside up host old.steps) (count_of host + place) ≡ Some p = beside_at up host old.steps
      (count_of host + place) (let e = so_far.len in omega (arith, e, lt)) in
      let same = at_once (prefixes_beside up host new.steps) (count_of host + place) p prefix
      (grows.prefixes (count_of host + place) p there) at in
      subst (λ z. IsKernelFor k (z ++ m.symbol ∷ []) m.kernel) same (h p there i m at_m)

  pub row_then : (old now new : IndexView) (moved : List MovedKernel) (place : ℕ) (row more : List Move) (n m : ℕ) →
      RowUpTo host k up old now moved place row n → RowUpTo host k up now new moved place more m →
      RowUpTo host k up old new moved place more m
  row_then old now new moved place row more n m before after = record {
    so_far = after.so_far;
    grows = grows_then before.grows after.grows;
    within = before.within;
    len = after.len;
    over = after.over;
    sound = after.sound;
  }

  pub still_within : (old now : IndexView) (place : ℕ) → Grows host k up old now → place < length old.kernels → place < length now.kernels
  still_within old now place grows lt =
      let (items, at) = at_within old.kernels place lt in
      slice_get_within now.kernels place items (grows.kernels place items at)

  -- a pass goes on from what is there
  pub row_now : (old now : IndexView) (moved : List MovedKernel) (place : ℕ) (row : List Move) (n : ℕ) →
      RowUpTo host k up old now moved place row n → RowUpTo host k up now now moved place row n
  row_now old now moved place row n h = record {
    so_far = h.so_far;
    grows = grows_none host k up now;
    within = still_within old now place h.grows h.within;
    len = h.len;
    over = h.over;
    sound = h.sound;
  }

  -- one move more
  pub row_more : (old new : IndexView) (moved : List MovedKernel) (place : ℕ) (row more : List Move) (n next : ℕ) (m : MovedKernel) →
      RowUpTo host k up old old moved place row n → slice_get moved n ≡ Some m →
      IsAdded host k up old new (count_of host + place) m.symbol next → more ≡ row ++ record { symbol = m.symbol; state = next } ∷ [] →
      RowUpTo host k up old new moved place more (n + 1)
  row_more old new moved place row more n next m h at_m added is = subst (λ z. RowUpTo host k up old new moved place z (n + 1)) (sym is)
      (record {
        so_far = added.so_far;
        grows = added.grows;
        within = h.within;
        len = (let e = h.len in omega (arith, e, length-append {A = Move} row (move_to m next ∷ [])));
        over = λ i other move at there. elim (at_push row (move_to m next) move i there) [
          | inl known ↦ h.over i other move at known
          | inr last ↦
              let i_is : i ≡ n = (let e = h.len in last.0 ∙ e) in
              sym (ap (λ (z : Move). z.symbol) last.1) ∙
              ap (λ (z : MovedKernel). z.symbol) (at_once moved n m other at_m (subst (λ z. slice_get moved z ≡ Some other) i_is at))
        ];
        sound = λ i move there. elim (at_push row (move_to m next) move i there) [
          | inl known ↦ leads_grows old new added.grows (h.sound i move known)
          | inr last ↦ subst (λ (z : Move). Leads k (prefixes_beside up host new.steps) (count_of host + place) z.symbol z.state) last.1
              added.leads
        ];
      })

  -- all symbols have their moves
  pub row_done : (old new : IndexView) (closure : List Item) (moved : List MovedKernel) (place : ℕ) (row : List Move) →
      AreMovedKernels k closure moved → RowUpTo host k up old new moved place row (length moved) →
      IsRowAdded host k up old new closure place row
  row_done old new closure moved place row h r = record {
    so_far = r.so_far;
    grows = r.grows;
    is_row = record {
      sound = λ move c. (let (i, at) = place_of row move c in r.sound i move at);
      ordered = λ i j a b lt one two.
          let (m, at_m) = at_within moved i (let w = slice_get_within row i a one in let e = r.len in omega (arith, w, e)) in
          let (m', at_m') = at_within moved j (let w = slice_get_within row j b two in let e = r.len in omega (arith, w, e)) in
          subst (λ z. SymbolPrecedes z b.symbol) (sym (r.over i m a at_m one))
          (subst (SymbolPrecedes m.symbol) (sym (r.over j m' b at_m' two)) (h.ordered i j m m' lt at_m at_m'));
      complete = λ item x rest c is.
          let (i, m, at_m, m_is) = h.complete item x rest c is in
          let (move, there) = at_within row i (let w = slice_get_within moved i m at_m in let e = r.len in omega (arith, w, e)) in
          let x_is : move.symbol ≡ x = r.over i m move at_m there ∙ m_is in
          (move.state, subst (λ z. Contains row (record { symbol = z; state = move.state })) x_is (contains_at row move i there));
    };
  }

  pub none_followed : (found : IndexView) → AreFollowed host k up found [] []
  none_followed found = record {
    len = refl;
    exact = λ i prefix closure at there. cc;
    moves = λ i closure row there at. cc;
  }

  -- one more has been followed
  pub followed_more : (old new : IndexView) (closures closures' : List (List Item)) (rows rows' : List (List Move)) (closure : List Item)
      (row : List Move) → AreFoundSoFar host k up old → length closures < length old.kernels → AreFollowed host k up old closures rows →
      IsRowAdded host k up old new closure (length closures) row →
      ((prefix : List Symbol) → slice_get (prefixes_beside up host old.steps) (count_of host + length closures) ≡ Some prefix →
      ListsItems k prefix closure) → closures' ≡ closures ++ closure ∷ [] → rows' ≡ rows ++ row ∷ [] →
      AreFollowed host k up new closures' rows'
  followed_more old new closures closures' rows rows' closure row so_far lt h added lists is is' =
      subst (λ z. AreFollowed host k up new z rows') (sym is) (subst (AreFollowed host k up new (closures ++ closure ∷ [])) (sym is')
      (record {
        len = (let e = h.len in omega
            (arith, e, length-append {A = List Move} rows (row ∷ []), length-append {A = List Item} closures (closure ∷ [])));
        exact = λ i p items at there. elim (at_push closures closure items i there) [
          | inl known ↦ h.exact i p items (back i p (let w = slice_get_within closures i items known in omega (arith, w, lt)) at) known
          | inr last ↦ subst (ListsItems k p) last.1
              (lists p (subst (λ z. slice_get (prefixes_beside up host old.steps) (count_of host + z) ≡ Some p) last.0
              (back i p (let e = last.0 in omega (arith, e, lt)) at)))
        ];
        moves = λ i items moves there at. elim (at_push closures closure items i there) [
          | inl known ↦ elim (at_push rows row moves i at) [
            | inl known' ↦ grown i items moves (h.moves i items moves known known')
            | inr last' ↦ absurd (let w = slice_get_within closures i items known in let e = h.len in omega (arith, w, e, last'.0))
          ]
          | inr last ↦ elim (at_push rows row moves i at) [
            | inl known' ↦ absurd (let w = slice_get_within rows i moves known' in let e = h.len in omega (arith, w, e, last.0))
            | inr last' ↦ subst (λ z. IsRow k (prefixes_beside up host new.steps) items (count_of host + z) moves) (sym last.0)
                (subst (λ z. IsRow k (prefixes_beside up host new.steps) z (count_of host + length closures) moves) last.1
                (subst (IsRow k (prefixes_beside up host new.steps) closure (count_of host + length closures)) last'.1 added.is_row))
          ]
        ];
      }))
    where
      back : (i : ℕ) (p : List Symbol) → i < length old.kernels → slice_get (prefixes_beside up host new.steps) (count_of host + i) ≡
          Some p →
          slice_get (prefixes_beside up host old.steps) (count_of host + i) ≡ Some p
      back i p below at =
          let q = prefix_beside up host old.steps (count_of host + i) in
          let there : slice_get (prefixes_beside up host old.steps) (count_of host + i) ≡ Some q = beside_at up host old.steps (count_of
          host + i)
          (let e = so_far.len in omega (arith, e, below)) in
          let same = at_once (prefixes_beside up host new.steps) (count_of host + i) q p (added.grows.prefixes (count_of host + i) q
          there) at
          in
          subst (λ z. slice_get (prefixes_beside up host old.steps) (count_of host + i) ≡ Some z) same there

      grown : (i : ℕ) (items : List Item) (moves : List Move) → IsRow k (prefixes_beside up host old.steps) items (count_of host + i)
          moves →
          IsRow k (prefixes_beside up host new.steps) items (count_of host + i) moves
      grown i items moves r = record {
        sound = λ move c. leads_grows old new added.grows (r.sound move c);
        ordered = r.ordered;
        complete = r.complete;
      }
