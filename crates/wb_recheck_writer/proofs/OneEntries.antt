-- After the lines of a grammar there is one list of entries as they are first reached.
use Rattle.std.proofs.Common.{◌≡◌, ℕ, ◌<◌, ◌≤◌, ◌+◌, zero, suc, List, [], ◌∷◌, ◌++◌, length, take, Option, Some, refl, sym, ◌∙◌, ap}
use Rattle.std.proofs.Common.{subst, inl, inr, arith}
use Rattle.std.specs.Prelude.{◌⊎◌, slice_get}
use Rattle.std.proofs.lemmas.Bool.{cases_lt}
use Rattle.std.proofs.lemmas.Option.{same_Some, slice_get_within}
use Rattle.wb_lemmas.proofs.Places.{at_once, at_within}
use Rattle.wb_base.specs.declared.symbol.Symbol.{Symbol}
use Rattle.wb_base.specs.Grammar.{GrammarView}
use Rattle.wb_grammar_theory.specs.declared.item.Item.{Item}
use Rattle.wb_recheck_theory.specs.declared.line.Line.{Line}
use Rattle.wb_recheck_theory.specs.declared.entry.Entry.{Entry}
use Rattle.wb_recheck_theory.specs.Lines.{AreGoodLines, IsMoveOf}
use Rattle.wb_recheck_theory.specs.Entries.{AreEntriesListed, AreGoodEntries, IsFollowed, IsGoodEntry, first_entry, opens, moves_on}
use Rattle.wb_recheck_theory.proofs.LinesLemmas.{move_once}
use Rattle.wb_recheck_writer.specs.Order.{AreEntriesInOrder, FollowerPrecedes, by_production, by_terminal, by_move, HasMoreEntries}
use Rattle.wb_recheck_writer.specs.Order.{IsWrittenCertificate}
use Rattle.wb_recheck_writer.specs.Inner.Reached.{AreReached}
use Rattle.wb_recheck_writer.proofs.OneLines.{across, compare_numbers, one_lines, same_lists, take_at}

-- the kernels, items and terminals are the same
pub record IsSameLookahead (e f : Entry) : Type 0 where
  pub kernel : e.kernel ≡ f.kernel
  pub item : e.item ≡ f.item
  pub terminal : e.terminal ≡ f.terminal

no_dot : (d : ℕ) → d + 1 ≡ 0 → ⊥
no_dot d e = omega (arith, e)

first_same : (x y : Symbol) (v w : List Symbol) → x ∷ v ≡ y ∷ w → x ≡ y
first_same x y v w e = cc

abbrev item_of : ℕ → ℕ → Item
item_of p d = record { production = p; dot = d }

-- of two that follow from one entry one comes before the other, or they are the same
compare_followers : {g : GrammarView} {lines : List Line} → AreGoodLines g lines → (source e f : Entry) →
    IsFollowed g lines source.kernel source.item source.terminal e.kernel e.item e.terminal →
    IsFollowed g lines source.kernel source.item source.terminal f.kernel f.item f.terminal →
    FollowerPrecedes e.item e.terminal f.item f.terminal ⊎ (IsSameLookahead e f ⊎ FollowerPrecedes f.item f.terminal e.item e.terminal)
compare_followers good source e f (opens b rest q right is rule first same is_item)
    (opens b' rest' q' right' is' rule' first' same' is_item') =
    let e_dot : e.item.dot ≡ 0 = ap (λ (i : Item). i.dot) is_item in
    let f_dot : f.item.dot ≡ 0 = ap (λ (i : Item). i.dot) is_item' in
    elim (compare_numbers e.item.production f.item.production) [
      | inl less ↦ inl (by_production e_dot f_dot less)
      | inr (inr more) ↦ inr (inr (by_production f_dot e_dot more))
      | inr (inl equal) ↦ elim (compare_numbers e.terminal f.terminal) [
        | inl less ↦ inl (by_terminal e_dot f_dot equal less)
        | inr (inr more) ↦ inr (inr (by_terminal f_dot e_dot (sym equal) more))
        | inr (inl terminal) ↦ inr (inl (record {
          kernel = same ∙ sym same';
          item = ap (λ p. item_of p e.item.dot) equal ∙ ap (item_of f.item.production) (e_dot ∙ sym f_dot);
          terminal = terminal;
        }))
      ]
    ]
compare_followers good source e f (opens b rest q right is rule first same is_item) (moves_on x rest' is' lt is_move is_item' same') =
    inl (by_move (ap (λ (i : Item). i.dot) is_item)
    (λ zero_dot. no_dot source.item.dot (sym (ap (λ (i : Item). i.dot) is_item') ∙ zero_dot)))
compare_followers good source e f (moves_on x rest is lt is_move is_item same) (opens b rest' q right is' rule first same' is_item') =
    inr (inr (by_move (ap (λ (i : Item). i.dot) is_item')
    (λ zero_dot. no_dot source.item.dot (sym (ap (λ (i : Item). i.dot) is_item) ∙ zero_dot))))
compare_followers {g} {lines} good source e f (moves_on x rest is lt is_move is_item same)
    (moves_on y rest' is' lt' is_move' is_item' same') =
    let x_is : x ≡ y = first_same x y rest rest' (sym is ∙ is') in
    inr (inl (record {
      kernel = move_once g lines good source.kernel x e.kernel f.kernel lt lt' is_move
          (subst (λ z. IsMoveOf g lines source.kernel z f.kernel) (sym x_is) is_move');
      item = is_item ∙ sym is_item';
      terminal = same ∙ sym same';
    }))

abbrev entry_of : ℕ → Item → ℕ → Option ℕ → Entry
entry_of k item t origin = record { kernel = k; item = item; terminal = t; origin = origin }

same_entry : (e f : Entry) → IsSameLookahead e f → e.origin ≡ f.origin → e ≡ f
same_entry e f same origin =
    ap (λ k. entry_of k e.item e.terminal e.origin) same.kernel ∙ (ap (λ i. entry_of f.kernel i e.terminal e.origin) same.item
    ∙ (ap (λ t. entry_of f.kernel f.item t e.origin) same.terminal ∙ ap (entry_of f.kernel f.item f.terminal) origin))

module _ {g : GrammarView} {lines : List Line} (good : AreGoodLines g lines) where
  module _ (entries others : List Entry) (n : ℕ) (same : take n entries ≡ take n others) (e f : Entry)
      (good_e : IsGoodEntry g lines entries n e) (good_f : IsGoodEntry g lines others n f) (at : slice_get others n ≡ Some f)
      (order : AreEntriesInOrder g lines others) where
    -- an entry that isn't in the other list before comes before none there at its place
    pub entry_not_before : (good_e.place < good_f.place) ⊎ ((good_e.place ≡ good_f.place) ×
        FollowerPrecedes e.item e.terminal f.item f.terminal) → ⊥
    entry_not_before first =
        let source = across entries others n good_e.place good_e.source same good_e.earlier good_e.at in
        let (i, origin, lt, there) = order n f at good_e.place good_e.source e.kernel e.item e.terminal source good_e.follows
        (good_f.place, good_f.origin, first) in
        good_e.different i origin lt (across others entries n i (entry_of e.kernel e.item e.terminal origin) (sym same) lt there)

  -- so entries at the place after those that both lists have are one
  pub entry_once : (entries others : List Entry) (n : ℕ) → take n entries ≡ take n others → (e f : Entry) →
      IsGoodEntry g lines entries n e → IsGoodEntry g lines others n f → slice_get entries n ≡ Some e → slice_get others n ≡ Some f →
      AreEntriesInOrder g lines entries → AreEntriesInOrder g lines others → e ≡ f
  entry_once entries others n same e f good_e good_f at at' order ordered =
      elim (compare_numbers good_e.place good_f.place) [
        | inl less ↦ absurd (entry_not_before entries others n same e f good_e good_f at' ordered (inl less))
        | inr (inr more) ↦ absurd (entry_not_before others entries n (sym same) f e good_f good_e at order (inl more))
        | inr (inl equal) ↦ at_one_place equal
      ]
    where
      at_one_place : good_e.place ≡ good_f.place → e ≡ f
      at_one_place equal =
          let there = across entries others n good_e.place good_e.source same good_e.earlier good_e.at in
          let one : good_f.source ≡ good_e.source = at_once others good_e.place good_f.source good_e.source
          (ap (slice_get others) equal ∙ good_f.at) there in
          let follows = subst (λ (z : Entry). IsFollowed g lines z.kernel z.item z.terminal f.kernel f.item f.terminal) one
          good_f.follows in
          elim (compare_followers good good_e.source e f good_e.follows follows) [
            | inl less ↦ absurd (entry_not_before entries others n same e f good_e good_f at' ordered (inr (equal, less)))
            | inr (inl is) ↦ same_entry e f is (good_e.origin ∙ (ap Some equal ∙ sym good_f.origin))
            | inr (inr more) ↦ absurd (entry_not_before others entries n (sym same) f e good_f good_e at order (inr (sym equal, more)))
          ]

  module _ (entries others : List Entry) (first : slice_get entries 0 ≡ Some (first_entry g))
      (good_entries : AreGoodEntries g lines entries)
      (order : AreEntriesInOrder g lines entries) (first' : slice_get others 0 ≡ Some (first_entry g))
      (good_others : AreGoodEntries g lines others) (ordered : AreEntriesInOrder g lines others)
      (listed : AreEntriesListed g lines others) where
    -- where the other list has what follows, it goes on
    more_others : (n : ℕ) → take n entries ≡ take n others → (e : Entry) → slice_get entries n ≡ Some e → n < length others
    more_others zero same e at = slice_get_within others 0 (first_entry g) first'
    more_others (suc n) same e at =
        let h = good_entries n e at in
        let (i, origin, there) = listed h.source.kernel h.source.item h.source.terminal
        (h.place, h.source.origin, across entries others (suc n) h.place h.source same h.earlier h.at) e.kernel e.item e.terminal
        h.follows in
        let within = slice_get_within others i (entry_of e.kernel e.item e.terminal origin) there in
        elim (cases_lt i (suc n)) [
          | inl less ↦ absurd (h.different i origin less
              (across others entries (suc n) i (entry_of e.kernel e.item e.terminal origin) (sym same) less there))
          | inr past ↦ (let z : suc n < length others = omega (arith, past, within) in z)
        ]

    equal_at : (n : ℕ) → take n entries ≡ take n others → (e f : Entry) → slice_get entries n ≡ Some e → slice_get others n ≡ Some f → e ≡ f
    equal_at zero same e f at at' = same_Some e f (sym at ∙ (first ∙ (sym first' ∙ at')))
    equal_at (suc n) same e f at at' =
        entry_once entries others (suc n) same e f (good_entries n e at) (good_others n f at') at at' order ordered

    -- entries that are good and in order begin the list
    pub entries_begin : (n : ℕ) → n ≤ length entries → (n ≤ length others) × (take n entries ≡ take n others)
    entries_begin zero le = (omega arith, refl)
    entries_begin (suc n) le =
        let (inside, same) = entries_begin n (omega (arith, le)) in
        let (e, at) = at_within entries n (omega (arith, le)) in
        let more = more_others n same e at in
        let (f, at') = at_within others n more in
        let is = equal_at n same e f at at' in
        let next : n + 1 ≡ suc n = omega arith in (
          omega (arith, more),
          ap (λ z. take z entries) (sym next) ∙ (take_at entries n e at ∙ (ap (λ z. z ++ e ∷ []) same
              ∙ (ap (λ z. take n others ++ z ∷ []) is ∙ (sym (take_at others n f at') ∙ ap (λ z. take z others) next)))),
        )

-- a grammar has one certificate as it is written: its lines
pub written_lines : {g : GrammarView} (lines more : List Line) (entries others : List Entry) → IsWrittenCertificate g lines entries →
    IsWrittenCertificate g more others → lines ≡ more
written_lines lines more entries others one two =
    one_lines lines more one.certificate.lines_good one.lines_in_order one.certificate.moves_listed two.certificate.lines_good
    two.lines_in_order two.certificate.moves_listed

-- and its entries
pub written_entries : {g : GrammarView} (lines more : List Line) (entries others : List Entry) → IsWrittenCertificate g lines entries →
    IsWrittenCertificate g more others → entries ≡ others
written_entries {g} lines more entries others one two' = by (subst (λ l. IsWrittenCertificate g l others)
    (sym (written_lines lines more entries others one two')) two')
  where
    by : IsWrittenCertificate g lines others → entries ≡ others
    by two =
        same_lists entries others
        (entries_begin one.certificate.lines_good entries others one.certificate.entry_first one.certificate.entries_good
        one.entries_in_order
        two.certificate.entry_first two.certificate.entries_good two.entries_in_order two.certificate.entries_listed (length entries)
        (omega arith))
        (entries_begin one.certificate.lines_good others entries two.certificate.entry_first two.certificate.entries_good
        two.entries_in_order
        one.certificate.entry_first one.certificate.entries_good one.entries_in_order one.certificate.entries_listed (length others)
        (omega arith))

-- and entries as they are reached begin it, so it has no fewer
pub written_longer : {g : GrammarView} (lines : List Line) (entries : List Entry) (place most : ℕ) → AreGoodLines g lines →
    ((more : List Line) (others : List Entry) → IsWrittenCertificate g more others → lines ≡ more) → AreReached g lines entries place →
    most < length entries → HasMoreEntries g most
written_longer {g} lines entries place most good one reached long more others two' =
    by (subst (λ l. IsWrittenCertificate g l others) (sym (one more others two')) two')
  where
    by : IsWrittenCertificate g lines others → most < length others
    by two =
        let (le, _) = entries_begin good entries others reached.worklist.entry_first reached.worklist.entries_good reached.in_order
        two.certificate.entry_first two.certificate.entries_good two.entries_in_order two.certificate.entries_listed (length entries)
        (omega arith) in
        omega (arith, le, long)
