-- Where markers are in right sides, and what a table of the productions that they begin says of it.
use Rattle.std.proofs.Common.{◌≡◌, ◌≢◌, inl, inr, ◌<◌, ◌+◌, ℕ, zero, suc, Bool, true, false, List, [], ◌∷◌, ◌++◌, Option}
use Rattle.std.proofs.Common.{None, Some, is_some, length, take, set}
use Rattle.std.proofs.Common.{refl, sym, ◌∙◌, ap, subst, arith, get_or, slice_get, Contains, length-set, get_or-set_same, get_or-set_other}
use Rattle.std.specs.Prelude.{IfSome, IfNone, slice_index_or, replicate}
use Rattle.std.proofs.lemmas.Bool.{cases_eq, cases_lt}
use Rattle.std.proofs.lemmas.Option.{same_Some, slice_get-get_or, slice_get_within, get_or_from_slice_get}
use Rattle.std.proofs.lemmas.List.{take_more, length-replicate}
use Rattle.wb_lemmas.proofs.Members.{nothing_in, push_contains, push_contains_last, contains_push}
use Rattle.wb_lemmas.proofs.Places.{at_within, at_once}
use Rattle.wb_termset.proofs.CallerLemmas.{IsEmpty-replicate, IsMember-insert, IsMember-insert_same, IsSubset-insert}
use Rattle.wb_termset.specs.Sets.{IsMember}
use Rattle.wb_base.specs.Grammar.{GrammarView, Production}
use Rattle.wb_base.specs.declared.symbol.Symbol.{Symbol}
use Rattle.wb_base.specs.declared.symbol.Symbol.TheVariants.{Terminal}
use Rattle.wb_syntax_resolved.specs.declared.resolved.ResolvedParts.{ResolvedParts}
use Rattle.wb_marking.specs.Markers.{IsMarker, IsAt}
use Rattle.wb_marking.specs.Bridges.{BeginsAlone, BeginsOne, EachBeginsOne, BeginWithMarkers, IsOnHost, IsClosed}
use Rattle.wb_marking.specs.Refusals.{IsElsewhere, IsNoBridge}
use Rattle.wb_marking.specs.Inner.Begun.{BeginsOnHost, AreBegun, IsBeginning, BeginsAllBefore, BeginsAll, IsMisplaced, IsUnused}
use Rattle.wb_marking.specs.Inner.Begun.{AreIn, IsOpen}

-- a terminal is one symbol
pub same_terminal : (a b : ℕ) → Terminal a ≡ Terminal b → a ≡ b
same_terminal a b is = cc

module _ (g : GrammarView) where
  -- a place is in a production of the grammar
  pub at_below : (terminal number place : ℕ) → IsAt g terminal number place → number < length g.productions
  at_below terminal number place a = slice_get_within g.productions number (a.left, a.right) a.production

  -- the left side of the production
  pub left_is : (number left : ℕ) → IfSome (slice_get g.productions number) (λ p. left ≡ p.0) → (terminal place : ℕ)
      (a : IsAt g terminal number place) → left ≡ a.left
  left_is number left is terminal place a = subst (λ o. IfSome o (λ p. left ≡ p.0)) a.production is

  -- the right side of the production has the terminal at this place
  pub right_at : (number : ℕ) (right : List Symbol) → IfSome (slice_get g.productions number) (λ p. right ≡ p.1) → (terminal place : ℕ)
      → IsAt g terminal number place → slice_get right place ≡ Some (Terminal terminal)
  right_at number right is terminal place a =
      let same : right ≡ a.right = subst (λ o. IfSome o (λ p. right ≡ p.1)) a.production is in
      subst (λ z. slice_get z place ≡ Some (Terminal terminal)) (sym same) a.at

  -- what the right side has at a place is there
  pub at_right : (number : ℕ) (right : List Symbol) → number < length g.productions
      → IfSome (slice_get g.productions number) (λ p. right ≡ p.1) → (terminal place : ℕ)
      → slice_get right place ≡ Some (Terminal terminal) → IsAt g terminal number place
  at_right number right within is terminal place there =
      let (p, at) = at_within g.productions number within in
      let same : right ≡ p.1 = subst (λ o. IfSome o (λ q. right ≡ q.1)) at is in
      record { left = p.0; right = p.1; production = at; at = subst (λ z. slice_get z place ≡ Some (Terminal terminal)) same there }

  -- one terminal is at a place
  pub one_at : (a b number place : ℕ) → IsAt g a number place → IsAt g b number place → a ≡ b
  one_at a b number place x y =
      let first : Production = (x.left, x.right) in
      let second : Production = (y.left, y.right) in
      let pairs : first ≡ second = at_once g.productions number first second x.production y.production in
      let rights : x.right ≡ y.right = ap (λ (p : Production). p.1) pairs in
      let same = at_once x.right place (Terminal a) (Terminal b) x.at
      (subst (λ z. slice_get z place ≡ Some (Terminal b)) (sym rights) y.at) in
      same_terminal a b same

  -- one production has one left side
  pub one_left : (a b number place other : ℕ) (x : IsAt g a number place) (y : IsAt g b number other) → x.left ≡ y.left
  one_left a b number place other x y =
      let first : Production = (x.left, x.right) in
      let second : Production = (y.left, y.right) in
      let pairs : first ≡ second = at_once g.productions number first second x.production y.production in
      ap (λ (p : Production). p.0) pairs

-- a marker is a terminal
pub marker_within : (r : ResolvedParts) (marker : ℕ) → IsMarker r marker → marker < length r.terminals
marker_within r marker is = slice_get_within r.terminals marker is.terminal is.is

-- what holds of the numbers below one and of it
pub each_more : (P : ℕ → Type 0) (i : ℕ) → ((n : ℕ) → n < i → P n) → P i → (n : ℕ) → n < i + 1 → P n
each_more P i before holds n low = elim (cases_lt n i) [
  | inl less ↦ before n less
  | inr past ↦ let last : n ≡ i = omega (arith, low, past) in subst P (sym last) holds
]

-- where the first symbol is no marker, no marker begins the production
pub none_begins : (r : ResolvedParts) (g : GrammarView) (number : ℕ) (right : List Symbol)
    → IfSome (slice_get g.productions number) (λ p. right ≡ p.1) → (found : Option ℕ) (d : Symbol)
    → IfNone found ((marker : ℕ) → get_or right 0 d ≡ Terminal marker → ¬ IsMarker r marker)
    → IfNone found ((marker : ℕ) → IsMarker r marker → ¬ IsAt g marker number 0)
none_begins r g number right is None d never = λ marker marked at.
    let there = right_at g number right is marker 0 at in
    never marker (get_or_from_slice_get right 0 (Terminal marker) d there) marked
none_begins r g number right is (Some found) d never = tt

-- where a marker that the symbol at a place is isn't at its beginning, it is misplaced
pub misplaced_at : (r : ResolvedParts) (g : GrammarView) (table : List (Option ℕ)) (number place : ℕ) (right : List Symbol)
    → number < length g.productions → IfSome (slice_get g.productions number) (λ p. right ≡ p.1) → place < length right → (d : Symbol)
    → (found : Option ℕ)
    → IfSome found (λ marker. (get_or right place d ≡ Terminal marker) × IsMarker r marker × (¬ IsBeginning table marker number place))
    → IfSome found (IsMisplaced r g table)
misplaced_at r g table number place right within is low d None some = tt
misplaced_at r g table number place right within is low d (Some marker) (symbol, is_marker, other) = record {
  is_marker = is_marker;
  number = number;
  place = place;
  at = at_right g number right within is marker place (slice_get-get_or right place d low ∙ ap (λ (s : Symbol). Some s) symbol);
  no_beginning = other;
}

-- one place more at which a marker is at its beginning
pub place_more : (r : ResolvedParts) (g : GrammarView) (table : List (Option ℕ)) (number count : ℕ) (right : List Symbol)
    → IfSome (slice_get g.productions number) (λ p. right ≡ p.1) → BeginsAllBefore r g table number count → (found : Option ℕ) (d : Symbol)
    → false ≡ is_some found
    → IfNone found ((marker : ℕ) → get_or right count d ≡ Terminal marker → IsMarker r marker → IsBeginning table marker number count)
    → BeginsAllBefore r g table number (count + 1)
place_more r g table number count right is before None d none holds marker place low marked at = elim (cases_lt place count) [
  | inl less ↦ before marker place less marked at
  | inr past ↦
      let last : place ≡ count = omega (arith, low, past) in
      let there = right_at g number right is marker place at in
      let here = get_or_from_slice_get right count (Terminal marker) d
      (subst (λ z. slice_get right z ≡ Some (Terminal marker)) last there) in
      subst (λ z. IsBeginning table marker number z) (sym last) (holds marker here marked)
]
place_more r g table number count right is before (Some found) d none holds marker place low marked at = absurd (cc)

module _ (r : ResolvedParts) (g : GrammarView) where
  -- a table of nothing
  none_at : (n k : ℕ) (o : Option ℕ) → slice_index_or (replicate n o) k o ≡ o
  none_at zero k o = refl
  none_at (suc n) zero o = refl
  none_at (suc n) (suc k) o = none_at n k o

  pub begun_none : (table : List (Option ℕ)) → table ≡ replicate (length r.terminals) None → length table ≡ length r.terminals
      → AreBegun r g 0 table
  begun_none table is long = record {
    len = long;
    true_ones = λ terminal number at.
        let nothing : Option ℕ = None in
        let none = ap (λ z. slice_index_or z terminal nothing) is ∙ none_at (length r.terminals) terminal nothing in
        let bad : nothing ≡ Some number = sym none ∙ at in
        absurd (cc);
    all = λ marker number before. absurd (omega (arith, before));
  }

  -- a production that no marker begins on a nonterminal of the host
  pub begun_skipped : (count : ℕ) (table : List (Option ℕ)) → AreBegun r g count table
      → ((marker : ℕ) → IsMarker r marker → ¬ BeginsOnHost r g marker count) → AreBegun r g (count + 1) table
  begun_skipped count table begun never = record {
    len = begun.len;
    true_ones = begun.true_ones;
    all = λ marker number before is b. elim (cases_lt number count) [
      | inl low ↦ begun.all marker number low is b
      | inr past ↦
          let last : number ≡ count = omega (arith, before, past) in
          absurd (never marker is (subst (BeginsOnHost r g marker) last b))
    ];
  }

  -- a production that a marker begins on a nonterminal of the host
  pub begun_put : (count : ℕ) (table after : List (Option ℕ)) (marker : ℕ) → AreBegun r g count table → IsMarker r marker
      → BeginsOnHost r g marker count → after ≡ set table marker (Some count) → AreBegun r g (count + 1) after
  begun_put count table after marker begun is_marker b now = record {
    len = ap length now ∙ length-set table marker (Some count) ∙ begun.len;
    true_ones = λ terminal number at. elim (cases_eq terminal marker) [
      | inl same ↦
          let own : Some count ≡ Some number = sym (here terminal same) ∙ at in
          let equal = same_Some count number own in
          subst (λ z. BeginsOnHost r g z number) (sym same) (subst (BeginsOnHost r g marker) equal b)
      | inr other ↦ begun.true_ones terminal number (sym (there terminal other) ∙ at)
    ];
    all = λ m number before is x. elim (cases_eq m marker) [
      | inl same ↦ (count, here m same)
      | inr other ↦ elim (cases_lt number count) [
        | inl low ↦ let (entry, at) = begun.all m number low is x in (entry, there m other ∙ at)
        | inr past ↦
            let last : number ≡ count = omega (arith, before, past) in
            absurd (other (one_at g m marker count 0 (subst (λ z. IsAt g m z 0) last x.begins) b.begins))
      ]
    ];
  }
    where
      here : (m : ℕ) → m ≡ marker → slice_index_or after m None ≡ Some count
      here m same =
          ap (λ z. slice_index_or z m None) now ∙ ap (λ z. slice_index_or (set table marker (Some count)) z None) same
          ∙ get_or-set_same table marker (Some count) None (subst (λ z. marker < z) (sym begun.len) (marker_within r marker is_marker))

      there : (m : ℕ) → m ≢ marker → slice_index_or after m None ≡ slice_index_or table m None
      there m other = ap (λ z. slice_index_or z m None) now ∙ get_or-set_other table marker m (Some count) None other

  module _ (table : List (Option ℕ)) (begun : AreBegun r g (length g.productions) table) where
    -- a marker that begins one production alone has it in the table
    alone_entry : (marker number : ℕ) → IsMarker r marker → BeginsAlone r g marker number → slice_index_or table marker None ≡ Some number
    alone_entry marker number is alone =
        let b : BeginsOnHost r g marker number = record { begins = alone.begins; host = alone.host } in
        let (entry, at) = begun.all marker number (at_below g marker number 0 alone.begins) is b in
        let (same, _) = alone.alone entry 0 (begun.true_ones marker entry at).begins in
        at ∙ ap Some same

    -- a marker at a place that is no beginning
    pub misplaced : (marker : ℕ) → BeginWithMarkers r g → IsMisplaced r g table marker → IsElsewhere r g marker
    misplaced marker begin wrong = record {
      begin = begin;
      is_marker = wrong.is_marker;
      lacks = λ (number, alone).
          let (same, first) = alone.alone wrong.number wrong.place wrong.at in
          wrong.no_beginning (first, alone_entry marker number wrong.is_marker alone ∙ ap Some (sym same));
    }

    -- a marker that the table hasn't
    pub unused : (marker : ℕ) → BeginWithMarkers r g → IsUnused r table marker → IsElsewhere r g marker
    unused marker begin wrong = record {
      begin = begin;
      is_marker = wrong.is_marker;
      lacks = λ (number, alone).
          let bad : None ≡ Some number = sym wrong.unused ∙ alone_entry marker number wrong.is_marker alone in
          absurd (cc);
    }

    begins_one : ((number : ℕ) → BeginsAll r g table number) → (marker : ℕ) → IsMarker r marker → (o : Option ℕ)
        → slice_index_or table marker None ≡ o → ¬ IsUnused r table marker → BeginsOne r g marker
    begins_one each marker is None entry used = absurd (used (record { is_marker = is; unused = entry }))
    begins_one each marker is (Some number) entry used =
        let b = begun.true_ones marker number entry in (
          number,
          record {
            begins = b.begins;
            host = b.host;
            alone = λ other place at.
                let (first, own) = each other marker place is at in
                (same_Some other number (sym own ∙ entry), first);
          },
        )

    -- where each place is a beginning and each marker in the table
    pub each_one : ((number : ℕ) → BeginsAll r g table number) → ((marker : ℕ) → ¬ IsUnused r table marker) → EachBeginsOne r g
    each_one each used marker is = begins_one each marker is (slice_index_or table marker None) refl (used marker)

-- a set of no numbers
pub set_none : (count : ℕ) → AreIn count [] (replicate count false)
set_none count = record {
  len = length-replicate count false;
  each = λ n. (λ has. absurd (IsEmpty-replicate count n has), λ listed. absurd (nothing_in n listed));
}

-- one number more in a set
pub set_more : (count : ℕ) (numbers : List ℕ) (i d : ℕ) (set_now after : List Bool) → i < length numbers → get_or numbers i d < count
    → AreIn count (take i numbers) set_now → after ≡ set set_now (get_or numbers i d) true → AreIn count (take (i + 1) numbers) after
set_more count numbers i d set_now after within small h now = record {
  len = ap length now ∙ length-set set_now (get_or numbers i d) true ∙ h.len;
  each = λ n. (
    λ has. subst (λ z. Contains z n) (sym step) (elim (IsMember-insert set_now (get_or numbers i d) n (subst (λ z. IsMember z n) now has)) [
      | inl old ↦ push_contains (take i numbers) (get_or numbers i d) n ((h.each n).0 old)
      | inr new ↦ subst (Contains (take i numbers ++ get_or numbers i d ∷ [])) (sym new)
          (push_contains_last (take i numbers) (get_or numbers i d))
    ]),
    λ listed. subst (λ z. IsMember z n) (sym now) (elim (contains_push (take i numbers) (get_or numbers i d) n
        (subst (λ z. Contains z n) step listed)) [
          | inl old ↦ IsSubset-insert set_now (get_or numbers i d) n ((h.each n).1 old)
          | inr new ↦ subst (IsMember (set set_now (get_or numbers i d) true)) new
              (IsMember-insert_same set_now (get_or numbers i d) (subst (λ z. get_or numbers i d < z) (sym h.len) small))
        ]),
  );
}
  where
    step : take (i + 1) numbers ≡ take i numbers ++ get_or numbers i d ∷ []
    step = take_more numbers i d within

module _ (r : ResolvedParts) (g : GrammarView) (number : ℕ) where
  -- a production on a nonterminal of the host with no marker at its beginning
  pub no_bridge : IsOnHost r g number → (found : Option ℕ) → is_some found ≡ false
      → IfNone found ((marker : ℕ) → IsMarker r marker → ¬ IsAt g marker number 0) → IsNoBridge r g number
  no_bridge on_host None none never = record { on_host = on_host; lacks = λ b. never b.marker b.is_marker b.begins }
  no_bridge on_host (Some marker) none never = absurd (cc)

  module _ (count left : ℕ) (set_now : List Bool) (are : AreIn count r.extensible set_now)
      (is_left : IfSome (slice_get g.productions number) (λ p. left ≡ p.0)) where
    -- one with a marker there whose left side isn't in the set
    pub is_closed : ¬ IsMember set_now left → (found : Option ℕ) → is_some found ≡ true
        → IfSome found (λ marker. IsMarker r marker × IsAt g marker number 0) → IsClosed r g number
    is_closed out None some found = absurd (cc)
    is_closed out (Some marker) some (is_marker, begins) = record {
      marked = record { marker = marker; is_marker = is_marker; begins = begins };
      closed = λ listed.
          let same = left_is g number left is_left marker 0 begins in
          out ((are.each left).1 (subst (Contains r.extensible) (sym same) listed));
    }

    -- one whose left side is in the set
    pub is_open : IsMember set_now left → IsOpen r g number
    is_open has marked =
        subst (Contains r.extensible) (left_is g number left is_left marked.marker 0 marked.begins) ((are.each left).0 has)

    -- one with no marker there
    pub unmarked_open : (found : Option ℕ) → is_some found ≡ false
        → IfNone found ((marker : ℕ) → IsMarker r marker → ¬ IsAt g marker number 0) → IsOpen r g number
    unmarked_open None none never marked = absurd (never marked.marker marked.is_marker marked.begins)
    unmarked_open (Some marker) none never marked = absurd (cc)
