-- Which pairs of terminals are compared, and when two that are compared don't clash.
use Rattle.std.proofs.Common.{◌≡◌, ◌≢◌, ◌⊎◌, inl, inr, ◌<◌, ◌≤◌, ◌+◌, ℕ, Bool, true, false, not, List, [], ◌∷◌, ◌++◌, Option, None, Some, length}
use Rattle.std.proofs.Common.{refl, sym, ◌∙◌, ap, subst, arith, get_or, slice_get, Contains}
use Rattle.std.specs.Prelude.{◌↔◌, IsSomeAnd, option_map}
use Rattle.std.proofs.lemmas.Bool.{cases_lt}
use Rattle.std.proofs.lemmas.List.{length-map}
use Rattle.std.proofs.lemmas.List.Elements.{Contains-append_left, Contains-push, Contains-push_cases}
use Rattle.std.proofs.lemmas.Option.{same_Some, slice_get_within, slice_get-map, slice_get-get_or}
use Rattle.wb_lemmas.proofs.Elements.{all_at, all_from_contained}
use Rattle.wb_lemmas.proofs.Members.{contains_at, place_of}
use Rattle.wb_lemmas.proofs.Places.{at_once}
use Rattle.wb_automata.specs.Automata.{IsMatch}
use Rattle.wb_automata.specs.Sharing.{ArePairsBelow, BothMatch, IsLeastSharedText, IsSharedText}
use Rattle.wb_automata.specs.declared.shared.SharedText.{SharedText}
use Rattle.wb_lexical.specs.Clash.{AreOrdered}
use Rattle.wb_regex.specs.Matches.{Matches}
use Rattle.wb_syntax_resolved.specs.declared.resolved.ResolvedParts.{ResolvedParts}
use Rattle.wb_syntax_resolved.specs.declared.terminal.Preference.{Preference}
use Rattle.wb_syntax_resolved.specs.declared.terminal.Terminal.{Terminal}
use Rattle.wb_syntax_resolved.specs.declared.terminal.TerminalKind.{TerminalKind}
use Rattle.wb_syntax_resolved.specs.declared.terminal.TerminalKind.TheVariants.{Plain, Marking, Ignore}
use Rattle.wb_syntax_resolved.specs.Resolved.{IsResolved, IsNamedTerminal, IsNamedPreference}
use Rattle.wb_termset.specs.Sets.{IsMember}
use Rattle.wb_marking.specs.declared.clashes.Compared.{Compared}
use Rattle.wb_marking.specs.Clashes.{AreRivals, HasNoMarkerClash, preference_pairs}
use Rattle.wb_marking.specs.Markers.{IsMarker}
use Rattle.wb_marking.specs.Refusals.{IsShownClash}
use Rattle.wb_marking.specs.Inner.Compared.{AreCompared, IsPreferenceBelow, Orders, SomeOrders, AreOrderedBy, AreOrderedWith}
use Rattle.wb_marking.specs.Inner.Compared.{AreGathered, ArePairsToTest, Gathers, IsCompared, IsPairToTest, Lists, MayClash, ShowsNone}
use Rattle.wb_marking.specs.Inner.Patterns.{patterns_of}

-- what a list of values of another has
mapped : {X Y : Type 0} (f : X → Y) (o : Option X) (y : Y) → option_map f o ≡ Some y → (x : X) × (o ≡ Some x) × (f x ≡ y)
mapped f None y is = absurd (cc)
mapped f (Some x) y is = (x, refl, same_Some (f x) y is)

module _ (r : ResolvedParts) where
  -- both terminals of each preference are there
  pub preferences_below : IsResolved r → (k : ℕ) (p : Preference) → slice_get r.preferences k ≡ Some p
      → IsPreferenceBelow (length r.terminals) p
  preferences_below is k p at =
      let named = all_at (IsNamedPreference r) r.preferences k p is.preferences at in record {
        first = slice_get_within r.terminals p.first named.first.terminal named.first.is;
        second = slice_get_within r.terminals p.second named.second.terminal named.second.is;
      }

  module _ (marker : ℕ) where
    -- one preference more
    pub ordered_more : (i : ℕ) (set after : List Bool) (p : Preference) → slice_get r.preferences i ≡ Some p → AreOrderedBy r i marker set
        → length after ≡ length set → ((other : ℕ) → IsMember after other ↔ (IsMember set other ⊎ Orders p marker other))
        → AreOrderedBy r (i + 1) marker after
    ordered_more i set after p at h same each = record {
      len = same ∙ h.len;
      each = λ other. (
        λ has. elim ((each other).0 has) [
          | inl old ↦
              let some = (h.each other).0 old in
              let before = some.before in
              record {
                place = some.place;
                before = omega (arith, before);
                preference = some.preference;
                at = some.at;
                orders = some.orders;
              }
          | inr new ↦ record { place = i; before = omega arith; preference = p; at = at; orders = new }
        ],
        λ some. elim (cases_lt some.place i) [
          | inl old ↦ (each other).1 (inl ((h.each other).1
              (record { place = some.place; before = old; preference = some.preference; at = some.at; orders = some.orders })))
          | inr past ↦
              let before = some.before in
              let last : some.place ≡ i = omega (arith, before, past) in
              let is : some.preference ≡ p =
              at_once r.preferences i some.preference p (subst (λ z. slice_get r.preferences z ≡ Some some.preference) last some.at) at in
              (each other).1 (inr (subst (λ z. Orders z marker other) is some.orders))
        ],
      );
    }

    pair_at : (k : ℕ) (p : Preference) (x y : ℕ) → slice_get r.preferences k ≡ Some p → p.first ≡ x → p.second ≡ y
        → Contains (preference_pairs r) (x, y)
    pair_at k p x y at first second =
        contains_at (preference_pairs r) (x, y) k
        (slice_get-map (λ (q : Preference). (q.first, q.second)) r.preferences k
        ∙ ap (option_map (λ (q : Preference). (q.first, q.second))) at
        ∙ ap Some (ap (λ (z : ℕ). (z, p.second)) first ∙ ap (λ (z : ℕ). (x, z)) second))

    at_pair : (x y : ℕ) → Contains (preference_pairs r) (x, y)
        → (k : ℕ) × (p : Preference) × (slice_get r.preferences k ≡ Some p) × (p.first ≡ x) × (p.second ≡ y)
    at_pair x y has =
        let (k, at) = place_of (preference_pairs r) (x, y) has in
        let (p, there, is) = mapped (λ (q : Preference). (q.first, q.second)) (slice_get r.preferences k) (x, y)
        (sym (slice_get-map (λ (q : Preference). (q.first, q.second)) r.preferences k) ∙ at) in
        (k, p, there, ap (λ (z : ℕ × ℕ). z.0) is, ap (λ (z : ℕ × ℕ). z.1) is)

    ordered_by : (other k : ℕ) (p : Preference) → slice_get r.preferences k ≡ Some p → Orders p marker other
        → AreOrdered (preference_pairs r) marker other
    ordered_by other k p at (inl (first, second)) = inl (pair_at k p marker other at first second)
    ordered_by other k p at (inr (second, first)) = inr (pair_at k p other marker at first second)

    some_orders : (other : ℕ) → AreOrdered (preference_pairs r) marker other → SomeOrders r.preferences (length r.preferences) marker other
    some_orders other (inl has) =
        let (k, p, at, first, second) = at_pair marker other has in
        record { place = k; before = slice_get_within r.preferences k p at; preference = p; at = at; orders = inl (first, second) }
    some_orders other (inr has) =
        let (k, p, at, first, second) = at_pair other marker has in
        record { place = k; before = slice_get_within r.preferences k p at; preference = p; at = at; orders = inr (second, first) }

    -- all preferences
    pub ordered_all : (i : ℕ) (set : List Bool) → length r.preferences ≤ i → AreOrderedBy r i marker set → AreOrderedWith r marker set
    ordered_all i set ended h = record {
      len = h.len;
      each = λ other. (
        λ has. let some = (h.each other).0 has in ordered_by other some.place some.preference some.at some.orders,
        λ ordered.
            let some = some_orders other ordered in
            let before = some.before in
            (h.each other).1 (record {
              place = some.place;
              before = omega (arith, before, ended);
              preference = some.preference;
              at = some.at;
              orders = some.orders;
            }),
      );
    }

    -- what is no marker shows no clash
    pub unmarked : ¬ IsMarker r marker → (other : ℕ) → ShowsNone r marker other
    unmarked lacks other text shown =
        let rivals = shown.clash.rivals in
        lacks (record { terminal = rivals.own; is = rivals.own_is; marking = rivals.marking })

    -- nor does what isn't compared
    pub not_compared : (other : ℕ) → ¬ AreCompared r marker other → ShowsNone r marker other
    not_compared other apart text shown = apart (record { rivals = shown.clash.rivals; in_order = shown.in_order })

    -- nor does what is ordered
    pub none_ordered : (other : ℕ) → AreOrdered (preference_pairs r) marker other → ShowsNone r marker other
    none_ordered other ordered text shown = shown.clash.unordered ordered

    match_at : (k : ℕ) (t : Terminal) (text : List ℕ) → slice_get r.terminals k ≡ Some t → IsMatch (patterns_of r.terminals) k text
        → Matches t.pattern text
    match_at k t text at m = subst (λ z. Matches z text) (same_Some m.tree t.pattern (sym m.at
        ∙ slice_get-map (λ (t : Terminal). t.pattern) r.terminals k ∙ ap (option_map (λ (t : Terminal). t.pattern)) at)) m.matches

    at_match : (k : ℕ) (t : Terminal) (text : List ℕ) → slice_get r.terminals k ≡ Some t → Matches t.pattern text
        → IsMatch (patterns_of r.terminals) k text
    at_match k t text at m = record {
      tree = t.pattern;
      at = slice_get-map (λ (t : Terminal). t.pattern) r.terminals k ∙ ap (option_map (λ (t : Terminal). t.pattern)) at;
      matches = m;
    }

    -- two that have to be tested and match a text show a clash
    pub shows : (other : ℕ) (text : List ℕ) → IsPairToTest r marker other → BothMatch (patterns_of r.terminals) (marker, other) text
        → IsShownClash r marker other text
    shows other text is (one, two) = record {
      clash = record {
        rivals = is.are.rivals;
        own_matches = match_at marker is.are.rivals.own text is.are.rivals.own_is one;
        rival_matches = match_at other is.are.rivals.rival text is.are.rivals.rival_is two;
        unordered = is.unordered;
      };
      in_order = is.are.in_order;
    }

    -- the two of a clash match its text
    pub both_match : (other : ℕ) (text : List ℕ) → IsShownClash r marker other text → BothMatch (patterns_of r.terminals) (marker, other) text
    both_match other text shown =
        let rivals = shown.clash.rivals in (
          at_match marker rivals.own text rivals.own_is shown.clash.own_matches,
          at_match other rivals.rival text rivals.rival_is shown.clash.rival_matches,
        )

  marking_or_not : (k : TerminalKind) → (k ≡ Marking) ⊎ ((k ≡ Marking) → ⊥)
  marking_or_not Plain = inr (λ is. cc)
  marking_or_not Ignore = inr (λ is. cc)
  marking_or_not Marking = inl refl

  not_plain : (k : TerminalKind) → k ≡ Marking → k ≢ Plain
  not_plain k is plain = let bad : Marking ≡ Plain = sym is ∙ plain in cc

  -- two markers are rivals either way
  turned : IsResolved r → (marker other : ℕ) → (are : AreRivals r marker other) → are.rival.kind ≡ Marking → AreRivals r other marker
  turned is marker other are marking = record {
    own = are.rival;
    own_is = are.rival_is;
    marking = marking;
    rival = are.own;
    rival_is = are.own_is;
    is_rival = elim are.is_rival [
      | inl hosts ↦ absurd ((all_at (IsNamedTerminal r) r.terminals other are.rival is.terminals are.rival_is).marking marking hosts)
      | inr (one, _) ↦ inr (sym one, not_plain are.own.kind are.marking)
    ];
    different = λ same. are.different (sym same);
  }

  turned_order : (marker other : ℕ) → AreOrdered (preference_pairs r) other marker → AreOrdered (preference_pairs r) marker other
  turned_order marker other (inl has) = inr has
  turned_order marker other (inr has) = inl has

  -- where no clash can be shown, there is none
  pub no_clash : IsResolved r → ((marker other : ℕ) → ShowsNone r marker other) → HasNoMarkerClash r
  unfolding turned
  no_clash is none marker other text clash = elim (marking_or_not clash.rivals.rival.kind) [
    | inl marking ↦ elim (cases_lt marker other) [
      | inl low ↦ none marker other text (record { clash = clash; in_order = λ _. low })
      | inr high ↦
          let different = clash.rivals.different in
          let low : other < marker = elim (cases_lt other marker) [
            | inl less ↦ less
            | inr more ↦ let same : marker ≡ other = omega (arith, high, more) in absurd (different same)
          ] in
          none other marker text (record {
            clash = record {
              rivals = turned is marker other clash.rivals marking;
              own_matches = clash.rival_matches;
              rival_matches = clash.own_matches;
              unordered = λ ordered. clash.unordered (turned_order marker other ordered);
            };
            in_order = λ _. low;
          })
    ]
    | inr other_kind ↦ none marker other text (record {
      clash = clash;
      in_order = λ marker_is.
          let same : marker_is.terminal ≡ clash.rivals.rival =
          at_once r.terminals other marker_is.terminal clash.rivals.rival marker_is.is clash.rivals.rival_is in
          absurd (other_kind (sym (ap (λ (t : Terminal). t.kind) same) ∙ marker_is.marking));
    })
  ]

-- what a reader of an equal list finds at a place
pub read_in : {X : Type 0} (ys xs : List X) → ys ≡ xs → (i : ℕ) (d : X) → i < length xs → slice_get xs i ≡ Some (get_or ys i d)
read_in ys xs same i d within =
    subst (λ z. slice_get z i ≡ Some (get_or ys i d)) same (slice_get-get_or ys i d (subst (λ z. i < length z) (sym same) within))

module _ (compared : Compared) (is : IsCompared compared) where
  -- there is an entry for the marker
  pub marker_within : compared.marker < length compared.scanned.now.parts.now.terminals
  marker_within = slice_get_within compared.scanned.now.parts.now.terminals compared.marker is.is_marker.terminal is.is_marker.is

  module _ (other : ℕ) where
    -- two that are one text each, and not the same, show no clash
    pub texts_differ : (o p : Option (List ℕ)) → slice_get compared.scanned.now.texts.now compared.marker ≡ Some o
        → slice_get compared.scanned.now.texts.now other ≡ Some p → IsSomeAnd o (λ x. IsSomeAnd p (λ y. x ≢ y))
        → ShowsNone compared.scanned.now.parts.now compared.marker other
    texts_differ None p at_o at_p differ = absurd differ
    texts_differ (Some x) None at_o at_p differ = absurd differ
    texts_differ (Some x) (Some y) at_o at_p differ = λ text shown.
        let rivals = shown.clash.rivals in
        let own = is.scanned.texts.each compared.marker rivals.own x rivals.own_is at_o in
        let rival = is.scanned.texts.each other rivals.rival y rivals.rival_is at_p in
        differ (sym (own.only text shown.clash.own_matches) ∙ rival.only text shown.clash.rival_matches)

    -- two that are compared and unordered have to be tested but where they differ
    pub may_clash : AreCompared compared.scanned.now.parts.now compared.marker other → ¬ IsMember compared.ordered.now other → (differ : Bool)
        → (differ ≡ true → ShowsNone compared.scanned.now.parts.now compared.marker other) → MayClash compared other (not differ)
    may_clash are unordered false shows_none =
        record { are = are; unordered = λ ordered. unordered ((is.ordered.each other).1 ordered) }
    may_clash are unordered true shows_none = shows_none refl

-- pairs as they are gathered
module _ (r : ResolvedParts) where
  pub gathers_none : (pairs : List (ℕ × ℕ)) → Gathers r pairs pairs
  gathers_none pairs = record { keeps = λ p has. has; sound = λ p has. inl has }

  pub gathers_more : (a b c : List (ℕ × ℕ)) → Gathers r a b → Gathers r b c → Gathers r a c
  gathers_more a b c h k = record {
    keeps = λ p has. k.keeps p (h.keeps p has);
    sound = λ p has. elim (k.sound p has) [ inr is ↦ inr is | inl old ↦ h.sound p old ];
  }

  pub gathers_push : (old new : List (ℕ × ℕ)) (marker other : ℕ) → new ≡ old ++ (marker, other) ∷ [] → IsPairToTest r marker other
      → Gathers r old new
  gathers_push old new marker other e is = record {
    keeps = λ p has. subst (λ z. Contains z p) (sym e) (Contains-append_left old ((marker, other) ∷ []) p has);
    sound = λ p has. elim (Contains-push_cases old (marker, other) p (subst (λ z. Contains z p) e has)) [
      | inl before ↦ inl before
      | inr same ↦ inr (subst (λ (z : ℕ × ℕ). IsPairToTest r z.0 z.1) same is)
    ];
  }

  pub lists_push : (old new : List (ℕ × ℕ)) (marker other : ℕ) → new ≡ old ++ (marker, other) ∷ [] → Lists r new marker other
  lists_push old new marker other e text shown = subst (λ z. Contains z (marker, other)) (sym e) (Contains-push old (marker, other))

  pub lists_none : (pairs : List (ℕ × ℕ)) (marker other : ℕ) → ShowsNone r marker other → Lists r pairs marker other
  lists_none pairs marker other none text shown = absurd (none text shown)

  pub lists_keeps : (old new : List (ℕ × ℕ)) (marker other : ℕ) → Gathers r old new → Lists r old marker other → Lists r new marker other
  lists_keeps old new marker other h l text shown = h.keeps (marker, other) (l text shown)

  pub gathered_none : (pairs : List (ℕ × ℕ)) → pairs ≡ [] → AreGathered r pairs 0
  gathered_none pairs e = record {
    sound = λ p has. absurd (none_in p (subst (λ z. Contains z p) e has));
    lists = λ m o lt. absurd (omega arith);
  }
    where
      none_in : (p : ℕ × ℕ) → Contains [] p → ⊥
      none_in p (k, lt, is) = absurd (omega arith)

  pub gathered_more : (old new : List (ℕ × ℕ)) (count : ℕ) → AreGathered r old count → Gathers r old new → ((other : ℕ) → Lists r new count other)
      → AreGathered r new (count + 1)
  gathered_more old new count h g here = record {
    sound = λ p has. elim (g.sound p has) [ inl before ↦ h.sound p before | inr is ↦ is ];
    lists = λ m o lt. elim (cases_lt m count) [
      | inl early ↦ lists_keeps old new m o g (h.lists m o early)
      | inr late ↦ (let e : count ≡ m = omega (arith, lt, late) in subst (λ z. Lists r new z o) e (here o))
    ];
  }

  pub gathered_all : (pairs : List (ℕ × ℕ)) (count : ℕ) → length r.terminals ≤ count → AreGathered r pairs count → ArePairsToTest r pairs
  gathered_all pairs count le h = record {
    sound = h.sound;
    lists = λ m o text shown.
        let within = slice_get_within r.terminals m shown.clash.rivals.own shown.clash.rivals.own_is in
        h.lists m o (omega (arith, within, le)) text shown;
  }

  pub pairs_below : (pairs : List (ℕ × ℕ)) → ArePairsToTest r pairs → ArePairsBelow (length (patterns_of r.terminals)) pairs
  pairs_below pairs h = all_from_contained (λ (p : ℕ × ℕ). (p.0 < length (patterns_of r.terminals)) × (p.1 < length (patterns_of r.terminals)))
      pairs (λ p has.
      let rivals = (h.sound p has).are.rivals in
      let long = length-map r.terminals (λ (t : Terminal). t.pattern) in (
        omega (arith, long, slice_get_within r.terminals p.0 rivals.own rivals.own_is),
        omega (arith, long, slice_get_within r.terminals p.1 rivals.rival rivals.rival_is),
      ))

  pub none_clash : IsResolved r → (pairs : List (ℕ × ℕ)) → ArePairsToTest r pairs → IsSharedText (patterns_of r.terminals) pairs None
      → HasNoMarkerClash r
  none_clash is pairs h none = no_clash r is (λ marker other text shown. none text (record {
    pair = (marker, other);
    listed = h.lists marker other text shown;
    both = both_match r marker other text shown;
  }))

  pub some_clash : (pairs : List (ℕ × ℕ)) (shared : SharedText) → ArePairsToTest r pairs
      → IsLeastSharedText (patterns_of r.terminals) pairs shared → IsShownClash r shared.left shared.right shared.text
  some_clash pairs shared h k = shows r shared.left shared.right shared.text (h.sound (shared.left, shared.right) k.listed) k.both
