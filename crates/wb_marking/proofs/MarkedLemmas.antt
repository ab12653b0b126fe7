-- What composition reads off the rules on bridges.
use Rattle.std.proofs.Common.{◌≡◌, ◌⊎◌, inl, inr, ◌<◌, ℕ, zero, suc, List, [], ◌∷◌, Option, None, Some, length, map}
use Rattle.std.proofs.Common.{refl, sym, ◌∙◌, ap, subst, arith, slice_get, Contains}
use Rattle.std.specs.Prelude.{IfSome, option_map}
use Rattle.std.proofs.lemmas.Bool.{cases_eq}
use Rattle.std.proofs.lemmas.Option.{same_Some, slice_get_within, slice_get-map}
use Rattle.wb_lemmas.proofs.Elements.{all_at}
use Rattle.wb_lemmas.proofs.Members.{contains_at, place_of}
use Rattle.wb_lemmas.proofs.Places.{at_within, at_once}
use Rattle.wb_base.specs.Grammar.{GrammarView}
use Rattle.wb_base.specs.Grammar as base
use Rattle.wb_base.specs.declared.symbol.Kind.TheVariants as kind
use Rattle.wb_base.specs.declared.symbol.Symbol.{Symbol}
use Rattle.wb_base.specs.declared.symbol.Symbol.TheVariants.{Terminal, Nonterminal}
use Rattle.wb_grammar_theory.specs.Productions.{IsProduction}
use Rattle.wb_syntax_resolved.specs.declared.production.Child.{Child}
use Rattle.wb_syntax_resolved.specs.declared.production.ChildKind.{ChildKind}
use Rattle.wb_syntax_resolved.specs.declared.production.ChildKind.TheVariants as child
use Rattle.wb_syntax_resolved.specs.declared.production.Production.{Production}
use Rattle.wb_syntax_resolved.specs.declared.resolved.ResolvedParts.{ResolvedParts}
use Rattle.wb_syntax_resolved.specs.declared.terminal.Terminal as terminal
use Rattle.wb_syntax_resolved.specs.declared.terminal.TerminalKind.{TerminalKind}
use Rattle.wb_syntax_resolved.specs.declared.terminal.TerminalKind.TheVariants.{Plain, Marking, Ignore}
use Rattle.wb_syntax_resolved.specs.Grammar.{IsGrammarOf, IsGrammarProduction, symbol_of}
use Rattle.wb_syntax_resolved.specs.Named.{IsNamedProduction}
use Rattle.wb_syntax_resolved.specs.Resolved.{IsNamedTerminal, HasGrammarTerminals, IsTerminalChild}
use Rattle.wb_marking.specs.Bridges.{IsOnHost, AreBridges}
use Rattle.wb_marking.specs.Marked.{IsOwnMarker, IsOnOwn, IsBridge, IsMarked}
use Rattle.wb_marking.specs.Markers.{HasGrammar, IsMarker, HasNoMarker, IsHosts, IsAt}
use Rattle.wb_marking.proofs.PlaceLemmas.{one_left, same_terminal}

-- the terminal that a child is
terminal_child : (k : ChildKind) (t : ℕ) → symbol_of k ≡ Some (Terminal t) → k ≡ child.Terminal t
terminal_child (child.Terminal number) t is = ap child.Terminal (same_terminal number t (same_Some (Terminal number) (Terminal t) is))
terminal_child (child.Value kind.Int) t is = absurd (cc)
terminal_child (child.Value kind.Bool) t is = absurd (cc)
terminal_child (child.Value kind.Text) t is = absurd (cc)
terminal_child (child.Value (kind.Tree n)) t is = let bad = same_Some (Nonterminal n) (Terminal t) is in absurd (cc)

mapped : {X Y : Type 0} (f : X → Y) (o : Option X) (y : Y) → option_map f o ≡ Some y → (x : X) × (o ≡ Some x) × (f x ≡ y)
mapped f None y is = absurd (cc)
mapped f (Some x) y is = (x, refl, same_Some (f x) y is)

marking_or_not : (k : TerminalKind) → (k ≡ Marking) ⊎ ((k ≡ Marking) → ⊥)
marking_or_not Plain = inr (λ is. cc)
marking_or_not Ignore = inr (λ is. cc)
marking_or_not Marking = inl refl

module _ (r : ResolvedParts) where
  -- there is a marker of this number, or none
  marker_by : (t : ℕ) (o : Option terminal.Terminal) → slice_get r.terminals t ≡ o → IsMarker r t ⊎ (¬ IsMarker r t)
  marker_by t None at = inr (λ is. let bad = sym at ∙ is.is in absurd (cc))
  marker_by t (Some own) at = elim (marking_or_not own.kind) [
    | inl marking ↦ inl (record { terminal = own; is = at; marking = marking })
    | inr other ↦ inr (λ is.
        let same : is.terminal ≡ own = at_once r.terminals t is.terminal own is.is at in
        other (sym (ap (λ (x : terminal.Terminal). x.kind) same) ∙ is.marking))
  ]

  pub marker_or_not : (t : ℕ) → IsMarker r t ⊎ (¬ IsMarker r t)
  marker_or_not t = marker_by t (slice_get r.terminals t) refl

  module _ (g : GrammarView) (has : HasGrammar r g) where
    fits : IsGrammarOf r g
    fits = subst (λ o. IfSome o (IsGrammarOf r)) has.grammar has.resolved.numbered.grammar

    -- a nonterminal that is extensible is of the grammar
    pub extensible_below : (n : ℕ) → Contains r.extensible n → n < g.nonterminals
    extensible_below n listed = (fits.nonterminals n).1 (inr (inl listed))

    -- a production of the grammar is one of the attribution
    whole : (number : ℕ) → number < length g.productions → (p : Production) × (slice_get r.attributes.productions number ≡ Some p)
    whole number within = let fit = fits.productions_len in at_within r.attributes.productions number (omega (arith, within, fit))

    named : (number : ℕ) (p : Production) → slice_get r.attributes.productions number ≡ Some p → IsNamedProduction r.attributes p
    named number p at =
        all_at (IsNamedProduction r.attributes) r.attributes.productions number p has.resolved.attributes.named.productions at

    -- the terminal at a place is a child that the production's owner sees
    child_at : (number : ℕ) (p : Production) → slice_get r.attributes.productions number ≡ Some p → (t place : ℕ) → IsAt g t number place
        → IsTerminalChild r p.owner t
    child_at number p there t place at =
        let plain : base.Production = (at.left, at.right) in
        let fit : IsGrammarProduction p plain = fits.productions_are number p plain there at.production in
        let mapped_right : slice_get (map (λ (s : Symbol). Some s) at.right) place ≡ Some (Some (Terminal t)) =
        slice_get-map (λ (s : Symbol). Some s) at.right place ∙ ap (option_map (λ (s : Symbol). Some s)) at.at in
        let mapped_child = sym (slice_get-map (λ (c : Child). symbol_of c.kind) p.children place)
        ∙ subst (λ z. slice_get z place ≡ Some (Some (Terminal t))) fit.right mapped_right in
        let (c, listed, is) = mapped (λ (c : Child). symbol_of c.kind) (slice_get p.children place) (Some (Terminal t)) mapped_child in
        let children = all_at (HasGrammarTerminals r) r.attributes.productions number p has.resolved.children there in
        all_at (λ (d : Child). (n : ℕ) → d.kind ≡ child.Terminal n → IsTerminalChild r p.owner n) p.children place c children listed t
        (terminal_child c.kind t is)

    -- a marker has the owner of each production that has it
    own_marker : (marker number place : ℕ) → IsMarker r marker → IsAt g marker number place → IsOwnMarker r marker number
    own_marker marker number place is at =
        let (p, there) = whole number (slice_get_within g.productions number (at.left, at.right) at.production) in
        let seen = child_at number p there marker place at in
        let same : is.terminal ≡ seen.terminal = at_once r.terminals marker is.terminal seen.terminal is.is seen.is in
        let no_hosts = (all_at (IsNamedTerminal r) r.terminals marker is.terminal has.resolved.terminals is.is).marking is.marking in
        let owners : is.terminal.owner ≡ seen.terminal.owner = ap (λ (x : terminal.Terminal). x.owner) same in record {
          terminal = is.terminal;
          terminal_is = is.is;
          production = p;
          production_is = there;
          one = elim seen.seen [ inl hosts ↦ absurd (no_hosts (owners ∙ hosts)) | inr own ↦ owners ∙ own ];
        }

    -- a production without marker is on a nonterminal of its owner, or is one of an extension on the host's
    on_own : (number left : ℕ) (right : List Symbol) → IsProduction g number left right → IsOnOwn r number left ⊎ IsOnHost r g number
    on_own number left right is =
        let (p, there) = whole number (slice_get_within g.productions number (left, right) is) in
        let plain : base.Production = (left, right) in
        let same : left ≡ p.left = (fits.productions_are number p plain there is).left in
        let seen = (named number p there).left in
        let at = subst (λ z. slice_get r.attributes.nonterminals z ≡ Some seen.nonterminal) (sym same) seen.is in
        elim seen.seen [
          | inl hosts ↦ elim (cases_eq p.owner 0) [
            | inl own ↦ inl (record {
              production = p;
              production_is = there;
              nonterminal = seen.nonterminal;
              nonterminal_is = at;
              one = own ∙ sym hosts;
            })
            | inr other ↦ inr (record {
              left = left;
              right = right;
              production = is;
              extension = record { production = p; is = there; owner = other };
              host = record { nonterminal = seen.nonterminal; is = at; seen = inl hosts };
            })
          ]
          | inr own ↦ inl (record {
            production = p;
            production_is = there;
            nonterminal = seen.nonterminal;
            nonterminal_is = at;
            one = sym own;
          })
        ]

    module _ (rules : AreBridges r g) where
      -- no marker is after the first symbol
      bare_rest : (number left : ℕ) (first : Symbol) (rest : List Symbol) → IsProduction g number left (first ∷ rest) → HasNoMarker r rest
      bare_rest number left first rest is marker marked listed =
          let (k, at) = place_of rest (Terminal marker) listed in
          let here : IsAt g marker number (suc k) = record { left = left; right = first ∷ rest; production = is; at = at } in
          let (_, alone) = rules.once marker marked in
          let (_, begins) = alone.alone number (suc k) here in
          absurd (omega (arith, begins))

      -- the production that a marker begins is its bridge
      bridge_of : (marker number left : ℕ) (rest : List Symbol) → IsMarker r marker → IsProduction g number left (Terminal marker ∷ rest)
          → IsBridge r g marker number
      bridge_of marker number left rest marked is =
          let here : IsAt g marker number 0 = record { left = left; right = Terminal marker ∷ rest; production = is; at = refl } in
          let (n, alone) = rules.once marker marked in
          let (same, _) = alone.alone number 0 here in
          let lefts : alone.begins.left ≡ left =
          one_left g marker marker n 0 0 alone.begins (subst (λ z. IsAt g marker z 0) same here) in record {
            is_marker = marked;
            left = left;
            rest = rest;
            production = is;
            owner = own_marker marker number 0 marked here;
            host = subst (IsHosts r) lefts alone.host;
            extensible = rules.extensible number (record { marker = marker; is_marker = marked; begins = here });
            bare = bare_rest number left (Terminal marker) rest is;
          }

      begun_bridge : (marker number left : ℕ) (right : List Symbol) → IsMarker r marker → IsProduction g number left right
          → slice_get right 0 ≡ Some (Terminal marker) → IsBridge r g marker number
      begun_bridge marker number left [] marked is at = absurd (cc)
      begun_bridge marker number left (first ∷ rest) marked is at =
          bridge_of marker number left rest marked
          (subst (λ z. IsProduction g number left (z ∷ rest)) (same_Some first (Terminal marker) at) is)

      bridge : (marker : ℕ) → IsMarker r marker → (number : ℕ) × IsBridge r g marker number
      bridge marker marked =
          let (number, alone) = rules.once marker marked in
          (number, begun_bridge marker number alone.begins.left alone.begins.right marked alone.begins.production alone.begins.at)

      one : (marker number other : ℕ) → IsBridge r g marker number → IsBridge r g marker other → number ≡ other
      one marker number other x y =
          let (n, alone) = rules.once marker x.is_marker in
          let first : IsAt g marker number 0 =
          record { left = x.left; right = Terminal marker ∷ x.rest; production = x.production; at = refl } in
          let second : IsAt g marker other 0 =
          record { left = y.left; right = Terminal marker ∷ y.rest; production = y.production; at = refl } in
          (alone.alone number 0 first).0 ∙ sym (alone.alone other 0 second).0

      shape : (number left : ℕ) (right : List Symbol) → IsProduction g number left right
          → HasNoMarker r right ⊎ ((marker : ℕ) × IsBridge r g marker number)
      shape number left [] is = inl (λ marker marked listed. absurd (omega (arith, listed.1)))
      shape number left (Nonterminal a ∷ rest) is =
          inl (λ marker marked listed. unmarked marker marked (place_of (Nonterminal a ∷ rest) (Terminal marker) listed))
        where
          unmarked : (marker : ℕ) → IsMarker r marker → (k : ℕ) × (slice_get (Nonterminal a ∷ rest) k ≡ Some (Terminal marker)) → ⊥
          unmarked marker marked (zero, at) = let bad = same_Some (Nonterminal a) (Terminal marker) at in cc
          unmarked marker marked (suc k, at) =
              bare_rest number left (Nonterminal a) rest is marker marked (contains_at rest (Terminal marker) k at)
      shape number left (Terminal t ∷ rest) is = elim (marker_or_not t) [
        | inl marked ↦ inr (t, bridge_of t number left rest marked is)
        | inr other ↦ inl (λ marker marked listed. unmarked other marker marked (place_of (Terminal t ∷ rest) (Terminal marker) listed))
      ]
        where
          unmarked : (¬ IsMarker r t) → (marker : ℕ) → IsMarker r marker
              → (k : ℕ) × (slice_get (Terminal t ∷ rest) k ≡ Some (Terminal marker)) → ⊥
          unmarked other marker marked (zero, at) =
              let same = same_terminal t marker (same_Some (Terminal t) (Terminal marker) at) in
              other (subst (IsMarker r) (sym same) marked)
          unmarked other marker marked (suc k, at) =
              bare_rest number left (Terminal t) rest is marker marked (contains_at rest (Terminal marker) k at)

      source : (number left : ℕ) (right : List Symbol) → IsProduction g number left right → HasNoMarker r right → IsOnOwn r number left
      source number left right is bare = elim (on_own number left right is) [
        | inl own ↦ own
        | inr on_host ↦
            let begins = rules.begin number on_host in
            let plain : base.Production = (left, right) in
            let other : base.Production = (begins.begins.left, begins.begins.right) in
            let same : other ≡ plain = at_once g.productions number other plain begins.begins.production is in
            let at = subst (λ z. slice_get z 0 ≡ Some (Terminal begins.marker)) (ap (λ (q : base.Production). q.1) same) begins.begins.at in
            absurd (bare begins.marker begins.is_marker (contains_at right (Terminal begins.marker) 0 at))
      ]

      pub marked : IsMarked r g
      marked = record { bridge = bridge; one = one; shape = shape; source = source }
