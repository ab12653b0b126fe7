-- Whether what a number names is a marker, a production of an extension, or a nonterminal of the host.
use Rattle.std.proofs.Common.{◌≡◌, ◌≢◌, ◌<◌, ◌≤◌, ◌∙◌, ℕ, Bool, true, false, not, eqb, List, Some, length}
use Rattle.std.proofs.Common.{refl, sym, ap, subst, inl, inr, get_or, slice_get, arith}
use Rattle.std.specs.Prelude.{◌↔◌, IsTrue}
use Rattle.std.proofs.lemmas.Bool.{false≢true}
use Rattle.std.proofs.lemmas.Option.{slice_get-get_or, slice_get_within}
use Rattle.wb_lemmas.proofs.Booleans.{not_true, not_holds}
use Rattle.wb_lemmas.proofs.Numbers.{eqb_true, eqb_false}
use Rattle.wb_lemmas.proofs.Places.{at_once, read_at}
use Rattle.wb_syntax_resolved.specs.declared.attributes.Nonterminal.{Nonterminal}
use Rattle.wb_syntax_resolved.specs.declared.production.Production.{Production}
use Rattle.wb_syntax_resolved.specs.declared.resolved.ResolvedParts.{ResolvedParts}
use Rattle.wb_syntax_resolved.specs.declared.terminal.Terminal.{Terminal}
use Rattle.wb_syntax_resolved.specs.declared.terminal.TerminalKind.TheVariants.{Marking}
use Rattle.wb_marking.specs.Clashes.{IsRival}
use Rattle.wb_marking.specs.Inner.Compared.{AreCompared}
use Rattle.wb_marking.specs.Markers.{IsExtensions, IsHosts, IsMarker}

-- what doesn't hold
no_iff : {P : Type 0} → ¬ P → IsTrue false ↔ P
no_iff none = (λ bad. absurd (false≢true bad), λ is. absurd (none is))

-- nothing is at or past the end of a list
past_end : {X : Type 0} (xs ys : List X) → ys ≡ xs → (i : ℕ) → length ys ≤ i → (x : X) → slice_get xs i ≡ Some x → ⊥
past_end xs ys same i past x at =
    let within = slice_get_within xs i x at in
    let len = ap length same in
    omega (arith, within, len, past)

-- what a reader of an equal list finds
found_at : {X : Type 0} (xs ys : List X) → ys ≡ xs → (i : ℕ) → i < length ys → (d : X) → slice_get xs i ≡ Some (get_or ys i d)
found_at xs ys same i within d = subst (λ z. slice_get z i ≡ Some (get_or ys i d)) same (slice_get-get_or ys i d within)

zero_is : (m : ℕ) → m ≡ 0 → eqb m 0 ≡ true
zero_is m is = rw is

module _ (r : ResolvedParts) (number : ℕ) where
  module _ (ys : List Terminal) (same : ys ≡ r.terminals) where
    -- there is no terminal of the number
    pub no_marker : length ys ≤ number → IsTrue false ↔ IsMarker r number
    no_marker past = no_iff (λ m. past_end r.terminals ys same number past m.terminal m.is)

    module _ (within : number < length ys) (d : Terminal) where
      -- there is one that is a marker
      pub marker_there : (get_or ys number d).kind ≡ Marking → IsTrue true ↔ IsMarker r number
      marker_there marking = (
        λ _. record { terminal = get_or ys number d; is = found_at r.terminals ys same number within d; marking = marking },
        λ _. refl,
      )

      -- there is one that is none
      pub other_there : (get_or ys number d).kind ≢ Marking → IsTrue false ↔ IsMarker r number
      other_there other = no_iff (λ m.
          let one = at_once r.terminals number m.terminal (get_or ys number d) m.is (found_at r.terminals ys same number within d) in
          other (sym (ap (λ (t : Terminal). t.kind) one) ∙ m.marking))

  module _ (ys : List Production) (same : ys ≡ r.attributes.productions) where
    -- there is no production of the number
    pub no_production : length ys ≤ number → IsTrue false ↔ IsExtensions r number
    no_production past = no_iff (λ e. past_end r.attributes.productions ys same number past e.production e.is)

    -- there is one
    pub production_there : number < length ys → (d : Production) → IsTrue (not (eqb (get_or ys number d).owner 0)) ↔ IsExtensions r number
    production_there within d = (
      λ is. record {
        production = get_or ys number d;
        is = found_at r.attributes.productions ys same number within d;
        owner = eqb_false (get_or ys number d).owner 0 (not_true (eqb (get_or ys number d).owner 0) is);
      },
      λ e.
          let one = at_once r.attributes.productions number e.production (get_or ys number d) e.is
          (found_at r.attributes.productions ys same number within d) in
          not_holds (eqb (get_or ys number d).owner 0) (λ is.
          e.owner (ap (λ (p : Production). p.owner) one ∙ eqb_true (get_or ys number d).owner 0 is)),
    )

  module _ (ys : List Nonterminal) (same : ys ≡ r.attributes.nonterminals) where
    -- there is no nonterminal of the number
    pub no_nonterminal : length ys ≤ number → IsTrue false ↔ IsHosts r number
    no_nonterminal past = no_iff (λ s. past_end r.attributes.nonterminals ys same number past s.nonterminal s.is)

    -- there is one
    pub nonterminal_there : number < length ys → (d : Nonterminal) → IsTrue (eqb (get_or ys number d).owner 0) ↔ IsHosts r number
    nonterminal_there within d = (
      λ is. record {
        nonterminal = get_or ys number d;
        is = found_at r.attributes.nonterminals ys same number within d;
        seen = inl (eqb_true (get_or ys number d).owner 0 is);
      },
      λ s.
          let one = at_once r.attributes.nonterminals number s.nonterminal (get_or ys number d) s.is
          (found_at r.attributes.nonterminals ys same number within d) in
          let owner = sym (ap (λ (a : Nonterminal). a.owner) one) in
          zero_is (get_or ys number d).owner (elim s.seen [
            | inl host ↦ owner ∙ host
            | inr host ↦ owner ∙ host
          ]),
    )

-- a marker and another terminal, the one before the other, are compared where they are rivals
pub compared_as : (r : ResolvedParts) (marker other : ℕ) → IsMarker r marker → other < length r.terminals → (ys : List Terminal)
    → ys ≡ r.terminals → (own rival : Terminal) → own ≡ get_or ys marker own → rival ≡ get_or ys other rival
    → (marker ≢ other) × (IsMarker r other → marker < other) → (b : Bool) → (IsTrue b ↔ IsRival own rival)
    → IsTrue b ↔ AreCompared r marker other
compared_as r marker other is within ys same own rival own_is rival_is before b iff = (
  λ yes. record {
    rivals = record {
      own = own;
      own_is = own_at;
      marking = ap (λ (t : Terminal). t.kind) (at_once r.terminals marker own is.terminal own_at is.is) ∙ is.marking;
      rival = rival;
      rival_is = rival_at;
      is_rival = iff.0 yes;
      different = before.0;
    };
    in_order = before.1;
  },
  λ are.
      let one : are.rivals.own ≡ own = at_once r.terminals marker are.rivals.own own are.rivals.own_is own_at in
      let two : are.rivals.rival ≡ rival = at_once r.terminals other are.rivals.rival rival are.rivals.rival_is rival_at in
      iff.1 (subst (λ (z : Terminal). IsRival z rival) one (subst (IsRival are.rivals.own) two are.rivals.is_rival)),
)
  where
    own_at : slice_get r.terminals marker ≡ Some own
    own_at = read_at r.terminals ys marker own same (slice_get_within r.terminals marker is.terminal is.is) own_is

    rival_at : slice_get r.terminals other ≡ Some rival
    rival_at = read_at r.terminals ys other rival same within rival_is
