-- A group is closed, pair by pair.
use Rattle.std.proofs.Common.{◌≡◌, ℕ, ◌+◌, ◌≤◌, ◌<◌, List, [], ◌++◌, sym, ◌∙◌, ap, subst, arith, inl, inr, length, get_or}
use Rattle.std.proofs.Common.{length-append, append_assoc, append-nil}
use Rattle.std.specs.Prelude.{Contains}
use Rattle.std.proofs.lemmas.Bool.{cases_lt}
use Rattle.std.proofs.lemmas.List.{get_or_append_left}
use Rattle.std.proofs.lemmas.List.Elements.{Contains-append_left, Contains-get_or}
use Rattle.wb_automata_positions.specs.declared.places.Place.{Place}
use Rattle.wb_automata.specs.Inner.Pairs.{Adds, ArePairs, AreSmall, Closes, LeadTo, begun, stepped, pair_steps}
use Rattle.wb_automata.proofs.PairLemmas.{step_left}

pub closes_begin : (places : List Place) (met next : List ℕ) → ArePairs places next → Closes places met next met next 0
closes_begin places met next pairs = record {
  more = [];
  extends = sym (append-nil next);
  keeps = λ d h. h;
  only = λ d h. inl h;
  sound = λ d h. begun h;
  marked = λ d h. inl h;
  pairs = pairs;
  within = omega arith;
  closed = λ k d lt. absurd (omega arith);
}

-- one pair more
pub closes_more : (places : List Place) (met next f f' m m' : List ℕ) (i : ℕ) → AreSmall places → i < length m
    → Adds (LeadTo (pair_steps places (get_or m i 0))) f m f' m' → Closes places met next f m i → Closes places met next f' m' (i + 1)
closes_more places met next f f' m m' i small lt a h = record {
  more = h.more ++ a.more;
  extends = a.extends ∙ ap (λ z. z ++ a.more) h.extends ∙ append_assoc next h.more a.more;
  keeps = λ d has. a.keeps d (h.keeps d has);
  only = λ d has. elim (a.only d has) [
    | inr new ↦ inr new
    | inl b ↦ elim (h.only d b) [
      | inl before ↦ inl before
      | inr new ↦ inr (subst (λ z. Contains z d) (sym a.extends) (Contains-append_left m a.more d new))
    ]
  ];
  sound = λ d has. elim (a.sound d has) [ inl b ↦ h.sound d b | inr lead ↦ stepped (get_or m i 0) (h.sound (get_or m i 0) here) lead ];
  marked = λ d has. elim (a.marked d has) [
    | inr new ↦ inr new
    | inl b ↦ elim (h.marked d b) [ inl before ↦ inl before | inr new ↦ inr (a.keeps d new) ]
  ];
  pairs = λ d has. elim (a.sound d has) [
    | inl b ↦ h.pairs d b
    | inr lead ↦ step_left places (get_or m i 0) d small.below (h.pairs (get_or m i 0) here) lead
  ];
  within = omega (arith, ap length a.extends, length-append m a.more);
  closed = λ k d less lead. elim (cases_lt k i) [
    | inl early ↦ a.keeps d (h.closed k d early (subst (λ z. LeadTo (pair_steps places z) d) (same k (omega arith)) lead))
    | inr late ↦
        let e : k ≡ i = omega arith in
        a.all d (subst (λ z. LeadTo (pair_steps places z) d) (same k (omega arith) ∙ ap (λ z. get_or m z 0) e) lead)
  ];
}
  where
    here : Contains m (get_or m i 0)
    here = Contains-get_or m i 0 lt

    same : (k : ℕ) → k < length m → get_or m' k 0 ≡ get_or m k 0
    same k less = ap (λ z. get_or z k 0) a.extends ∙ get_or_append_left m a.more 0 k less

pub closes_end : (places : List Place) (met next f m : List ℕ) (i : ℕ) → length m ≤ i → Closes places met next f m i
    → Closes places met next f m (length m)
closes_end places met next f m i le h = subst (Closes places met next f m) (let w = h.within in let e : i ≡ length m = omega arith in e) h
