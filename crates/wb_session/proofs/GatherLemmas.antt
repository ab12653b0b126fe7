-- The values of the last roots of a stack, as they are gathered.
use Rattle.std.proofs.Common.{◌≡◌, ◌<◌, ◌≤◌, ◌+◌, ◌-◌, ℕ, suc, List, [], ◌∷◌, ◌++◌, length, refl, sym, ◌∙◌, ap, subst, inl, inr}
use Rattle.std.proofs.Common.{arith, append_assoc, append-nil}
use Rattle.std.specs.Prelude.{All, reverse}
use Rattle.std.proofs.lemmas.List.{reverse-append}
use Rattle.wb_lemmas.proofs.Places.{at_once}
use Rattle.wb_lemmas.proofs.Elements.{all_right}
use Rattle.wb_values.specs.ValuesIn.{IsIn}
use Rattle.wb_values.specs.declared.value.Value.{Value}
use Rattle.wb_scan.specs.Views.{LanguageParts}
use Rattle.wb_session.specs.declared.stacks.Entry.{Entry}
use Rattle.wb_session.specs.Stacks.{Roots, LeadsTo, IsLinked, IsSound}
use Rattle.wb_session.specs.Inner.Gathered.{IsRoot, AreParted, AreGathered, AreBeingGathered}
use Rattle.wb_session.proofs.StackLemmas.{leads_inside, leads_some, top_part}

-- at the beginning there are none
pub gathered_none : (entries : List Entry) (values : List Value) (link : ℕ) (children : List Value) → children ≡ [] →
    AreBeingGathered entries values link 0 link children
gathered_none entries values link children is =
    subst (AreBeingGathered entries values link 0 link) (sym is) (record {
      few = omega arith;
      enough = inl refl;
      parts = λ states vs leads. record {
        lower = states;
        upper = [];
        under = vs;
        leads = leads;
        states_are = sym (append-nil states);
        values_are = sym (append-nil vs);
        size = refl;
      };
    })

-- at the bottom there are no more
pub gathered_all : {entries : List Entry} {values : List Value} {link count : ℕ} (below : ℕ) (children : List Value) → below ≡ 0 →
    AreBeingGathered entries values link count below children → AreBeingGathered entries values link (count + 1) below children
gathered_all below children at are =
    let h = are.few in record { few = omega (arith, h); enough = inr at; parts = are.parts }

-- below a root there are earlier ones
pub root_below : {entries : List Entry} {values : List Value} {link below : ℕ} {children children' : List Value} → IsLinked entries →
    IsRoot entries values link below children children' → below ≤ link
root_below {link = link} {below} linked root =
    let h : root.entry.below ≤ link - 1 = linked (link - 1) root.entry root.is in
    let e : below ≡ root.entry.below = root.below_is in omega (arith, h, e)

reverse_push : (xs : List Value) (x : Value) → reverse (xs ++ x ∷ []) ≡ x ∷ reverse xs
reverse_push xs x = reverse-append xs (x ∷ [])

-- one more
pub gathered_more : {entries : List Entry} {values : List Value} {link count : ℕ} (here below : ℕ) {children children' : List Value} →
    0 < here → IsRoot entries values here below children children' → AreBeingGathered entries values link count here children →
    AreBeingGathered entries values link (count + 1) below children'
gathered_more {entries} {values} {link} {count} here below {children} {children'} some root are = record {
  few = let h = are.few in omega (arith, h, size);
  enough = inl (elim are.enough [
    | inl is ↦ let e : length (reverse children) ≡ count = is in omega (arith, e, size)
    | inr bottom_is ↦ absurd (omega (arith, bottom_is, some))
  ]);
  parts = λ states vs leads. longer states vs (are.parts states vs leads);
}
  where
    turned : reverse children' ≡ root.value ∷ reverse children
    turned = ap reverse root.children_are ∙ reverse_push children root.value

    size : length (reverse children') ≡ suc (length (reverse children))
    size = ap length turned

    longer : (states : List ℕ) (vs : List Value) → AreParted entries values states vs here (reverse children) →
        AreParted entries values states vs below (reverse children')
    longer states vs p =
        let q = top_part p.leads some in
        let x_is : q.x ≡ root.entry = at_once entries (here - 1) q.x root.entry q.at root.is in
        let v_is : q.v ≡ root.value = at_once values (here - 1) q.v root.value q.has root.has in
        record {
          lower = q.lower;
          upper = q.x.state ∷ p.upper;
          under = q.under;
          leads = subst (λ z. LeadsTo entries values z q.lower q.under) (ap (λ (z : Entry). z.below) x_is ∙ sym root.below_is) q.leads;
          states_are = p.states_are ∙ ap (λ z. z ++ p.upper) q.states_are ∙ append_assoc q.lower (q.x.state ∷ []) p.upper;
          values_are = p.values_are ∙ ap (λ z. z ++ reverse children) q.values_are ∙ append_assoc q.under (q.v ∷ []) (reverse children)
              ∙ ap (λ z. q.under ++ z ∷ reverse children) v_is ∙ ap (λ z. q.under ++ z) (sym turned);
          size = ap suc p.size ∙ sym size;
        }

-- in order
pub gathered_turned : {entries : List Entry} {values : List Value} {link count below : ℕ} (children turned : List Value) →
    turned ≡ reverse children → AreBeingGathered entries values link count below children →
    AreGathered entries values link count below turned
gathered_turned {entries} {values} {link} {count} {below} children turned is are =
    subst (AreGathered entries values link count below) (sym is) are

-- they are among all values
pub gathered_inside : (parts : LanguageParts) (roots : Roots) (link count below : ℕ) (children : List Value) → IsSound parts roots →
    link ≤ length roots.entries → AreGathered roots.entries roots.values link count below children →
    All (IsIn (length roots.trees)) children
gathered_inside parts roots link count below children sound le are =
    let (states, vs, leads) = leads_some roots.entries roots.values sound.linked sound.same link link (omega arith) le in
    let p = are.parts states vs leads in
    all_right (IsIn (length roots.trees)) p.under children
    (subst (All (IsIn (length roots.trees))) p.values_are (leads_inside (length roots.trees) sound.inside leads))
