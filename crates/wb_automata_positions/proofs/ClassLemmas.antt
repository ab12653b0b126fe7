-- Classes of bytes are told apart node by node.
use Rattle.std.proofs.Common.{◌≡◌, ℕ, zero, suc, ◌+◌, ◌≤◌, ◌<◌, List, [], ◌∷◌, ◌++◌, refl, sym, ◌∙◌, ap, subst, arith, ◌⊎◌, inl, inr, Some}
use Rattle.std.proofs.Common.{Bool, true, false, length, get_or, length-append}
use Rattle.std.specs.Prelude.{slice_get}
use Rattle.std.proofs.lemmas.List.{get_or_append_left, get_or_push}
use Rattle.std.proofs.lemmas.Option.{same_Some}
use Rattle.std.proofs.lemmas.Bool.{cases_lt}
use Rattle.wb_regex.specs.declared.node.RegexNode.{RegexNode}
use Rattle.wb_automata_positions.specs.Leaves.{node_holds}
use Rattle.wb_automata_positions.specs.Rising.{AreRising}
use Rattle.wb_automata_positions.specs.Classes.{AreClasses}
use Rattle.wb_automata_positions.specs.Inner.ClassPasses.{AreKeys, ClassPass, IsClassOf, IsRefined, IsRepeated, KeepsClasses, key_of}

-- before the first node any bytes may be in one class
pub classes_begin : (nodes : List RegexNode) (keys new firsts : List ℕ) → ClassPass keys new firsts 256 → AreClasses nodes new firsts 0
classes_begin nodes keys new firsts p = record {
  len = p.len;
  below = p.below;
  first = p.first;
  alike = λ b lt q node less. absurd (omega arith);
  rising = p.rising;
}

-- the first bytes stay, and a new one is the byte
pub record FirstsKept (old new : List ℕ) (b : ℕ) : Type 0 where
  pub kept : (k : ℕ) → k < length old → get_or new k 0 ≡ get_or old k 0
  pub len : length old ≤ length new
  pub small : (k : ℕ) → k < length new → get_or new k 0 < b + 1
  pub rising : AreRising new

firsts_kept : (old new : List ℕ) (b : ℕ) → ((k : ℕ) → k < length old → get_or old k 0 < b) → AreRising old →
    (new ≡ old) ⊎ (new ≡ old ++ b ∷ []) → FirstsKept old new b
firsts_kept old new b small rising (inl e) = subst (λ z. FirstsKept old z b) (sym e)
    (record { kept = λ k lt. refl; len = omega arith; small = λ k lt. omega (arith, small k lt); rising = rising })
firsts_kept old new b small rising (inr e) = subst (λ z. FirstsKept old z b) (sym e) (record {
  kept = λ k lt. get_or_append_left old (b ∷ []) 0 k lt;
  len = omega (arith, length-append old (b ∷ []));
  small = λ k lt. elim (cases_lt k (length old)) [
    | inl less ↦ omega (arith, small k less, get_or_append_left old (b ∷ []) 0 k less)
    | inr past ↦ omega (arith, last_at k lt past)
  ];
  rising = λ i j lt below. elim (cases_lt j (length old)) [
    | inl less ↦ rw (get_or_append_left old (b ∷ []) 0 j less, get_or_append_left old (b ∷ []) 0 i (omega arith)) (rising i j lt less)
    | inr past ↦
        let within : i < length old = omega (arith, length-append old (b ∷ [])) in
        omega (arith, last_at j below past, get_or_append_left old (b ∷ []) 0 i within, small i within)
  ];
})
  where
    last_at : (k : ℕ) → k < length (old ++ b ∷ []) → length old ≤ k → get_or (old ++ b ∷ []) k 0 ≡ b
    last_at k lt past = let e : k ≡ length old = omega (arith, length-append old (b ∷ [])) in subst (λ z. get_or (old ++ b ∷ []) z 0 ≡ b)
        (sym e) (get_or_push old b 0 (length old) refl)

-- one byte more has its class
pub class_step : (keys of firsts new : List ℕ) (b class : ℕ) → ClassPass keys of firsts b
    → IsClassOf keys firsts new b class → ClassPass keys (of ++ class ∷ []) new (b + 1)
class_step keys of firsts new b class h c = record {
  len = omega (arith, h.len, length-append of (class ∷ []));
  below = λ d lt. elim (cases_lt d b) [
    | inl less ↦ omega (arith, before d less, h.below d less, k.len)
    | inr past ↦ omega (arith, last d lt past, c.within)
  ];
  first = λ d lt. elim (cases_lt d b) [
    | inl less ↦ rw (before d less, k.kept (get_or of d 0) (h.below d less)) (h.first d less)
    | inr past ↦ rw (last d lt past) (let s = k.small class c.within in omega arith)
  ];
  same = λ d lt. elim (cases_lt d b) [
    | inl less ↦ rw (before d less, k.kept (get_or of d 0) (h.below d less)) (h.same d less)
    | inr past ↦ rw (last d lt past) (c.same ∙ ap (λ z. get_or keys z 0) (let e : b ≡ d = omega arith in e))
  ];
  small = k.small;
  rising = k.rising;
}
  where
    k : FirstsKept firsts new b
    k = firsts_kept firsts new b h.small h.rising c.change

    before : (d : ℕ) → d < b → get_or (of ++ class ∷ []) d 0 ≡ get_or of d 0
    before d less = get_or_append_left of (class ∷ []) 0 d (omega (arith, h.len))

    last : (d : ℕ) → d < b + 1 → b ≤ d → get_or (of ++ class ∷ []) d 0 ≡ class
    last d lt past =
        let e : d ≡ b = omega arith in subst (λ z. get_or (of ++ class ∷ []) z 0 ≡ class) (sym e) (get_or_push of class 0 b h.len)

-- a key tells the class, and whether it is held
key_parts : (c d : ℕ) (x y : Bool) → key_of c x ≡ key_of d y → (c ≡ d) × (x ≡ y)
key_parts c d true true e = (omega arith, refl)
key_parts c d true false e = absurd (omega arith)
key_parts c d false true e = absurd (omega arith)
key_parts c d false false e = (omega arith, refl)

-- one node more
pub classes_step : (nodes : List RegexNode) (node : RegexNode) (old firsts new news : List ℕ) (i : ℕ) → slice_get nodes i ≡ Some node
    → AreClasses nodes old firsts i → IsRefined node old new news → AreClasses nodes new news (i + 1)
classes_step nodes node old firsts new news i at h r = record {
  len = p.len;
  below = p.below;
  first = p.first;
  alike = λ b lt q other less here.
      let f : ℕ = get_or news (get_or new b 0) 0 in
      let small : f < 256 = p.small (get_or new b 0) (p.below b lt) in
      let (same, holds) = parts b lt in
      elim (cases_lt q i) [
        | inl early ↦ h.alike b lt q other early here ∙ ap (λ z. node_holds other (get_or firsts z 0)) (sym same) ∙ sym
            (h.alike f small q other early here)
        | inr past ↦
            let e : node ≡ other = same_Some node other (sym at ∙ ap (slice_get nodes) (let g : i ≡ q = omega arith in g) ∙ here) in
            subst (λ z. node_holds z b ≡ node_holds z f) e (sym holds)
      ];
  rising = p.rising;
}
  where
    p : ClassPass r.keys new news 256
    p = r.pass

    parts : (b : ℕ) → b < 256 → (get_or old (get_or news (get_or new b 0) 0) 0 ≡ get_or old b 0)
        × (node_holds node (get_or news (get_or new b 0) 0) ≡ node_holds node b)
    parts b lt =
        let f : ℕ = get_or news (get_or new b 0) 0 in
        key_parts (get_or old f 0) (get_or old b 0) (node_holds node f) (node_holds node b)
        (sym (r.are_keys.each f (p.small (get_or new b 0) (p.below b lt))) ∙ p.same b lt ∙ r.are_keys.each b lt)

-- a node that came before tells no bytes of a class apart
pub repeated_keeps : (nodes : List RegexNode) (node : RegexNode) (classes firsts : List ℕ) (i : ℕ) → slice_get nodes i ≡ Some node
    → AreClasses nodes classes firsts i → IsRepeated nodes i → KeepsClasses node classes firsts 256
repeated_keeps nodes node classes firsts i at h r b lt = h.alike b lt r.first node r.earlier (r.same ∙ at)

-- one node more, which tells no bytes of a class apart
pub classes_stay : (nodes : List RegexNode) (node : RegexNode) (classes firsts : List ℕ) (i : ℕ) → slice_get nodes i ≡ Some node
    → AreClasses nodes classes firsts i → KeepsClasses node classes firsts 256 → AreClasses nodes classes firsts (i + 1)
classes_stay nodes node classes firsts i at h keeps = record {
  len = h.len;
  below = h.below;
  first = h.first;
  alike = λ b lt q other less here. elim (cases_lt q i) [
    | inl early ↦ h.alike b lt q other early here
    | inr past ↦
        let e : node ≡ other = same_Some node other (sym at ∙ ap (slice_get nodes) (let g : i ≡ q = omega arith in g) ∙ here) in
        subst (λ z. node_holds z b ≡ node_holds z (get_or firsts (get_or classes b 0) 0)) e (keeps b lt)
  ];
  rising = h.rising;
}

-- a number of a rising list isn't less than its place
rising_place : (xs : List ℕ) (k : ℕ) → AreRising xs → k < length xs → k ≤ get_or xs k 0
rising_place xs zero rise lt = omega arith
rising_place xs (suc k) rise lt = (let h = rising_place xs k rise (omega arith) in let less : get_or xs k 0 < get_or xs (suc k) 0 = rise k
    (suc k) (omega arith) lt in omega arith)

-- so classes fit a byte
pub class_fits : (keys new firsts later : List ℕ) (b class : ℕ) → b < 256 → ClassPass keys new firsts b
    → IsClassOf keys firsts later b class → class < 256
class_fits keys new firsts later b class lt h is =
    let p = class_step keys new firsts later b class h is in
    (let le = rising_place later class p.rising is.within in let small = p.small class is.within in omega arith)

-- one key more
pub keys_more : (node : RegexNode) (classes keys : List ℕ) (b key : ℕ) → AreKeys node classes keys b
    → key ≡ key_of (get_or classes b 0) (node_holds node b) → AreKeys node classes (keys ++ key ∷ []) (b + 1)
keys_more node classes keys b key h e = record {
  len = omega (arith, h.len, length-append keys (key ∷ []));
  each = λ c lt. elim (cases_lt c b) [
    | inl less ↦ get_or_append_left keys (key ∷ []) 0 c (omega (arith, h.len)) ∙ h.each c less
    | inr past ↦
        let same : c ≡ b = omega arith in
        subst (λ z. get_or (keys ++ key ∷ []) z 0 ≡ key_of (get_or classes z 0) (node_holds node z)) (sym same)
        (get_or_push keys key 0 b h.len ∙ e)
  ];
}
