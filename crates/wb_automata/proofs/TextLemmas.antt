-- The text of a state is that of the state that it was found from, with a byte after it.
use Rattle.std.proofs.Common.{◌≡◌, ℕ, zero, suc, ◌+◌, ◌≤◌, ◌<◌, List, [], ◌∷◌, ◌++◌, refl, sym, ◌∙◌, ap, subst, arith, Some, length, get_or}
use Rattle.std.proofs.Common.{length-append, append_assoc, reverse}
use Rattle.std.proofs.lemmas.List.{reverse-append}
use Rattle.std.specs.Prelude.{slice_get, Option, None}
use Rattle.std.proofs.lemmas.Option.{slice_get-get_or, slice_get_past, same_Some}
use Rattle.wb_automata.specs.declared.predecessor.Predecessor.{Predecessor}
use Rattle.wb_automata.specs.Automata.{Path}
use Rattle.wb_automata.specs.Paths.{path_on, path_by, grown, paths_of}
use Rattle.wb_lemmas.proofs.Places.{append_keeps}
use Rattle.wb_automata.proofs.PlaceLemmas.{pushed_at}

grown_keeps : (paths : List Path) (os : List Predecessor) (k : ℕ) (x : Path) → slice_get paths k ≡ Some x → slice_get
    (grown paths os) k ≡ Some x
grown_keeps paths [] k x e = e
grown_keeps paths (o ∷ os) k x e = grown_keeps (paths ++ path_by paths o ∷ []) os k x (append_keeps paths (path_by paths o ∷ []) k x e)

-- the paths before a place, and the path there
record Entry (paths : List Path) (os : List Predecessor) (j : ℕ) (o : Predecessor) (place : ℕ) : Type 0 where
  pub earlier : List Path
  pub len : length earlier ≡ place
  pub keeps : (k : ℕ) (x : Path) → slice_get earlier k ≡ Some x → slice_get (grown paths os) k ≡ Some x
  pub is : slice_get (grown paths os) place ≡ Some (path_by earlier o)

entry : (paths : List Path) (os : List Predecessor) (j : ℕ) (o : Predecessor) (place : ℕ) → place ≡ length paths + j
    → slice_get os j ≡ Some o → Entry paths os j o place
entry paths [] j o place e at = cc
entry paths (p ∷ os) zero o place e at =
    let same : p ≡ o = same_Some p o at in
    let more : List Path = paths ++ path_by paths p ∷ [] in
    record {
      earlier = paths;
      len = omega arith;
      keeps = λ k x h. grown_keeps more os k x (append_keeps paths (path_by paths p ∷ []) k x h);
      is = grown_keeps more os place (path_by paths o) (subst (λ z. slice_get more place ≡ Some (path_by paths z)) same
          (pushed_at paths (path_by paths p) place (omega arith)));
    }
entry paths (p ∷ os) (suc j) o place e at =
    let more : List Path = paths ++ path_by paths p ∷ [] in
    let r = entry more os j o place (omega (arith, length-append paths (path_by paths p ∷ []))) at in
    record { earlier = r.earlier; len = r.len; keeps = r.keeps; is = r.is }

-- a state that was found from an earlier one
pub text_from : (os : List Predecessor) (j : ℕ) (o : Predecessor) → slice_get os j ≡ Some o → o.from < j → (u : Path) → slice_get
    (paths_of os) j ≡ Some u → (v : Path) × (slice_get (paths_of os) o.from ≡ Some v) × (u.text ≡ v.text ++ o.byte ∷ [])
unfolding paths_of
text_from os j o at lt u is =
    let r = entry [] os j o j (omega arith) at in
    let v : Path = get_or r.earlier o.from u in
    let h : slice_get r.earlier o.from ≡ Some v = slice_get-get_or r.earlier o.from u (omega (arith, r.len)) in (
      v,
      r.keeps o.from v h,
      ap (λ z. z.text) (same_Some u (record { set = o.set; text = v.text ++ o.byte ∷ [] })
          (sym is ∙ r.is ∙ ap (λ z. Some (path_on z o.set o.byte)) h)),
    )

-- a state at the start of a set
pub text_none : (os : List Predecessor) (j : ℕ) (o : Predecessor) → slice_get os j ≡ Some o → j ≤ o.from → (u : Path) → slice_get
    (paths_of os) j ≡ Some u → u.text ≡ []
unfolding paths_of
text_none os j o at le u is =
    let r = entry [] os j o j (omega arith) at in
    ap (λ z. z.text) (same_Some u (record { set = o.set; text = [] })
    (sym is ∙ r.is ∙ ap (λ z. Some (path_on z o.set o.byte)) (slice_get_past r.earlier o.from (omega (arith, r.len)))))

-- the set is that of the predecessor
pub set_at : (os : List Predecessor) (j : ℕ) (o : Predecessor) → slice_get os j ≡ Some o → (u : Path) → slice_get (paths_of os) j ≡ Some u
    → o.set ≡ u.set
unfolding paths_of
set_at os j o at u is =
    let r = entry [] os j o j (omega arith) at in
    set_on (slice_get r.earlier o.from) o.set o.byte ∙ ap (λ z. z.set) (same_Some (path_by r.earlier o) u (sym r.is ∙ is))
  where
    set_on : (p : Option Path) (set b : ℕ) → set ≡ (path_on p set b).set
    set_on None set b = refl
    set_on (Some p) set b = refl

pub paths_len : (os : List Predecessor) → length (paths_of os) ≡ length os
unfolding paths_of
paths_len os = (let e = grown_len [] os in omega arith)
  where
    grown_len : (paths : List Path) (os : List Predecessor) → length (grown paths os) ≡ length paths + length os
    grown_len paths [] = omega arith
    grown_len paths (o ∷ os) = omega (arith, grown_len (paths ++ path_by paths o ∷ []) os, length-append paths (path_by paths o ∷ []))

-- what is read back of a state's text so far
abbrev pub IsReadBack : List Predecessor → ℕ → ℕ → List ℕ → Type 0
IsReadBack os state at bytes = (at < length os) × ((u v : Path) → slice_get (paths_of os) state ≡ Some u → slice_get
    (paths_of os) at ≡ Some v → u.text ≡ v.text ++ reverse bytes)

-- one byte more is read back
pub text_back : (os : List Predecessor) (state at : ℕ) (bytes new : List ℕ) (o : Predecessor) → slice_get os at ≡ Some o → o.from < at
    → new ≡ bytes ++ o.byte ∷ [] → IsReadBack os state at bytes → IsReadBack os state o.from new
text_back os state at bytes new o here lt e (within, before) = (
  omega arith,
  λ u v is is_v.
      let w : Path = get_or (paths_of os) at u in
      let at_w : slice_get (paths_of os) at ≡ Some w = slice_get-get_or (paths_of os) at u (omega (arith, paths_len os)) in
      let (x, is_x, joins) = text_from os at o here lt w at_w in
      let same : x ≡ v = same_Some x v (sym is_x ∙ is_v) in
      before u w is at_w ∙ ap (λ z. z ++ reverse bytes) (joins ∙ ap (λ z. z.text ++ o.byte ∷ []) same) ∙ append_assoc v.text (o.byte ∷ [])
      (reverse bytes) ∙ sym (ap (λ z. v.text ++ reverse z) e ∙ ap (λ z. v.text ++ z) (reverse-append bytes (o.byte ∷ []))),
)

pub back_begin : (os : List Predecessor) (state : ℕ) → state < length os → IsReadBack os state state []
back_begin os state lt = (lt, λ u v is is_v. ap (λ z. z.text) (same_Some u v (sym is ∙ is_v)) ∙ nothing v.text)
  where
    nothing : (xs : List ℕ) → xs ≡ xs ++ []
    nothing [] = refl
    nothing (x ∷ xs) = ap (λ z. x ∷ z) (nothing xs)
