-- How the signatures of entries read: at a place, with one entry more, and where a name occurs first.
use Rattle.std.proofs.Common.{◌≡◌, ℕ, zero, suc, ◌<◌, ◌+◌, List, [], ◌∷◌, ◌++◌, length, take, All, get_or, refl, sym, ap, subst, ◌∙◌, arith}
use Rattle.std.specs.Prelude.{Some, IfSome, Contains, slice_get}
use Rattle.std.proofs.lemmas.List.{get_or-map, map-append, length-map, get_or-take, length-take-le, get_or_default, get_or_read, take_more}
use Rattle.std.proofs.lemmas.Option.{slice_get-get_or, slice_get_within, get_or_from_slice_get}
use Rattle.wb_values.specs.Signature.{Signature, HasNone, IsFirst}
use Rattle.wb_values.specs.Signatures.{signature_of, signatures_of, name_numbers}
use Rattle.wb_values.specs.NameIndex.{IsFirstUse, IsIndex}
use Rattle.wb_values.specs.declared.signatures.Entry.{Entry}
use Rattle.wb_base.specs.declared.symbol.Kind.{Kind}
use Rattle.wb_base.specs.Different.{Differ}

-- as many signatures as entries
pub length-signatures : (names : List (List ℕ)) (es : List Entry) → length (signatures_of names es) ≡ length es
length-signatures names es = length-map es (signature_of names)

-- the signature at a place is that of the entry there
pub signature-at : (names : List (List ℕ)) (es : List Entry) (i : ℕ) (e : Entry) → i < length es → get_or es i e ≡ e → slice_get
    (signatures_of names es) i ≡ Some (signature_of names e)
signature-at names es i e lt is =
    slice_get-get_or (signatures_of names es) i (signature_of names e) (omega (arith, length-signatures names es))
    ∙ ap (λ (s : Signature). Some s) (get_or-map (signature_of names) es i e (signature_of names e) lt ∙ ap (signature_of names) is)

-- the number of an entry's name is that of a name
pub number-below : (count : ℕ) (es : List Entry) (i : ℕ) (e : Entry) → All (λ (k : ℕ). k < count) (name_numbers es) → i < length es
    → get_or es i e ≡ e → e.name < count
number-below count es i e below lt is =
    let f = λ (x : Entry). x.name in
    let at : get_or (name_numbers es) i 0 ≡ e.name = get_or-map f es i e 0 lt ∙ ap f is in
    subst (λ (k : ℕ). k < count) at (below i 0 (omega (arith, length-map es f)))

-- what a fact of the signature at a place says of the entry there
pub at-entry : (names : List (List ℕ)) (es : List Entry) (view : List Signature) (i : ℕ) (e : Entry) (P : Signature → Type 0)
    → signatures_of names es ≡ view → i < length es → get_or es i e ≡ e → P (signature_of names e) → IfSome (slice_get view i) P
at-entry names es view i e P shown lt is p =
    subst (λ (xs : List Signature). IfSome (slice_get xs i) P) shown (rw (signature-at names es i e lt is) p)

-- more names after the others change no signature whose name was there
signatures-kept : (names more : List (List ℕ)) (es : List Entry) →
    ((k : ℕ) (text : List ℕ) → slice_get names k ≡ Some text → slice_get more k ≡ Some text) → All (λ (k : ℕ). k < length names)
    (name_numbers es) → signatures_of more es ≡ signatures_of names es
signatures-kept names more [] kept below = refl
signatures-kept names more (e ∷ es) kept below =
    let lt : e.name < length names = below 0 0 (omega arith) in
    let text = get_or names e.name [] in
    let there = kept e.name text (slice_get-get_or names e.name [] lt) in
    let same : get_or more e.name [] ≡ text = get_or_from_slice_get more e.name text [] there in
    let rest = signatures-kept names more es kept (λ k d l. below (suc k) d (omega arith)) in
    cc

-- one entry more is one signature more
pub signatures-push : (names more : List (List ℕ)) (es : List Entry) (e : Entry) (name : List ℕ) →
    ((k : ℕ) (text : List ℕ) → slice_get names k ≡ Some text → slice_get more k ≡ Some text) → All (λ (k : ℕ). k < length names)
    (name_numbers es) → slice_get more e.name ≡ Some name → signatures_of more
    (es ++ e ∷ []) ≡ signatures_of names es ++ record { name = name; left = e.left; children = e.children.items } ∷ []
signatures-push names more es e name kept below there =
    let a = map-append (signature_of more) es (e ∷ []) in
    let b = signatures-kept names more es kept below in
    let same : get_or more e.name [] ≡ name = get_or_from_slice_get more e.name name [] there in
    cc

-- the element at a place
element : (es : List Entry) (i : ℕ) → i < length es → (e : Entry) × (get_or es i e ≡ e)
element [] i lt = absurd (omega arith)
element (e ∷ es) zero lt = (e, refl)
element (e ∷ es) (suc i) lt = element es i (omega arith)

-- the signature at a place inside, whatever stands for those past the end
signature-or : (names : List (List ℕ)) (es : List Entry) (i : ℕ) (d : Signature) (e : Entry) → i < length es → get_or es i e ≡ e → get_or
    (signatures_of names es) i d ≡ signature_of names e
signature-or names es i d e lt is = get_or-map (signature_of names) es i e d lt ∙ ap (signature_of names) is

-- the number of the name of the entry at a place
number-at : (es : List Entry) (i : ℕ) (e : Entry) → i < length es → get_or es i e ≡ e → get_or (name_numbers es) i 0 ≡ e.name
number-at es i e lt is = get_or-map (λ (x : Entry). x.name) es i e 0 lt ∙ ap (λ (x : Entry). x.name) is

-- a name that isn't there is that of no signature
pub none-named : (names : List (List ℕ)) (es : List Entry) (name : List ℕ) → All (λ (k : ℕ). k < length names) (name_numbers es)
    → ¬ Contains names name → HasNone (signatures_of names es) name
none-named names es name below absent i d lt is =
    let inside : i < length es = omega (arith, length-signatures names es) in
    let e = element es i inside in
    let named : get_or names e.0.name [] ≡ name = sym (ap (λ (s : Signature). s.name) (signature-or names es i d e.0 inside e.1)) ∙ is in
    let number = number-below (length names) es i e.0 below inside e.1 in
    absent (e.0.name, number, get_or_default names e.0.name name [] number ∙ named)

-- the first use of a name is the first signature of it
pub first-named : (names : List (List ℕ)) (es : List Entry) (firsts : List ℕ) (k : ℕ) (name : List ℕ) (at : ℕ) → Differ names → IsIndex
    (length names) firsts (name_numbers es) → slice_get names k ≡ Some name → at ≡ get_or firsts k at → IsFirst
    (signatures_of names es) name at
first-named names es firsts k name at apart index there is =
    let known : k < length names = slice_get_within names k name there in
    let place : get_or firsts k 0 ≡ at = sym (get_or_read firsts k at (omega (arith, index.counted)) is 0) in
    let first_use : IsFirstUse (name_numbers es) k at = subst (IsFirstUse (name_numbers es) k) place (index.first k known) in
    let inside : at < length es = omega (arith, first_use.inside, length-map es (λ (x : Entry). x.name)) in
    let e = element es at inside in
    let number : e.0.name ≡ k = sym (number-at es at e.0 inside e.1) ∙ first_use.here in
    let named : get_or names e.0.name [] ≡ name = ap (λ (n : ℕ). get_or names n []) number ∙ get_or_from_slice_get names k name [] there in
    record {
      named = rw (signature-at names es at e.0 inside e.1) named;
      first = before e.0 first_use inside;
    }
  where
    before : Entry → IsFirstUse (name_numbers es) k at → at < length es → HasNone (take at (signatures_of names es)) name
    before e first_use inside i d lt is =
        let len = length-take-le at (signatures_of names es) (omega (arith, length-signatures names es)) in
        let i_lt : i < at = omega (arith, len) in
        let within : i < length es = omega arith in
        let f = element es i within in
        let same : get_or (take at (signatures_of names es)) i d ≡ signature_of names f.0 = get_or-take at
        (signatures_of names es) i d i_lt ∙ signature-or names es i d f.0 within f.1 in
        let named : get_or names f.0.name [] ≡ name = sym (ap (λ (s : Signature). s.name) same) ∙ is in
        let number = number-below (length names) es i f.0 index.below within f.1 in
        let stands : slice_get names f.0.name ≡ Some name = slice_get-get_or names f.0.name [] number ∙ ap
        (λ (text : List ℕ). Some text) named in
        first_use.before i i_lt (number-at es i f.0 within f.1 ∙ apart name f.0.name k stands there)

-- a copy of the first signatures, with one more
pub copy-step : (all made new : List Signature) (k : ℕ) (s : Signature) → made ≡ take k all → k < length all → IfSome (slice_get all k)
    (λ (t : Signature). s.name ≡ t.name) → IfSome (slice_get all k) (λ (t : Signature). s.left ≡ t.left) → IfSome (slice_get all k)
    (λ (t : Signature). s.children ≡ t.children) → new ≡ made ++ s ∷ [] → new ≡ take (k + 1) all
copy-step all made new k s so_far lt name left children pushed =
    let at = slice_get-get_or all k s lt in
    let name' : s.name ≡ (get_or all k s).name = rw at at name in
    let left' : s.left ≡ (get_or all k s).left = rw at at left in
    let children' : s.children ≡ (get_or all k s).children = rw at at children in
    let t = get_or all k s in
    let same : s ≡ t =
    ap (λ (n : List ℕ). record s { name = n }) name' ∙ ap (λ (n : ℕ). record t { left = n; children = s.children }) left' ∙ ap
    (λ (kinds : List Kind). record t { children = kinds }) children' in
    pushed ∙ ap (λ (xs : List Signature). xs ++ s ∷ []) so_far ∙ ap (λ (t : Signature). take k all ++ t ∷ []) same ∙ sym
    (take_more all k s lt)
