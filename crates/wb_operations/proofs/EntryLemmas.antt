-- How the signatures of names and entries read: their names, at a place, and with one more.
use Rattle.std.proofs.Common.{◌≡◌, ℕ, zero, suc, ◌+◌, ◌<◌, List, [], ◌∷◌, ◌++◌, Some, length, take, map, All, get_or, refl, sym, ap, subst}
use Rattle.std.proofs.Common.{◌∙◌, arith, length-append}
use Rattle.std.specs.Prelude.{Option, None, IfSome, IfNone, slice_get, Contains}
use Rattle.std.proofs.lemmas.List.{get_or-map, take_more, length-map, take-map, get_or-take}
use Rattle.std.proofs.lemmas.List.Elements.{All-nil, All-cons, All-head, All-tail, All-push}
use Rattle.std.proofs.lemmas.Option.{slice_get-get_or, slice_get_within, get_or_from_slice_get, same_Some}
use Rattle.wb_lemmas.proofs.Members.{place_of}
use Rattle.wb_lemmas.proofs.Places.{at_take, at_within}
use Rattle.wb_lemmas.proofs.Elements.{all_at}
use Rattle.wb_base.specs.declared.symbol.Kind.{Kind}
use Rattle.wb_base.specs.Names.{AddsName}
use Rattle.wb_base.specs.Different.{Differ}
use Rattle.wb_base.specs.declared.names.Added.{Added}
use Rattle.wb_base.specs.declared.names.Added.TheVariants.{New, Present}
use Rattle.wb_operations.specs.Given.{IsPlainKind}
use Rattle.wb_operations.specs.Operations.{OperationSignature, IsPlainSignature, names_of, HasOperation, IsOperation}
use Rattle.wb_operations.specs.Entries.{signature_of, signatures_of, IsPlainEntry, AreEntries}
use Rattle.wb_operations.specs.declared.signatures.Entry.{Entry}

-- as many signatures as entries
pub length-signatures : (names : List (List ℕ)) (es : List Entry) → length names ≡ length es → length (signatures_of names es) ≡ length es
length-signatures [] [] e = refl
length-signatures [] (x ∷ es) e = absurd (omega (arith, e))
length-signatures (n ∷ names) [] e = absurd (omega (arith, e))
length-signatures (n ∷ names) (x ∷ es) e = ap suc (length-signatures names es (omega (arith, e)))

-- the names of the signatures are the names
pub names-signatures : (names : List (List ℕ)) (es : List Entry) → length names ≡ length es → names_of (signatures_of names es) ≡ names
names-signatures [] [] e = refl
names-signatures [] (x ∷ es) e = absurd (omega (arith, e))
names-signatures (n ∷ names) [] e = absurd (omega (arith, e))
names-signatures (n ∷ names) (x ∷ es) e = ap (λ (ns : List (List ℕ)). n ∷ ns) (names-signatures names es (omega (arith, e)))

-- one name and one entry more
pub signatures-push : (names : List (List ℕ)) (es : List Entry) (n : List ℕ) (x : Entry) → length names ≡ length es
    → signatures_of (names ++ n ∷ []) (es ++ x ∷ []) ≡ signatures_of names es ++ signature_of n x ∷ []
signatures-push [] [] n x e = refl
signatures-push [] (y ∷ es) n x e = absurd (omega (arith, e))
signatures-push (m ∷ names) [] n x e = absurd (omega (arith, e))
signatures-push (m ∷ names) (y ∷ es) n x e =
    ap (λ (ss : List OperationSignature). signature_of m y ∷ ss) (signatures-push names es n x (omega (arith, e)))

-- a fact of what an entry shows, at its place
pub at-entry : (names : List (List ℕ)) (es : List Entry) (i : ℕ) (x : Entry) (P : OperationSignature → Type 0) → length names ≡ length es
    → i < length es → x ≡ get_or es i x
    → ((n : List ℕ) → P (signature_of n x)) → IfSome (slice_get (signatures_of names es) i) P
at-entry [] [] i x P e lt is p = absurd (omega (arith, lt))
at-entry [] (y ∷ es) i x P e lt is p = absurd (omega (arith, e))
at-entry (n ∷ names) [] i x P e lt is p = absurd (omega (arith, e))
at-entry (n ∷ names) (y ∷ es) zero x P e lt is p = subst (λ (z : Entry). P (signature_of n z)) is (p n)
at-entry (n ∷ names) (y ∷ es) (suc i) x P e lt is p = at-entry names es i x P (omega (arith, e)) (omega (arith, lt)) is p

-- a fact of what a name shows, at its place
pub at-name : (names : List (List ℕ)) (es : List Entry) (i : ℕ) (n : List ℕ) (P : OperationSignature → Type 0) → length names ≡ length es
    → slice_get names i ≡ Some n
    → ((x : Entry) → P (signature_of n x)) → IfSome (slice_get (signatures_of names es) i) P
at-name [] es i n P e at p = cc
at-name (m ∷ names) [] i n P e at p = absurd (omega (arith, e))
at-name (m ∷ names) (y ∷ es) zero n P e at p = subst (λ (z : List ℕ). P (signature_of z y)) (sym (same_Some m n at)) (p y)
at-name (m ∷ names) (y ∷ es) (suc i) n P e at p = at-name names es i n P (omega (arith, e)) at p

-- the number of a name is that of its operation
pub operation-at : (names : List (List ℕ)) (es : List Entry) (i : ℕ) (n : List ℕ) → length names ≡ length es → slice_get names i ≡ Some n
    → IsOperation (signatures_of names es) n i
operation-at [] es i n e at = cc
operation-at (m ∷ names) [] i n e at = absurd (omega (arith, e))
operation-at (m ∷ names) (y ∷ es) zero n e at = same_Some m n at
operation-at (m ∷ names) (y ∷ es) (suc i) n e at = operation-at names es i n (omega (arith, e)) at

-- no kind of the signatures is that of trees
pub plain-signatures : (names : List (List ℕ)) (es : List Entry) → length names ≡ length es → All IsPlainEntry es → All IsPlainSignature
    (signatures_of names es)
plain-signatures [] [] e all = All-nil IsPlainSignature
plain-signatures [] (x ∷ es) e all = absurd (omega (arith, e))
plain-signatures (n ∷ names) [] e all = absurd (omega (arith, e))
plain-signatures (n ∷ names) (x ∷ es) e all =
    let here = All-head IsPlainEntry x es all in
    All-cons IsPlainSignature (signature_of n x) (signatures_of names es)
    (record { takes_plain = here.takes_plain; gives_plain = here.gives_plain })
    (plain-signatures names es (omega (arith, e)) (All-tail IsPlainEntry x es all))

-- a name that wasn't there goes last
pub name-added : (old : List (List ℕ)) (name : List ℕ) (added : Added) (new : List (List ℕ)) → AddsName old name added new
    → ¬ Contains old name → new ≡ old ++ name ∷ []
name-added old name (New number) new is absent = is.2
name-added old name (Present number) new is absent =
    absurd (absent (number, slice_get_within old number name is.0, get_or_from_slice_get old number name name is.0))

-- the names after one that no operation has was added
pub pushed-name : (names : List (List ℕ)) (es : List Entry) (view : List OperationSignature) (name : List ℕ) (added : Added)
    (new : List (List ℕ)) → length names ≡ length es
    → signatures_of names es ≡ view → AddsName names name added new → ¬ HasOperation view name → new ≡ names ++ name ∷ []
pushed-name names es view name added new e shown adds absent =
    name-added names name added new adds
    (λ has. absent (subst (λ (ss : List OperationSignature). HasOperation ss name) shown
    (subst (λ (ns : List (List ℕ)). Contains ns name) (sym (names-signatures names es e)) has)))

-- one name and one entry of plain kinds more keep the invariant
pub entries-push : (names : List (List ℕ)) (es : List Entry) (name : List ℕ) (x : Entry) {taken : List Kind} → AreEntries names es
    → x.takes.items ≡ taken → All IsPlainKind taken → IsPlainKind x.gives
    → AreEntries (names ++ name ∷ []) (es ++ x ∷ [])
entries-push names es name x are same taken made = record {
  counted = omega (arith, are.counted, length-append names (name ∷ []), length-append es (x ∷ []));
  plain = All-push IsPlainEntry es x are.plain (record { takes_plain = subst (All IsPlainKind) (sym same) taken; gives_plain = made });
}

-- what one name and one entry more show
pub shown-push : (names : List (List ℕ)) (es : List Entry) (view : List OperationSignature) (name : List ℕ) (x : Entry) (taken : List Kind)
    → length names ≡ length es
    → signatures_of names es ≡ view → x.takes.items ≡ taken → signatures_of (names ++ name ∷ [])
    (es ++ x ∷ []) ≡ view ++ record { name = name; takes = taken; gives = x.gives } ∷ []
shown-push names es view name x taken e shown same =
    signatures-push names es name x e
    ∙ ap (λ (ss : List OperationSignature). ss ++ signature_of name x ∷ []) shown
    ∙ ap (λ (ks : List Kind). view ++ record { name = name; takes = ks; gives = x.gives } ∷ []) same

-- the name of an operation isn't one of those before it
pub name-is-new : (all : List OperationSignature) (k : ℕ) (made : List OperationSignature) (name : List ℕ) → Differ (names_of all)
    → k < length all → made ≡ take k all
    → IfSome (slice_get all k) (λ (s : OperationSignature). name ≡ s.name) → HasOperation made name → ⊥
name-is-new all k made name apart lt so_far named has =
    let d : OperationSignature = get_or all k
    (record { name = []; takes = []; gives = Rattle.wb_base.specs.declared.symbol.Kind.TheVariants.Int }) in
    let at : slice_get all k ≡ Some d = slice_get-get_or all k _ lt in
    let is : name ≡ d.name = rw at at named in
    let within : k < length (names_of all) = omega (arith, length-map all (λ (s : OperationSignature). s.name), lt) in
    let here : slice_get (names_of all) k ≡ Some name =
    slice_get-get_or (names_of all) k name within ∙ ap Some (get_or-map (λ (s : OperationSignature). s.name) all k _ name lt ∙ sym is) in
    let there = place_of (names_of made) name has in
    let cut : names_of made ≡ take k (names_of all) = ap names_of so_far ∙ sym (take-map (λ (s : OperationSignature). s.name) k all) in
    let before = at_take (names_of all) k there.0 name (subst (λ (ns : List (List ℕ)). slice_get ns there.0 ≡ Some name) cut there.1) in
    let same : there.0 ≡ k = apart name there.0 k before.1 here in
    omega (arith, before.0, same)

-- a copy of the first signatures, with one more
pub copy-step : (all made new : List OperationSignature) (k : ℕ) (s : OperationSignature) → made ≡ take k all → k < length all
    → IfSome (slice_get all k) (λ (t : OperationSignature). s.name ≡ t.name) → IfSome (slice_get all k)
    (λ (t : OperationSignature). s.takes ≡ t.takes)
    → IfSome (slice_get all k) (λ (t : OperationSignature). s.gives ≡ t.gives) → new ≡ made ++ s ∷ [] → new ≡ take (k + 1) all
copy-step all made new k s so_far lt name takes given pushed =
    let at = slice_get-get_or all k s lt in
    let t = get_or all k s in
    let name' : s.name ≡ t.name = rw at at name in
    let takes' : s.takes ≡ t.takes = rw at at takes in
    let gives' : s.gives ≡ t.gives = rw at at given in
    let same : s ≡ t =
    ap (λ (n : List ℕ). record s { name = n }) name' ∙ ap (λ (ks : List Kind). record t { takes = ks; gives = s.gives }) takes' ∙ ap
    (λ (g : Kind). record t { gives = g }) gives' in
    pushed ∙ ap (λ (xs : List OperationSignature). xs ++ s ∷ []) so_far ∙ ap (λ (u : OperationSignature). take k all ++ u ∷ []) same ∙ sym
    (take_more all k s lt)

-- what is found among the names is an operation
pub found-among : (names : List (List ℕ)) (es : List Entry) (view : List OperationSignature) (n : List ℕ) (r : Option ℕ)
    → length names ≡ length es → signatures_of names es ≡ view
    → IfSome r (λ k. slice_get names k ≡ Some n) → IfSome r (IsOperation view n)
found-among names es view n None e shown found = tt
found-among names es view n (Some k) e shown found =
    subst (λ (ss : List OperationSignature). IsOperation ss n k) shown (operation-at names es k n e found)

-- what isn't among the names is no operation
pub none-among : (names : List (List ℕ)) (es : List Entry) (view : List OperationSignature) (n : List ℕ) (r : Option ℕ)
    → length names ≡ length es → signatures_of names es ≡ view
    → IfNone r (¬ Contains names n) → IfNone r (¬ HasOperation view n)
none-among names es view n (Some k) e shown none = tt
none-among names es view n None e shown none =
    λ has. none (subst (λ (ns : List (List ℕ)). Contains ns n) (names-signatures names es e)
    (subst (λ (ss : List OperationSignature). HasOperation ss n) (sym shown) has))

-- the kinds of an operation are plain
pub plain-at : (all : List OperationSignature) (k : ℕ) (taken : List Kind) (made : Kind) → All IsPlainSignature all → k < length all
    → IfSome (slice_get all k) (λ (s : OperationSignature). taken ≡ s.takes) → IfSome (slice_get all k)
    (λ (s : OperationSignature). made ≡ s.gives) → All IsPlainKind taken × IsPlainKind made
plain-at all k taken made plain lt takes given =
    let (s, at) = at_within all k lt in
    let p = all_at IsPlainSignature all k s plain at in
    let one : taken ≡ s.takes = rw at at takes in
    let other : made ≡ s.gives = rw at at given in
    (subst (All IsPlainKind) (sym one) p.takes_plain, subst IsPlainKind (sym other) p.gives_plain)
