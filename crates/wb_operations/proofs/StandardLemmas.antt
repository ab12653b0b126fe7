-- The names of the standard operations differ, so that a table can be filled with them.
use Rattle.std.proofs.Common.{◌≡◌, ◌<◌, ◌≤◌, ◌+◌, ◌&&◌, ℕ, zero, suc, Bool, true, false, not, List, [], ◌∷◌, ◌++◌, Some, All, length, take}
use Rattle.std.proofs.Common.{map, slice_get, get_or, refl, sym, ap, subst, ◌∙◌, arith}
use Rattle.std.specs.Prelude.{IfSome, Contains}
use Rattle.std.specs.List.{list_any}
use Rattle.std.specs.Str.{bytes_eq}
use Rattle.std.proofs.lemmas.List.{length-map, take_all}
use Rattle.std.proofs.lemmas.List.Folds.{list_any_at}
use Rattle.std.proofs.lemmas.Slice.Eq.{bytes_eq-Decides}
use Rattle.std.proofs.lemmas.Option.{same_Some, slice_get_within, get_or_from_slice_get}
use Rattle.wb_lemmas.proofs.Booleans.{and_left, and_right, not_true}
use Rattle.wb_base.specs.declared.symbol.Kind.{Kind}
use Rattle.wb_base.specs.Different.{Differ}
use Rattle.wb_operations.specs.Given.{IsPlainKind}
use Rattle.wb_operations.specs.Operations.{OperationSignature, HasOperation, names_of}
use Rattle.wb_operations.specs.Standard.{StandardOperation, standard_operations, standard_signature, standard_signatures}
use Rattle.wb_operations.proofs.EntryLemmas.{name-is-new, copy-step}
use Rattle.wb_operations.proofs.KindLemmas.{sound_at, signature_at, standard_count}

-- no text is among those after it
abbrev all_fresh : List (List ℕ) → Bool
all_fresh [] = true
all_fresh (n ∷ ns) = not (list_any (bytes_eq n) ns) && all_fresh ns

-- a text isn't at a place of those after it
not_after : (n : List ℕ) (ns : List (List ℕ)) (x : List ℕ) (i : ℕ) → not (list_any (bytes_eq n) ns) ≡ true → n ≡ x
    → slice_get ns i ≡ Some x → ⊥
not_after n ns x i fresh same at =
    let is : get_or ns i x ≡ x = get_or_from_slice_get ns i x x at in
    let yes : list_any (bytes_eq n) ns ≡ true = list_any_at (bytes_eq n) ns i x (slice_get_within ns i x at)
    ((bytes_eq-Decides n (get_or ns i x)).1 (same ∙ sym is)) in
    let no = not_true (list_any (bytes_eq n) ns) fresh in
    cc (yes, no)

-- then the texts differ
fresh_differ : (ns : List (List ℕ)) → all_fresh ns ≡ true → Differ ns
fresh_differ [] fresh x i j first second = cc
fresh_differ (n ∷ ns) fresh x zero zero first second = refl
fresh_differ (n ∷ ns) fresh x zero (suc j) first second =
    absurd (not_after n ns x j (and_left (not (list_any (bytes_eq n) ns)) (all_fresh ns) fresh) (same_Some n x first) second)
fresh_differ (n ∷ ns) fresh x (suc i) zero first second =
    absurd (not_after n ns x i (and_left (not (list_any (bytes_eq n) ns)) (all_fresh ns) fresh) (same_Some n x second) first)
fresh_differ (n ∷ ns) fresh x (suc i) (suc j) first second =
    ap suc (fresh_differ ns (and_right (not (list_any (bytes_eq n) ns)) (all_fresh ns) fresh) x i j first second)

-- the standard names do
pub standard_differ : Differ (names_of standard_signatures)
unfolding standard_operations
standard_differ = fresh_differ (names_of standard_signatures) refl

-- there are sixteen signatures
pub signature_count : length standard_signatures ≡ 16
signature_count = length-map standard_operations (λ (o : StandardOperation). o.signature) ∙ standard_count

-- the next name is new
pub standard_new : (made : List OperationSignature) (k : ℕ) (name : List ℕ) → k < 16 → made ≡ take k standard_signatures → name ≡
    (standard_signature k).name → HasOperation made name → ⊥
standard_new made k name lt so_far is =
    name-is-new standard_signatures k made name standard_differ (omega (arith, lt, signature_count)) so_far (rw (signature_at k lt) is)

-- the kinds that it takes are plain
pub standard_taken : (k : ℕ) (taken : List Kind) → k < 16 → taken ≡ (standard_signature k).takes → All IsPlainKind taken
standard_taken k taken lt is = subst (All IsPlainKind) (sym is) (sound_at k lt).plain.takes_plain

-- and so is the kind that it gives
pub standard_made : (k : ℕ) (made : Kind) → k < 16 → made ≡ (standard_signature k).gives → IsPlainKind made
standard_made k made lt is = subst IsPlainKind (sym is) (sound_at k lt).plain.gives_plain

-- one signature more
pub standard_step : (made new : List OperationSignature) (k : ℕ) (s : OperationSignature) → made ≡ take k standard_signatures → k < 16
    → s.name ≡ (standard_signature k).name
    → s.takes ≡ (standard_signature k).takes → s.gives ≡ (standard_signature k).gives → new ≡ made ++ s ∷ [] → new ≡ take
    (k + 1) standard_signatures
standard_step made new k s so_far lt name taken given pushed =
    copy-step standard_signatures made new k s so_far (omega (arith, lt, signature_count)) (rw (signature_at k lt) name)
    (rw (signature_at k lt) taken) (rw (signature_at k lt) given) pushed

-- sixteen are all
pub standard_all : (made : List OperationSignature) (k : ℕ) → 16 ≤ k → made ≡ take k standard_signatures → made ≡ standard_signatures
standard_all made k past so_far = so_far ∙ take_all k standard_signatures (omega (arith, past, signature_count))
