-- Contents that are an extension after others are apart from them, and make one more of them.
use Rattle.std.proofs.Common.{◌≡◌, ◌<◌, ◌+◌, ◌++◌, inl, inr, ℕ, List, [], ◌∷◌, Some, Contains, length, map, Result, Ok, Err, IfOk, subst}
use Rattle.std.proofs.Common.{sym, ap, refl, ◌∙◌, ◌⊎◌, ◌≢◌, zero, suc, arith, Bool, true, false, IsTrue, ◌↔◌, slice_get, slice_index_or}
use Rattle.std.proofs.lemmas.List.Elements.{All-push}
use Rattle.std.proofs.lemmas.Option.{slice_get_within, same_Some}
use Rattle.wb_certify_files.specs.Extensions.{IsOneExtension}
use Rattle.std.proofs.lemmas.Bool.Decides.{eqb_tells}
use Rattle.wb_lemmas.proofs.Members.{contains_at, contains_first, contains_later, contains_cases}
use Rattle.wb_lemmas.proofs.Places.{at_push}
use Rattle.wb_base.specs.Different.{Differ}
use Rattle.wb_certify_files.specs.Kept.{ExtensionView}
use Rattle.wb_certify_files.specs.Hosts.{CertifiedView}
use Rattle.wb_compose_texts.specs.Composed.{IsWith, name_of, name_in}
use Rattle.wb_certify_files.specs.ExtensionContents.{IsExtensionText}
use Rattle.wb_certify_files.specs.Specifications.{IsSpecFor}
use Rattle.wb_operations.specs.Operations.{OperationSignature}
use Rattle.wb_reader.proofs.OneText.{one_text as one_read}
use Rattle.wb_syntax_resolved.specs.declared.resolved.ResolvedParts.{ResolvedParts}
use Rattle.wb_syntax.specs.SpecText.{SpecView}
use Rattle.wb_compose_texts.specs.Unions.{all_resolved}
use Rattle.wb_compose_files.specs.Certified.{AreApart}
use Rattle.wb_compose_files.specs.Extensions.{names_of}
use Rattle.wb_compose_files.specs.Inner.Next.{IsApartFrom}

-- what holds of an answer, from what holds of it
pub on_ok : {X E : Type 0} (r : Result X E) (P Q : X → Type 0) → ((x : X) → P x → Q x) → IfOk r P → IfOk r Q
on_ok (Ok x) P Q weaker holds = weaker x holds
on_ok (Err e) P Q weaker holds = tt

-- an extension's value has the name of its specification
pub name_is : (host : ResolvedParts) (operations : List OperationSignature) (contents : List ℕ) (spec : SpecView) (value : ResolvedParts)
    → IsSpecFor host contents spec → IsExtensionText host operations contents value → name_in value ≡ spec.name
name_is host operations contents spec value is text =
    let same : text.stands.spec ≡ spec = one_read contents text.stands.spec spec text.stands.accepted.1 is.accepted.1 in
    let one : value.attributes.extensions ≡ text.stands.spec.name ∷ [] = text.stands.names.value.extensions in
    ap (λ (names : List (List ℕ)). slice_index_or names 0 []) one ∙ ap (λ (x : SpecView). x.name) same

-- an extension of this name, which none before it has, is apart from them
pub is_apart : (host : CertifiedView) (operations : List OperationSignature) (before : List ExtensionView) (e : ExtensionView)
    (contents : List ℕ) (spec : SpecView) → IsWith host e → IsSpecFor host.resolved contents spec
    → IsExtensionText host.resolved operations contents e.resolved → ¬ Contains (names_of (all_resolved before)) spec.name
    → IsApartFrom host before e
is_apart host operations before e contents spec with_it is text new = record {
  with_host = with_it;
  new = subst (λ (name : List ℕ). ¬ Contains (names_of (all_resolved before)) name)
      (sym (name_is host.resolved operations contents spec e.resolved is text)) new;
}

-- the names of extensions are those of their values
names_same : (es : List ExtensionView) → names_of (all_resolved es) ≡ map name_of es
names_same [] = refl
names_same (e ∷ es) = ap (λ (names : List (List ℕ)). name_of e ∷ names) (names_same es)

-- and of one more
names_more : (es : List ExtensionView) (e : ExtensionView) → map name_of (es ++ e ∷ []) ≡ map name_of es ++ name_of e ∷ []
names_more [] e = refl
names_more (x ∷ es) e = ap (λ (names : List (List ℕ)). name_of x ∷ names) (names_more es e)

-- the name of an extension, by its value
pub named_one : (e : ExtensionView) (name : List ℕ) → IsOneExtension e.resolved name → name_of e ≡ name
named_one e name one = ap (λ (names : List (List ℕ)). slice_index_or names 0 []) one

-- what is below the next number is below this one, or is it
below_next : (k n : ℕ) → k < n + 1 → (k < n) ⊎ (k ≡ n)
below_next k n lt = elim (eqb_tells k n) [
  | inl same ↦ inr same.1
  | inr differs ↦ (let other = differs.1 in inl (omega (arith, lt, other)))
]

-- none of the extensions up to a place has the name, and the one there hasn't either
pub none_more : (es : List ExtensionView) (name : List ℕ) (at : ℕ) (x : ExtensionView) → slice_get es at ≡ Some x → name_of x ≢ name
    → ((k : ℕ) (e : ExtensionView) → k < at → slice_get es k ≡ Some e → name_of e ≢ name) → (k : ℕ) (e : ExtensionView) → k < at + 1
    → slice_get es k ≡ Some e → name_of e ≢ name
none_more es name at x here differs none k e lt there = elim (below_next k at lt) [
  | inl before ↦ none k e before there
  | inr same ↦ subst (λ (y : ExtensionView). name_of y ≢ name)
      (same_Some x e (sym here ∙ (ap (slice_get es) (sym same) ∙ there))) differs
]

-- what isn't found by a test doesn't hold
pub not_found : (b : Bool) (P : Type 0) → (IsTrue b ↔ P) → b ≡ false → ¬ P
not_found b P test is holds = let yes : b ≡ true = test.1 holds in absurd (cc)

-- an extension of this name at a place
pub has_at : (es : List ExtensionView) (e : ExtensionView) (name : List ℕ) (at : ℕ) → slice_get es at ≡ Some e → name_of e ≡ name
    → Contains (names_of (all_resolved es)) name
has_at [] e name at there same = let within = slice_get_within [] at e there in absurd (omega (arith, within))
has_at (x ∷ es) e name zero there same =
    subst (λ (first : List ℕ). Contains (first ∷ names_of (all_resolved es)) name) (sym (ap name_of (same_Some x e there) ∙ same))
    (contains_first name (names_of (all_resolved es)))
has_at (x ∷ es) e name (suc at) there same =
    contains_later (name_of x) name (names_of (all_resolved es)) (has_at es e name at there same)

-- where none has it
pub has_none : (es : List ExtensionView) (name : List ℕ)
    → ((k : ℕ) (e : ExtensionView) → slice_get es k ≡ Some e → name_of e ≢ name) → ¬ Contains (names_of (all_resolved es)) name
has_none [] name none (i, within, same) = absurd (omega (arith, within))
has_none (x ∷ es) name none has =
    elim (contains_cases (name_of x) name (names_of (all_resolved es)) has) [
      | inl same ↦ none zero x refl same
      | inr later ↦ has_none es name (λ k e there. none (suc k) e there) later
    ]

-- no extensions are apart
pub none_apart : (host : CertifiedView) → AreApart (record { host = host; extensions = [] })
none_apart host = record {
  each = λ i d within. absurd (omega (arith, within));
  names = λ x i j at other. let within = slice_get_within [] i x at in absurd (omega (arith, within));
}

-- names that differ and one more
name_push : (xs : List (List ℕ)) (x : List ℕ) → Differ xs → ¬ Contains xs x → Differ (xs ++ x ∷ [])
name_push xs x different new y i j first second = cases (at_push xs x y i first) (at_push xs x y j second) where
  cases : (slice_get xs i ≡ Some y) ⊎ ((i ≡ length xs) × (x ≡ y)) → (slice_get xs j ≡ Some y) ⊎ ((j ≡ length xs) × (x ≡ y)) → i ≡ j
  cases (inl a) (inl b) = different y i j a b
  cases (inl a) (inr b) = absurd (new (subst (λ (z : List ℕ). Contains xs z) (sym b.1) (contains_at xs y i a)))
  cases (inr a) (inl b) = absurd (new (subst (λ (z : List ℕ). Contains xs z) (sym a.1) (contains_at xs y j b)))
  cases (inr a) (inr b) = a.0 ∙ sym b.0

-- the values of extensions and of one more
pub values_more : (es : List ExtensionView) (e : ExtensionView) → all_resolved (es ++ e ∷ []) ≡ all_resolved es ++ e.resolved ∷ []
values_more [] e = refl
values_more (x ∷ es) e = ap (λ (values : List ResolvedParts). x.resolved ∷ values) (values_more es e)

-- one that is apart from others makes one more
pub apart_more : (host : CertifiedView) (es : List ExtensionView) (e : ExtensionView) → AreApart (record { host = host; extensions = es })
    → IsApartFrom host es e → AreApart (record { host = host; extensions = es ++ e ∷ [] })
apart_more host es e are is = record {
  each = All-push (IsWith host) es e are.each is.with_host;
  names = subst (λ (names : List (List ℕ)). Differ names) (sym (names_more es e))
      (name_push (map name_of es) (name_of e) are.names
      (subst (λ (names : List (List ℕ)). ¬ Contains names (name_of e)) (names_same es) is.new));
}
