-- What is made of the file of an extension after others, and of several in their order, is their report; and a run that stops at one of
-- them has its cause.
use Rattle.std.proofs.Common.{◌≡◌, ◌<◌, ◌+◌, ◌++◌, inl, inr, ℕ, List, [], ◌∷◌, Option, Some, None, Contains, length, map, drop, subst, sym}
use Rattle.std.proofs.Common.{ap, refl, ◌∙◌, ◌⊎◌, ◌≢◌, zero, suc, arith, Bool, true, false, IsTrue, ◌↔◌, slice_get, slice_index_or}
use Rattle.std.proofs.lemmas.List.Elements.{All-push}
use Rattle.std.proofs.lemmas.Option.{slice_get_within, same_Some}
use Rattle.wb_program_files.specs.Extensions.{IsOneExtension}
use Rattle.std.proofs.lemmas.Bool.Decides.{eqb_tells}
use Rattle.wb_lemmas.proofs.Members.{contains_at, contains_first, contains_later, contains_cases}
use Rattle.wb_lemmas.proofs.Places.{at_push}
use Rattle.wb_base.specs.Different.{Differ}
use Rattle.wb_program_files.specs.Kept.{ExtensionView}
use Rattle.wb_program_files.specs.Hosts.{CertifiedView}
use Rattle.wb_compose_texts.specs.Composed.{IsWith, name_of, name_in}
use Rattle.wb_program_files.specs.ExtensionContents.{IsExtensionText}
use Rattle.wb_program_files.specs.Specifications.{IsHeaderRefusal, IsSpecFor}
use Rattle.wb_program_files.specs.extension_refusal.FileRefusal.TheVariants as f
use Rattle.wb_operations.specs.Operations.{OperationSignature}
use Rattle.wb_reader.proofs.OneText.{one_text as one_read}
use Rattle.wb_reader.specs.declared.refusal.SpecRefusal.TheVariants as s
use Rattle.wb_report.specs.declared.refusal.Refusal.TheVariants as r
use Rattle.wb_report.specs.declared.spec_reason.SpecReason.TheVariants as t
use Rattle.wb_syntax_resolved.specs.declared.resolved.ResolvedParts.{ResolvedParts}
use Rattle.wb_syntax.specs.SpecText.{SpecView}
use Rattle.wb_compose_texts.specs.Unions.{all_resolved}
use Rattle.wb_world.specs.Shelf.{Files}
use Rattle.wb_program_files.specs.Files.{FileIs, KnownFile}
use Rattle.wb_program_texts.specs.SeveralStops.{StopsEach}
use Rattle.wb_program_texts.specs.SeveralChecks.{AreEach, IsLaterRefusal, IsNext, IsNextText, RefusesEach, RefusesNext, names_of}
use Rattle.wb_program_texts.specs.Composable.{AreApart}
use Rattle.wb_program_texts.specs.Inner.Several.{IsApartFrom, IsNextRefusal, IsReached, RefusedNext}
use Rattle.wb_program_files.specs.Stopped.{Outside, Stopped}
use Rattle.wb_program_files.specs.declared.files.ReadFailure.{ReadFailure}
use Rattle.wb_program_texts.specs.declared.several.NextRefusal.{NextRefusal}
use Rattle.wb_program_texts.specs.declared.several.NextRefusal.TheVariants as n
use Rattle.wb_program_files.specs.declared.status.Status.{Status}
use Rattle.wb_program_files.proofs.StopLemmas.{weaker_stop}
use Rattle.wb_program_files.proofs.FileLemmas.{weaker_known}

-- a text that is too long is refused for that
pub too_long_header : (host : ResolvedParts) (contents : List ℕ) → 1048576 < length contents
    → IsHeaderRefusal host contents (f.Specification (r.Specification t.TooLong))
too_long_header host contents long = inl (record { refusal = s.TooLong; cause = long; shows = refl })

-- a refused extension has the report of its refusal
pub refused_next : (operations : List OperationSignature) (known : Option Files) (host : ResolvedParts) (before : List ResolvedParts)
    (file : List ℕ) (refusal : NextRefusal) (status : Status) (bytes : List ℕ)
    → KnownFile known file (λ contents. IsNextRefusal operations host before contents refusal) → RefusedNext file refusal status bytes
    → RefusesNext operations known host before file status bytes
refused_next operations known host before file (n.Header (f.Specification shown)) status bytes cause (ends, line) =
    inl (ends, record { shown = shown; cause = cause; line = line })
refused_next operations known host before file (n.Header (f.WrongHost name)) status bytes cause (ends, line) =
    inr (inl (ends, record { name = name; cause = cause; line = line }))
refused_next operations known host before file (n.Header (f.Certification shown)) status bytes cause (ends, line) =
    inr (inr (inr (inr (
      ends,
      record {
        shown = shown;
        cause = weaker_known known file (λ contents. IsHeaderRefusal host contents (f.Certification shown))
            (λ contents. IsLaterRefusal operations host before contents (f.Certification shown)) (λ contents is. absurd is) cause;
        line = line;
      },
    ))))
refused_next operations known host before file (n.Header (f.NoMemory error)) status bytes cause none_shown = absurd none_shown
refused_next operations known host before file (n.Duplicate name) status bytes cause (ends, line) =
    inr (inr (inl (ends, record { name = name; cause = cause; line = line })))
refused_next operations known host before file (n.Later (f.Specification shown)) status bytes cause (ends, line) =
    inr (inr (inr (inl (ends, record { shown = shown; cause = cause; line = line }))))
refused_next operations known host before file (n.Later (f.WrongHost name)) status bytes cause (ends, line) =
    inr (inl (
      ends,
      record {
        name = name;
        cause = weaker_known known file (λ contents. IsLaterRefusal operations host before contents (f.WrongHost name))
            (λ contents. IsHeaderRefusal host contents (f.WrongHost name)) (λ contents is. is.cause) cause;
        line = line;
      },
    ))
refused_next operations known host before file (n.Later (f.Certification shown)) status bytes cause (ends, line) =
    inr (inr (inr (inr (ends, record { shown = shown; cause = cause; line = line }))))
refused_next operations known host before file (n.Later (f.NoMemory error)) status bytes cause none_shown = absurd none_shown

-- an extension's value has the name of its specification
pub name_is : (host : ResolvedParts) (operations : List OperationSignature) (contents : List ℕ) (spec : SpecView) (value : ResolvedParts)
    → IsSpecFor host contents spec → IsExtensionText host operations contents value → name_in value ≡ spec.name
name_is host operations contents spec value is text =
    let same : text.stands.spec ≡ spec = one_read contents text.stands.spec spec text.stands.accepted.1 is.accepted.1 in
    let one : value.attributes.extensions ≡ text.stands.spec.name ∷ [] = text.stands.names.value.extensions in
    ap (λ (names : List (List ℕ)). slice_index_or names 0 []) one ∙ ap (λ (x : SpecView). x.name) same

-- an extension of this name, which none before it has, is apart from them
pub is_apart : (host : CertifiedView) (operations : List OperationSignature) (before : List ExtensionView) (e : ExtensionView)
    (contents : List ℕ) (spec : SpecView) → IsWith host e → IsSpecFor host.resolved contents spec
    → IsExtensionText host.resolved operations contents e.resolved → ¬ Contains (names_of (all_resolved before)) spec.name
    → IsApartFrom host before e
is_apart host operations before e contents spec with_it is text new = record {
  with_host = with_it;
  new = subst (λ (name : List ℕ). ¬ Contains (names_of (all_resolved before)) name)
      (sym (name_is host.resolved operations contents spec e.resolved is text)) new;
}

-- the names of extensions are those of their values
names_same : (es : List ExtensionView) → names_of (all_resolved es) ≡ map name_of es
names_same [] = refl
names_same (e ∷ es) = ap (λ (names : List (List ℕ)). name_of e ∷ names) (names_same es)

-- and of one more
names_more : (es : List ExtensionView) (e : ExtensionView) → map name_of (es ++ e ∷ []) ≡ map name_of es ++ name_of e ∷ []
names_more [] e = refl
names_more (x ∷ es) e = ap (λ (names : List (List ℕ)). name_of x ∷ names) (names_more es e)

-- the name of an extension, by its value
pub named_one : (e : ExtensionView) (name : List ℕ) → IsOneExtension e.resolved name → name_of e ≡ name
named_one e name one = ap (λ (names : List (List ℕ)). slice_index_or names 0 []) one

-- what is below the next number is below this one, or is it
below_next : (k n : ℕ) → k < n + 1 → (k < n) ⊎ (k ≡ n)
below_next k n lt = elim (eqb_tells k n) [
  | inl same ↦ inr same.1
  | inr differs ↦ (let other = differs.1 in inl (omega (arith, lt, other)))
]

-- none of the extensions up to a place has the name, and the one there hasn't either
pub none_more : (es : List ExtensionView) (name : List ℕ) (at : ℕ) (x : ExtensionView) → slice_get es at ≡ Some x → name_of x ≢ name
    → ((k : ℕ) (e : ExtensionView) → k < at → slice_get es k ≡ Some e → name_of e ≢ name) → (k : ℕ) (e : ExtensionView) → k < at + 1
    → slice_get es k ≡ Some e → name_of e ≢ name
none_more es name at x here differs none k e lt there = elim (below_next k at lt) [
  | inl before ↦ none k e before there
  | inr same ↦ subst (λ (y : ExtensionView). name_of y ≢ name)
      (same_Some x e (sym here ∙ (ap (slice_get es) (sym same) ∙ there))) differs
]

-- what isn't found by a test doesn't hold
pub not_found : (b : Bool) (P : Type 0) → (IsTrue b ↔ P) → b ≡ false → ¬ P
not_found b P test is holds = let yes : b ≡ true = test.1 holds in absurd (cc)

-- an extension of this name at a place
pub has_at : (es : List ExtensionView) (e : ExtensionView) (name : List ℕ) (at : ℕ) → slice_get es at ≡ Some e → name_of e ≡ name
    → Contains (names_of (all_resolved es)) name
has_at [] e name at there same = let within = slice_get_within [] at e there in absurd (omega (arith, within))
has_at (x ∷ es) e name zero there same =
    subst (λ (first : List ℕ). Contains (first ∷ names_of (all_resolved es)) name) (sym (ap name_of (same_Some x e there) ∙ same))
    (contains_first name (names_of (all_resolved es)))
has_at (x ∷ es) e name (suc at) there same =
    contains_later (name_of x) name (names_of (all_resolved es)) (has_at es e name at there same)

-- where none has it
pub has_none : (es : List ExtensionView) (name : List ℕ)
    → ((k : ℕ) (e : ExtensionView) → slice_get es k ≡ Some e → name_of e ≢ name) → ¬ Contains (names_of (all_resolved es)) name
has_none [] name none (i, within, same) = absurd (omega (arith, within))
has_none (x ∷ es) name none has =
    elim (contains_cases (name_of x) name (names_of (all_resolved es)) has) [
      | inl same ↦ none zero x refl same
      | inr later ↦ has_none es name (λ k e there. none (suc k) e there) later
    ]

-- no extensions are apart
pub none_apart : (host : CertifiedView) → AreApart host []
none_apart host = record {
  each = λ i d within. absurd (omega (arith, within));
  names = λ x i j at other. let within = slice_get_within [] i x at in absurd (omega (arith, within));
}

-- names that differ and one more
name_push : (xs : List (List ℕ)) (x : List ℕ) → Differ xs → ¬ Contains xs x → Differ (xs ++ x ∷ [])
name_push xs x different new y i j first second = cases (at_push xs x y i first) (at_push xs x y j second) where
  cases : (slice_get xs i ≡ Some y) ⊎ ((i ≡ length xs) × (x ≡ y)) → (slice_get xs j ≡ Some y) ⊎ ((j ≡ length xs) × (x ≡ y)) → i ≡ j
  cases (inl a) (inl b) = different y i j a b
  cases (inl a) (inr b) = absurd (new (subst (λ (z : List ℕ). Contains xs z) (sym b.1) (contains_at xs y i a)))
  cases (inr a) (inl b) = absurd (new (subst (λ (z : List ℕ). Contains xs z) (sym a.1) (contains_at xs y j b)))
  cases (inr a) (inr b) = a.0 ∙ sym b.0

-- the names of values and of one more
names_push : (values : List ResolvedParts) (value : ResolvedParts) → names_of (values ++ value ∷ []) ≡ names_of values ++ name_in value ∷ []
names_push [] value = refl
names_push (x ∷ values) value = ap (λ (names : List (List ℕ)). name_in x ∷ names) (names_push values value)

module _ (operations : List OperationSignature) (files : Files) (host : ResolvedParts) where
  -- the value of a file after others has another name than these
  new_name : (before : List ResolvedParts) (value : ResolvedParts) (file : Option (List ℕ))
      → FileIs file (λ contents. IsNextText operations host before contents value) → ¬ Contains (names_of before) (name_in value)
  new_name before value None is = absurd is
  new_name before value (Some contents) is =
      subst (λ (name : List ℕ). ¬ Contains (names_of before) name)
      (sym (name_is host operations contents is.named.spec value is.named.is is.text ∙ is.named.named)) is.new

  -- all have different names
  pub each_differ : (left : List (List ℕ)) (before values : List ResolvedParts) → Differ (names_of before)
      → AreEach operations (Some files) host left before values → Differ (names_of values)
  each_differ [] before values different same =
      subst (λ (xs : List ResolvedParts). Differ (names_of xs)) (sym same) different
  each_differ (file ∷ left) before values different (value, is, each) =
      each_differ left (before ++ value ∷ []) values
      (subst (λ (names : List (List ℕ)). Differ names) (sym (names_push before value))
      (name_push (names_of before) (name_in value) different (new_name before value (files file) is))) each

-- no names differ
pub none_differ : Differ (names_of [])
none_differ = λ x i j at other. let within = slice_get_within [] i x at in absurd (omega (arith, within))

-- one that is apart from others makes one more
pub apart_more : (host : CertifiedView) (es : List ExtensionView) (e : ExtensionView) → AreApart host es → IsApartFrom host es e
    → AreApart host (es ++ e ∷ [])
apart_more host es e are is = record {
  each = All-push (IsWith host) es e are.each is.with_host;
  names = subst (λ (names : List (List ℕ)). Differ names) (sym (names_more es e))
      (name_push (map name_of es) (name_of e) are.names
      (subst (λ (names : List (List ℕ)). ¬ Contains names (name_of e)) (names_same es) is.new));
}

-- the values of extensions and of one more
pub values_more : (es : List ExtensionView) (e : ExtensionView) → all_resolved (es ++ e ∷ []) ≡ all_resolved es ++ e.resolved ∷ []
values_more [] e = refl
values_more (x ∷ es) e = ap (λ (values : List ResolvedParts). x.resolved ∷ values) (values_more es e)

module _ (operations : List OperationSignature) (before : Outside) (host : ResolvedParts) (files : List (List ℕ)) where
  -- before the first extension
  pub reached_first : IsReached operations before host files 0 []
  reached_first = record { all_are = λ all each. each; refused = λ status bytes is. is; stopped = λ now failure is. is }

  -- after a certified one
  pub reached_on : (at : ℕ) (file : List ℕ) (value : ResolvedParts) (values : List ResolvedParts)
      → drop at files ≡ file ∷ drop (at + 1) files → IsNext operations before.files host values file value
      → IsReached operations before host files at values → IsReached operations before host files (at + 1) (values ++ value ∷ [])
  reached_on at file value values here next reached = record {
    all_are = λ all each. reached.all_are all
        (subst (λ (left : List (List ℕ)). AreEach operations before.files host left values all) (sym here) (value, next, each));
    refused = λ status bytes refused. reached.refused status bytes
        (subst (λ (left : List (List ℕ)). RefusesEach operations before.files host left values status bytes) (sym here)
        (inr (value, next, refused)));
    stopped = λ now failure stopped. reached.stopped now failure
        (subst (λ (left : List (List ℕ)). Stopped before now (λ P. StopsEach operations before.files host P left values) failure) (sym here)
        (weaker_stop before now (λ P. StopsEach operations before.files host P (drop (at + 1) files) (values ++ value ∷ []))
        (λ P. StopsEach operations before.files host P (file ∷ drop (at + 1) files) values) failure (λ P stops. inr (value, next, stops))
        stopped));
  }

  -- at one that is refused
  pub refused_here : (at : ℕ) (file : List ℕ) (values : List ResolvedParts) (status : Status) (bytes : List ℕ)
      → drop at files ≡ file ∷ drop (at + 1) files → RefusesNext operations before.files host values file status bytes
      → IsReached operations before host files at values → RefusesEach operations before.files host files [] status bytes
  refused_here at file values status bytes here refuses reached =
      reached.refused status bytes
      (subst (λ (left : List (List ℕ)). RefusesEach operations before.files host left values status bytes) (sym here) (inl refuses))

  -- at one that can't be read
  pub stopped_here : (at : ℕ) (file : List ℕ) (values : List ResolvedParts) (now : Outside) (failure : ReadFailure)
      → drop at files ≡ file ∷ drop (at + 1) files → Stopped before now (λ P. P file) failure
      → IsReached operations before host files at values
      → Stopped before now (λ P. StopsEach operations before.files host P files []) failure
  stopped_here at file values now failure here stopped reached =
      reached.stopped now failure
      (subst (λ (left : List (List ℕ)). Stopped before now (λ P. StopsEach operations before.files host P left values) failure) (sym here)
      (weaker_stop before now (λ P. P file) (λ P. StopsEach operations before.files host P (file ∷ drop (at + 1) files) values) failure
      (λ P is. inl is) stopped))

  -- after the last one
  pub all_reached : (at : ℕ) (values : List ResolvedParts) → drop at files ≡ [] → IsReached operations before host files at values
      → AreEach operations before.files host files [] values
  all_reached at values none_left reached =
      reached.all_are values
      (subst (λ (left : List (List ℕ)). AreEach operations before.files host left values values) (sym none_left) refl)
