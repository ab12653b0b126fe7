-- Files that hold a certified host and certified extensions have a language, in which every text has an answer.
use Rattle.std.proofs.Common.{◌≡◌, ◌∙◌, ◌++◌, ◌∷◌, [], ℕ, List, Option, Some, None, map, refl, sym, ap, subst}
use Rattle.std.specs.Prelude.{All}
use Rattle.std.proofs.lemmas.List.Elements.{All-append, All-cons, All-nil}
use Rattle.wb_base.specs.Different.{Differ}
use Rattle.wb_certify_files.specs.Kept.{AreCertifiedBoth}
use Rattle.wb_certify_files.specs.ExtensionContents.{IsExtensionText}
use Rattle.wb_certify_files.specs.HostContents.{IsHostText}
use Rattle.wb_certify_files.specs.Hosts.{IsCertifiedValue}
use Rattle.wb_compose_texts.proofs.ExistenceLemmas.{some_answer}
use Rattle.wb_compose_texts.proofs.WrittenApart.{all_apart, all_certified}
use Rattle.wb_compose_texts.specs.Joined.{AreCertifiedApart, Extended}
use Rattle.wb_compose_texts.specs.Written.{name_in, written_in}
use Rattle.wb_compose_texts.specs.Names.{name_at, terminals_of}
use Rattle.wb_compose_texts.specs.Withdrawn.{AreWithdrawnNames}
use Rattle.wb_compose_theory_language.proofs.WithdrawnExist as withdrawn
use Rattle.wb_determinism_host.specs.Lexicons.{lexicon_of}
use Rattle.wb_lemmas.proofs.NotNot.{follows}
use Rattle.wb_operations.specs.Operations.{OperationSignature}
use Rattle.wb_syntax_resolved.specs.Resolved.{IsResolved}
use Rattle.wb_syntax_resolved.specs.declared.resolved.ResolvedParts.{ResolvedParts}
use Rattle.wb_world.specs.Shelf.{Files}
use Rattle.wb_program.specs.Files.{FileIs}
use Rattle.wb_program.specs.SeveralChecks.{AreEach, IsNextText, names_of}
use Rattle.wb_program_theory.specs.Certified.{AreCertified}
use Rattle.wb_program_theory.specs.Existence.{ComesToAnswer}
use Rattle.wb_program_theory.proofs.FileLemmas.{all_differ}

-- what follows from the contents of a file follows from the file
pub from_file : (file : Option (List ℕ)) (P : List ℕ → Type 0) (Q : Type 0) → ((contents : List ℕ) → P contents → Q) → FileIs file P → Q
from_file None P Q gives is = absurd is
from_file (Some contents) P Q gives is = gives contents is

-- a list with one more, by what its elements are
map_one_more : (xs : List Extended) (x : Extended) →
    map (λ (e : Extended). e.resolved) (xs ++ x ∷ []) ≡ map (λ (e : Extended). e.resolved) xs ++ x.resolved ∷ []
map_one_more [] x = refl
map_one_more (y ∷ xs) x = ap (λ z. y.resolved ∷ z) (map_one_more xs x)

-- names of extensions, by what they are
map_names : (xs : List Extended) →
    names_of (map (λ (e : Extended). e.resolved) xs) ≡ map (λ (e : Extended). name_in e.resolved) xs
map_names [] = refl
map_names (x ∷ xs) = ap (λ z. name_in x.resolved ∷ z) (map_names xs)

module _ (operations : List OperationSignature) (files : Files) (r : ResolvedParts) (whole : IsResolved r)
    (certified : IsCertifiedValue r operations) where
  abbrev IsOne : Extended → Type 0
  IsOne e = AreCertifiedBoth r e.resolved certified.grammar e.grammar operations

  -- the values with their grammars
  record AreWith (values : List ResolvedParts) : Type 0 where
    extended : List Extended
    are : map (λ (e : Extended). e.resolved) extended ≡ values
    each : All IsOne extended

  -- one value
  one_with : (contents : List ℕ) (value : ResolvedParts) (is : IsExtensionText r operations contents value) →
      IsOne (record { resolved = value; grammar = is.certified.grammar })
  one_with contents value is = record {
    host_resolved = whole;
    resolved = is.stands.resolved;
    host_start = certified.start;
    start = is.certified.start;
    host_certified = certified;
    extends = record { spec = is.stands.spec; written = (contents, is.stands.accepted.1); names = is.stands.names };
    certified = is.certified;
  }

  -- all values that files hold, after those before
  all_with : (extensions : List (List ℕ)) (before values : List ResolvedParts) → AreEach operations (Some files) r extensions before values →
      AreWith before → AreWith values
  all_with [] before values is with_before = subst AreWith (sym is) with_before
  all_with (file ∷ rest) before values (value, next, more) with_before =
      from_file (files file) (λ contents. IsNextText operations r before contents value) (AreWith values) (λ contents text.
      all_with rest (before ++ value ∷ []) values more (record {
        extended = with_before.extended ++ record { resolved = value; grammar = text.text.certified.grammar } ∷ [];
        are = map_one_more with_before.extended (record { resolved = value; grammar = text.text.certified.grammar })
            ∙ ap (λ z. z ++ value ∷ []) with_before.are;
        each = All-append IsOne with_before.extended (record { resolved = value; grammar = text.text.certified.grammar } ∷ [])
            with_before.each (All-cons IsOne (record { resolved = value; grammar = text.text.certified.grammar }) []
            (one_with contents value text.text) (All-nil IsOne));
      })) next

  -- so they have a language, in which the text has an answer
  with_answer : (values : List ResolvedParts) → Differ (names_of values) → AreWith values → (text : List ℕ) →
      ¬ ¬ ComesToAnswer operations r values text
  with_answer values differ is text =
      follows (some_answer r certified.grammar operations is.extended apart
      (subst Differ (ap names_of (sym is.are) ∙ map_names is.extended) differ) text) (λ (l, answers). record {
        whole = record { grammar = certified.grammar; extended = is.extended; extensions_are = is.are; certified = apart };
        language = l;
        is_language = record { of_union = answers.is_language.of_union; language = answers.is_language.language };
        answer = answers.answer;
      })
    where
      apart : AreCertifiedApart r certified.grammar operations is.extended
      apart = record { host_resolved = whole; host_start = certified.start; host_certified = certified; each = is.each }

  -- and a list of markers without a bare form
  with_withdrawn : (values : List ResolvedParts) → Differ (names_of values) → AreWith values →
      ¬ ¬ ((names : List (List ℕ)) × AreWithdrawnNames r operations values names)
  with_withdrawn values differ is =
      follows (withdrawn.law certified.grammar r.extensible (lexicon_of r certified.grammar) (written_in certified.grammar is.extended)
      (all_certified r certified.grammar operations is.extended apart)
      (all_apart r certified.grammar operations is.extended apart
      (subst Differ (ap names_of (sym is.are) ∙ map_names is.extended) differ))) (λ (numbers, are). (
        map (name_at (terminals_of r values)) numbers,
        record {
          whole = record { grammar = certified.grammar; extended = is.extended; extensions_are = is.are; certified = apart };
          numbers = numbers;
          withdrawn = are;
          is = refl;
        },
      ))
    where
      apart : AreCertifiedApart r certified.grammar operations is.extended
      apart = record { host_resolved = whole; host_start = certified.start; host_certified = certified; each = is.each }

-- of certified files every text has an answer
pub comes_to_answer : (operations : List OperationSignature) (files : Files) (host : List ℕ) (extensions : List (List ℕ))
    (r : ResolvedParts) (values : List ResolvedParts) → AreCertified operations files host extensions r values → (text : List ℕ) →
    ¬ ¬ ComesToAnswer operations r values text
comes_to_answer operations files host extensions r values are text =
    from_file (files host) (λ contents. IsHostText operations contents r) (¬ ¬ ComesToAnswer operations r values text) (λ contents is.
    with_answer operations files r is.stands.resolved is.certified values (all_differ operations files r extensions values are.each)
    (all_with operations files r is.stands.resolved is.certified extensions [] values are.each
    (record { extended = []; are = refl; each = All-nil (IsOne operations files r is.stands.resolved is.certified) })) text) are.is_host

-- and there is a list of markers without a bare form
pub has_withdrawn : (operations : List OperationSignature) (files : Files) (host : List ℕ) (extensions : List (List ℕ))
    (r : ResolvedParts) (values : List ResolvedParts) → AreCertified operations files host extensions r values →
    ¬ ¬ ((names : List (List ℕ)) × AreWithdrawnNames r operations values names)
has_withdrawn operations files host extensions r values are =
    from_file (files host) (λ contents. IsHostText operations contents r)
    (¬ ¬ ((names : List (List ℕ)) × AreWithdrawnNames r operations values names)) (λ contents is.
    with_withdrawn operations files r is.stands.resolved is.certified values (all_differ operations files r extensions values are.each)
    (all_with operations files r is.stands.resolved is.certified extensions [] values are.each
    (record { extended = []; are = refl; each = All-nil (IsOne operations files r is.stands.resolved is.certified) }))) are.is_host
