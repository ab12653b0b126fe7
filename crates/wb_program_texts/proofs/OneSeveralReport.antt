-- Two reports of several extensions have one status, and one text where none is refused.
use Rattle.std.proofs.Common.{◌≡◌, ◌++◌, inl, inr, ℕ, List, [], ◌∷◌, Some, Contains, ap, sym, ◌∙◌, subst}
use Rattle.wb_base.specs.Different.{Differ}
use Rattle.wb_program_files.specs.ExtensionContents.{IsExtensionText, IsExtensionRefusal, NamesOtherHost}
use Rattle.wb_program_files.specs.OneExtensionAnswer.{IsFileMemory}
use Rattle.wb_program_files.specs.Specifications.{IsHeaderRefusal}
use Rattle.wb_program_files.specs.extension_refusal.FileRefusal.{FileRefusal}
use Rattle.wb_program_files.specs.extension_refusal.FileRefusal.TheVariants as f
use Rattle.wb_operations.specs.Operations.{OperationSignature}
use Rattle.wb_report.specs.Lines.{report_of}
use Rattle.wb_report.specs.declared.outcome.Outcome.TheVariants as o
use Rattle.wb_report.specs.declared.refusal.Refusal.{Refusal}
use Rattle.wb_syntax_resolved.specs.declared.resolved.ResolvedParts.{ResolvedParts}
use Rattle.wb_syntax.specs.SpecText.{SpecView}
use Rattle.wb_world.specs.Shelf.{Files}
use Rattle.wb_program_files.specs.Checks.{Report}
use Rattle.wb_program_files.specs.Files.{FileIs}
use Rattle.wb_program_texts.specs.SeveralChecks.{AreEach, EachChecks, HasName, HasTakenName, IsLaterRefusal, IsNextText, RefusesEach}
use Rattle.wb_program_texts.specs.SeveralChecks.{RefusesNext, SeveralChecks, names_of}
use Rattle.wb_program_files.specs.declared.status.Status.{Status}
use Rattle.wb_program_files.specs.declared.status.Status.TheVariants.{SpecRefused, NotCertified, DuplicateExtension, WrongHost}
use Rattle.wb_program_files.proofs.OneCheck.{on_file}
use Rattle.wb_program_files.specs.Excludes.{ExcludesExtensions, ExcludesHeaders}
use Rattle.wb_program_files.proofs.Excludes.{not_few}
use Rattle.wb_program_files.proofs.OneHostChecks.{AreAlike, one_certified_report}
use Rattle.wb_program_texts.proofs.SeveralLemmas.{each_differ, none_differ}

-- what is found of the file of an extension after others
data Finding : Type 0 where
  for_header : Refusal → Finding
  for_other : List ℕ → Finding
  for_taken : List ℕ → Finding
  for_spec : Refusal → Finding
  for_cert : Refusal → Finding
  for_next : ResolvedParts → Finding

-- two findings agree: on the sort of a refusal, and on the name or value in it
abbrev Agree : Finding → Finding → Type 0
Agree (for_header u) (for_header v) = Unit {0}
Agree (for_other u) (for_other v) = u ≡ v
Agree (for_taken u) (for_taken v) = u ≡ v
Agree (for_spec u) (for_spec v) = Unit {0}
Agree (for_cert u) (for_cert v) = Unit {0}
Agree (for_next u) (for_next v) = u ≡ v
Agree x y = ⊥

module _ (extensions : ExcludesExtensions) (headers : ExcludesHeaders) (operations : List OperationSignature) (host : ResolvedParts)
    (before : List ResolvedParts) (contents : List ℕ) where
  -- this is found of the contents
  abbrev Finds : Finding → Type 0
  Finds (for_header shown) = IsHeaderRefusal host contents (f.Specification shown)
  Finds (for_other name) = NamesOtherHost host contents name
  Finds (for_taken name) = HasTakenName host before contents name
  Finds (for_spec shown) = IsLaterRefusal operations host before contents (f.Specification shown)
  Finds (for_cert shown) = IsLaterRefusal operations host before contents (f.Certification shown)
  Finds (for_next value) = IsNextText operations host before contents value

  -- another host has one name
  one_host : (name other : List ℕ) → NamesOtherHost host contents name → NamesOtherHost host contents other → name ≡ other
  one_host = (extensions host operations contents).sorts.one_host

  -- of what is written, or of another host
  header_other : (shown : Refusal) (name : List ℕ) → IsHeaderRefusal host contents (f.Specification shown)
      → NamesOtherHost host contents name → ⊥
  header_other shown name p q = (extensions host operations contents).sorts.specification_host shown name
      ((headers host contents).refused operations (f.Specification shown) p) q

  -- what has a name as an extension isn't refused for what is written or the first line
  not_named : (refusal : FileRefusal) (name : List ℕ) → IsHeaderRefusal host contents refusal → HasName host contents name
      → IsFileMemory refusal
  not_named refusal name p q = (headers host contents).excluded q.spec q.is refusal p

  -- it has one name
  one_name : (name other : List ℕ) → HasName host contents name → HasName host contents other → name ≡ other
  one_name name other p q =
      let same : p.spec ≡ q.spec = (headers host contents).one p.spec q.spec p.is q.is in
      sym p.named ∙ (ap (λ (x : SpecView). x.name) same ∙ q.named)

  -- that is taken or not
  not_taken : (name new : List ℕ) → HasTakenName host before contents name → HasName host contents new
      → ¬ Contains (names_of before) new → ⊥
  not_taken name new p q none = none (subst (λ (x : List ℕ). Contains (names_of before) x) (one_name name new p.named q) p.taken)

  -- a refusal is of one sort
  not_both_sorts : (shown other : Refusal) → IsExtensionRefusal host operations contents (f.Specification shown)
      → IsExtensionRefusal host operations contents (f.Certification other) → ⊥
  not_both_sorts shown other p q = (extensions host operations contents).sorts.specification_certification shown other p q

  -- a certified extension isn't refused
  not_refused : (value : ResolvedParts) (refusal : FileRefusal) → IsExtensionText host operations contents value
      → IsExtensionRefusal host operations contents refusal → IsFileMemory refusal
  not_refused value refusal p q = (extensions host operations contents).certified value p refusal q

  -- and has one value
  one_value : (value other : ResolvedParts) → IsExtensionText host operations contents value
      → IsExtensionText host operations contents other → value ≡ other
  one_value value other p q = (extensions host operations contents).one value other p q

  -- two findings of the same contents agree
  one_finding : (x y : Finding) → Finds x → Finds y → Agree x y
  one_finding (for_header u) (for_header v) p q = tt
  one_finding (for_header u) (for_other v) p q = absurd (header_other u v p q)
  one_finding (for_header u) (for_taken v) p q = absurd (not_named (f.Specification u) v p q.named)
  one_finding (for_header u) (for_spec v) p q = absurd (not_named (f.Specification u) q.name p q.named)
  one_finding (for_header u) (for_cert v) p q = absurd (not_named (f.Specification u) q.name p q.named)
  one_finding (for_header u) (for_next v) p q = absurd (not_named (f.Specification u) q.name p q.named)
  one_finding (for_other u) (for_header v) p q = absurd (header_other v u q p)
  one_finding (for_other u) (for_other v) p q = one_host u v p q
  one_finding (for_other u) (for_taken v) p q = absurd (not_named (f.WrongHost u) v p q.named)
  one_finding (for_other u) (for_spec v) p q = absurd (not_named (f.WrongHost u) q.name p q.named)
  one_finding (for_other u) (for_cert v) p q = absurd (not_named (f.WrongHost u) q.name p q.named)
  one_finding (for_other u) (for_next v) p q = absurd (not_named (f.WrongHost u) q.name p q.named)
  one_finding (for_taken u) (for_header v) p q = absurd (not_named (f.Specification v) u q p.named)
  one_finding (for_taken u) (for_other v) p q = absurd (not_named (f.WrongHost v) u q p.named)
  one_finding (for_taken u) (for_taken v) p q = one_name u v p.named q.named
  one_finding (for_taken u) (for_spec v) p q = absurd (not_taken u q.name p q.named q.new)
  one_finding (for_taken u) (for_cert v) p q = absurd (not_taken u q.name p q.named q.new)
  one_finding (for_taken u) (for_next v) p q = absurd (not_taken u q.name p q.named q.new)
  one_finding (for_spec u) (for_header v) p q = absurd (not_named (f.Specification v) p.name q p.named)
  one_finding (for_spec u) (for_other v) p q = absurd (not_named (f.WrongHost v) p.name q p.named)
  one_finding (for_spec u) (for_taken v) p q = absurd (not_taken v p.name q p.named p.new)
  one_finding (for_spec u) (for_spec v) p q = tt
  one_finding (for_spec u) (for_cert v) p q = absurd (not_both_sorts u v p.cause q.cause)
  one_finding (for_spec u) (for_next v) p q = absurd (not_refused v (f.Specification u) q.text p.cause)
  one_finding (for_cert u) (for_header v) p q = absurd (not_named (f.Specification v) p.name q p.named)
  one_finding (for_cert u) (for_other v) p q = absurd (not_named (f.WrongHost v) p.name q p.named)
  one_finding (for_cert u) (for_taken v) p q = absurd (not_taken v p.name q p.named p.new)
  one_finding (for_cert u) (for_spec v) p q = absurd (not_both_sorts v u q.cause p.cause)
  one_finding (for_cert u) (for_cert v) p q = tt
  one_finding (for_cert u) (for_next v) p q = absurd (not_refused v (f.Certification u) q.text p.cause)
  one_finding (for_next u) (for_header v) p q = absurd (not_named (f.Specification v) p.name q p.named)
  one_finding (for_next u) (for_other v) p q = absurd (not_named (f.WrongHost v) p.name q p.named)
  one_finding (for_next u) (for_taken v) p q = absurd (not_taken v p.name q p.named p.new)
  one_finding (for_next u) (for_spec v) p q = absurd (not_refused u (f.Specification v) p.text q.cause)
  one_finding (for_next u) (for_cert v) p q = absurd (not_refused u (f.Certification v) p.text q.cause)
  one_finding (for_next u) (for_next v) p q = one_value u v p.text q.text

module _ (extensions : ExcludesExtensions) (headers : ExcludesHeaders) (operations : List OperationSignature) (files : Files)
    (host : ResolvedParts) where
  -- this is found of the file
  abbrev Found : List ResolvedParts → List ℕ → Finding → Type 0
  Found before file x = FileIs (files file) (λ contents. Finds extensions headers operations host before contents x)

  -- two findings of a file agree
  agree : (before : List ResolvedParts) (file : List ℕ) (x y : Finding) → Found before file x → Found before file y → Agree x y
  agree before file x y = on_file (files file) (Finds' x) (Finds' y) (Agree x y)
      (λ contents p q. one_finding extensions headers operations host before contents x y p q)
    where
      Finds' : Finding → List ℕ → Type 0
      Finds' z contents = Finds extensions headers operations host before contents z

  -- the line that shows a finding
  abbrev Shows : List ℕ → Finding → Report
  Shows file (for_header shown) status bytes = (status ≡ SpecRefused) × (bytes ≡ report_of (o.Refused file shown))
  Shows file (for_other name) status bytes = (status ≡ WrongHost) × (bytes ≡ report_of (o.WrongHost file name))
  Shows file (for_taken name) status bytes = (status ≡ DuplicateExtension) × (bytes ≡ report_of (o.DuplicateExtension name))
  Shows file (for_spec shown) status bytes = (status ≡ SpecRefused) × (bytes ≡ report_of (o.Refused file shown))
  Shows file (for_cert shown) status bytes = (status ≡ NotCertified) × (bytes ≡ report_of (o.Refused file shown))
  Shows file (for_next value) status bytes = ⊥

  -- two lines of findings that agree
  alike_shown : (file : List ℕ) (x y : Finding) (s t : Status) (bytes others : List ℕ) → Agree x y → Shows file x s bytes
      → Shows file y t others → AreAlike s t bytes others
  alike_shown file (for_header u) (for_header v) s t bytes others same (ends, line) (ends', line') = (ends ∙ sym ends', λ differs other. absurd (differs ends))
  alike_shown file (for_header u) (for_other v) s t bytes others same p q = absurd same
  alike_shown file (for_header u) (for_taken v) s t bytes others same p q = absurd same
  alike_shown file (for_header u) (for_spec v) s t bytes others same p q = absurd same
  alike_shown file (for_header u) (for_cert v) s t bytes others same p q = absurd same
  alike_shown file (for_header u) (for_next v) s t bytes others same p q = absurd same
  alike_shown file (for_other u) (for_header v) s t bytes others same p q = absurd same
  alike_shown file (for_other u) (for_other v) s t bytes others same (ends, line) (ends', line') =
      (ends ∙ sym ends', λ differs other. line ∙ (ap (λ (name : List ℕ). report_of (o.WrongHost file name)) same ∙ sym line'))
  alike_shown file (for_other u) (for_taken v) s t bytes others same p q = absurd same
  alike_shown file (for_other u) (for_spec v) s t bytes others same p q = absurd same
  alike_shown file (for_other u) (for_cert v) s t bytes others same p q = absurd same
  alike_shown file (for_other u) (for_next v) s t bytes others same p q = absurd same
  alike_shown file (for_taken u) (for_header v) s t bytes others same p q = absurd same
  alike_shown file (for_taken u) (for_other v) s t bytes others same p q = absurd same
  alike_shown file (for_taken u) (for_taken v) s t bytes others same (ends, line) (ends', line') =
      (ends ∙ sym ends', λ differs other. line ∙ (ap (λ (name : List ℕ). report_of (o.DuplicateExtension name)) same ∙ sym line'))
  alike_shown file (for_taken u) (for_spec v) s t bytes others same p q = absurd same
  alike_shown file (for_taken u) (for_cert v) s t bytes others same p q = absurd same
  alike_shown file (for_taken u) (for_next v) s t bytes others same p q = absurd same
  alike_shown file (for_spec u) (for_header v) s t bytes others same p q = absurd same
  alike_shown file (for_spec u) (for_other v) s t bytes others same p q = absurd same
  alike_shown file (for_spec u) (for_taken v) s t bytes others same p q = absurd same
  alike_shown file (for_spec u) (for_spec v) s t bytes others same (ends, line) (ends', line') = (ends ∙ sym ends', λ differs other. absurd (differs ends))
  alike_shown file (for_spec u) (for_cert v) s t bytes others same p q = absurd same
  alike_shown file (for_spec u) (for_next v) s t bytes others same p q = absurd same
  alike_shown file (for_cert u) (for_header v) s t bytes others same p q = absurd same
  alike_shown file (for_cert u) (for_other v) s t bytes others same p q = absurd same
  alike_shown file (for_cert u) (for_taken v) s t bytes others same p q = absurd same
  alike_shown file (for_cert u) (for_spec v) s t bytes others same p q = absurd same
  alike_shown file (for_cert u) (for_cert v) s t bytes others same (ends, line) (ends', line') = (ends ∙ sym ends', λ other differs. absurd (differs ends))
  alike_shown file (for_cert u) (for_next v) s t bytes others same p q = absurd same
  alike_shown file (for_next u) (for_header v) s t bytes others same p q = absurd same
  alike_shown file (for_next u) (for_other v) s t bytes others same p q = absurd same
  alike_shown file (for_next u) (for_taken v) s t bytes others same p q = absurd same
  alike_shown file (for_next u) (for_spec v) s t bytes others same p q = absurd same
  alike_shown file (for_next u) (for_cert v) s t bytes others same p q = absurd same
  alike_shown file (for_next u) (for_next v) s t bytes others same p q = absurd p

  -- a refusal isn't found with a certified extension
  not_next : (file : List ℕ) (x : Finding) (value : ResolvedParts) (s : Status) (bytes : List ℕ) → Shows file x s bytes
      → Agree x (for_next value) → ⊥
  not_next file (for_header u) value s bytes shown same = same
  not_next file (for_other u) value s bytes shown same = same
  not_next file (for_taken u) value s bytes shown same = same
  not_next file (for_spec u) value s bytes shown same = same
  not_next file (for_cert u) value s bytes shown same = same
  not_next file (for_next u) value s bytes shown same = absurd shown

  -- what was found of a refused file, and its line
  record IsFinding (before : List ResolvedParts) (file : List ℕ) (s : Status) (bytes : List ℕ) : Type 0 where
    pub finding : Finding
    pub found : Found before file finding
    pub shown : Shows file finding s bytes

  finding_of : (before : List ResolvedParts) (file : List ℕ) (s : Status) (bytes : List ℕ)
      → RefusesNext operations (Some files) host before file s bytes → IsFinding before file s bytes
  finding_of before file s bytes (inl (ends, x)) = record { finding = for_header x.shown; found = x.cause; shown = (ends, x.line) }
  finding_of before file s bytes (inr (inl (ends, x))) = record { finding = for_other x.name; found = x.cause; shown = (ends, x.line) }
  finding_of before file s bytes (inr (inr (inl (ends, x)))) = record { finding = for_taken x.name; found = x.cause; shown = (ends, x.line) }
  finding_of before file s bytes (inr (inr (inr (inl (ends, x))))) =
      record { finding = for_spec x.shown; found = x.cause; shown = (ends, x.line) }
  finding_of before file s bytes (inr (inr (inr (inr (ends, x))))) =
      record { finding = for_cert x.shown; found = x.cause; shown = (ends, x.line) }

  -- a file that is refused is no certified extension
  refused_or_next : (before : List ResolvedParts) (file : List ℕ) (value : ResolvedParts) (s : Status) (bytes : List ℕ)
      → RefusesNext operations (Some files) host before file s bytes → Found before file (for_next value) → ⊥
  refused_or_next before file value s bytes refuses is =
      let x : IsFinding before file s bytes = finding_of before file s bytes refuses in
      not_next file x.finding value s bytes x.shown (agree before file x.finding (for_next value) x.found is)

  -- two refusals of one of several
  one_refusal : (left : List (List ℕ)) (before : List ResolvedParts) (s t : Status) (bytes others : List ℕ)
      → RefusesEach operations (Some files) host left before s bytes → RefusesEach operations (Some files) host left before t others
      → AreAlike s t bytes others
  one_refusal [] before s t bytes others first second = absurd first
  one_refusal (file ∷ left) before s t bytes others (inl first) (inl second) =
      let x : IsFinding before file s bytes = finding_of before file s bytes first in
      let y : IsFinding before file t others = finding_of before file t others second in
      alike_shown file x.finding y.finding s t bytes others (agree before file x.finding y.finding x.found y.found) x.shown y.shown
  one_refusal (file ∷ left) before s t bytes others (inl first) (inr (value, is, more)) =
      absurd (refused_or_next before file value s bytes first is)
  one_refusal (file ∷ left) before s t bytes others (inr (value, is, more)) (inl second) =
      absurd (refused_or_next before file value t others second is)
  one_refusal (file ∷ left) before s t bytes others (inr (v, is, more)) (inr (w, is', more')) =
      let same : v ≡ w = agree before file (for_next v) (for_next w) is is' in
      one_refusal left (before ++ v ∷ []) s t bytes others more
      (subst (λ (z : ResolvedParts). RefusesEach operations (Some files) host left (before ++ z ∷ []) t others) (sym same) more')

  -- where one is refused not all are certified
  pub refused_or_all : (left : List (List ℕ)) (before values : List ResolvedParts) (s : Status) (bytes : List ℕ)
      → RefusesEach operations (Some files) host left before s bytes → AreEach operations (Some files) host left before values → ⊥
  refused_or_all [] before values s bytes first second = absurd first
  refused_or_all (file ∷ left) before values s bytes (inl first) (v, is, each) = refused_or_next before file v s bytes first is
  refused_or_all (file ∷ left) before values s bytes (inr (v, is, more)) (w, is', each) =
      let same : v ≡ w = agree before file (for_next v) (for_next w) is is' in
      refused_or_all left (before ++ v ∷ []) values s bytes more
      (subst (λ (z : ResolvedParts). AreEach operations (Some files) host left (before ++ z ∷ []) values) (sym same) each)

  -- and all have one list of values
  pub one_values : (left : List (List ℕ)) (before values others : List ResolvedParts) → AreEach operations (Some files) host left before values
      → AreEach operations (Some files) host left before others → values ≡ others
  one_values [] before values others first second = first ∙ sym second
  one_values (file ∷ left) before values others (v, is, each) (w, is', each') =
      let same : v ≡ w = agree before file (for_next v) (for_next w) is is' in
      one_values left (before ++ v ∷ []) values others each
      (subst (λ (z : ResolvedParts). AreEach operations (Some files) host left (before ++ z ∷ []) others) (sym same) each')

  -- two reports of several extensions
  one_each_report : (all : List (List ℕ)) (rest : List ResolvedParts → Report) (s t : Status) (bytes others : List ℕ)
      → ((values : List ResolvedParts) → Differ (names_of values) → rest values s bytes → rest values t others → AreAlike s t bytes others)
      → EachChecks operations (Some files) host all rest s bytes → EachChecks operations (Some files) host all rest t others
      → AreAlike s t bytes others
  one_each_report all rest s t bytes others goes_on (inl first) (inl second) = one_refusal all [] s t bytes others first second
  one_each_report all rest s t bytes others goes_on (inl first) (inr (values, each, more)) =
      absurd (refused_or_all all [] values s bytes first each)
  one_each_report all rest s t bytes others goes_on (inr (values, each, more)) (inl second) =
      absurd (refused_or_all all [] values t others second each)
  one_each_report all rest s t bytes others goes_on (inr (v, each, more)) (inr (w, each', more')) =
      let same : v ≡ w = one_values all [] v w each each' in
      goes_on v (each_differ operations files host all [] v none_differ each) more
      (subst (λ (z : List ResolvedParts). rest z t others) (sym same) more')

-- two reports by the checks of several extensions
pub one_several_report : ExcludesExtensions → ExcludesHeaders → (operations : List OperationSignature) (files : Files) (host : List ℕ)
    (all : List (List ℕ)) (rest : ResolvedParts → List ResolvedParts → Report) (s t : Status) (bytes others : List ℕ)
    → ((r : ResolvedParts) (values : List ResolvedParts) → Differ (names_of values) → rest r values s bytes → rest r values t others
    → AreAlike s t bytes others)
    → SeveralChecks operations (Some files) host all rest s bytes → SeveralChecks operations (Some files) host all rest t others
    → AreAlike s t bytes others
one_several_report extensions headers operations files host all rest s t bytes others goes_on (inl (ends, x)) (inl (ends', y)) =
    (ends ∙ sym ends', λ differs other. x.line ∙ sym y.line)
one_several_report extensions headers operations files host all rest s t bytes others goes_on (inl (ends, x)) (inr (few, y)) =
    absurd (not_few all x.many few)
one_several_report extensions headers operations files host all rest s t bytes others goes_on (inr (few, x)) (inl (ends', y)) =
    absurd (not_few all y.many few)
one_several_report extensions headers operations files host all rest s t bytes others goes_on (inr (few, x)) (inr (few', y)) =
    one_certified_report operations files host s t bytes others (λ r. EachChecks operations (Some files) r all (rest r))
    (λ r is p q. one_each_report extensions headers operations files r all (rest r) s t bytes others (goes_on r) p q) x y
