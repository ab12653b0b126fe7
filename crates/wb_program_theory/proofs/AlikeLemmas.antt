-- Two refusals of one file have one code.
use Rattle.std.proofs.Common.{◌≡◌, ◌⊎◌, ◌∙◌, ℕ, List, Some, inl, inr, ap, refl, sym}
use Rattle.std.proofs.lemmas.Option.{same_Some}
use lib.Chars.{codes}
use Rattle.wb_certify_files.specs.Shows.{name_reason, of_spec, written_reason}
use Rattle.wb_names_theory.specs.NamesOk.{AllDeclared, AllOfKind, AllOwned, NamesOk, NothingTwice, Scope}
use Rattle.wb_names_theory.specs.Refusals.{IsTrueRefusal}
use Rattle.wb_names_theory.specs.declared.refusal.NameRefusal.{NameRefusal}
use Rattle.wb_names_theory.specs.declared.refusal.NameRefusal.TheVariants as n
use Rattle.wb_reader.proofs.Excluding.{none_refused, one_refusal}
use Rattle.wb_reader.specs.OneAnswer.{IsNoMemory}
use Rattle.wb_reader.specs.Refusals.{HasCause, IsAcceptedText}
use Rattle.wb_reader.specs.declared.refusal.SpecRefusal.{SpecRefusal}
use Rattle.wb_reader.specs.declared.refusal.SpecRefusal.TheVariants as s
use Rattle.wb_report.specs.Lines.{report_of}
use Rattle.wb_report.specs.declared.outcome.Outcome.TheVariants as o
use Rattle.wb_report.specs.declared.refusal.Refusal.{Refusal}
use Rattle.wb_syntax.specs.SpecText.{SpecView}
use Rattle.wb_world.specs.Shelf.{Files}
use Rattle.wb_program.proofs.OneCheck.{on_file}
use Rattle.wb_program.specs.Files.{FileIs}
use Rattle.wb_program_theory.specs.Codes.{IsOfWritten, ShowOneCode, code_of}
use Rattle.wb_program_theory.proofs.AttributeCodes.{Coded, coded, none_some}
use Rattle.wb_program_theory.proofs.ChainLemmas.{First, HasOne, NoneLeft, first_one, go_on, none_one}

-- two refusals have one code, and are one where they are of what is written
abbrev pub Alike : Refusal → Refusal → Type 0
Alike x y = (code_of x ≡ code_of y) × (IsOfWritten x → x ≡ y)

-- refusals of the first of some rules that fails are alike
pub coded_alike : (R : List ℕ → Type 0) → HasOne R → (x y : Refusal) → Coded R x → Coded R y → Alike x y
coded_alike R one x y first second = (one (code_of x) (code_of y) first.0 second.0, λ written. absurd (first.1 written))

-- a code of these rules is one of those
pub coded_by : (R S : List ℕ → Type 0) → ((x : List ℕ) → R x → S x) → (shown : Refusal) → Coded R shown → Coded S shown
coded_by R S by shown is = (by (code_of shown) is.0, is.1)

-- refusals of three sorts, of which no two are true at once
module _ (Bad Named Valued : Refusal → Type 0) (bad : (x y : Refusal) → Bad x → Bad y → Alike x y)
    (named : (x y : Refusal) → Named x → Named y → Alike x y) (valued : (x y : Refusal) → Valued x → Valued y → Alike x y)
    (bad_named : (x y : Refusal) → Bad x → Named y → ⊥) (bad_valued : (x y : Refusal) → Bad x → Valued y → ⊥)
    (named_valued : (x y : Refusal) → Named x → Valued y → ⊥) where
  pub three_alike : (x y : Refusal) → Bad x ⊎ Named x ⊎ Valued x → Bad y ⊎ Named y ⊎ Valued y → Alike x y
  three_alike x y (inl p) (inl q) = bad x y p q
  three_alike x y (inl p) (inr (inl q)) = absurd (bad_named x y p q)
  three_alike x y (inl p) (inr (inr q)) = absurd (bad_valued x y p q)
  three_alike x y (inr (inl p)) (inl q) = absurd (bad_named y x q p)
  three_alike x y (inr (inl p)) (inr (inl q)) = named x y p q
  three_alike x y (inr (inl p)) (inr (inr q)) = absurd (named_valued x y p q)
  three_alike x y (inr (inr p)) (inl q) = absurd (bad_valued y x q p)
  three_alike x y (inr (inr p)) (inr (inl q)) = absurd (named_valued y x q p)
  three_alike x y (inr (inr p)) (inr (inr q)) = valued x y p q

-- what is shown of what is written isn't out of memory
not_memory : (refusal : SpecRefusal) (shown : Refusal) → of_spec (written_reason refusal) ≡ Some shown → ¬ IsNoMemory refusal
not_memory s.TooLong shown shows none = none
not_memory s.WrongFormat shown shows none = none
not_memory (s.Syntax at) shown shows none = none
not_memory (s.BadRegex at) shown shows none = none
not_memory (s.MatchesEmpty name) shown shows none = none
not_memory (s.NoMemory error) shown shows none = absurd (none_some shows)

-- it isn't true of a specification
pub none_written : (contents : List ℕ) (spec : SpecView) (refusal : SpecRefusal) (shown : Refusal) → IsAcceptedText contents spec
    → HasCause contents refusal → of_spec (written_reason refusal) ≡ Some shown → ⊥
none_written contents spec refusal shown is cause shows =
    not_memory refusal shown shows (none_refused contents spec refusal is cause)

-- and it is one
pub written_alike : (contents : List ℕ) (first second : SpecRefusal) (x y : Refusal) → HasCause contents first
    → HasCause contents second → of_spec (written_reason first) ≡ Some x → of_spec (written_reason second) ≡ Some y → Alike x y
written_alike contents first second x y cause other shows shows' =
    let refusals : first ≡ second = one_refusal contents first second cause other (not_memory first x shows)
    (not_memory second y shows') in
    let same : x ≡ y = same_Some x y (sym shows ∙ (ap (λ (z : SpecRefusal). of_spec (written_reason z)) refusals ∙ shows')) in
    (ap code_of same, λ written. same)

module _ (scope : Scope) where
  -- the rules of names
  abbrev pub NameRules : List ℕ → Type 0
  NameRules =
      First (NothingTwice scope) (codes "N2")
      (First (AllDeclared scope) (codes "N1")
      (First (AllOfKind scope) (codes "N4") (First (AllOwned scope) (codes "N3") NoneLeft)))

  pub names_one : HasOne NameRules
  names_one =
      first_one (NothingTwice scope) (codes "N2")
      (First (AllDeclared scope) (codes "N1")
      (First (AllOfKind scope) (codes "N4") (First (AllOwned scope) (codes "N3") NoneLeft)))
      (first_one (AllDeclared scope) (codes "N1")
      (First (AllOfKind scope) (codes "N4") (First (AllOwned scope) (codes "N3") NoneLeft))
      (first_one (AllOfKind scope) (codes "N4") (First (AllOwned scope) (codes "N3") NoneLeft)
      (first_one (AllOwned scope) (codes "N3") NoneLeft none_one)))

  -- where they hold none fails
  pub names_hold : NamesOk scope → (x : List ℕ) → NameRules x → ⊥
  names_hold ok x rules =
      go_on (AllOwned scope) (codes "N3") NoneLeft x
      (go_on (AllOfKind scope) (codes "N4") (First (AllOwned scope) (codes "N3") NoneLeft) x
      (go_on (AllDeclared scope) (codes "N1")
      (First (AllOfKind scope) (codes "N4") (First (AllOwned scope) (codes "N3") NoneLeft)) x
      (go_on (NothingTwice scope) (codes "N2")
      (First (AllDeclared scope) (codes "N1")
      (First (AllOfKind scope) (codes "N4") (First (AllOwned scope) (codes "N3") NoneLeft))) x rules ok.once)
      ok.declared) ok.kinds) ok.owned

  -- a refusal for names is of the first rule that fails
  pub names_coded : (refusal : NameRefusal) (shown : Refusal) → IsTrueRefusal scope refusal
      → of_spec (name_reason refusal) ≡ Some shown → Coded NameRules shown
  names_coded (n.Duplicate name) shown fails is = coded NameRules _ shown is (inl ((λ once. once name fails), refl), (λ no. no))
  names_coded (n.Unknown name) shown fails is =
      coded NameRules _ shown is (inr (fails.once, inl ((λ all. all name fails.fails), refl)), (λ no. no))
  names_coded (n.WrongKind name) shown fails is =
      coded NameRules _ shown is
      (inr (fails.once, inr (fails.declared, inl ((λ all. all name fails.fails), refl))), (λ no. no))
  names_coded (n.Orphan name) shown fails is =
      coded NameRules _ shown is
      (inr (fails.once, inr (fails.declared, inr (fails.kinds, inl ((λ owned. owned fails.extension name fails.fails), refl)))), (λ no. no))
  names_coded (n.WrongHost name) shown fails is = absurd fails
  names_coded (n.NoMemory error) shown fails is = absurd (none_some is)

-- a file is refused so, and the line says so
pub record IsTold (IsShown : List ℕ → Refusal → Type 0) (files : Files) (file bytes : List ℕ) : Type 0 where
  pub shown : Refusal
  pub cause : FileIs (files file) (λ contents. IsShown contents shown)
  pub line : bytes ≡ report_of (o.Refused file shown)

-- two lines of one file show one code
pub told_alike : (IsShown : List ℕ → Refusal → Type 0)
    → ((contents : List ℕ) (x y : Refusal) → IsShown contents x → IsShown contents y → Alike x y) → (files : Files)
    → (file bytes others : List ℕ) → IsTold IsShown files file bytes → IsTold IsShown files file others → ShowOneCode bytes others
told_alike IsShown alike files file bytes others x y =
    let same : Alike x.shown y.shown = on_file (files file) (λ contents. IsShown contents x.shown)
    (λ contents. IsShown contents y.shown) (Alike x.shown y.shown) (λ contents p q. alike contents x.shown y.shown p q) x.cause y.cause in
    record {
      file = file;
      first = x.shown;
      second = y.shown;
      line = x.line;
      other_line = y.line;
      code = same.0;
      written = λ written. x.line ∙ (ap (λ (shown : Refusal). report_of (o.Refused file shown)) (same.1 written) ∙ sym y.line);
    }
