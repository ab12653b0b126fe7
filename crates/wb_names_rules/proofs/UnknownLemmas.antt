-- What shows that a name isn't declared.
use Rattle.std.proofs.Common.{◌≡◌, ◌<◌, ℕ, List, Option, Some, None, Bool, true, false, not, true≢false, Result, IfOk}
use Rattle.std.proofs.Common.{get_or, length, Contains, All, slice_get, refl, sym, ap}
use Rattle.std.proofs.Common.{◌∙◌, subst}
use Rattle.std.specs.Prelude.{◌↔◌, IsTrue, IfSome, IfNone, is_some}
use Rattle.std.specs.declared.alloc.AllocError.{AllocError}
use Rattle.std.proofs.lemmas.Option.{slice_get-get_or}
use Rattle.wb_lemmas.proofs.Elements.{all_contained}
use Rattle.wb_lemmas.proofs.Members.{contains_at}
use Rattle.wb_names_theory.specs.declared.declaration.Declaration.{Declaration}
use Rattle.wb_names_theory.specs.declared.declaration.Declaration.TheVariants as d
use Rattle.wb_names_theory.specs.declared.declaration.Site.{Site}
use Rattle.wb_names_theory.specs.declared.declaration.Site.TheVariants as site
use Rattle.wb_names_theory.specs.declared.declaration.Sort.TheVariants as sort
use Rattle.wb_names_theory.specs.declared.refusal.NameRefusal.{NameRefusal}
use Rattle.wb_names_theory.specs.declared.refusal.NameRefusal.TheVariants as r
use Rattle.wb_names_theory.specs.declared.usage.Usage.{Usage}
use Rattle.wb_names_theory.specs.declared.usage.Usage.TheVariants as u
use Rattle.wb_names_theory.specs.declared.usage.Wanted.{Wanted}
use Rattle.wb_names_theory.specs.declared.usage.Wanted.TheVariants as w
use Rattle.wb_names_theory.specs.Meaning.{IsSymbol, IsDeclared, Occurs, HasSite, Forwards}
use Rattle.wb_names_theory.specs.Unknown.{FailsUnknown}
use Rattle.wb_names_theory.specs.Unknown as f
use Rattle.wb_names_rules.specs.Inner.Tests.{IsKnown, TellsForward, NamesUnknown, ShowsUnknown, ShowsAbsent, IsUnknownIn}

-- what was found says whether something is there
pub some_test : {X : Type 0} (declared : List Declaration) (make : X → Declaration) (found : Option ℕ) (b : Bool) → b ≡ is_some found
    → IfSome found (λ (place : ℕ). (x : X) × (slice_get declared place ≡ Some (make x)))
    → IfNone found ((x : X) → ¬ Contains declared (make x)) → IsTrue b ↔ ((x : X) × Contains declared (make x))
some_test declared make None b is some none = (λ h. absurd (cc), λ has. absurd (none has.0 has.1))
some_test declared make (Some place) b is some none = (λ h. (some.0, contains_at declared (make some.0) place some.1), λ has. is)

module _ (declared : List Declaration) where
  -- a name that isn't declared shows that of a usage
  pub shows_name : (usage : Usage) (shown : List ℕ) (refusal : NameRefusal)
      → ((used : List Usage) → Contains used usage → FailsUnknown declared used shown) → NamesUnknown shown refusal
      → ShowsUnknown declared usage refusal
  shows_name usage shown (r.Unknown name) fails is = λ used has. subst (FailsUnknown declared used) (sym is) (fails used has)
  shows_name usage shown (r.NoMemory error) fails is = tt
  shows_name usage shown (r.Duplicate name) fails is = absurd is
  shows_name usage shown (r.Orphan name) fails is = absurd is
  shows_name usage shown (r.WrongKind name) fails is = absurd is
  shows_name usage shown (r.WrongHost name) fails is = absurd is

  -- and that it doesn't occur
  pub shows_absent : (attribute nonterminal : List ℕ) (refusal : NameRefusal) → ¬ Occurs declared attribute nonterminal
      → NamesUnknown attribute refusal → ShowsAbsent declared attribute nonterminal refusal
  shows_absent attribute nonterminal (r.Unknown name) not is = (is, not)
  shows_absent attribute nonterminal (r.NoMemory error) not is = tt
  shows_absent attribute nonterminal (r.Duplicate name) not is = absurd is
  shows_absent attribute nonterminal (r.Orphan name) not is = absurd is
  shows_absent attribute nonterminal (r.WrongKind name) not is = absurd is
  shows_absent attribute nonterminal (r.WrongHost name) not is = absurd is

  -- the test for one place is the test for an equal one
  pub as_wanted : (name : List ℕ) (wanted is : Wanted) (answer : Result Bool AllocError) → wanted ≡ is
      → IfOk answer (λ b. IsTrue b ↔ IsDeclared declared is name) → IfOk answer (λ b. IsTrue b ↔ IsDeclared declared wanted name)
  as_wanted name wanted is answer e holds =
      subst (λ (z : Wanted). IfOk answer (λ b. IsTrue b ↔ IsDeclared declared z name)) (sym e) holds

  -- a place that asks for no attribute asks for a symbol
  pub symbol_wanted : (name : List ℕ) (wanted : Wanted) (answer : Result Bool AllocError) → (wanted ≡ w.Attribute → ⊥)
      → (wanted ≡ w.Synthesized → ⊥) → (wanted ≡ w.Inherited → ⊥)
      → IfOk answer (λ b. IsTrue b ↔ IsDeclared declared w.Nonterminal name) → IfOk answer (λ b. IsTrue b ↔ IsDeclared declared wanted name)
  symbol_wanted name w.Lexical answer x y z holds = holds
  symbol_wanted name w.GrammarSymbol answer x y z holds = holds
  symbol_wanted name w.Nonterminal answer x y z holds = holds
  symbol_wanted name w.Production answer x y z holds = holds
  symbol_wanted name w.Attribute answer x y z holds = absurd (x refl)
  symbol_wanted name w.Synthesized answer x y z holds = absurd (y refl)
  symbol_wanted name w.Inherited answer x y z holds = absurd (z refl)

  -- an attribute that doesn't occur is shown by the attribute of a tree
  pub shows_elsewhere : (production attribute nonterminal : List ℕ) (at : Site) → IsSymbol declared production sort.Production
      → HasSite declared production at nonterminal → (refusal : NameRefusal) → ShowsAbsent declared attribute nonterminal refusal
      → ShowsUnknown declared (u.Attribute production attribute at) refusal
  shows_elsewhere production attribute nonterminal at there site (r.Unknown name) shows = λ used has.
      subst (FailsUnknown declared used) (sym shows.0) (f.elsewhere (record { written = has; there = there }) site shows.1)
  shows_elsewhere production attribute nonterminal at there site (r.NoMemory error) shows = tt
  shows_elsewhere production attribute nonterminal at there site (r.Duplicate name) shows = absurd shows
  shows_elsewhere production attribute nonterminal at there site (r.Orphan name) shows = absurd shows
  shows_elsewhere production attribute nonterminal at there site (r.WrongKind name) shows = absurd shows
  shows_elsewhere production attribute nonterminal at there site (r.WrongHost name) shows = absurd shows

  -- an attribute of a forwarded tree shows that the production doesn't forward
  pub shows_no_forward : (used : List Usage) (production attribute : List ℕ) (at : Site) → IsSymbol declared production sort.Production
      → Contains used (u.Attribute production attribute at) → at ≡ site.Forward → ¬ Forwards declared production
      → FailsUnknown declared used attribute
  shows_no_forward used production attribute at there has is not =
      f.no_forward (record { written = subst (λ (z : Site). Contains used (u.Attribute production attribute z)) is has; there = there }) not

  -- whether it doesn't is known by what is found of it
  pub tells_forward : (production : List ℕ) (at : Site) (found : Option ℕ) (b : Bool) → at ≡ site.Forward → is_some found ≡ not b
      → IfSome found (λ (place : ℕ). slice_get declared place ≡ Some (d.Forward production))
      → IfNone found (¬ Forwards declared production) → TellsForward declared production at b
  tells_forward production at None true e is some none = (e, none)
  tells_forward production at None false e is some none = absurd (true≢false (sym is))
  tells_forward production at (Some place) true e is some none = absurd (true≢false is)
  tells_forward production at (Some place) false e is some none = λ same. contains_at declared (d.Forward production) place some

  -- and by an attribute of a flow type
  pub shows_needs : (attribute nonterminal : List ℕ) → IsSymbol declared nonterminal sort.Nonterminal → (refusal : NameRefusal)
      → ShowsAbsent declared attribute nonterminal refusal → ShowsUnknown declared (u.Needs attribute nonterminal) refusal
  shows_needs attribute nonterminal there (r.Unknown name) shows = λ used has.
      subst (FailsUnknown declared used) (sym shows.0) (f.needs (record { written = has; there = there }) shows.1)
  shows_needs attribute nonterminal there (r.NoMemory error) shows = tt
  shows_needs attribute nonterminal there (r.Duplicate name) shows = absurd shows
  shows_needs attribute nonterminal there (r.Orphan name) shows = absurd shows
  shows_needs attribute nonterminal there (r.WrongKind name) shows = absurd shows
  shows_needs attribute nonterminal there (r.WrongHost name) shows = absurd shows

  -- what one usage shows is true of all
  pub shown_unknown : (used : List Usage) (at : ℕ) (usage : Usage) → at < length used → usage ≡ get_or used at usage → (refusal : NameRefusal)
      → ShowsUnknown declared usage refusal → IsUnknownIn declared used refusal
  shown_unknown used at usage within is (r.Unknown name) shows =
      shows used (contains_at used usage at (slice_get-get_or used at usage within ∙ ap Some (sym is)))
  shown_unknown used at usage within is (r.NoMemory error) shows = tt
  shown_unknown used at usage within is (r.Duplicate name) shows = absurd shows
  shown_unknown used at usage within is (r.Orphan name) shows = absurd shows
  shown_unknown used at usage within is (r.WrongKind name) shows = absurd shows
  shown_unknown used at usage within is (r.WrongHost name) shows = absurd shows

  -- where each usage is known, no name shows the contrary
  pub all_known : (used : List Usage) → All (IsKnown declared) used → (name : List ℕ) → ¬ FailsUnknown declared used name
  all_known used known name (f.undeclared {wanted = wanted} has not) =
      not (all_contained (IsKnown declared) used (u.Name name wanted) known has)
  all_known used known name (f.label {production = p} {wanted = wanted} uses not) =
      let (is, there) = all_contained (IsKnown declared) used (u.Label p name wanted) known uses.written uses.there in not is there
  all_known used known name (f.elsewhere {production = p} {nonterminal = n} {at = at} uses site not) =
      not ((all_contained (IsKnown declared) used (u.Attribute p name at) known uses.written uses.there).0 n site)
  all_known used known name (f.no_forward {production = p} uses not) =
      not ((all_contained (IsKnown declared) used (u.Attribute p name site.Forward) known uses.written uses.there).1 refl)
  all_known used known name (f.needs {nonterminal = n} uses not) =
      not (all_contained (IsKnown declared) used (u.Needs name n) known uses.written uses.there)
