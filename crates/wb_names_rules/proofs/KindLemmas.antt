-- What shows that something is of another kind.
use Rattle.std.proofs.Common.{◌≡◌, ◌<◌, ℕ, List, Option, Some, None, Bool, false, true≢false, ◌∷◌, get_or, length, Contains}
use Rattle.std.proofs.Common.{All, [], refl, sym, ap, ◌∙◌, subst}
use Rattle.std.specs.Prelude.{is_some, option_map}
use Rattle.std.specs.Bool.{◌==◌}
use Rattle.std.proofs.lemmas.Option.{slice_get-get_or}
use Rattle.wb_lemmas.proofs.Elements.{all_contained}
use Rattle.wb_lemmas.proofs.Members.{contains_at, nothing_in}
use Rattle.wb_syntax_resolved.specs.declared.attributes.Direction.{Direction}
use Rattle.wb_names_theory.specs.declared.declaration.Declaration.{Declaration}
use Rattle.wb_names_theory.specs.declared.declaration.Labelled.{Labelled}
use Rattle.wb_names_theory.specs.declared.declaration.Sort.{Sort}
use Rattle.wb_names_theory.specs.declared.declaration.Sort.TheVariants as sort
use Rattle.wb_names_theory.specs.declared.refusal.NameRefusal.{NameRefusal}
use Rattle.wb_names_theory.specs.declared.refusal.NameRefusal.TheVariants as r
use Rattle.wb_names_theory.specs.declared.usage.LabelWanted.{LabelWanted}
use Rattle.wb_names_theory.specs.declared.usage.LabelWanted.TheVariants as l
use Rattle.wb_names_theory.specs.declared.usage.Usage.{Usage}
use Rattle.wb_names_theory.specs.declared.usage.Usage.TheVariants as u
use Rattle.wb_names_theory.specs.declared.usage.Wanted.{Wanted}
use Rattle.wb_names_theory.specs.Hold.{SuitsLabel}
use Rattle.wb_names_theory.specs.Meaning.{IsSymbol}
use Rattle.wb_names_theory.specs.WrongKind.{FailsWrongKind, IsMisused, Suits, SuitsDirection}
use Rattle.wb_names_theory.specs.WrongKind as f
use Rattle.wb_names_rules.specs.Inner.Reads.{IsSortOf, IsDirectionOf, IsLabelledAs, IsTreeOf}
use Rattle.wb_names_rules.specs.Inner.Tests.{IsOfKind, SortsSuit, DirectionsSuit, TellsLabel, NamesKind, ShowsKind, ShowsPlace, IsWrongIn}

-- the first of what has no place is shown
shows_place : (unplaced : List (List ℕ)) (shown : List ℕ) (refusal : NameRefusal) → Contains unplaced shown → NamesKind shown refusal
    → ShowsPlace unplaced refusal
shows_place unplaced shown (r.WrongKind name) has is = subst (Contains unplaced) (sym is) has
shows_place unplaced shown (r.NoMemory error) has is = tt
shows_place unplaced shown (r.Duplicate name) has is = absurd is
shows_place unplaced shown (r.Orphan name) has is = absurd is
shows_place unplaced shown (r.Unknown name) has is = absurd is
shows_place unplaced shown (r.WrongHost name) has is = absurd is

pub shows_first : (unplaced : List (List ℕ)) (test : Bool) (first : List ℕ) (refusal : NameRefusal) → test ≡ (length unplaced == 0)
    → test ≡ false → first ≡ get_or unplaced 0 first → NamesKind first refusal → ShowsPlace unplaced refusal
shows_first [] test first refusal is not e names = absurd (true≢false (sym is ∙ not))
shows_first (x ∷ xs) test first refusal is not e names =
    shows_place (x ∷ xs) first refusal (subst (Contains (x ∷ xs)) (sym e) (contains_at (x ∷ xs) x 0 refl)) names

module _ (declared : List Declaration) where
  -- a name of another kind shows that of a usage
  shows_name : (usage : Usage) (shown : List ℕ) (refusal : NameRefusal)
      → ((used : List Usage) (unplaced : List (List ℕ)) → Contains used usage → FailsWrongKind declared used unplaced shown)
      → NamesKind shown refusal → ShowsKind declared usage refusal
  shows_name usage shown (r.WrongKind name) fails is = λ used unplaced has.
      subst (FailsWrongKind declared used unplaced) (sym is) (fails used unplaced has)
  shows_name usage shown (r.NoMemory error) fails is = tt
  shows_name usage shown (r.Duplicate name) fails is = absurd is
  shows_name usage shown (r.Orphan name) fails is = absurd is
  shows_name usage shown (r.Unknown name) fails is = absurd is
  shows_name usage shown (r.WrongHost name) fails is = absurd is

  -- a name of no symbol suits every place
  pub no_sort : (name : List ℕ) (wanted : Wanted) → IsSortOf declared name None → SortsSuit declared name wanted
  no_sort name wanted none is has = absurd (none is has)

  -- the only sort suits the place
  pub one_sort : (name : List ℕ) (wanted : Wanted) (found : Sort) → IsSortOf declared name (Some found) → Suits wanted found
      → SortsSuit declared name wanted
  one_sort name wanted found only suits is has = subst (Suits wanted) (sym ((only is).0 has)) suits

  -- a sort that doesn't suit the place
  pub shows_sort : (name : List ℕ) (wanted : Wanted) (found : Sort) (refusal : NameRefusal) → IsSortOf declared name (Some found)
      → ¬ Suits wanted found → NamesKind name refusal → ShowsKind declared (u.Name name wanted) refusal
  shows_sort name wanted found refusal only not is =
      shows_name (u.Name name wanted) name refusal (λ used unplaced has. f.symbol has ((only found).1 refl) not) is

  -- the same of attributes
  pub no_direction : (name : List ℕ) (wanted : Wanted) → IsDirectionOf declared name None → DirectionsSuit declared name wanted
  no_direction name wanted none is has = absurd (none is has)

  pub one_direction : (name : List ℕ) (wanted : Wanted) (found : Direction) → IsDirectionOf declared name (Some found)
      → SuitsDirection wanted found → DirectionsSuit declared name wanted
  one_direction name wanted found only suits is has = subst (SuitsDirection wanted) (sym ((only is).0 has)) suits

  pub shows_direction : (name : List ℕ) (wanted : Wanted) (found : Direction) (refusal : NameRefusal)
      → IsDirectionOf declared name (Some found) → ¬ SuitsDirection wanted found → NamesKind name refusal
      → ShowsKind declared (u.Name name wanted) refusal
  shows_direction name wanted found refusal only not is =
      shows_name (u.Name name wanted) name refusal (λ used unplaced has. f.attribute has ((only found).1 refl) not) is

  -- the same of labels
  pub one_label : (production name : List ℕ) (wanted : LabelWanted) (found : Labelled) → IsLabelledAs declared production name (Some found)
      → SuitsLabel declared wanted found → IsOfKind declared (u.Label production name wanted)
  one_label production name wanted found only suits there is has = subst (SuitsLabel declared wanted) (sym ((only is).0 has)) suits

  pub shows_label : (production name : List ℕ) (wanted : LabelWanted) (found : Labelled) (refusal : NameRefusal)
      → IsLabelledAs declared production name (Some found) → IsSymbol declared production sort.Production → IsMisused declared wanted found
      → NamesKind name refusal → ShowsKind declared (u.Label production name wanted) refusal
  shows_label production name wanted found refusal only there misused is =
      shows_name (u.Label production name wanted) name refusal
      (λ used unplaced has. f.label (record { written = has; there = there }) ((only found).1 refl) misused) is

  -- whether a tree was found tells whether what has a label is one
  pub tells_tree : {B : Type 0} (read : B → List ℕ) (is : Labelled) (wanted : LabelWanted) (found : Option B) (b : Bool) → wanted ≡ l.Tree
      → b ≡ is_some found → IsTreeOf declared is (option_map read found) → TellsLabel declared wanted is b
  tells_tree {B} read is wanted found b w e tree =
      subst (λ (z : LabelWanted). TellsLabel declared z is b) (sym w) (subst (TellsLabel declared l.Tree is) (sym e) (tells found tree)) where
        tells : (o : Option B) → IsTreeOf declared is (option_map read o) → TellsLabel declared l.Tree is (is_some o)
        tells None none = none
        tells (Some n) only = (read n, (only (read n)).1 refl)

  -- what a label is, by equal names
  pub label_of : (p q l m : List ℕ) (found : Option Labelled) → p ≡ q → l ≡ m → IsLabelledAs declared p l found → IsLabelledAs declared q m found
  label_of p q l m found e f is =
      subst (λ (z : List ℕ). IsLabelledAs declared z m found) e (subst (λ (z : List ℕ). IsLabelledAs declared p z found) f is)

  -- what one usage shows is true of all
  pub shown_kind : (used : List Usage) (unplaced : List (List ℕ)) (at : ℕ) (usage : Usage) → at < length used → usage ≡ get_or used at usage
      → (refusal : NameRefusal) → ShowsKind declared usage refusal → IsWrongIn declared used unplaced refusal
  shown_kind used unplaced at usage within is (r.WrongKind name) shows =
      shows used unplaced (contains_at used usage at (slice_get-get_or used at usage within ∙ ap Some (sym is)))
  shown_kind used unplaced at usage within is (r.NoMemory error) shows = tt
  shown_kind used unplaced at usage within is (r.Duplicate name) shows = absurd shows
  shown_kind used unplaced at usage within is (r.Orphan name) shows = absurd shows
  shown_kind used unplaced at usage within is (r.Unknown name) shows = absurd shows
  shown_kind used unplaced at usage within is (r.WrongHost name) shows = absurd shows

  -- what is where it has no place is of another kind
  pub shown_place : (used : List Usage) (unplaced : List (List ℕ)) (refusal : NameRefusal) → ShowsPlace unplaced refusal
      → IsWrongIn declared used unplaced refusal
  shown_place used unplaced (r.WrongKind name) shows = f.placed shows
  shown_place used unplaced (r.NoMemory error) shows = tt
  shown_place used unplaced (r.Duplicate name) shows = absurd shows
  shown_place used unplaced (r.Orphan name) shows = absurd shows
  shown_place used unplaced (r.Unknown name) shows = absurd shows
  shown_place used unplaced (r.WrongHost name) shows = absurd shows

  -- a label that is what its place asks for isn't misused
  not_misused : (wanted : LabelWanted) (is : Labelled) → SuitsLabel declared wanted is → ¬ IsMisused declared wanted is
  not_misused l.Tree is (n, tree) misused = misused n tree
  not_misused l.Lexeme is suits misused = misused suits
  not_misused l.Value is suits misused = suits misused

  -- where each usage is of its kind and nothing is where it has no place, no name shows the contrary
  pub all_of_kind : (used : List Usage) (unplaced : List (List ℕ)) → All (IsOfKind declared) used → unplaced ≡ [] → (name : List ℕ)
      → ¬ FailsWrongKind declared used unplaced name
  all_of_kind used unplaced kinds none name (f.symbol {wanted = wanted} {is = is} has there not) =
      not ((all_contained (IsOfKind declared) used (u.Name name wanted) kinds has).0 is there)
  all_of_kind used unplaced kinds none name (f.attribute {wanted = wanted} {direction = direction} has there not) =
      not ((all_contained (IsOfKind declared) used (u.Name name wanted) kinds has).1 direction there)
  all_of_kind used unplaced kinds none name (f.label {production = p} {wanted = wanted} {is = is} uses has misused) =
      not_misused wanted is (all_contained (IsOfKind declared) used (u.Label p name wanted) kinds uses.written uses.there is has) misused
  all_of_kind used unplaced kinds none name (f.placed has) = nothing_in name (subst (λ (z : List (List ℕ)). Contains z name) none has)
