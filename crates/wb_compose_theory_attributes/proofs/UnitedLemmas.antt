-- The union of attributions is an attribution, and its attributes are well defined where those of its parts are.
use Rattle.std.proofs.Common.{◌≡◌, ◌∙◌, ◌<◌, ◌≤◌, ◌∷◌, [], ℕ, zero, suc, List, Option, Some, None, All, option_map, slice_get, length}
use Rattle.std.proofs.Common.{refl, sym, ap, subst, arith}
use Rattle.std.proofs.lemmas.Option.{slice_get-map, slice_get_within}
use Rattle.wb_lemmas.proofs.Elements.{all_at, all_from_places}
use Rattle.wb_lemmas.proofs.Places.{at_within}
use Rattle.wb_flow_theory.specs.Modular.{AreWellDefinedAttributes, IsHosts}
use Rattle.wb_base.specs.Identifiers.{IsName}
use Rattle.wb_syntax_resolved.specs.declared.attributes.Nonterminal.{Nonterminal}
use Rattle.wb_syntax_resolved.specs.Attribution.{IsAttribution}
use Rattle.wb_compose_theory_worlds.specs.Attributions.{owner_in, closed_in, world_of}
use Rattle.wb_compose_theory_worlds.specs.Parts.{IsWellDefinedPart, IsWellDefinedExtension, AreWellDefinedApart}
use Rattle.wb_compose_theory_worlds.specs.Worlds.{owner_of, World, plain}
use Rattle.wb_compose_theory_worlds.proofs.NamedLemmas.{is_named as world_named, is_composed}
use Rattle.wb_compose_theory_worlds.proofs.PartLemmas.{host_tested, extension_tested}
use Rattle.wb_compose_theory_attributes.specs.Images.{owner_among, IsExtensionImage}
use Rattle.wb_compose_theory_attributes.specs.Laws.{IsUnitedAttribution, IsUnitedWellDefined}
use Rattle.wb_compose_theory_attributes.specs.Numbers.{NumberMap}
use Rattle.wb_compose_theory_attributes.specs.Rows.{new_owner, new_nonterminal}
use Rattle.wb_compose_theory_attributes.specs.Tested.{AreAttributions, AreWellDefinedEach}
use Rattle.wb_compose_theory_attributes.specs.Unions.{Rooted, IsPart, IsUnionOf}
use Rattle.wb_compose_theory_attributes.proofs.ExtensionLemmas.{part_stays, extension_stays}
use Rattle.wb_compose_theory_attributes.proofs.SeenLemmas.{mapped, nonterminal_at}
use Rattle.wb_compose_theory_attributes.proofs.UnionNamedLemmas.{is_named, is_owned}
use Rattle.wb_compose_theory_attributes.proofs.UnionOnceLemmas.{is_once}
use Rattle.wb_compose_theory_attributes.proofs.ViewImageLemmas.{row_at, owner_there, owner_here, view_image}
use Rattle.wb_compose_theory_attributes.proofs.ViewLemmas.{View}

-- who an owner is, in new numbers
owner_moved : (k owner : ℕ) → owner_of (new_owner (suc k) owner) ≡ owner_among k (owner_of owner)
owner_moved k zero = refl
owner_moved k (suc owner) = refl

nonterminal_moved : (k : ℕ) (f : Nonterminal → Nonterminal) → ((r : Nonterminal) → (f r).owner ≡ new_owner (suc k) r.owner)
    → (o : Option Nonterminal) → owner_in (option_map (λ (r : Nonterminal). r.owner) (option_map f o))
    ≡ owner_among k (owner_in (option_map (λ (r : Nonterminal). r.owner) o))
nonterminal_moved k f moves None = refl
nonterminal_moved k f moves (Some r) = ap owner_of (moves r) ∙ owner_moved k r.owner

closed_moved : (t : NumberMap) (k : ℕ) (o : Option Nonterminal) → closed_in (option_map (new_nonterminal t k) o) ≡ closed_in o
closed_moved t k None = refl
closed_moved t k (Some r) = refl

new_owner_host : (owner : ℕ) → new_owner 0 owner ≡ 0
new_owner_host zero = refl
new_owner_host (suc owner) = refl

hosts_back : (k owner : ℕ) → new_owner (suc k) owner ≡ 0 → owner ≡ 0
hosts_back k zero is = refl
hosts_back k (suc owner) is = absurd (cc is)

module _ (host_part : Rooted) (extensions : List Rooted) (a : Rooted) (union : IsUnionOf host_part extensions a)
    (are : AreAttributions host_part extensions) where
  -- the names of a, and how many extensions there are
  names_at : (k : ℕ) → option_map (λ (e : Rooted). e.attributes.extensions) (slice_get extensions k)
      ≡ option_map (λ (name : List ℕ). name ∷ []) (slice_get a.attributes.extensions k)
  names_at k =
      sym (slice_get-map (λ (e : Rooted). e.attributes.extensions) extensions k) ∙ (ap (λ z. slice_get z k) union.names
      ∙ slice_get-map (λ (name : List ℕ). name ∷ []) a.attributes.extensions k)

  -- the extension of this number
  pub record Extension (k : ℕ) : Type 0 where
    pub e : Rooted
    pub at : slice_get extensions k ≡ Some e
    pub name : List ℕ
    pub named : slice_get a.attributes.extensions k ≡ Some name
    pub one : e.attributes.extensions ≡ name ∷ []

  pub extension_at : (k : ℕ) → k < length a.attributes.extensions → Extension k
  extension_at k within =
      let (name, named) = at_within a.attributes.extensions k within in
      let there = names_at k ∙ ap (option_map (λ (z : List ℕ). z ∷ [])) named in
      let (e, at, one) = mapped (λ (z : Rooted). z.attributes.extensions) (slice_get extensions k) (name ∷ []) there in
      record { e = e; at = at; name = name; named = named; one = one }

  pub extension_is : (k : ℕ) (x : Extension k) → IsAttribution x.e.attributes
  extension_is k x = all_at (λ (z : Rooted). IsAttribution z.attributes) extensions k x.e are.of_extensions x.at

  -- what each owner sees
  abbrev pub host_view : View a.attributes 0
  host_view = record {
    s = host_part.attributes;
    is = are.of_host;
    t = union.of_host.numbers;
    seen = union.of_host.seen;
    count = ap length are.alone;
  }

  abbrev pub extension_view : (k : ℕ) → Extension k → View a.attributes (suc k)
  extension_view k x = record {
    s = x.e.attributes;
    is = extension_is k x;
    t = (union.of_extension k x.e x.at).numbers;
    seen = (union.of_extension k x.e x.at).seen;
    count = ap length x.one;
  }

  abbrev pub views : (k : ℕ) → k ≤ length a.attributes.extensions → View a.attributes k
  views zero bound = host_view
  views (suc k) bound = extension_view k (extension_at k bound)

  names_are : All IsName a.attributes.extensions
  names_are = all_from_places IsName a.attributes.extensions name_at where
    name_at : (k : ℕ) (name : List ℕ) → slice_get a.attributes.extensions k ≡ Some name → IsName name
    name_at k name at =
        let x = extension_at k (slice_get_within a.attributes.extensions k name at) in
        let same : x.name ≡ name = let there = x.named in cc (there, at) in
        let first : IsName x.name = all_at IsName (x.name ∷ []) 0 x.name
        (subst (All IsName) x.one (extension_is k x).named.extensions) refl in
        subst IsName same first

  pub united_is : IsAttribution a.attributes
  united_is = record {
    named = is_named a.attributes union.within views names_are;
    owned = is_owned a.attributes union.within views;
    once = is_once a.attributes union.within views union.differ;
    numbered = union.numbered;
  }

  -- the start
  pub united_start : IsHosts a.attributes a.start
  united_start =
      let (r, at, owner) = mapped (λ (z : Nonterminal). z.owner)
      (slice_get host_part.attributes.nonterminals host_part.start) 0 are.start in
      let there = nonterminal_at host_part.attributes a.attributes 0 union.of_host.numbers union.of_host.seen host_part.start r at in
      subst (IsHosts a.attributes) union.of_host.start
      (ap (option_map (λ (z : Nonterminal). z.owner)) there ∙ ap Some (new_owner_host r.owner))

  extension_start : (k : ℕ) (x : Extension k) → IsHosts x.e.attributes x.e.start
  extension_start k x =
      let part = union.of_extension k x.e x.at in
      let start = subst (IsHosts a.attributes) (sym part.start) united_start in
      let (big, at, owner) = mapped (λ (z : Nonterminal). z.owner) (slice_get a.attributes.nonterminals
      (part.numbers.nonterminal x.e.start)) 0
      start in
      let (r, here, same) = mapped (new_nonterminal part.numbers (suc k)) (slice_get x.e.attributes.nonterminals x.e.start) big
      (sym (part.seen.nonterminals x.e.start) ∙ at) in
      ap (option_map (λ (z : Nonterminal). z.owner)) here
      ∙ ap Some (hosts_back k r.owner (ap (λ (z : Nonterminal). z.owner) same ∙ owner))

  abbrev w : World
  w = world_of a.attributes a.start

  module _ (good : AreWellDefinedEach host_part extensions) where
    host_well_defined : IsWellDefinedPart w plain
    host_well_defined =
        let small = world_of host_part.attributes host_part.start in
        let tested = host_tested host_part.attributes are.of_host host_part.start (ap length are.alone) in
        part_stays small (world_named host_part.attributes are.of_host host_part.start are.start) plain w plain union.of_host.numbers
        (view_image a.attributes united_is a.start united_start 0 (omega arith) host_view host_part.start are.start union.of_host.start)
        (tested.0 good.of_host)

    module _ (k : ℕ) (within : k < length a.attributes.extensions) (x : Extension k) where
      abbrev e : Rooted
      e = x.e

      abbrev part : IsPart x.e a (suc k)
      part = union.of_extension k x.e x.at

      image : IsExtensionImage (world_of e.attributes e.start) w k part.numbers
      image = record {
        image = view_image a.attributes united_is a.start united_start (suc k) within (extension_view k x) e.start
            (extension_start k x) part.start;
        production_owner = λ p has.
            let r = row_at a.attributes united_is a.start united_start (suc k) within (extension_view k x) e.start
            (extension_start k x) part.start p has in
            owner_there a.attributes united_is a.start united_start (suc k) within (extension_view k x) e.start
            (extension_start k x) part.start p r
            ∙ (owner_moved k r.row.owner
            ∙ ap (owner_among k) (sym (owner_here a.attributes united_is a.start united_start (suc k) within (extension_view k x) e.start
            (extension_start k x) part.start p r)));
        nonterminal_owner = λ m. ap (λ z. owner_in (option_map (λ (r : Nonterminal). r.owner) z)) (part.seen.nonterminals m)
            ∙ nonterminal_moved k (new_nonterminal part.numbers (suc k)) (λ r. refl) (slice_get e.attributes.nonterminals m);
        closed = λ m. ap closed_in (part.seen.nonterminals m) ∙ closed_moved part.numbers (suc k) (slice_get e.attributes.nonterminals m);
      }

      extension_well_defined : IsWellDefinedExtension w k
      extension_well_defined =
          let tested = extension_tested e.attributes (extension_is k x) e.start (ap length x.one) in
          let good_here = all_at (λ (z : Rooted). AreWellDefinedAttributes z.attributes (Some z.start)
          (Some 1)) extensions k e good.of_extensions
          x.at in
          extension_stays (world_of e.attributes e.start) (world_named e.attributes (extension_is k x) e.start (extension_start k x)) w k
          part.numbers image (tested.0 good_here)

    apart : AreWellDefinedApart w (length a.attributes.extensions)
    apart = record { host_part = host_well_defined; extensions = λ k within. extension_well_defined k within (extension_at k within) }

    pub united_well_defined : AreWellDefinedAttributes a.attributes (Some a.start) None
    united_well_defined = is_composed a.attributes united_is a.start united_start apart

pub united_attribution : (host_part : Rooted) (extensions : List Rooted) (a : Rooted) → IsUnionOf host_part extensions a
    → AreAttributions host_part extensions → IsUnitedAttribution a
united_attribution host_part extensions a union are = record {
  attributes = united_is host_part extensions a union are;
  start = united_start host_part extensions a union are;
}

pub united_attributes : (host_part : Rooted) (extensions : List Rooted) (a : Rooted) → IsUnitedWellDefined host_part extensions a
united_attributes host_part extensions a union are good = united_well_defined host_part extensions a union are good
