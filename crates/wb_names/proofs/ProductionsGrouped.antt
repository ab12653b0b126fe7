-- Rows of productions that are kept in two lists are grouped rows, when concrete ones go before the others.
use Rattle.std.proofs.Common.{◌≡◌, ◌<◌, ◌+◌, ◌++◌, ◌∷◌, ◌⊎◌, inl, inr, [], ℕ, Bool, true, false, not, cond, List, Option, Some, None}
use Rattle.std.proofs.Common.{length}
use Rattle.std.proofs.Common.{take, get_or, ap, sym, refl, subst, ◌∙◌}
use Rattle.std.specs.Prelude.{filter, filter_map, option_to_list}
use Rattle.std.specs.List.{AllZip}
use Rattle.std.proofs.lemmas.List.{take_more}
use Rattle.std.proofs.lemmas.List.Elements.{filter_map-append}
use Rattle.wb_syntax_resolved.specs.declared.production.Production.{Production}
use Rattle.wb_syntax_resolved.specs.declared.production.ProductionRole.{ProductionRole}
use Rattle.wb_syntax_resolved.specs.declared.production.ProductionRole.TheVariants.{Concrete, Abstract}
use Rattle.wb_syntax.specs.declared.item.Item.{Item}
use Rattle.wb_syntax.specs.declared.item.ItemForm.{ItemForm}
use Rattle.wb_syntax.specs.declared.item.ItemForm.TheVariants as f
use Rattle.wb_syntax.specs.declared.pattern.Pattern.{Pattern}
use Rattle.wb_syntax.specs.declared.production.Production as written
use Rattle.wb_syntax.specs.declared.production.ProductionRole as declared
use Rattle.wb_names_theory.specs.Declarations.{ProductionDeclaration, production_of, productions}
use Rattle.wb_names_numbers_theory.specs.Files.{File}
use Rattle.wb_names_numbers_theory.specs.Resolves.{IsConcrete}
use Rattle.wb_names_numbers_theory.specs.Rows.{production_role}
use Rattle.wb_names_numbers_theory.specs.Sources.{sources, IsFrom}
use Rattle.wb_names_rows.specs.declared.moves.Moves.{Moves}
use Rattle.wb_names_rows.specs.declared.scope.Scope.{Scope}
use Rattle.wb_names_rows.proofs.AddsLemmas.{adds_nothing}
use Rattle.wb_names_rows.proofs.BlockLemmas.{adds_append}
use Rattle.wb_names_rows.proofs.GroupLemmas.{splits_filter, zip_filtered}
use Rattle.wb_names_rows.proofs.ZipLemmas.{zip_append}
use Rattle.wb_names.specs.declared.productions.Productions.{Productions}
use Rattle.wb_names.specs.Inner.Now.{IsExtendedNow, IsDeclaredNow}
use Rattle.wb_names.specs.Inner.Productions.{AreProductions}
use Rattle.wb_names.specs.Inner.Rows.{AddsRow, AddsProductions, is_concrete, has_concrete, declares_concrete}
use Rattle.wb_names.proofs.BodyLemmas.{zip_length}

-- one element and its row, where both pass or both fail
zip_cond : {A B : Type 0} (R : A → B → Type 0) (x : A) (y : B) (b : Bool) → R x y → AllZip R (cond b (x ∷ []) []) (cond b (y ∷ []) [])
zip_cond R x y true is = (is, tt)
zip_cond R x y false is = tt

zip_one : {A B : Type 0} (R : A → B → Type 0) (f : A → Bool) (g : B → Bool) (x : A) (y : B) → g y ≡ f x → R x y
    → AllZip R (filter f (x ∷ [])) (filter g (y ∷ []))
zip_one R f g x y same is = subst (λ z. AllZip R (cond (f x) (x ∷ []) []) (cond z (y ∷ []) [])) (sym same) (zip_cond R x y (f x) is)

module _ {X : Type 0} (test : X → Bool) (R : X → Production → Type 0) where
  pub nothing_added : (old : Productions) → AddsProductions test R [] old old
  nothing_added old = record {
    concrete = adds_nothing test R old.concrete.items;
    others = adds_nothing (λ (x : X). not (test x)) R old.others.items;
  }

  pub row_added : (x : X) (row : Production) (old new : Productions) → has_concrete row ≡ test x → R x row → AddsRow row old new
      → AddsProductions test R (x ∷ []) old new
  row_added x row old new same is added = record {
    concrete = (filter has_concrete (row ∷ []), added.concrete, zip_one R test has_concrete x row same is);
    others = (
      filter (λ (p : Production). not (has_concrete p)) (row ∷ []),
      added.others,
      zip_one R (λ (x : X). not (test x)) (λ (p : Production). not (has_concrete p)) x row (ap not same) is,
    );
  }

  pub both_added : (xs us : List X) (old mid new : Productions) → AddsProductions test R xs old mid → AddsProductions test R us mid new
      → AddsProductions test R (xs ++ us) old new
  both_added xs us old mid new a b = record {
    concrete = adds_append test R xs us old.concrete.items mid.concrete.items new.concrete.items a.concrete b.concrete;
    others = adds_append (λ (x : X). not (test x)) R xs us old.others.items mid.others.items new.others.items a.others b.others;
  }

  -- the next element of a slice
  pub next_added : (xs : List X) (i : ℕ) (x : X) (old mid new : Productions) → AddsProductions test R (take i xs) old mid
      → i < length xs → x ≡ get_or xs i x → AddsProductions test R (x ∷ []) mid new → AddsProductions test R (take (i + 1) xs) old new
  next_added xs i x old mid new so_far within is added =
      subst (λ z. AddsProductions test R z old new) (sym (take_more xs i x within ∙ ap (λ z. take i xs ++ z ∷ []) (sym is)))
      (both_added (take i xs) (x ∷ []) old mid new so_far added)

-- an item that declares no production
pub no_production : (form : ItemForm Pattern) → ((role : declared.ProductionRole) (p : written.Production) → form ≡ f.Production role p → ⊥)
    → option_to_list (production_of form) ≡ []
no_production (f.Production role p) other = absurd (other role p refl)
no_production (f.Plain plain) other = refl
no_production (f.Lexical role name pattern) other = refl
no_production (f.Aspect name equations) other = refl

-- the productions of one more item
kept : (o : Option ProductionDeclaration) → filter_map (λ (x : Option ProductionDeclaration). x) (o ∷ []) ≡ option_to_list o
kept None = refl
kept (Some x) = refl

pub productions_more : (items : List (Item Pattern)) (i : ℕ) (item : Item Pattern) → i < length items → item ≡ get_or items i item
    → productions (take (i + 1) items) ≡ productions (take i items) ++ option_to_list (production_of item.form)
productions_more items i item within is =
    ap productions (take_more items i item within ∙ ap (λ z. take i items ++ z ∷ []) (sym is))
    ∙ (filter_map-append (λ (x : Item Pattern). production_of x.form) (take i items) (item ∷ [])
    ∙ ap (λ z. productions (take i items) ++ z) (kept (production_of item.form)))

-- concrete productions are those of that role
is_true : (role : ProductionRole) → is_concrete role ≡ true → role ≡ Concrete
is_true Concrete is = refl
is_true Abstract is = absurd (cc is)

is_false : (role : ProductionRole) → is_concrete role ≡ false → ¬ (role ≡ Concrete)
is_false Concrete is = absurd (cc is)
is_false Abstract is = λ e. cc e

abbrev test : Production ⊎ ProductionDeclaration → Bool
test (inl p) = has_concrete p
test (inr d) = declares_concrete d

lead : (x : Production ⊎ ProductionDeclaration) → test x ≡ true → IsConcrete x
lead (inl p) is = is_true p.role is
lead (inr d) is = is_true (production_role d.role) is

others : (x : Production ⊎ ProductionDeclaration) → test x ≡ false → ¬ IsConcrete x
others (inl p) is = is_false p.role is
others (inr d) is = is_false (production_role d.role) is

module _ (file : File) (s : Scope) (m : Moves) where
  pub all_grouped : (old mid new : Productions) → old.concrete.items ≡ [] → old.others.items ≡ []
      → AddsProductions has_concrete (IsExtendedNow file s m) file.base.attributes.productions old mid
      → AddsProductions declares_concrete (IsDeclaredNow file s m) (productions file.items) mid new
      → AreProductions file s m (length new.concrete.items) (new.concrete.items ++ new.others.items)
  all_grouped old mid new no_concrete no_others a b =
      let M = IsExtendedNow file s m in
      let W = IsDeclaredNow file s m in
      let before = file.base.attributes.productions in
      let own = productions file.items in
      let all = sources before own in
      let fails : Production ⊎ ProductionDeclaration → Bool = λ x. not (test x) in
      let first : new.concrete.items ≡ a.concrete.0 ++ b.concrete.0 =
      b.concrete.1 ∙ ap (λ z. z ++ b.concrete.0) (a.concrete.1 ∙ ap (λ z. z ++ a.concrete.0) no_concrete) in
      let second : new.others.items ≡ a.others.0 ++ b.others.0 =
      b.others.1 ∙ ap (λ z. z ++ b.others.0) (a.others.1 ∙ ap (λ z. z ++ a.others.0) no_others) in
      let leading : AllZip (IsFrom M W) (filter test all) new.concrete.items =
      subst (AllZip (IsFrom M W) (filter test all)) (sym first)
      (zip_filtered M W test before own a.concrete.0 b.concrete.0 a.concrete.2 b.concrete.2) in
      let following : AllZip (IsFrom M W) (filter fails all) new.others.items =
      subst (AllZip (IsFrom M W) (filter fails all)) (sym second)
      (zip_filtered M W fails before own a.others.0 b.others.0 a.others.2 b.others.2) in (
        record {
          leading = filter test all;
          following = filter fails all;
          splits = splits_filter IsConcrete test lead others all;
          are_rows = zip_append (IsFrom M W) (filter test all) (filter fails all) new.concrete.items new.others.items leading following;
        },
        sym (zip_length (IsFrom M W) (filter test all) new.concrete.items leading),
      )
