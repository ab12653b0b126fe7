-- A test that fails is of the first rule that does.
use Rattle.std.proofs.Common.{◌≡◌, ◌≢◌, ℕ, List, All, take, drop, sym, ap, subst, ◌∙◌}
use Rattle.wb_syntax_resolved.specs.declared.resolved.ResolvedParts.{ResolvedParts}
use Rattle.wb_names_theory.specs.declared.declaration.Declaration.{Declaration}
use Rattle.wb_names_theory.specs.declared.refusal.NameRefusal.{NameRefusal}
use Rattle.wb_names_theory.specs.declared.refusal.NameRefusal.TheVariants as r
use Rattle.wb_names_theory.specs.declared.usage.Usage.{Usage}
use Rattle.wb_names_theory.specs.Declarations.{Items}
use Rattle.wb_names_theory.specs.Declares.{base_declarations, item_declarations, declarations}
use Rattle.wb_names_theory.specs.NamesOk.{bounds_of, scope_of}
use Rattle.wb_names_theory.specs.Orphan.{Bounds, FailsOrphan}
use Rattle.wb_names_theory.specs.Refusals.{IsTrueRefusal}
use Rattle.wb_names_theory.specs.Uses.{uses}
use Rattle.wb_names_theory.specs.WrongKind.{misplaced, FailsWrongKind}
use Rattle.wb_names_rules.specs.Index.{CountOnce}
use Rattle.wb_names_rules.specs.Inner.Indexed.{IsDuplicate}
use Rattle.wb_names_rules.specs.Inner.Owners.{IsOrphanIn}
use Rattle.wb_names_rules.specs.Inner.Passing.{UsesPass, UsesFail, OwnerFails}
use Rattle.wb_names_rules.specs.Inner.Tests.{IsKnown, IsWrongIn}
use Rattle.wb_names_rules.proofs.KindLemmas.{all_of_kind}
use Rattle.wb_names_rules.proofs.PassLemmas.{AreListed, split_host, split_own}
use Rattle.wb_names_rules.proofs.TwiceLemmas.{nothing_twice}
use Rattle.wb_names_rules.proofs.UnknownLemmas.{all_known}

module _ (base : ResolvedParts) (owner format : ℕ) (items : Items) where
  -- a use that fails is of the first rule that does
  pub use_fails : (declared : List Declaration) (from : ℕ) → AreListed base items declared from → CountOnce declared
      → (refusal : NameRefusal) → UsesFail declared owner items refusal → IsTrueRefusal (scope_of base owner format items) refusal
  use_fails declared from l once refusal fails =
      subst (λ (z : List Declaration). CountOnce z → UsesFail z owner items refusal → IsTrueRefusal (scope_of base owner format items) refusal)
      (sym l.all) (of_all refusal) once fails where
        of_all : (refusal : NameRefusal) → CountOnce (declarations base items) → UsesFail (declarations base items) owner items refusal
            → IsTrueRefusal (scope_of base owner format items) refusal
        of_all (r.Unknown name) once fails = record { once = nothing_twice (declarations base items) once; fails = fails }
        of_all (r.WrongKind name) once fails = record {
          once = nothing_twice (declarations base items) once;
          declared = all_known (declarations base items) (uses items) fails.known;
          fails = fails.fails;
        }
        of_all (r.NoMemory error) once fails = tt
        of_all (r.Duplicate name) once fails = absurd fails
        of_all (r.Orphan name) once fails = absurd fails
        of_all (r.WrongHost name) once fails = absurd fails

  -- where uses pass, so is what an extension may not say
  pub owner_fails : (declared : List Declaration) (from : ℕ) → AreListed base items declared from → CountOnce declared
      → UsesPass declared owner items → (refusal : NameRefusal) → OwnerFails declared from owner (bounds_of base format) refusal
      → IsTrueRefusal (scope_of base owner format items) refusal
  owner_fails declared from l once used (r.Orphan name) (extension, fails) =
      let used_there = subst (λ (z : List Declaration). UsesPass z owner items) l.all used in
      let host : take from declared ≡ base_declarations base =
      ap (take from) l.all ∙ ap (λ (n : ℕ). take n (declarations base items)) l.place ∙ split_host base items in
      let own : drop from declared ≡ item_declarations items =
      ap (drop from) l.all ∙ ap (λ (n : ℕ). drop n (declarations base items)) l.place ∙ split_own base items in
      record {
        once = nothing_twice (declarations base items) (subst CountOnce l.all once);
        declared = all_known (declarations base items) (uses items) used_there.known;
        kinds = all_of_kind (declarations base items) (uses items) (misplaced owner items) used_there.kinds used_there.placed;
        extension = extension;
        fails = subst (λ (z : List Declaration). FailsOrphan z (item_declarations items) (bounds_of base format) name) host
            (subst (λ (z : List Declaration). FailsOrphan (take from declared) z (bounds_of base format) name) own fails);
      }
  owner_fails declared from l once used (r.NoMemory error) fails = tt
  owner_fails declared from l once used (r.Unknown name) fails = absurd fails
  owner_fails declared from l once used (r.Duplicate name) fails = absurd fails
  owner_fails declared from l once used (r.WrongKind name) fails = absurd fails
  owner_fails declared from l once used (r.WrongHost name) fails = absurd fails

-- what is declared twice is a true refusal
pub duplicate_true : (base : ResolvedParts) (owner format : ℕ) (items : Items) (refusal : NameRefusal)
    → IsDuplicate (declarations base items) refusal → IsTrueRefusal (scope_of base owner format items) refusal
duplicate_true base owner format items (r.Duplicate name) fails = fails
duplicate_true base owner format items (r.NoMemory error) fails = tt
duplicate_true base owner format items (r.Unknown name) fails = absurd fails
duplicate_true base owner format items (r.WrongKind name) fails = absurd fails
duplicate_true base owner format items (r.Orphan name) fails = absurd fails
duplicate_true base owner format items (r.WrongHost name) fails = absurd fails

-- what shows another kind fails the uses
pub kind_fails : (declared : List Declaration) (owner : ℕ) (items : Items) (used : List Usage) (unplaced : List (List ℕ))
    → used ≡ uses items → unplaced ≡ misplaced owner items → All (IsKnown declared) used → (refusal : NameRefusal) → IsWrongIn declared used unplaced refusal
    → UsesFail declared owner items refusal
kind_fails declared owner items used unplaced e f known (r.WrongKind name) wrong = record {
  known = subst (All (IsKnown declared)) e known;
  fails = subst (λ (z : List Usage). FailsWrongKind declared z (misplaced owner items) name) e
      (subst (λ (z : List (List ℕ)). FailsWrongKind declared used z name) f wrong);
}
kind_fails declared owner items used unplaced e f known (r.NoMemory error) wrong = tt
kind_fails declared owner items used unplaced e f known (r.Unknown name) wrong = absurd wrong
kind_fails declared owner items used unplaced e f known (r.Duplicate name) wrong = absurd wrong
kind_fails declared owner items used unplaced e f known (r.Orphan name) wrong = absurd wrong
kind_fails declared owner items used unplaced e f known (r.WrongHost name) wrong = absurd wrong

-- what shows what an extension may not say is the owner's
pub extension_fails : (declared : List Declaration) (from owner : ℕ) (bounds : Bounds) → owner ≢ 0 → (refusal : NameRefusal)
    → IsOrphanIn declared from bounds refusal → OwnerFails declared from owner bounds refusal
extension_fails declared from owner bounds extension (r.Orphan name) fails = (extension, fails)
extension_fails declared from owner bounds extension (r.NoMemory error) fails = tt
extension_fails declared from owner bounds extension (r.Unknown name) fails = absurd fails
extension_fails declared from owner bounds extension (r.Duplicate name) fails = absurd fails
extension_fails declared from owner bounds extension (r.WrongKind name) fails = absurd fails
extension_fails declared from owner bounds extension (r.WrongHost name) fails = absurd fails
