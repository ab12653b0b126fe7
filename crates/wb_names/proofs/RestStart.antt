-- The start is the base's or the one that items declare, and items are gone through one by one.
use Rattle.std.proofs.Common.{◌≡◌, ◌≢◌, ◌≤◌, ◌∷◌, [], ℕ, List, Option, Some, None, All, Contains, length, take, ap, sym, subst, ◌∙◌}
use Rattle.std.specs.Prelude.{flat_map, option_map, option_to_list}
use Rattle.std.specs.List.{AllZip}
use Rattle.std.proofs.lemmas.List.{take_all}
use Rattle.wb_lemmas.proofs.Elements.{all_contained, all_from_contained}
use Rattle.wb_base.specs.Grammar.{GrammarView}
use Rattle.wb_names_theory.specs.Declarations.{starts}
use Rattle.wb_names_theory.specs.Hold.{NamesHold}
use Rattle.wb_names_numbers_theory.specs.Files.{File}
use Rattle.wb_names_numbers_theory.specs.Resolves.{starts_of}
use Rattle.wb_names_numbers_theory.specs.Sources.{sources}
use Rattle.wb_names_numbers_theory.proofs.OwnDeclared.{flat_map_contains}
use Rattle.wb_names_rows.specs.declared.moves.Moves.{Moves}
use Rattle.wb_names_rows.specs.declared.scope.Scope.{Scope}
use Rattle.wb_names_rows.specs.Moves.{IsNow}
use Rattle.wb_names_rows.specs.Nodes.{IsAt}
use Rattle.wb_names_rows.specs.Plains.{AddsEach}
use Rattle.wb_names_rows.proofs.GroupLemmas.{zip_sources}
use Rattle.wb_names.specs.Resolving.{file_scope}
use Rattle.wb_names.specs.Inner.Rest.{BeginsAlone, IsNumberNow}
use Rattle.wb_names.proofs.StartLemmas.{no_start}

-- what is true of all lists is true of one
pub all_of_one : {X Y : Type 0} (P : Y → Type 0) (h : X → List Y) (xs : List X) (x : X) → All P (flat_map h xs) → Contains xs x → All P (h
    x)
all_of_one P h xs x all has =
    all_from_contained P (h x) (λ y inside. all_contained P (flat_map h xs) y all (flat_map_contains h xs x y has inside))

-- the end of a walk
pub each_end : {X A B : Type 0} (h : X → List A) (R : A → B → Type 0) (items : List X) (at : ℕ) (old new : List B)
    → AddsEach R (flat_map h (take at items)) old new → length items ≤ at → AddsEach R (flat_map h items) old new
each_end h R items at old new adds ended =
    subst (λ z. AddsEach R (flat_map h z) old new) (take_all at items ended) adds

module _ (file : File) (s : Scope) (m : Moves) where
  -- the start of the base
  pub start_before : {format : ℕ} → NamesHold (file_scope format file) → BeginsAlone file → (g : GrammarView)
      → file.base.grammar ≡ Some g → (k : ℕ) → IsNow m.nonterminals.items g.start k
      → AllZip (IsNumberNow s m) (sources (starts_of file.base) (starts file.items)) (k ∷ [])
  start_before hold alone g at k now =
      let other : file.owner ≢ 0 = λ z. let no : None ≡ Some g = sym (alone z) ∙ at in absurd (cc no) in
      let first : starts_of file.base ≡ g.start ∷ [] =
      ap (λ (o : Option GrammarView). option_to_list (option_map (λ (x : GrammarView). x.start) o)) at in
      subst (λ z. AllZip (IsNumberNow s m) (sources z (starts file.items)) (k ∷ [])) (sym first)
      (subst (λ (z : List (List ℕ)). AllZip (IsNumberNow s m) (sources (g.start ∷ []) z) (k ∷ [])) (sym (no_start file hold other)) (
        now,
        tt,
      ))

  -- the start that items declare
  pub start_declared : file.base.grammar ≡ None → (ks : List ℕ) → AllZip (IsAt s.nonterminals) (starts file.items) ks
      → AllZip (IsNumberNow s m) (sources (starts_of file.base) (starts file.items)) ks
  start_declared at ks all =
      let first : starts_of file.base ≡ [] =
      ap (λ (o : Option GrammarView). option_to_list (option_map (λ (x : GrammarView). x.start) o)) at in
      subst (λ z. AllZip (IsNumberNow s m) (sources z (starts file.items)) ks) (sym first)
      (zip_sources (IsNow m.nonterminals.items) (IsAt s.nonterminals) [] (starts file.items) [] ks tt all)
