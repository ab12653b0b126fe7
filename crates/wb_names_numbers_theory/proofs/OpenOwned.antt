-- On a closed nonterminal its owner alone declares occurrences, where the names of a file are right.
use Rattle.std.proofs.Common.{◌≡◌, ◌∙◌, ◌⊎◌, inl, inr, ℕ, zero, suc, true, List, Option, None, Some, All, Contains}
use Rattle.std.proofs.Common.{cond, slice_get, ap, sym, refl, subst, arith}
use Rattle.std.specs.Prelude.{option_map}
use Rattle.wb_lemmas.proofs.Members.{contains_at}
use Rattle.wb_lemmas.proofs.Places.{at_once}
use Rattle.wb_syntax_resolved.specs.declared.attributes.Nonterminal.{Nonterminal}
use Rattle.wb_syntax_resolved.specs.declared.attributes.Occurrence.{Occurrence}
use Rattle.wb_syntax_resolved.specs.declared.attribution.AttributionParts.{AttributionParts}
use Rattle.wb_syntax_resolved.specs.declared.resolved.ResolvedParts.{ResolvedParts}
use Rattle.wb_syntax_resolved.specs.Owned.{IsClosed, IsOpenTo}
use Rattle.wb_names_theory.specs.Declarations.{OccurrenceDeclaration, nonterminals, occurrences}
use Rattle.wb_names_theory.specs.Declares.{closed_name, closed_names}
use Rattle.wb_names_numbers_theory.specs.Files.{File}
use Rattle.wb_names_numbers_theory.specs.Numbering.{Numbering, numbering_of, IsNumber}
use Rattle.wb_names_numbers_theory.specs.Resolves.{IsInGrammarOf, IsNonterminal, IsOccurrence}
use Rattle.wb_names_numbers_theory.specs.Sources.{sources}
use Rattle.wb_names_numbers_theory.proofs.Carrying.{row_at}
use Rattle.wb_names_numbers_theory.proofs.Ground.{Ground}
use Rattle.wb_names_numbers_theory.proofs.OwnDeclared.{kept}
use Rattle.wb_names_numbers_theory.proofs.OwnNamed.{Known}
use Rattle.wb_names_numbers_theory.proofs.RowLemmas.{SourceOf, all_zipped, source_before, source_declared, source_of}
use Rattle.wb_names_numbers_theory.proofs.RowsOwned.{occurrence_written}

module _ (file : File) (r : ResolvedParts) (known : Known file r) where
  abbrev n : Numbering
  n = numbering_of r

  abbrev a : AttributionParts
  a = r.attributes

  abbrev b : AttributionParts
  b = file.base.attributes

  abbrev ground : Ground file r
  ground = known.ground

  -- whose a nonterminal is that is closed: the file's, or the host's, which closed it under each name that it has for the file
  data Whose (k : ℕ) : Type 0 where
    of_file : option_map (λ (y : Nonterminal). y.owner) (slice_get a.nonterminals k) ≡ Some file.owner → Whose k
    of_base : option_map (λ (y : Nonterminal). y.owner) (slice_get a.nonterminals k) ≡ Some 0
        → ((name : List ℕ) → IsNumber n.nonterminals file.owner name k → Contains (closed_names file.base) name) → Whose k

  whose : (k : ℕ) (m : Nonterminal) → slice_get a.nonterminals k ≡ Some m → m.closed ≡ true → Whose k
  whose k m at shut = by s.source s.listed s.is_row
    where
      s : SourceOf (IsNonterminal file n) (sources b.nonterminals (nonterminals file.items)) m
      s = source_of (IsInGrammarOf file) (IsNonterminal file n) (sources b.nonterminals (nonterminals file.items)) a.nonterminals
          ground.resolves.nonterminals k m at

      by : (x : Nonterminal ⊎ List ℕ) → Contains (sources b.nonterminals (nonterminals file.items)) x → IsNonterminal file n x m → Whose k
      by (inr name) listed e = of_file (ap (option_map (λ (y : Nonterminal). y.owner)) at ∙ ap Some e.owner_is)
      by (inl x) listed e =
          let inside = source_before b.nonterminals (nonterminals file.items) x listed in
          of_base (ap (option_map (λ (y : Nonterminal). y.owner)) at ∙ ap Some (e.owner ∙ ground.host.nonterminals x inside))
          (λ name number.
          (let row = row_at (λ (y : Nonterminal). (y.owner, y.name)) a.nonterminals k number.other name number.is in
          let same : row.row ≡ m = at_once a.nonterminals k row.row m row.is at in
          let named : name ≡ x.name = sym row.name_is ∙ (ap (λ (y : Nonterminal). y.name) same ∙ e.name) in
          subst (Contains (closed_names file.base)) (sym named)
          (kept closed_name b.nonterminals x x.name inside (ap (λ c. cond c (Some x.name) None) (sym e.closed ∙ shut)))))

  -- the row of a nonterminal that is closed
  closed_row : (k : ℕ) → IsClosed a k → (m : Nonterminal) × (slice_get a.nonterminals k ≡ Some m) × (m.closed ≡ true)
  closed_row k shut = there (slice_get a.nonterminals k) refl shut where
    there : (o : Option Nonterminal) → slice_get a.nonterminals k ≡ o → option_map (λ (y : Nonterminal). y.closed) o ≡ Some true
        → (m : Nonterminal) × (slice_get a.nonterminals k ≡ Some m) × (m.closed ≡ true)
    there None at is = absurd (cc is)
    there (Some m) at is = let equal : m.closed ≡ true = cc is in (m, at, equal)

  -- an occurrence that the file declares on a closed nonterminal
  own_open : (x : OccurrenceDeclaration) (row : Occurrence) → Contains (occurrences file.items) x → IsOccurrence file n (inr x) row
      → Whose row.nonterminal → (o : ℕ) → file.owner ≡ o
      → option_map (λ (y : Nonterminal). y.owner) (slice_get a.nonterminals row.nonterminal) ≡ Some row.owner
  own_open x row has e (of_file mine) o is = mine ∙ ap Some (sym e.owner_is)
  own_open x row has e (of_base hosts closed) zero is = hosts ∙ ap Some (sym is ∙ sym e.owner_is)
  own_open x row has e (of_base hosts closed) (suc o) is =
      let owned = known.hold.owned (λ z. (let bad : 0 ≡ suc o = sym z ∙ is in absurd (omega (arith, bad)))) in
      absurd (owned.on_closed x.attribute x.nonterminal (occurrence_written file r known x has) (closed x.nonterminal e.nonterminal))

  -- on a closed nonterminal its owner alone declares occurrences
  open_occurrence : (x : Occurrence ⊎ OccurrenceDeclaration) (row : Occurrence)
      → Contains (sources b.occurrences (occurrences file.items)) x → Contains a.occurrences row → IsOccurrence file n x row
      → IsOpenTo a row
  open_occurrence (inl x) row has listed e shut =
      let inside = source_before b.occurrences (occurrences file.items) x has in
      let before = row_at (λ (y : Nonterminal). (y.owner, y.name)) b.nonterminals x.nonterminal e.nonterminal.owner e.nonterminal.name
      e.nonterminal.before in
      let after = row_at (λ (y : Nonterminal). (y.owner, y.name)) a.nonterminals row.nonterminal e.nonterminal.owner e.nonterminal.name
      e.nonterminal.after in
      let zero_is : e.nonterminal.owner ≡ 0 =
      sym before.owner_is ∙ ground.host.nonterminals before.row (contains_at b.nonterminals before.row x.nonterminal before.is) in
      ap (option_map (λ (y : Nonterminal). y.owner)) after.is ∙ ap Some (after.owner_is ∙ (zero_is ∙ sym (e.owner ∙
      ground.host.occurrences x inside)))
  open_occurrence (inr x) row has listed e shut =
      let (m, at, is) = closed_row row.nonterminal shut in
      own_open x row (source_declared b.occurrences (occurrences file.items) x has) e (whose row.nonterminal m at is) file.owner refl

  pub open_occurrences : All (IsOpenTo a) a.occurrences
  open_occurrences = all_zipped (IsOccurrence file n) (IsOpenTo a) (sources b.occurrences (occurrences file.items)) a.occurrences
      ground.resolves.occurrences open_occurrence
