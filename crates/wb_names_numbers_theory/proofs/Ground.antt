-- What is known where a file stands for a value over a host or nothing: rows by name, and numbers of the host's names.
use Rattle.std.proofs.Common.{◌≡◌, ◌≤◌, ◌⊎◌, inl, inr, [], ℕ, List, Some, Contains, map, slice_get, ap, sym}
use Rattle.std.proofs.Common.{subst, ◌∙◌, arith, length}
use Rattle.wb_lemmas.proofs.Members.{contains_at, place_of}
use Rattle.wb_lemmas.proofs.Elements.{all_contained}
use Rattle.wb_lemmas.proofs.Places.{at_once}
use Rattle.wb_syntax_resolved.specs.declared.attributes.Attribute.{Attribute}
use Rattle.wb_syntax_resolved.specs.declared.attributes.Nonterminal.{Nonterminal}
use Rattle.wb_syntax_resolved.specs.declared.attributes.Occurrence.{Occurrence}
use Rattle.wb_syntax_resolved.specs.declared.equation.Equation.{Equation}
use Rattle.wb_syntax_resolved.specs.declared.production.Local.{Local}
use Rattle.wb_syntax_resolved.specs.declared.production.Production.{Production}
use Rattle.wb_syntax_resolved.specs.declared.resolved.ResolvedParts.{ResolvedParts}
use Rattle.wb_syntax_resolved.specs.declared.terminal.Terminal.{Terminal}
use Rattle.wb_syntax_resolved.specs.Named.{IsNamedLocal, IsNamedEquation, IsNamedProduction, IsNamedOccurrence, IsNamedAttribute}
use Rattle.wb_syntax_resolved.specs.Once.{Entry}
use Rattle.wb_syntax_resolved.specs.Owners.{Sees, IsOwner}
use Rattle.wb_syntax_resolved.specs.Resolved.{IsResolved, IsNamedTerminal}
use Rattle.wb_names_theory.specs.Declarations.{ProductionDeclaration, productions}
use Rattle.wb_names_theory.specs.Declares.{name_in}
use Rattle.wb_names_numbers_theory.specs.Files.{File}
use Rattle.wb_names_numbers_theory.specs.Moved.{IsMovedNumber}
use Rattle.wb_names_numbers_theory.specs.Numbering.{Numbering, numbering_of, IsNumber}
use Rattle.wb_names_numbers_theory.specs.Resolves.{Resolves, move_of, IsConcrete, IsProduction}
use Rattle.wb_names_numbers_theory.specs.Rows.{IsProductionRow, IsExtendedProduction}
use Rattle.wb_names_numbers_theory.specs.Sources.{sources}
use Rattle.wb_names_numbers_theory.proofs.Carrying.{row_at, name_at}
use Rattle.wb_names_numbers_theory.proofs.NumberLemmas.{one_number}
use Rattle.wb_names_numbers_theory.proofs.OneRow.{AreDistinct, productions_differ}
use Rattle.wb_names_numbers_theory.proofs.RowLemmas.{row_of, source_of, there_before, there_declared, source_before}

-- all of it is the host's
pub record IsHosts (base : ResolvedParts) : Type 0 where
  pub terminals : (x : Terminal) → Contains base.terminals x → x.owner ≡ 0
  pub nonterminals : (x : Nonterminal) → Contains base.attributes.nonterminals x → x.owner ≡ 0
  pub attributes : (x : Attribute) → Contains base.attributes.attributes x → x.owner ≡ 0
  pub occurrences : (x : Occurrence) → Contains base.attributes.occurrences x → x.owner ≡ 0
  pub productions : (p : Production) → Contains base.attributes.productions p → p.owner ≡ 0
  pub locals : (p : Production) → Contains base.attributes.productions p → (l : Local) → Contains p.locals l → l.owner ≡ 0
  pub equations : (p : Production) → Contains base.attributes.productions p → (e : Equation) → Contains p.equations e → e.owner ≡ 0

no_other : (extensions : List (List ℕ)) (owner : ℕ) → extensions ≡ [] → IsOwner extensions owner → owner ≡ 0
no_other extensions owner none_there is =
    let few : owner ≤ 0 = subst (λ k. owner ≤ length k) none_there is in omega (arith, few)

pub hosts : (base : ResolvedParts) → IsResolved base → base.attributes.extensions ≡ [] → IsHosts base
hosts base is alone = record {
  terminals = λ x has. no_other base.attributes.extensions x.owner alone (all_contained (IsNamedTerminal base) base.terminals x is.terminals
      has).owner;
  nonterminals = λ x has.
      let (i, at) = place_of base.attributes.nonterminals x has in
      no_other base.attributes.extensions x.owner alone (is.attributes.named.nonterminals i x at).owner;
  attributes = λ x has. no_other base.attributes.extensions x.owner alone
      (all_contained (IsNamedAttribute base.attributes) base.attributes.attributes x is.attributes.named.attributes has).owner;
  occurrences = λ x has. no_other base.attributes.extensions x.owner alone
      (all_contained (IsNamedOccurrence base.attributes) base.attributes.occurrences x is.attributes.named.occurrences has).owner;
  productions = λ x has. no_other base.attributes.extensions x.owner alone
      (all_contained (IsNamedProduction base.attributes) base.attributes.productions x is.attributes.named.productions has).owner;
  locals = λ p has l more. no_other base.attributes.extensions l.owner alone
      (all_contained (IsNamedLocal base.attributes p) p.locals l
      (all_contained (IsNamedProduction base.attributes) base.attributes.productions p is.attributes.named.productions has).locals
      more).owner;
  equations = λ p has e more. no_other base.attributes.extensions e.owner alone
      (all_contained (IsNamedEquation base.attributes p) p.equations e
      (all_contained (IsNamedProduction base.attributes) base.attributes.productions p is.attributes.named.productions has).equations
      more).owner;
}

-- a moved number is that of the host's name
pub moved_number : {X : Type 0} (entry : X → Entry) (rows : List X) (others : List Entry) → ((x : X) → Contains rows x → (entry x).0 ≡ 0)
    → (owner k j : ℕ) → IsMovedNumber (λ (o : ℕ). o) (map entry rows) others k j
    → IsNumber others owner (name_in (λ x. (entry x).1) (slice_get rows k)) j
moved_number entry rows others host owner k j m =
    let row = row_at entry rows k m.owner m.name m.before in
    let named : name_in (λ x. (entry x).1) (slice_get rows k) ≡ m.name = ap (name_in (λ x. (entry x).1)) row.is ∙ row.name_is in
    record {
      other = m.owner;
      is = m.after ∙ ap (λ (z : List ℕ). Some (m.owner, z)) (sym named);
      seen = inl (sym row.owner_is ∙ host row.row (contains_at rows row.row k row.is));
    }

-- what is known
pub record Ground (file : File) (r : ResolvedParts) : Type 0 where
  pub resolves : Resolves file r
  pub distinct : AreDistinct (numbering_of r)
  pub base : IsResolved file.base
  pub alone : file.base.attributes.extensions ≡ []
  pub host : IsHosts file.base

module _ (file : File) (r : ResolvedParts) (g : Ground file r) where
  abbrev n : Numbering
  n = numbering_of r

  abbrev there : List (Production ⊎ ProductionDeclaration)
  there = sources file.base.attributes.productions (productions file.items)

  -- the owner sees each production
  seen_source : (x : Production ⊎ ProductionDeclaration) (row : Production) → Contains there x → IsProduction file n x row
      → Sees file.owner row.owner
  seen_source (inl p) row has e =
      inl (e.owner_is ∙ g.host.productions p (source_before file.base.attributes.productions (productions file.items) p has))
  seen_source (inr d) row has e = inr e.owner_is

  pub production_seen : (k : ℕ) (row : Production) → slice_get r.attributes.productions k ≡ Some row → Sees file.owner row.owner
  production_seen k row at =
      let s = source_of IsConcrete (IsProduction file n) there r.attributes.productions g.resolves.productions k row at in
      seen_source s.source row s.listed s.is_row

  -- the number of a production is that of its name
  pub production_number : (k : ℕ) (row : Production) → slice_get r.attributes.productions k ≡ Some row
      → IsNumber n.productions file.owner row.name k
  production_number k row at = record {
    other = row.owner;
    is = name_at (λ (p : Production). (p.owner, p.name)) r.attributes.productions k row at;
    seen = production_seen k row at;
  }

  -- a production of a name is one
  pub one_production : (i j : ℕ) (row other : Production) → slice_get r.attributes.productions i ≡ Some row
      → slice_get r.attributes.productions j ≡ Some other → row.name ≡ other.name → row ≡ other
  one_production i j row other at there same =
      let place : i ≡ j = one_number n.productions (productions_differ n g.distinct) file.owner other.name i j
      (subst (λ z. IsNumber n.productions file.owner z i) same (production_number i row at)) (production_number j other there) in
      at_once r.attributes.productions j row other (subst (λ z. slice_get r.attributes.productions z ≡ Some row) place at) there

  -- the row of a production of the base, and of a declared one, by name
  pub base_row : (p : Production) → Contains file.base.attributes.productions p → (k : ℕ) (row : Production)
      → slice_get r.attributes.productions k ≡ Some row → p.name ≡ row.name
      → IsExtendedProduction n file.owner file.items (move_of file n) p row
  base_row p has k row at same =
      let x = row_of IsConcrete (IsProduction file n) there r.attributes.productions g.resolves.productions (inl p)
      (there_before file.base.attributes.productions (productions file.items) p has) in
      subst (IsExtendedProduction n file.owner file.items (move_of file n) p)
      (one_production x.place k x.row row x.at at (x.is_row.name ∙ same)) x.is_row

  pub own_row : (d : ProductionDeclaration) → Contains (productions file.items) d → (k : ℕ) (row : Production)
      → slice_get r.attributes.productions k ≡ Some row → d.production.name ≡ row.name → IsProductionRow n file.owner file.items d row
  own_row d has k row at same =
      let x = row_of IsConcrete (IsProduction file n) there r.attributes.productions g.resolves.productions (inr d)
      (there_declared file.base.attributes.productions (productions file.items) d has) in
      subst (IsProductionRow n file.owner file.items d) (one_production x.place k x.row row x.at at (x.is_row.name ∙ same)) x.is_row
