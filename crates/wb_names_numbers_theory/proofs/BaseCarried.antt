-- A base is carried by the value that a file stands for over it.
use Rattle.std.proofs.Common.{inl, ℕ, refl}
use Rattle.wb_syntax_resolved.specs.declared.production.Production.{Production}
use Rattle.wb_syntax_resolved.specs.declared.resolved.ResolvedParts.{ResolvedParts}
use Rattle.wb_lemmas.proofs.Members.{contains_at}
use Rattle.wb_names_theory.specs.Declarations.{lexicals, nonterminals, attributes, occurrences, productions}
use Rattle.wb_names_numbers_theory.specs.Files.{File, equations_on}
use Rattle.wb_names_numbers_theory.specs.Moved.{Move, IsMovedLocal, IsMovedEquation}
use Rattle.wb_names_numbers_theory.specs.Numbering.{Numbering, numbering_of, labels_in}
use Rattle.wb_names_numbers_theory.specs.Resolves.{Resolves, move_of, IsTerminal, IsNonterminal, IsAttribute, IsOccurrence, IsProduction}
use Rattle.wb_names_numbers_theory.specs.Resolves.{IsScanned}
use Rattle.wb_names_numbers_theory.specs.Resolves.{IsInGrammarOf, IsConcrete}
use Rattle.wb_names_numbers_theory.specs.Rows.{IsExtendedProduction}
use Rattle.wb_names_numbers_theory.specs.Sources.{sources, IsFrom}
use Rattle.wb_names_numbers_theory.specs.Written.{local_equations, attribute_equations, IsWrittenLocal, IsWrittenEquation}
use Rattle.wb_names_numbers_theory.specs.Carried.{IsCarriedProduction, IsCarried}
use Rattle.wb_names_numbers_theory.proofs.RowLemmas.{row_of, row_of_zip, there_before}

-- an extended production carries the one of the base
pub extended_carried : (n : Numbering) (file : File) (m : Move) (p row : Production) → IsExtendedProduction n file.owner file.items m p row
    → IsCarriedProduction m p row
extended_carried n file m p row e = record {
  name = e.name;
  owner = e.owner_is;
  role = e.role;
  left = e.left;
  children = e.children;
  locals = λ l has.
      let written = local_equations (equations_on p.name file.items) in
      let r = row_of_zip (IsFrom (IsMovedLocal m (labels_in p) (labels_in row)) (IsWrittenLocal n file.owner (labels_in row)))
      (sources p.locals written) row.locals e.locals (inl l) (there_before p.locals written l has) in
      record { there = r.row; listed = contains_at row.locals r.row r.place r.at; moved = r.is_row };
  forward = e.forward;
  equations = λ q has.
      let written = attribute_equations (equations_on p.name file.items) in
      let r = row_of_zip (IsFrom (IsMovedEquation m (labels_in p) (labels_in row)) (IsWrittenEquation n file.owner (labels_in row)))
      (sources p.equations written) row.equations e.equations (inl q) (there_before p.equations written q has) in
      record { there = r.row; listed = contains_at row.equations r.row r.place r.at; moved = r.is_row };
}

-- each row of the base is in the value
pub base_carried : (file : File) (r : ResolvedParts) → Resolves file r → IsCarried (λ (owner : ℕ). owner) file.base r
base_carried file r s =
    let n = numbering_of r in
    let b = file.base.attributes in
    record {
      host = refl;
      terminals = λ t has.
          let x = row_of IsScanned (IsTerminal file n) (sources file.base.terminals (lexicals file.items)) r.terminals s.terminals (inl t)
          (there_before file.base.terminals (lexicals file.items) t has) in
          record { there = x.row; listed = contains_at r.terminals x.row x.place x.at; moved = x.is_row };
      nonterminals = λ t has.
          let x = row_of (IsInGrammarOf file) (IsNonterminal file n) (sources b.nonterminals (nonterminals file.items))
          r.attributes.nonterminals s.nonterminals (inl t) (there_before b.nonterminals (nonterminals file.items) t has) in
          record { there = x.row; listed = contains_at r.attributes.nonterminals x.row x.place x.at; moved = x.is_row };
      attributes = λ t has.
          let x = row_of_zip (IsAttribute file n) (sources b.attributes (attributes file.items)) r.attributes.attributes s.attributes (inl
          t)
          (there_before b.attributes (attributes file.items) t has) in
          record { there = x.row; listed = contains_at r.attributes.attributes x.row x.place x.at; moved = x.is_row };
      occurrences = λ t has.
          let x = row_of_zip (IsOccurrence file n) (sources b.occurrences (occurrences file.items)) r.attributes.occurrences s.occurrences
          (inl t) (there_before b.occurrences (occurrences file.items) t has) in
          record { there = x.row; listed = contains_at r.attributes.occurrences x.row x.place x.at; moved = x.is_row };
      productions = λ t has.
          let x = row_of IsConcrete (IsProduction file n) (sources b.productions (productions file.items)) r.attributes.productions
          s.productions (inl t) (there_before b.productions (productions file.items) t has) in
          record {
            there = x.row;
            listed = contains_at r.attributes.productions x.row x.place x.at;
            moved = extended_carried n file (move_of file n) t x.row x.is_row;
          };
    }
