-- An attribute was found that may be asked at the start, and what is reported after it comes next.
use Rattle.std.proofs.Common.{◌≡◌, ℕ, List, Option, Some, None, MatchOption, subst}
use Rattle.wb_operations.specs.Operations.{Operations, OperationSignature}
use Rattle.wb_syntax_resolved.specs.declared.resolved.ResolvedParts.{ResolvedParts}
use Rattle.wb_compose_texts.specs.Unions.{all_resolved}
use Rattle.wb_compose_texts.specs.Roots.{HasNoRootAttribute, IsRootAttribute}
use Rattle.wb_program_files.specs.Stopped.{outside}
use Rattle.wb_program_files.proofs.StopLemmas.{goes_on_here, ok_of}
use Rattle.wb_program_files.proofs.MakesLemmas.{answered, exhausted, made_since}
use Rattle.wb_program_texts.specs.declared.asked.Asked.{Asked}
use Rattle.wb_program_texts.proofs.SourceLemmas.{found_checks, found_end, unknown_checks}
use Rattle.wb_program_texts.proofs.source.attribute_answer.Goals as goal

-- what was found, where one was
found_one : (host : ResolvedParts) (operations : List OperationSignature) (values : List ResolvedParts) (name other : List ℕ)
    (found : Option ℕ) (attribute : ℕ) → other ≡ name → found ≡ Some attribute
    → MatchOption found (HasNoRootAttribute host operations values other) (IsRootAttribute host operations values other)
    → IsRootAttribute host operations values name attribute
found_one host operations values name other found attribute same is holds =
    subst (λ (x : List ℕ). IsRootAttribute host operations values x attribute) same
    (subst
    (λ (x : Option ℕ). MatchOption x (HasNoRootAttribute host operations values other) (IsRootAttribute host operations values other)) is
    holds)

-- and where none was
found_none : (host : ResolvedParts) (operations : List OperationSignature) (values : List ResolvedParts) (name other : List ℕ)
    (found : Option ℕ) → other ≡ name → found ≡ None
    → MatchOption found (HasNoRootAttribute host operations values other) (IsRootAttribute host operations values other)
    → HasNoRootAttribute host operations values name
found_none host operations values name other found same is holds =
    subst (λ (x : List ℕ). HasNoRootAttribute host operations values x) same
    (subst
    (λ (x : Option ℕ). MatchOption x (HasNoRootAttribute host operations values other) (IsRootAttribute host operations values other)) is
    holds)

pub source_answer-requires-clause-asked : goal.source_answer-requires-clause-asked
source_answer-requires-clause-asked g c =
    let host = c.args.host.now in
    let values = all_resolved c.args.extensions.now in
    let name = c.as_bytes.result.now in
    let found = c.in_ok-attribute.field-0 in
    record {
      same = c.requires.operations;
      apart = c.requires.apart;
      attributes = c.requires.attributes;
      is_root = found_one host.resolved host.operations values c.args.name.now name found c.in-Some.attribute c.as_bytes.ensures.value
          c.in-Some.is
          (ok_of c.root_attribute.result found
          (λ (x : Option ℕ). MatchOption x (HasNoRootAttribute host.resolved host.operations values name)
          (IsRootAttribute host.resolved host.operations values name)) c.in_ok-attribute.was
          (c.root_attribute.ensures values c.requires.attributes));
    }

pub returns-in-Some : goal.returns-in-Some
returns-in-Some g c =
    let operations : Operations = record { signatures = c.args.operations.now.signatures; meaning = g.M.Meaning.meaning } in
    let before = outside (g.S.Shelf.files c.args.shelf.now) (g.S.Shelf.absences c.args.shelf.now) (g.S.Shelf.faults c.args.shelf.now) in
    let host = c.args.host.now in
    let values = all_resolved c.args.extensions.now in
    let name = c.as_bytes.result.now in
    let found = c.in_ok-attribute.field-0 in
    let attribute = c.in-Some.attribute in
    let asked : Asked = record {
      host = c.args.host;
      extensions = c.args.extensions;
      attributes = c.args.attributes;
      name = c.args.name;
      attribute = attribute;
    } in
    let is : IsRootAttribute host.resolved host.operations values c.args.name.now attribute =
    found_one host.resolved host.operations values c.args.name.now name found attribute c.as_bytes.ensures.value c.in-Some.is
    (ok_of c.root_attribute.result found (λ (x : Option ℕ). MatchOption x (HasNoRootAttribute host.resolved host.operations values name)
    (IsRootAttribute host.resolved host.operations values name)) c.in_ok-attribute.was
    (c.root_attribute.ensures values c.requires.attributes)) in
    let is_root : IsRootAttribute host.resolved operations.signatures values c.args.name.now attribute =
    subst (λ (xs : List OperationSignature). IsRootAttribute host.resolved xs values c.args.name.now attribute) c.requires.operations is in
    made_since c.source_answer.result (goes_on_here before) c.source_answer.ensures
    (λ answer. found_checks operations before.files c.args.source asked attribute answer.status answer.report.items is_root)
    (λ P Q. found_end operations.signatures c.args.name.now c.args.source host.resolved values attribute P Q is_root)

pub returns-in_ok-unknown-in-None : goal.returns-in_ok-unknown-in-None
returns-in_ok-unknown-in-None g c =
    let operations : Operations = record { signatures = c.args.operations.now.signatures; meaning = g.M.Meaning.meaning } in
    let files = g.S.Shelf.files c.args.shelf.now in
    let host = c.args.host.now in
    let values = all_resolved c.args.extensions.now in
    let name = c.as_bytes.result.now in
    let found = c.in_ok-attribute.field-0 in
    let answer = c.in_ok-unknown-in-None.field-0 in
    let none : HasNoRootAttribute host.resolved host.operations values c.args.name.now =
    found_none host.resolved host.operations values c.args.name.now name found c.as_bytes.ensures.value c.in-None.is
    (ok_of c.root_attribute.result found (λ (x : Option ℕ). MatchOption x (HasNoRootAttribute host.resolved host.operations values name)
    (IsRootAttribute host.resolved host.operations values name)) c.in_ok-attribute.was
    (c.root_attribute.ensures values c.requires.attributes)) in
    answered answer (unknown_checks operations files c.args.source c.args.name.now host.resolved values answer.status answer.report.items
    (subst (λ (xs : List OperationSignature). HasNoRootAttribute host.resolved xs values c.args.name.now) c.requires.operations none)
    c.in_ok-unknown-in-None.ensures)
    (goes_on_here (outside files (g.S.Shelf.absences c.args.shelf.now) (g.S.Shelf.faults c.args.shelf.now)))

pub returns-in_err-attribute : goal.returns-in_err-attribute
returns-in_err-attribute g c =
    exhausted c.from_residual.result c.from_residual.ensures.1
    (goes_on_here (outside (g.S.Shelf.files c.args.shelf.now) (g.S.Shelf.absences c.args.shelf.now) (g.S.Shelf.faults c.args.shelf.now)))

pub returns-in_err-unknown-in-None : goal.returns-in_err-unknown-in-None
returns-in_err-unknown-in-None g c =
    exhausted c.from_residual-in_err-unknown-in-None.result c.from_residual-in_err-unknown-in-None.ensures.1
    (goes_on_here (outside (g.S.Shelf.files c.args.shelf.now) (g.S.Shelf.absences c.args.shelf.now) (g.S.Shelf.faults c.args.shelf.now)))
