-- A host and what an extension adds to it, as rows. Each extension has the numbers that it has with the host alone.
use Rattle.std.specs.Prelude.{◌≡◌, ℕ, List, [], All, map}
use Rattle.wb_base.specs.Different.{Differ}
use Rattle.wb_syntax_resolved.specs.declared.attributes.Attribute.{Attribute}
use Rattle.wb_syntax_resolved.specs.declared.attributes.Nonterminal.{Nonterminal}
use Rattle.wb_syntax_resolved.specs.declared.attributes.Occurrence.{Occurrence}
use Rattle.wb_syntax_resolved.specs.declared.equation.Equation.{Equation}
use Rattle.wb_syntax_resolved.specs.declared.production.Local.{Local}
use Rattle.wb_syntax_resolved.specs.declared.production.Production.{Production}
use Rattle.wb_syntax_resolved.specs.declared.production.ProductionRole.TheVariants.{Concrete, Abstract}
use Rattle.wb_syntax_resolved.specs.Once.{OccursOnce}

-- rows: how many terminals, the nonterminals of the grammar and those that are abstract alone, attributes and where they occur, and the
-- concrete productions and the abstract ones
pub record Rows : Type 0 where
  pub terminals : ℕ
  pub nonterminals : List Nonterminal
  pub abstract_nonterminals : List Nonterminal
  pub attributes : List Attribute
  pub occurrences : List Occurrence
  pub productions : List Production
  pub abstract_productions : List Production

-- what an extension of this name adds: rows, and the locals and equations that it writes on the host's production of a number
pub record Addition : Type 0 where
  pub name : List ℕ
  pub rows : Rows
  pub locals : (production : ℕ) → List Local
  pub equations : (production : ℕ) → List Equation

-- an addition of nothing
abbrev pub no_rows : Rows
no_rows = record {
  terminals = 0;
  nonterminals = [];
  abstract_nonterminals = [];
  attributes = [];
  occurrences = [];
  productions = [];
  abstract_productions = [];
}

abbrev pub nothing : Addition
nothing = record { name = []; rows = no_rows; locals = λ p. []; equations = λ p. [] }

-- all that an extension adds is its own
pub record IsOwn (x : Addition) : Type 0 where
  pub nonterminals : All (λ (r : Nonterminal). r.owner ≡ 1) x.rows.nonterminals
  pub abstract_nonterminals : All (λ (r : Nonterminal). r.owner ≡ 1) x.rows.abstract_nonterminals
  pub attributes : All (λ (r : Attribute). r.owner ≡ 1) x.rows.attributes
  pub occurrences : All (λ (r : Occurrence). r.owner ≡ 1) x.rows.occurrences
  pub productions : All (λ (r : Production). r.owner ≡ 1) x.rows.productions
  pub abstract_productions : All (λ (r : Production). r.owner ≡ 1) x.rows.abstract_productions
  pub locals : (p : ℕ) → All (λ (l : Local). l.owner ≡ 1) (x.locals p)
  pub equations : (p : ℕ) → All (λ (e : Equation). e.owner ≡ 1) (x.equations p)

-- what is written on a production of an extension is its own
pub record IsWrittenByOwner (production : Production) : Type 0 where
  pub locals : All (λ (l : Local). l.owner ≡ 1) production.locals
  pub equations : All (λ (e : Equation). e.owner ≡ 1) production.equations

pub record IsWrittenByExtension (x : Addition) : Type 0 where
  pub productions : All IsWrittenByOwner x.rows.productions
  pub abstract_productions : All IsWrittenByOwner x.rows.abstract_productions

-- concrete productions come before abstract ones
pub record HaveRoles (rows : Rows) : Type 0 where
  pub productions : All (λ (r : Production). r.role ≡ Concrete) rows.productions
  pub abstract_productions : All (λ (r : Production). r.role ≡ Abstract) rows.abstract_productions

-- equations are for different targets
abbrev pub TargetsDiffer : List Equation → Type 0
TargetsDiffer equations = Differ (map (λ (e : Equation). e.target) equations)

-- no attribute occurs twice on a nonterminal, and equations of a production are for different targets
pub record AreOnce (rows : Rows) : Type 0 where
  pub occurrences : OccursOnce rows.occurrences
  pub productions : All (λ (r : Production). TargetsDiffer r.equations) rows.productions
  pub abstract_productions : All (λ (r : Production). TargetsDiffer r.equations) rows.abstract_productions

-- what an extension adds is its own, has its roles, and nothing of it is there twice
pub record IsAddition (x : Addition) : Type 0 where
  pub own : IsOwn x
  pub written : IsWrittenByExtension x
  pub roles : HaveRoles x.rows
  pub once : AreOnce x.rows
  pub aspects_once : (p : ℕ) → TargetsDiffer (x.equations p)
