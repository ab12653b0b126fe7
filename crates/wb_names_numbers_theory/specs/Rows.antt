-- The rows of what a file declares, and of the base's productions with what the file writes on them.
use Rattle.std.specs.Prelude.{◌≡◌, ◌↔◌, ℕ, List, IsTrue, Contains, option_to_list}
use Rattle.std.specs.List.{AllZip}
use Rattle.wb_syntax_resolved.specs.declared.attributes.Attribute.{Attribute}
use Rattle.wb_syntax_resolved.specs.declared.attributes.Nonterminal.{Nonterminal}
use Rattle.wb_syntax_resolved.specs.declared.attributes.Occurrence.{Occurrence}
use Rattle.wb_syntax_resolved.specs.declared.production.Production.{Production}
use Rattle.wb_syntax_resolved.specs.declared.production.ProductionRole as role
use Rattle.wb_syntax_resolved.specs.declared.production.ProductionRole.TheVariants as r
use Rattle.wb_syntax_resolved.specs.declared.terminal.Preference.{Preference}
use Rattle.wb_syntax_resolved.specs.declared.terminal.Terminal.{Terminal}
use Rattle.wb_syntax_resolved.specs.declared.terminal.TerminalKind.{TerminalKind}
use Rattle.wb_syntax_resolved.specs.declared.terminal.TerminalKind.TheVariants as t
use Rattle.wb_syntax.specs.declared.pattern.Role.{Role}
use Rattle.wb_syntax.specs.declared.pattern.Role.TheVariants as lexical
use Rattle.wb_syntax.specs.declared.production.ProductionRole as written_role
use Rattle.wb_syntax.specs.declared.production.ProductionRole.TheVariants as written
use Rattle.wb_names_theory.specs.Declarations.{Items, LexicalDeclaration, AttributeDeclaration, OccurrenceDeclaration}
use Rattle.wb_names_theory.specs.Declarations.{PreferenceDeclaration, ProductionDeclaration, closeds}
use Rattle.wb_syntax.specs.Names.{needs_names}
use Rattle.wb_names_numbers_theory.specs.Files.{equations_on, forward_needs_of}
use Rattle.wb_names_numbers_theory.specs.Numbering.{Numbering, IsNumber, labels_in}
use Rattle.wb_names_numbers_theory.specs.Written.{IsWrittenKind, IsWrittenChild, IsWrittenEquation, IsWrittenLocal, IsWrittenForward}
use Rattle.wb_names_numbers_theory.specs.Written.{local_equations, forward_equations, attribute_equations}
use Rattle.wb_names_numbers_theory.specs.Moved.{Move, IsMovedNonterminalNumber, IsMovedChild, IsMovedLocal, IsMovedForward, IsMovedEquation}
use Rattle.wb_names_numbers_theory.specs.Sources.{sources, IsFrom}

-- what a terminal, layout or marker is for
abbrev pub terminal_kind : Role → TerminalKind
terminal_kind lexical.Terminal = t.Plain
terminal_kind lexical.Ignore = t.Ignore
terminal_kind lexical.Marking = t.Marking

-- what a production is for
abbrev pub production_role : written_role.ProductionRole → role.ProductionRole
production_role written.Concrete = r.Concrete
production_role written.Abstract = r.Abstract

-- the rows of this owner's declarations in these items
module _ (n : Numbering) (owner : ℕ) (items : Items) where
  -- the row of a terminal, layout or marker
  pub record IsTerminalRow (d : LexicalDeclaration) (row : Terminal) : Type 0 where
    pub name : row.name ≡ d.name
    pub owner_is : row.owner ≡ owner
    pub kind : row.kind ≡ terminal_kind d.role
    pub pattern : row.pattern ≡ d.pattern.regex

  -- the row of a nonterminal: its flow type is the one that the items declare for its forward
  pub record IsNonterminalRow (name : List ℕ) (row : Nonterminal) : Type 0 where
    pub name_is : row.name ≡ name
    pub owner_is : row.owner ≡ owner
    pub closed : IsTrue row.closed ↔ Contains (closeds items) name
    pub needs : AllZip (IsNumber n.attributes owner) (forward_needs_of name items) row.forward_needs

  -- the row of an attribute
  pub record IsAttributeRow (d : AttributeDeclaration) (row : Attribute) : Type 0 where
    pub name : row.name ≡ d.name
    pub owner_is : row.owner ≡ owner
    pub direction : row.direction ≡ d.direction
    pub is_kind : IsWrittenKind n owner d.kind row.kind

  -- the row of an occurrence: a flow type that isn't written is empty
  pub record IsOccurrenceRow (d : OccurrenceDeclaration) (row : Occurrence) : Type 0 where
    pub owner_is : row.owner ≡ owner
    pub attribute : IsNumber n.attributes owner d.attribute row.attribute
    pub nonterminal : IsNumber n.nonterminals owner d.nonterminal row.nonterminal
    pub needs : AllZip (IsNumber n.attributes owner) (needs_names d.needs) row.needs

  -- the row of a preference
  pub record IsPreferenceRow (d : PreferenceDeclaration) (row : Preference) : Type 0 where
    pub first : IsNumber n.terminals owner d.first row.first
    pub second : IsNumber n.terminals owner d.second row.second

  -- the row of a production, with all that the items write on it
  pub record IsProductionRow (d : ProductionDeclaration) (row : Production) : Type 0 where
    pub name : row.name ≡ d.production.name
    pub owner_is : row.owner ≡ owner
    pub role : row.role ≡ production_role d.role
    pub left : IsNumber n.nonterminals owner d.production.left row.left
    pub children : AllZip (IsWrittenChild n owner) d.production.children row.children
    pub locals : AllZip (IsWrittenLocal n owner (labels_in row)) (local_equations (equations_on d.production.name items)) row.locals
    pub forward : AllZip (IsWrittenForward n owner (labels_in row)) (forward_equations (equations_on d.production.name items))
        (option_to_list row.forward)
    pub equations : AllZip (IsWrittenEquation n owner (labels_in row)) (attribute_equations (equations_on d.production.name items))
        row.equations

  -- the row of a production of the base, with its own locals and equations first, and then those that the items write on it
  pub record IsExtendedProduction (m : Move) (p row : Production) : Type 0 where
    pub name : row.name ≡ p.name
    pub owner_is : row.owner ≡ m.owner_in p.owner
    pub role : row.role ≡ p.role
    pub left : IsMovedNonterminalNumber m p.left row.left
    pub children : AllZip (IsMovedChild m) p.children row.children
    pub locals : AllZip (IsFrom (IsMovedLocal m (labels_in p) (labels_in row)) (IsWrittenLocal n owner (labels_in row)))
        (sources p.locals (local_equations (equations_on p.name items))) row.locals
    pub forward : AllZip (IsMovedForward m (labels_in p) (labels_in row)) (option_to_list p.forward) (option_to_list row.forward)
    pub equations : AllZip (IsFrom (IsMovedEquation m (labels_in p) (labels_in row)) (IsWrittenEquation n owner (labels_in row)))
        (sources p.equations (attribute_equations (equations_on p.name items))) row.equations
