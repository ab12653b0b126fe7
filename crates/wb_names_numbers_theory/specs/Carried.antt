-- That each terminal, nonterminal, attribute, occurrence and production of one resolved specification is found again in another, in whose
-- numbers it is given. Preferences, extensible nonterminals, the start and the grammar aren't spoken of.
use Rattle.std.specs.Prelude.{◌≡◌, ℕ, List, Contains, option_to_list}
use Rattle.std.specs.List.{AllZip}
use Rattle.wb_syntax_resolved.specs.declared.attributes.Attribute.{Attribute}
use Rattle.wb_syntax_resolved.specs.declared.attributes.Nonterminal.{Nonterminal}
use Rattle.wb_syntax_resolved.specs.declared.attributes.Occurrence.{Occurrence}
use Rattle.wb_syntax_resolved.specs.declared.equation.Equation.{Equation}
use Rattle.wb_syntax_resolved.specs.declared.production.Local.{Local}
use Rattle.wb_syntax_resolved.specs.declared.production.Production.{Production}
use Rattle.wb_syntax_resolved.specs.declared.resolved.ResolvedParts.{ResolvedParts}
use Rattle.wb_syntax_resolved.specs.declared.terminal.Terminal.{Terminal}
use Rattle.wb_names_numbers_theory.specs.Numbering.{numbering_of, labels_in}
use Rattle.wb_names_numbers_theory.specs.Moved.{Move, IsMovedNonterminal, IsMovedAttribute, IsMovedOccurrence, IsMovedTerminal}
use Rattle.wb_names_numbers_theory.specs.Moved.{IsMovedLocal}
use Rattle.wb_names_numbers_theory.specs.Moved.{IsMovedNonterminalNumber, IsMovedChild, IsMovedForward, IsMovedEquation}

-- something of the list is what the element is there
pub record IsThere {X : Type 0} (IsMoved : X → X → Type 0) (xs : List X) (x : X) : Type 0 where
  pub there : X
  pub listed : Contains xs there
  pub moved : IsMoved x there

-- the second production is the first in the other's numbers, and has besides only further locals and equations
pub record IsCarriedProduction (m : Move) (p to : Production) : Type 0 where
  pub name : to.name ≡ p.name
  pub owner : to.owner ≡ m.owner_in p.owner
  pub role : to.role ≡ p.role
  pub left : IsMovedNonterminalNumber m p.left to.left
  pub children : AllZip (IsMovedChild m) p.children to.children
  pub locals : (l : Local) → Contains p.locals l → IsThere (IsMovedLocal m (labels_in p) (labels_in to)) to.locals l
  pub forward : AllZip (IsMovedForward m (labels_in p) (labels_in to)) (option_to_list p.forward) (option_to_list to.forward)
  pub equations : (e : Equation) → Contains p.equations e → IsThere (IsMovedEquation m (labels_in p) (labels_in to)) to.equations e

-- from the numbers of the one into those of the other
abbrev pub move_between : (ℕ → ℕ) → ResolvedParts → ResolvedParts → Move
move_between owner_in r s = record { from = numbering_of r; to = numbering_of s; owner_in = owner_in }

-- each row of the first is in the second, in whose numbers it is given; the host stays the host
pub record IsCarried (owner_in : ℕ → ℕ) (r s : ResolvedParts) : Type 0 where
  pub host : owner_in 0 ≡ 0
  pub terminals : (t : Terminal) → Contains r.terminals t → IsThere (IsMovedTerminal (move_between owner_in r s)) s.terminals t
  pub nonterminals : (x : Nonterminal) → Contains r.attributes.nonterminals x
      → IsThere (IsMovedNonterminal (move_between owner_in r s)) s.attributes.nonterminals x
  pub attributes : (x : Attribute) → Contains r.attributes.attributes x
      → IsThere (IsMovedAttribute (move_between owner_in r s)) s.attributes.attributes x
  pub occurrences : (x : Occurrence) → Contains r.attributes.occurrences x
      → IsThere (IsMovedOccurrence (move_between owner_in r s)) s.attributes.occurrences x
  pub productions : (p : Production) → Contains r.attributes.productions p
      → IsThere (IsCarriedProduction (move_between owner_in r s)) s.attributes.productions p
