-- Rows of a base that are looked up in tables are moved rows, where the tables have the new numbers.
use Rattle.std.proofs.Common.{◌≡◌, ◌++◌, ℕ, List, Some, slice_get}
use Rattle.wb_lemmas.proofs.Places.{append_keeps}
use Rattle.wb_base.specs.declared.symbol.Kind.{Kind}
use Rattle.wb_base.specs.declared.symbol.Kind.TheVariants as kind
use Rattle.wb_syntax_resolved.specs.declared.production.Child.{Child}
use Rattle.wb_syntax_resolved.specs.declared.production.ChildKind.{ChildKind}
use Rattle.wb_syntax_resolved.specs.declared.production.ChildKind.TheVariants as child
use Rattle.wb_syntax_resolved.specs.Once.{Entry}
use Rattle.wb_names_numbers_theory.specs.Moved.{Move, IsMovedNumber, IsMovedKind, IsMovedChildKind, IsMovedChild, IsMovedNonterminalNumber}
use Rattle.wb_names_numbers_theory.specs.Moved.{IsMovedTerminalNumber, IsMovedProductionNumber}
use Rattle.wb_names_rows.specs.declared.moves.Moves.{Moves}
use Rattle.wb_names_rows.specs.Moves.{IsNow, IsKindNow, IsChildKindNow, IsChildNow}

-- the tables have the numbers of one numbering in another
pub record AreMoves (t : Moves) (m : Move) : Type 0 where
  pub nonterminals : (k j : ℕ) → IsNow t.nonterminals.items k j → IsMovedNonterminalNumber m k j
  pub terminals : (k j : ℕ) → IsNow t.terminals.items k j → IsMovedTerminalNumber m k j
  pub productions : (k j : ℕ) → IsNow t.productions.items k j → IsMovedProductionNumber m k j

module _ (t : Moves) (m : Move) (are : AreMoves t m) where
  pub moved_kind : (is to : Kind) → IsKindNow t is to → IsMovedKind m is to
  moved_kind kind.Int to e = e
  moved_kind kind.Bool to e = e
  moved_kind kind.Text to e = e
  moved_kind (kind.Tree k) to e = (e.0, are.nonterminals k e.0 e.1, e.2)

  pub moved_child_kind : (is to : ChildKind) → IsChildKindNow t is to → IsMovedChildKind m is to
  moved_child_kind (child.Terminal k) to e = (e.0, are.terminals k e.0 e.1, e.2)
  moved_child_kind (child.Value is) to e = (e.0, moved_kind is e.0 e.1, e.2)

  pub moved_child : (c to : Child) → IsChildNow t c to → IsMovedChild m c to
  moved_child c to e = record { label = e.label; is_kind = moved_child_kind c.kind to.kind e.is_kind }

-- numbers that stay, where the names of the first numbering begin the second
pub stays : (names more : List Entry) (k : ℕ) (e : Entry) → slice_get names k ≡ Some e
    → IsMovedNumber (λ (o : ℕ). o) names (names ++ more) k k
stays names more k e at = record { owner = e.0; name = e.1; before = at; after = append_keeps names more k e at }
