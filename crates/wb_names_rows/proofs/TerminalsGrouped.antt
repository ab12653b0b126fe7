-- The rows of a base's terminals and of a file's are the terminals of what the file stands for, with layout after the others.
use Rattle.std.proofs.Common.{◌≡◌, ◌≢◌, ◌++◌, ◌⊎◌, inl, inr, [], Bool, true, false, not, ap, sym, refl, subst, ◌∙◌}
use Rattle.std.specs.Prelude.{filter}
use Rattle.wb_lemmas.proofs.Zips.{zip_weaker}
use Rattle.wb_syntax_resolved.specs.declared.terminal.Terminal.{Terminal}
use Rattle.wb_syntax_resolved.specs.declared.terminal.TerminalKind.{TerminalKind}
use Rattle.wb_syntax_resolved.specs.declared.terminal.TerminalKind.TheVariants as t
use Rattle.wb_names_theory.specs.Declarations.{LexicalDeclaration, lexicals}
use Rattle.wb_names_numbers_theory.specs.Files.{File}
use Rattle.wb_names_numbers_theory.specs.Moved.{IsMovedTerminal}
use Rattle.wb_names_numbers_theory.specs.Numbering.{Numbering}
use Rattle.wb_names_numbers_theory.specs.Resolves.{IsScanned, IsTerminal, move_of}
use Rattle.wb_names_numbers_theory.specs.Rows.{terminal_kind, IsTerminalRow}
use Rattle.wb_names_numbers_theory.specs.Sources.{sources, AreGrouped}
use Rattle.wb_names_rows.specs.declared.terminals.Terminals.{Terminals}
use Rattle.wb_names_rows.specs.Terminals.{AddsTerminals, IsCopy, IsFoundTerminal, is_scanned, has_scanned, declares_scanned}
use Rattle.wb_names_rows.proofs.GroupLemmas.{grouped}

-- layout is what isn't scanned
scanned : (kind : TerminalKind) → is_scanned kind ≡ true → kind ≢ t.Ignore
scanned t.Ignore is = absurd (cc is)
scanned t.Plain is = λ e. cc e
scanned t.Marking is = λ e. cc e

skipped : (kind : TerminalKind) → is_scanned kind ≡ false → ¬ (kind ≢ t.Ignore)
skipped t.Ignore is = λ other. other refl
skipped t.Plain is = absurd (cc is)
skipped t.Marking is = absurd (cc is)

abbrev test : Terminal ⊎ LexicalDeclaration → Bool
test (inl x) = has_scanned x
test (inr d) = declares_scanned d

lead : (x : Terminal ⊎ LexicalDeclaration) → test x ≡ true → IsScanned x
lead (inl x) is = scanned x.kind is
lead (inr d) is = scanned (terminal_kind d.role) is

others : (x : Terminal ⊎ LexicalDeclaration) → test x ≡ false → ¬ IsScanned x
others (inl x) is = skipped x.kind is
others (inr d) is = skipped (terminal_kind d.role) is

module _ (file : File) (n : Numbering) where
  copied : (x row : Terminal) → IsCopy x row → IsMovedTerminal (move_of file n) x row
  copied x row is = record {
    name = ap (λ (z : Terminal). z.name) is;
    owner = ap (λ (z : Terminal). z.owner) is;
    kind = ap (λ (z : Terminal). z.kind) is;
    pattern = ap (λ (z : Terminal). z.pattern) is;
  }

  found : (d : LexicalDeclaration) (row : Terminal) → IsFoundTerminal file.owner d row → IsTerminalRow n file.owner file.items d row
  found d row is = record { name = is.name; owner_is = is.owner_is; kind = is.kind; pattern = is.pattern }

  -- from empty lists, a base's are added, and then a file's
  pub terminals_grouped : (start mid new : Terminals) → start.scanned.items ≡ [] → start.layout.items ≡ []
      → AddsTerminals has_scanned IsCopy file.base.terminals start mid
      → AddsTerminals declares_scanned (IsFoundTerminal file.owner) (lexicals file.items) mid new
      → AreGrouped IsScanned (IsTerminal file n) (sources file.base.terminals (lexicals file.items)) (new.scanned.items ++ new.layout.items)
  terminals_grouped start mid new none empty a b =
      let M = IsMovedTerminal (move_of file n) in
      let W = IsTerminalRow n file.owner file.items in
      let before = file.base.terminals in
      let declared = lexicals file.items in
      let not_scanned = λ (x : Terminal). not (has_scanned x) in
      let not_declared = λ (d : LexicalDeclaration). not (declares_scanned d) in
      let first : new.scanned.items ≡ a.scanned.0 ++ b.scanned.0 =
      b.scanned.1 ∙ ap (λ z. z ++ b.scanned.0) (a.scanned.1 ∙ ap (λ z. z ++ a.scanned.0) none) in
      let second : new.layout.items ≡ a.layout.0 ++ b.layout.0 =
      b.layout.1 ∙ ap (λ z. z ++ b.layout.0) (a.layout.1 ∙ ap (λ z. z ++ a.layout.0) empty) in
      let rows : new.scanned.items ++ new.layout.items ≡ (a.scanned.0 ++ b.scanned.0) ++ (a.layout.0 ++ b.layout.0) =
      ap (λ z. z ++ new.layout.items) first ∙ ap (λ z. (a.scanned.0 ++ b.scanned.0) ++ z) second in
      subst (AreGrouped IsScanned (IsTerminal file n) (sources before declared)) (sym rows)
      (grouped M W IsScanned test lead others before declared a.scanned.0 b.scanned.0 a.layout.0 b.layout.0
      (zip_weaker IsCopy M copied (filter has_scanned before) a.scanned.0 a.scanned.2)
      (zip_weaker (IsFoundTerminal file.owner) W found (filter declares_scanned declared) b.scanned.0 b.scanned.2)
      (zip_weaker IsCopy M copied (filter not_scanned before) a.layout.0 a.layout.2)
      (zip_weaker (IsFoundTerminal file.owner) W found (filter not_declared declared) b.layout.0 b.layout.2))
