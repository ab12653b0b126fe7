-- Faults in lines of a text.
use Rattle.std.specs.Prelude.{List}
use Rattle.wb_base.specs.Grammar.{GrammarView}
use Rattle.wb_recheck_theory.specs.declared.line.Line.{Line}
use Rattle.wb_recheck_theory.specs.declared.entry.Entry.{Entry}
use Rattle.wb_recheck_entries.specs.declared.fault.CertificateFault.{CertificateFault}
use Rattle.wb_recheck_entries.specs.declared.fault.CertificateFault.TheVariants.{Syntax, WrongLine, Missing, NoMemory}
use Rattle.wb_recheck_entries.specs.Texts.{IsWrongLine, IsMissing}

-- the fault is the first of lines and entries
abbrev pub IsFaultIn : GrammarView → List Line → List Entry → CertificateFault → Type 0
IsFaultIn g lines entries (Syntax at) = ⊥
IsFaultIn g lines entries (WrongLine n) = IsWrongLine g lines entries n
IsFaultIn g lines entries (Missing k) = IsMissing g lines entries k
IsFaultIn g lines entries (NoMemory error) = Unit {0}
