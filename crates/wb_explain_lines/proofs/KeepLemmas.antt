-- What is kept while nothing is read, and while two things are read.
use Rattle.std.proofs.Common.{◌∙◌, refl, arith}
use Rattle.wb_explain_lines.specs.Outside.{Keeps, Outside}

pub keeps_here : (now : Outside) → Keeps now now
keeps_here now = record { files = refl; absences = λ name. omega arith; faults = λ name. omega arith }

pub keeps_twice : (before between now : Outside) → Keeps before between → Keeps between now → Keeps before now
keeps_twice before between now first second = record {
  files = second.files ∙ first.files;
  absences = λ name. omega (arith, first.absences name, second.absences name);
  faults = λ name. omega (arith, first.faults name, second.faults name);
}
