-- The reports of commands on texts have the laws of a report.
use Rattle.std.proofs.Common.{ℕ, List}
use Rattle.wb_operations.specs.Operations.{Operations}
use Rattle.wb_program_words.specs.Asked as a
use Rattle.wb_program_texts.proofs.EditLaws.{edit_reported, one_edit_report}
use Rattle.wb_program_texts.proofs.GenerateLaws.{generate_reported, one_generate_report}
use Rattle.wb_program_texts.proofs.ReadingLaws.{one_reading_report, reading_reported}
use Rattle.wb_program_texts.proofs.RunLaws.{one_run_report, run_reported}
use Rattle.wb_program_texts.proofs.TreeLaws.{one_tree_report, tree_reported}
use Rattle.wb_program.proofs.ReportLaws.{HasLaws, when_alike}

-- that of `tree`
pub tree_laws : (operations : Operations) (text host : List ℕ) (extensions : List (List ℕ)) → HasLaws operations (a.tree text host extensions)
tree_laws operations text host extensions = record {
  whole = λ known. tree_reported operations.signatures known text host extensions;
  one = λ below files s t bytes others x y. when_alike (a.tree text host extensions) s t bytes others tt
      (one_tree_report below operations.signatures files text host extensions s t bytes others x y);
}

-- that of `reading`
pub reading_laws : (operations : Operations) (text host : List ℕ) (extensions : List (List ℕ))
    → HasLaws operations (a.reading text host extensions)
reading_laws operations text host extensions = record {
  whole = λ known. reading_reported operations.signatures known text host extensions;
  one = λ below files s t bytes others x y. when_alike (a.reading text host extensions) s t bytes others tt
      (one_reading_report below operations.signatures files text host extensions s t bytes others x y);
}

-- that of `run`
pub run_laws : (operations : Operations) (text attribute : List ℕ) (steps : ℕ) (host : List ℕ) (extensions : List (List ℕ))
    → HasLaws operations (a.run text attribute steps host extensions)
run_laws operations text attribute steps host extensions = record {
  whole = λ known. run_reported operations known text attribute steps host extensions;
  one = λ below files s t bytes others x y. when_alike (a.run text attribute steps host extensions) s t bytes others tt
      (one_run_report below operations files text attribute steps host extensions s t bytes others x y);
}

-- that of `generate`
pub generate_laws : (operations : Operations) (number size : ℕ) (attribute host : List ℕ) (extensions : List (List ℕ))
    → HasLaws operations (a.generate number size attribute host extensions)
generate_laws operations number size attribute host extensions = record {
  whole = λ known. generate_reported operations known number size attribute host extensions;
  one = λ below files s t bytes others x y. when_alike (a.generate number size attribute host extensions) s t bytes others tt
      (one_generate_report below operations files number size attribute host extensions s t bytes others x y);
}

-- that of `edit`
pub edit_laws : (operations : Operations) (text list host : List ℕ) (extensions : List (List ℕ))
    → HasLaws operations (a.edit text list host extensions)
edit_laws operations text list host extensions = record {
  whole = λ known. edit_reported operations.signatures known text list host extensions;
  one = λ below files s t bytes others x y. when_alike (a.edit text list host extensions) s t bytes others tt
      (one_edit_report below operations.signatures files text list host extensions s t bytes others x y);
}
