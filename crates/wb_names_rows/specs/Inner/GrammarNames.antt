-- What a form says is of the grammar in a concrete production.
use Rattle.std.specs.Prelude.{ℕ, List, []}
use Rattle.wb_syntax.specs.declared.item.ItemForm.{ItemForm}
use Rattle.wb_syntax.specs.declared.item.ItemForm.TheVariants as f
use Rattle.wb_syntax.specs.declared.pattern.Pattern.{Pattern}
use Rattle.wb_names_numbers_theory.specs.Files.{names_in_concrete}

-- the names in the concrete production that a form declares
abbrev pub form_concretes : ItemForm Pattern → List (List ℕ)
form_concretes (f.Production role production) = names_in_concrete role production
form_concretes (f.Plain plain) = []
form_concretes (f.Lexical role name pattern) = []
form_concretes (f.Aspect name equations) = []
