-- What each item says is of the grammar.
use Rattle.std.specs.Prelude.{ℕ, List, [], option_to_list}
use Rattle.wb_syntax.specs.declared.item.ItemForm.{ItemForm}
use Rattle.wb_syntax.specs.declared.item.ItemForm.TheVariants as f
use Rattle.wb_syntax.specs.declared.pattern.Pattern.{Pattern}
use Rattle.wb_names_theory.specs.Declarations.{start_of, extensible_of}

-- the start that a form declares
abbrev pub form_starts : ItemForm Pattern → List (List ℕ)
form_starts (f.Plain plain) = option_to_list (start_of plain)
form_starts (f.Lexical role name pattern) = []
form_starts (f.Production role production) = []
form_starts (f.Aspect name equations) = []

-- the nonterminal that a form makes extensible
abbrev pub form_extensibles : ItemForm Pattern → List (List ℕ)
form_extensibles (f.Plain plain) = option_to_list (extensible_of plain)
form_extensibles (f.Lexical role name pattern) = []
form_extensibles (f.Production role production) = []
form_extensibles (f.Aspect name equations) = []
