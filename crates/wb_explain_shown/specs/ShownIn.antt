-- What is shown of the tree of a text in the language of files.
use Rattle.std.specs.Prelude.{◌≡◌, ◌⊎◌, ℕ, List}
use Rattle.wb_explain_language.specs.TextLanguages.{TextLanguageParts}
use Rattle.wb_operations.specs.Operations.{OperationSignature}
use Rattle.wb_explain_language.specs.Languages.{IsLanguageIn}
use Rattle.wb_explain_trees.specs.Lines.{SaysTree}
use Rattle.wb_explain_trees.specs.Pictures.{SaysPicture}

module _ (operations : List OperationSignature) (files : List (List ℕ)) (text old new : List ℕ) where
  -- the tree of the text in the language of these files comes by lines, or nothing does
  abbrev pub ShowsTree : Type 0
  ShowsTree = (new ≡ old) ⊎ ((l : TextLanguageParts) × IsLanguageIn operations files l
      × SaysTree l.language.language l.signatures l.terminals text old new)

  -- a picture of the tree of the text in the language of these files comes, or nothing does
  abbrev pub ShowsPicture : Type 0
  ShowsPicture = (new ≡ old) ⊎ ((l : TextLanguageParts) × IsLanguageIn operations files l
      × SaysPicture l.language.language l.signatures l.terminals text old new)
