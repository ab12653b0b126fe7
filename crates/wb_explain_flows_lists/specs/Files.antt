-- The files of a specification.
use Rattle.std.specs.Prelude.{◌==◌, ℕ, List, Option, Some, None, if◌then◌else◌}
use Rattle.std.specs.Option.{option_copied}
use Rattle.wb_explain_places.specs.declared.source.Source.{Source}

-- the contents of the file of an owner: the host's, whose number is 0, or those of the file that is spoken of
abbrev pub text_beside : List ℕ → Option (List ℕ) → ℕ → List ℕ
text_beside contents None owner = contents
text_beside contents (Some host) owner = if owner == 0 then host else contents

abbrev pub text_of : Source → ℕ → List ℕ
text_of source owner = text_beside source.contents.now (option_copied source.host) owner
