-- What is said of the attributes that can be asked at the root of a text.
use Rattle.std.specs.Prelude.{◌≡◌, ◌⊎◌, ◌++◌, ℕ, List, All}
use lib.Chars.{codes}
use Rattle.wb_compose_files.specs.Certified.{CertifiedParts}
use Rattle.wb_compose_files.specs.Roots.{IsRootAttribute}
use Rattle.wb_compose_files.specs.Unions.{all_resolved}
use Rattle.wb_explain_stops.specs.Said.{all_of}
use Rattle.wb_operations.specs.Operations.{OperationSignature}
use Rattle.wb_explain_language.specs.Languages.{AreCertifiedIn}

-- after what was there comes that there are more, or nothing
abbrev pub HasEnd : List ℕ → List ℕ → Type 0
HasEnd old new = (new ≡ old) ⊎ (new ≡ old ++ codes "    and more\n")

module _ (c : CertifiedParts) where
  -- the line has four spaces and the name by which an attribute can be asked at the start of the host with the extensions
  pub record IsAskedLine (line : List ℕ) : Type 0 where
    pub name : List ℕ
    pub attribute : ℕ
    pub asked : IsRootAttribute c.host.resolved c.host.operations (all_resolved c.extensions) name attribute
    pub is : line ≡ codes "    " ++ name ++ codes "\n"

  -- after what was there come a heading, such lines, and that there are more, where there are
  pub record HasList (old new : List ℕ) : Type 0 where
    pub lines : List (List ℕ)
    pub are : All IsAskedLine lines
    pub listed : List ℕ
    pub whole : listed ≡ old ++ codes "\nWhat can be asked there:\n\n" ++ all_of lines
    pub ends : HasEnd listed new

  -- so it is, or nothing is said
  abbrev pub ListsAsked : List ℕ → List ℕ → Type 0
  ListsAsked old new = (new ≡ old) ⊎ HasList old new

-- the attributes are listed of the host with the extensions that these contents are, or nothing is said
abbrev pub SaysAsked : List OperationSignature → List (List ℕ) → (old new : List ℕ) → Type 0
SaysAsked operations files old new =
    (new ≡ old) ⊎ ((c : CertifiedParts) × AreCertifiedIn operations files c × ListsAsked c old new)
