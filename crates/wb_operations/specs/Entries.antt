-- How the signatures of operations are kept: the names in a list of their own.
use Rattle.std.specs.Prelude.{◌≡◌, ℕ, List, [], ◌∷◌, All, length}
use Rattle.wb_operations.specs.declared.signatures.Entry.{Entry}
use Rattle.wb_operations.specs.Given.{IsPlainKind}
use Rattle.wb_operations.specs.Operations.{OperationSignature}

-- the signature of a name and an entry
abbrev pub signature_of : List ℕ → Entry → OperationSignature
signature_of name e = record { name = name; takes = e.takes.items; gives = e.gives }

-- the signatures of names and entries, one by one
abbrev pub signatures_of : List (List ℕ) → List Entry → List OperationSignature
signatures_of [] entries = []
signatures_of (name ∷ names) [] = []
signatures_of (name ∷ names) (e ∷ entries) = signature_of name e ∷ signatures_of names entries

-- no kind of the entry is that of trees
pub record IsPlainEntry (e : Entry) : Type 0 where
  pub takes_plain : All IsPlainKind e.takes.items
  pub gives_plain : IsPlainKind e.gives

-- there is a name for each entry, and no kind is that of trees
pub record AreEntries (names : List (List ℕ)) (entries : List Entry) : Type 0 where
  pub counted : length names ≡ length entries
  pub plain : All IsPlainEntry entries
