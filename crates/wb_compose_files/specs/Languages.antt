-- The language that is composed of a certified host and extensions, with the signatures of its productions and the names of its terminals.
use Rattle.std.specs.Prelude.{◌≡◌, ℕ, List}
use Rattle.wb_values.specs.Signature.{Signature}
use Rattle.wb_scan.specs.Views.{LanguageParts}
use Rattle.wb_compose_texts.specs.Composed.{IsComposed}
use Rattle.wb_compose_texts.specs.Names.{terminals_of}
use Rattle.wb_compose_texts.specs.Signatures.{signatures_of}
use Rattle.wb_compose_texts.specs.Unions.{all_resolved}
use Rattle.wb_compose_files.specs.Certified.{CertifiedParts}

-- a host and extensions, their language, the withdrawn markers, and the signatures of the productions and the printed names of the
-- terminals, by number
pub record TextLanguageParts : Type 0 where
  pub certified : CertifiedParts
  pub language : LanguageParts
  pub withdrawn : List ℕ
  pub signatures : List Signature
  pub terminals : List (List ℕ)

-- these are the signatures of the productions of the host with the extensions
abbrev pub AreSignatures : CertifiedParts → List Signature → Type 0
AreSignatures c signatures = signatures ≡ signatures_of c.host.resolved (all_resolved c.extensions)

-- these are the printed names of the terminals of the host with the extensions
abbrev pub AreTerminals : CertifiedParts → List (List ℕ) → Type 0
AreTerminals c terminals = terminals ≡ terminals_of c.host.resolved (all_resolved c.extensions)

-- the language is composed of the host and the extensions, and the signatures and the names are those of its productions and terminals
pub record IsTextLanguage (l : TextLanguageParts) : Type 0 where
  pub composed : IsComposed l.certified.host l.certified.extensions l.language.language l.withdrawn
  pub signatures : AreSignatures l.certified l.signatures
  pub terminals : AreTerminals l.certified l.terminals
