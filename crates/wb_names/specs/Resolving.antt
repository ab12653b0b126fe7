-- What a specification resolves to: a host by itself, and an extension on a resolved host; and why it doesn't.
use Rattle.std.specs.Prelude.{◌≡◌, ◌≢◌, ◌⊎◌, ℕ, List, [], ◌∷◌, None}
use Rattle.wb_names_theory.specs.NamesOk.{NamesOk, Scope, scope_of}
use Rattle.wb_names_theory.specs.Refusals.{IsTrueRefusal}
use Rattle.wb_names_theory.specs.declared.refusal.NameRefusal.{NameRefusal}
use Rattle.wb_names_theory.specs.declared.refusal.NameRefusal.TheVariants as n
use Rattle.wb_names_numbers_theory.specs.Files.{File}
use Rattle.wb_names_numbers_theory.specs.Resolves.{Resolves}
use Rattle.wb_syntax_resolved.specs.declared.resolved.ResolvedParts.{ResolvedParts}
use Rattle.wb_syntax.specs.SpecText.{SpecView}
use Rattle.wb_syntax.specs.declared.header.Header.{Header}
use Rattle.wb_syntax.specs.declared.header.Header.TheVariants as h

-- what is there before a host of this name: nothing
abbrev pub empty_host : List ℕ → ResolvedParts
empty_host name = record {
  host = name;
  grammar = None;
  terminals = [];
  preferences = [];
  extensible = [];
  attributes = record { extensions = []; nonterminals = []; attributes = []; occurrences = []; productions = []; signatures = [] };
}

-- the file of a host
abbrev pub host_file : SpecView → File
host_file spec = record { base = empty_host spec.name; owner = 0; extensions = []; items = spec.items }

-- the file of an extension, the first on this host
abbrev pub extension_file : ResolvedParts → SpecView → File
extension_file host spec = record { base = host; owner = 1; extensions = spec.name ∷ []; items = spec.items }

-- what the name rules read of a file of this format
abbrev pub file_scope : ℕ → File → Scope
file_scope format file = scope_of file.base file.owner format file.items

-- the specification is a host, its names are right, and it stands for this value
pub record ResolvesHost (spec : SpecView) (r : ResolvedParts) : Type 0 where
  pub header : spec.header ≡ h.Host
  pub names : NamesOk (file_scope spec.format (host_file spec))
  pub value : Resolves (host_file spec) r

-- the specification is an extension of this host, its names are right, and with the host it stands for this value
pub record ResolvesExtension (host : ResolvedParts) (spec : SpecView) (r : ResolvedParts) : Type 0 where
  pub header : spec.header ≡ h.Extension host.host
  pub names : NamesOk (file_scope spec.format (extension_file host spec))
  pub value : Resolves (extension_file host spec) r

-- the header is that of an extension
abbrev pub IsExtension : Header → Type 0
IsExtension header = (host : List ℕ) × (header ≡ h.Extension host)

-- the file is no host, and its name is shown; or it is one, and the first name rule that fails is this one
abbrev pub IsHostNameRefusal : SpecView → NameRefusal → Type 0
IsHostNameRefusal spec (n.NoMemory error) = Unit {0}
IsHostNameRefusal spec refusal =
    (IsExtension spec.header × (refusal ≡ n.WrongKind spec.name))
    ⊎ ((spec.header ≡ h.Host) × IsTrueRefusal (file_scope spec.format (host_file spec)) refusal)

-- the extension is for another host, which is shown
pub record IsForOther (host : ResolvedParts) (spec : SpecView) (refusal : NameRefusal) : Type 0 where
  pub other : List ℕ
  pub header : spec.header ≡ h.Extension other
  pub differs : other ≢ host.host
  pub shown : refusal ≡ n.WrongHost other

-- the file is no extension, and its name is shown; or it is one of another host, which is shown; or it is one of this host, and the first
-- name rule that fails is this one
abbrev pub IsExtensionNameRefusal : ResolvedParts → SpecView → NameRefusal → Type 0
IsExtensionNameRefusal host spec (n.NoMemory error) = Unit {0}
IsExtensionNameRefusal host spec refusal =
    ((spec.header ≡ h.Host) × (refusal ≡ n.WrongKind spec.name)) ⊎ IsForOther host spec refusal
    ⊎ ((spec.header ≡ h.Extension host.host) × IsTrueRefusal (file_scope spec.format (extension_file host spec)) refusal)
