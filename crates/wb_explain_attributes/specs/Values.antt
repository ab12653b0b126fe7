-- The numbered value of a specification, with its host where it is an extension, and what is said of it.
use Rattle.std.specs.Prelude.{◌≡◌, ◌⊎◌, ℕ, List, Option, Some, None}
use Rattle.std.specs.Option.{option_copied}
use Rattle.wb_explain_flows.specs.Said.{SaysOf}
use Rattle.wb_explain_places.specs.declared.source.Source.{Source}
use Rattle.wb_names.specs.Resolving.{ResolvesExtension, ResolvesHost}
use Rattle.wb_reader.specs.Refusals.{IsAcceptedText}
use Rattle.wb_syntax.specs.SpecText.{SpecView}
use Rattle.wb_syntax_resolved.specs.declared.resolved.ResolvedParts.{ResolvedParts}

-- the contents are a host whose names are right, and stand for this value
pub record IsHostValue (contents : List ℕ) (r : ResolvedParts) : Type 0 where
  pub spec : SpecView
  pub accepted : IsAcceptedText contents spec
  pub names : ResolvesHost spec r

-- the contents are an extension of this host whose names are right, and with it stand for this value
pub record IsExtensionValue (host : ResolvedParts) (contents : List ℕ) (r : ResolvedParts) : Type 0 where
  pub spec : SpecView
  pub accepted : IsAcceptedText contents spec
  pub names : ResolvesExtension host spec r

-- so it is of the host that other contents are
pub record IsValueBeside (host contents : List ℕ) (r : ResolvedParts) : Type 0 where
  pub base : ResolvedParts
  pub of_host : IsHostValue host base
  pub of_extension : IsExtensionValue base contents r

abbrev pub IsValueWith : Option (List ℕ) → List ℕ → ResolvedParts → Type 0
IsValueWith None contents r = IsHostValue contents r
IsValueWith (Some host) contents r = IsValueBeside host contents r

-- the file that is spoken of stands for this value, with its host where it is an extension
abbrev pub IsValueOf : Source → ResolvedParts → Type 0
IsValueOf source r = IsValueWith (option_copied source.host) source.contents.now r

-- so it is of the attributes of the value that the file stands for, with its host where it is an extension; or nothing is said
abbrev pub Says : Source → List ℕ → List ℕ → Type 0
Says source old new = (new ≡ old) ⊎ ((r : ResolvedParts) × IsValueOf source r × SaysOf source r.attributes old new)
