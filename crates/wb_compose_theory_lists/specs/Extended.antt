-- A resolved host with an extension, whose attributes are the host's with what the extension adds.
use Rattle.std.specs.Prelude.{◌≡◌, ◌<◌, ℕ, List, [], ◌∷◌, Some, slice_get}
use Rattle.wb_base.specs.Grammar.{GrammarView}
use Rattle.wb_names_theory.specs.Declarations.{Items}
use Rattle.wb_compose_theory_lists.specs.Additions.{Addition, IsAddition}
use Rattle.wb_compose_theory_lists.specs.United.{united_attribution}
use Rattle.wb_names_numbers_theory.specs.Files.{File, IsInGrammar}
use Rattle.wb_names_numbers_theory.specs.Resolves.{Resolves}
use Rattle.wb_syntax_resolved.specs.declared.attributes.Nonterminal.{Nonterminal}
use Rattle.wb_syntax_resolved.specs.declared.resolved.ResolvedParts.{ResolvedParts}
use Rattle.wb_syntax_resolved.specs.Resolved.{IsResolved}
use Rattle.wb_compose_theory_lists.specs.Hosts.{rows_of}

-- the file of an extension of this name, the first on the host
abbrev pub file_on : ResolvedParts → List ℕ → Items → File
file_on host name items = record { base = host; owner = 1; extensions = name ∷ []; items = items }

-- r is the host, whose grammar this is, with the extension of these items, and no abstract nonterminal of the host becomes one of the
-- grammar
pub record IsExtendedBy (host r : ResolvedParts) (name : List ℕ) (items : Items) (g : GrammarView) : Type 0 where
  pub host_resolved : IsResolved host
  pub resolved : IsResolved r
  pub alone : host.attributes.extensions ≡ []
  pub grammar : host.grammar ≡ Some g
  pub value : Resolves (file_on host name items) r
  pub keeps : (number : ℕ) (x : Nonterminal) → slice_get host.attributes.nonterminals number ≡ Some x
      → IsInGrammar (file_on host name items) x.name → number < g.nonterminals

-- the attributes of r are the host's rows with what the extension of this name adds
pub record IsHostWith (host r : ResolvedParts) (name : List ℕ) (g : GrammarView) : Type 0 where
  pub addition : Addition
  pub name_is : addition.name ≡ name
  pub is_addition : IsAddition addition
  pub are : r.attributes ≡ united_attribution (rows_of host g) (addition ∷ [])

-- a resolved host without extensions, whose grammar this is
pub record IsHostAlone (host : ResolvedParts) (g : GrammarView) : Type 0 where
  pub resolved : IsResolved host
  pub alone : host.attributes.extensions ≡ []
  pub grammar : host.grammar ≡ Some g
