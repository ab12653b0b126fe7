-- What is said of a value that is asked of a text or of a term, where the evaluation ends without one: a chain of attributes that wait.
use Rattle.std.specs.Prelude.{◌≡◌, ◌⊎◌, ℕ, List}
use Rattle.wb_compose_files.specs.Composed.{IsComposed, IsOfUnion}
use Rattle.wb_compose_files.specs.Hosts.{CertifiedView}
use Rattle.wb_compose_files.specs.Kept.{ExtensionView}
use Rattle.wb_compose_files.specs.Roots.{IsRootAttribute}
use Rattle.wb_compose_files.specs.Unions.{all_resolved}
use Rattle.wb_eval.specs.Waits.{IsWaiting}
use Rattle.wb_eval.specs.declared.halt.Waiting.{Waiting}
use Rattle.wb_eval_root.specs.Asked.{IsAskedAs}
use Rattle.wb_explain_instances.specs.Ends.{SaysEnd}
use Rattle.wb_explain_places.specs.declared.source.Source.{Source}
use Rattle.wb_operations.specs.Operations.{Operations}
use Rattle.wb_scan_theory.specs.Languages.{LanguageView}
use Rattle.wb_session.specs.Parses.{IsParsed}
use Rattle.wb_session.specs.parsed.Parsed.TheVariants as parsed
use Rattle.wb_syntax_resolved.specs.declared.attribution.AttributionParts.{AttributionParts}
use Rattle.wb_compose_files.specs.WellDefined.{IsWellDefinedText}
use Rattle.wb_syntax_resolved.specs.declared.resolved.ResolvedParts.{ResolvedParts}
use Rattle.wb_terms.specs.TermAnswer.{IsTermOf}
use Rattle.wb_values.specs.declared.value.TreeId.{TreeId}
use Rattle.wb_values.specs.Tree.{Tree}
use Rattle.wb_values.specs.ValuesIn.{tree_in}

-- the evaluation of an attribute of the tree ends without a value within so many steps, and after what was there comes what waits: a chain
-- of reads from the attribute that is asked to the one in which it ended, whose equation is shown in one of the files
pub record SaysWaiting (files : List Source) (a : AttributionParts) (operations : Operations) (top : Tree) (attribute steps : ℕ)
    (old new : List ℕ) : Type 0 where
  pub trees : List Tree
  pub found : Waiting
  pub waits : IsWaiting a operations top attribute steps trees found.memo found.keys.items found.halt
  pub said : SaysEnd a trees found files old new

-- the text has a tree in the language of a certified host with certified extensions, and so it is with the attribute of this name there
pub record SaysOfTree (files : List Source) (operations : Operations) (text name : List ℕ) (steps : ℕ) (old new : List ℕ) : Type 0 where
  pub host : CertifiedView
  pub extensions : List ExtensionView
  pub language : LanguageView
  pub withdrawn : List ℕ
  pub composed : IsComposed host extensions language withdrawn
  pub attributes : AttributionParts
  pub of_union : IsOfUnion host.resolved host.operations (all_resolved extensions) attributes
  pub attribute : ℕ
  pub asked : IsRootAttribute host.resolved host.operations (all_resolved extensions) name attribute
  pub store : List Tree
  pub id : TreeId
  pub parses : IsParsed language text store (parsed.Tree id)
  pub says : SaysWaiting files attributes operations (tree_in store id.0) attribute steps old new

abbrev pub SaysOfText : List Source → Operations → (text name : List ℕ) → ℕ → List ℕ → List ℕ → Type 0
SaysOfText files operations text name steps old new = (new ≡ old) ⊎ SaysOfTree files operations text name steps old new

-- so it is with the attribute of this name of a tree, or nothing is said
abbrev pub SaysOfNamed : List Source → AttributionParts → Operations → Tree → List ℕ → ℕ → List ℕ → List ℕ → Type 0
SaysOfNamed files a operations top name steps old new =
    (new ≡ old) ⊎ ((attribute : ℕ) × IsAskedAs a top name attribute × SaysWaiting files a operations top attribute steps old new)

-- the term is that of a tree, of which so it is, or nothing is said
abbrev pub SaysOfTerm : List Source → AttributionParts → Operations → (term name : List ℕ) → ℕ → List ℕ → List ℕ → Type 0
SaysOfTerm files a operations term name steps old new =
    (new ≡ old) ⊎ ((top : Tree) × IsTermOf a.signatures term top × SaysOfNamed files a operations top name steps old new)

-- so it is by the attributes of some host whose attributes are well defined, or nothing is said
abbrev pub SaysOfHostTerm : List Source → Operations → (term name : List ℕ) → ℕ → List ℕ → List ℕ → Type 0
SaysOfHostTerm files operations term name steps old new =
    (new ≡ old) ⊎ ((contents : List ℕ) × (host : ResolvedParts) × IsWellDefinedText operations.signatures contents host
    × SaysOfTerm files host.attributes operations term name steps old new)
