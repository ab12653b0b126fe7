-- What is said of what waits is said of the value that is asked.
use Rattle.std.proofs.Common.{◌≡◌, ◌⊎◌, inl, inr, ℕ, List, Option, Some, None}
use Rattle.std.specs.Prelude.{IfSome}
use Rattle.wb_compose_files.specs.Composed.{IsComposed, IsOfUnion}
use Rattle.wb_compose_files.specs.Hosts.{CertifiedView}
use Rattle.wb_compose_files.specs.Kept.{ExtensionView}
use Rattle.wb_compose_files.specs.Roots.{IsRootAttribute}
use Rattle.wb_compose_files.specs.Unions.{all_resolved}
use Rattle.wb_eval.specs.Waits.{IsWaiting}
use Rattle.wb_eval.specs.declared.halt.Waiting.{Waiting}
use Rattle.wb_eval_root.specs.Asked.{IsAskedAs}
use Rattle.wb_explain_values.specs.Inner.Found.{SaysFound, SaysOfParsed}
use Rattle.wb_explain_values.specs.Said.{SaysOfNamed, SaysOfText, SaysWaiting}
use Rattle.wb_explain_places.specs.declared.source.Source.{Source}
use Rattle.wb_operations.specs.Operations.{Operations}
use Rattle.wb_scan_theory.specs.Languages.{LanguageView}
use Rattle.wb_session.specs.Parses.{IsParsed}
use Rattle.wb_session.specs.parsed.Parsed.{Parsed}
use Rattle.wb_session.specs.parsed.Parsed.TheVariants as parsed
use Rattle.wb_syntax_resolved.specs.declared.attribution.AttributionParts.{AttributionParts}
use Rattle.wb_values.specs.Tree.{Tree}

-- what waits, where something does
pub says_found : (files : List Source) (a : AttributionParts) (operations : Operations) (top : Tree) (attribute steps : ℕ)
    (trees : List Tree)
    (found : Option Waiting) (old new : List ℕ)
    → IfSome found (λ w. IsWaiting a operations top attribute steps trees w.memo w.keys.items w.halt)
    → SaysFound files a trees found old new
    → (new ≡ old) ⊎ SaysWaiting files a operations top attribute steps old new
says_found files a operations top attribute steps trees None old new waits same = inl same
says_found files a operations top attribute steps trees (Some w) old new waits said =
    inr (record { trees = trees; found = w; waits = waits; said = said })

-- what is said of the tree of a text
pub text_said : (files : List Source) (operations : Operations) (host : CertifiedView) (extensions : List ExtensionView)
    (l : LanguageView) (withdrawn : List ℕ)
    → IsComposed host extensions l withdrawn → (a : AttributionParts)
    → IsOfUnion host.resolved host.operations (all_resolved extensions) a → (name : List ℕ) (attribute : ℕ)
    → IsRootAttribute host.resolved host.operations (all_resolved extensions) name attribute → (text : List ℕ) (store : List Tree)
    (p : Parsed) → IsParsed l text store p → (steps : ℕ) (old new : List ℕ)
    → SaysOfParsed files a operations store attribute steps p old new → SaysOfText files operations text name steps old new
text_said files operations host extensions l withdrawn composed a union name attribute asked text store (parsed.Stopped at kind) is steps
    old new same = inl same
text_said files operations host extensions l withdrawn composed a union name attribute asked text store (parsed.Tree id) is steps old new
    (inl same) = inl same
text_said files operations host extensions l withdrawn composed a union name attribute asked text store (parsed.Tree id) is steps old new
    (inr says) = inr (record {
      host = host;
      extensions = extensions;
      language = l;
      withdrawn = withdrawn;
      composed = composed;
      attributes = a;
      of_union = union;
      attribute = attribute;
      asked = asked;
      store = store;
      id = id;
      parses = is;
      says = says;
    })

-- what is said of the attribute of a name
pub named_said : (files : List Source) (a : AttributionParts) (operations : Operations) (top : Tree) (name : List ℕ)
    (attribute steps : ℕ) (old new : List ℕ)
    → IsAskedAs a top name attribute → (new ≡ old) ⊎ SaysWaiting files a operations top attribute steps old new
    → SaysOfNamed files a operations top name steps old new
named_said files a operations top name attribute steps old new asked (inl same) = inl same
named_said files a operations top name attribute steps old new asked (inr says) = inr (attribute, asked, says)
