-- A text, a name and a number of steps come to one thing at most.
use Rattle.std.proofs.Common.{◌≡◌, ◌∙◌, ℕ, List, map, sym, ap, subst}
use Rattle.wb_grammar_theory.specs.Trees.{Forest}
use Rattle.wb_base.specs.Different.{Differ}
use Rattle.wb_compose.specs.Written.{name_in}
use Rattle.wb_compose.proofs.WrittenApart.{all_certified}
use Rattle.wb_scan_theory.specs.Languages.{LanguageView}
use Rattle.wb_scan_theory.specs.Shown.{Shows}
use Rattle.wb_scan_theory.specs.Texts.{ParsesTo, StopsAt}
use Rattle.wb_scan_theory.specs.declared.stop_kind.StopKind.{StopKind}
use Rattle.wb_scan_theory.proofs.TextLemmas.{not_both, one_stop, one_tree}
use Rattle.wb_operations.specs.Operations.{Operations}
use Rattle.wb_report.specs.declared.shown.ShownStop.{ShownStop}
use Rattle.wb_syntax_resolved.specs.declared.attribution.AttributionParts.{AttributionParts}
use Rattle.wb_syntax_resolved.specs.declared.resolved.ResolvedParts.{ResolvedParts}
use Rattle.wb_eval_root.specs.Values.{IsTreeValue}
use Rattle.wb_eval_root.specs.declared.value.TreeValue.{TreeValue}
use Rattle.wb_eval_root.proofs.OneValue.{one_value}
use Rattle.wb_compose_texts.specs.Answers.{StopsShown}
use Rattle.wb_compose_texts.specs.Names.{stop_shown, terminals_of}
use Rattle.wb_compose_texts.specs.Signatures.{signatures_of}
use Rattle.wb_compose_texts.specs.Unions.{IsLanguageOf, Union}
use Rattle.wb_values.specs.Tree.{Tree, more, tree, empty}
use Rattle.wb_compose_texts.specs.Roots.{attributes_in}
use Rattle.wb_compose_texts.specs.Values.{HasOneTextValue, HasRootValue, IsValueIn}
use Rattle.wb_compose_texts.specs.declared.value.TextValue.{TextValue}
use Rattle.wb_compose_texts.specs.declared.value.TextValue.TheVariants as answer
use Rattle.wb_compose_texts.proofs.OneUnion.{language_there, one_asked, one_attribution}
use Rattle.wb_compose_texts.proofs.SameLanguage.{stops_there, trees_there}

-- one root stands for one tree
one_top : (x y : Tree) (root : Forest) → Shows x root → Shows y root → x ≡ y
one_top x y root first second = let same : more (tree x) empty ≡ more (tree y) empty = sym first ∙ second in cc

module _ (host : ResolvedParts) (operations : Operations) (extensions : List ResolvedParts)
    (differ : Differ (map name_in extensions)) (u v : Union host operations.signatures extensions) (l m : LanguageView)
    (first_is : IsLanguageOf host operations.signatures extensions u l) (second_is : IsLanguageOf host operations.signatures extensions v m)
    (text name : List ℕ) (steps : ℕ) where
  abbrev names : List (List ℕ)
  names = terminals_of host extensions

  parsed_there : (root : Forest) → ParsesTo l text root → ParsesTo m text root
  parsed_there =
      trees_there u.grammar host.extensible _ _ (all_certified host u.grammar operations.signatures u.extended u.certified).are_pieces l m
      first_is.of_union (language_there host operations.signatures extensions u v m second_is) text

  stopped_there : (place : ℕ) (kind : StopKind) → StopsAt l text place kind → StopsAt m text place kind
  stopped_there =
      stops_there u.grammar host.extensible _ _ (all_certified host u.grammar operations.signatures u.extended u.certified).are_pieces l m
      first_is.of_union (language_there host operations.signatures extensions u v m second_is) text

  one_root_value : (x y : TreeValue) → HasRootValue host operations extensions text name steps u l x →
      HasRootValue host operations extensions text name steps v m y → x ≡ y
  one_root_value x y first second =
      let a = attributes_in host operations.signatures extensions u in
      let root : second.root ≡ first.root = one_tree m second_is.language text second.root first.root second.parses
      (parsed_there first.root first.parses) in
      let top = one_top first.top second.top first.root first.shows (subst (Shows second.top) root second.shows) in
      let attribute = one_asked host operations.signatures extensions differ u v name first.attribute second.attribute first.asked
      second.asked in
      let same : IsTreeValue a operations second.top second.attribute steps y =
      subst (λ (b : AttributionParts). IsTreeValue b operations second.top second.attribute steps y)
      (sym (one_attribution host operations.signatures extensions u v)) second.is in
      let also : IsTreeValue a operations first.top first.attribute steps y =
      subst (λ z. IsTreeValue a operations z first.attribute steps y) (sym top)
      (subst (λ k. IsTreeValue a operations second.top k steps y) (sym attribute) same) in
      one_value a operations first.top first.attribute steps x y first.is also

  one_place : (place other : ℕ) (shown also : ShownStop) → StopsShown names (signatures_of host extensions) l text place shown →
      StopsShown names (signatures_of host extensions) m text other also → answer.Stopped place shown ≡ answer.Stopped other also
  one_place place other shown also first second =
      let at = one_stop m second_is.language text place other first.kind second.kind (stopped_there place first.kind first.stops)
      second.stops in
      let is : shown ≡ also = first.is ∙ (ap (stop_shown names) at.1 ∙ sym second.is) in
      ap (λ z. answer.Stopped z shown) at.0 ∙ ap (answer.Stopped other) is

  one_in_both : (x y : TextValue) → IsValueIn host operations extensions text name steps u l x →
      IsValueIn host operations extensions text name steps v m y → x ≡ y
  one_in_both (answer.Tree x) (answer.Tree y) first second = ap answer.Tree (one_root_value x y first second)
  one_in_both (answer.Tree x) (answer.Stopped place shown) first second =
      absurd (not_both m second_is.language text first.root place second.kind (parsed_there first.root first.parses) second.stops)
  one_in_both (answer.Stopped place shown) (answer.Tree y) first second =
      absurd (not_both m second_is.language text second.root place first.kind second.parses (stopped_there place first.kind first.stops))
  one_in_both (answer.Stopped place shown) (answer.Stopped other also) first second = one_place place other shown also first second

pub one_text_value : (host : ResolvedParts) (operations : Operations) (extensions : List ResolvedParts) →
    Differ (map name_in extensions) → HasOneTextValue host operations extensions
one_text_value host operations extensions differ text name steps x y first second =
    one_in_both host operations extensions differ first.whole second.whole first.language second.language first.is_language
    second.is_language text name steps x y first.is second.is
