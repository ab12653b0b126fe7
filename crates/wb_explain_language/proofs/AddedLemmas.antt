-- One more extension is added to a host.
use Rattle.std.proofs.Common.{◌≡◌, ◌++◌, ◌∷◌, [], ◌+◌, ◌<◌, ◌≤◌, ◌∙◌, ◌-◌, inr, ℕ, List, Option, Result, Ok, Err, Some, None, length, take, drop, get_or, ap, sym, refl, subst, append_assoc, arith}
use Rattle.std.proofs.lemmas.List.{take_more, take_all}
use Rattle.std.specs.Prelude.{IfSome, OnOk}
use Rattle.wb_lemmas.proofs.Parts.{take_to_end}
use Rattle.wb_compose_files.specs.HostContents.{IsHostText}
use Rattle.wb_compose_files.specs.Hosts.{CertifiedView}
use Rattle.wb_compose_files.specs.Certified.{CertifiedParts, Extends}
use Rattle.wb_compose_files.specs.Extensions.{IsNextText}
use Rattle.wb_compose_files.specs.Languages.{IsTextLanguage, TextLanguageParts}
use Rattle.wb_compose_files.proofs.NextLemmas.{values_more}
use Rattle.wb_compose_files.specs.Unions.{all_resolved}
use Rattle.wb_operations.specs.Operations.{OperationSignature}
use Rattle.wb_syntax_resolved.specs.declared.resolved.ResolvedParts.{ResolvedParts}
use Rattle.wb_explain_stops.specs.Said.{Says}
use Rattle.wb_scan.specs.Views.{LanguageParts}
use Rattle.wb_explain_language.specs.Languages.{AreCertifiedIn, AreNext, IsLanguageIn, SaysIn}
use Rattle.wb_explain_language.specs.Inner.Added.{HasAdded}

no_more : (xs : List ResolvedParts) → xs ++ [] ≡ xs
no_more [] = refl
no_more (x ∷ xs) = ap (λ (ys : List ResolvedParts). x ∷ ys) (no_more xs)

-- one more at the end
next_more : (operations : List OperationSignature) (host : ResolvedParts) (before : List ResolvedParts) (files : List (List ℕ))
    (values : List ResolvedParts) (contents : List ℕ) (value : ResolvedParts) → AreNext operations host before files values
    → IsNextText operations host (before ++ values) contents value
    → AreNext operations host before (files ++ contents ∷ []) (values ++ value ∷ [])
next_more operations host before [] [] contents value are is =
    (subst (λ (vs : List ResolvedParts). IsNextText operations host vs contents value) (no_more before) is, tt)
next_more operations host before [] (v ∷ values) contents value are is = absurd are
next_more operations host before (c ∷ files) [] contents value are is = absurd are
next_more operations host before (c ∷ files) (v ∷ values) contents value are is = (
  are.0,
  next_more operations host (before ++ v ∷ []) files values contents value are.1
      (subst (λ (vs : List ResolvedParts). IsNextText operations host vs contents value) (sym (append_assoc before (v ∷ []) values)) is),
)

-- none is added yet
pub none_added : (operations : List OperationSignature) (c : CertifiedParts) (files : List (List ℕ)) → c.extensions ≡ []
    → HasAdded operations c.host (take 0 files) c
none_added operations c [] none = record {
  host_is = refl;
  are = subst (λ (es : List ResolvedParts). AreNext operations c.host.resolved [] [] es) (sym (ap all_resolved none)) tt;
}
none_added operations c (file ∷ files) none = record {
  host_is = refl;
  are = subst (λ (es : List ResolvedParts). AreNext operations c.host.resolved [] [] es) (sym (ap all_resolved none)) tt;
}

-- one more is
pub one_added : (operations : List OperationSignature) (host : CertifiedView) (files : List (List ℕ)) (i : ℕ) (contents : List ℕ)
    (old new : CertifiedParts) → i < length files → get_or files i contents ≡ contents → HasAdded operations host (take i files) old
    → Extends operations contents old new → HasAdded operations host (take (i + 1) files) new
one_added operations host files i contents old new within is added extends =
    let value : ResolvedParts = extends.extension.resolved in
    let next : IsNextText operations host.resolved (all_resolved old.extensions) contents value =
    subst (λ (h : CertifiedView). IsNextText operations h.resolved (all_resolved old.extensions) contents value) added.host_is extends.is in
    let more : AreNext operations host.resolved [] (take i files ++ contents ∷ []) (all_resolved old.extensions ++ value ∷ []) =
    next_more operations host.resolved [] (take i files) (all_resolved old.extensions) contents value added.are next in
    let files_are : take i files ++ contents ∷ [] ≡ take (i + 1) files =
    sym (take_more files i contents within ∙ ap (λ (c : List ℕ). take i files ++ c ∷ []) is) in
    let values_are : all_resolved old.extensions ++ value ∷ [] ≡ all_resolved new.extensions =
    sym (ap all_resolved extends.extensions ∙ values_more old.extensions extends.extension) in
    record {
      host_is = extends.host ∙ added.host_is;
      are = subst (λ (vs : List ResolvedParts). AreNext operations host.resolved [] (take (i + 1) files) vs) values_are
          (subst (λ (fs : List (List ℕ)). AreNext operations host.resolved [] fs (all_resolved old.extensions ++ value ∷ [])) files_are more);
    }

-- all are
pub all_added : (operations : List OperationSignature) (host : CertifiedView) (files : List (List ℕ)) (i : ℕ) (c : CertifiedParts)
    → HasAdded operations host (take i files) c → length files ≤ i → HasAdded operations host files c
all_added operations host files i c added ended =
    subst (λ (fs : List (List ℕ)). HasAdded operations host fs c) (take_all i files ended) added

-- what holds of what is found, from what holds of it
pub on_some : {X : Type 0} (r : Option X) (P Q : X → Type 0) → ((x : X) → P x → Q x) → IfSome r P → IfSome r Q
on_some (Some x) P Q f h = f x h
on_some None P Q f h = tt

-- the first and the others
pub one_and_more : (xs : List (List ℕ)) (x : List ℕ) → 1 ≤ length xs → x ≡ get_or xs 0 x → xs ≡ x ∷ take (length xs - 1) (drop 1 xs)
one_and_more [] x long is = absurd (omega (arith, long))
one_and_more (y ∷ xs) x long is =
    let later : take (length (y ∷ xs) - 1) (drop 1 (y ∷ xs)) ≡ xs = take_to_end 1 (y ∷ xs) in
    cc

-- a host and extensions that were added to it
pub certified_in : (operations : List OperationSignature) (files : List (List ℕ)) (first : List ℕ) (others : List (List ℕ))
    (host made : CertifiedParts) → files ≡ first ∷ others → IsHostText operations first host.host.resolved
    → HasAdded operations host.host others made → AreCertifiedIn operations files made
certified_in operations files first others host made is text added = record {
  first = first;
  others = others;
  files_are = is;
  host_is = subst (λ (h : CertifiedView). IsHostText operations first h.resolved) (sym added.host_is) text;
  extensions_are = subst (λ (h : CertifiedView). AreNext operations h.resolved [] others (all_resolved made.extensions)) (sym added.host_is)
      added.are;
}

-- a language of a certified host with extensions
pub language_in : (operations : List OperationSignature) (files : List (List ℕ)) (c : CertifiedParts) (l : TextLanguageParts)
    → AreCertifiedIn operations files c → l.certified ≡ c → IsTextLanguage l → IsLanguageIn operations files l
language_in operations files c l are same is =
    record { certified = subst (λ (x : CertifiedParts). AreCertifiedIn operations files x) (sym same) are; composed = is }

-- what is said of a stop in a language of these files
pub says_in : {X E : Type 0} (r : Result X E) (operations : List OperationSignature) (files : List (List ℕ)) (text old new : List ℕ)
    (l : TextLanguageParts) (language : LanguageParts) (names : List (List ℕ)) → IsLanguageIn operations files l → language ≡ l.language
    → names ≡ l.terminals → OnOk r (Says language.language names text old new) → OnOk r (SaysIn operations files text old new)
says_in (Ok x) operations files text old new l language names found same named says = inr (
  l,
  found,
  subst (λ (n : List (List ℕ)). Says l.language.language n text old new) named
      (subst (λ (x : LanguageParts). Says x.language names text old new) same says),
)
says_in (Err e) operations files text old new l language names found same named says = tt
