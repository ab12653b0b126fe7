-- One line more, and what comes before and after the lines.
use Rattle.std.proofs.Common.{◌≡◌, Result, Ok, Err, inl, inr, ◌++◌, ◌∷◌, [], ℕ, List, refl, sym, ◌∙◌, ap, append_assoc, arith}
use Rattle.std.specs.Prelude.{OnOk}
use Rattle.std.proofs.lemmas.List.Elements.{All-push}
use lib.Chars.{codes}
use Rattle.wb_compose_files.specs.Certified.{CertifiedParts}
use Rattle.wb_compose_files.specs.Roots.{IsRootAttribute}
use Rattle.wb_compose_files.specs.Unions.{all_resolved}
use Rattle.wb_explain_stops.specs.Said.{all_of}
use Rattle.wb_operations.specs.Operations.{OperationSignature}
use Rattle.wb_explain_language.specs.Inner.Asked.{AddsAsked, HasAsked}
use Rattle.wb_explain_language.specs.Asked.{HasEnd, IsAskedLine, ListsAsked, SaysAsked}
use Rattle.wb_explain_language.specs.Languages.{AreCertifiedIn}

-- what follows where it went well
pub on_ok : {X E : Type 0} (r : Result X E) (P Q : Type 0) → (P → Q) → OnOk r P → OnOk r Q
on_ok (Ok x) P Q f h = f h
on_ok (Err e) P Q f h = tt

no_more : (w : List ℕ) → w ++ [] ≡ w
no_more [] = refl
no_more (x ∷ w) = ap (λ z. x ∷ z) (no_more w)

all_push : (xs : List (List ℕ)) (y : List ℕ) → all_of (xs ++ y ∷ []) ≡ all_of xs ++ y
all_push [] y = no_more y
all_push (x ∷ xs) y = ap (λ z. x ++ z) (all_push xs y) ∙ sym (append_assoc x (all_of xs) y)

-- no lines yet
pub none_asked : (c : CertifiedParts) (old : List ℕ) → HasAsked c old old
none_asked c old = ([], (λ i d within. absurd (omega (arith, within))), sym (no_more old))

-- one line more, or none
pub one_asked : (c : CertifiedParts) (old mid new : List ℕ) → HasAsked c old mid → AddsAsked c mid new → HasAsked c old new
one_asked c old mid new (lines, are, before) (inl same) = (lines, are, same ∙ before)
one_asked c old mid new (lines, are, before) (inr (line, is, after)) = (
  lines ++ line ∷ [],
  All-push (IsAskedLine c) lines line are is,
  after ∙ (ap (λ z. z ++ line) before ∙ (append_assoc old (all_of lines) line ∙ ap (λ z. old ++ z) (sym (all_push lines line)))),
)

-- a heading, the lines and the end
pub list_asked : (c : CertifiedParts) (old headed mid new : List ℕ) → headed ≡ old ++ codes "\nWhat can be asked there:\n\n"
    → HasAsked c headed mid → HasEnd mid new → ListsAsked c old new
list_asked c old headed mid new headed_is (lines, all, are) ends = inr (record {
  lines = lines;
  are = all;
  listed = mid;
  whole = are ∙ ap (λ z. z ++ all_of lines) headed_is;
  ends = ends;
})

-- a line is one
pub line_asked : (c : CertifiedParts) (old new name : List ℕ) (attribute : ℕ)
    → IsRootAttribute c.host.resolved c.host.operations (all_resolved c.extensions) name attribute
    → new ≡ old ++ (codes "    " ++ name ++ codes "\n") → AddsAsked c old new
line_asked c old new name attribute asked is =
    inr (codes "    " ++ name ++ codes "\n", record { name = name; attribute = attribute; asked = asked; is = refl }, is)

-- what is listed of a certified host with extensions is said of these contents
pub asked_in : {X E : Type 0} (r : Result X E) (operations : List OperationSignature) (files : List (List ℕ)) (old new : List ℕ)
    (c : CertifiedParts) → AreCertifiedIn operations files c → OnOk r (ListsAsked c old new) → OnOk r (SaysAsked operations files old new)
asked_in (Ok x) operations files old new c are lists = inr (c, are, lists)
asked_in (Err e) operations files old new c are lists = tt
