-- Whatever stop a text has, the same leaves were read before it.
use Rattle.std.proofs.Common.{List, [], ap, append_assoc, subst, sym, ℕ, ◌++◌, ◌∙◌, ◌∷◌, ◌≡◌}
use Rattle.wb_base.specs.Grammar.{GrammarView}
use Rattle.wb_grammar_theory.specs.Productions.{end_of}
use Rattle.wb_grammar_theory.specs.Trees.{DerivationTree, Forest, Leaf, leaves}
use Rattle.wb_scan_theory.specs.declared.stop_kind.StopKind.{StopKind}
use Rattle.wb_scan_theory.specs.declared.stop_kind.StopKind.TheVariants.{NoToken, Unexpected}
use Rattle.wb_scan_theory.specs.Facts.{IsLanguage}
use Rattle.wb_scan_theory.specs.Languages.{LanguageView}
use Rattle.wb_scan_theory.specs.Readings.{Begins, Gives, StopsFor, terminals_of}
use Rattle.wb_scan_theory.specs.Texts.{StopsAt}
use Rattle.wb_scan_theory.specs.Tokens.{Next, NextToken, missing, over, token}
use Rattle.wb_scan_theory.proofs.ForestLemmas.{terminals_joined}
use Rattle.wb_scan_theory.proofs.TextLemmas.{is_one}
use Rattle.wb_scan_theory.proofs.UniqueLemmas.{equal, longer, shorter, two_readings}

-- a tree begins with what was read of it and the next leaf
begins_further : (g : GrammarView) (tree : Forest) → DerivationTree g tree → (read : List Leaf) (x : Leaf) (more : List Leaf) →
    leaves [] tree ≡ read ++ x ∷ more → Begins g (terminals_of read ++ x.terminal ∷ [])
begins_further g tree is read x more e = record {
  tree = tree;
  is_tree = is;
  more = terminals_of more ++ end_of g ∷ [];
  is = ap (λ z. terminals_of z ++ end_of g ∷ []) e ∙ ap (λ z. z ++ end_of g ∷ []) (terminals_joined read (x ∷ more))
      ∙ append_assoc (terminals_of read) (x.terminal ∷ terminals_of more) (end_of g ∷ [])
      ∙ sym (append_assoc (terminals_of read) (x.terminal ∷ []) (terminals_of more ++ end_of g ∷ []));
}

gives_token : (g : GrammarView) (s : Next) (b u : ℕ) (l : List ℕ) (j t place : ℕ) → s ≡ token b u l j → Gives g s t place → u ≡ t
gives_token g (token c v m k) b u l j t place e (f, p) = let h : v ≡ u = cc in sym h ∙ f
gives_token g (over at) b u l j t place e gives = cc
gives_token g (missing at) b u l j t place e gives = absurd gives

-- a text does not stop before a leaf that is next
no_stop_before : (g : GrammarView) (tree : Forest) → DerivationTree g tree → (read : List Leaf) (x : Leaf) (more : List Leaf) →
    leaves [] tree ≡ read ++ x ∷ more → (s : Next) (begin after place : ℕ) (kind : StopKind)
    → s ≡ token begin x.terminal x.text after → StopsFor g s (terminals_of read) place kind → ⊥
no_stop_before g tree is read x more e s begin after place NoToken f stops = cc
no_stop_before g tree is read x more e s begin after place (Unexpected t) f (gives, never) =
    never (subst (λ z. Begins g (terminals_of read ++ z ∷ [])) (gives_token g s begin x.terminal x.text after t place f gives)
    (begins_further g tree is read x more e))

pub same_read : (l : LanguageView) → IsLanguage l → (text : List ℕ) (place other : ℕ) (kind also : StopKind) →
    (s : StopsAt l text place kind) → (s' : StopsAt l text other also) → s.read ≡ s'.read
same_read l ok text place other kind also s s' =
    let g = l.grammar in
    let one = is_one l ok text in
    elim (two_readings g ok.deterministic.no_conflict (NextToken l text) one s.tree s'.tree s.is_tree s'.is_tree s.read s.rest s'.read
    s'.rest s.is s'.is s.prefix s.at s'.prefix s'.at s.on_text s'.on_text) [
      | equal e f h ↦ e
      | longer begin after y more e f ↦ absurd (no_stop_before g s'.tree s'.is_tree s.read y (more ++ s'.rest)
          (s'.is ∙ ap (λ z. z ++ s'.rest) e ∙ append_assoc s.read (y ∷ more) s'.rest) s.found begin after place kind
          (one s.prefix s.at s.found (token begin y.terminal y.text after) s.is_next f) s.stops)
      | shorter begin after x more e f ↦ absurd (no_stop_before g s.tree s.is_tree s'.read x (more ++ s.rest)
          (s.is ∙ ap (λ z. z ++ s.rest) e ∙ append_assoc s'.read (x ∷ more) s.rest) s'.found begin after other also
          (one s'.prefix s'.at s'.found (token begin x.terminal x.text after) s'.is_next f) s'.stops)
    ]
