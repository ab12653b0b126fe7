-- A production that is read, and readings that are tested.
use Rattle.std.proofs.Common.{◌≡◌, ◌≢◌, ◌<◌, ◌++◌, ◌∷◌, [], ℕ, Bool, true, List, Option, Some, None, IfSome, IfOk, Result, Ok, Err, length, map, slice_get, get_or, sym, ◌∙◌, ap, subst}
use Rattle.std.proofs.lemmas.Option.{slice_get-get_or}
use Rattle.wb_base.specs.declared.symbol.Symbol.{Symbol}
use Rattle.wb_base.specs.declared.symbol.Symbol.TheVariants.{Nonterminal}
use Rattle.wb_base.specs.Grammar.{GrammarView, Production}
use Rattle.wb_grammar_theory.specs.Trees.{DerivationTree, Forest}
use Rattle.wb_explain_readings.specs.declared.found.Found.{Found}
use Rattle.wb_explain_readings.specs.declared.piece.Piece.{Piece}
use Rattle.wb_explain_readings.specs.declared.piece.Piece.TheVariants.{Open}
use Rattle.wb_explain_readings.specs.Inner.Frames.{Holds}
use Rattle.wb_explain_readings.specs.Inner.Leaves.{leaves}
use Rattle.wb_explain_readings.specs.Readings.{AreReadings, HasText}
use Rattle.wb_explain_readings.specs.Written.{written}
use Rattle.wb_explain_readings.proofs.FrameLemmas.{holds_node}
use Rattle.wb_explain_readings.proofs.LeafLemmas.{readings_are}

-- the right side is taken, and the left side is in its place
abbrev pub IsTaken : List (Option Symbol) → List (Option Symbol) → Production → Type 0
IsTaken old new rule = (rest : List (Option Symbol)) × (old ≡ map Some rule.1 ++ None ∷ rest) × (new ≡ Some (Nonterminal rule.0) ∷ rest)

pub node_of : (o : Option Production) (left : ℕ) (right : List Symbol) (old mid new : List (Option Symbol)) →
    IfSome o (λ q. left ≡ q.0) → IfSome o (λ q. right ≡ q.1) → old ≡ map Some right ++ None ∷ mid → new ≡ Some (Nonterminal left) ∷ mid →
    IfSome o (IsTaken old new)
node_of None left right old mid new left_is right_is has now = tt
node_of (Some q) left right old mid new left_is right_is has now = (
  mid,
  has ∙ ap (λ z. map Some z ++ None ∷ mid) right_is,
  now ∙ ap (λ (n : ℕ). Some (Nonterminal n) ∷ mid) left_is,
)

-- a production is read where its right side is taken
pub node_taken : {E : Type 0} (result : Result Bool E) (g : GrammarView) (p : ℕ) (old new : List (Option Symbol)) (read : List Piece) →
    Holds g old read → IfOk result (λ is. is ≡ true → IfSome (slice_get g.productions p) (IsTaken old new)) →
    IfOk result (λ is. is ≡ true → p < length g.productions) → IfOk result (λ is. is ≡ true → Holds g new (Open p ∷ read))
node_taken (Ok is) g p old new read holds node some = λ t.
    let rule = get_or g.productions p (0, []) in
    let at : slice_get g.productions p ≡ Some rule = slice_get-get_or g.productions p (0, []) (some t) in
    let taken : IsTaken old new rule = subst (λ o. IfSome o (IsTaken old new)) at (node t) in
    subst (λ z. Holds g z (Open p ∷ read)) (sym taken.2)
    (holds_node g p rule.0 rule.1 old taken.0 read holds at taken.1)
node_taken (Err e) g p old new read holds node some = tt

-- what is found is true where the last test says so
pub found_true : {E : Type 0} (result : Result Bool E) (g : GrammarView) (found : Found) (one other : List Piece) (text : List ℕ) →
    one ≡ found.first → other ≡ found.second → text ≡ found.text → ((tree : Forest) × DerivationTree g tree × (written tree ≡ one)) →
    ((tree : Forest) × DerivationTree g tree × (written tree ≡ other)) → one ≢ other → HasText found.is_whole found.text (leaves one) →
    IfOk result (λ is. is ≡ true → HasText found.is_whole text (leaves other)) → IfOk result (λ is. is ≡ true → AreReadings g found)
found_true (Ok is) g found one other text one_is other_is text_is first second differ has has' = λ t.
    readings_are g found
    (subst (λ z. (tree : Forest) × DerivationTree g tree × (written tree ≡ z)) one_is first)
    (subst (λ z. (tree : Forest) × DerivationTree g tree × (written tree ≡ z)) other_is second)
    (λ same. differ (one_is ∙ (same ∙ sym other_is)))
    (subst (λ z. HasText found.is_whole found.text (leaves z)) one_is has)
    (subst (λ z. HasText found.is_whole found.text (leaves z)) other_is (subst (λ z. HasText found.is_whole z (leaves other)) text_is (has' t)))
found_true (Err e) g found one other text one_is other_is text_is first second differ has has' = tt
