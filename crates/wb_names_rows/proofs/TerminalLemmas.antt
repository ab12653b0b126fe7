-- Rows of terminals, one after the other.
use Rattle.std.proofs.Common.{◌≡◌, ◌<◌, ◌+◌, ◌++◌, ◌∷◌, [], ℕ, Bool, not, List, Option, Some, None, length, take, get_or, ap, sym, refl}
use Rattle.std.proofs.Common.{subst, ◌∙◌}
use Rattle.std.specs.Prelude.{filter_map, option_to_list}
use Rattle.std.proofs.lemmas.List.{take_more}
use Rattle.std.proofs.lemmas.List.Elements.{filter_map-append}
use Rattle.wb_syntax_resolved.specs.declared.terminal.Terminal.{Terminal}
use Rattle.wb_syntax.specs.declared.item.Item.{Item}
use Rattle.wb_syntax.specs.declared.pattern.Pattern.{Pattern}
use Rattle.wb_names_theory.specs.Declarations.{LexicalDeclaration, lexical_of, lexicals}
use Rattle.wb_names_rows.specs.declared.terminals.Terminals.{Terminals}
use Rattle.wb_names_rows.specs.Terminals.{AddsTerminals}
use Rattle.wb_names_rows.proofs.AddsLemmas.{adds_nothing}
use Rattle.wb_names_rows.proofs.BlockLemmas.{adds_append}

module _ {X : Type 0} (test : X → Bool) (R : X → Terminal → Type 0) where
  -- nothing is added for nothing
  pub terminals_nothing : (old : Terminals) → AddsTerminals test R [] old old
  terminals_nothing old = record {
    scanned = adds_nothing test R old.scanned.items;
    layout = adds_nothing (λ (x : X). not (test x)) R old.layout.items;
  }

  pub terminals_append : (xs us : List X) (old mid new : Terminals) → AddsTerminals test R xs old mid → AddsTerminals test R us mid new
      → AddsTerminals test R (xs ++ us) old new
  terminals_append xs us old mid new a b = record {
    scanned = adds_append test R xs us old.scanned.items mid.scanned.items new.scanned.items a.scanned b.scanned;
    layout = adds_append (λ (x : X). not (test x)) R xs us old.layout.items mid.layout.items new.layout.items a.layout b.layout;
  }

  -- the next element of a slice
  pub terminals_more : (xs : List X) (i : ℕ) (x : X) (old mid new : Terminals) → AddsTerminals test R (take i xs) old mid
      → i < length xs → x ≡ get_or xs i x → AddsTerminals test R (x ∷ []) mid new → AddsTerminals test R (take (i + 1) xs) old new
  terminals_more xs i x old mid new so_far within is adds =
      subst (λ z. AddsTerminals test R z old new) (sym (take_more xs i x within ∙ ap (λ z. take i xs ++ z ∷ []) (sym is)))
      (terminals_append (take i xs) (x ∷ []) old mid new so_far adds)

-- the terminals of one more item
kept : (o : Option LexicalDeclaration) → filter_map (λ (x : Option LexicalDeclaration). x) (o ∷ []) ≡ option_to_list o
kept None = refl
kept (Some x) = refl

pub lexicals_more : (items : List (Item Pattern)) (i : ℕ) (item : Item Pattern) → i < length items → item ≡ get_or items i item
    → lexicals (take (i + 1) items) ≡ lexicals (take i items) ++ option_to_list (lexical_of item.form)
lexicals_more items i item within is =
    ap lexicals (take_more items i item within ∙ ap (λ z. take i items ++ z ∷ []) (sym is))
    ∙ (filter_map-append (λ (x : Item Pattern). lexical_of x.form) (take i items) (item ∷ [])
    ∙ ap (λ z. lexicals (take i items) ++ z) (kept (lexical_of item.form)))
