-- Where numbers go with an extension is the same in both words for it, and so is what markers stand for.
use Rattle.std.proofs.Common.{◌≡◌, ◌<◌, ◌≤◌, ◌+◌, ◌-◌, ◌∷◌, [], ℕ, zero, suc, Bool, true, false, cond, eqb, ltb, List, Option, Some}
use Rattle.std.proofs.Common.{None, Contains, length, slice_get, ap, refl, sym, ◌∙◌, arith}
use Rattle.std.specs.Prelude.{IsTrue, option_and_then, unwrap_or}
use Rattle.std.proofs.lemmas.Bool.{eqb-false, lt-ltb, ltb-true}
use Rattle.std.proofs.lemmas.List.{length-append}
use Rattle.std.proofs.lemmas.Option.{same_Some}
use Rattle.wb_lemmas.proofs.Members.{place_of}
use Rattle.wb_lemmas.proofs.Places.{nothing_at}
use Rattle.wb_base.specs.declared.symbol.Symbol.{Symbol}
use Rattle.wb_base.specs.declared.symbol.Symbol.TheVariants.{Terminal, Nonterminal}
use Rattle.wb_base.specs.Grammar.{GrammarView, Production}
use Rattle.wb_determinism.specs.Extensions.{both_numbers}
use Rattle.wb_determinism.specs.Images as image
use Rattle.wb_determinism.specs.Images.{bridged, hole_among, hole_for, stands_for}
use Rattle.wb_determinism.specs.Numbers.{production_up, terminal_up}
use Rattle.wb_marking_holes.specs.Holes.{hole_productions, with_holes_of}
use Rattle.wb_syntax_resolved.specs.declared.resolved.ResolvedParts.{ResolvedParts}
use Rattle.wb_compose_theory.specs.Blocks.{lift}
use Rattle.wb_compose_theory_grammar.specs.Bridges.{begins, bridge_in_list, mark_by}
use Rattle.wb_compose_theory_grammar.specs.Numberings.{image_of, phi_of, up_of}
use Rattle.wb_compose_theory_grammar.specs.UnitedWorlds.{index_of}
use Rattle.wb_determinism_beside.specs.Pieces.{is_marker_in, piece_in}
use Rattle.wb_determinism_beside.specs.KeptNumbers.{HasTestedNumbers, KeepsNumbers, KeepsPlaces}

-- each nonterminal has one hole
length-hole_productions : (next : ℕ) (xs : List ℕ) → length (hole_productions next xs) ≡ length xs
length-hole_productions next [] = refl
length-hole_productions next (x ∷ xs) = ap suc (length-hole_productions (suc next) xs)

-- what begins begins in both words
begins_same : (t : ℕ) (right : List Symbol) → image.begins t right ≡ begins t right
begins_same t [] = refl
begins_same t (Terminal u ∷ rest) = refl
begins_same t (Nonterminal a ∷ rest) = refl

-- the left side of a bridge
abbrev pub left_of : Option (ℕ × ℕ) → Option ℕ
left_of None = None
left_of (Some (p, a)) = Some a

pub bridged_same : (t p : ℕ) (rules : List Production) → bridged t rules ≡ left_of (bridge_in_list p t rules)
bridged_same t p [] = refl
bridged_same t p (rule ∷ rules) =
    ap (λ b. cond b (Some rule.0) (bridged t rules)) (begins_same t rule.1) ∙ by (begins t rule.1) (bridged_same t (suc p) rules) where
      by : (b : Bool) → bridged t rules ≡ left_of (bridge_in_list (suc p) t rules)
          → cond b (Some rule.0) (bridged t rules) ≡ left_of (cond b (Some (p, rule.0)) (bridge_in_list (suc p) t rules))
      by true rest = refl
      by false rest = rest

-- the hole of a nonterminal that is listed
hole_is : (first a : ℕ) (xs : List ℕ) (j : ℕ) → slice_get xs j ≡ Some a → hole_among first a xs ≡ Some (first + index_of xs a)
hole_is first a [] j at = absurd (nothing_at a j at)
hole_is first a (x ∷ xs) j at = by (eqb x a) refl j at (λ i there. hole_is (suc first) a xs i there) where
  by : (b : Bool) → eqb x a ≡ b → (j : ℕ) → slice_get (x ∷ xs) j ≡ Some a
      → ((i : ℕ) → slice_get xs i ≡ Some a → hole_among (suc first) a xs ≡ Some (suc first + index_of xs a))
      → cond b (Some first) (hole_among (suc first) a xs) ≡ Some (first + cond b 0 (suc (index_of xs a)))
  by true same j at rest = ap Some (let e : first ≡ first + 0 = omega arith in e)
  by false differ zero at rest = absurd (eqb-false x a differ (same_Some x a at))
  by false differ (suc j) at rest =
      rest j at ∙ ap Some (let e : suc first + index_of xs a ≡ first + suc (index_of xs a) = omega arith in e)

-- what is below stays, and what isn't moves up
lift_below : (own size t : ℕ) → t < own → lift own size t ≡ t
lift_below own size t below = ap (λ b. cond b t (t + size)) (lt-ltb t own below)

lift_past : (own size t : ℕ) → own ≤ t → lift own size t ≡ t + size
lift_past own size t past = by (ltb t own) refl where
  by : (b : Bool) → ltb t own ≡ b → cond b t (t + size) ≡ t + size
  by true e = let less = ltb-true t own e in omega (arith, less, past)
  by false e = refl

module _ (host r : ResolvedParts) (h g : GrammarView) (same : r.extensible ≡ host.extensible) where
  abbrev pub host_holes : GrammarView
  host_holes = with_holes_of h host.extensible

  as_many : length r.extensible ≡ length host.extensible
  as_many = ap (λ (xs : List ℕ). length xs) same

  -- terminals
  pub terminals_agree : (t : ℕ) → terminal_up (both_numbers r g host_holes) t ≡ (up_of h g).terminal t
  terminals_agree t =
      let counted = as_many in
      let own : (h.terminals + length host.extensible) - length r.extensible ≡ h.terminals = omega (arith, counted) in
      let more : (g.terminals + length r.extensible) - (h.terminals + length host.extensible) ≡ g.terminals - h.terminals =
      omega (arith, counted) in
      ap (λ z. lift z ((g.terminals + length r.extensible) - (h.terminals + length host.extensible)) t) own
      ∙ ap (λ z. lift h.terminals z t) more

  -- productions without holes
  pub productions_own : length host_holes.productions - length r.extensible ≡ length h.productions
  productions_own =
      let counted = as_many in
      let host_rules = length-append h.productions (hole_productions h.terminals host.extensible) in
      let host_more = length-hole_productions h.terminals host.extensible in
      omega (arith, counted, host_rules, host_more)

  -- productions
  pub productions_agree : (p : ℕ) → production_up (both_numbers r g host_holes) p ≡ (up_of h g).production p
  productions_agree p =
      let counted = as_many in
      let host_rules = length-append h.productions (hole_productions h.terminals host.extensible) in
      let both_rules = length-append g.productions (hole_productions g.terminals r.extensible) in
      let host_more = length-hole_productions h.terminals host.extensible in
      let both_more = length-hole_productions g.terminals r.extensible in
      let own = productions_own in
      let more : length (with_holes_of g r.extensible).productions - length host_holes.productions
      ≡ length g.productions - length h.productions = omega (arith, counted, host_rules, host_more, both_rules, both_more) in
      ap (λ z. lift z (length (with_holes_of g r.extensible).productions - length host_holes.productions) p) own
      ∙ ap (λ z. lift (length h.productions) z p) more

  -- so the host's numbers stay, and those of holes and of what comes last go where they are with the extension
  pub tested_numbers : KeepsNumbers host r h g → HasTestedNumbers host r h g
  tested_numbers kept = record {
    terminals = places terminals_agree kept.terminals.no_fewer;
    productions = places productions_agree kept.productions.no_fewer;
  }
    where
      places : {up : ℕ → ℕ} {own both : ℕ} → ((n : ℕ) → up n ≡ lift own (both - own) n) → own ≤ both → KeepsPlaces up own both
      places {up} {own} {both} agree fewer = record {
        stays = λ n below. agree n ∙ lift_below own (both - own) n below;
        moves = λ j. (let past : (own + j) + (both - own) ≡ both + j = omega (arith, fewer) in
            agree (own + j) ∙ (lift_past own (both - own) (own + j) (omega arith) ∙ past));
      }

  -- what a terminal stands for
  pub images_agree : ((t : ℕ) → IsTrue (is_marker_in r t) → (p a : ℕ) × (bridge_in_list 0 t g.productions ≡ Some (p, a))
      × Contains host.extensible a) → (t : ℕ) → stands_for r g t ≡ phi_of host.extensible (piece_in r g) t
  images_agree bridge t = by (is_marker_in r t) refl where
    by : (b : Bool) → is_marker_in r t ≡ b → stands_for r g t ≡ phi_of host.extensible (piece_in r g) t
    by false e =
        ap (λ b. cond b (hole_for g r.extensible t) t) e
        ∙ sym (ap (λ b. image_of host.extensible (piece_in r g) (mark_by b (bridge_in_list 0 t g.productions)) t) e)
    by true e =
        let (p, a, is, has) = bridge t e in
        let (j, at) = place_of host.extensible a has in
        let left : bridged t g.productions ≡ Some a = bridged_same t 0 g.productions ∙ ap left_of is in
        ap (λ b. cond b (hole_for g r.extensible t) t) e
        ∙ (ap (λ xs. hole_for g xs t) same
        ∙ (ap (λ o. unwrap_or (option_and_then (λ b. hole_among g.terminals b host.extensible) o) t) left
        ∙ (ap (λ o. unwrap_or o t) (hole_is g.terminals a host.extensible j at)
        ∙ sym (ap (λ b. image_of host.extensible (piece_in r g) (mark_by b (bridge_in_list 0 t g.productions)) t) e
        ∙ ap (λ o. image_of host.extensible (piece_in r g) (mark_by true o) t) is))))
