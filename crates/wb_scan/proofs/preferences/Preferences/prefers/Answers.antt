use Rattle.std.proofs.Common.{List, ℕ, ap, length, subst, sym, ◌∙◌, ◌≡◌}
use Rattle.std.specs.Prelude.{◌↔◌, Contains, true}
use Rattle.std.proofs.lemmas.Bool.{true≢false}
use Rattle.wb_scan.proofs.PreferenceLemmas.{indexed_has}
use Rattle.wb_scan.proofs.preferences.Preferences.prefers.Goals as goal

pub returns : goal.returns
returns c =
    subst (λ (pairs : List (ℕ × ℕ)). (c.contains.result ≡ true) ↔ Contains pairs (c.args.winner, c.args.loser)) c.self.view_is
    (indexed_has c.self.inside.pairs.items c.self.inside.index.keys (c.args.winner, c.args.loser) c.contains.result c.self.invariant
    (λ none. true≢false (sym (c.is_empty.ensures.1 (ap length none)) ∙ c.if-is_empty.false)) c.contains.ensures)
