-- What a grammar derives doesn't depend on what it makes of a text.
use Rattle.std.proofs.Common.{◌≡◌, List, [], ◌∷◌, ◌++◌, refl}
use Rattle.wb_text_predictive.specs.declared.symbol.Symbol.{Symbol}
use Rattle.wb_text_predictive.specs.declared.table.Placed.{Placed}
use Rattle.wb_text_predictive.specs.Grammar.{Grammar, Derives, done, token, expand, act, CanStart}
use Rattle.wb_text_expected.specs.Inner.Bare.{bare}

module _ {K N A X V : Type 0} (g : Grammar K N A X V) where
  -- without the values
  erased : {f : List (Symbol K N A)} {w : List (Placed X)} {a b : V} → Derives g f w a b → Derives (bare g) f w tt tt
  erased (done e i) = done e refl
  erased (token e d i) = token e (erased d) i
  erased (expand p e d) = expand p e (erased d)
  erased (act d) = act (erased d)

  -- with the values that are made of any first ones
  valued : {f : List (Symbol K N A)} {w : List (Placed X)} {u v : Unit {0}} → Derives (bare g) f w u v → (a : V) → (b : V) × Derives g f w a b
  valued (done e i) a = (a, done e refl)
  valued (token {x = x} e d i) a = let r = valued d (g.shift x.token x.at x.end a) in (r.0, token e r.1 i)
  valued (expand p e d) a = let r = valued d a in (r.0, expand p e r.1)
  valued (act {c = c} d) a = let r = valued d (g.act c a) in (r.0, act r.1)

  -- so a text begins with the same tokens
  pub start_valued : (front : List (Placed X)) → CanStart (bare g) tt front → (first : V) → CanStart g first front
  start_valued front c first = let r = valued c.text first in record { rest = c.rest; last = r.0; text = r.1 }

  pub start_erased : (front : List (Placed X)) (first : V) → CanStart g first front → CanStart (bare g) tt front
  start_erased front first c = record { rest = c.rest; last = tt; text = erased c.text }
