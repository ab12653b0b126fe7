use Rattle.std.proofs.Common.{◌≡◌, ℕ, List, length, sym, subst, arith}
use Rattle.wb_terms.specs.Printed.{name_of}
use Rattle.wb_terms.specs.Inner.ShortNames.{AreShort, IsShort}
use Rattle.wb_terms.proofs.NameLemmas.{short_more}
use Rattle.wb_terms.proofs.name.add_short.Goals as goal

pub names-preserved : goal.names-preserved
names-preserved c =
    let ss = c.args.signatures.now in
    let s = c.short_name-name.result in
    let at : c.len-in-names-2.result ≡ length c.names.short.items = omega (arith, c.len-in-names-2.ensures, c.names.short.ok.0) in
    let named : IsShort (name_of ss c.len-in-names-2.result) s =
    subst (λ (l : List ℕ). IsShort l s) c.printed_name.ensures c.short_name-name.ensures in
    subst (AreShort ss) (sym c.in_ok-push.ensures.ok)
    (short_more ss c.names.short.items s c.names.invariant (subst (λ (n : ℕ). IsShort (name_of ss n) s) at named))
