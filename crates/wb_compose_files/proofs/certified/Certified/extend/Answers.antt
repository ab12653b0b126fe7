-- One more extension is apart from those before it.
use Rattle.std.proofs.Common.{rules, ◌≡◌, ◌++◌, List, [], ◌∷◌, subst, sym}
use Rattle.wb_certify_files.specs.Kept.{ExtensionView}
use Rattle.wb_compose_files.specs.Certified.{AreApart}
use Rattle.wb_compose_files.specs.Inner.Next.{IsApartFrom}
use Rattle.wb_compose_files.proofs.NextLemmas.{apart_more}
use Rattle.wb_compose_files.proofs.certified.Certified.extend.Goals as goal

pub invariant_of-self : goal.invariant_of-self
invariant_of-self g c =
    let host = c.self.inside.host in
    let es = c.self.inside.extensions.items in
    let e = c.in-Ok.extension in
    let apart : IsApartFrom host es e =
    subst (λ (list : List ExtensionView). IsApartFrom host list e) c.deref.ensures.value c.in-Ok.ensures.apart in
    let pushed : c.push_reserved.new.self.items ≡ es ++ e ∷ [] = search rules in
    subst (λ (list : List ExtensionView). AreApart (record { host = host; extensions = list })) (sym pushed)
    (apart_more host es e c.self.invariant apart)
