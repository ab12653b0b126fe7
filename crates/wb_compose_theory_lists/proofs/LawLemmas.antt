-- A host is its rows, and a host with an extension is these with what the extension adds.
use Rattle.std.proofs.Common.{◌≡◌, ℕ, List, refl, subst}
use Rattle.std.specs.Prelude.{IfSome}
use Rattle.wb_base.specs.Grammar.{GrammarView}
use Rattle.wb_names_theory.specs.Declarations.{Items}
use Rattle.wb_syntax_resolved.specs.declared.resolved.ResolvedParts.{ResolvedParts}
use Rattle.wb_syntax_resolved.specs.Grammar.{IsGrammarOf}
use Rattle.wb_compose_theory_lists.specs.Extended.{IsExtendedBy, IsHostAlone, IsHostWith}
use Rattle.wb_compose_theory_lists.specs.Hosts.{IsOfRows}
use Rattle.wb_compose_theory_lists.proofs.AddedLemmas.{host_once, host_roles, is_addition}
use Rattle.wb_compose_theory_lists.proofs.AdditionRows.{addition}
use Rattle.wb_compose_theory_lists.proofs.ExtendedLemmas.{attributes_with}
use Rattle.wb_compose_theory_lists.proofs.HostLemmas.{host_alone_is}

pub is_host_with : (host r : ResolvedParts) (name : List ℕ) (items : Items) (g : GrammarView) → IsExtendedBy host r name items g
    → IsHostWith host r name g
is_host_with host r name items g ex = record {
  addition = addition host r name items g ex;
  name_is = refl;
  is_addition = is_addition host r name items g ex;
  are = attributes_with host r name items g ex;
}

pub is_of_rows : (host : ResolvedParts) (g : GrammarView) → IsHostAlone host g → IsOfRows host g
is_of_rows host g is =
    let grammar = subst (λ o. IfSome o (IsGrammarOf host)) is.grammar is.resolved.numbered.grammar in
    record {
      are = host_alone_is host g is.resolved is.alone;
      roles = host_roles host g is.resolved grammar;
      once = host_once host g is.resolved grammar;
    }
