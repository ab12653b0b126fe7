use Rattle.std.proofs.Common.{◌∙◌, ap, map}
use Rattle.wb_determinism_host.specs.declared.lexicon.LayoutOwner.TheVariants.{Any, Nobody}
use Rattle.wb_determinism_host.specs.Lexicons.{is_layout_of}
use Rattle.wb_syntax_resolved.specs.declared.terminal.Preference.{Preference}
use Rattle.wb_syntax_resolved.specs.declared.terminal.Terminal.{Terminal}
use Rattle.wb_determinism_beside.proofs.ClearLemmas.{lexicon_is}
use Rattle.wb_determinism_beside.proofs.clear.is_clear.Goals as goal

pub is_clear_for-requires-clause-lexicon : goal.is_clear_for-requires-clause-lexicon
is_clear_for-requires-clause-lexicon c =
    lexicon_is c.args.parts.now c.args.scanned c.deref.result.now c.in_ok-layout.layout c.in_ok-own_layout.own_layout c.deref-2.result.now
    (c.deref.ensures.value ∙ c.in_ok-expressions.ensures ∙ ap (map (λ (t : Terminal). t.pattern)) c.as_slice-3.ensures)
    (c.in_ok-layout.ensures ∙ ap (map (is_layout_of Any)) c.as_slice.ensures)
    (c.in_ok-own_layout.ensures ∙ ap (map (is_layout_of Nobody)) c.as_slice-2.ensures)
    (c.deref-2.ensures.value ∙ c.in_ok-pairs.ensures ∙ ap (map (λ (p : Preference). (p.first, p.second))) c.as_slice-4.ensures)
