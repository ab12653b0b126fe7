use Rattle.std.proofs.Common.{◌≡◌, refl, sym, subst}
use Rattle.std.proofs.lemmas.Result.{on_ok_weaker}
use Rattle.wb_lexical.specs.Inner.Candidates.{IsCandidate, Lists}
use Rattle.wb_lexical.proofs.CandidateLemmas.{lists_one}
use Rattle.wb_lexical.proofs.candidates.add_pair.Goals as goal

pub returns : goal.returns
returns c =
    let x = c.args.compared.now in
    let old = c.args.pairs.now.items in
    on_ok_weaker c.push.result
    (λ is. subst (Lists (λ t u. (t ≡ c.args.left) × (u ≡ c.args.right) × IsCandidate x t u) old) (sym is)
    (lists_one x c.args.left c.args.right old (record {
      less = c.requires.less;
      within = c.requires.right;
      together = c.requires.together;
      unordered = (c.if-not-is_candidate.ensures.0 refl).0;
      alike = (c.if-not-is_candidate.ensures.0 refl).1;
    }))) c.push.ensures.ok
