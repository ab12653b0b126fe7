use Rattle.std.proofs.Common.{◌≡◌, ◌≢◌, ℕ, zero, suc, sym, refl}
use Rattle.std.proofs.lemmas.Option.{slice_get_within}
use Rattle.wb_eval_memo.specs.Memos.{IsBelow, IsWhole}
use Rattle.wb_eval_memo.specs.Sites.{link}
use Rattle.wb_eval_memo.specs.declared.memo.Memo.{Memo}
use Rattle.wb_eval_memo.specs.declared.sites.Step.{Step}
use Rattle.wb_eval_memo.proofs.MemoLemmas.{below_found}
use Rattle.wb_eval_memo.proofs.memo.Memo.find.Goals as goal

found : (m : Memo) (parent : ℕ) (step : Step) (tree : _) (site : ℕ) → IsWhole m → site ≡ link m.sites parent step → site ≢ 0
    → IsBelow m m parent step tree site
found m parent step tree zero whole is some = absurd (some refl)
found m parent step tree (suc k) whole is some =
    below_found m parent step tree whole k (sym is)
    (slice_get_within m.sites.origins.items k _ (whole.sites.to parent step k (sym is)))

pub returns-clause-site : goal.returns-clause-site
returns-clause-site c some tree = found c.args.self.now c.args.parent c.args.step tree c.find.result c.requires c.find.ensures some
