use Rattle.std.proofs.Common.{◌==◌, ◌∙◌, ap, refl, sym}
use Rattle.bpf_step_model.specs.Iteration.{iteration}
use Rattle.loop_core_block.proofs.OneMoreLaws.{still_under_way, one_more}
use Rattle.loop_core_block.proofs.runner.Runner.iterate.Goals as goal

pub end-requires-clause-under_way : goal.end-requires-clause-under_way
end-requires-clause-under_way c =
    let ran = c.run-done.ensures.ran in
    still_under_way c.begin.new.self c.run-done.new.store ran.iterated.accesses ran.effects
    ∙ c.in_ok-begin.ensures.ok.under_way

pub returns : goal.returns
returns c = record {
  ran = one_more c.law_of_accesses.ensures c.args.self.now _ c.args.index c.args.self.now.most c.begin.new.self
      c.run-done.new.store c.run-done.ensures.ran.iterated
      c.in_ok-begin.ensures.ok c.in_ok-begin.ensures.records
      (ap (iteration c.args.self.now.callback.program 4096 c.args.self.now.callback.call c.args.index)
      (sym c.in_ok-begin.ensures.ok.words) ∙ c.run-done.ensures.ran.told)
      c.run-done.ensures.ran.effects c.run-done.ensures.same refl
      c.end.ensures.ended c.end.ensures.shape c.end.ensures.planes c.end.ensures.records
      _ (ap (λ r. r == 1) c.run-done.ensures.ran.ret_is);
}
