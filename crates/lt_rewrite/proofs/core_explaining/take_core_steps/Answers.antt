use Rattle.lt_rewrite.specs.Applying.{CoreLeads}
use Rattle.lt_rewrite.specs.Runs.{kind_rank}
use Rattle.lt_rewrite.proofs.CoreLeading.{applied}
use Rattle.lt_rewrite.proofs.CoreLaws.{weight_falls}
use Rattle.lt_rewrite.proofs.FirstSteps.{adds_more}
use Rattle.lt_rewrite.proofs.core_explaining.take_core_steps.Goals as goal

-- a step makes the weight of the core lower, since the chains of values in the registry end
pub loop-step-smaller : goal.loop-step-smaller
loop-step-smaller g c =
    let R = g.L.Lookup.listed c.args.table.now in
    let step = applied R c.args.start c.loop-step.core c.apply_to_core.new.core c.in-Some.step c.apply_to_core.result
    c.in-Some.ensures c.apply_to_core.ensures in
    weight_falls R c.requires.chains c.loop-step.core c.apply_to_core.new.core step.leads.0

-- the invariant stays true: a turn takes one step more, the first that leads on from where the others led
pub loop-step-preserved : goal.loop-step-preserved
loop-step-preserved g c =
    let R = g.L.Lookup.listed c.args.table.now in
    let step = applied R c.args.start c.loop-step.core c.apply_to_core.new.core c.in-Some.step c.apply_to_core.result
    c.in-Some.ensures c.apply_to_core.ensures in
    adds_more (CoreLeads R c.args.start) (λ _ step. kind_rank step) c.args.core.now c.loop-step.core
    c.apply_to_core.new.core c.args.steps.now.items c.loop-step.steps.items c.push.new.self.items c.in-Some.step
    c.loop-step.invariant step c.in_ok-push.ensures.items
