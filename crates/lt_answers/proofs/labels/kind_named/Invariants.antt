use Rattle.std.proofs.Common.{◌≢◌, ℕ, ◌<◌, get_or}
use Rattle.lt_rewrite.specs.Names.{name_of}
use Rattle.lt_rewrite.specs.declared.steps.StepKind.TheVariants as kinds
use Rattle.lt_answers.proofs.labels.kind_named.Given as goal

-- no kind of step so far has this name
abbrev pub invariant-loop-kind : goal.invariant-loop-kind
invariant-loop-kind l = (k : ℕ) → k < l.kind-index → name_of (get_or l.kind-items k kinds.Extlang) ≢ l.name
