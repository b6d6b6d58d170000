-- The laws of traces, which are lists of steps from a tag to another, over the entries of a registry.
use Rattle.std.specs.Prelude.{◌≡◌, List}
use Rattle.lt_tag.specs.Parts.{TagForm}
use Rattle.lt_registry.specs.Parts.{EntryParts}
use Rattle.lt_rewrite.specs.TagSteps.{IsReached, AreEquivalent}
use Rattle.lt_rewrite.specs.Labels.{IsTrace}
use Rattle.lt_rewrite.specs.declared.steps.Step.{Step}

-- the end of a trace is reached from its tag, and so is equivalent to it
abbrev pub TracesReachTheirEnd : List EntryParts → Type 0
TracesReachTheirEnd R =
    (t end : TagForm) (steps : List Step) → IsTrace R t steps end → IsReached R t end × AreEquivalent R t end

-- a list of steps leads from a tag to one end at most
abbrev pub TracesHaveOneEnd : List EntryParts → Type 0
TracesHaveOneEnd R = (t a b : TagForm) (steps : List Step) → IsTrace R t steps a → IsTrace R t steps b → a ≡ b
