use Rattle.std.proofs.Common.{◌≡◌, ◌++◌, take}
use Rattle.lt_answers.specs.Parts.{after_hyphens}
use Rattle.lt_answers.proofs.sources.add_subtags.Given as goal

-- the subtags so far were added, each after a hyphen
abbrev pub invariant-loop-subtag : goal.invariant-loop-subtag
invariant-loop-subtag l = l.text.items ≡ l.initial.text.items ++ after_hyphens (take l.subtag-index l.subtags)
