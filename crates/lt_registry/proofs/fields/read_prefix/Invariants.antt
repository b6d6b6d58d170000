use Rattle.std.proofs.Common.{◌≡◌, length}
use Rattle.lt_tag.specs.Lists.{pieces}
use Rattle.lt_registry.specs.Records.{subtags_of}
use Rattle.lt_registry.proofs.RecordTexts.{after}
use Rattle.lt_registry.proofs.fields.read_prefix.Given as goal

-- the subtags of the whole text are those so far, and then those of the rest, if that has some
abbrev pub invariant-pieces : goal.invariant-pieces
invariant-pieces l = subtags_of (pieces l.fn.text) ≡ after l.subtags.items (subtags_of (pieces l.rest))

-- the loop ends, since a turn leaves less of the text
abbrev pub decreases-pieces : goal.decreases-pieces
decreases-pieces l = length l.rest
