use Rattle.std.proofs.Common.{◌≡◌, ◌≤◌, ◌+◌, ◌*◌, length, take}
use Rattle.std.specs.Prelude.{sum_by}
use Rattle.lt_tag.proofs.grandfathered.text_length.Given as goal

-- `bytes` counts those of the subtags so far and a hyphen after each, at most 9 each, so that the sum can't overflow
abbrev pub invariant-loop-subtag : goal.invariant-loop-subtag
invariant-loop-subtag l =
    (l.bytes ≡ sum_by length (take l.subtag-index l.list) + l.subtag-index) × (l.bytes ≤ 9 * l.subtag-index)
