use Rattle.std.proofs.Common.{◌≡◌, ◌++◌, drop, map}
use Rattle.bcp47_c.specs.Serving.{texts_of}
use Rattle.bcp47_c.proofs.serving.cut_by_lengths.Given as goal

-- the texts so far, and then those of the lengths and the text that are left, are all that are asked for
abbrev pub invariant-loop-length : goal.invariant-loop-length
invariant-loop-length l =
    map (λ piece. piece.now) l.texts.items ++ texts_of (drop l.length-index l.lengths) l.rest ≡ texts_of l.lengths l.text
