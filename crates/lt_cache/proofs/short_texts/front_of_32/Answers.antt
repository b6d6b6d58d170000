use Rattle.std.proofs.Common.{◌-◌, ◌++◌, replicate, ap₂, ◌∙◌, arith}
use Rattle.std.proofs.lemmas.Simd.{length-chunk}
use Rattle.std.proofs.lemmas.List.{take-take, length-take-le}
use lib.Lanes.{chunk}
use Rattle.lt_cache.proofs.LaneLemmas.{front_lanes}
use Rattle.lt_cache.proofs.short_texts.front_of_32.Goals as goal

-- What is given are the first `count` bytes and zeros: a lane, one of the 32 bytes, has the byte of the text below
-- `count`, and zero from there on.
pub returns : goal.returns
returns c =
    let t = c.args.text.now in
    let n = c.args.count in
    let long = length-take-le n t (omega arith) in
    front_lanes 32 n (32 - n) 0 n (chunk 0 32 t) (length-chunk 0 32 t c.requires.room) (omega arith) (omega arith)
    ∙ ap₂ (λ xs k. xs ++ replicate k 0) (take-take n 32 t c.requires.few) (omega arith)
