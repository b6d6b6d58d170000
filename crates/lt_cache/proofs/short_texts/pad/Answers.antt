use Rattle.std.proofs.Common.{◌++◌, length, ap₂}
use Rattle.std.proofs.lemmas.List.{drop-replicate}
use Rattle.lt_cache.proofs.short_texts.pad.Goals as goal

-- What is given is the text and zeros up to 32: its bytes are written over the first of 32 zeros, and the others stay.
pub returns : goal.returns
returns c = ap₂ (λ xs ys. xs ++ ys) c.copy_from_slice.ensures.after (drop-replicate (length c.args.bytes.now) 32 0)
