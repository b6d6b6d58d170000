use Rattle.std.proofs.Common.{take, ap, ◌∙◌, arith}
use Rattle.std.specs.List.{prefix_len}
use Rattle.std.specs.Char.{is_ascii_alphanumeric}
use Rattle.lt_subtag.specs.Bytes.{folded}
use Rattle.lt_subtag.proofs.RunLemmas.{padded_passes, padded_fails, folded_padded}
use Rattle.lt_subtag.proofs.lanes.fold.Goals as goal

-- the letters and digits at the front are fewer than the bytes, so one byte is neither
pub returns-then-run_of_8-bytes-clause-bad : goal.returns-then-run_of_8-bytes-clause-bad
returns-then-run_of_8-bytes-clause-bad c =
    let s = c.args.bytes.now in
    padded_fails s _ (omega arith) (c.run_of_8.ensures
    ∙ ap (λ v. prefix_len is_ascii_alphanumeric (take 8 v)) c.pad-padded.ensures) (omega arith)

-- the letters and digits at the front are at least as many as the bytes, so each byte is one
pub returns-clause-good : goal.returns-clause-good
returns-clause-good c =
    let s = c.args.bytes.now in
    padded_passes s _ (omega arith) (c.run_of_8.ensures
    ∙ ap (λ v. prefix_len is_ascii_alphanumeric (take 8 v)) c.pad-padded.ensures) (omega arith)

-- the array given is the bytes in lower case, padded: zeros stay as they are, so it is the same to pad before or after
pub returns-clause-folded : goal.returns-clause-folded
returns-clause-folded c =
    let s = c.args.bytes.now in
    c.fold_8.ensures ∙ ap (λ v. folded (take 8 v)) c.pad-padded.ensures ∙ folded_padded s (omega arith)
