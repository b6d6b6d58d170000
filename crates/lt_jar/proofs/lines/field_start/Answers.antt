use Rattle.std.proofs.Common.{◌≡◌, ◌∙◌, sym, arith}
use Rattle.std.specs.Prelude.{slice_index}
use Rattle.std.proofs.lemmas.Str.{IsCharBoundary-after_ascii}
use Rattle.lt_jar.proofs.lines.field_start.Goals as goal

-- the slice of the rest behind its first byte cuts no character, since that is a colon, an ASCII byte (58)
pub range_from-requires : goal.range_from-requires
range_from-requires c =
    let first = rw c.as_bytes.ensures.value at c.in-Some-eq58.ensures.item.3 in
    let colon : slice_index c.trim_start-rest.result.now 0 ≡ 58 = sym (first.1 0) ∙ c.in-Some-eq58.field-0-test in
    λ _. IsCharBoundary-after_ascii c.trim_start-rest.result.now 0 c.trim_start-rest.utf8 first.0 (omega arith)
