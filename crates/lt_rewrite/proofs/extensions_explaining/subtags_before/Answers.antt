use Rattle.std.proofs.Common.{◌+◌, take, arith}
use Rattle.lt_tag.specs.Spelling.{spell_extension}
use Rattle.lt_rewrite.proofs.FirstSteps.{flat_more}
use Rattle.lt_rewrite.proofs.ExtensionRuns.{few_before}
use Rattle.lt_rewrite.proofs.extensions_explaining.subtags_before.Goals as goal

-- the extensions that are counted have no more subtags than all extensions, so the sum stays in range
pub overflow_add-count : goal.overflow_add-count
overflow_add-count c =
    let es = take c.args.index c.args.extensions.now in
    let more = flat_more spell_extension es c.loop-extension.extension-index c.extension-item.result
    c.loop-extension-test.true c.extension-item.is in
    omega (
      arith,
      more,
      few_before (c.loop-extension.extension-index + 1) es,
      few_before c.args.index c.args.extensions.now,
      c.loop-extension.invariant,
      c.subtag_count-count.ensures,
      c.requires.few,
    )

-- the invariant stays true: a turn counts the subtags of one extension more
pub loop-extension-preserved : goal.loop-extension-preserved
loop-extension-preserved c =
    let more = flat_more spell_extension (take c.args.index c.args.extensions.now) c.loop-extension.extension-index
    c.extension-item.result c.loop-extension-test.true c.extension-item.is in
    omega (arith, more, c.loop-extension.invariant, c.subtag_count-count.ensures)
