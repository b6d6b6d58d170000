use Rattle.std.proofs.Common.{List, [], ap, take, ◌∙◌}
use Rattle.std.proofs.lemmas.List.{flat_map_more}
use Rattle.lt_tag.specs.Parts.{ExtensionParts}
use Rattle.lt_tag.specs.Spelling.{spell_extension, spell_extensions}
use Rattle.lt_tag.proofs.PrintingLemmas.{prints_append, prints_as, kept_trans, take_turn}
use Rattle.lt_tag.proofs.writing.Style.put_extensions.Goals as goal

-- a turn prints the subtags of one extension more, and the sink keeps what it held
pub loop-extension-preserved : goal.loop-extension-preserved
loop-extension-preserved g c = record {
  put = prints_as
      (flat_map_more spell_extension [] (take c.loop-extension.extension-index c.args.extensions.now) c.extension-item.result
      ∙ ap (λ (es : List ExtensionParts). spell_extensions es)
      (take_turn c.args.extensions.now c.loop-extension.extension-index _ c.loop-extension-test.true c.extension-item.is))
      (prints_append c.loop-extension.invariant.put c.in_ok-put_extension.ensures.put);
  kept = kept_trans _ _ _ c.loop-extension.invariant.kept c.put_extension.ensures.kept;
}
