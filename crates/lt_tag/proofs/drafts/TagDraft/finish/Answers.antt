use Rattle.std.proofs.Common.{◌∷◌, [], ap, arith, length}
use Rattle.std.proofs.lemmas.List.{length-append}
use Rattle.lt_tag.specs.Spelling.{x_subtag}
use Rattle.lt_tag.proofs.MisplacedLemmas.{few_closed}
use Rattle.lt_tag.proofs.drafts.TagDraft.finish.Goals as goal

-- there are at most 1,024 extensions, as `from_parts` asks: at most 1,025 subtags are a language and at least a
-- singleton for each extension, the open one too
pub from_parts-requires-in-InExtension-clause-few_extensions : goal.from_parts-requires-in-InExtension-clause-few_extensions
from_parts-requires-in-InExtension-clause-few_extensions c =
    let few = rw c.in-InExtension.is at c.requires.few in
    omega (
      arith,
      few_closed c.in-InExtension.core c.in-InExtension.extensions.items
          ((c.in-InExtension.singleton ∷ []) ∷ c.in-InExtension.subtags.items) few (omega arith),
      ap length c.in_ok-push-in-InExtension.ensures.items,
      length-append c.in-InExtension.extensions.items
          (c.of_parts.result ∷ []),
    )

-- the same, where private use is open and no extension
pub from_parts-requires-in-InPrivate-clause-few_extensions : goal.from_parts-requires-in-InPrivate-clause-few_extensions
from_parts-requires-in-InPrivate-clause-few_extensions c =
    let few = rw c.in-InPrivate.is at c.requires.few in
    omega (
      arith,
      few_closed c.in-InPrivate.core c.in-InPrivate.extensions.items
          (x_subtag ∷ c.in-InPrivate.private.items) few (omega arith),
    )
