use Rattle.std.proofs.Common.{◌∙◌, ap, subst}
use Rattle.std.specs.Str.{IsUtf8, is_utf8}
use Rattle.std.proofs.lemmas.Str.{IsUtf8-from_is_utf8, is_utf8-from_IsUtf8}
use Rattle.lt_jar.proofs.SourceLemmas.{unread_rest}
use Rattle.lt_jar.proofs.sources.JarSource.take_unread_text.Goals as goal

-- `is_text` is true only of bytes that were found to be UTF-8
pub from_utf8_unchecked-text-requires : goal.from_utf8_unchecked-text-requires
from_utf8_unchecked-text-requires c =
    let piece = c.between-piece in
    IsUtf8-from_is_utf8 piece.result.now (ap is_utf8 piece.ensures.bytes ∙ c.args.self.now.text c.requires)

-- `is_text` stays right: the rest that the engine leaves is UTF-8 by its type
pub invariant_of-self-clause-text : goal.invariant_of-self-clause-text
invariant_of-self-clause-text c =
    let old = c.args.self.now in
    let piece = c.between-piece.ensures in
    let rest = c.in-Ok-Some.rest.now in
    let takes = rw piece.bytes at (rw c.from_utf8_unchecked-text.ensures at (rw c.in-Ok-Some.field-0-is at c.in-Ok-Some.ensures)) in
    λ is. ap is_utf8 (unread_rest old.buffer old.start old.end takes.front rest old.placed.0 piece.room takes.split)
    ∙ is_utf8-from_IsUtf8 rest (subst IsUtf8 c.as_bytes.ensures.value c.as_bytes.ensures.utf8)

-- The bytes still unread are the rest that the engine leaves: it is at the end of the bytes read, so it begins its own
-- length before that end.
pub returns-in-Ok-Some-clause-takes : goal.returns-in-Ok-Some-clause-takes
returns-in-Ok-Some-clause-takes c =
    let old = c.args.self.now in
    let piece = c.between-piece.ensures in
    let takes = rw piece.bytes at (rw c.from_utf8_unchecked-text.ensures at (rw c.in-Ok-Some.field-0-is at c.in-Ok-Some.ensures)) in
    rw (unread_rest old.buffer old.start old.end takes.front c.in-Ok-Some.rest.now old.placed.0 piece.room takes.split) takes
