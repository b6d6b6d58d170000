use Rattle.lt_jar.proofs.SourceLemmas.{unread_rest}
use Rattle.lt_jar.proofs.sources.JarSource.take_unread_bytes.Goals as goal

-- The bytes still unread are the rest that the engine leaves: it is at the end of the bytes read, so it begins its own
-- length before that end.
pub returns-in-Ok-Some-clause-takes : goal.returns-in-Ok-Some-clause-takes
returns-in-Ok-Some-clause-takes c =
    let old = c.args.self.now in
    let piece = c.between-piece.ensures in
    let takes = rw piece.bytes at (rw c.in-Ok-Some.field-0-is at c.in-Ok-Some.ensures) in
    rw (unread_rest old.buffer old.start old.end takes.front c.in-Ok-Some.rest.now old.placed.0 piece.room takes.split) takes
