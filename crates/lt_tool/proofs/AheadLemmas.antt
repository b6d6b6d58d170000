-- For `answer_lines`: a reader that gives again the bytes that were read to find a column, and then the rest of the
-- input, has just those bytes to give.
use Rattle.std.proofs.Common.{◌≡◌, ℕ, List, Option, None, Some, refl}
use Rattle.std.specs.Fmt.{option_append}
use Rattle.std.specs.Io.KnownBytes.{Keeps, prepend_known}

-- if the bytes `all` of a chain are those of `front` and then `rest`, they are known whenever the bytes of `rest` are
pub ahead_is : (front : List ℕ) (rest all : Option (List ℕ)) → all ≡ option_append (Some front) rest → Keeps (prepend_known front rest) all
ahead_is front None all is = tt
ahead_is front (Some rest) all is = rw is refl
