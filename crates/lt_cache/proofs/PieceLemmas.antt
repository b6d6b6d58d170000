-- For `read_piece` and `key_after`: a piece of a text, between hyphens, is read as a subtag exactly if its lower case
-- is one, and that is the subtag; what is no subtag is neither a key nor a type.
use Rattle.std.proofs.Common.{◌≡◌, ℕ, true, false, List, [], ◌∷◌, None, refl, arith}
use Rattle.std.specs.Prelude.{Option, Ok, Err}
use Rattle.std.specs.List.{list_all}
use Rattle.std.specs.Char.{is_ascii_alphanumeric, to_ascii_lowercase}
use Rattle.std.proofs.lemmas.Bool.Decides.{nat_tests}
use Rattle.std.proofs.lemmas.List.{length-map}
use Rattle.lt_subtag.specs.Bytes.{folded, is_subtag, is_subtag_byte}
use Rattle.lt_subtag.specs.Reading.{subtag_of}
use Rattle.lt_subtag.specs.Shapes.{is_key}
use Rattle.lt_subtag.specs.declared.SubtagFault.{SubtagFault}
use Rattle.lt_tag.specs.Extensions.{is_long}
use Rattle.lt_rewrite.specs.RisingKeys.{next_key}

-- the subtag that a piece is read as is the piece in lower case
pub piece_read : (p s : List ℕ) → subtag_of p ≡ Ok s → s ≡ folded p
piece_read p s h = grind (arith, nat_tests)

-- a piece whose lower case has only letters and digits has only letters and digits itself
bytes_from_lower : (p : List ℕ) → list_all is_subtag_byte (folded p) ≡ true → list_all is_ascii_alphanumeric p ≡ true
bytes_from_lower [] h = refl
bytes_from_lower (b ∷ p) h = grind (arith, nat_tests, bytes_from_lower p)

-- a piece that is refused is no subtag in lower case either
pub piece_refused : (p : List ℕ) (fault : SubtagFault) → subtag_of p ≡ Err fault → is_subtag (folded p) ≡ false
unfolding is_subtag
piece_refused p fault h = grind (arith, nat_tests, length-map p to_ascii_lowercase, bytes_from_lower p)

-- what is no subtag is neither a key after the last key nor a type
pub next_none : (last : Option (List ℕ)) (s : List ℕ) → is_subtag s ≡ false → next_key last s ≡ None
unfolding is_key is_long
next_none last s h = grind (arith, nat_tests)
