-- Weights of language ranges (RFC 9110, 12.4.2), in thousandths.
use Rattle.std.specs.Prelude.{ℕ, ◌+◌, ◌-◌, ◌*◌, ◌==◌, ◌&&◌, ◌||◌, Bool, if◌then◌else◌, List, [], ◌∷◌, length, nat_le}
use Rattle.std.specs.Prelude.{slice_index_or, Option, Some, None}
use Rattle.std.specs.List.{list_all}
use Rattle.std.specs.Char.{is_ascii_digit}
use Rattle.lt_range.specs.Words.{is_blank, is_word_byte, front, rest}

-- whether a text is at most three digits
abbrev pub are_decimals : List ℕ → Bool
are_decimals decimals = nat_le (length decimals) 3 && list_all is_ascii_digit decimals

-- the value of the digit at an index, 0 where there is none; 48 is the byte `0`
abbrev pub digit : List ℕ → ℕ → ℕ
digit decimals place = slice_index_or decimals place 48 - 48

-- the thousandths that up to three decimals stand for
abbrev pub thousandths : List ℕ → ℕ
thousandths decimals = 100 * digit decimals 0 + 10 * digit decimals 1 + digit decimals 2

-- the weight with a digit before the point and these thousandths after it: a 0 (48) with any, or a 1 (49) with none
abbrev pub of_digits : ℕ → ℕ → Option ℕ
of_digits whole parts = if whole == 48 then Some parts else (if (whole == 49) && (parts == 0) then Some 1000 else None)

-- the weight of a digit before the point, `whole`, and the decimals after it; None if they are no weight
abbrev pub number_of : ℕ → List ℕ → Option ℕ
number_of whole decimals = if are_decimals decimals then of_digits whole (thousandths decimals) else None

-- qvalue = ( "0" [ "." 0*3DIGIT ] ) / ( "1" [ "." 0*3("0") ] ) (RFC 9110, 12.4.2), in thousandths; 46 is the point
abbrev pub qvalue_of : List ℕ → Option ℕ
qvalue_of [] = None
qvalue_of (whole ∷ []) = number_of whole []
qvalue_of (whole ∷ point ∷ decimals) = if point == 46 then number_of whole decimals else None

-- whether a byte is the letter `q`, in either case (113 or 81) (RFC 5234, 2.3)
abbrev pub is_q : ℕ → Bool
is_q b = (b == 113) || (b == 81)

-- the weight of the parameter `q=` (61 is the `=`), after whose value there is only white space; None if a text is no
-- such parameter
abbrev pub parameter_of : List ℕ → Option ℕ
parameter_of [] = None
parameter_of (q ∷ []) = None
parameter_of (q ∷ equals ∷ value) =
    if (is_q q && (equals == 61)) && (length (rest is_blank (rest is_word_byte value)) == 0)
    then qvalue_of (front is_word_byte value) else None

-- the weight by what follows a range and white space, in thousandths: 1000 if nothing does, else that of the parameter
-- after a semicolon (59)
abbrev pub weight_at : List ℕ → Option ℕ
weight_at [] = Some 1000
weight_at (b ∷ bs) = if b == 59 then parameter_of (rest is_blank bs) else None

-- the weight by what follows a range, in thousandths; None if that is no weight
abbrev pub weight_of : List ℕ → Option ℕ
weight_of text = weight_at (rest is_blank text)
