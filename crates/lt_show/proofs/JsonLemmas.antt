-- For `append_row`: the object of a row is its beginning and its end, which are appended one after the other.
use Rattle.std.proofs.Common.{◌≡◌, ◌++◌, ℕ, List, append-nil, append_assoc}
use Rattle.lt_jar.specs.Records.{Field}
use Rattle.lt_show.specs.Json.{row_end, row_front, row_value}
use Rattle.lt_show.specs.declared.rows.Row.{Row}

-- the beginning and the end of a row's object, one after the other, are the object; `text` is the tag's text
pub row_joined : (text : List ℕ) (records : List (List Field)) (row : Row)
    → row_front text row ++ row_end records row.listing ≡ row_value text records row
unfolding row_front row_end row_value
row_joined text records row = simp (append_assoc, append-nil)
