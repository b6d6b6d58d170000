-- A text whose first subtag is replaced by `CodeTable::replace` is at most one byte shorter. A crate above needs this
-- to bound the length of lines.
use Rattle.std.proofs.Common.{◌≡◌, ◌≤◌, ◌+◌, ◌∙◌, ℕ, List, refl, ap, arith, length, length-append, length-drop, drop, Some, None}
use Rattle.std.specs.Prelude.{Option, bytes_eq}
use Rattle.std.specs.List.{All}
use Rattle.std.proofs.lemmas.List.{length-map}
use Rattle.std.proofs.lemmas.Slice.Eq.{bytes_eq-Decides}
use Rattle.std.specs.Char.{to_ascii_lowercase}
use Rattle.lt_subtag.specs.Bytes.{folded}
use Rattle.lt_codes.specs.Codes.{first_subtag, found_in, registered_for, registered_text}
use Rattle.lt_codes.specs.Index.{IsCode}
use Rattle.lt_codes.specs.declared.codes.Code.{Code}
use Rattle.lt_codes.proofs.FindLemmas.{find_holds, find_passes}
use Rattle.lt_codes.proofs.IndexLemmas.{code_long}

-- what is registered for a subtag is at most one byte shorter than it: three letters become at least two
registered_long : (codes : List Code) (subtag : List ℕ) → All IsCode codes → length subtag ≤ length (registered_for codes subtag) + 1
registered_long codes subtag each = by_found (found_in codes subtag) refl
  where
    by_found : (found : Option Code) → found_in codes subtag ≡ found → length subtag ≤ length (registered_for codes subtag) + 1
    by_found None is = rw is (omega arith)
    by_found (Some c) is =
        let code = find_holds IsCode (λ c. bytes_eq c.code (folded subtag)) codes c each is in
        let same : c.code ≡ folded subtag = (bytes_eq-Decides c.code (folded subtag)).0
        (find_passes (λ c. bytes_eq c.code (folded subtag)) codes c is) in
        let long : length c.code ≡ length subtag = ap length same ∙ length-map subtag to_ascii_lowercase in
        rw is (omega (arith, long, code.long, code_long c code))

-- a text whose first subtag is replaced is at most one byte shorter
pub replaced_long : (codes : List Code) (text : List ℕ) → All IsCode codes → length text ≤ length (registered_text codes text) + 1
replaced_long codes text each =
    let first = first_subtag text in
    omega (
      arith,
      registered_long codes first each,
      length-append (registered_for codes first)
          (drop (length first) text),
      length-drop (length first) text,
    )
