-- Lemmas on the definitions of Quotes and Rows, which most other files use: which place (within quotes or outside)
-- comes after a text, where records end, and what is left of a row behind skipped fields.
use Rattle.std.specs.List.{AllByRecursion}
use Rattle.std.proofs.Math.Bool.{and-false}
use Rattle.std.proofs.Common.{refl, ◌≡◌, ◌≢◌, ◌<◌, ◌+◌, ◌-◌, ◌==◌, ◌++◌, [], ◌∷◌, ◌∙◌, ℕ, true, false, List, length}
use Rattle.std.proofs.Common.{sym, ap, arith, suc, subst, take, get_or, All, ◌||◌, if◌then◌else◌, ne_eqb, append_assoc}
use Rattle.std.proofs.Common.{length-append}
use Rattle.std.proofs.lemmas.List.{take_more}
use Rattle.std.proofs.lemmas.List.Elements.{All-head, All-tail}
use Rattle.lt_jar.specs.Lines.{begin_first}
use Rattle.lt_rows.specs.Quotes.{IsFreeOutside, is_quoted, place_after, place_at, place_outside, records_from}
use Rattle.lt_rows.specs.declared.quotes.Place.{Place}
use Rattle.lt_rows.specs.declared.quotes.Place.TheVariants as places
use Rattle.lt_rows.specs.Rows.{HasFewer, IsEnded, IsRowField, Skips, separated, separator}
use Rattle.lt_rows.specs.declared.rows.Separator.{Separator}

-- lemmas on CSV with this delimiter
module _ (delimiter : ℕ) where
  -- the place after a text and `more` is the one to which `more` leads from the place after the text
  pub place_at-append : (place : Place) (text more : List ℕ) → place_at delimiter place (text ++ more)
      ≡ place_at delimiter (place_at delimiter place text) more
  place_at-append place [] more = refl
  place_at-append place (byte ∷ text) more = place_at-append (place_after delimiter place byte) text more

  -- after a line feed (10) outside of quotes a field begins
  pub place_after_feed : (place : Place) → is_quoted place ≡ false → place_after delimiter place 10 ≡ places.Fresh
  place_after_feed places.Fresh closed = refl
  place_after_feed places.Plain closed = refl
  place_after_feed places.Quoted closed = let bad : true ≡ false = closed in cc

  -- behind a byte that is outside of quotes and is no quote, the place is outside of quotes too
  pub outside_closed : (byte : ℕ) → is_quoted (place_outside delimiter byte) ≡ false
  outside_closed byte =
      elim ((byte == 10) || (byte == delimiter)) as (λ t. is_quoted (if t then places.Fresh else places.Plain) ≡ false)
      [ true ↦ refl | false ↦ refl ]

  -- outside of quotes, the place after a byte that is no quote (34) depends only on this byte
  pub after_other : (place : Place) (byte : ℕ) → is_quoted place ≡ false → byte ≢ 34
      → place_after delimiter place byte ≡ place_outside delimiter byte
  after_other places.Fresh byte closed other = rw (ne_eqb byte 34 other) refl
  after_other places.Plain byte closed other = refl
  after_other places.Quoted byte closed other = let bad : true ≡ false = closed in cc

  -- outside of quotes, the place after a text without quotes depends only on its last byte
  pub place_of_free : (place : Place) (text : List ℕ) → is_quoted place ≡ false → All (λ (byte : ℕ). byte ≢ 34) text → 0 < length text
      → place_at delimiter place text ≡ place_outside delimiter (get_or text (length text - 1) 0)
  place_of_free place [] closed free some = absurd (omega arith)
  place_of_free place (byte ∷ []) closed free some = after_other place byte closed (All-head (λ (b : ℕ). b ≢ 34) byte [] free)
  place_of_free place (byte ∷ next ∷ text) closed free some =
      let first = after_other place byte closed (All-head (λ (b : ℕ). b ≢ 34) byte (next ∷ text) free) in
      let more : length (byte ∷ next ∷ text) - 1 ≡ suc (length text) = omega arith in
      let less : length (next ∷ text) - 1 ≡ length text = omega arith in
      let rest = place_of_free (place_after delimiter place byte) (next ∷ text) (ap is_quoted first
      ∙ outside_closed byte) (All-tail (λ (b : ℕ). b ≢ 34) byte (next ∷ text) free) (omega arith) in
      rw more (rw less at rest)

  -- within quotes, a text without quotes stays within them
  pub quoted_of_free : (text : List ℕ) → All (λ (byte : ℕ). byte ≢ 34) text → place_at delimiter places.Quoted text ≡ places.Quoted
  quoted_of_free [] free = refl
  quoted_of_free (byte ∷ text) free =
      rw (ne_eqb byte 34 (All-head (λ (b : ℕ). b ≢ 34) byte text free)) (quoted_of_free text (All-tail (λ (b : ℕ). b ≢ 34) byte text free))

  -- the place after a text with a quote (34) behind `front` is the one to which what follows the quote leads from the
  -- place after the quote
  pub place_past_quote : (place : Place) (text front after : List ℕ) → text ≡ front ++ 34 ∷ after
      → place_at delimiter place text ≡ place_at delimiter (place_after delimiter (place_at delimiter place front) 34) after
  place_past_quote place text front after split = ap (place_at delimiter place) split ∙ place_at-append place front (34 ∷ after)

  -- where no byte `stop` is outside of quotes in a text, nor in more bytes behind it, none is in both together
  pub free-append : (stop : ℕ) (place : Place) (text more : List ℕ) → IsFreeOutside delimiter stop place text
      → IsFreeOutside delimiter stop (place_at delimiter place text) more
      → IsFreeOutside delimiter stop place (text ++ more)
  free-append stop place [] more h k = k
  free-append stop place (byte ∷ text) more h k = (h.0, free-append stop (place_after delimiter place byte) text more h.1 k)

  -- a text without the byte `stop` has none outside of quotes
  pub free_of_none : (stop : ℕ) (place : Place) (text : List ℕ) → All (λ (byte : ℕ). byte ≢ stop) text
      → IsFreeOutside delimiter stop place text
  free_of_none stop place [] h = tt
  free_of_none stop place (byte ∷ text) h = (
    λ e. absurd (All-head (λ (b : ℕ). b ≢ stop) byte text h e),
    free_of_none stop (place_after delimiter place byte) text (All-tail (λ (b : ℕ). b ≢ stop) byte text h),
  )

  -- a byte in front of a text is the first of the text's first record, unless it is a line feed (10) outside of quotes
  begins : (place : Place) (byte : ℕ) (text : List ℕ) → (byte ≡ 10 → is_quoted place ≡ true)
      → records_from delimiter place (byte ∷ text)
      ≡ begin_first byte (records_from delimiter (place_after delimiter place byte) text)
  begins places.Quoted byte text h = rw (and-false (byte == 10)) refl
  begins places.Fresh byte text h = rw (ne_eqb byte 10 (λ e. let bad : false ≡ true = h e in cc)) refl
  begins places.Plain byte text h = rw (ne_eqb byte 10 (λ e. let bad : false ≡ true = h e in cc)) refl

  -- a text without line feeds (10) outside of quotes, which ends outside of them, is a record if a line feed follows
  -- it
  pub records_from-ended : (place : Place) (text rest : List ℕ) → IsFreeOutside delimiter 10 place text
      → is_quoted (place_at delimiter place text) ≡ false
      → records_from delimiter place (text ++ 10 ∷ rest) ≡ text ∷ records_from delimiter places.Fresh rest
  records_from-ended place [] rest h closed = rw closed refl
  records_from-ended place (byte ∷ text) rest h closed =
      begins place byte (text ++ 10 ∷ rest) h.0
      ∙ ap (begin_first byte) (records_from-ended (place_after delimiter place byte) text rest h.1 closed)

  -- a text without line feeds (10) outside of quotes, at least one byte, is one record
  pub records_from-last : (place : Place) (text : List ℕ) → IsFreeOutside delimiter 10 place text → 0 < length text
      → records_from delimiter place text ≡ text ∷ []
  records_from-last place [] h some = absurd (omega arith)
  records_from-last place (byte ∷ []) h some = begins place byte [] h.0
  records_from-last place (byte ∷ next ∷ text) h some =
      begins place byte (next ∷ text) h.0
      ∙ ap (begin_first byte) (records_from-last (place_after delimiter place byte) (next ∷ text) h.1 (omega arith))

  -- ---- the turns of a loop over bytes

  -- the place after the first i + 1 bytes is the one to which one byte more leads from the place after the first i
  pub place_next : (place : Place) (text : List ℕ) (i : ℕ) → i < length text
      → place_at delimiter place (take (i + 1) text)
      ≡ place_after delimiter (place_at delimiter place (take i text)) (get_or text i 0)
  place_next place text i below = ap (place_at delimiter place) (take_more text i 0 below)
      ∙ place_at-append place (take i text) (get_or text i 0 ∷ [])

  -- with one byte more no `stop` is outside of quotes, if that byte is no `stop`, or is within quotes
  pub free_next : (stop : ℕ) (text : List ℕ) (i : ℕ) → i < length text → IsFreeOutside delimiter stop places.Fresh (take i text)
      → (get_or text i 0 ≡ stop → is_quoted (place_at delimiter places.Fresh (take i text)) ≡ true)
      → IsFreeOutside delimiter stop places.Fresh (take (i + 1) text)
  free_next stop text i below free inside =
      subst (IsFreeOutside delimiter stop places.Fresh) (sym (take_more text i 0 below))
      (free-append stop places.Fresh (take i text) (get_or text i 0 ∷ []) free (inside, tt))

  -- from outside of quotes, a text without quotes ends outside of them
  pub closed_of_free : (place : Place) (text : List ℕ) → is_quoted place ≡ false → All (λ (byte : ℕ). byte ≢ 34) text
      → is_quoted (place_at delimiter place text) ≡ false
  closed_of_free place [] closed free = closed
  closed_of_free place (byte ∷ text) closed free =
      closed_of_free (place_after delimiter place byte) text
      (ap is_quoted (after_other place byte closed (All-head (λ (b : ℕ). b ≢ 34) byte text free))
      ∙ outside_closed byte) (All-tail (λ (b : ℕ). b ≢ 34) byte text free)

  -- where a text ends outside of quotes, a byte `stop` behind it is outside of quotes
  pub not_free : (stop : ℕ) (place : Place) (text more : List ℕ) → is_quoted (place_at delimiter place text) ≡ false
      → IsFreeOutside delimiter stop place (text ++ stop ∷ more) → ⊥
  not_free stop place [] more closed free = let bad : true ≡ false = sym (free.0 refl) ∙ closed in cc
  not_free stop place (byte ∷ text) more closed free = not_free stop (place_after delimiter place byte) text more closed free.1

-- what is true of each element of a list, and of x, is true of each where x is put last
pub each-last : {X : Type 0} (P : X → Type 0) (xs : List X) (x : X) → AllByRecursion P xs → P x → AllByRecursion P (xs ++ x ∷ [])
each-last P [] x h one = (one, tt)
each-last P (y ∷ xs) x h one = (h.0, each-last P xs x h.1 one)

-- fields and one field more, each with its separator, are the fields with theirs, and then that field with its own
separated-append : (S : Separator) (fields : List (List ℕ)) (field : List ℕ) → separated S (fields ++ field ∷ [])
    ≡ separated S fields ++ (field ++ separator S ∷ [])
separated-append S [] field = refl
separated-append S (f ∷ fields) field = rw (
  separated-append S fields field,
  append_assoc f (separator S ∷ separated S fields) (field ++ separator S ∷ []),
) refl

-- where no field is skipped, the whole row is left
pub skips_none : (S : Separator) (row : List ℕ) → Skips S 0 row row
skips_none S row = record { before = []; each = tt; number = refl; row_is = refl }

-- where what is left begins with a field that a separator ends, one field more can be skipped, and `after` is left then
pub skips_more : (S : Separator) (count : ℕ) (row rest field after : List ℕ) → Skips S count row rest → IsEnded S field
    → rest ≡ field ++ separator S ∷ after → Skips S (count + 1) row after
skips_more S count row rest field after s one split = record {
  before = s.before ++ field ∷ [];
  each = each-last (IsEnded S) s.before field s.each one;
  number = length-append s.before (field ∷ []) ∙ ap (λ n. n + 1) s.number;
  row_is = rw (s.row_is, split, separated-append S s.before field) (simp append_assoc);
}

-- where what is left is one field, and only `count` are skipped, a row has no field with `wanted` others before it
pub skips_last : (S : Separator) (count wanted : ℕ) (row rest : List ℕ) → Skips S count row rest → IsRowField S rest
    → count < wanted → HasFewer S wanted row
skips_last S count wanted row rest s one few = record {
  before = s.before;
  last = rest;
  each = s.each;
  one = one;
  row_is = s.row_is;
  fewer = omega (arith, s.number, few);
}
