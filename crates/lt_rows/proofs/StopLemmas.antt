-- Lemmas for `split_outside`, which goes from one place of the byte `stop` to the next until one is outside of quotes:
-- the text is split there, or no `stop` in it is outside of quotes.
use Rattle.std.proofs.Common.{◌≡◌, ◌≤◌, ◌+◌, ◌-◌, ◌++◌, [], ◌∷◌, ◌∙◌, ℕ, true, false, List, length, sym, ap, arith}
use Rattle.std.proofs.Common.{subst, take, drop, append_assoc, length-append, take-append-drop}
use Rattle.std.proofs.Math.Seq.{take-append_seam}
use Rattle.std.proofs.lemmas.List.{length-take-le, take_rest}
use Rattle.lt_rows.specs.Quotes.{IsFreeOutside, is_quoted, place_after, place_at}
use Rattle.lt_rows.specs.Splitting.{IsFreeOf}
use Rattle.lt_rows.specs.declared.quotes.Place.{Place}
use Rattle.lt_rows.specs.declared.quotes.Place.TheVariants as places
use Rattle.lt_rows.proofs.RowLemmas.{free-append, free_of_none, place_at-append}

-- the first n bytes of a text are its `front`, if that is n bytes long
front_of : (n : ℕ) (text front after : List ℕ) → text ≡ front ++ after → n ≡ length front → take n text ≡ front
front_of n text front after split long = ap (λ k. take k text) long ∙ ap (take (length front)) split ∙ take-append_seam front after

-- one turn of the search for a `stop` outside of quotes: the text behind its first `passed` bytes is `front`, the next
-- `stop`, and `after`
module _ (delimiter stop : ℕ) (text : List ℕ) (passed : ℕ) (front after : List ℕ) (inside : passed ≤ length text)
    (rest : take (length text - passed) (drop passed text) ≡ front ++ stop ∷ after) where
  -- the text: what is passed and `front`, that `stop`, and `after`
  whole : text ≡ (take passed text ++ front) ++ stop ∷ after
  whole = sym (take-append-drop passed text) ∙ ap (λ l. take passed text ++ l) (sym (take_rest text passed) ∙ rest)
      ∙ sym (append_assoc (take passed text) front (stop ∷ after))

  -- how many bytes what is passed and `front` have together
  long : passed + length front ≡ length (take passed text ++ front)
  long = ap (λ n. n + length front) (sym (length-take-le passed text inside)) ∙ sym (length-append (take passed text) front)

  -- the bytes before that `stop`
  before : take (passed + length front) text ≡ take passed text ++ front
  before = front_of (passed + length front) text (take passed text ++ front) (stop ∷ after) whole long

  -- the bytes up to that `stop`, with it
  through : take (passed + length front + 1) text ≡ (take passed text ++ front) ++ stop ∷ []
  through = front_of (passed + length front + 1) text ((take passed text ++ front) ++ stop ∷ []) after
      (whole ∙ sym (append_assoc (take passed text ++ front) (stop ∷ []) after))
      (ap (λ n. n + 1) long ∙ sym (length-append (take passed text ++ front) (stop ∷ [])))

  -- `place` is the place behind what is passed, where no `stop` is outside of quotes; and none is in `front`
  module _ (place : Place) (place_is : place ≡ place_at delimiter places.Fresh (take passed text))
      (free : IsFreeOutside delimiter stop places.Fresh (take passed text)) (none : IsFreeOf stop front) where
    -- the place at that `stop`
    at : place_at delimiter places.Fresh (take passed text ++ front) ≡ place_at delimiter place front
    at = place_at-append delimiter places.Fresh (take passed text) front ∙ ap (λ p. place_at delimiter p front) (sym place_is)

    -- before it no `stop` is outside of quotes
    free_before : IsFreeOutside delimiter stop places.Fresh (take passed text ++ front)
    free_before = free-append delimiter stop places.Fresh (take passed text) front free
        (free_of_none delimiter stop (place_at delimiter places.Fresh (take passed text)) front none)

    -- outside of quotes, the text is split at that `stop`
    pub split_there : is_quoted (place_at delimiter place front) ≡ false
        → IsFreeOutside delimiter stop places.Fresh (take (passed + length front) text)
        × (is_quoted (place_at delimiter places.Fresh (take (passed + length front) text)) ≡ false)
        × (text ≡ take (passed + length front) text ++ stop ∷ after)
    split_there closed = rw before (free_before, ap is_quoted at ∙ closed, whole)

    -- the place behind that `stop`
    pub place_past : place_after delimiter (place_at delimiter place front) stop
        ≡ place_at delimiter places.Fresh (take (passed + length front + 1) text)
    place_past = ap (λ p. place_after delimiter p stop) (sym at)
        ∙ sym (place_at-append delimiter places.Fresh (take passed text ++ front) (stop ∷ []))
        ∙ ap (place_at delimiter places.Fresh) (sym through)

    -- within quotes, that `stop` is passed as well
    pub free_past : is_quoted (place_at delimiter place front) ≡ true
        → IsFreeOutside delimiter stop places.Fresh (take (passed + length front + 1) text)
    free_past quoted = rw through (free-append delimiter stop places.Fresh (take passed text ++ front) (stop ∷ [])
        free_before (λ e. ap is_quoted at ∙ quoted, tt))

  -- the bytes up to that `stop` are in the text
  pub inside_past : passed + length front + 1 ≤ length text
  inside_past = let all = ap length whole ∙ length-append (take passed text ++ front) (stop ∷ after) in omega (arith, all, long)

-- where nothing behind what is passed is a `stop`, none of the text is outside of quotes
pub free_to_end : (delimiter stop : ℕ) (text : List ℕ) (passed : ℕ) → IsFreeOutside delimiter stop places.Fresh (take passed text)
    → IsFreeOf stop (take (length text - passed) (drop passed text)) → IsFreeOutside delimiter stop places.Fresh text
free_to_end delimiter stop text passed free none =
    subst (IsFreeOutside delimiter stop places.Fresh) (take-append-drop passed text)
    (free-append delimiter stop places.Fresh (take passed text) (drop passed text) free
    (free_of_none delimiter stop (place_at delimiter places.Fresh (take passed text)) (drop passed text)
    (subst (IsFreeOf stop) (take_rest text passed) none)))
