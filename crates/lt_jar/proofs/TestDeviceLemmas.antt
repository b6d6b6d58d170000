-- A read of `Pieces`, the reader for tests, gives a front of what remains of it. Where there is room for bytes, it
-- gives none only if nothing remains.
use Rattle.std.proofs.Common.{◌≡◌, ℕ, zero, suc, ◌+◌, ◌-◌, ◌<◌, ◌≤◌, ◌⊎◌, inl, inr, min, Bool, true, false, ◌&&◌, List}
use Rattle.std.proofs.Common.{[], ◌++◌, length, take, drop, Option, Some, None, refl, sym, ap, ◌∙◌, arith, take_at}
use Rattle.std.proofs.Common.{length-take-le, take-append-drop, drop-drop, drop_of_length-le}
use Rattle.std.proofs.lemmas.List.{length-drop, take_all}
use Rattle.std.specs.Borrow.{Bor}
use Rattle.std.specs.Prelude.{if◌then◌else◌, nat_le, slice_range, MatchOption}
use Rattle.std.specs.Option.{unwrap_or}
use Rattle.std.specs.Io.KnownBytes.{Consumes, IsAtEnd}
use Rattle.lt_jar.specs.TestDevices.{given_in}

-- A read copies n bytes of `rest` over the front of the buffer `old`. They are the front of what is given of `rest` in
-- pieces of this length. Where none came though there was room, nothing is left to give.
given_in-front : (rest old new : List ℕ) (piece n : ℕ) → n ≡ min (min (length rest) piece) (length old)
    → new ≡ take n rest ++ drop n old → length new ≡ length old
    → (given_in piece rest ≡ take n new ++ given_in piece (drop n rest)) × (n ≡ 0 → 0 < length new → given_in piece (drop n rest) ≡ [])
given_in-front rest old new zero n count copied long = let none : n ≡ 0 = omega arith in (rw none refl, λ _ _. refl)
given_in-front rest old new (suc more) n count copied long =
    let front : take n new ≡ take n rest = ap (take n) copied
    ∙ take_at (take n rest) (drop n old) n (length-take-le n rest (omega arith)) in
    (sym (take-append-drop n rest) ∙ ap (λ l. l ++ drop n rest) (sym front), λ none room. drop_of_length-le rest (omega arith))

-- What remains of a reader, with an end or without one, after a read of n bytes: its place moves on by n. Names with '
-- are of the reader after the read. `old` and `new` are the buffer before and after it, and `left` are the bytes from
-- the place on.
pub remaining-moves : (endless endless' : Bool) (bytes bytes' left old new : List ℕ) (at at' piece piece' place n : ℕ)
    → endless' ≡ endless → bytes' ≡ bytes → piece' ≡ piece → at' ≡ place + n
    → place ≡ (if endless && nat_le (length bytes) at then 0 else at)
    → left ≡ drop place bytes' → n ≡ min (min (length left) piece') (length old)
    → new ≡ take n left ++ drop n old → length new ≡ length old
    → Consumes (if endless then None else Some (given_in piece (drop at bytes))) (if endless' then None else Some
    (given_in piece' (drop at' bytes'))) (take n new)
    × (n ≡ 0 → 0 < length new → IsAtEnd (if endless' then None else Some (given_in piece' (drop at' bytes'))))
remaining-moves endless endless' bytes bytes' left old new at at' piece piece' place n same_end same_bytes same_piece
    moved is from count copied long =
    rw (same_end, same_bytes, same_piece, moved)
    (by_end endless is (given_in-front left old new piece n (omega (arith, count, same_piece)) copied long)
    (from ∙ ap (drop place) same_bytes))
  where
    by_end : (b : Bool) → place ≡ (if b && nat_le (length bytes) at then 0 else at)
        → (given_in piece left ≡ take n new ++ given_in piece (drop n left))
        × (n ≡ 0 → 0 < length new → given_in piece (drop n left) ≡ []) → left ≡ drop place bytes
        → Consumes (if b then None else Some (given_in piece (drop at bytes))) (if b then None else Some
        (given_in piece (drop (place + n) bytes))) (take n new)
        × (n ≡ 0 → 0 < length new → IsAtEnd (if b then None else Some (given_in piece (drop (place + n) bytes))))
    by_end true there given front = (tt, λ _ _. tt)
    by_end false there given front =
        let rest : drop (place + n) bytes ≡ drop n left = sym (drop-drop n place bytes) ∙ ap (drop n) (sym front) in (
          ap (λ k. given_in piece (drop k bytes)) (sym there) ∙ ap (given_in piece) (sym front) ∙ given.0
              ∙ ap (λ l. take n new ++ given_in piece l) (sym rest),
          λ none room. ap (given_in piece) rest
              ∙ given.1 none room,
        )

-- the slice from a place to the end of the bytes, or the empty one past the end, is what is left there
pub part-from : (bytes : List ℕ) (at : ℕ) (got : Option (Bor (List ℕ))) (empty : Bor (List ℕ)) → empty.now ≡ []
    → MatchOption got ((length bytes < at) ⊎ (length bytes < length bytes)) (λ x. (at ≤ length bytes)
    × (length bytes ≤ length bytes) × (x.now ≡ slice_range bytes at (length bytes))
    × (length x.now + at ≡ length bytes))
    → (unwrap_or got empty).now ≡ drop at bytes
part-from bytes at None empty none (inl past) = none ∙ sym (drop_of_length-le bytes (omega arith))
part-from bytes at None empty none (inr past) = absurd (omega arith)
part-from bytes at (Some x) empty none found = found.2 ∙ take_all (length bytes - at) (drop at bytes) (omega (arith, length-drop at bytes))
