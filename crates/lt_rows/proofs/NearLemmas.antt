-- Lemmas for `place_within` and `is_free_of_both`, which search the first `count` bytes of a text but look at more,
-- since a search takes 32 bytes together: what is found there tells where a byte is among the first `count`.
use Rattle.std.proofs.Common.{◌≡◌, ◌≢◌, ◌≤◌, ◌<◌, ◌+◌, ◌==◌, ◌||◌, ◌++◌, ◌∷◌, ◌∙◌, ℕ, List, length, sym, ap, arith}
use Rattle.std.proofs.Common.{subst, take, drop, get_or, add-one, take-append-drop, inl, inr, refl}
use Rattle.std.proofs.Math.Seq.{drop-cons}
use Rattle.std.proofs.lemmas.Bool.{eq-eqb, eqb-true, or_cases}
use Rattle.std.proofs.Math.Bool.{or-true}
use Rattle.std.proofs.lemmas.List.{length-take-le, get_or-take, take-take}
use Rattle.std.proofs.lemmas.List.Elements.{All-from_get_or, All-get_or}
use Rattle.memchr.specs.Find.{Nowhere, NoneBefore, Passes, is_byte, is_byte2}
use Rattle.lt_rows.specs.Splitting.{IsFreeOf, IsNear}

-- a text is split at a place i where the byte is
pub split_there : (byte : ℕ) (text : List ℕ) (i : ℕ) → i < length text → get_or text i 0 ≡ byte
    → text ≡ take i text ++ byte ∷ drop (i + 1) text
split_there byte text i below is =
    sym (take-append-drop i text) ∙ ap (λ l. take i text ++ l) (rw (add-one, drop-cons text i 0 below, is) refl)

-- lemmas on the first `count` bytes of a text, searched in `near`, a front that has them all and may have more
module _ (count : ℕ) (text near : List ℕ) (is : IsNear count text near) where
  -- the first `count` bytes of `near` are those of the text
  front_is : take count near ≡ take count text
  front_is = ap (take count) is.3 ∙ take-take count is.0 text is.1

  -- `near` has as many bytes as `IsNear` says, at least `count`
  long : length near ≡ is.0
  long = ap length is.3 ∙ length-take-le is.0 text is.2

  -- the text has `count` bytes, so that its first `count` bytes are so many
  pub row_long : length (take count text) ≡ count
  row_long = length-take-le count text (omega (arith, is.1, is.2))

  -- each of the first `count` bytes is in `near`, at the same place
  pub byte_is : (i : ℕ) → i < count → get_or (take count text) i 0 ≡ get_or near i 0
  byte_is i below = ap (λ l. get_or l i 0) (sym front_is) ∙ get_or-take count near i 0 below

  -- where the byte is not before the place `stop` of `near`, it is not before that place of the first `count`
  none_to : (byte stop : ℕ) → stop ≤ count → Nowhere (Passes (is_byte byte) near) 0 stop → IsFreeOf byte (take stop (take count text))
  none_to byte stop le none =
      let short : length (take stop (take count text)) ≡ stop = length-take-le stop (take count text) (omega (arith, le, row_long)) in
      All-from_get_or (λ other. other ≢ byte) (take stop (take count text)) 0
      (λ k inside e. none k (omega arith) (omega (arith, inside, short))
      (eq-eqb (get_or near k 0) byte (sym (byte_is k (omega (arith, inside, short, le)))
      ∙ sym (get_or-take stop (take count text) k 0 (omega (arith, inside, short))) ∙ e)))

  -- where the place `stop` is not among the first `count`, the byte is nowhere among them
  none_at_all : (byte stop : ℕ) → count ≤ stop → Nowhere (Passes (is_byte byte) near) 0 stop → IsFreeOf byte (take count text)
  none_at_all byte stop le none =
      subst (IsFreeOf byte) (take-take count count text (omega arith))
      (none_to byte count (omega arith) (λ k low high. none k low (omega (arith, high, le))))

  -- where the byte is nowhere in `near`, it is nowhere among the first `count`
  pub none_near : (byte : ℕ) → Nowhere (Passes (is_byte byte) near) 0 (length near) → IsFreeOf byte (take count text)
  none_near byte none = none_at_all byte (length near) (omega (arith, long, is.1)) none

  -- where the byte is first at a place i of `near` behind the first `count`, it is nowhere among them
  pub none_before : (byte i : ℕ) → count ≤ i → NoneBefore (Passes (is_byte byte) near) 0 (length near) i → IsFreeOf byte (take count text)
  none_before byte i far first = none_at_all byte i far first.before

  -- where the byte is first at a place i of `near` among the first `count`, the first `count` are split there
  pub place_near : (byte i : ℕ) → i < count → NoneBefore (Passes (is_byte byte) near) 0 (length near) i → Passes (is_byte byte) near i
      → (i < length (take count text)) × IsFreeOf byte (take i (take count text))
      × (take count text ≡ take i (take count text) ++ byte ∷ drop (i + 1) (take count text))
  place_near byte i below first passes =
      let within : i < length (take count text) = omega (arith, below, row_long) in (
        within,
        none_to byte i (omega (arith, below)) first.before,
        split_there byte (take count text) i within (byte_is i below ∙ eqb-true (get_or near i 0) byte passes),
      )

  -- ---- two bytes

  -- lemmas on two bytes, `one` and `other`, that are searched together
  module _ (one other : ℕ) where
    -- one of the two is at this place of `near`
    abbrev either : ℕ → Type 0
    either = Passes (is_byte2 one other) near

    -- where neither is, the first is not
    first_of : (stop : ℕ) → Nowhere either 0 stop → Nowhere (Passes (is_byte one) near) 0 stop
    first_of stop none k low high is_one = none k low high (ap (λ t. t || (get_or near k 0 == other)) is_one)

    -- where neither is, the second is not
    second_of : (stop : ℕ) → Nowhere either 0 stop → Nowhere (Passes (is_byte other) near) 0 stop
    second_of stop none k low high is_other = none k low high (rw is_other (or-true (get_or near k 0 == one)))

    -- where neither is in `near`, neither is among the first `count`
    pub neither_near : Nowhere either 0 (length near) → IsFreeOf one (take count text) × IsFreeOf other (take count text)
    neither_near none = (none_near one (first_of (length near) none), none_near other (second_of (length near) none))

    -- where the first of the two is at a place i of `near` behind the first `count`, neither is among them
    pub neither_before : (i : ℕ) → count ≤ i → NoneBefore either 0 (length near) i → IsFreeOf one (take count text)
        × IsFreeOf other (take count text)
    neither_before i far first = (none_at_all one i far (first_of i first.before), none_at_all other i far (second_of i first.before))

    -- where one of the two is at a place i among the first `count`, those are not free of both
    pub either_near : (i : ℕ) → i < count → either i → IsFreeOf one (take count text) × IsFreeOf other (take count text) → ⊥
    either_near i below passes free =
        let within : i < length (take count text) = omega (arith, below, row_long) in
        elim (or_cases (get_or near i 0 == one) (get_or near i 0 == other) passes) [
          | inl is_one ↦ All-get_or (λ b. b ≢ one) (take count text) i 0 within free.0 (byte_is i below
              ∙ eqb-true (get_or near i 0) one is_one)
          | inr is_other ↦ All-get_or (λ b. b ≢ other) (take count text) i 0 within free.1 (byte_is i below
              ∙ eqb-true (get_or near i 0) other is_other)
        ]
