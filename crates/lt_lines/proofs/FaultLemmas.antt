-- Lemmas for `fault_in` and `told_in`, which read the name of a fault off an answer: it is what is before the first
-- space there, behind a number of bytes that are left out.
use Rattle.std.proofs.Common.{◌≡◌, ◌-◌, ◌++◌, ◌∙◌, ℕ, List, Some, None, cond, drop, length, min, nat_lt, take, take_all, sym, ap, inl, inr}
use Rattle.std.specs.List.{before_first, position, position_or_len}
use Rattle.std.specs.Prelude.{Bool}
use Rattle.std.proofs.Math.Seq.{drop-append_seam}
use Rattle.std.proofs.lemmas.List.{drop_min, take_rest}
use Rattle.std.proofs.lemmas.Bool.{cases_Bool, ltb-false}

-- where the first byte of the kind `p` stands at `place`, the bytes before it are those before the first of the kind
pub before_found : (p : ℕ → Bool) (text : List ℕ) (place : ℕ) → position p text ≡ Some place → take place text ≡ before_first p text
before_found p text place found = elim (cases_Bool (nat_lt (position_or_len p text) (length text))) [
  | inl there ↦
      let is : Some (position_or_len p text) ≡ Some place = sym (ap (λ t. cond t (Some (position_or_len p text)) None) there) ∙ found in
      let same : place ≡ position_or_len p text = cc in
      ap (λ n. take n text) same
  | inr far ↦
      let bad : None ≡ Some place = sym (ap (λ t. cond t (Some (position_or_len p text)) None) far) ∙ found in cc
]

-- where no byte is of the kind `p`, the bytes before the first of the kind are the whole text
pub before_none : (p : ℕ → Bool) (text : List ℕ) → position p text ≡ None → text ≡ before_first p text
before_none p text none = elim (cases_Bool (nat_lt (position_or_len p text) (length text))) [
  | inl there ↦
      let bad : Some (position_or_len p text) ≡ None = sym (ap (λ t. cond t (Some (position_or_len p text)) None) there) ∙ none in cc
  | inr far ↦ sym (take_all (position_or_len p text) text (ltb-false _ _ far))
]

-- a text without its first `count` bytes is the slice from `least` on, which is `count`, or the text's end if the text
-- is shorter
pub after_front : (text : List ℕ) (count least : ℕ) → least ≡ min count (length text)
    → take (length text - least) (drop least text) ≡ drop count text
after_front text count least is = take_rest text least ∙ ap (λ n. drop n text) is ∙ drop_min count text

-- the slice of `items` from `start` on, where the old bytes end, is the bytes that were appended to them
pub appended : (old bytes items : List ℕ) (start : ℕ) → items ≡ old ++ bytes → start ≡ length old
    → take (length items - start) (drop start items) ≡ bytes
appended old bytes items start grown from = take_rest items start ∙ rw (grown, from) (drop-append_seam old bytes)
