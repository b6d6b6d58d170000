-- Two subtags of one kind have one place exactly if they are the same, letter case aside. So writing the flag of one
-- subtag changes what the flags tell of this subtag only, as `put_subtag` needs.
use Rattle.std.proofs.Common.{◌≡◌, ◌≤◌, ◌<◌, ℕ, ◌+◌, ◌-◌, ◌*◌, ◌/◌, ◌%◌, ◌==◌, ◌&&◌, eqb, Bool, true, false, cond, List}
use Rattle.std.proofs.Common.{[], ◌∷◌, length, map, get_or, Option, Some, None, IfSome, inl, inr, refl, sym, subst, ap}
use Rattle.std.proofs.Common.{◌∙◌, arith, bytes_eq, ◌^◌, not, set, replicate, bit_and, bit_or, w64, is_some}
use Rattle.std.specs.Prelude.{nat_lt}
use Rattle.std.specs.List.{list_all}
use Rattle.std.specs.Option.{option_map_or}
use Rattle.std.specs.Char.{is_ascii_lowercase, is_ascii_digit, to_ascii_lowercase}
use Rattle.std.proofs.lemmas.Bool.{agree_below_at, eqb-true, false_from_ne_true, cases_eq, eq-eqb, ne_eqb}
use Rattle.std.proofs.lemmas.Bool.Decides.{nat_tests}
use Rattle.std.proofs.lemmas.Slice.Eq.{bytes_eq-Decides}
use Rattle.lt_subtag.specs.Bytes.{folded}
use Rattle.lt_subtag.specs.Shapes.{is_language}
use Rattle.lt_tag.proofs.Apart.{script_is, region_is}
use Rattle.lt_registry.specs.Entries.{has_form}
use Rattle.lt_registry.specs.Same.{same_kind}
use Rattle.lt_registry.specs.declared.entries.Kind.{Kind}
use Rattle.lt_registry.specs.declared.entries.Kind.TheVariants as kinds
use Rattle.lt_rewrite.proofs.Entries.{same_kind_is, same_kind_itself}
use Rattle.lt_check.specs.declared.places.TheConstants.{LETTERS}
use Rattle.lt_check.specs.Places.{letter, digit, place}
use Rattle.std.specs.Int.{bit_not}
use Rattle.std.proofs.lemmas.List.{get_or-set_same, get_or-set_other, get_or-replicate, get_or_past, length-replicate}
use Rattle.std.proofs.lemmas.Nat.Bits.{bit_at_set_same, bit_at_set_other, bit_at_clear_same, bit_at_clear_other, bit_at-zero}
use Rattle.lt_registry.specs.Parts.{EntryParts}
use Rattle.lt_registry.specs.declared.entries.EntryName.TheVariants as names
use Rattle.lt_check.specs.Flags.{flag, TellSingles, with_subtag}
use Rattle.lt_check.specs.Staying.{has_no_value}

-- what the table of letters has for a byte is the letter's number
pub letter_reads : (b : ℕ) → b < 256 → get_or LETTERS b 0 ≡ letter b
letter_reads b h = eqb-true _ _ (agree_below_at (λ x. eqb (get_or LETTERS x 0) (letter x)) (λ _. true) 256 b refl h)

-- the number of a letter is at most 26
pub letter_few : (b : ℕ) → letter b ≤ 26
letter_few b = grind (arith, nat_tests)

-- letter case does not change the number of a letter
letter_folded : (b : ℕ) → letter (to_ascii_lowercase b) ≡ letter b
letter_folded b = grind (arith, nat_tests)

-- letter case does not change the number of a digit
digit_folded : (b : ℕ) → digit (to_ascii_lowercase b) ≡ digit b
digit_folded b = grind (arith, nat_tests)

-- the number of a byte: its number as a letter if the Boolean is true, else as a digit
number : Bool → ℕ → ℕ
number true = letter
number false = digit

-- whether a byte is a letter in lower case, if the Boolean is true, else whether it is a digit
is_numbered : Bool → ℕ → Bool
is_numbered true = is_ascii_lowercase
is_numbered false = is_ascii_digit

-- a byte `b` with the number of `t`, which is a letter in lower case or a digit, is `t`, letter case aside
same_byte : (lettered : Bool) (b t : ℕ) → number lettered b ≡ number lettered t → is_numbered lettered t ≡ true → to_ascii_lowercase b ≡ t
unfolding number is_numbered
same_byte true b t e h = grind (arith, nat_tests)
same_byte false b t e h = grind (arith, nat_tests)

-- bytes `s` with the numbers of `t`, which are letters in lower case or digits, are `t`, letter case aside
same_bytes : (lettered : Bool) (s t : List ℕ) → map (number lettered) s ≡ map (number lettered) t
    → list_all (is_numbered lettered) t ≡ true → folded s ≡ t
same_bytes lettered [] [] e h = refl
same_bytes lettered (a ∷ s) (b ∷ t) e h = grind (arith, same_byte, same_bytes lettered s t)
same_bytes lettered _ _ e h = cc

-- what a place tells: the kind, whether it counts letters or digits, and their numbers
decode : ℕ → Kind × Bool × List ℕ
decode n =
    cond (nat_lt n 729) (kinds.Language, true, n / 27 ∷ n % 27 ∷ [])
    (cond (nat_lt n 20412) (kinds.Language, true, (n - 729) / 729 ∷ (n - 729) / 27 % 27 ∷ (n - 729) % 27 ∷ [])
    (cond (nat_lt n 551853) (
      kinds.Script,
      true,
      (n - 20412) / 19683 ∷ (n - 20412) / 729 % 27 ∷ (n - 20412) / 27 % 27
          ∷ (n - 20412) % 27 ∷ [],
    )
    (cond (nat_lt n 552582) (kinds.Region, true, (n - 551853) / 27 ∷ (n - 551853) % 27 ∷ [])
    (kinds.Region, false, (n - 552582) / 121 ∷ (n - 552582) / 11 % 11 ∷ (n - 552582) % 11 ∷ []))))

-- the place of a language of three letters, by their numbers, tells these numbers
three : (x y z : ℕ) → x ≤ 26 → y ≤ 26 → z ≤ 26 → decode (729 + (x * 27 + y) * 27 + z) ≡ (kinds.Language, true, x ∷ y ∷ z ∷ [])
unfolding decode
three x y z h k l = grind (arith, nat_tests)

-- the place of a script, by the numbers of its letters, tells these numbers
four : (x y z w : ℕ) → x ≤ 26 → y ≤ 26 → z ≤ 26 → w ≤ 26 → decode (20412 + ((x * 27 + y) * 27 + z) * 27 + w)
    ≡ (kinds.Script, true, x ∷ y ∷ z ∷ w ∷ [])
unfolding decode
four x y z w h k l m = grind (arith, nat_tests)

-- `n` is the place of the subtag `s` of kind `k`: it tells the kind and the numbers of the bytes, and is the same in
-- lower case
data IsPlace (k : Kind) (s : List ℕ) (n : ℕ) : Type 0 where
  known : (lettered : Bool) → decode n ≡ (k, lettered, map (number lettered) s)
      → (has_form k s ≡ true → list_all (is_numbered lettered) s ≡ true) → place k (folded s) ≡ Some n → IsPlace k s n

-- a language is of letters in lower case
language_shaped : (s : List ℕ) → is_language s ≡ true → list_all (is_numbered true) s ≡ true
unfolding is_language is_numbered
language_shaped s h = grind arith

-- a region of two bytes is of letters in lower case, one of three is of digits
region_shaped : (s : List ℕ) → has_form kinds.Region s ≡ true → list_all (is_numbered (length s == 2)) s ≡ true
unfolding is_numbered
region_shaped s h = let p = region_is s h in grind (arith, nat_tests)

-- the place of a subtag, if it has one, tells its kind and the numbers of its bytes, and is the same in lower case
is_place : (k : Kind) (s : List ℕ) → IfSome (place k s) (IsPlace k s)
unfolding number is_numbered decode
is_place kinds.Language (a ∷ b ∷ []) =
    known true (grind (arith, nat_tests)) (language_shaped _) (grind (arith, letter_folded))
is_place kinds.Language (a ∷ b ∷ c ∷ []) =
    known true (three (letter a) (letter b) (letter c) (letter_few a) (letter_few b) (letter_few c)) (language_shaped _)
    (grind (arith, letter_folded))
is_place kinds.Script (a ∷ b ∷ c ∷ d ∷ []) =
    known true (four (letter a) (letter b) (letter c) (letter d) (letter_few a) (letter_few b) (letter_few c)
    (letter_few d)) (λ h. (script_is _ h).0) (grind (arith, letter_folded))
is_place kinds.Region (a ∷ b ∷ []) =
    known true (grind (arith, nat_tests)) (region_shaped _) (grind (arith, letter_folded))
is_place kinds.Region (a ∷ b ∷ c ∷ []) =
    known false (grind (arith, nat_tests)) (region_shaped _) (grind (arith, digit_folded))
is_place _ _ = tt

-- what `IsPlace` says is true of a subtag whose place is `n`
placed : (k : Kind) (s : List ℕ) (n : ℕ) → place k s ≡ Some n → IsPlace k s n
placed k s n h = subst (λ o. IfSome o (IsPlace k s)) h (is_place k s)

-- if `t` of kind `j` has the form of its kind and the place of `s` of kind `k`, then the kinds are the same, and `s` in
-- lower case is `t`
alike : (j k : Kind) (t s : List ℕ) (n : ℕ) → has_form j t ≡ true → place j t ≡ Some n → place k s ≡ Some n
    → (same_kind j k && bytes_eq t (folded s)) ≡ true
alike j k t s n form g h = let p = placed j t n g in let q = placed k s n h in grind (arith, same_bytes, same_kind_itself, bytes_eq-Decides)

-- if `s` in lower case is `t`, and the kinds are the same, then `t` has the place of `s`
kept : (j k : Kind) (t s : List ℕ) (n : ℕ) → place k s ≡ Some n → (same_kind j k && bytes_eq t (folded s)) ≡ true → place j t ≡ Some n
kept j k t s n h y = let p = placed k s n h in grind (arith, same_kind_is, bytes_eq-Decides)

-- `t` is `s` in lower case, and of its kind, exactly if its place `o` is the place `n` of `s`; `t` has the form of its
-- kind
pub same_place : (j k : Kind) (t s : List ℕ) (n : ℕ) (o : Option ℕ) → has_form j t ≡ true → place j t ≡ o → place k s ≡ Some n
    → (same_kind j k && bytes_eq t (folded s)) ≡ option_map_or (λ m. n == m) o false
same_place j k t s n None form e h = false_from_ne_true _ (λ y. let here = kept j k t s n h y in cc)
same_place j k t s n (Some m) form e h = elim (cases_eq n m) [
  | inl i ↦ alike j k t s n form (e ∙ ap Some (sym i)) h ∙ sym (eq-eqb n m i)
  | inr ne ↦ false_from_ne_true _ (λ y. let here : Some n ≡ Some m = sym (kept j k t s n h y) ∙ e in ne (cc)) ∙ sym (ne_eqb n m ne)
]

-- ---- one bit

-- the word of 64 bits in which only the bit of place `m` is set
abbrev mask : ℕ → ℕ
mask m = 1 * 2 ^ (m % 64) % 2 ^ 64

-- with the bit of place `m` set, the flag of `m` is set and the others are as they were
pub set_flag : (words : List ℕ) (m : ℕ) → m / 64 < length words → (n : ℕ)
    → flag (set words (m / 64) (bit_or (get_or words (m / 64) 0) (mask m))) n ≡ cond (n == m) true (flag words n)
set_flag words m within n = grind (
  arith,
  nat_tests,
  get_or-set_same {A = ℕ},
  get_or-set_other {A = ℕ},
  bit_at_set_same w64,
  bit_at_set_other w64,
)

-- with the bit of place `m` cleared, the flag of `m` is clear and the others are as they were
pub clear_flag : (words : List ℕ) (m : ℕ) → m / 64 < length words → (n : ℕ)
    → flag (set words (m / 64) (bit_and (get_or words (m / 64) 0) (bit_not w64 (mask m)))) n
    ≡ cond (n == m) false (flag words n)
clear_flag words m within n = grind (
  arith,
  nat_tests,
  get_or-set_same {A = ℕ},
  get_or-set_other {A = ℕ},
  bit_at_clear_same w64,
  bit_at_clear_other w64,
)

-- ---- what flags tell

-- words of zeros tell that no subtag has a record, which is so where there is no record
pub tell_none : (words : List ℕ) (count none : ℕ) → none ≡ 0 → words ≡ replicate count none → TellSingles [] words
tell_none words count none z e k s n h =
    let zero : get_or words (n / 64) 0 ≡ 0 = grind (arith, get_or-replicate {A = ℕ}, get_or_past {X = ℕ}, length-replicate {A = ℕ}) in
    rw (zero, bit_at-zero (n % 64)) refl

-- ---- a record is put in front of those whose subtags the flags tell

-- the record `e` of the subtag `t` of kind `j` is put in front: the answer to this subtag is then `b`, whether `e` has
-- no value, and the answers to others are what they were
pub first_named : (e : EntryParts) (es : List EntryParts) (j : Kind) (t : List ℕ) (b : Bool) → e.kind ≡ j
    → e.name ≡ names.Single t → is_some e.value ≡ not b → (k : Kind) (s : List ℕ)
    → has_no_value (e ∷ es) k s ≡ with_subtag j t b (has_no_value es) k s
first_named e es j t b i h v k s = grind arith

-- a record in front that names no single subtag changes no answer
pub first_unnamed : (e : EntryParts) (es : List EntryParts) → ((t : List ℕ) → e.name ≡ names.Single t → ⊥)
    → (k : Kind) (s : List ℕ) → has_no_value (e ∷ es) k s ≡ has_no_value es k s
first_unnamed e es h k s = grind arith

-- ---- a record is put after those that replace tags

-- the test whether two kinds are the same, of which one is Language, gives the same answer in either order
pub language_first : (k : Kind) → same_kind kinds.Language k ≡ same_kind k kinds.Language
language_first kinds.Language = refl
language_first _ = refl
