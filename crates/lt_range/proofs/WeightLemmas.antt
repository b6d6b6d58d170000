-- What follows a range in a header is read as a weight exactly if it is a weight or nothing by the grammar (RFC 9110,
-- 12.4.2), and then white space. HeaderLaws needs this.
use Rattle.std.proofs.Common.{◌≡◌, ℕ, Bool, true, false, List, [], ◌∷◌, ◌++◌, length, cond, refl, sym, ap, ◌∙◌, arith, inl, inr, subst}
use Rattle.std.specs.Prelude.{◌==◌, ◌&&◌, nat_le, Some, None}
use Rattle.std.specs.List.{list_all}
use Rattle.std.specs.Char.{is_ascii_digit}
use Rattle.std.proofs.lemmas.Bool.{and_parts}
use Rattle.std.proofs.lemmas.Bool.Decides.{nat_tests}
use Rattle.std.proofs.lemmas.List.{append_assoc, append-nil}
use Rattle.lt_range.specs.Words.{is_blank, is_word_byte, front, rest}
use Rattle.lt_range.specs.Weights.{are_decimals, of_digits, thousandths, number_of, qvalue_of, is_q, parameter_of, weight_at, weight_of}
use Rattle.lt_range.specs.Grammar.{IsWhiteSpace, HasWeight}
use Rattle.lt_range.proofs.WordLemmas.{Stops, front_rest, all_front, all_of_none, rest_of_all, rest_is, front_is, all_imply, blank_stops}

-- a digit is a byte of a word
digit_word : (b : ℕ) → is_ascii_digit b ≡ true → is_word_byte b ≡ true
digit_word b h = grind (arith, nat_tests)

-- the digit before the point of a weight is a byte of a word
whole_word : (whole parts n : ℕ) → of_digits whole parts ≡ Some n → is_word_byte whole ≡ true
whole_word whole parts n h = grind (arith, nat_tests)

-- the digit before the point of a weight, `whole`, and the decimals are bytes of a word
number_word : (whole : ℕ) (decimals : List ℕ) (n : ℕ) → number_of whole decimals ≡ Some n
    → (is_word_byte whole ≡ true) × (list_all is_word_byte decimals ≡ true)
number_word whole decimals n h = go (are_decimals decimals) refl h
  where
    go : (c : Bool) → are_decimals decimals ≡ c → cond c (of_digits whole (thousandths decimals)) None ≡ Some n
        → (is_word_byte whole ≡ true) × (list_all is_word_byte decimals ≡ true)
    go true e k = (
      whole_word whole (thousandths decimals) n k,
      all_imply is_ascii_digit is_word_byte digit_word
          decimals (and_parts (nat_le (length decimals) 3) (list_all is_ascii_digit decimals) e).1,
    )
    go false e k = absurd (cc)

-- the bytes of a qvalue are all bytes of a word (RFC 9110, 12.4.2)
pub qvalue_word : (value : List ℕ) (n : ℕ) → qvalue_of value ≡ Some n → list_all is_word_byte value ≡ true
qvalue_word [] n h = refl
qvalue_word (whole ∷ []) n h = let w = number_word whole [] n h in grind (arith, nat_tests, w.0)
qvalue_word (whole ∷ point ∷ decimals) n h = go (point == 46) refl h
  where
    go : (c : Bool) → (point == 46) ≡ c → cond c (number_of whole decimals) None ≡ Some n
        → list_all is_word_byte (whole ∷ point ∷ decimals) ≡ true
    go true e k = let w = number_word whole decimals n k in grind (arith, nat_tests, w.0, w.1)
    go false e k = cc

-- the text, which follows a range, is the text of the weight `n`, in thousandths, or of none, and then white space
pub record IsEnding (text : List ℕ) (n : ℕ) : Type 0 where
  pub weight : List ℕ
  pub after : List ℕ
  pub whole : text ≡ weight ++ after
  pub blank : IsWhiteSpace after
  pub is_weight : HasWeight weight n

-- the text is `q=` (61 is the `=`), a qvalue of `n` thousandths, and then white space
record IsParameter (text : List ℕ) (n : ℕ) : Type 0 where
  q : ℕ
  value : List ℕ
  after : List ℕ
  whole : text ≡ q ∷ 61 ∷ (value ++ after)
  letter : is_q q ≡ true
  blank : IsWhiteSpace after
  is_value : qvalue_of value ≡ Some n

-- what is read as the parameter `q=` is `q=`, a qvalue and white space
parameter_is : (text : List ℕ) (n : ℕ) → parameter_of text ≡ Some n → IsParameter text n
parameter_is [] n h = absurd (cc)
parameter_is (q ∷ []) n h = absurd (cc)
parameter_is (q ∷ equals ∷ others) n h = go ((is_q q && (equals == 61)) && (length (rest is_blank (rest is_word_byte others)) == 0)) refl h
  where
    go : (c : Bool) → ((is_q q && (equals == 61)) && (length (rest is_blank (rest is_word_byte others)) == 0)) ≡ c
        → cond c (qvalue_of (front is_word_byte others)) None ≡ Some n → IsParameter (q ∷ equals ∷ others) n
    go false e k = absurd (cc)
    go true e k =
        let parts = and_parts (is_q q && (equals == 61)) (length (rest is_blank (rest is_word_byte others)) == 0) e in
        let name = and_parts (is_q q) (equals == 61) parts.0 in
        let sign : equals ≡ 61 = grind (arith, nat_tests, name.1) in
        let none : length (rest is_blank (rest is_word_byte others)) ≡ 0 = grind (arith, nat_tests, parts.1) in
        record {
          q = q;
          value = front is_word_byte others;
          after = rest is_word_byte others;
          whole = ap (λ (x : ℕ). q ∷ x ∷ others) sign ∙ ap (λ (l : List ℕ). q ∷ 61 ∷ l) (front_rest is_word_byte others);
          letter = name.0;
          blank = all_of_none is_blank (rest is_word_byte others) none;
          is_value = k;
        }

-- white space, and then what is read as a weight, or nothing, is the weight `n` and white space after it
ending_at : (before text : List ℕ) (n : ℕ) → IsWhiteSpace before → weight_at text ≡ Some n → IsEnding (before ++ text) n
ending_at before [] n blank h = record {
  weight = [];
  after = before;
  whole = append-nil before;
  blank = blank;
  is_weight = inl (refl, let e : n ≡ 1000 = cc in e);
}
ending_at before (b ∷ bs) n blank h = go (b == 59) refl h
  where
    go : (c : Bool) → (b == 59) ≡ c → cond c (parameter_of (rest is_blank bs)) None ≡ Some n → IsEnding (before ++ b ∷ bs) n
    go false e k = absurd (cc)
    go true e k =
        let semicolon : b ≡ 59 = grind (arith, nat_tests) in
        let p = parameter_is (rest is_blank bs) n k in
        let middle = front is_blank bs in
        let tail : bs ≡ middle ++ p.q ∷ 61 ∷ (p.value ++ p.after) = front_rest is_blank bs ∙ ap (λ (l : List ℕ). middle ++ l) p.whole in
        let weight = before ++ 59 ∷ (middle ++ p.q ∷ 61 ∷ p.value) in
        record {
          weight = weight;
          after = p.after;
          whole = ap (λ (x : ℕ). before ++ x ∷ bs) semicolon ∙ ap (λ (l : List ℕ). before ++ 59 ∷ l) tail
              ∙ sym (append_assoc before (59 ∷ (middle ++ p.q ∷ 61 ∷ p.value)) p.after
              ∙ ap (λ (l : List ℕ). before ++ 59 ∷ l) (append_assoc middle (p.q ∷ 61 ∷ p.value) p.after));
          blank = p.blank;
          is_weight = inr (record {
            before = before;
            after = middle;
            q = p.q;
            value = p.value;
            whole = refl;
            blank_before = blank;
            blank_after = all_front is_blank bs;
            letter = p.letter;
            is_value = p.is_value;
          });
        }

-- what follows a range and is read as the weight `n` is the text of a weight, or none, and white space
pub weight_is_ending : (text : List ℕ) (n : ℕ) → weight_of text ≡ Some n → IsEnding text n
weight_is_ending text n h =
    let e = ending_at (front is_blank text) (rest is_blank text) n (all_front is_blank text) h in
    subst (λ (l : List ℕ). IsEnding l n) (sym (front_rest is_blank text)) e

-- white space ends before a `q`
q_stops : (q : ℕ) (text : List ℕ) → is_q q ≡ true → Stops is_blank (q ∷ text)
q_stops q text h = grind (arith, nat_tests)

-- the parameter `q=`, a qvalue of `n` thousandths and white space are read as the weight `n`
parameter_read : (q : ℕ) (value after : List ℕ) (n : ℕ) → is_q q ≡ true → IsWhiteSpace after → qvalue_of value ≡ Some n
    → parameter_of (q ∷ 61 ∷ (value ++ after)) ≡ Some n
parameter_read q value after n letter blank is_value =
    let word = qvalue_word value n is_value in
    let value_is = front_is is_word_byte value after word (blank_stops after blank) in
    let after_is = rest_is is_word_byte value after word (blank_stops after blank) in
    let none = rest_of_all is_blank after blank in
    rw (letter, value_is, after_is, none) is_value

-- the text is read as the weight `n` of the range that it follows, and its first byte, if it has one, ends the range
pub record IsRead (text : List ℕ) (n : ℕ) : Type 0 where
  pub read : weight_of text ≡ Some n
  pub stops : Stops is_word_byte text

-- a semicolon (59) and the parameter `q=`, with white space wherever it may be, are read as the weight `n`
long_read : (before middle : List ℕ) (q : ℕ) (value after : List ℕ) (n : ℕ) → IsWhiteSpace before → IsWhiteSpace middle
    → is_q q ≡ true → IsWhiteSpace after → qvalue_of value ≡ Some n
    → IsRead (before ++ 59 ∷ (middle ++ q ∷ 61 ∷ (value ++ after))) n
long_read before middle q value after n blank_before blank_middle letter blank is_value =
    let parameter = middle ++ q ∷ 61 ∷ (value ++ after) in
    let at_semicolon : rest is_blank (before ++ 59 ∷ parameter) ≡ 59 ∷ parameter = rest_is is_blank before
    (59 ∷ parameter) blank_before refl in
    let at_q : rest is_blank parameter ≡ q ∷ 61 ∷ (value ++ after) = rest_is is_blank middle (q ∷ 61 ∷ (value ++ after))
    blank_middle (q_stops q (61 ∷ (value ++ after)) letter) in
    record {
      read = ap weight_at at_semicolon ∙ ap parameter_of at_q ∙ parameter_read q value after n letter blank is_value;
      stops = ends before blank_before;
    }
  where
    ends : (xs : List ℕ) → IsWhiteSpace xs → Stops is_word_byte (xs ++ 59 ∷ (middle ++ q ∷ 61 ∷ (value ++ after)))
    ends [] h = refl
    ends (x ∷ xs) h = blank_stops (x ∷ xs) h

-- a weight by the grammar, or none, that white space follows is read as its weight `n`
pub weight_read : (weight after : List ℕ) (n : ℕ) → HasWeight weight n → IsWhiteSpace after → IsRead (weight ++ after) n
weight_read weight after n (inl none) blank = record {
  read = ap (λ (l : List ℕ). weight_of (l ++ after)) none.0 ∙ ap weight_at (rest_of_all is_blank after blank)
      ∙ ap (λ (m : ℕ). Some m) (sym none.1);
  stops = subst (λ (l : List ℕ). Stops is_word_byte (l ++ after)) (sym none.0) (blank_stops after blank);
}
weight_read weight after n (inr w) blank =
    let split : weight ++ after ≡ w.before ++ 59 ∷ (w.after ++ w.q ∷ 61 ∷ (w.value ++ after)) =
    ap (λ (l : List ℕ). l ++ after) w.whole ∙ append_assoc w.before (59 ∷ (w.after ++ w.q ∷ 61 ∷ w.value)) after
    ∙ ap (λ (l : List ℕ). w.before ++ 59 ∷ l) (append_assoc w.after (w.q ∷ 61 ∷ w.value) after) in
    subst (λ (l : List ℕ). IsRead l n) (sym split) (long_read w.before w.after w.q w.value after n w.blank_before
    w.blank_after w.letter blank w.is_value)
