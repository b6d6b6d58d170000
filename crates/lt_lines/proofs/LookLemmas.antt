-- Lemmas for `line_looks`, where a row is looked at before it is answered. A look at the row without the carriage
-- return that may end its line tells whether the line ends within quotes. If a piece lacks carriage returns or quotes,
-- its lines do.
use Rattle.std.proofs.Common.{refl, ◌≡◌, ◌≢◌, ◌≤◌, ◌<◌, ◌+◌, ◌-◌, ◌&&◌, ◌++◌, [], ◌∷◌, ◌∙◌, ℕ, Bool, true, false, List}
use Rattle.std.proofs.Common.{Option, Some, None, MatchOption, inl, inr, length, sym, ap, arith, subst, take, drop}
use Rattle.std.proofs.Common.{if◌then◌else◌, append_assoc, length-append}
use Rattle.std.proofs.lemmas.Bool.{cases_Bool, eqb-true, ltb-true}
use Rattle.std.proofs.Math.Seq.{take-append_seam, drop-append_seam}
use Rattle.std.proofs.lemmas.List.{drop_all, length-take-le, take-take}
use Rattle.std.proofs.lemmas.List.Elements.{All-drop, All-take}
use Rattle.std.specs.Io.BufRead.{ends_with_byte}
use Rattle.lt_jar.specs.Lines.{IsOneLine, content_of}
use Rattle.lt_rows.specs.Looks.{LacksIn}
use Rattle.lt_rows.specs.Quotes.{is_quoted, place_after, place_at}
use Rattle.lt_rows.specs.Splitting.{IsFreeOf}
use Rattle.lt_rows.specs.declared.looks.Lacks.{Lacks}
use Rattle.lt_rows.specs.declared.looks.Look.{Look}
use Rattle.lt_rows.specs.declared.quotes.Place.{Place}
use Rattle.lt_rows.specs.declared.quotes.Place.TheVariants as places
use Rattle.lt_rows.proofs.NearLemmas.{split_there}
use Rattle.lt_rows.proofs.RowLemmas.{outside_closed, place_at-append}
use Rattle.lt_lines.specs.Answering.{IsTaken, place_then}
use Rattle.lt_lines.specs.Looks.{IsAhead, IsKnownToLack, IsLook}
use Rattle.lt_lines.specs.Owed.{Terms, place_of}
use Rattle.lt_lines.specs.declared.answering.Answering.{Answering}
use Rattle.lt_lines.specs.declared.forms.LineForm.{LineForm}
use Rattle.lt_lines.specs.declared.forms.LineForm.TheVariants as forms
use Rattle.lt_lines.proofs.FormLemmas.{of_none}
use Rattle.lt_lines.proofs.PartLemmas.{nothing_kept}

-- the content of a line is the line without the carriage return that may end it; if the line is the first `count` bytes
-- of a text, its content is the first bytes of this text too
pub content_front : (text : List ℕ) (count : ℕ) → count ≤ length text
    → take (length (content_of (take count text))) text ≡ content_of (take count text)
content_front text count le =
    let line = take count text in
    let long : length line ≡ count = length-take-le count text le in
    elim (ends_with_byte 13 line) as (λ t. take (length (if t then take (length line - 1) line else line)) text
    ≡ (if t then take (length line - 1) line else line)) [
      | true ↦ ap (λ n. take n text) (length-take-le (length line - 1) line (omega arith))
          ∙ sym (take-take (length line - 1) count text (omega (arith, long)))
      | false ↦ ap (λ n. take n text) long
    ]

-- the content of a line, the first `count` bytes of a text, is no longer than the line
pub content_short : (text : List ℕ) (count : ℕ) → count ≤ length text → length (content_of (take count text)) ≤ count
content_short text count le =
    let line = take count text in
    let long : length line ≡ count = length-take-le count text le in
    elim (ends_with_byte 13 line) as (λ t. length (if t then take (length line - 1) line else line) ≤ count) [
      | true ↦ omega (arith, long, length-take-le (length line - 1) line (omega arith))
      | false ↦ omega (arith, long)
    ]

-- both of two tests are true if their conjunction is
both : (x y : Bool) → (x && y) ≡ true → (x ≡ true) × (y ≡ true)
both true y e = (refl, e)
both false y e = let bad : false ≡ true = e in cc

-- a line that a carriage return (13) ends is the bytes before that, and the carriage return
last_return : (line : List ℕ) → ends_with_byte 13 line ≡ true → line ≡ take (length line - 1) line ++ 13 ∷ []
last_return line e =
    let is = both _ _ e in
    let some : 0 < length line = ltb-true 0 (length line) is.0 in
    split_there 13 line (length line - 1) (omega (arith, some)) (eqb-true _ 13 is.1)
    ∙ ap (λ l. take (length line - 1) line ++ 13 ∷ l) (drop_all (length line - 1 + 1) line (omega (arith, some)))

-- a carriage return (13) neither opens nor closes quotes; `d` is the delimiter
return_quoted : (d : ℕ) (place : Place) → is_quoted (place_after d place 13) ≡ is_quoted place
return_quoted d places.Fresh = outside_closed d 13
return_quoted d places.Plain = outside_closed d 13
return_quoted d places.Quoted = refl

-- a line and its content both end within quotes, or both end outside; `d` is the delimiter
content_quoted : (d : ℕ) (line : List ℕ) → is_quoted (place_at d places.Fresh (content_of line)) ≡ is_quoted (place_at d places.Fresh line)
content_quoted d line = elim (cases_Bool (ends_with_byte 13 line)) [
  | inl e ↦
      let front = take (length line - 1) line in
      let whole : is_quoted (place_at d places.Fresh line) ≡ is_quoted (place_at d places.Fresh front) =
      ap (λ l. is_quoted (place_at d places.Fresh l)) (last_return line e)
      ∙ ap is_quoted (place_at-append d places.Fresh front (13 ∷ []))
      ∙ return_quoted d (place_at d places.Fresh front) in
      rw e (sym whole)
  | inr e ↦ rw e refl
]

-- a look at a whole line, which begins outside of quotes, finds whether it ends within quotes
look_open : (form : LineForm) (line : List ℕ) (look : Look) → IsLook form line (Some look)
    → look.is_open ≡ is_quoted (place_then form places.Fresh line)
look_open forms.Tag line look is = let bad : Some look ≡ None = is in cc
look_open (forms.Row row) line look is = is.ends
look_open (forms.Csv row delimiter) line look is = is.ends ∙ content_quoted delimiter line

-- `result` tells whether a line ends within quotes: it is what the look found, or, where there was none, follows from
-- the place before the bytes `line` that came now
pub open_is : (form : LineForm) (kept line : List ℕ) (place : Place) (look : Option Look) (result : Bool) → IsAhead form kept line look
    → MatchOption look (result ≡ is_quoted (place_then form place line)) (λ l. result ≡ l.is_open)
    → (kept ≡ [] → place ≡ places.Fresh) → result ≡ is_quoted (place_then form place line)
open_is form kept line place None result ahead tells fresh = tells
open_is form kept line place (Some look) result ahead tells fresh =
    tells ∙ look_open form line look ahead.is_look ∙ ap (λ p. is_quoted (place_then form p line)) (sym (fresh ahead.whole))

-- where nothing is kept of the unfinished line, the place is that of a line's beginning
pub fresh_place : (T : Terms) (bytes out : List ℕ) (state : Answering) → IsTaken T bytes out state
    → state.kept.items ≡ [] → state.place ≡ places.Fresh
fresh_place T bytes out state t none = t.goes_on
    ∙ ap (place_of T.form) (nothing_kept T.form state.kept.items t.last t.kept none) ∙ (of_none T.form).closed

-- ---- what lines lack

-- the first `n` bytes of a text lack what the text lacks
lacks_front : (text : List ℕ) (lacks : Lacks) (n : ℕ) → LacksIn text lacks → LacksIn (take n text) lacks
lacks_front text lacks n known = record {
  returns = λ is. (All-take (λ byte. byte ≢ 13) n text (known.returns is).0, All-take (λ byte. byte ≢ 10) n text (known.returns is).1);
  quotes = λ is. All-take (λ byte. byte ≢ 34) n text (known.quotes is);
}

-- the content of a line lacks what the line lacks
pub content_lacks : (line : List ℕ) (lacks : Lacks) → LacksIn line lacks → LacksIn (content_of line) lacks
content_lacks line lacks known = elim (ends_with_byte 13 line) as (λ t. LacksIn (if t then take (length line - 1) line else line) lacks) [
  | true ↦ lacks_front line lacks (length line - 1) known
  | false ↦ known
]

-- the first line of a text lacks what the text is known to lack
pub line_lacks : (line after text : List ℕ) (lacks : Lacks) → IsOneLine line → text ≡ line ++ 10 ∷ after → IsKnownToLack text lacks
    → LacksIn (take (length line) text) lacks
line_lacks line after text lacks one split known = record {
  returns = λ is. (
    All-take (λ byte. byte ≢ 13) (length line) text (known.returns is),
    subst IsOneLine (sym (ap (take (length line)) split ∙ take-append_seam line (10 ∷ after))) one,
  );
  quotes = λ is. All-take (λ byte. byte ≢ 34) (length line) text (known.quotes is);
}

-- what follows the first line of a text is known to lack what the text is known to lack
pub after_lacks : (line after text : List ℕ) (lacks : Lacks) → text ≡ line ++ 10 ∷ after → IsKnownToLack text lacks
    → IsKnownToLack after lacks
after_lacks line after text lacks split known =
    let ended = line ++ 10 ∷ [] in
    let long : length line + 1 ≡ length ended = sym (length-append line (10 ∷ [])) in
    let is : drop (length line + 1) text ≡ after =
    rw (split ∙ sym (append_assoc line (10 ∷ []) after), long) (drop-append_seam ended after) in
    record {
      returns = λ yes. subst (IsFreeOf 13) is (All-drop (λ byte. byte ≢ 13) (length line + 1) text (known.returns yes));
      quotes = λ yes. subst (IsFreeOf 34) is (All-drop (λ byte. byte ≢ 34) (length line + 1) text (known.quotes yes));
    }
