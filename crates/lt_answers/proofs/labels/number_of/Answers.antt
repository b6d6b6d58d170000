use Rattle.std.proofs.Common.{◌≡◌, ◌∙◌, sym, subst, arith, decimal, IsUtf8}
use Rattle.std.proofs.lemmas.Bool.{false≢true}
use Rattle.std.proofs.lemmas.Bool.Decides.{Decides-eqb}
use Rattle.std.proofs.lemmas.Fmt.{IsAscii-decimal, parse-decimal}
use Rattle.std.proofs.lemmas.Slice.Eq.{slice_eq-Decides}
use Rattle.std.proofs.lemmas.Str.{IsUtf8-from_ascii}
use Rattle.lt_answers.proofs.labels.number_of.Goals as goal

-- The clause of `number_of`: IsNoNumber where the answer is None, and else that the digits are the number's.

-- the decimal form of a number is ASCII, and so it is UTF-8, but these bytes are not
pub returns-in_default : goal.returns-in_default
returns-in_default c = λ n h e. c.in_default.ensures.cases.0
    (subst IsUtf8 e (IsUtf8-from_ascii (decimal n) (IsAscii-decimal n (omega (arith, h)))))

-- the decimal form of a number of 32 bits is parsed as that number, but these digits are not parsed
pub returns-in_default-parse : goal.returns-in_default-parse
returns-in_default-parse c = λ n h e.
    c.in_default-parse.not-Ok n (parse-decimal 32 n c.in-Ok.text.now c.parse.result h (omega (arith, h))
    (c.in-Ok.ensures.cases.0 ∙ sym e) c.parse.ensures.value.0)

-- the number is printed as these digits, so they are its decimal form
pub returns-then-eq : goal.returns-then-eq
returns-then-eq c = (
  omega (arith, c.in-Ok-parse.ensures.value.0),
  sym c.format.ensures.text
      ∙ (slice_eq-Decides Decides-eqb _ _ _ c.eq.ensures).0 c.if-eq.true ∙ c.in-Ok.ensures.cases.0,
)

-- a number whose decimal form these digits are would be the one that was parsed, which is printed otherwise
pub returns-else-eq : goal.returns-else-eq
returns-else-eq c = λ n h e.
    let read = parse-decimal 32 n c.in-Ok.text.now c.parse.result h (omega (arith, h)) (c.in-Ok.ensures.cases.0 ∙ sym e)
    c.parse.ensures.value.0 in
    let number : c.in-Ok-parse.number ≡ n = cc (read, c.in-Ok-parse.is) in
    let text : c.format.result.now ≡ c.in-Ok.text.now = cc (c.format.ensures.text, number, e, c.in-Ok.ensures.cases.0) in
    false≢true (sym c.if-eq.false ∙ (slice_eq-Decides Decides-eqb _ _ _ c.eq.ensures).1 text)
