use Rattle.std.proofs.Common.{◌∙◌, ◌++◌, ◌∷◌, ◌+◌, ◌-◌, ◌≡◌, List, ℕ, sym, ap, subst, take, drop, arith}
use Rattle.std.proofs.lemmas.Str.{IsCharBoundary-after_ascii}
use Rattle.lt_jar.specs.Lines.{IsOneLine}
use Rattle.lt_jar.proofs.CutLemmas.{IsFirstFeed, cut_at, feed_at}
use Rattle.lt_jar.proofs.lines.split_text.Goals as goal

-- the slice of the text behind this index cuts no character, since the byte there is a line feed, an ASCII byte (10)
pub range_from-requires : goal.range_from-requires
range_from-requires c =
    let text = c.args.text.now in
    let at = feed_at text c.in-Some.i (subst (IsFirstFeed c.in-Some.i) c.as_bytes.ensures.value (c.in-Some.ensures {u = tt})) in
    λ _. IsCharBoundary-after_ascii text c.in-Some.i c.utf8.text at.0 (omega (arith, at.1))

-- the text is what is before its first line feed, the line feed, and what is after it
pub returns-in-Some : goal.returns-in-Some
returns-in-Some c =
    let text = c.args.text.now in
    let i = c.in-Some.i in
    let at = feed_at text i (subst (IsFirstFeed i) c.as_bytes.ensures.value (c.in-Some.ensures {u = tt})) in
    let same : i - 0 ≡ i = omega arith in
    let front : c.range.result.now ≡ take i text = c.range.ensures.value ∙ ap (λ (n : ℕ). take n text) same in
    let back = c.range_from.ensures.value in (
      subst IsOneLine (sym front) at.2,
      cut_at text i at.0 at.1 ∙ ap (λ (l : List ℕ). l ++ 10 ∷ drop (i + 1) text) (sym front)
          ∙ ap (λ (l : List ℕ). c.range.result.now ++ 10 ∷ l) (sym back),
    )
