-- Lemmas for `answer_line`, which counts a refused line by what is kept of it. Of a long tag only a front, its first
-- 1,027 bytes, is kept, which is enough: the tallies show only its first 64.
use Rattle.std.proofs.Common.{◌≡◌, ◌<◌, ◌-◌, ◌++◌, ◌∷◌, ◌∙◌, inl, inr, ℕ, List, [], Bool, true, false, length, take}
use Rattle.std.proofs.Common.{sym, ap, refl, subst, arith, if◌then◌else◌, take_all, length-take-le}
use Rattle.std.proofs.lemmas.Bool.Decides.{leb_tells}
use Rattle.std.proofs.lemmas.List.{take-take}
use Rattle.std.specs.Io.BufRead.{ends_with_byte}
use Rattle.lt_jar.specs.Lines.{content_of}
use Rattle.lt_stream.specs.declared.tallies.Tally.{Tally}
use Rattle.lt_lines.specs.Answering.{KeepsPart, kept_of, longest_kept, part_kept}
use Rattle.lt_lines.specs.Tallied.{CountsIf, line_at, most_shown}
use Rattle.lt_lines.specs.declared.forms.LineForm.{LineForm}
use Rattle.lt_lines.specs.declared.forms.LineForm.TheVariants as forms
use Rattle.lt_lines.proofs.PartLemmas.{kept_more, nothing_kept}

-- of a line longer than `most_shown` the same front is shown with and without a carriage return at its end
content_front : (line : List ℕ) → most_shown < length line → take most_shown (content_of line) ≡ take most_shown line
content_front line long =
    elim (ends_with_byte 13 line) as (λ t. take most_shown (if t then take (length line - 1) line else line)
    ≡ take most_shown line) [
      | true ↦ take-take most_shown (length line - 1) line (omega (arith, long))
      | false ↦ refl
    ]

-- of a line and of its kept front the same bytes are shown, since more bytes are kept than are shown
front_kept : (line : List ℕ) → take most_shown (content_of (take longest_kept line)) ≡ take most_shown (content_of line)
front_kept line = elim (leb_tells (length line) longest_kept) [
  | inl short ↦ ap (λ (l : List ℕ). take most_shown (content_of l)) (take_all longest_kept line short.1)
  | inr long ↦
      content_front (take longest_kept line) (omega (arith, length-take-le longest_kept line (omega (arith, long.1))))
      ∙ take-take most_shown longest_kept line (omega arith) ∙ sym (content_front line (omega (arith, long.1)))
]

-- a line that is counted by what is kept of it is counted just as if all of it had been kept
counts_for_kept : (form : LineForm) (number : ℕ) (line bytes : List ℕ) (refused : Bool) (old new : List Tally)
    → CountsIf form number (kept_of form line) bytes refused old new → CountsIf form number line bytes refused old new
counts_for_kept form number line bytes false old new same = same
counts_for_kept forms.Tag number line bytes true old new c =
    let f = c.is_refused in
    record {
      one = c.one;
      is_refused = record {
        number_is = f.number_is;
        fault = f.fault;
        text = content_of line;
        is_text = refl;
        front = f.front ∙ ap (take most_shown) f.is_text ∙ front_kept line;
      };
      counted = c.counted;
    }
counts_for_kept form number line bytes true old new c = c

-- A line that comes in pieces and is counted by what is kept of it is counted just as if all of it had been kept.
-- `last` is the front of the line, of which `before` was kept, and `part` its last bytes, with which `kept` is kept.
-- Where nothing was kept, the line is only `part`.
pub counts_line : (form : LineForm) (number : ℕ) (last part bytes before kept : List ℕ) (refused : Bool) (old new : List
    Tally) → before ≡ kept_of form last → KeepsPart form before part kept
    → CountsIf form number (line_at kept part) bytes refused old new → CountsIf form number (last ++ part) bytes refused old new
counts_line form number last part bytes [] kept refused old new is keeps c =
    subst (λ (l : List ℕ). CountsIf form number (l ++ part) bytes refused old new) (sym (nothing_kept form [] last is refl))
    (subst (λ (l : List ℕ). CountsIf form number (line_at l part) bytes refused old new) keeps c)
counts_line form number last part bytes (byte ∷ before) kept refused old new is keeps c =
    let whole = (byte ∷ before) ++ part_kept form (length (byte ∷ before)) part in
    counts_for_kept form number (last ++ part) bytes refused old new
    (subst (λ (l : List ℕ). CountsIf form number l bytes refused old new) (kept_more form (byte ∷ before) last part whole is refl)
    (subst (λ (l : List ℕ). CountsIf form number (line_at l part) bytes refused old new) keeps c))

-- where nothing was kept of a line before its last bytes, nothing is kept of it
pub keeps_none : (form : LineForm) (old part : List ℕ) → old ≡ [] → KeepsPart form old part old
keeps_none form old part none = subst (λ (l : List ℕ). KeepsPart form l part l) (sym none) refl

-- where some bytes were kept of a line, what is to be kept of its last bytes follows them
pub keeps_some : (form : LineForm) (old part new : List ℕ) → (old ≡ [] → ⊥)
    → new ≡ old ++ part_kept form (length old) part → KeepsPart form old part new
keeps_some form [] part new some is = absurd (some refl)
keeps_some form (byte ∷ old) part new some is = is
