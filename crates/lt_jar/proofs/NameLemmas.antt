-- What `kind_of` and `body_again` need: a line that begins a field has a name of only *name bytes*, which are letters,
-- digits and hyphens. And a line that begins with a known name and a colon begins a field of this name.
use Rattle.std.proofs.Common.{◌≡◌, ◌≢◌, Bool, true, false, ◌&&◌, ◌==◌, if◌then◌else◌, ◌∙◌, ◌<◌, ◌+◌, ◌∷◌, ◌++◌, ℕ, suc}
use Rattle.std.proofs.Common.{List, [], refl, sym, ap, length, get_or, take, drop, arith, add-one}
use Rattle.std.specs.List.{list_all}
use Rattle.std.proofs.Math.Seq.{drop-append_seam, drop-cons}
use Rattle.std.proofs.lemmas.Bool.{cond_both}
use Rattle.std.proofs.lemmas.Bool.Decides.{nat_tests}
use Rattle.std.proofs.lemmas.List.{take-append-drop}
use Rattle.lt_jar.specs.Lines.{content_of}
use Rattle.lt_jar.specs.LineKinds.{HasName, IsNamed, Line, Blank, Separator, Continuation, Start, begins_blank}
use Rattle.lt_jar.specs.LineKinds.{is_blank, is_name_byte, kind_of_content, line_of, name_at_front, separates, start_by}
use Rattle.lt_jar.specs.LineKinds.{start_of, trim, trim_start}

-- the longest front of name bytes is made of name bytes
front_named : (text : List ℕ) → IsNamed (name_at_front text)
front_named [] = refl
front_named (byte ∷ rest) =
    cond_both (is_name_byte byte) (byte ∷ name_at_front rest) [] IsNamed (λ is. rw is (front_named rest)) (λ not. refl)

-- a line that begins with a name, made of name bytes, has a name of such bytes if it begins a field
started_named : (name rest : List ℕ) → IsNamed name → HasName (start_by name rest)
started_named [] rest named = tt
started_named (byte ∷ name) [] named = tt
started_named (byte ∷ name) (colon ∷ body) named =
    cond_both (colon == 58) _ _ HasName (λ is. named) (λ not. tt)

-- a line without its carriage return has a name of name bytes if it begins a field
content_named : (text : List ℕ) → HasName (kind_of_content text)
content_named text =
    cond_both (begins_blank text) _ _ HasName (λ is. tt)
    (λ not. cond_both (separates text) _ _ HasName (λ is. tt)
    (λ other. started_named (name_at_front text) (trim_start (drop (length (name_at_front text)) text)) (front_named text)))

-- a line has a name of name bytes if it begins a field
pub line_named : (line : List ℕ) → HasName (line_of line)
line_named line = cond_both (list_all is_blank (content_of line)) _ _ HasName (λ is. tt) (λ not. content_named (content_of line))

-- the first byte of a name is a name byte, and the others are too
first_named : (byte : ℕ) (name : List ℕ) → IsNamed (byte ∷ name) → (is_name_byte byte ≡ true) × IsNamed name
first_named byte name named = cond_both_and (is_name_byte byte) (list_all is_name_byte name) named
  where
    cond_both_and : (a b : Bool) → a && b ≡ true → (a ≡ true) × (b ≡ true)
    cond_both_and true b h = (refl, h)
    cond_both_and false b h = (h, cc)

-- a name byte is neither a space nor a tab
not_blank : (byte : ℕ) → is_name_byte byte ≡ true → is_blank byte ≡ false
not_blank byte is = grind (arith, nat_tests)

-- a name byte is no percent sign (37), so no line that begins with one is a separator
not_percent : (byte : ℕ) → is_name_byte byte ≡ true → (byte == 37) ≡ false
not_percent byte is = grind (arith, nat_tests)

-- a name in front of a colon (58) is the longest front of name bytes
front_is : (name rest : List ℕ) → IsNamed name → name_at_front (name ++ 58 ∷ rest) ≡ name
front_is [] rest named = refl
front_is (byte ∷ name) rest named =
    let parts = first_named byte name named in rw parts.0 (ap (λ l. byte ∷ l) (front_is name rest parts.1))

-- a line that begins with a name byte is no separator
no_separator : (byte : ℕ) (name rest : List ℕ) → is_name_byte byte ≡ true → separates (byte ∷ (name ++ 58 ∷ rest)) ≡ false
no_separator byte [] rest is = rw (not_percent byte is) refl
no_separator byte (next ∷ name) rest is = rw (not_percent byte is) refl

-- a line that is a name, a colon (58) and a rest begins a field of that name, whose body is the rest, trimmed
content_again : (name rest : List ℕ) → IsNamed name → name ≢ [] → kind_of_content (name ++ 58 ∷ rest) ≡ Start name (trim rest)
content_again [] rest named some = absurd (some refl)
content_again (byte ∷ name) rest named some =
    let parts = first_named byte name named in
    let text = byte ∷ (name ++ 58 ∷ rest) in
    ap (λ (b : Bool). if b then Continuation (trim text) else (if separates text then Separator else start_of text))
    (not_blank byte parts.0)
    ∙ ap (λ (b : Bool). if b then Separator else start_of text) (no_separator byte name rest parts.0)
    ∙ ap (λ (n : List ℕ). start_by n (trim_start (drop (length n) text))) (front_is (byte ∷ name) rest named)
    ∙ ap (λ (l : List ℕ). start_by (byte ∷ name) (trim_start l)) (drop-append_seam (byte ∷ name) (58 ∷ rest))

-- what a line is, by its bytes without the carriage return
by_content : List ℕ → Line
by_content text = if list_all is_blank text then Blank else kind_of_content text

-- A line is a name, a colon (58) and a rest, perhaps with a carriage return behind it. So it begins a field of that
-- name, whose body is the rest, trimmed.
pub line_again : (line name rest : List ℕ) → IsNamed name → name ≢ [] → content_of line ≡ name ++ 58 ∷ rest
    → line_of line ≡ Start name (trim rest)
unfolding by_content
line_again line [] rest named some is = absurd (some refl)
line_again line (byte ∷ name) rest named some is =
    let parts = first_named byte name named in
    let text = byte ∷ (name ++ 58 ∷ rest) in
    ap by_content is
    ∙ ap (λ (b : Bool). if b && list_all is_blank (name ++ 58 ∷ rest) then Blank else kind_of_content text) (not_blank byte parts.0)
    ∙ content_again (byte ∷ name) rest named some

-- a text that has a colon (58) behind its first bytes, which are the name, is the name, the colon and what follows
pub again_split : (text name : List ℕ) → length name < length text → get_or text (length name) 0 ≡ 58 → take (length name) text ≡ name
    → text ≡ name ++ 58 ∷ drop (length name + 1) text
again_split text name below colon front =
    let n = length name in
    let back = drop-cons text n 0 below ∙ ap (λ b. b ∷ drop (suc n) text) colon in
    rw add-one (sym (take-append-drop n text) ∙ ap (λ l. l ++ drop n text) front ∙ ap (λ l. name ++ l) back)
