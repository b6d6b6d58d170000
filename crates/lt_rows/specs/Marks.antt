-- Byte order marks at the beginning of a text: that of UTF-8 (RFC 3629, 6), and those of UTF-16 (RFC 2781, 3.2).
use Rattle.std.specs.Prelude.{◌≡◌, ◌⊎◌, ℕ, List, [], ◌∷◌, ◌++◌}

-- the byte order mark of UTF-8
abbrev pub utf8_mark : List ℕ
utf8_mark = 239 ∷ 187 ∷ 191 ∷ []

-- the byte order mark of UTF-16 in which the higher byte comes first
abbrev pub big_mark : List ℕ
big_mark = 254 ∷ 255 ∷ []

-- the byte order mark of UTF-16 in which the lower byte comes first
abbrev pub little_mark : List ℕ
little_mark = 255 ∷ 254 ∷ []

-- the text begins with the bytes of `front`
abbrev pub Begins : List ℕ → List ℕ → Type 0
Begins front text = (rest : List ℕ) × (text ≡ front ++ rest)

-- the text begins with a byte order mark of UTF-16
abbrev pub IsWide : List ℕ → Type 0
IsWide text = Begins big_mark text ⊎ Begins little_mark text

-- the text is a front of the mark, and lacks at least one byte of it
abbrev pub IsShortOf : List ℕ → List ℕ → Type 0
IsShortOf mark text = (byte : ℕ) × (rest : List ℕ) × (mark ≡ text ++ byte ∷ rest)

-- the text is a front of a byte order mark, and not yet the whole of it
abbrev pub MayBeMark : List ℕ → Type 0
MayBeMark text = IsShortOf utf8_mark text ⊎ IsShortOf big_mark text ⊎ IsShortOf little_mark text

-- the byte order mark of UTF-8 at the beginning of a text, or nothing where it has none, and the rest of the text
pub record SplitsMark (text mark rest : List ℕ) : Type 0 where
  pub whole : text ≡ mark ++ rest
  pub is_mark : (mark ≡ utf8_mark) ⊎ ((mark ≡ []) × (Begins utf8_mark text → ⊥))
