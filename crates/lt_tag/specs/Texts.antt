-- The text of a tag.
use Rattle.std.specs.Prelude.{ℕ, List}
use Rattle.lt_tag.specs.Conventional.{conventional}
use Rattle.lt_tag.specs.Parts.{TagForm}
use Rattle.lt_tag.specs.WellFormed.{spell}

-- the text of a tag in conventional case (RFC 5646, 2.1.1)
abbrev pub text_of : TagForm → List ℕ
text_of tag = conventional (spell tag)
