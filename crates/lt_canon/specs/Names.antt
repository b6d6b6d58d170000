-- The names of refusals, as they are printed.
use Rattle.std.specs.Prelude.{ℕ, List, codes}
use Rattle.lt_tag.specs.Names as texts
use Rattle.lt_registry.specs.Names as tags
use Rattle.lt_canon.specs.declared.refusals.Refusal.{Refusal}
use Rattle.lt_canon.specs.declared.refusals.Refusal.TheVariants as refusals
use Rattle.lt_canon.specs.declared.refusals.TextRefusal.{TextRefusal}
use Rattle.lt_canon.specs.declared.refusals.TextRefusal.TheVariants as text_refusals

-- the name of the refusal of a tag
abbrev pub refusal_name_of : Refusal → List ℕ
refusal_name_of (refusals.Invalid fault) = tags.name_of fault.kind
refusal_name_of (refusals.ReplacementRepeats v) = codes "ReplacementRepeats"
refusal_name_of refusals.OutOfMemory = codes "OutOfMemory"

-- the name of the refusal of a text
abbrev pub text_refusal_name_of : TextRefusal → List ℕ
text_refusal_name_of (text_refusals.NotATag fault) = texts.name_of fault.kind
text_refusal_name_of (text_refusals.Invalid fault) = tags.name_of fault.kind
text_refusal_name_of (text_refusals.ReplacementRepeats v) = codes "ReplacementRepeats"
text_refusal_name_of text_refusals.OutOfMemory = codes "OutOfMemory"
