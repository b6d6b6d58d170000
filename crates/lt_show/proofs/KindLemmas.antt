-- For `append_unicode` and `append_transform`: the subtags of a `u` or `t` extension have the kinds of the parts into
-- which it can be split. Those of a `t` extension that can't be split are all ExtensionSubtag.
use Rattle.std.proofs.Common.{◌≡◌, refl}
use Rattle.std.specs.Prelude.{Option, Some, None}
use Rattle.lt_tag.specs.Parts.{ExtensionParts, UForm, TForm}
use Rattle.lt_tag.specs.Extensions.{unicode, transform, IsUnicode, IsTransform}
use Rattle.lt_tag.specs.Splitting.{unicode_of, transform_of}
use Rattle.lt_tag.proofs.PartsLaws.{u_decided, t_decided}
use Rattle.lt_show.specs.PartKinds.{each, u_kinds, t_kinds, subtag_kinds}
use Rattle.lt_show.specs.declared.kinds.PartKind.TheVariants as kinds

-- the kinds of the subtags of a `u` extension are those of its parts
pub unicode_kinds : (e : ExtensionParts) (parts : UForm) → e.singleton ≡ unicode → IsUnicode e.subtags parts
    → subtag_kinds e ≡ u_kinds parts
unicode_kinds e parts h k =
    let found : unicode_of e.subtags ≡ Some parts = (u_decided e.subtags parts).1 k in
    rw (h, found) refl

-- the kinds of the subtags of a `t` extension are those of its parts
pub transform_kinds : (e : ExtensionParts) (parts : TForm) → e.singleton ≡ transform → IsTransform e.subtags parts
    → subtag_kinds e ≡ t_kinds parts
transform_kinds e parts h k =
    let found : transform_of e.subtags ≡ Some parts = (t_decided e.subtags parts).1 k in
    rw (h, found) refl

-- an option that has no value is None
none_is : {A : Type 0} (o : Option A) → ((a : A) → o ≡ Some a → ⊥) → o ≡ None
none_is None h = refl
none_is (Some a) h = absurd (h a refl)

-- the subtags of a `t` extension that has no parts are all ExtensionSubtag
pub no_transform_kinds : (e : ExtensionParts) → e.singleton ≡ transform
    → ((parts : TForm) → IsTransform e.subtags parts → ⊥) → subtag_kinds e ≡ each kinds.ExtensionSubtag e.subtags
no_transform_kinds e h k =
    let found : transform_of e.subtags ≡ None = none_is _ (λ parts f. k parts ((t_decided e.subtags parts).0 f)) in
    rw (h, found) refl
