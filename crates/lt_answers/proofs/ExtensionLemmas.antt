-- Lemmas for `extensions`: the object that is appended for an extension, by the parts that were found in it, is the
-- value that is specified.
use Rattle.std.proofs.Common.{◌≡◌, refl, arith, ◌≢◌}
use Rattle.std.specs.Prelude.{Option, Some, None}
use Rattle.std.proofs.lemmas.Bool.Decides.{nat_tests}
use Rattle.lt_tag.specs.Parts.{ExtensionParts, TForm, UForm}
use Rattle.lt_tag.specs.Extensions.{IsTransform, IsUnicode, transform, unicode}
use Rattle.lt_tag.specs.Splitting.{transform_of, unicode_of}
use Rattle.lt_tag.proofs.PartsLaws.{t_decided, u_decided}
use Rattle.lt_answers.specs.Parts.{extension_value, plain_value, transform_value, unicode_value}

-- the value of a `u` extension with the parts `p` is the object of these parts
pub of_unicode : (e : ExtensionParts) (p : UForm) → e.singleton ≡ unicode → IsUnicode e.subtags p → unicode_value p ≡ extension_value e
unfolding extension_value
of_unicode e p s is = let found : unicode_of e.subtags ≡ Some p = (u_decided e.subtags p).1 is in rw (s, found) refl

-- the value of a `t` extension with the parts `p` is the object of these parts
pub of_transform : (e : ExtensionParts) (p : TForm) → e.singleton ≡ transform → IsTransform e.subtags p
    → transform_value p ≡ extension_value e
unfolding extension_value
of_transform e p s is = let found : transform_of e.subtags ≡ Some p = (t_decided e.subtags p).1 is in rw (s, found) refl

-- if the subtags of an extension have no parts of a `t` extension, splitting them, which gives `o`, finds none
none_found : (e : ExtensionParts) (o : Option TForm) → transform_of e.subtags ≡ o → ((p : TForm) → IsTransform e.subtags p → ⊥) → o ≡ None
none_found e None is none = refl
none_found e (Some p) is none = absurd (none p ((t_decided e.subtags p).0 is))

-- the value of a `t` extension whose subtags have no parts of one is the object of its subtags
pub of_no_transform : (e : ExtensionParts) → e.singleton ≡ transform → ((p : TForm) → IsTransform e.subtags p → ⊥)
    → plain_value e ≡ extension_value e
unfolding extension_value
of_no_transform e s none = let found : transform_of e.subtags ≡ None = none_found e (transform_of e.subtags) refl none in rw (s, found) refl

-- the value of an extension that is neither `u` nor `t` is the object of its subtags
pub of_other : (e : ExtensionParts) → e.singleton ≢ unicode → e.singleton ≢ transform → plain_value e ≡ extension_value e
unfolding extension_value
of_other e u t = grind (arith, nat_tests, u, t)
