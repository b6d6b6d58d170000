-- Examples of the normal forms of parts, each shown by computing it. The subtags of an extension are before the colon,
-- and 97 and 98 are the singletons `a` and `b`.
use Rattle.std.proofs.Common.{◌≡◌, ℕ, false, List, [], ◌∷◌, refl}
use Rattle.std.specs.Prelude.{codes}
use Rattle.lt_tag.specs.Parts.{FieldParts}
use Rattle.lt_rewrite.specs.Extensions.{separator_cmp, singleton_cmp}
use Rattle.lt_rewrite.proofs.Sorting.{sorted}
use Rattle.lt_rewrite.proofs.PartForms.{u_form, with_types as keyword, with_parts as parts}
use Rattle.lt_rewrite.proofs.ExtensionForms.{extension}

-- the field of a separator and its values
abbrev field : List ℕ → List (List ℕ) → FieldParts
field separator values = record { separator = separator; values = values }

-- foo-bar-foo-nu-latn-ca-buddhist-nu-arab: attributes and keywords are put in order, and of equal ones the first stays
repeated : u_form
    (parts (codes "foo" ∷ codes "bar" ∷ codes "foo" ∷ [])
    (keyword (codes "nu") (codes "latn" ∷ []) ∷ keyword (codes "ca") (codes "buddhist" ∷ [])
    ∷ keyword (codes "nu") (codes "arab" ∷ []) ∷ []))
    ≡ parts (codes "bar" ∷ codes "foo" ∷ []) (keyword (codes "ca") (codes "buddhist" ∷ []) ∷ keyword (codes "nu") (codes "latn" ∷ []) ∷ [])
repeated = refl

-- kn-true: a keyword loses the only type `true`
sole_true : u_form (parts [] (keyword (codes "kn") (codes "true" ∷ []) ∷ [])) ≡ parts [] (keyword (codes "kn") [] ∷ [])
sole_true = refl

-- kn-true-true: a keyword with two types keeps both
two_types : u_form (parts [] (keyword (codes "kn") (codes "true" ∷ codes "true" ∷ []) ∷ []))
    ≡ parts [] (keyword (codes "kn") (codes "true" ∷ codes "true" ∷ []) ∷ [])
two_types = refl

-- true: the attribute `true` stays
true_attribute : u_form (parts (codes "true" ∷ []) []) ≡ parts (codes "true" ∷ []) []
true_attribute = refl

-- m0-names-bgn-a0-xyz-m0-aaa: fields are put in order, may repeat, and keep the order of their values
fields : sorted false separator_cmp
    (field (codes "m0") (codes "names" ∷ codes "bgn" ∷ []) ∷ field (codes "a0") (codes "xyz" ∷ [])
    ∷ field (codes "m0") (codes "aaa" ∷ []) ∷ [])
    ≡ field (codes "a0") (codes "xyz" ∷ []) ∷ field (codes "m0") (codes "names" ∷ codes "bgn" ∷ [])
    ∷ field (codes "m0") (codes "aaa" ∷ []) ∷ []
fields = refl

-- b-ccc-bbb-a-aaa: extensions are put in the order of their singletons, and keep the order of their subtags
extensions : sorted false singleton_cmp (extension 98 (codes "ccc" ∷ codes "bbb" ∷ []) ∷ extension 97 (codes "aaa" ∷ []) ∷ [])
    ≡ extension 97 (codes "aaa" ∷ []) ∷ extension 98 (codes "ccc" ∷ codes "bbb" ∷ []) ∷ []
extensions = refl
