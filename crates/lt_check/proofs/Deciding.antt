-- `Decides b P` says that the Boolean `b` is true exactly if `P` is. Tests that decide whether a property is true of
-- each element of a list, and whether two lists of subtags are equal. And tests of equality that give true for an
-- extension or a tag and itself.
use Rattle.std.proofs.Common.{◌≡◌, ℕ, Bool, true, List, [], ◌∷◌, refl, bytes_eq, All}
use Rattle.std.specs.Bool.{Decides}
use Rattle.std.specs.List.{AllByRecursion, list_all}
use Rattle.std.specs.Cmp.Lexicographic.{pointwise}
use Rattle.std.proofs.lemmas.Bool.{eq-eqb}
use Rattle.std.proofs.lemmas.Bool.Decides.{Decides-and, Decides-by_and}
use Rattle.std.proofs.lemmas.Slice.Eq.{bytes_eq-Decides, slice_eq-Decides}
use Rattle.lt_tag.specs.Parts.{ExtensionParts, TagForm, LangTag, PrivateUse, Grandfathered}
use Rattle.lt_registry.specs.Same.{same_list, same_extension, same_tag}
use Rattle.lt_rewrite.proofs.Same.{same_core-Decides}

-- a test decides whether it is true
pub Decides-true : (b : Bool) → Decides b (b ≡ true)
Decides-true b = ((λ h. h), (λ h. h))

-- if the test `q` decides the property `P` of each element, `q` of all elements decides `P` of all
pub Decides-all : {A : Type 0} (P : A → Type 0) (q : A → Bool) → ((a : A) → Decides (q a) (P a)) → (xs : List A)
    → Decides (list_all q xs) (All P xs)
Decides-all P q d xs = Decides-by_and q P (list_all q) d refl (λ _ _. refl) xs

-- if the test `q` decides the property `P` of each element, `q` of all elements decides `P` of all, stated by recursion
pub Decides-each : {A : Type 0} (P : A → Type 0) (q : A → Bool) → ((a : A) → Decides (q a) (P a)) → (xs : List A)
    → Decides (list_all q xs) (AllByRecursion P xs)
Decides-each P q d [] = ((λ h. tt), (λ f. refl))
Decides-each P q d (x ∷ xs) = Decides-and (q x) (list_all q xs) (d x) (Decides-each P q d xs)

-- the test `same_list` decides whether two lists of subtags are equal
pub Decides-list : (a b : List (List ℕ)) → Decides (same_list a b) (a ≡ b)
Decides-list a b = slice_eq-Decides bytes_eq-Decides a b (pointwise bytes_eq a b) refl

-- the test `same_extension` is true of each extension and itself
same_extensions_itself : (es : List ExtensionParts) → pointwise same_extension es es ≡ true
same_extensions_itself [] = refl
same_extensions_itself (e ∷ es) =
    let one = eq-eqb e.singleton e.singleton refl in
    rw (one, (Decides-list e.subtags e.subtags).1 refl, same_extensions_itself es) refl

-- the test `same_tag` is true of a tag and itself
pub same_tag_itself : (t : TagForm) → same_tag t t ≡ true
same_tag_itself (LangTag c es ps) =
    rw ((same_core-Decides c c).1 refl, same_extensions_itself es, (Decides-list ps ps).1 refl) refl
same_tag_itself (PrivateUse ps) = (Decides-list ps ps).1 refl
same_tag_itself (Grandfathered n) = eq-eqb n n refl
