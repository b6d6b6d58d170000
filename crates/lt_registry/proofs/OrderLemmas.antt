-- What `is_up_to` needs: letter order, as the definitions have it, is the order of lists of bytes, by which the code
-- compares.
use Rattle.std.proofs.Common.{◌≡◌, ℕ, Bool, true, false, List, [], ◌∷◌, refl, arith}
use Rattle.std.specs.Ordering.{nat_cmp}
use Rattle.std.specs.Cmp.Lexicographic.{slice_cmp}
use Rattle.std.specs.declared.cmp.Ordering.{Ordering}
use Rattle.std.specs.declared.cmp.Ordering.TheVariants.{Less, Equal, Greater}
use Rattle.std.proofs.lemmas.Bool.Decides.{nat_tests}
use Rattle.lt_registry.specs.Entries.{letters_le}

-- whether an order is Less or Equal
abbrev pub at_most : Ordering → Bool
at_most Less = true
at_most Equal = true
at_most Greater = false

-- letter order is the order of lists of bytes
pub letters_le_is : (a b : List ℕ) → letters_le a b ≡ at_most (slice_cmp nat_cmp a b)
letters_le_is [] [] = refl
letters_le_is [] (y ∷ ys) = refl
letters_le_is (x ∷ xs) [] = refl
letters_le_is (x ∷ xs) (y ∷ ys) = grind (arith, nat_tests, letters_le_is xs ys)
