-- For `Recent`: a new cache has 8,192 places, all empty, which a contract sees even before they are made.
use Rattle.std.proofs.Common.{◌≡◌, ◌<◌, ◌∷◌, ℕ, zero, suc, List, [], Option, None, length, replicate, refl, ap, arith}
use Rattle.std.specs.List.{All}
use Rattle.std.proofs.lemmas.List.Elements.{All-nil, All-cons}
use Rattle.lt_cache.specs.Places.{blank_places, made}
use Rattle.lt_cache.specs.Recent.{IsBlank}
use Rattle.lt_cache.specs.declared.recent.Kept.{Kept}

-- `n` empty places are all empty
blank_is : (n : ℕ) → All (λ (place : Option Kept). place ≡ None) (replicate n None)
blank_is zero = All-nil (λ (place : Option Kept). place ≡ None)
blank_is (suc n) = All-cons (λ (place : Option Kept). place ≡ None) None (replicate n None) refl (blank_is n)

-- the places of a new cache hold no answer
pub places_blank : IsBlank blank_places
unfolding blank_places
places_blank = blank_is 8192

-- 8,192 empty places are those of a new cache
pub places_blank_are : (n : ℕ) → n ≡ 8192 → replicate n None ≡ blank_places
unfolding blank_places
places_blank_are n e = ap (λ k. replicate k None) e

-- places of which there are some were made, and are those of the cache
pub made_some : (places : List (Option Kept)) → 0 < length places → made places ≡ places
made_some [] some = absurd (omega (arith, some))
made_some (place ∷ places) some = refl
