-- Keywords in the order of their keys, none of which has a type `true` (RFC 6067, 2.1.1): a `u` extension of such
-- keywords is in its normal form.
use Rattle.std.specs.Prelude.{ℕ, ◌&&◌, not, if◌then◌else◌, Bool, true, false, List, [], ◌∷◌, Option, Some, None}
use Rattle.std.specs.Prelude.{bytes_eq, codes}
use Rattle.std.proofs.Common.{Ordering, Less, Equal, Greater}
use Rattle.std.specs.Option.{option_map_or}
use Rattle.lt_subtag.specs.Shapes.{is_key}
use Rattle.lt_tag.specs.Extensions.{is_long}
use Rattle.lt_rewrite.specs.Extensions.{text_cmp}

-- whether an order is Greater
abbrev pub is_above : Ordering → Bool
is_above Less = false
is_above Equal = false
is_above Greater = true

-- whether a key comes after the key before it, if there is one (RFC 6067, 2.1.1)
abbrev pub comes_after : Option (List ℕ) → List ℕ → Bool
comes_after None key = true
comes_after (Some last) key = is_above (text_cmp key last)

-- whether a subtag is a type of a keyword other than `true` (RFC 6067, 2.1)
abbrev pub is_type : List ℕ → Bool
is_type s = is_long s && not (bytes_eq s (codes "true"))

-- the last key once the subtag `s` follows it: `s` if that is a key after it, the same last key if `s` is a type other
-- than `true`, and else None; before the first key `last` is None
abbrev pub next_key : Option (List ℕ) → List ℕ → Option (List ℕ)
next_key last s =
    if is_key s then (if comes_after last s then Some s else None)
    else (if is_type s then last else None)

-- whether the subtags are types of the last key, if there is one, and then keywords with rising keys, none of which has
-- a type `true`
abbrev pub keys_rise : Option (List ℕ) → List (List ℕ) → Bool
keys_rise last [] = true
keys_rise last (s ∷ ss) = option_map_or (λ (key : List ℕ). keys_rise (Some key) ss) (next_key last s) false
