-- Whether a text may be one of the 26 grandfathered tags, by its length and first byte: so few texts are compared with
-- the 26.
use Rattle.std.specs.Prelude.{ℕ, ◌==◌, ◌||◌, Bool, false, if◌then◌else◌}

-- whether one of the 26 texts has this many bytes and this first byte (105 is `i`, 110 `n`, 122 `z`, 101 `e`, 115 `s`,
-- 97 `a`, 99 `c`)
abbrev pub begins_listed : ℕ → ℕ → Bool
begins_listed length first =
    if length == 5 || length == 7 then first == 105
    else (if length == 6 then first == 110 || first == 122
    else (if length == 8 then first == 105 || first == 122
    else (if length == 9 then first == 101 || first == 105 || first == 115
    else (if length == 10 then first == 97 || first == 105 || first == 122
    else (if length == 11 then first == 99 else false)))))
