-- The record with the lowest number from whose value the chain of values has no end (RFC 5646, 3.1.7), and the orders
-- in which records are looked at to find it.
use Rattle.std.specs.Prelude.{ℕ, ◌≡◌, ◌<◌, ◌*◌, ◌%◌, ◌^◌, List, All, Contains}
use Rattle.lt_registry.specs.Parts.{EntryParts}
use Rattle.lt_rewrite.specs.Conditions.{HasEndingChain}
use Rattle.lt_rewrite.specs.declared.cycles.Order.{Order}
use Rattle.lt_rewrite.specs.declared.cycles.Order.TheVariants as orders

-- this is the lowest number of a record from whose value the chain of values has no end
pub record IsFirstCycle (R : List EntryParts) (number : ℕ) : Type 0 where
  pub entry : EntryParts
  pub there : Contains R entry
  pub numbered : entry.number ≡ number
  pub endless : HasEndingChain R entry → ⊥
  pub lower : All (λ f. f.number < number → HasEndingChain R f) R

-- The place that an order gives to the record with this number. In File it is the number itself. In Mixed it is the
-- number times 2654435769, which is 2^32 over the golden ratio, modulo 2^32, and has nothing to do with the file.
unfoldable pub place : Order → ℕ → ℕ
place orders.File number = number
place orders.Mixed number = number * 2654435769 % 2 ^ 32

-- the chains from the values of all records whose place in an order is below `before` end
abbrev pub EarlierEnd : List EntryParts → Order → ℕ → Type 0
EarlierEnd R order before = All (λ f. place order f.number < before → HasEndingChain R f) R

-- if the chains from the values of all records before the record `e` in an order end, the chain from the value of `e`
-- ends; if this is true of every record, all chains end
abbrev pub EndsAfterEarlier : List EntryParts → Order → EntryParts → Type 0
EndsAfterEarlier R order e = EarlierEnd R order (place order e.number) → HasEndingChain R e
