use Rattle.std.proofs.Common.{◌≡◌, replicate}
use Rattle.lt_codes.proofs.IndexLemmas.{indexed_none}
use Rattle.lt_codes.proofs.codes.CodeTable.new.Goals as goal

-- the new table keeps what each table keeps (AreIndexed): it has no codes, and each of the 17,576 numbers of three
-- letters has the place 0, which says that there is none
pub invariant_of-result : goal.invariant_of-result
invariant_of-result c =
    let places = c.in_ok-vec.field-0.items in
    let is : places ≡ replicate 17576 0 = (c.in_ok-vec.ensures {u = tt}).items_if_clones_equal (λ y h. h) in
    rw c.new.ensures.items (indexed_none places is)
