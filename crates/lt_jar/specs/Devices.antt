-- What contracts see of a device, a reader or writer that counts its reads and failures, up to the greatest u64.
use Rattle.std.specs.Prelude.{◌≡◌, ◌<◌, ◌-◌, ◌+◌, ◌^◌, ◌⊎◌, ◌&&◌, ℕ, zero, suc, List, length, min, if◌then◌else◌}
use Rattle.std.specs.Prelude.{nat_lt, nat_eq, Result, Ok, Err}
use Rattle.lt_jar.specs.declared.devices.Device.{Device}

-- the reader or the writer in a device
abbrev pub inner_of : {T : Type 0} → Device T → T
inner_of device = device.inner

-- how often a device failed
abbrev pub failures_of : {T : Type 0} → Device T → ℕ
failures_of device = device.failures

-- how often a device was read
abbrev pub reads_of : {T : Type 0} → Device T → ℕ
reads_of device = device.reads

-- how many bytes the last read of a device gave
abbrev pub last_given_of : {T : Type 0} → Device T → ℕ
last_given_of device = device.last_given

-- how many bytes a read with this answer gave
abbrev pub given_by : {E : Type 0} → Result ℕ E → ℕ
given_by (Ok n) = n
given_by (Err error) = 0

-- the greatest count, which stays as it is when one is added
abbrev pub greatest_count : ℕ
greatest_count = 2 ^ 64 - 1

-- a count after one is added: the greatest stays as it is
abbrev pub one_more : ℕ → ℕ
one_more count = min (count + 1) greatest_count

-- a count after so many reads, each of which adds one to it
abbrev pub after_reads : ℕ → ℕ → ℕ
after_reads count zero = count
after_reads count (suc reads) = one_more (after_reads count reads)

-- the count of failures after a read with this answer, by the count before it
abbrev pub failures_after_read : {E : Type 0} → Result ℕ E → ℕ → ℕ
failures_after_read (Ok n) failures = failures
failures_after_read (Err error) failures = one_more failures

-- the count of failures after a write of these bytes with this answer, by the count before it: to take none of them,
-- if there are any, is a failure
abbrev pub failures_after_write : {E : Type 0} → Result ℕ E → List ℕ → ℕ → ℕ
failures_after_write (Ok n) bytes failures =
    if nat_eq n 0 && nat_lt 0 (length bytes) then one_more failures else failures
failures_after_write (Err error) bytes failures = one_more failures

-- the device failed between its states `old` and `new`, as its count of failures rose, or is the greatest
abbrev pub HasFailed : {T : Type 0} → Device T → Device T → Type 0
HasFailed old new = (failures_of old < failures_of new) ⊎ (failures_of new ≡ greatest_count)
