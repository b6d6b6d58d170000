-- The numbers of the program's exit statuses, which the contract of a whole run cites.
use Rattle.std.specs.Prelude.{ℕ}
use Rattle.lt_tool.specs.declared.status.Status.{Status}
use Rattle.lt_tool.specs.declared.status.Status.TheVariants as status

-- the number of an exit status: 0 done, 1 refused or a negative answer, 2 a file refused, 3 wrong usage, 4 a failure of
-- a device or of memory
abbrev pub code_of : Status → ℕ
code_of status.Done = 0
code_of status.Refused = 1
code_of status.RegistryRefused = 2
code_of status.Usage = 3
code_of status.Failed = 4
