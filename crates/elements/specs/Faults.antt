-- The rules' code of each fault.
use Rattle.std.specs.Prelude.{ℕ}
use Rattle.elements.specs.declared.Fault.{Fault}
use Rattle.elements.specs.declared.Fault.TheVariants.{ForeignByte, LeftOpen, NoForm, PastLimit}

abbrev pub code_of : Fault → ℕ
code_of ForeignByte = 2
code_of LeftOpen = 3
code_of NoForm = 4
code_of PastLimit = 5
