-- The faults, by the manual's names. No other definition has their numbers, except that of the
-- store fault, which is in `Place`. Multics Processor Manual AL39, "Faults and interrupts".
use Rattle.std.specs.Prelude.{ℕ, ◌+◌}

-- MME
abbrev pub master_mode_entry : ℕ
master_mode_entry = 2

-- tag 40 (octal); fault tags 2 and 3 are tags 46 and 47
abbrev pub fault_tag_1 : ℕ
fault_tag_1 = 3

-- LPRP reads a word that is not a packed pointer
abbrev pub command : ℕ
command = 5

-- DRL
abbrev pub derail : ℕ
derail = 6

-- more indirect words than one address may have (the number is this project's choice)
abbrev pub lockup_fault : ℕ
lockup_fault = 7

-- a privileged instruction without the right to it, or a direct operand or a modification that is
-- not allowed
abbrev pub illegal_procedure : ℕ
illegal_procedure = 10

-- an arithmetic result is out of range, and the overflow mask is off
abbrev pub overflow_fault : ℕ
overflow_fault = 13

-- the divisor of DIV is zero, or the quotient does not fit
abbrev pub divide_check : ℕ
divide_check = 14

-- directed fault fc, for fc from 0 to 3
abbrev pub directed_fault : ℕ → ℕ
directed_fault fc = 16 + fc

-- the number of the directed fault of a page that is in no frame, in a booted image
abbrev pub missing_page_code : ℕ
missing_page_code = 1

-- the fault of a page that is in no frame
abbrev pub missing_page : ℕ
missing_page = directed_fault missing_page_code

-- a reference that the rings or the rights refuse
abbrev pub access_violation : ℕ
access_violation = 20

-- an indirect word has fault tag 2
abbrev pub fault_tag_2 : ℕ
fault_tag_2 = 24

-- an indirect word has fault tag 3
abbrev pub fault_tag_3 : ℕ
fault_tag_3 = 25
