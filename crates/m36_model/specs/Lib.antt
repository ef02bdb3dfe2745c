-- The machine, by the manual. Two modules define all of it: `Step` has the program of one step, and
-- `Store` says how a store serves the requests of a program. `StepCases` states a step as a
-- relation.
--
-- Letters name what is used for a line or two. In the modules of a step they mean mostly:
--
--   g  registers                        e  an instruction, and n the number in its name
--   w  a word, or the number of one     f  a final address
--   p  a point of an address chain      c  the end of one
--   q  a request                        a  the answer to one, and b to a second
--   d  a segment descriptor             r  a working register, or in laws a ring
--   m  the state within a step          s  a state, or the content of a store
--   i  indicators                       t  the result of a run, or of one reference
--   o  in effects an operand, and otherwise a store
pub mod Faults
pub mod Fields
pub mod Registers
pub mod References
pub mod Act
pub mod Store
pub mod Place
pub mod Core
pub mod Sight
pub mod Agree
pub mod Audit
pub mod StoreLaw
pub mod Modification
pub mod Tally
pub mod Chain
pub mod Arithmetic
pub mod Shifts
pub mod Booleans
pub mod Results
pub mod OperandHeld
pub mod WordsPut
pub mod Loads
pub mod Stores
pub mod Sums
pub mod Products
pub mod Compares
pub mod Logic
pub mod ShiftEffects
pub mod Pointers
pub mod CallReturn
pub mod Privileged
pub mod Transfers
pub mod Effect
pub mod FirstPoint
pub mod Step
pub mod Shown
pub mod Worked
pub mod WorkedAddresses
pub mod WorkedCalls
pub mod WorkedEffects
pub mod ChainList
pub mod CoreLaw
pub mod Run
pub mod Isolation
pub mod Laws
pub mod StoredBack
pub mod Completed
pub mod OperandWords
pub mod StepCases
pub mod Schedule
pub mod JointAudit
pub mod JointIsolation
pub mod Flat
pub mod BootedCore
pub mod Residence
pub mod PagedStep
