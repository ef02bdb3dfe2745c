-- How the results of the code map to those of the definitions.
use Rattle.m36_model.specs.Arithmetic.{SumFields}
use Rattle.m36_xdata.specs.declared.numbers.Computed.{Computed}

-- the result of an operation, in the terms of the definitions
abbrev pub sum_fields : Computed → SumFields
sum_fields s =
    record {
      value = s.value;
      zero = s.zero;
      negative = s.negative;
      carry = s.carry;
      overflow = s.overflow;
    }
