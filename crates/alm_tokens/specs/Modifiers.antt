-- The names of registers and modifiers. Source: Multics Processor Manual AL39, "Address
-- modification". The tag of a register then indirect modification is that of the register plus 20
-- (octal). The tag of an indirect then register modification is that of the register plus 60. The
-- tags 44, 51, 53, 54 and 56 are those of indirect then tally modifications. The rows below have
-- the same tags in base 16.
use Rattle.std.specs.Prelude.{ℕ, ◌+◌, ◌-◌, ◌&&◌, ◌==◌, List, [], ◌∷◌, length, take, slice_index}
use Rattle.std.specs.Prelude.{codes, Option, Some, None, option_map, if◌then◌else◌}
use Rattle.std.specs.Option.{option_or}
use Rattle.alm_tokens.specs.Tokens.{is_text}
use Rattle.m36_text.specs.Numbers.{octal_in}

-- a name and its number
pub record NumberedName : Type 0 where
  pub name : List ℕ
  pub number : ℕ

-- a name with this number
abbrev pub numbered : List ℕ → ℕ → NumberedName
numbered name number = record { name = name; number = number }

-- the number of the first row that has a name
abbrev pub number_of_name : List NumberedName → List ℕ → Option ℕ
number_of_name [] bytes = None
number_of_name (row ∷ rows) bytes =
    if is_text row.name bytes then Some row.number else number_of_name rows bytes

-- a text without the `x` that may be at its beginning, as in the names of index registers
abbrev pub without_x : List ℕ → List ℕ
without_x [] = []
without_x (b ∷ rest) = if b == 120 then rest else b ∷ rest

-- the registers by which an address is modified, with their tags
abbrev pub registers : List NumberedName
registers =
    numbered (codes "n") 0
    ∷ numbered (codes "au") 1
    ∷ numbered (codes "qu") 2
    ∷ numbered (codes "du") 3
    ∷ numbered (codes "ic") 4
    ∷ numbered (codes "al") 5
    ∷ numbered (codes "ql") 6
    ∷ numbered (codes "dl") 7
    ∷ []

-- the tag of a register: 0 to 7 by its name, or 8 to 15 for X0 to X7
unfoldable pub register_tag : List ℕ → Option ℕ
register_tag bytes =
    option_or (number_of_name registers bytes)
    (option_map (λ n. 8 + n) (octal_in 1 (without_x bytes)))

-- the number of a pointer register that is written `pr0` to `pr7`
abbrev pub pr_number_by_digit : List ℕ → Option ℕ
pr_number_by_digit (p ∷ r ∷ rest) = if (p == 112) && (r == 114) then octal_in 1 rest else None
pr_number_by_digit _ = None

-- the names of the pointer registers, with their numbers
abbrev pub pointer_registers : List NumberedName
pointer_registers =
    numbered (codes "ap") 0
    ∷ numbered (codes "ab") 1
    ∷ numbered (codes "bp") 2
    ∷ numbered (codes "bb") 3
    ∷ numbered (codes "lp") 4
    ∷ numbered (codes "lb") 5
    ∷ numbered (codes "sp") 6
    ∷ numbered (codes "sb") 7
    ∷ []

-- the number of a pointer register that is written by its name
unfoldable pub pr_number_by_name : List ℕ → Option ℕ
pr_number_by_name bytes = number_of_name pointer_registers bytes

-- the number of a pointer register that is written in either way
unfoldable pub pr_number : List ℕ → Option ℕ
pr_number bytes = option_or (pr_number_by_digit bytes) (pr_number_by_name bytes)

-- the tag of *, indirect modification without a register
abbrev pub star_tag : ℕ
star_tag = 0x10

-- the tag of * before a register, without the number of the register
abbrev pub indirect_first_tag : ℕ
indirect_first_tag = 0x30

-- the modifiers that are a name alone, `*` and the tally modifiers, with their tags
abbrev pub single_name_tags : List NumberedName
single_name_tags =
    numbered (codes "*") star_tag
    ∷ numbered (codes "sd") 0x24
    ∷ numbered (codes "i") 0x29
    ∷ numbered (codes "ad") 0x2b
    ∷ numbered (codes "di") 0x2c
    ∷ numbered (codes "id") 0x2e
    ∷ []

-- the tag of `*` or a tally modifier
unfoldable pub single_tag : List ℕ → Option ℕ
single_tag bytes = number_of_name single_name_tags bytes

-- the tag of `*` before a register
abbrev pub indirect_first_modifier : List ℕ → Option ℕ
indirect_first_modifier [] = None
indirect_first_modifier (b ∷ rest) =
    if b == 42 then option_map (λ n. indirect_first_tag + n) (register_tag rest) else None

-- the tag of `*` after a register
abbrev pub indirect_last_modifier : List ℕ → Option ℕ
indirect_last_modifier bytes =
    if slice_index bytes (length bytes - 1) == 42
    then option_map (λ n. star_tag + n) (register_tag (take (length bytes - 1) bytes))
    else None

-- the tag of a modifier
unfoldable pub tag_of : List ℕ → Option ℕ
tag_of bytes =
    option_or (single_tag bytes)
    (option_or (register_tag bytes) (option_or (indirect_first_modifier bytes)
    (indirect_last_modifier bytes)))
