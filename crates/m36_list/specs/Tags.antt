-- The meaning of the assembler's tags in the machine. Source: Multics Processor Manual AL39,
-- "Address modification".
use Rattle.std.specs.Prelude.{ℕ, ◌≡◌, ◌+◌, ◌<◌, true, List, [], ◌∷◌, ◌++◌, Option, Some}
use Rattle.std.specs.Prelude.{codes, option_map, slice_index}
use Rattle.m36_word.specs.Field.{field}
use Rattle.m36_text.specs.Digits.{digit_character}
use Rattle.m36_model.specs.Registers.{RegsFields}
use Rattle.m36_model.specs.Tally.{is_tally_tag}
use Rattle.m36_model.specs.Modification.{Point, Counts, direct_upper, direct_lower, modifier_value}
use Rattle.m36_model.specs.Modification.{move_of_point, move_register}
use Rattle.m36_model.specs.Modification.{move_register_then_indirect, move_indirect_then_register}
use Rattle.alm_tokens.specs.Modifiers.{register_tag, star_tag, indirect_first_modifier}
use Rattle.m36_list.specs.Modifiers.{tally_tag}

-- the value of a register, by its name in a source
abbrev pub register_value_named : RegsFields → List ℕ → Option ℕ
register_value_named g name = option_map (λ td. modifier_value g td) (register_tag name)

-- The name of a register selects, in the machine, that register; du and dl are the direct operands.
pub record RegisterNamesSelect : Type 0 where
  pub none : (g : RegsFields) → register_value_named g (codes "n") ≡ Some 0
  pub a_upper : (g : RegsFields) → register_value_named g (codes "au") ≡ Some (field g.a 0 18)
  pub q_upper : (g : RegsFields) → register_value_named g (codes "qu") ≡ Some (field g.q 0 18)
  pub counter : (g : RegsFields) → register_value_named g (codes "ic") ≡ Some g.ppr.ic
  pub a_lower : (g : RegsFields) → register_value_named g (codes "al") ≡ Some (field g.a 18 18)
  pub q_lower : (g : RegsFields) → register_value_named g (codes "ql") ≡ Some (field g.q 18 18)
  pub index : (g : RegsFields) (n : ℕ) → n < 8
      → register_value_named g (codes "x" ++ digit_character n ∷ []) ≡ Some (slice_index g.x n)
  pub upper : register_tag (codes "du") ≡ Some direct_upper
  pub lower : register_tag (codes "dl") ≡ Some direct_lower

-- The tag that the assembler encodes for a modifier selects, in the machine, the modification of
-- that name: by one of sixteen registers, with * after it, with * before it, by * alone, or by a
-- tally.
pub record TagsSelectModifications : Type 0 where
  pub register : (g : RegsFields) (p : Point) (n : ℕ) → n < 16
      → p.tag ≡ n → move_of_point g p ≡ move_register g p n p.held
  pub behind : (g : RegsFields) (p : Point) (n : ℕ) → n < 16
      → p.tag ≡ star_tag + n → move_of_point g p ≡ move_register_then_indirect g p n
  pub before : (g : RegsFields) (p : Point) (bytes : List ℕ) (n : ℕ) → n < 16
      → register_tag bytes ≡ Some n → indirect_first_modifier (codes "*" ++ bytes) ≡ Some p.tag
      → move_of_point g p ≡ move_indirect_then_register g p n
  pub alone : (g : RegsFields) (p : Point) → p.tag ≡ star_tag
      → move_of_point g p ≡ move_register_then_indirect g p 0
  pub tally : (g : RegsFields) (p : Point) (td : ℕ) → is_tally_tag td ≡ true
      → p.tag ≡ tally_tag td → move_of_point g p ≡ Counts
