-- The text of a tag is parsed as that tag.
use Rattle.std.proofs.Common.{ℕ, ◌≡◌, ◌==◌, ◌&&◌, Bool, true, false, not, List, [], ◌∷◌, Option, Some, None, refl, ap}
use Rattle.std.specs.Prelude.{option_map, if◌then◌else◌}
use Rattle.std.specs.List.{list_all, list_any, find}
use Rattle.std.proofs.lemmas.Bool.{eqb-true, and_parts, not-true}
use Rattle.m36_inst.proofs.Found.{found_passes, found_sound}
use Rattle.m36_text.specs.Reading.{first_non_digit, number_of, number_read}
use Rattle.m36_text.specs.Numbers.{octal_in}
use Rattle.alm_tokens.specs.Modifiers.{register_tag, single_tag, tag_of}
use Rattle.m36_list.specs.Modifiers.{Modifier, modifiers, has_tag, modifier_text}
use Rattle.m36_list.proofs.Characters.{is_ending, is_line_feed}

-- the tag of the text after the comma, and 0 if there is none
abbrev pub tag_read : List ℕ → Option ℕ
tag_read [] = Some 0
tag_read (comma ∷ text) = if comma == 44 then tag_of text else None

abbrev is_number : ℕ → Option ℕ → Bool
is_number n (Some m) = m == n
is_number n None = false

abbrev is_read : Modifier → Bool
is_read m = is_number m.tag (tag_read m.text) && (not (list_any is_ending m.text) && not (list_any is_line_feed m.text))

all_are_read : list_all is_read modifiers ≡ true
unfolding tag_of register_tag single_tag octal_in number_read first_non_digit number_of
all_are_read = refl

-- the tag of the text of a modifier
pub record IsModifier (tag : ℕ) (text : List ℕ) : Type 0 where
  pub back : tag_read text ≡ Some tag
  pub plain : list_any is_ending text ≡ false
  pub one_line : list_any is_line_feed text ≡ false

number_is : (n : ℕ) (o : Option ℕ) → is_number n o ≡ true → o ≡ Some n
number_is n (Some m) h = ap (λ (t : ℕ). Some t) (eqb-true m n h)
number_is n None h = absurd (cc)

modifier_by : (tag : ℕ) (text : List ℕ) (o : Option Modifier) → find (has_tag tag) modifiers ≡ o → option_map (λ m. m.text) o ≡ Some text → IsModifier tag text
modifier_by tag text None e h = absurd (cc)
modifier_by tag text (Some m) e h =
    let same : m.text ≡ text = cc in
    let tagged : m.tag ≡ tag = eqb-true m.tag tag (found_passes (has_tag tag) modifiers m e) in
    let parts = and_parts (is_number m.tag (tag_read m.text)) _ (found_sound (has_tag tag) is_read modifiers m all_are_read e) in
    let rest = and_parts (not (list_any is_ending m.text)) (not (list_any is_line_feed m.text)) parts.1 in
    rw (← same, ← tagged) record {
      back = number_is m.tag (tag_read m.text) parts.0;
      plain = not-true (list_any is_ending m.text) rest.0;
      one_line = not-true (list_any is_line_feed m.text) rest.1;
    }

pub modifier : (tag : ℕ) (text : List ℕ) → modifier_text tag ≡ Some text → IsModifier tag text
unfolding modifier_text
modifier tag text h = modifier_by tag text (find (has_tag tag) modifiers) refl h
