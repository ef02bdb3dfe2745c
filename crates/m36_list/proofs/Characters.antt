-- The characters of numbers, names and addresses.
use Rattle.std.proofs.Common.{ℕ, zero, suc, ◌≡◌, ◌+◌, ◌-◌, ◌/◌, ◌%◌, ◌^◌, ◌<◌, ◌≤◌, ◌==◌, Bool, true, false, cond, not, nat_lt, ◌&&◌, ◌||◌, List, [], ◌∷◌, ◌++◌, map, Option, Some, None, refl, arith}
use Rattle.std.specs.Prelude.{codes, option_map, is_none}
use Rattle.std.specs.List.{list_any, list_all, find}
use Rattle.std.specs.Int.Digits.{AllBelowBase, digits_of}
use Rattle.std.specs.Str.{bytes_eq}
use Rattle.std.proofs.lemmas.Bool.{or_from, and_parts, not-true}
use Rattle.std.proofs.lemmas.Int.Digits.{all_below_base_digits_of}
use Rattle.m36_text.specs.Digits.{digits, digit_character, octal_text, decimal_text}
use Rattle.m36_text.proofs.DigitLaws.{digits_below}
use Rattle.m36_inst.specs.Fields.{InstFields}
use Rattle.m36_inst.specs.Table.{Entry, table}
use Rattle.m36_inst.specs.Lookup.{entry_at, has_code, name_at}
use Rattle.m36_inst.proofs.Found.{found_sound}
use Rattle.alm_tokens.specs.Bytes.{is_blank}
use Rattle.alm_parse.specs.Operations.{directive}
use Rattle.m36_list.specs.Disassembly.{signed_text, address_text}
use Rattle.m36_list.proofs.Parted.{none_in_both}

digits_pass_none : (p : ℕ → Bool) (base : ℕ) (ds : List ℕ) → base ≤ 10 → AllBelowBase base ds → ((d : ℕ) → d < 10 → p (48 + d) ≡ false) → list_any p (map digit_character ds) ≡ false
digits_pass_none p base [] small below none = refl
digits_pass_none p base (d ∷ ds) small below none =
    let first = below.0 in
    or_from (p (48 + d)) (list_any p (map digit_character ds)) (none d (omega arith)) (digits_pass_none p base ds small below.1 none)

-- a test that no digit passes, no character of a number passes
pub decimal_passes_none : (p : ℕ → Bool) (v : ℕ) → ((d : ℕ) → d < 10 → p (48 + d) ≡ false) → list_any p (decimal_text v) ≡ false
unfolding decimal_text
decimal_passes_none p zero none = digits_pass_none p 10 (0 ∷ []) (omega arith) (omega arith, tt) none
decimal_passes_none p (suc v) none = digits_pass_none p 10 (digits_of 10 (suc v)) (omega arith) (all_below_base_digits_of 10 (suc v) (omega arith)) none

pub octal_passes_none : (p : ℕ → Bool) (places v : ℕ) → ((d : ℕ) → d < 10 → p (48 + d) ≡ false) → list_any p (octal_text places v) ≡ false
unfolding octal_text
octal_passes_none p places v none = digits_pass_none p 8 (digits 8 places v) (omega arith) (digits_below 8 places v (omega arith)) none

-- a test that no digit, no letter and no other character of an address passes
pub record PassesNone (p : ℕ → Bool) : Type 0 where
  pub digit : (d : ℕ) → d < 10 → p (48 + d) ≡ false
  pub minus : p 45 ≡ false
  pub letter_p : p 112 ≡ false
  pub letter_r : p 114 ≡ false

signed_passes_none_by : (p : ℕ → Bool) (offset : ℕ) (b : Bool) → PassesNone p → list_any p (cond b (decimal_text offset) (codes "-" ++ decimal_text (2 ^ 15 - offset))) ≡ false
signed_passes_none_by p offset true none = decimal_passes_none p offset none.digit
signed_passes_none_by p offset false none = or_from (p 45) (list_any p (decimal_text (2 ^ 15 - offset))) none.minus (decimal_passes_none p (2 ^ 15 - offset) none.digit)

pub signed_passes_none : (p : ℕ → Bool) (offset : ℕ) → PassesNone p → list_any p (signed_text offset) ≡ false
unfolding signed_text
signed_passes_none p offset none = signed_passes_none_by p offset (nat_lt offset (2 ^ 14)) none

-- a pointer register
abbrev pub pointer_text : ℕ → List ℕ
pointer_text n = codes "pr" ++ digit_character n ∷ []

pub pointer_passes_none : (p : ℕ → Bool) (n : ℕ) → n < 8 → PassesNone p → list_any p (pointer_text n) ≡ false
pointer_passes_none p n small none =
    or_from (p 112) (p 114 || list_any p (digit_character n ∷ [])) none.letter_p (or_from (p 114) (list_any p (digit_character n ∷ [])) none.letter_r (or_from (p (48 + n)) false (none.digit n (omega arith)) refl))

-- an address
address_passes_none_by : (p : ℕ → Bool) (i : InstFields) (b : Bool) → i.y < 2 ^ 18 → PassesNone p → p 124 ≡ false → list_any p (cond b ((pointer_text (i.y / 2 ^ 15) ++ codes "|") ++ signed_text (i.y % 2 ^ 15)) (decimal_text i.y)) ≡ false
address_passes_none_by p i true fits none bar =
    none_in_both p (pointer_text (i.y / 2 ^ 15) ++ codes "|") (signed_text (i.y % 2 ^ 15)) (none_in_both p (pointer_text (i.y / 2 ^ 15)) (codes "|") (pointer_passes_none p (i.y / 2 ^ 15) (omega arith) none) (or_from (p 124) false bar refl)) (signed_passes_none p (i.y % 2 ^ 15) none)
address_passes_none_by p i false fits none bar = decimal_passes_none p i.y none.digit

pub address_passes_none : (p : ℕ → Bool) (i : InstFields) → i.y < 2 ^ 18 → PassesNone p → p 124 ≡ false → list_any p (address_text i) ≡ false
address_passes_none p i fits none bar = address_passes_none_by p i i.by_pr fits none bar

-- a byte that ends the operation or the operand
abbrev pub is_ending : ℕ → Bool
is_ending b = is_blank b || (b == 34)

-- a byte that no operation has in its name
abbrev pub is_parting : ℕ → Bool
is_parting b = (b == 58) || is_ending b

abbrev pub is_line_feed : ℕ → Bool
is_line_feed b = b == 10

-- a name of the table has no such byte, and is not that of a directive
abbrev is_operation : Entry → Bool
is_operation e =
    not (list_any is_parting e.name) && (is_none (directive e.name) && (not (bytes_eq e.name []) && not (list_any is_line_feed e.name)))

all_operations : list_all is_operation table ≡ true
unfolding directive
all_operations = refl

pub record IsOperation (name : List ℕ) : Type 0 where
  pub plain : list_any is_parting name ≡ false
  pub instruction : directive name ≡ None
  pub some : bytes_eq name [] ≡ false
  pub one_line : list_any is_line_feed name ≡ false

none_of : {A : Type 0} (o : Option A) → is_none o ≡ true → o ≡ None
none_of None h = refl
none_of (Some x) h = absurd (cc)

operation : (p : Entry → Bool) (e : Entry) → find p table ≡ Some e → IsOperation e.name
operation p e h =
    let parts = and_parts (not (list_any is_parting e.name)) _ (found_sound p is_operation table e all_operations h) in
    let rest = and_parts (is_none (directive e.name)) _ parts.1 in
    let last = and_parts (not (bytes_eq e.name [])) (not (list_any is_line_feed e.name)) rest.1 in
    record {
      plain = not-true (list_any is_parting e.name) parts.0;
      instruction = none_of (directive e.name) rest.0;
      some = not-true (bytes_eq e.name []) last.0;
      one_line = not-true (list_any is_line_feed e.name) last.1;
    }

operation_at_by : (code : ℕ) (bit27 : Bool) (name : List ℕ) (o : Option Entry) → find (has_code code bit27) table ≡ o → option_map (λ e. e.name) o ≡ Some name → IsOperation name
operation_at_by code bit27 name None e h = absurd (cc)
operation_at_by code bit27 name (Some x) e h =
    let same : x.name ≡ name = cc in
    rw (← same) (operation (has_code code bit27) x e)

pub operation_at : (code : ℕ) (bit27 : Bool) (name : List ℕ) → name_at code bit27 ≡ Some name → IsOperation name
unfolding entry_at
operation_at code bit27 name h = operation_at_by code bit27 name (find (has_code code bit27) table) refl h
