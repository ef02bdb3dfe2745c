-- Properties of each entry of the table, which computation shows.
use Rattle.std.proofs.Common.{◌≡◌, ℕ, ◌+◌, ◌*◌, ◌/◌, ◌%◌, ◌^◌, ◌<◌, ◌≤◌, refl, sym, ap, Bool, true, false, ◌&&◌, ◌==◌, nat_lt, nat_le, Option, Some, None, List, [], ◌∷◌, length, arith}
use Rattle.std.specs.List.{list_all, All}
use Rattle.std.specs.Str.{bytes_eq}
use Rattle.std.proofs.lemmas.Bool.{and_parts, and_from, eqb-true, eq-eqb, ltb-true, leb-true}
use Rattle.std.proofs.lemmas.List.Elements.{All-nil, All-cons}
use Rattle.std.proofs.lemmas.Slice.Eq.{bytes_eq-Decides}
use Rattle.m36_inst.specs.Table.{Entry, table}
use Rattle.m36_inst.specs.Lookup.{entry_at, entry_named, has_code, has_name, same_bit}
use Rattle.m36_inst.specs.Named.{padded, text_of, IsPlain}
use Rattle.m36_inst.proofs.Found.{found_passes, found_sound, apart, found_by_key}
use Rattle.m36_inst.proofs.Halves.{apart_from}

-- a test of an entry: its code and register are within their widths, and its name is ASCII and has
-- at most five characters
abbrev is_ascii : List ℕ → Bool
is_ascii name = list_all (λ b. nat_lt b 128) name

abbrev is_sound : Entry → Bool
is_sound e =
    nat_lt e.code 512 && (nat_lt e.reg 8 && (nat_le (length e.name) 5 && (is_ascii e.name && bytes_eq (text_of (padded e.name)) e.name)))

all_sound : list_all is_sound table ≡ true
all_sound = refl

-- no two entries have one code with bit 27, and no two have one name
abbrev by_code : Entry → Entry → Bool
by_code x = has_code x.code x.bit27

abbrev by_name : Entry → Entry → Bool
by_name x = has_name x.name

-- bits of codes and of names, by which the table is divided into parts
abbrev pub code_bit : ℕ → Entry → Bool
code_bit n e = e.code / 2 ^ n % 2 == 1

abbrev mixed : List ℕ → ℕ
mixed [] = 0
mixed (b ∷ name) = b + 3 * mixed name

abbrev name_bit : ℕ → Entry → Bool
name_bit n e = mixed e.name / 2 ^ n % 2 == 1

apart_by_code : apart by_code table ≡ true
apart_by_code =
    apart_from by_code code_bit 6 table
    (λ n x z h. ap (λ c. c / 2 ^ n % 2 == 1) (sym (eqb-true z.code x.code (and_parts (z.code == x.code) (same_bit z.bit27 x.bit27) h).0)))
    refl

apart_by_name : apart by_name table ≡ true
apart_by_name =
    apart_from by_name name_bit 6 table
    (λ n x z h. ap (λ name. mixed name / 2 ^ n % 2 == 1) (sym ((bytes_eq-Decides z.name x.name).0 h)))
    refl

-- what holds of an entry that passes the test
all_ascii : (name : List ℕ) → is_ascii name ≡ true → All (λ b. b < 128) name
all_ascii [] h = All-nil (λ b. b < 128)
all_ascii (b ∷ name) h =
    let parts = and_parts (nat_lt b 128) (is_ascii name) h in
    All-cons (λ x. x < 128) b name (ltb-true b 128 parts.0) (all_ascii name parts.1)

pub record IsSound (e : Entry) : Type 0 where
  pub code : e.code < 512
  pub reg : e.reg < 8
  pub plain : IsPlain e.name
  pub text : text_of (padded e.name) ≡ e.name

sound : (e : Entry) → is_sound e ≡ true → IsSound e
sound e h =
    let text = bytes_eq (text_of (padded e.name)) e.name in
    let a = and_parts (nat_lt e.code 512) _ h in
    let b = and_parts (nat_lt e.reg 8) _ a.1 in
    let c = and_parts (nat_le (length e.name) 5) _ b.1 in
    let d = and_parts (is_ascii e.name) text c.1 in
    record {
      code = ltb-true _ _ a.0;
      reg = ltb-true _ _ b.0;
      plain = record { short = leb-true _ _ c.0; ascii = all_ascii e.name d.0 };
      text = (bytes_eq-Decides (text_of (padded e.name)) e.name).0 d.1;
    }

-- equality of codes, and of names
pub same_bit_true : (a b : Bool) → same_bit a b ≡ true → a ≡ b
same_bit_true true b h = sym h
same_bit_true false true h = h
same_bit_true false false h = refl

same_bit_own : (a : Bool) → same_bit a a ≡ true
same_bit_own true = refl
same_bit_own false = refl

own_code : (e : Entry) → by_code e e ≡ true
own_code e = and_from (e.code == e.code) (same_bit e.bit27 e.bit27) (eq-eqb e.code e.code refl) (same_bit_own e.bit27)

own_name : (e : Entry) → by_name e e ≡ true
own_name e = (bytes_eq-Decides e.name e.name).1 refl

-- an entry that is found by its code
pub record IsFound (code : ℕ) (bit27 : Bool) (e : Entry) : Type 0 where
  pub sound : IsSound e
  pub same_code : e.code ≡ code
  pub same_bit27 : e.bit27 ≡ bit27
  pub named_row : entry_named e.name ≡ Some e

pub found : (code : ℕ) (bit27 : Bool) (e : Entry) → entry_at code bit27 ≡ Some e → IsFound code bit27 e
unfolding entry_at entry_named
found code bit27 e h =
    let parts = and_parts (e.code == code) (same_bit e.bit27 bit27) (found_passes (has_code code bit27) table e h) in
    record {
      sound = sound e (found_sound (has_code code bit27) is_sound table e all_sound h);
      same_code = eqb-true e.code code parts.0;
      same_bit27 = same_bit_true e.bit27 bit27 parts.1;
      named_row = found_by_key by_name (has_code code bit27) table e own_name apart_by_name h;
    }

-- an entry that is found by its name
pub record IsNamed (name : List ℕ) (e : Entry) : Type 0 where
  pub sound : IsSound e
  pub same_name : e.name ≡ name
  pub placed : entry_at e.code e.bit27 ≡ Some e

pub named_row : (name : List ℕ) (e : Entry) → entry_named name ≡ Some e → IsNamed name e
unfolding entry_at entry_named
named_row name e h =
    record {
      sound = sound e (found_sound (has_name name) is_sound table e all_sound h);
      same_name = (bytes_eq-Decides e.name name).0 (found_passes (has_name name) table e h);
      placed = found_by_key by_code (has_name name) table e own_code apart_by_code h;
    }

none_above_by : (code : ℕ) (bit27 : Bool) (o : Option Entry) → 512 ≤ code → entry_at code bit27 ≡ o → o ≡ None
none_above_by code bit27 None h e = refl
none_above_by code bit27 (Some x) h e =
    let f = found code bit27 x e in
    let width = f.sound.code in
    let same = f.same_code in
    absurd (omega arith)

pub none_above : (code : ℕ) (bit27 : Bool) → 512 ≤ code → entry_at code bit27 ≡ None
none_above code bit27 h = none_above_by code bit27 (entry_at code bit27) h refl
