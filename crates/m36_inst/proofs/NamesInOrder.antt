-- The names are in ascending order and are those of the table, as computation shows; and binary
-- search finds a name among them.
use Rattle.std.proofs.Common.{◌≡◌, ℕ, ◌/◌, ◌%◌, ◌^◌, ◌<◌, zero, suc, refl, sym, ap, ◌∙◌, Bool, true, false, ◌&&◌, ◌||◌, ◌==◌, nat_lt, Option, Some, None, List, [], ◌∷◌, length, map, get_or, arith}
use Rattle.std.specs.Prelude.{option_map}
use Rattle.std.specs.List.{list_any}
use Rattle.std.proofs.lemmas.Bool.{and_parts, eqb-true, ltb-true, ltb-false}
use Rattle.std.proofs.lemmas.List.{get_or-map}
use Rattle.std.proofs.Math.ListN.{length-map}
use Rattle.m36_inst.specs.Table.{Entry, table}
use Rattle.m36_inst.specs.Lookup.{entry_at, name_at, code_named, same_bit, has_code}
use Rattle.m36_inst.specs.Names.{key, key_at, code_at, bit27_at, HasRow, IsRising, IsIndex}
use Rattle.m36_inst.specs.declared.names.CodeOfName.{CodeOfName}
use Rattle.m36_inst.specs.declared.names.TheConstants.{NAMES}
use Rattle.m36_inst.proofs.Found.{found_sound}
use Rattle.m36_inst.proofs.Halves.{paired, paired_from}
use Rattle.m36_inst.proofs.Entries.{found, same_bit_true, code_bit}
use Rattle.m36_inst.proofs.OneToOne.{named_code, unnamed}

-- ---- ascending order

abbrev is_rising : List ℕ → Bool
is_rising [] = true
is_rising (x ∷ []) = true
is_rising (x ∷ y ∷ ys) = nat_lt x y && is_rising (y ∷ ys)

above : (x : ℕ) (xs : List ℕ) (j : ℕ) → is_rising (x ∷ xs) ≡ true → j < length xs → x < get_or xs j 0
above x [] j h within = absurd (omega arith)
above x (y ∷ ys) zero h within = ltb-true x y (and_parts (nat_lt x y) (is_rising (y ∷ ys)) h).0
above x (y ∷ ys) (suc j) h within =
    let parts = and_parts (nat_lt x y) (is_rising (y ∷ ys)) h in
    let first : x < y = ltb-true x y parts.0 in
    let next : y < get_or ys j 0 = above y ys j parts.1 (omega arith) in
    omega arith

behind : (x : ℕ) (xs : List ℕ) → is_rising (x ∷ xs) ≡ true → is_rising xs ≡ true
behind x [] h = refl
behind x (y ∷ ys) h = (and_parts (nat_lt x y) (is_rising (y ∷ ys)) h).1

rising_at : (xs : List ℕ) (i j : ℕ) → is_rising xs ≡ true → i < j → j < length xs → get_or xs i 0 < get_or xs j 0
rising_at [] i j h order within = absurd (omega arith)
rising_at (x ∷ xs) zero zero h order within = absurd (omega arith)
rising_at (x ∷ xs) zero (suc j) h order within = above x xs j h (omega arith)
rising_at (x ∷ xs) (suc i) zero h order within = absurd (omega arith)
rising_at (x ∷ xs) (suc i) (suc j) h order within = rising_at xs i j (behind x xs h) (omega arith) (omega arith)

abbrev keys : List CodeOfName → List ℕ
keys rows = map (λ r. key r.name) rows

rises : (rows : List CodeOfName) → is_rising (keys rows) ≡ true → IsRising rows
rises rows h i j order within = rising_at (keys rows) i j h order (simp length-map within)

-- ---- each name has its code

-- a row for an entry: its operation code with bit 27, and its name
abbrev is_of : Entry → CodeOfName → Bool
is_of e r = (r.code == e.code) && (same_bit r.bit27 e.bit27 && key r.name == key e.name)

abbrev all_there : List CodeOfName → Bool
all_there rows = paired is_of table rows

row_by :
    (r : CodeOfName) (rows : List CodeOfName) (e : Entry) (b : Bool) → is_of e r ≡ b → (b || list_any (is_of e) rows) ≡ true
    → (list_any (is_of e) rows ≡ true → HasRow rows e.code e.bit27 (key e.name)) → HasRow (r ∷ rows) e.code e.bit27 (key e.name)
row_by r rows e true is any later =
    let a = and_parts (r.code == e.code) _ is in
    let b = and_parts (same_bit r.bit27 e.bit27) (key r.name == key e.name) a.1 in
    record {
      place = 0;
      inside = omega arith;
      key_is = eqb-true (key r.name) (key e.name) b.1;
      code_is = eqb-true r.code e.code a.0;
      bit27_is = same_bit_true r.bit27 e.bit27 b.0;
    }
row_by r rows e false is any later =
    let next = later any in
    let inside = next.inside in
    record {
      place = suc next.place;
      inside = omega arith;
      key_is = next.key_is;
      code_is = next.code_is;
      bit27_is = next.bit27_is;
    }

row_of_entry : (rows : List CodeOfName) (e : Entry) → list_any (is_of e) rows ≡ true → HasRow rows e.code e.bit27 (key e.name)
row_of_entry [] e any = absurd cc
row_of_entry (r ∷ rows) e any = row_by r rows e (is_of e r) refl any (row_of_entry rows e)

there : (rows : List CodeOfName) (code : ℕ) (bit27 : Bool) (e : Entry) → all_there rows ≡ true → entry_at code bit27 ≡ Some e → list_any (is_of e) rows ≡ true
unfolding entry_at
there rows code bit27 e all h = found_sound (has_code code bit27) (λ x. list_any (is_of x) rows) table e all h

complete_by :
    (rows : List CodeOfName) (code : ℕ) (bit27 : Bool) (name : List ℕ) (o : Option Entry) → all_there rows ≡ true → entry_at code bit27 ≡ o
    → option_map (λ e. e.name) o ≡ Some name → HasRow rows code bit27 (key name)
complete_by rows code bit27 name None all h named = absurd cc
complete_by rows code bit27 name (Some e) all h named =
    let f = found code bit27 e h in
    let same : e.name ≡ name = cc in
    let row = row_of_entry rows e (there rows code bit27 e all h) in
    record {
      place = row.place;
      inside = row.inside;
      key_is = row.key_is ∙ ap (λ n. key n) same;
      code_is = row.code_is ∙ f.same_code;
      bit27_is = row.bit27_is ∙ f.same_bit27;
    }

index_of : (rows : List CodeOfName) → is_rising (keys rows) ≡ true → all_there rows ≡ true → IsIndex rows
index_of rows order all =
    record {
      rising = rises rows order;
      complete = λ code bit27 name named. complete_by rows code bit27 name (entry_at code bit27) all refl named;
    }

in_order : is_rising (keys NAMES) ≡ true
unfolding key
in_order = refl

abbrev coded_bit : ℕ → CodeOfName → Bool
coded_bit n r = r.code / 2 ^ n % 2 == 1

names_there : all_there NAMES ≡ true
unfolding key
names_there = paired_from is_of code_bit coded_bit 6 table NAMES refl

pub is_index : IsIndex NAMES
is_index = index_of NAMES in_order names_there

-- ---- the result of the search

pub key_in : (rows : List CodeOfName) (i : ℕ) (d : CodeOfName) → i < length rows → key_at rows i ≡ key (get_or rows i d).name
key_in rows i d within = get_or-map (λ r. key r.name) rows i d 0 within

pub code_in : (rows : List CodeOfName) (i : ℕ) (d : CodeOfName) → i < length rows → code_at rows i ≡ (get_or rows i d).code
code_in rows i d within = get_or-map (λ r. r.code) rows i d 0 within

pub bit27_in : (rows : List CodeOfName) (i : ℕ) (d : CodeOfName) → i < length rows → bit27_at rows i ≡ (get_or rows i d).bit27
bit27_in rows i d within = get_or-map (λ r. r.bit27) rows i d false within

pub ruleset columns = (key_in, code_in, bit27_in)

-- If no row has the number of a name, no instruction has this name.
pub absent :
    (rows : List CodeOfName) (name : List ℕ) (wanted : ℕ) → IsIndex rows → wanted ≡ key name
    → ((i : ℕ) → i < length rows → key_at rows i ≡ wanted → ⊥) → code_named name ≡ None
absent rows name wanted index same none =
    unnamed name
    (λ code bit27 named.
    let row = index.complete code bit27 name named in
    none row.place row.inside (row.key_is ∙ sym same))

place_by :
    (rows : List CodeOfName) (i j : ℕ) (b c : Bool) → IsRising rows → i < length rows → j < length rows → key_at rows i ≡ key_at rows j
    → nat_lt i j ≡ b → nat_lt j i ≡ c → i ≡ j
place_by rows i j true c rising within inside same up down =
    let less = rising i j (ltb-true i j up) inside in
    absurd (omega arith)
place_by rows i j false true rising within inside same up down =
    let less = rising j i (ltb-true j i down) within in
    absurd (omega arith)
place_by rows i j false false rising within inside same up down =
    let low = ltb-false i j up in
    let high = ltb-false j i down in
    omega arith

one_place : (rows : List CodeOfName) (i j : ℕ) → IsRising rows → i < length rows → j < length rows → key_at rows i ≡ key_at rows j → i ≡ j
one_place rows i j rising within inside same =
    place_by rows i j (nat_lt i j) (nat_lt j i) rising within inside same refl refl

-- If the only row with the number of a name has another name, no instruction has this name.
pub other :
    (rows : List CodeOfName) (name : List ℕ) (i code : ℕ) (bit27 : Bool) → IsIndex rows → i < length rows → key_at rows i ≡ key name
    → code ≡ code_at rows i → bit27 ≡ bit27_at rows i → (name_at code bit27 ≡ Some name → ⊥) → code_named name ≡ None
other rows name i code bit27 index within same code_is bit27_is unlike =
    unnamed name
    (λ c b named.
    let row = index.complete c b name named in
    let place : row.place ≡ i = one_place rows row.place i index.rising row.inside within (row.key_is ∙ sym same) in
    let code_too : code ≡ c = code_is ∙ ap (λ k. code_at rows k) (sym place) ∙ row.code_is in
    let bit27_too : bit27 ≡ b = bit27_is ∙ ap (λ k. bit27_at rows k) (sym place) ∙ row.bit27_is in
    unlike (ap (λ k. name_at k bit27) code_too ∙ ap (λ k. name_at c k) bit27_too ∙ named))

pub ruleset named_or_not = (named_code, other)
