-- Equal descriptors: two live segments have the same number exactly if their descriptors are equal
-- words.
use Rattle.std.proofs.Common.{◌≡◌, ℕ, ◌+◌, ◌*◌, ◌/◌, ◌%◌, ◌^◌, ◌<◌, ◌≤◌, length, refl, sym, ◌∙◌, ap, subst, arith}
use Rattle.std.specs.Prelude.{List, slice_get, slice_index, Option, Some, None, Result, Ok, Err}
use Rattle.std.proofs.lemmas.Option.{slice_get_within, slice_get-get_or}
use Rattle.m36_desc.specs.Fields.{SdwFields, DbrFields}
use Rattle.m36_model.specs.Place.{wrapped_address, sdw_place, sdw_words, sdw_at, core_sdw}
use Rattle.m36_model.specs.JointAudit.{AreSame}
use Rattle.m36_model.specs.declared.outcome.Refusal.{Refusal}
use Rattle.m36_audit.specs.Classes.{IsDescriptorKey, KeyAt, AreFirstEquals}
use Rattle.m36_audit.proofs.Bounds.{live_in_bounds}
use Rattle.m36_audit.proofs.Conditions.{few_segments}

pub record HasKey (core : List ℕ) (dbr : DbrFields) (seg : ℕ) : Type 0 where
  pub key : ℕ
  pub is : IsDescriptorKey core dbr seg key

key_words : (core : List ℕ) (dbr : DbrFields) (seg at : ℕ) (d : SdwFields) (even odd : Option ℕ) → sdw_place core dbr seg ≡ Ok at → slice_get core at ≡ even → slice_get core (wrapped_address (at + 1)) ≡ odd → sdw_words even odd ≡ Ok d → HasKey core dbr seg
key_words core dbr seg at d None odd place e f h = cc
key_words core dbr seg at d (Some even) None place e f h = cc
key_words core dbr seg at d (Some even) (Some odd) place e f h =
    record { key = even * 2 ^ 36 + odd; is = record { at = at; found = place; even = even; odd = odd; even_is = e; odd_is = f; key_is = refl } }

key_by : (core : List ℕ) (dbr : DbrFields) (seg : ℕ) (d : SdwFields) (v : Result ℕ Refusal) → sdw_place core dbr seg ≡ v → sdw_at core v ≡ Ok d → HasKey core dbr seg
key_by core dbr seg d (Err r) place h = cc
key_by core dbr seg d (Ok at) place h = key_words core dbr seg at d (slice_get core at) (slice_get core (wrapped_address (at + 1))) place refl refl h

-- the descriptor of a live segment is in core
pub live_key : (core : List ℕ) (dbr : DbrFields) (seg : ℕ) (d : SdwFields) → core_sdw core dbr seg ≡ Ok d → HasKey core dbr seg
unfolding core_sdw
live_key core dbr seg d h = key_by core dbr seg d (sdw_place core dbr seg) refl h

-- the descriptor of a segment is that of its two words
pub key_sdw : (core : List ℕ) (dbr : DbrFields) (seg key : ℕ) → (h : IsDescriptorKey core dbr seg key) → core_sdw core dbr seg ≡ sdw_words (Some h.even) (Some h.odd)
unfolding core_sdw
key_sdw core dbr seg key h = ap (sdw_at core) h.found ∙ (λ i. sdw_words (h.even_is i) (h.odd_is i))

same_at : (core : List ℕ) (dbr : DbrFields) (seg x y : ℕ) → sdw_place core dbr seg ≡ Ok x → sdw_place core dbr seg ≡ Ok y → x ≡ y
same_at core dbr seg x y h k = cc

-- there is no key if no descriptor is found, or a word of it is past the end of core
pub key_refused : (core : List ℕ) (dbr : DbrFields) (seg : ℕ) (why : Refusal) → Err why ≡ sdw_place core dbr seg → (key : ℕ) → IsDescriptorKey core dbr seg key → ⊥
key_refused core dbr seg why refused key h = cc

pub key_cut : (core : List ℕ) (dbr : DbrFields) (seg at : ℕ) → Ok at ≡ sdw_place core dbr seg → length core ≤ at → (key : ℕ) → IsDescriptorKey core dbr seg key → ⊥
key_cut core dbr seg at found past key h =
    let same : at ≡ h.at = same_at core dbr seg at h.at (sym found) h.found in
    let within : h.at < length core = slice_get_within core h.at h.even h.even_is in
    omega arith

pub key_halved : (core : List ℕ) (dbr : DbrFields) (seg at : ℕ) → Ok at ≡ sdw_place core dbr seg → length core ≤ wrapped_address (at + 1) → (key : ℕ) → IsDescriptorKey core dbr seg key → ⊥
key_halved core dbr seg at found past key h =
    let same : at ≡ h.at = same_at core dbr seg at h.at (sym found) h.found in
    let within : wrapped_address (at + 1) < length core = slice_get_within core (wrapped_address (at + 1)) h.odd (ap (λ a. slice_get core (wrapped_address (a + 1))) same ∙ h.odd_is) in
    omega arith

-- the key of a descriptor that is in core, and its odd word
pub key_there : (core : List ℕ) (dbr : DbrFields) (seg at next even odd : ℕ) → Ok at ≡ sdw_place core dbr seg → next ≡ wrapped_address (at + 1) → at < length core → next < length core → even ≡ slice_index core at → odd ≡ slice_index core next → IsDescriptorKey core dbr seg (even * 2 ^ 36 + odd)
key_there core dbr seg at next even odd found is there there_too e o = record {
  at = at;
  found = sym found;
  even = even;
  odd = odd;
  even_is = slice_get-get_or core at 0 there ∙ ap (λ (n : ℕ). Some n) (sym e);
  odd_is = ap (slice_get core) (sym is) ∙ (slice_get-get_or core next 0 there_too ∙ ap (λ (n : ℕ). Some n) (sym o));
  key_is = refl;
}

pub key_odd : (core : List ℕ) (dbr : DbrFields) (seg at next odd : ℕ) → Ok at ≡ sdw_place core dbr seg → next ≡ wrapped_address (at + 1) → next < length core → odd ≡ slice_index core next → odd < 2 ^ 36 → (key : ℕ) → (h : IsDescriptorKey core dbr seg key) → h.odd < 2 ^ 36
key_odd core dbr seg at next odd found is there o small key h =
    let same : at ≡ h.at = same_at core dbr seg at h.at (sym found) h.found in
    let read : slice_get core next ≡ Some odd = slice_get-get_or core next 0 there ∙ ap (λ (n : ℕ). Some n) (sym o) in
    let other : slice_get core next ≡ Some h.odd = ap (slice_get core) (is ∙ ap (λ a. wrapped_address (a + 1)) same) ∙ h.odd_is in
    let equal : odd ≡ h.odd = cc in
    omega arith

same_some : (x y : ℕ) (o p : Option ℕ) → o ≡ Some x → p ≡ Some y → o ≡ p → x ≡ y
same_some x y o p e f g = cc

pub record SameWords (even odd other_even other_odd : ℕ) : Type 0 where
  pub evens : even ≡ other_even
  pub odds : odd ≡ other_odd

-- equal words, as the definition has it
pub words_same : (core : List ℕ) (dbr other : DbrFields) (seg other_seg x y : ℕ) → AreSame core dbr other seg other_seg → (h : IsDescriptorKey core dbr seg x) → (k : IsDescriptorKey core other other_seg y) → SameWords h.even h.odd k.even k.odd
words_same core dbr other seg other_seg x y s h k =
    let at : h.at ≡ s.at = same_at core dbr seg h.at s.at h.found s.found in
    let other_at : k.at ≡ s.other_at = same_at core other other_seg k.at s.other_at k.found s.other_found in
    let even : slice_get core s.at ≡ Some h.even = ap (slice_get core) (sym at) ∙ h.even_is in
    let other_even : slice_get core s.other_at ≡ Some k.even = ap (slice_get core) (sym other_at) ∙ k.even_is in
    let odd : slice_get core (wrapped_address (s.at + 1)) ≡ Some h.odd = ap (λ (n : ℕ). slice_get core (wrapped_address (n + 1))) (sym at) ∙ h.odd_is in
    let other_odd : slice_get core (wrapped_address (s.other_at + 1)) ≡ Some k.odd = ap (λ (n : ℕ). slice_get core (wrapped_address (n + 1))) (sym other_at) ∙ k.odd_is in
    record { evens = same_some h.even k.even _ _ even other_even s.even; odds = same_some h.odd k.odd _ _ odd other_odd s.odd }

pub key_same : (core : List ℕ) (dbr : DbrFields) (seg x y : ℕ) → IsDescriptorKey core dbr seg x → IsDescriptorKey core dbr seg y → x ≡ y
key_same core dbr seg x y h k =
    let at : h.at ≡ k.at = same_at core dbr seg h.at k.at h.found k.found in
    let there : slice_get core k.at ≡ Some h.even = ap (slice_get core) (sym at) ∙ h.even_is in
    let behind : slice_get core (wrapped_address (k.at + 1)) ≡ Some h.odd = ap (λ (n : ℕ). slice_get core (wrapped_address (n + 1))) (sym at) ∙ h.odd_is in
    let even : h.even ≡ k.even = same_some h.even k.even _ _ there k.even_is refl in
    let odd : h.odd ≡ k.odd = same_some h.odd k.odd _ _ behind k.odd_is refl in
    let is = h.key_is in
    let is_too = k.key_is in
    omega arith

-- descriptors with the same number have the same key
pub keys_same : (core : List ℕ) (dbrs : List DbrFields) (i x y : ℕ) → KeyAt core dbrs i x → KeyAt core dbrs i y → x ≡ y
keys_same core dbrs i x y h k =
    let at = h.process in
    let at_too = k.process in
    let one : k.dbr ≡ h.dbr = cc in
    key_same core h.dbr (i % 2 ^ 15) x y h.is (subst (λ (d : DbrFields). IsDescriptorKey core d (i % 2 ^ 15) y) one k.is)

-- the number of a descriptor of process k
pub numbered : (core : List ℕ) (dbrs : List DbrFields) (k seg key : ℕ) (dbr : DbrFields) → slice_get dbrs k ≡ Some dbr → seg < 2 ^ 15 → IsDescriptorKey core dbr seg key → KeyAt core dbrs (2 ^ 15 * k + seg) key
numbered core dbrs k seg key dbr process small h =
    let quotient : k ≡ (2 ^ 15 * k + seg) / 2 ^ 15 = omega arith in
    let rest : seg ≡ (2 ^ 15 * k + seg) % 2 ^ 15 = omega arith in
    record {
      dbr = dbr;
      process = ap (slice_get dbrs) (sym quotient) ∙ process;
      is = subst (λ (n : ℕ). IsDescriptorKey core dbr n key) rest h;
    }

pub numbered_odd : (core : List ℕ) (dbrs : List DbrFields) (k seg key : ℕ) (dbr : DbrFields) (process : slice_get dbrs k ≡ Some dbr) (small : seg < 2 ^ 15) (h : IsDescriptorKey core dbr seg key) → (j : KeyAt core dbrs (2 ^ 15 * k + seg) key) → j.is.odd ≡ h.odd
numbered_odd core dbrs k seg key dbr process small h j =
    let quotient : (2 ^ 15 * k + seg) / 2 ^ 15 ≡ k = omega arith in
    let rest : (2 ^ 15 * k + seg) % 2 ^ 15 ≡ seg = omega arith in
    let at : slice_get dbrs k ≡ Some j.dbr = ap (slice_get dbrs) (sym quotient) ∙ j.process in
    let one : j.dbr ≡ dbr = cc in
    let place : sdw_place core dbr seg ≡ Ok j.is.at = (λ i. sdw_place core (sym one i) (sym rest i)) ∙ j.is.found in
    let same : j.is.at ≡ h.at = same_at core dbr seg j.is.at h.at place h.found in
    same_some j.is.odd h.odd _ _ j.is.odd_is h.odd_is (ap (λ (n : ℕ). slice_get core (wrapped_address (n + 1))) same)

-- a live segment of a process
pub record LiveOf (core : List ℕ) (dbrs : List DbrFields) (k seg : ℕ) (dbr : DbrFields) : Type 0 where
  pub process : slice_get dbrs k ≡ Some dbr
  pub small : seg < 2 ^ 15
  pub key : ℕ
  pub is : IsDescriptorKey core dbr seg key

pub live_of : (core : List ℕ) (dbrs : List DbrFields) (k seg : ℕ) (dbr : DbrFields) (d : SdwFields) → slice_get dbrs k ≡ Some dbr → core_sdw core dbr seg ≡ Ok d → LiveOf core dbrs k seg dbr
live_of core dbrs k seg dbr d process live =
    let has = live_key core dbr seg d live in
    record { process = process; small = few_segments dbr seg (live_in_bounds core dbr seg d live); key = has.key; is = has.is }

module _ (core : List ℕ) (dbrs : List DbrFields) (firsts : List ℕ) (equal_descriptors : AreFirstEquals core dbrs (2 ^ 15 * length dbrs) firsts) where
  module _ (k seg : ℕ) (dbr : DbrFields) (live : LiveOf core dbrs k seg dbr) (few : k < length dbrs) where
    pub at_number : KeyAt core dbrs (2 ^ 15 * k + seg) live.key
    at_number = numbered core dbrs k seg live.key dbr live.process live.small live.is

    pub number_small : 2 ^ 15 * k + seg < 2 ^ 15 * length dbrs
    number_small = let small = live.small in omega arith

    pub odd_small : live.is.odd < 2 ^ 36
    odd_small =
        let lt = equal_descriptors.small (2 ^ 15 * k + seg) live.key number_small at_number in
        let e = numbered_odd core dbrs k seg live.key dbr live.process live.small live.is at_number in
        omega arith

  module _ (k l seg other_seg : ℕ) (dbr other : DbrFields) (live : LiveOf core dbrs k seg dbr) (other_live : LiveOf core dbrs l other_seg other) (few : k < length dbrs) (few_too : l < length dbrs) where
    -- equal words have the same number
    pub same_firsts : AreSame core dbr other seg other_seg → slice_index firsts (2 ^ 15 * k + seg) ≡ slice_index firsts (2 ^ 15 * l + other_seg)
    same_firsts s =
        let w = words_same core dbr other seg other_seg live.key other_live.key s live.is other_live.is in
        let evens = w.evens in
        let odds = w.odds in
        let is = live.is.key_is in
        let is_too = other_live.is.key_is in
        let one : other_live.key ≡ live.key = omega arith in
        equal_descriptors.same (2 ^ 15 * k + seg) (2 ^ 15 * l + other_seg) live.key (number_small k seg dbr live few) (number_small l other_seg other other_live few_too) (at_number k seg dbr live few) (subst (KeyAt core dbrs (2 ^ 15 * l + other_seg)) one (at_number l other_seg other other_live few_too))

    -- the same number means equal words
    pub same_words : slice_index firsts (2 ^ 15 * k + seg) ≡ slice_index firsts (2 ^ 15 * l + other_seg) → SameWords live.is.even live.is.odd other_live.is.even other_live.is.odd
    same_words e =
        let one = equal_descriptors.each (2 ^ 15 * k + seg) live.key (number_small k seg dbr live few) (at_number k seg dbr live few) in
        let two = equal_descriptors.each (2 ^ 15 * l + other_seg) other_live.key (number_small l other_seg other other_live few_too) (at_number l other_seg other other_live few_too) in
        let keys : live.key ≡ other_live.key = keys_same core dbrs (slice_index firsts (2 ^ 15 * k + seg)) live.key other_live.key one (subst (λ (n : ℕ). KeyAt core dbrs n other_live.key) (sym e) two) in
        let is = live.is.key_is in
        let is_too = other_live.is.key_is in
        let small = odd_small k seg dbr live few in
        let small_too = odd_small l other_seg other other_live few_too in
        record { evens = omega arith; odds = omega arith }

    pub firsts_same : slice_index firsts (2 ^ 15 * k + seg) ≡ slice_index firsts (2 ^ 15 * l + other_seg) → AreSame core dbr other seg other_seg
    firsts_same e =
        let w = same_words e in
        record {
          at = live.is.at;
          other_at = other_live.is.at;
          found = live.is.found;
          other_found = other_live.is.found;
          even = live.is.even_is ∙ ap (λ (n : ℕ). Some n) w.evens ∙ sym other_live.is.even_is;
          odd = live.is.odd_is ∙ ap (λ (n : ℕ). Some n) w.odds ∙ sym other_live.is.odd_is;
        }

  -- the first descriptor with the words of a live segment
  pub record FirstOf (k seg : ℕ) (dbr : DbrFields) : Type 0 where
    pub dbr_first : DbrFields
    pub process : slice_get dbrs (slice_index firsts (2 ^ 15 * k + seg) / 2 ^ 15) ≡ Some dbr_first
    pub below : slice_index firsts (2 ^ 15 * k + seg) < 2 ^ 15 * length dbrs
    pub first : slice_index firsts (slice_index firsts (2 ^ 15 * k + seg)) ≡ slice_index firsts (2 ^ 15 * k + seg)
    pub sdw : core_sdw core dbr_first (slice_index firsts (2 ^ 15 * k + seg) % 2 ^ 15) ≡ core_sdw core dbr seg

  pub first_of : (k seg : ℕ) (dbr : DbrFields) → LiveOf core dbrs k seg dbr → k < length dbrs → FirstOf k seg dbr
  first_of k seg dbr live few =
      let here = at_number k seg dbr live few in
      let small = number_small k seg dbr live few in
      let at = equal_descriptors.each (2 ^ 15 * k + seg) live.key small here in
      let below = equal_descriptors.before (2 ^ 15 * k + seg) live.key small here in
      let is = live.is.key_is in
      let is_too = at.is.key_is in
      let odd = odd_small k seg dbr live few in
      let odd_too = equal_descriptors.small (slice_index firsts (2 ^ 15 * k + seg)) live.key below at in
      let evens : at.is.even ≡ live.is.even = omega arith in
      let odds : at.is.odd ≡ live.is.odd = omega arith in
      record {
        dbr_first = at.dbr;
        process = at.process;
        below = below;
        first = sym (equal_descriptors.same (2 ^ 15 * k + seg) (slice_index firsts (2 ^ 15 * k + seg)) live.key small below here at);
        sdw = key_sdw core at.dbr (slice_index firsts (2 ^ 15 * k + seg) % 2 ^ 15) live.key at.is ∙ (λ i. sdw_words (Some (evens i)) (Some (odds i))) ∙ sym (key_sdw core dbr seg live.key live.is);
      }
