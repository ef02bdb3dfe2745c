-- The place of a word: what it consists of.
use Rattle.std.proofs.Common.{◌≡◌, refl, ◌∙◌, ap}
use Rattle.std.specs.Prelude.{ℕ, ◌<◌, Bool, true, false, ◌&&◌, List, length, nat_lt, Some, Result, Ok, Err}
use Rattle.std.proofs.lemmas.Bool.{ltb-true}
use Rattle.m36_desc.specs.Fields.{SdwFields, DbrFields}
use Rattle.m36_desc.specs.Access.{has_ordered_brackets}
use Rattle.m36_model.specs.Store.{Spot, Core_word, Store, is_within_bound, is_placed, place, place_by, when_ordered, place_within}
use Rattle.m36_model.specs.Place.{core_spot, spot_in_core, spot_in_core_by}
use Rattle.m36_model.specs.Sight.{content_in, word_if_placed}
use Rattle.m36_model.specs.declared.outcome.Refusal.{Refusal}

place_joined : (a b : Bool) (spot : Result Spot Refusal) → (a && b) ≡ true → when_ordered a (place_within b spot) ≡ spot
place_joined true true spot h = refl
place_joined true false spot h = cc
place_joined false b spot h = cc

-- a word of a live segment to which the descriptor gives a spot
pub record IsPlaced {S : Type 0} (o : Store S) (s : S) (dbr : DbrFields) (seg w : ℕ) (p : Spot) : Type 0 where
  pub sdw : SdwFields
  pub live : o.sdw s dbr seg ≡ Ok sdw
  pub inside : is_placed sdw w ≡ true
  pub found : o.spot s dbr sdw seg w ≡ Ok p

pub place_is : {S : Type 0} (o : Store S) (s : S) (dbr : DbrFields) (seg w : ℕ) (p : Spot) → IsPlaced o s dbr seg w p → place o s dbr seg w ≡ Ok p
unfolding place
place_is o s dbr seg w p h =
    ap (λ (v : Result SdwFields Refusal). place_by v (λ d. o.spot s dbr d seg w) w) h.live ∙ place_joined (has_ordered_brackets h.sdw) (is_within_bound h.sdw w) (o.spot s dbr h.sdw seg w) h.inside ∙ h.found

placed_parts : (a b : Bool) (spot : Result Spot Refusal) (p : Spot) → when_ordered a (place_within b spot) ≡ Ok p → ((a && b) ≡ true) × (spot ≡ Ok p)
placed_parts true true spot p h = (refl, h)
placed_parts true false spot p h = cc
placed_parts false b spot p h = cc

place_taken : {S : Type 0} (o : Store S) (s : S) (dbr : DbrFields) (seg w : ℕ) (p : Spot) (v : Result SdwFields Refusal) → o.sdw s dbr seg ≡ v → place_by v (λ d. o.spot s dbr d seg w) w ≡ Ok p → IsPlaced o s dbr seg w p
place_taken o s dbr seg w p (Err e) live h = cc
place_taken o s dbr seg w p (Ok d) live h =
    let k = placed_parts (has_ordered_brackets d) (is_within_bound d w) (o.spot s dbr d seg w) p h in
    record { sdw = d; live = live; inside = k.0; found = k.1 }

pub place_parts : {S : Type 0} (o : Store S) (s : S) (dbr : DbrFields) (seg w : ℕ) (p : Spot) → place o s dbr seg w ≡ Ok p → IsPlaced o s dbr seg w p
unfolding place
place_parts o s dbr seg w p h = place_taken o s dbr seg w p (o.sdw s dbr seg) refl h

-- the content of a word with a spot is the word at this spot
pub content_placed : {S : Type 0} (o : Store S) (s : S) (dbr : DbrFields) (seg w : ℕ) (p : Spot) → IsPlaced o s dbr seg w p → content_in o s dbr seg w ≡ Some (o.word s p)
unfolding content_in
content_placed o s dbr seg w p h = ap (word_if_placed o s) (place_is o s dbr seg w p h)

-- the spot of a word in core is an address inside core
pub record IsInside (core : List ℕ) (p : Spot) : Type 0 where
  pub address : ℕ
  pub spot : p ≡ Core_word address
  pub inside : address < length core

inside_by : (core : List ℕ) (a : ℕ) (b : Bool) → nat_lt a (length core) ≡ b → (p : Spot) → spot_in_core_by b a ≡ Ok p → IsInside core p
inside_by core a true e p h =
    let same : p ≡ Core_word a = cc in
    record { address = a; spot = same; inside = ltb-true a (length core) e }
inside_by core a false e p h = cc

inside_of : (core : List ℕ) (v : Result ℕ Refusal) (p : Spot) → spot_in_core (length core) v ≡ Ok p → IsInside core p
inside_of core (Ok a) p h = inside_by core a (nat_lt a (length core)) refl p h
inside_of core (Err e) p h = cc

pub core_spot_inside : (core : List ℕ) (dbr : DbrFields) (d : SdwFields) (seg w : ℕ) (p : Spot) → core_spot core dbr d seg w ≡ Ok p → IsInside core p
unfolding core_spot
core_spot_inside core dbr d seg w p h = inside_of core _ p h
