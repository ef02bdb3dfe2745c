-- Values that are written over a range of slots which all hold values.
use Rattle.std.proofs.Common.{ℕ, zero, suc, get_or, ◌+◌, ◌-◌, ◌≡◌, ◌<◌, ◌≤◌, List, [], ◌∷◌, ◌++◌, length, take, drop, map, sym, ap, refl, ◌∙◌, arith, length-append, length-drop, set, replicate, Option, Some, None}
use Rattle.std.proofs.Math.Seq.{take-length}
use Rattle.std.proofs.lemmas.List.{append-nil, drop-drop, drop_all, length-take-le, length-map, take_more, take_more_set, take_all}
use Rattle.std.proofs.lemmas.Grind.{replicate_next}
use Rattle.m36_core.specs.Places.{slot_values, overwritten, IsFilled}

module _ {X : Type 0} where
  pub slot_values-map : (xs : List X) → slot_values (map Some xs) ≡ xs
  slot_values-map [] = refl
  slot_values-map (x ∷ xs) = ap (λ l. x ∷ l) (slot_values-map xs)

  map-append : (xs ys : List X) → map Some (xs ++ ys) ≡ map Some xs ++ map Some ys
  map-append [] ys = refl
  map-append (x ∷ xs) ys = ap (λ l. Some x ∷ l) (map-append xs ys)

  map-take : (n : ℕ) (xs : List X) → map Some (take n xs) ≡ take n (map Some xs)
  map-take zero xs = refl
  map-take (suc n) [] = refl
  map-take (suc n) (x ∷ xs) = ap (λ l. Some x ∷ l) (map-take n xs)

  map-drop : (n : ℕ) (xs : List X) → map Some (drop n xs) ≡ drop n (map Some xs)
  map-drop zero xs = refl
  map-drop (suc n) [] = refl
  map-drop (suc n) (x ∷ xs) = map-drop n xs

  -- the list with a range of its values replaced by a list of the same length
  abbrev pub around : List X → ℕ → List X → List X
  around xs from ws = take from xs ++ (ws ++ drop (from + length ws) xs)

  length-around : (xs ws : List X) (from : ℕ) → from + length ws ≤ length xs → length (around xs from ws) ≡ length xs
  length-around xs ws from inside =
      let whole : length (around xs from ws) ≡ length (take from xs) + length (ws ++ drop (from + length ws) xs) = length-append (take from xs) (ws ++ drop (from + length ws) xs) in
      let rest : length (ws ++ drop (from + length ws) xs) ≡ length ws + length (drop (from + length ws) xs) = length-append ws (drop (from + length ws) xs) in
      let front : length (take from xs) ≡ from = length-take-le from xs (omega arith) in
      let back : length (drop (from + length ws) xs) ≡ length xs - (from + length ws) = length-drop (from + length ws) xs in
      omega arith

  pub over-around : (xs ws : List X) (from : ℕ) → from + length ws ≤ length xs → overwritten xs from ws ≡ around xs from ws
  over-around xs ws from inside =
      let past : drop (length ws) (drop from xs) ≡ drop (from + length ws) xs = drop-drop (length ws) from xs in
      let all = around xs from ws in
      let size : length all ≡ length xs = length-around xs ws from inside in
      let none = drop_all (length all) xs (omega arith) in
      ap (λ (rest : List X). let ys = take from xs ++ (ws ++ rest) in take (length xs) (ys ++ drop (length ys) xs)) past
      ∙ ap (λ (ys : List X). take (length xs) (all ++ ys)) none ∙ ap (take (length xs)) (append-nil all) ∙ ap (λ (n : ℕ). take n all) (sym size) ∙ take-length all

  pub spliced_whole : (cs : List (Option X)) (xs ws : List X) (from len : ℕ) → cs ≡ map Some xs → length ws ≡ len → from + len ≤ length cs
      → take from cs ++ (map Some ws ++ drop (from + len) cs) ≡ map Some (overwritten xs from ws)
  spliced_whole cs xs ws from len e l inside =
      let room : from + length ws ≤ length xs = omega (arith, l, ap length e, length-map xs Some) in
      ap (λ (ds : List (Option X)). take from ds ++ (map Some ws ++ drop (from + len) ds)) e
      ∙ ap (λ (k : ℕ). take from (map Some xs) ++ (map Some ws ++ drop (from + k) (map Some xs))) (sym l)
      ∙ sym (ap (map Some) (over-around xs ws from room) ∙ map-append (take from xs) (ws ++ drop (from + length ws) xs)
      ∙ ap (λ (ys : List (Option X)). ys ++ map Some (ws ++ drop (from + length ws) xs)) (map-take from xs)
      ∙ ap (λ (ys : List (Option X)). take from (map Some xs) ++ ys) (map-append ws (drop (from + length ws) xs) ∙ ap (λ (ys : List (Option X)). map Some ws ++ ys) (map-drop (from + length ws) xs)))

  pub run_whole : (cs : List (Option X)) (xs : List X) (from len : ℕ) → cs ≡ map Some xs → take len (drop from cs) ≡ map Some (take len (drop from xs))
  run_whole cs xs from len e = ap (λ (ds : List (Option X)). take len (drop from ds)) e ∙ ap (take len) (sym (map-drop from xs)) ∙ sym (map-take len (drop from xs))

  at_place : (xs : List X) (i : ℕ) → i < length xs → IsFilled (map Some xs) i
  at_place [] i h = absurd (omega arith)
  at_place (x ∷ xs) zero h = (x, refl)
  at_place (x ∷ xs) (suc i) h = at_place xs i (omega arith)

  pub filled_of : (cs : List (Option X)) (xs : List X) (i : ℕ) → cs ≡ map Some xs → i < length cs → IsFilled cs i
  filled_of cs xs i e h =
      let held = at_place xs i (omega (arith, ap length e, length-map xs Some)) in
      (held.0, ap (λ (ds : List (Option X)). get_or ds i None) e ∙ held.1)

  -- writing a value into one slot
  set_map : (xs : List X) (i : ℕ) (y : X) → set (map Some xs) i (Some y) ≡ map Some (set xs i y)
  set_map [] i y = refl
  set_map (x ∷ xs) zero y = refl
  set_map (x ∷ xs) (suc i) y = ap (λ l. Some x ∷ l) (set_map xs i y)

  pub set_whole : (cs : List (Option X)) (xs : List X) (i : ℕ) (y : X) → cs ≡ map Some xs → set cs i (Some y) ≡ map Some (set xs i y)
  set_whole cs xs i y e = ap (λ (ds : List (Option X)). set ds i (Some y)) e ∙ set_map xs i y

  -- filling the next slot, after the slots before it were filled from a list
  push_map : (xs : List X) (y : X) → map Some xs ++ Some y ∷ [] ≡ map Some (xs ++ y ∷ [])
  push_map xs y = sym (map-append xs (y ∷ []))

  pub filled_more : (cs : List (Option X)) (xs : List X) (i : ℕ) (y : X) → i < length cs → take i cs ≡ map Some xs → take (i + 1) (set cs i (Some y)) ≡ map Some (xs ++ y ∷ [])
  filled_more cs xs i y h e = take_more_set cs i (Some y) h ∙ ap (λ (l : List (Option X)). l ++ Some y ∷ []) e ∙ push_map xs y

  pub zero_more : (cs : List (Option X)) (i : ℕ) (y : X) → i < length cs → take i cs ≡ map Some (replicate i y) → take (i + 1) (set cs i (Some y)) ≡ map Some (replicate (i + 1) y)
  zero_more cs i y h e = filled_more cs (replicate i y) i y h e ∙ ap (map Some) (sym (replicate_next i y))

  pub copied_more : (cs : List (Option X)) (xs : List X) (i : ℕ) (y d : X) → i < length cs → i < length xs → y ≡ get_or xs i d → take i cs ≡ map Some (take i xs) → take (i + 1) (set cs i (Some y)) ≡ map Some (take (i + 1) xs)
  copied_more cs xs i y d h k at e = filled_more cs (take i xs) i y h e ∙ ap (map Some) (ap (λ (z : X). take i xs ++ z ∷ []) at ∙ sym (take_more xs i d k))

  -- all slots are filled
  pub all_filled : (cs ds : List (Option X)) (i : ℕ) → length cs ≤ i → take i cs ≡ ds → cs ≡ ds
  all_filled cs ds i h e = sym (take_all i cs h) ∙ e

  pub length-slot_values : (cs : List (Option X)) → cs ≡ map Some (slot_values cs) → length (slot_values cs) ≡ length cs
  length-slot_values cs e = sym (length-map (slot_values cs) Some) ∙ sym (ap length e)

  pub whole_map : (cs : List (Option X)) (xs : List X) → cs ≡ map Some xs → cs ≡ map Some (slot_values cs)
  whole_map cs xs e = e ∙ sym (ap (λ (ds : List (Option X)). map Some (slot_values ds)) e ∙ ap (map Some) (slot_values-map xs))

  pub length-overwritten : (xs ws : List X) (from : ℕ) → length (overwritten xs from ws) ≡ length xs
  length-overwritten xs ws from =
      let all = take from xs ++ (ws ++ drop (length ws) (drop from xs)) in
      let enough : length xs ≤ length (all ++ drop (length all) xs) = omega (arith, length-append all (drop (length all) xs), length-drop (length all) xs) in
      length-take-le (length xs) (all ++ drop (length all) xs) enough
